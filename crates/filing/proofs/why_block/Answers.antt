use Rattle.bounds.specs.Bounds.{byte-limit-is, block-limit-small, byte-limit-small}
use Rattle.filing.specs.LayLaws.{block_fit, block-long, block_room_lem, fits-small}
use mathlib.Core.Path.{sym, ◌∙◌}
use native.Mathlib.Omega.{arith}
use Rattle.filing.proofs.why_block.Goals as goal

pub returns-then-not-fits_with : goal.returns-then-not-fits_with
returns-then-not-fits_with c = block_fit _ _ _ _ _ _ _ (sym c.fits_with.ensures ∙ c.if-not-fits_with.true)

pub returns-then-n-gt-BYTE_LIMIT : goal.returns-then-n-gt-BYTE_LIMIT
returns-then-n-gt-BYTE_LIMIT c = block-long _ _ _ _ _ _ _ (sym c.fits_with.ensures ∙ c.if-not-fits_with.false) (omega (arith, byte-limit-is))

pub why_room-requires : goal.why_room-requires
why_room-requires c = let f = fits-small _ _ _ _ _ _ c.args.n
    (sym c.fits_with.ensures ∙ c.if-not-fits_with.false) in
    (omega (arith, f.0, block-limit-small), omega (arith, f.1, byte-limit-small))

pub returns : goal.returns
returns c = block_room_lem _ _ _ _ _ _ _ (sym c.fits_with.ensures
    ∙ c.if-not-fits_with.false) (omega (arith, byte-limit-is)) _ _ _ c.blocks_room.ensures
    c.bytes_room.ensures c.why_room.ensures
