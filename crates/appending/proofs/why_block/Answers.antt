use Rattle.builder.specs.RoomLaws.{fits_gives}
use Rattle.appending.specs.BlockLaws.{block_fit, block-long, block_room_lem}
use Rattle.bounds.specs.Bounds.{byte-limit-is, block-limit-small, byte-limit-small}
use mathlib.Core.Path.{sym, ◌∙◌}
use native.Mathlib.Omega.{arith}
use Rattle.appending.proofs.why_block.Goals as goal

pub returns-then-not-fits_lent : goal.returns-then-not-fits_lent
returns-then-not-fits_lent c = block_fit _ _ _ _ _ _ _ _ (sym c.fits_lent.ensures ∙ c.if-not-fits_lent.true)

pub returns-then-x-gt-BYTE_LIMIT : goal.returns-then-x-gt-BYTE_LIMIT
returns-then-x-gt-BYTE_LIMIT c = block-long _ _ _ _ _ _ _ _ (sym c.fits_lent.ensures ∙ c.if-not-fits_lent.false) (omega (arith, byte-limit-is))

pub why_room-requires : goal.why_room-requires
why_room-requires c =
    let a = c.args in
    let f = fits_gives a.s a.views.now a.bytes.now a.starts.now a.lens.now a.nulls.now a.places.now
    (sym c.fits_lent.ensures ∙ c.if-not-fits_lent.false) in
    (omega (arith, f.blocks, block-limit-small), omega (arith, f.small, byte-limit-small))

pub returns : goal.returns
returns c = block_room_lem _ _ _ _ _ _ _ _ _ _ _ (sym c.fits_lent.ensures
    ∙ c.if-not-fits_lent.false) (omega (arith, byte-limit-is)) c.blocks_room.ensures
    c.bytes_room.ensures c.why_room.ensures
