use Rattle.builder.specs.RoomLaws.{all-bounds, fits-over-rows, fits-over-blocks, fits-over-bytes, fits_last}
use Rattle.bounds.specs.Bounds.{block-limit-small}
use native.Mathlib.Omega.{arith}
use Rattle.builder.proofs.state_fits.Goals as goal

pub all_blocks-requires : goal.all_blocks-requires
all_blocks-requires c = omega (arith, block-limit-small, all-bounds c.args.s)

pub returns-then-s-bytes-2 : goal.returns-then-s-bytes-2
returns-then-s-bytes-2 c = let a = c.args in grind (arith, fits_last a.s a.rows a.blocks a.bytes)

pub returns-else-s-bytes-2 : goal.returns-else-s-bytes-2
returns-else-s-bytes-2 c = let a = c.args in let b = all-bounds a.s in grind (arith, fits-over-rows a.s a.rows a.blocks a.bytes, fits-over-blocks a.s a.rows a.blocks a.bytes, fits-over-bytes a.s a.rows a.blocks a.bytes, b)
