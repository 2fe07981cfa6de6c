-- `Growth::fits` meets its contract. Assumes nothing.
use mathlib.Core.Path.{sym, ap, ◌∙◌}
use lib.Dec.{leb}
use native.Mathlib.Omega.{arith}
use Rattle.bounds.specs.Bounds.{byte-limit-is}
use Rattle.growth.specs.GrowthLaws.{fixed_zero, fixed-is, doubling-is, size-some}
use Rattle.growth.proofs.Growth.fits.Goals as goal

pub returns-then-n-lt1 : goal.returns-then-n-lt1
returns-then-n-lt1 c = sym (fixed_zero _ _ c.in-Fixed.is (omega arith))

pub returns-else-n-lt1 : goal.returns-else-n-lt1
returns-else-n-lt1 c = ap (leb _) byte-limit-is ∙ sym (fixed-is _ _ c.in-Fixed.is (omega arith))

pub returns-in-Doubling : goal.returns-in-Doubling
returns-in-Doubling c = size-some _ _ c.next_size.ensures ∙ sym (doubling-is _ _ c.in-Doubling.is)
