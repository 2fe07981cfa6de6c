-- The retired number is no refusal's. Assumes nothing.
use Rattle.std.specs.Prelude.{Ok, Err}
use Rattle.std.proofs.Common.{◌≡◌, arith}
use Rattle.bounds.specs.Refusals.{number_of, why_number, retired, Why}
use Rattle.bounds.specs.declared.Refusal.{Refusal}
use Rattle.bounds.specs.declared.Refusal.TheVariants.{Setting, Fit, Row, TooLong, RowRoom, BlockRoom, DataRoom, NoBlock, Range, NotUtf8, BadView, Offsets}

-- no refusal has the retired number; so no verdict has, whose number is 0 or a refusal's
pub none-retired : (r : Refusal) → number_of r ≡ retired → ⊥
none-retired Setting e = omega arith
none-retired Fit e = omega arith
none-retired Row e = omega arith
none-retired TooLong e = omega arith
none-retired RowRoom e = omega arith
none-retired BlockRoom e = omega arith
none-retired DataRoom e = omega arith
none-retired NoBlock e = omega arith
none-retired Range e = omega arith
none-retired NotUtf8 e = omega arith
none-retired (BadView r) e = omega arith
none-retired Offsets e = omega arith

pub never-retired : (w : Why) → why_number w ≡ retired → ⊥
never-retired (Ok _) e = omega arith
never-retired (Err r) e = none-retired r e
