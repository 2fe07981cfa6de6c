use Rattle.null_bits.specs.Bits.{bit_at, is_valid}
use mathlib.Core.Path.{refl}
use Rattle.null_bits.proofs.is_valid.Goals as goal

pub returns : goal.returns
unfolding is_valid bit_at
returns c = refl
