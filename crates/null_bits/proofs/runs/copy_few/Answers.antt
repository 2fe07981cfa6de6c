use Rattle.null_bits.specs.Runs.{put_bits}
use native.Mathlib.Numerals.{add-one}
use mathlib.Core.Path.{refl, ◌∙◌}
use Rattle.null_bits.proofs.runs.copy_few.Goals as goal

pub loop-k-init : goal.loop-k-init
unfolding put_bits
loop-k-init c = refl

pub loop-k-preserved : goal.loop-k-preserved
unfolding put_bits
loop-k-preserved c = rw (add-one c.loop-k.k) (c.put_bit.ensures ∙ rw (c.loop-k.invariant, c.is_valid.ensures))
