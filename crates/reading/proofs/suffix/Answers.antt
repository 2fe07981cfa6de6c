-- `reading::suffix` meets its contract. Assumes nothing.
use mathlib.Core.Path.{refl}
use Rattle.std.proofs.Common.{ap, sym, zero-add, ℕ}
use native.Mathlib.Omega.{arith}
use Rattle.reading.proofs.ReadingLaws.{suffix-no, suffix-yes, starts-after, skip-none, skip-some}
use Rattle.reading.specs.Reading.{suffix_at}
use Rattle.reading.proofs.suffix.Goals as goal

pub returns-then-v-n : goal.returns-then-v-n
unfolding suffix_at
returns-then-v-n c = (
  rw (← c.value-v.ensures.0) (suffix-no _ _ (omega arith)),
  starts-after _ _ _ c.value-v.ensures.1 _ 0 _ (ap (λ (k : ℕ). (c.value-v.result.ref_ptr.0, k)) (sym (zero-add c.value-v.result.ref_ptr.1)))
      (rw (← c.value-v.ensures.0) (skip-none _ _ (omega arith))),
)

pub returns-else-v-n : goal.returns-else-v-n
unfolding suffix_at
returns-else-v-n c = (
  rw (← c.value-v.ensures.0) (suffix-yes _ _ (omega arith)),
  starts-after _ _ _ c.value-v.ensures.1 _
      _ _ refl (rw (← c.value-v.ensures.0) (skip-some _ _ (omega arith))),
)
