-- `blocks::next` meets its contract. Assumes nothing.
use Rattle.std.proofs.Common.{◌∙◌, ap, ℕ}
use Rattle.blocks.specs.declared.Walk.{Walk}
use Rattle.blocks.proofs.WalkLaws.{walk-value, walk-why, walk-place}
use Rattle.blocks.proofs.next.Goals as goal

pub returns : goal.returns
returns c =
    let w = c.args.w in (
      (c.value-value.ensures.0 ∙ walk-value _ _ _, c.value-value.ensures.1),
      (
        c.why_value-why.ensures ∙ walk-why _ _ _,
        ap {A = ℕ} {B = Walk} (λ n. record { views = w.views; bytes = w.bytes; table = w.table; nulls = w.nulls; column = w.column; at = n })
            (walk-place _ _ _ _ _ c.why_value-why.ensures c.next_place-at.ensures),
      ),
    )
