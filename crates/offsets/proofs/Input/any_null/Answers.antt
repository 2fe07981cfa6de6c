use Rattle.std.proofs.Common.{ℕ, not, eqb, sym, ap, ◌∙◌}
use Rattle.offsets.specs.OffsetLaws.{null-some}
use Rattle.offsets.proofs.Input.any_null.Goals as goal

pub returns : goal.returns
returns c = let s = c.args.self in ap (λ (n : ℕ). not (eqb n 0)) c.count_nulls.ensures ∙ sym (null-some s.nulls.now s.mapped c.args.rows)
