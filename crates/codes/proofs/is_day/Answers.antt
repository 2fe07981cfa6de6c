-- `codes::is_day` meets its contract. Assumes nothing.
use Rattle.std.proofs.Common.{ℕ, take, ap, ◌∙◌, ne_eqb}
use Rattle.std.proofs.Math.Seq.{take-length}
use Rattle.codes.specs.Recogniser.{is_day}
use Rattle.codes.proofs.Laws.{day-not}
use Rattle.codes.proofs.is_day.Goals as goal

pub returns-then-d-s : goal.returns-then-d-s
returns-then-d-s c = c.begins_with_day.ensures ∙ (ap (λ (n : ℕ). is_day (take n c.args.s.now)) c.if-d-s.true ∙ ap is_day (take-length c.args.s.now))

pub returns-else-d-s : goal.returns-else-d-s
returns-else-d-s c = ne_eqb _ _ c.if-d-s.false ∙ day-not c.args.s.now (λ e. c.if-d-s.false (c.leading-d.ensures.0 ∙ e))
