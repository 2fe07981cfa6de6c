-- `builder_exports::tambuyeel_append_column` meets its contract. Assumes nothing.
use Rattle.numbers.specs.declared.Told.{Told}
use Rattle.numbers.specs.Laws.{told-number}
use mathlib.Core.Path.{ap, ◌∙◌}
use Rattle.builder_exports.proofs.NumberLaws.{exported, told-left}
use borrow.Author.Rules.{rules}
use Rattle.builder_exports.proofs.tambuyeel_append_column.Goals as goal

pub returns : goal.returns
returns c =
    let d = rw c.column_of.ensures at c.append_column-a.ensures in (
      exported _ _ _ _ _ _ _ _ _ _ _ _ _ _ _ _ _ c.state_of-s.ensures d _
          _ (ap (λ (t : Told). t.number) c.told_why.ensures ∙ told-number c.append_column-a.result.why) c.leave.ensures,
      told-left
          _ _ _ _ _ _ _ _ _ _ _ _ _ _ _ _ _ c.state_of-s.ensures d _ c.told_why.ensures,
    )
