use Rattle.builder.specs.Start.{empty_state}
use Rattle.growth.specs.declared.Growth.{Growth}
use Rattle.finishing.specs.EndLaws.{start-no, start-yes}
use mathlib.Core.Path.{sym, ap, ◌∙◌}
use Rattle.finishing.proofs.start.Goals as goal
use Rattle.finishing.proofs.start.Goals.{then-not-lawful_sizes-via-then-not-lawful_sizes, then-not-lawful_sizes-via-else-not-lawful_sizes+then-not-lawful_merging}

pub returns-then-not-lawful_sizes : goal.returns-then-not-lawful_sizes
returns-then-not-lawful_sizes c =
    start-no _ _ _
    (elim c.then-not-lawful_sizes.branch [
      | then-not-lawful_sizes-via-then-not-lawful_sizes w ↦ rw (sym c.lawful_sizes.ensures ∙ w.if-not-lawful_sizes.true)
      | then-not-lawful_sizes-via-else-not-lawful_sizes+then-not-lawful_merging w ↦
          rw (sym c.lawful_sizes.ensures ∙ w.if-not-lawful_sizes.false, sym w.lawful_merging.ensures ∙ w.if-not-lawful_merging.true)
    ]) c.empty_state.ensures

pub returns : goal.returns
returns c =
    let a = c.args in
    start-yes _ _ _ _
    (rw (sym c.lawful_sizes.ensures ∙ c.if-not-lawful_sizes.false, sym c.lawful_merging.ensures ∙ c.if-not-lawful_merging.false))
    (c.empty_state-2.ensures ∙ ap (λ (g : Growth). empty_state a.t.kind g a.t.merging) c.growth_of.ensures) c.clear.ensures
