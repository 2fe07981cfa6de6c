use Rattle.std.specs.Prelude.{List, ℕ}
use Rattle.std.proofs.Common.{rules, sym, ap, ◌∙◌}
use Rattle.builder.specs.State.{Builder, held}
use Rattle.shelf.specs.Adding.{added_all}
use Rattle.shelf.specs.Lines.{lines}
use Rattle.shelf.proofs.AddLaws.{added_next, added-end}
use Rattle.shelf.proofs.add_lines.Goals as goal

pub loop-line-init : goal.loop-line-init
loop-line-init c = rw c.into_iter-line-iterator.ensures.into_iter_gives

pub loop-line-preserved : goal.loop-line-preserved
loop-line-preserved c =
    let b : Builder = held c.loop-line.s c.loop-line.views c.loop-line.bytes c.loop-line.starts c.loop-line.lens c.loop-line.nulls c.loop-line.places in
    let d : Builder = held c.turn-s.result c.turn-s.new.views c.turn-s.new.bytes c.turn-s.new.starts c.turn-s.new.lens c.turn-s.new.nulls c.turn-s.new.places in
    ap (added_all (lines c.next.new.self.rest.now)) {x = d} c.turn-s.ensures
    ∙ (sym (added_next _ _ b) ∙ (ap (λ (z : List (List ℕ)). added_all z b) (sym c.in-Some.ensures.steps) ∙ c.loop-line.invariant))

pub returns : goal.returns
returns c =
    let b : Builder = held c.loop-line.s c.loop-line.views c.loop-line.bytes c.loop-line.starts c.loop-line.lens c.loop-line.nulls c.loop-line.places in
    sym (added-end b) ∙ (ap (λ (z : List (List ℕ)). added_all z b) (sym c.in-None.ensures.steps.0) ∙ c.loop-line.invariant)
