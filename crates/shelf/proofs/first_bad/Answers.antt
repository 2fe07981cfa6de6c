use Rattle.std.specs.Prelude.{◌≡◌, ◌+◌, ℕ}
use Rattle.std.proofs.Common.{rules, tests, arith, refl, sym, ap, ◌∙◌, inl, length, get_or}
use Rattle.std.proofs.lemmas.Iterator.Consumers.{YieldsList-from_first}
use Rattle.std.proofs.lemmas.Iterator.Search.{position_from_yields_List}
use Rattle.shelf.specs.Lines.{lines, says, is_bad_line}
use Rattle.shelf.proofs.BadLaws.{lines_few, bad_in, numbered, bad_place}
use Rattle.shelf.proofs.first_bad.Goals as goal

pub position-requires-clause-fits : goal.position-requires-clause-fits
position-requires-clause-fits c = inl (omega (arith, lines_few c.args.s.now))

pub overflow_add-result : goal.overflow_add-result
overflow_add-result c = let h = rw c.in-Some.is at c.position.ensures.bound in omega (arith, lines_few c.args.s.now, h)

pub returns-in-Some : goal.returns-in-Some
returns-in-Some c =
    let h = position_from_yields_List bad_in c.position.new.self _ c.position.result c.position.ensures.ran (YieldsList-from_first (λ b. b.now) (λ s. lines s.rest.now) {s = record { rest = c.args.s }} (lines c.args.s.now) refl) (λ x b q k. search (rules, tests)) in
    let k : c.in-Some.k + 1 ≡ 0 + c.in-Some.k + 1 = omega arith in
    k ∙ (ap (numbered 0) (sym c.in-Some.is) ∙ bad_place 0 (lines c.args.s.now) c.position.result h)

pub returns-in-None : goal.returns-in-None
returns-in-None c =
    let h = position_from_yields_List bad_in c.position.new.self _ c.position.result c.position.ensures.ran (YieldsList-from_first (λ b. b.now) (λ s. lines s.rest.now) {s = record { rest = c.args.s }} (lines c.args.s.now) refl) (λ x b q k. search (rules, tests)) in
    ap (numbered 0) (sym c.in-None.is) ∙ bad_place 0 (lines c.args.s.now) c.position.result h
