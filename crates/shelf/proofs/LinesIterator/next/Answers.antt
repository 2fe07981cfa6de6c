use Rattle.std.specs.Prelude.{◌≡◌, ◌≢◌, ◌<◌, ℕ, Bool, true, false, List, [], nat_eq}
use Rattle.std.proofs.Common.{rules, tests, refl, ap, ◌∙◌, arith, length}
use Rattle.std.proofs.lemmas.Iterator.{IsFirst-from_position, YieldsList-from_slice}
use Rattle.shelf.specs.Lines.{lines}
use Rattle.shelf.specs.LineLaws.{line-end}
use Rattle.shelf.proofs.ScanLaws.{part_from, line-off}
use Rattle.shelf.proofs.LinesIterator.next.Goals as goal

some : (n : ℕ) {r : Bool} → r ≡ false → r ≡ nat_eq n 0 → 0 < n
some n e h = search (rules, tests)

no_line : (s : List ℕ) {r : Bool} → r ≡ true → r ≡ nat_eq (length s) 0 → lines s ≡ []
no_line s e h = line-end s 0 (search (rules, tests))

pub returns-then-is_empty-clause-steps : goal.returns-then-is_empty-clause-steps
returns-then-is_empty-clause-steps c = let e = no_line _ c.if-is_empty.true c.is_empty.ensures in (e, e)

pub returns-clause-steps : goal.returns-clause-steps
returns-clause-steps c =
    let s = c.args.self.now.rest.now in
    line-off s _ c.position.result _ (some _ c.if-is_empty.false c.is_empty.ensures)
    (IsFirst-from_position _ _ c.position.result (λ x. x ≡ 10) (λ x. x ≢ 10) c.position.ensures.ran (YieldsList-from_slice _ c.iter.ensures.rest) (λ x q k. search (rules, tests)) (λ x q k. search (rules, tests)))
    c.unwrap_or-end.ensures
    (ap (λ b. b.now) c.unwrap_or-self.ensures ∙ part_from (λ b. b.now) s _ _ _ refl c.get.ensures.lookup)

pub returns-clause-goes : goal.returns-clause-goes
returns-clause-goes c = record { on = λ h. (tt, tt, omega (arith, ap length (returns-clause-steps c))); keeps = tt; rests = λ h. tt }
