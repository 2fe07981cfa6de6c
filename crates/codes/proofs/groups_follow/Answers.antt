-- `codes::groups_follow` meets its contract. Assumes nothing.
use Rattle.std.proofs.Common.{◌≡◌, ℕ, suc, ◌+◌, ◌-◌, sym, ap, ◌∙◌, arith}
use Rattle.std.proofs.lemmas.List.{take_rest}
use Rattle.codes.specs.Recogniser.{groups_follow}
use Rattle.codes.proofs.Laws.{follow-end, follow-last, follow-other, follow-no, follow-on}
use Rattle.codes.proofs.groups_follow.Goals as goal

pub returns-in_default : goal.returns-in_default
returns-in_default c = follow-end (2 - c.loop.counter) _ c.in_default.ensures.cases ∙ c.loop.invariant

pub returns-then-b-ne45 : goal.returns-then-b-ne45
returns-then-b-ne45 c = follow-other _ _ _ c.in-Some.ensures.cases.0 (2 - c.loop.counter) c.if-b-ne45.true ∙ c.loop.invariant

pub returns-then-not-is_group : goal.returns-then-not-is_group
returns-then-not-is_group c =
    follow-no _ _ _ c.in-Some.ensures.cases.0 _ c.leading-d.ensures.0 (2 - c.loop.counter) (sym c.is_group.ensures ∙ c.if-not-is_group.true) ∙ c.loop.invariant

pub loop-preserved : goal.loop-preserved
loop-preserved c =
    let n : ℕ = 2 - (c.loop.counter + 1) in
    let e : suc n ≡ 2 - c.loop.counter = omega arith in
    ap (groups_follow n) (take_rest c.in-Some.digits.now c.leading-d.result)
    ∙ (sym (follow-on _ _ _ c.in-Some.ensures.cases.0 _ c.leading-d.ensures.0 n c.if-b-ne45.false (sym c.is_group.ensures ∙ c.if-not-is_group.false))
    ∙ (ap (λ (m : ℕ). groups_follow m c.loop.rest.now) e ∙ c.loop.invariant))

pub returns : goal.returns
returns c =
    let e : 0 ≡ 2 - c.loop.counter = omega arith in
    c.is_empty.ensures ∙ (follow-last c.loop.rest.now ∙ (ap (λ (m : ℕ). groups_follow m c.loop.rest.now) e ∙ c.loop.invariant))
