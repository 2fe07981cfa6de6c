use Rattle.std.specs.Prelude.{sum}
use Rattle.std.proofs.Common.{rules}
use Rattle.std.proofs.iter.runs.Sources.{sums}
use Rattle.std.proofs.lemmas.List.Sums.{sum_by_more}
use Rattle.appending.specs.Laying.{lens_total}
use Prim.Native.Nat.{ℕ, zero, suc, ◌+◌, ◌*◌, ◌≤◌, ◌<◌}
use mathlib.Core.List.{List}
use lib.ListN.{length, get_or, take}
use Rattle.bounds.specs.Bounds.{byte_limit, byte-limit-is, block-limit-small}
use mathlib.Core.Path.{◌≡◌, refl, ap, ◌∙◌}
use native.Mathlib.Omega.{arith}
use native.Mathlib.Numerals.{add-one}
use Rattle.appending.proofs.total.Goals as goal

summed : (ns : List ℕ) (n : ℕ) → n ≤ length ns → sum (take n ns) ≡ lens_total ns n
unfolding lens_total
summed ns zero h = refl
summed ns (suc n) h = rw (← add-one n) (sum_by_more (λ x. x) ns n 0 (omega arith) ∙ ap (λ t. t + get_or ns n 0) (summed ns n (omega arith)))

most : (ns : List ℕ) (n : ℕ) → ((k : ℕ) → k < n → get_or ns k 0 ≤ byte_limit) → lens_total ns n ≤ 16777216 * n
unfolding lens_total
most ns zero h = omega arith
most ns (suc n) h = let t = most ns n (λ k l. h k (omega arith)) in let m = h n (omega arith) in omega (arith, t, m, byte-limit-is)

pub sum-requires-clause-fits : goal.sum-requires-clause-fits
sum-requires-clause-fits c =
    let a = c.args in
    let e = summed a.lens.now a.n c.requires.0 in
    let m = most a.lens.now a.n c.requires.2 in
    let h : sum (take a.n a.lens.now) < 18446744073709551616 = omega (arith, e, m, c.requires.1, block-limit-small) in
    search (rules, sums, h)

pub returns : goal.returns
returns c =
    let a = c.args in
    let e = summed a.lens.now a.n c.requires.0 in
    let m = most a.lens.now a.n c.requires.2 in
    let s : c.sum.result ≡ sum (take a.n a.lens.now) = search (rules, sums) in
    rw s (e, omega (arith, e, m))
