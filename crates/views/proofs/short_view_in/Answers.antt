-- `views::short_view_in` meets its contract. Assumes nothing.
use lib.ListN.{take, drop}
use Prim.Native.Nat.{ℕ, ◌+◌, ◌-◌, ◌*◌, ◌%◌, ◌^◌, min}
use mathlib.Core.Path.{sym, ap, ◌∙◌}
use native.Mathlib.Omega.{arith}
use Rattle.words.specs.Words.{Bytes}
use Rattle.words.specs.ListLaws.{bytes-part}
use Rattle.views.proofs.Laws.{two-words}
use Rattle.views.proofs.PartLaws.{part_length, part-front, part-behind}
use Rattle.views.proofs.short_view_in.Goals as goal

pub returns : goal.returns
returns c =
    let a = c.args in
    let all = a.all.now in
    let v = take a.n (drop a.a all) in
    let hb : Bytes all = λ j. (c.type_inv.all j).fits in
    let n = part_length all a.a a.n hb (omega arith) in
    let f = (c.front-f.ensures.0 ∙ ap (λ (z : ℕ). z % 2 ^ (8 * min
    a.n 4)) c.le32.ensures.0) ∙ part-front all a.a a.n hb (omega arith) in
    let m = (c.behind-m.ensures ∙ ap (λ (z : ℕ). z % 2 ^ (8 * (a.n - 4)))
    c.le64.ensures)
    ∙ part-behind all a.a a.n hb (omega arith) (omega arith) in
    cc (two-words a.b.now v a.o _ _ (bytes-part all a.a a.n hb) (omega arith) (omega (arith, n))
    (λ i. sym n i + 4294967296 * f i) m)
