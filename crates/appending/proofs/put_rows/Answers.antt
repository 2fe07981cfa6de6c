use Rattle.views.specs.View.{view_at}
use Rattle.builder.specs.Others.{renumbered}
use lib.Seq.{paste}
use Rattle.appending.specs.ColumnLaws.{from_more}
use Rattle.appending.specs.Laying.{put_from}
use mathlib.Core.List.{List}
use Prim.Native.Nat.{ℕ, ◌+◌, ◌*◌}
use lib.ListN.{length}
use mathlib.Core.Path.{◌≡◌, refl, ap, ◌∙◌}
use native.Mathlib.Omega.{arith}
use borrow.Author.Rules.{rules}
use Rattle.appending.proofs.put_rows.Goals as goal

pub loop-k-init : goal.loop-k-init
unfolding put_from
loop-k-init c = (omega arith, refl, refl)

pub loop-k-preserved : goal.loop-k-preserved
loop-k-preserved c =
    let a = c.args in
    let k = c.loop-k.k in
    let f : ℕ → List ℕ = λ q. renumbered a.before (view_at a.src.now (a.from + q)) in
    let l1 : length c.put_row.new.views ≡ length c.loop-k.views = search rules in (
      omega arith,
      l1 ∙ c.loop-k.invariant.1,
      c.put_row.ensures ∙ ap (λ (l : List ℕ). paste l (16 * (a.to + k)) (f k) 16)
          c.loop-k.invariant.2 ∙ from_more f a.views.now a.to k,
    )
