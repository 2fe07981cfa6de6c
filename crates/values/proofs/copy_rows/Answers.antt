use Rattle.words.specs.ListLaws.{put_two}
use Rattle.builder.specs.TimesLaws.{put_copies, copies-none, copies_length, copies-next}
use Rattle.views.specs.View.{view_at}
use lib.ListN.{length}
use Prim.Native.Nat.{◌+◌, ◌*◌}
use Rattle.views.specs.ViewLaws.{length-view}
use mathlib.Core.Path.{◌≡◌, refl, ap, ◌∙◌}
use native.Mathlib.Omega.{arith}
use Rattle.values.proofs.copy_rows.Goals as goal

pub loop-k-init : goal.loop-k-init
loop-k-init c = (refl, c.le64-lo.ensures, c.le64-hi.ensures, copies-none _ _ _)

pub loop-k-preserved : goal.loop-k-preserved
loop-k-preserved c =
    let a = c.args in
    let p = c.requires in
    let l = c.loop-k in
    let v = view_at a.views.now a.from in
    let two = put_two l.views a.views.now (16 * (a.to + l.k)) (16 * a.from) _ _ (λ j. (c.slice_known-1.given j).fits)
    (omega (arith, p)) (omega (arith, p)) l.invariant.1 l.invariant.2 in
    let step : c.put_words.new.views ≡ put_copies a.views.now a.to v (l.k + 1) =
    (c.put_words.ensures ∙ two) ∙ copies-next a.views.now l.views a.from a.to l.k (omega (arith, p)) l.invariant.3 in (
      ap length step ∙ copies_length a.views.now v a.to (length-view a.views.now a.from (omega (arith, p))) (l.k + 1) (omega
          (arith, p)),
      l.invariant.1,
      l.invariant.2,
      step,
    )
