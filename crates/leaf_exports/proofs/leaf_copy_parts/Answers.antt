use Rattle.leaf_exports.proofs.Laws.{no-parts, part-in, part-next}
use Rattle.leaf_exports.specs.Batches.{parts_copied}
use Rattle.copy.specs.OverLaws.{copied_none, copied_more, copied-length}
use Rattle.copy.specs.Over.{copied_up_to}
use Rattle.std.proofs.Math.Nat.{zero-mul}
use Rattle.std.proofs.Common.{◌≡◌, ℕ, ◌+◌, ◌-◌, ◌*◌, ◌/◌, ◌≤◌, min, length, refl, ap, ◌∙◌, arith}
use Rattle.leaf_exports.proofs.leaf_copy_parts.Goals as goal

pub returns-then-n-eq0 : goal.returns-then-n-eq0
unfolding parts_copied
returns-then-n-eq0 c =
    let s = c.args in
    copied_none _ _ ∙ no-parts s.dst.now s.src.now s.n _ c.if-n-eq0.true

pub loop-k-init : goal.loop-k-init
loop-k-init c = (refl, rw (zero-mul c.args.n) (copied_none _ _))

pub loop-k-preserved : goal.loop-k-preserved
loop-k-preserved c =
    let s = c.args in
    let l = c.loop-k in
    let o : ℕ = l.k * s.n in
    let k : o + s.n - o ≡ s.n = omega arith in
    let within : o + s.n ≤ min (length s.src.now) (length s.dst.now) = rw c.min-room.ensures at (part-in s.n c.min-room.result l.k c.loop-k-test.true) in
    let next = copied_more s.dst.now s.src.now l.dst _ o s.n (omega arith) l.invariant.1 (rw k at c.copy.ensures)
    ∙ ap (copied_up_to s.dst.now s.src.now) (part-next s.n l.k) in
    (ap length next ∙ copied-length s.dst.now s.src.now ((l.k + 1) * s.n) (omega (arith, part-next s.n l.k)) (omega (arith, part-next s.n l.k)), next)

pub returns : goal.returns
unfolding parts_copied
returns c =
    let e : c.loop-k.k ≡ c.min-room.result / c.args.n = omega arith in
    rw (← c.min-room.ensures, ← e) c.loop-k.invariant.1
