use Rattle.leaf_exports.specs.Batches.{pair_in, one_if_less}
use Rattle.basis.specs.Pick.{pick}
use Rattle.std.proofs.Common.{ℕ, Bool, ap, ◌∙◌, arith}
use Rattle.leaf_exports.proofs.Laws.{first_out, second-out, end-out, both-in, one-if, one-less}
use mir.Val.{bool_byte}
use Rattle.leaf_exports.proofs.pair_in.Goals as goal

pub returns-then-m-s : goal.returns-then-m-s
unfolding pair_in
returns-then-m-s c = let a = c.args in first_out a.bytes.now a.s a.m a.e _ (omega arith)

pub returns-then-e-m : goal.returns-then-e-m
unfolding pair_in
returns-then-e-m c = let a = c.args in second-out a.bytes.now a.s a.m a.e _ (omega arith) (omega arith)

pub returns-then-bytes-e : goal.returns-then-bytes-e
unfolding pair_in
returns-then-bytes-e c = let a = c.args in end-out a.bytes.now a.s a.m a.e _ (omega arith) (omega arith) (omega arith)

pub returns-then-sameness : goal.returns-then-sameness
unfolding pair_in
returns-then-sameness c =
    let a = c.args in
    both-in a.bytes.now a.s a.m a.e _ _ (omega arith) (omega arith) (omega arith) (rw c.if-sameness.true
    (c.from.ensures ∙ (one-if c.same.result ∙ ap (λ (t : Bool). pick {A = ℕ} t 1 0) c.same.ensures)))

pub returns-else-sameness : goal.returns-else-sameness
unfolding pair_in
returns-else-sameness c =
    let a = c.args in
    both-in a.bytes.now a.s a.m a.e _ _ (omega arith) (omega arith) (omega arith) (rw c.if-sameness.false
    (c.from-else-sameness.ensures ∙ (ap bool_byte c.is_lt.ensures ∙ (one-less c.cmp.result ∙ ap one_if_less c.cmp.ensures))))
