-- Laws of a list written over the front of another, for those who lend a tail to the copy. Assumes nothing.
use Rattle.std.specs.Prelude.{◌≡◌, refl, List, ◌++◌, ℕ, ◌+◌, ◌-◌, ◌≤◌, length, take, drop}
use Rattle.std.proofs.Common.{sym, ap, ◌∙◌, append-nil, append_assoc, arith, length-append, length-take, length-drop, take_at, drop_at, take-add, length-take-le, drop-drop}
use Rattle.std.proofs.Math.Seq.{take-length, drop-length, paste}
use Rattle.copy.specs.Over.{over, copied_up_to}

-- the tail of t from o on is lent to a copy of v, and comes back
pub tail-back : (o : ℕ) (t y v : List ℕ) → y ≡ over v (take (length t - o) (drop o t)) → take o t ++ (y ++ drop (length t - o) (drop o t))
    ≡ take o t ++ (v ++ drop (o + length v) t)
tail-back o t y v e =
    let k : length t - o ≡ length (drop o t) = sym (length-drop o t) in
    rw (e, k, take-length, drop-length, append-nil, drop-drop)

-- .. which is v pasted at o
pub tail-paste : (o : ℕ) (t y v : List ℕ) → y ≡ over v (take (length t - o) (drop o t)) → take o t ++ (y ++ drop (length t - o) (drop o t))
    ≡ paste t o v (length v)
tail-paste o t y v e = tail-back o t y v e ∙ rw (take-length v, append_assoc (take o t) v (drop (o + length v) t))

pub copied_none : (d s : List ℕ) → d ≡ copied_up_to d s 0
unfolding copied_up_to
copied_none d s = refl

pub copied_all : (d s : List ℕ) (o : ℕ) → o ≡ length s → copied_up_to d s o ≡ s ++ drop (length s) d
unfolding copied_up_to
copied_all d s o e = rw (e, take-length)

-- a copy of o elements whose tail is lent to a copy of the next m: a copy of o + m
pub copied_more : (d s t y : List ℕ) (o m : ℕ) → o + m ≤ length s → t ≡ copied_up_to d s o → y ≡ take m (drop o s) ++ drop (length (take m (drop o s)))
    (take (length t - o) (drop o t))
    → take o t ++ (y ++ drop (length t - o) (drop o t)) ≡ copied_up_to d s (o + m)
unfolding copied_up_to
copied_more d s t y o m h et ey =
    let lo : length (take o s) ≡ o = length-take-le o s (omega arith) in
    let lm : length (take m (drop o s)) ≡ m = length-take-le m (drop o s) (simp length-drop (omega arith)) in
    let front : take o t ≡ take o s = rw et (take_at (take o s) (drop o d) o lo) in
    let rest : drop o t ≡ drop o d = rw et (drop_at (take o s) (drop o d) o lo) in
    let back : drop (o + m) t ≡ drop (o + m) d = sym (drop-drop m o t) ∙ ap (drop m) rest ∙ drop-drop m o d in
    tail-back o t y (take m (drop o s)) ey
    ∙ rw (lm, front, back, take-add o m s, append_assoc (take o s) (take m (drop o s)) (drop (o + m) d))

pub copied-length : (d s : List ℕ) (o : ℕ) → o ≤ length s → o ≤ length d → length (copied_up_to d s o) ≡ length d
unfolding copied_up_to
copied-length d s o h k = simp (length-append, length-take, length-drop) (omega arith)
