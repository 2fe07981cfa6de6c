use mathlib.Core.Path.{◌≡◌, refl}
use mathlib.Core.List.{List}
use Prim.Native.Nat.{ℕ, ◌+◌, ◌-◌, ◌*◌, ◌≤◌, ◌<◌}
use native.Mathlib.Omega.{arith}
use lib.Count.{ones-le}
use lib.ListN.{length, get_or, take, drop, length-drop}
use lib.Seq.{length-take-le, get_or-take, get_or-drop}
use Rattle.null_bits.specs.Bits.{count_valid}
use Rattle.null_bits.proofs.CountLaws.{count-le, count-is}
use Rattle.null_bits.proofs.Laws.{count-more-byte}
use Rattle.null_bits.proofs.count_bytes.Goals as goal
use Rattle.null_bits.proofs.count_bytes.Goals.{In-loop-byte}

-- how many bytes the part has, and the one that is looked at
size : (map : List ℕ) (i n : ℕ) → i + n ≤ length map → length (take (i + n - i) (drop i map)) ≡ n
size map i n h = let e : i + n - i ≡ n = omega arith in rw e (length-take-le n (drop i map) (simp length-drop (omega arith)))

here : (map : List ℕ) (i n k : ℕ) → k < n → get_or (take (i + n - i) (drop i map)) k 0 ≡ get_or map (i + k) 0
here map i n k h = rw (get_or-take (i + n - i) (drop i map) k 0 (omega arith), get_or-drop i map k 0)

pub loop-byte-init : goal.loop-byte-init
unfolding count_valid
loop-byte-init c = refl

below : (c : In-loop-byte) → c.loop-byte.byte-index < c.args.bytes
below c = rw (size c.args.map.now c.args.i c.args.bytes (omega arith)) at c.loop-byte-test.true

pub overflow_add-n : goal.overflow_add-n
overflow_add-n c =
    let a = c.args in
    let k = c.loop-byte.byte-index in
    let h = below (goal.at.overflow_add-n c).In-loop-byte in
    rw (here a.map.now a.i a.bytes k h) (omega (arith, ones-le 8 _ (c.type_inv.map (a.i + k)).fits, count-le a.map.now (8 * a.i) (8 * k)))

pub loop-byte-preserved : goal.loop-byte-preserved
loop-byte-preserved c =
    let a = c.args in
    let k = c.loop-byte.byte-index in
    let h = below (goal.at.loop-byte-preserved c).In-loop-byte in
    rw (here a.map.now a.i a.bytes k h, c.loop-byte.invariant) (count-more-byte a.map.now a.i k (c.type_inv.map (a.i + k)).fits)

pub returns : goal.returns
returns c =
    let e : c.loop-byte.byte-index ≡ c.args.bytes = omega (arith, size c.args.map.now c.args.i c.args.bytes (omega arith)) in
    count-is _ _ _ _ (rw (← e) c.loop-byte.invariant)
