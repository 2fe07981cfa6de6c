-- `codes::window` meets its contract. Assumes nothing.
use Rattle.codes.proofs.Windows.{window-high, window-high-next, window-is, sum_fits, other_fits, next_fits}
use Rattle.codes.proofs.Lanes.{lanes}
use lib.Bits.{bit_xor}
use Prim.Native.Nat.{◌+◌, ◌<◌}
use native.Mathlib.Omega.{arith}
use Rattle.codes.proofs.window.Goals as goal

pub returns-then-w-ne0 : goal.returns-then-w-ne0
unfolding lanes
returns-then-w-ne0 c = window-high c.args.s.now c.args.i
    (λ j. (c.type_inv.s j).fits) _ c.le64-w.ensures c.if-w-ne0.true

pub returns-then-v-ne0 : goal.returns-then-v-ne0
unfolding lanes
returns-then-v-ne0 c = window-high-next c.args.s.now c.args.i
    (λ j. (c.type_inv.s j).fits) _ c.le64-v.ensures c.if-v-ne0.true

pub overflow_add-letters : goal.overflow_add-letters
unfolding lanes
overflow_add-letters c = let n : c.le64-w.result + 4557430888798830399 < 18446744073709551616 = sum_fits
    c.args.s.now c.args.i
    (λ j. (c.type_inv.s j).fits) _ _ c.le64-w.ensures
    c.le64-v.ensures c.if-w-ne0.false c.if-v-ne0.false 63 (omega arith) in omega arith

pub overflow_add-letters-2 : goal.overflow_add-letters-2
unfolding lanes
overflow_add-letters-2 c = let n : c.le64-w.result + 2676586395008836901 < 18446744073709551616 = sum_fits
    c.args.s.now c.args.i
    (λ j. (c.type_inv.s j).fits) _ _ c.le64-w.ensures
    c.le64-v.ensures c.if-w-ne0.false c.if-v-ne0.false 37 (omega arith) in omega arith

pub overflow_add-digits : goal.overflow_add-digits
unfolding lanes
overflow_add-digits c = let n : c.le64-w.result + 5787213827046133840 < 18446744073709551616 = sum_fits
    c.args.s.now c.args.i
    (λ j. (c.type_inv.s j).fits) _ _ c.le64-w.ensures
    c.le64-v.ensures c.if-w-ne0.false c.if-v-ne0.false 80 (omega arith) in omega arith

pub overflow_add-digits-2 : goal.overflow_add-digits-2
unfolding lanes
overflow_add-digits-2 c = let n : c.le64-w.result + 5063812098665367110 < 18446744073709551616 = sum_fits
    c.args.s.now c.args.i
    (λ j. (c.type_inv.s j).fits) _ _ c.le64-w.ensures
    c.le64-v.ensures c.if-w-ne0.false c.if-v-ne0.false 70 (omega arith) in omega arith

pub overflow_add-others : goal.overflow_add-others
unfolding lanes
overflow_add-others c = let n : bit_xor
    c.le64-w.result 3255307777713450285 + 9187201950435737471 < 18446744073709551616 = other_fits
    c.args.s.now c.args.i
    (λ j. (c.type_inv.s j).fits) _ _ c.le64-w.ensures
    c.le64-v.ensures c.if-w-ne0.false c.if-v-ne0.false in omega arith

pub overflow_add-next : goal.overflow_add-next
unfolding lanes
overflow_add-next c = let n : bit_xor c.le64-v.result 3255307777713450285 + 9187201950435737471 < 18446744073709551616 = next_fits
    c.args.s.now c.args.i
    (λ j. (c.type_inv.s j).fits) _ _ c.le64-w.ensures
    c.le64-v.ensures c.if-w-ne0.false c.if-v-ne0.false in omega arith

pub returns : goal.returns
unfolding lanes
returns c = window-is c.args.s.now c.args.i
    (λ j. (c.type_inv.s j).fits) _ _ c.le64-w.ensures
    c.le64-v.ensures c.if-w-ne0.false c.if-v-ne0.false
