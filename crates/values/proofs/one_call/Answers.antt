use Rattle.values.proofs.First.{first-no, first-some}
use Rattle.builder.proofs.CallLaws.{does-once}
use Rattle.builder.specs.DoesLaws.{does-no}
use Rattle.builder.specs.RoomLaws.{blocks-most}
use mathlib.Core.Path.{◌≡◌}
use Prim.Native.Nat.{ℕ}
use native.Mathlib.Omega.{arith}
use Rattle.values.proofs.one_call.Goals as goal

one-some : ◌≡◌ {A = ℕ} 1 0 → ⊥
one-some e = absurd (omega arith)

pub why_first-w-requires : goal.why_first-w-requires
why_first-w-requires c = rw c.blocks_room.ensures (blocks-most _ _)

pub returns-then-is_err : goal.returns-then-is_err
returns-then-is_err c =
    let no = c.if-is_err.ensures.negation in
    does-no _ _ _ _ _ _ _ _ _ _
    (first-no _ _ _ _ _ _ _ _ 1 c.why_first-w.ensures c.rows_room.ensures c.blocks_room.ensures c.bytes_room.ensures no) no

pub add_one-requires : goal.add_one-requires
add_one-requires c =
    (first-some _ _ _ _ _ _ _ _ 1 c.why_first-w.ensures c.rows_room.ensures c.blocks_room.ensures c.bytes_room.ensures
    c.if-is_err.ensures.negation one-some).judged

pub returns : goal.returns
returns c =
    does-once _ _ _ _ _ _ _ _
    (first-some _ _ _ _ _ _ _ _ 1 c.why_first-w.ensures c.rows_room.ensures c.blocks_room.ensures c.bytes_room.ensures
    c.if-is_err.ensures.negation one-some).on
    c.add_one.ensures
