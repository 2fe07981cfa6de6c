use Rattle.builder.specs.Values.{put_null}
use Rattle.builder.specs.State.{add_row}
use Rattle.builder.specs.DoesLaws.{does-no, does-yes, starts-same, lens_same}
use Rattle.builder.specs.RoomLaws.{null_is, null-fine, is-accepted, blocks-most}
use Rattle.bounds.specs.Bounds.{row-limit-small}
use Rattle.bounds.specs.Refusals.{is_accepted}
use mathlib.Core.Path.{refl, sym, ap, ◌∙◌}
use native.Mathlib.Omega.{arith}
use Rattle.values.proofs.null_call.Goals as goal

pub why_null-w-requires : goal.why_null-w-requires
why_null-w-requires c = rw c.blocks_room.ensures (blocks-most _ _)

pub returns-then-is_err : goal.returns-then-is_err
returns-then-is_err c =
    does-no _ _ _ _ _ _ _ _ _ _
    (c.why_null-w.ensures ∙ null_is _ _ _ _ _ _ _ _ _ _ c.rows_room.ensures c.blocks_room.ensures c.bytes_room.ensures)
    c.if-is_err.ensures.negation

pub overflow_mul-rows : goal.overflow_mul-rows
overflow_mul-rows c =
    let w = c.why_null-w.ensures ∙ null_is _ _ _ _ _ _ _ _ _ _ c.rows_room.ensures c.blocks_room.ensures c.bytes_room.ensures in
    omega (arith, (null-fine _ _ _ _ _ _ _ (ap is_accepted (sym w) ∙ c.if-is_err.ensures.negation)).room.rows, row-limit-small)

pub zero_view-requires : goal.zero_view-requires
zero_view-requires c =
    let w = c.why_null-w.ensures ∙ null_is _ _ _ _ _ _ _ _ _ _ c.rows_room.ensures c.blocks_room.ensures c.bytes_room.ensures in
    (null-fine _ _ _ _ _ _ _ (ap is_accepted (sym w) ∙ c.if-is_err.ensures.negation)).room.views

pub put_bit-requires : goal.put_bit-requires
put_bit-requires c =
    let w = c.why_null-w.ensures ∙ null_is _ _ _ _ _ _ _ _ _ _ c.rows_room.ensures c.blocks_room.ensures c.bytes_room.ensures in
    (null-fine _ _ _ _ _ _ _ (ap is_accepted (sym w) ∙ c.if-is_err.ensures.negation)).room.bits

pub row_more-requires : goal.row_more-requires
row_more-requires c =
    let w = c.why_null-w.ensures ∙ null_is _ _ _ _ _ _ _ _ _ _ c.rows_room.ensures c.blocks_room.ensures c.bytes_room.ensures in
    (null-fine _ _ _ _ _ _ _ (ap is_accepted (sym w) ∙ c.if-is_err.ensures.negation)).room.rows

pub returns : goal.returns
unfolding put_null add_row
returns c =
    does-yes _ _ _ _ _ _ _ _ _
    (is-accepted _ _
    (c.why_null-w.ensures ∙ null_is _ _ _ _ _ _ _ _ _ _ c.rows_room.ensures c.blocks_room.ensures c.bytes_room.ensures)
    c.if-is_err.ensures.negation)
    c.row_more.ensures c.zero_view.ensures refl (sym (starts-same _ _)) (sym (lens_same _ _)) c.put_bit.ensures refl
