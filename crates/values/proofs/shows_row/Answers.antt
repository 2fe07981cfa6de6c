use Rattle.column.proofs.FitLaws.{in-data-gives}
use Rattle.builder.specs.SearchLaws.{shows-late, shows-length, shows-past, shows-no-data, shows-over, shows-here}
use Rattle.builder.specs.RoomLaws.{all-bounds}
use Rattle.bounds.specs.Bounds.{byte-limit-small}
use mathlib.Core.Path.{sym, ◌∙◌}
use native.Mathlib.Omega.{arith}
use Rattle.values.proofs.shows_row.Goals as goal

pub returns-then-s-r : goal.returns-then-s-r
returns-then-s-r c = shows-late _ _ _ _ _ _ _ c.if-s-r.true

pub returns-then-len-x : goal.returns-then-len-x
returns-then-len-x c = shows-length _ _ _ _ _ _ _ c.requires.0 _
    c.if-s-r.false c.view_len-len.ensures.0 c.if-len-x.true

pub returns-then-all_blocks-k : goal.returns-then-all_blocks-k
returns-then-all_blocks-k c = shows-past _ _ _ _ _ _ _ c.requires.0 _ _
    c.if-s-r.false c.view_len-len.ensures.0
    c.view_block-k.ensures.0
    (omega (arith, c.requires.1)) (omega arith)

pub at_or-start-requires : goal.at_or-start-requires
at_or-start-requires c = omega (arith, all-bounds c.args.s)

pub at_or-size-requires : goal.at_or-size-requires
at_or-size-requires c = omega
    (arith, all-bounds c.args.s)

pub returns-then-not-in_data : goal.returns-then-not-in_data
returns-then-not-in_data c = shows-no-data _ _ _ _ _ _ _ c.requires.0 _ _ c.if-s-r.false
    c.view_len-len.ensures.0
    c.view_block-k.ensures.0
    (omega (
      arith,
      c.requires.1,
    )) _ _ (omega arith) c.at_or-start.ensures c.at_or-size.ensures _ c.in_data.ensures
    (c.if-not-in_data.true)

pub returns-then-size-o : goal.returns-then-size-o
returns-then-size-o c = shows-over _ _ _ _ _ _ _ c.requires.0 _ _
    c.if-s-r.false
    c.view_len-len.ensures.0
    c.view_block-k.ensures.0
    (omega (
      arith,
      c.requires.1,
    )) _ _ (omega arith) c.at_or-start.ensures
    c.at_or-size.ensures _ c.in_data.ensures (c.if-not-in_data.false)
    _ c.view_offset-o.ensures.0 c.if-size-o.true

pub overflow_add-a : goal.overflow_add-a
overflow_add-a c = omega (arith, byte-limit-small, in-data-gives _ _ _ (sym c.in_data.ensures ∙ c.if-not-in_data.false))

pub overflow_add-e : goal.overflow_add-e
overflow_add-e c = omega (arith, byte-limit-small, in-data-gives _ _ _ (sym c.in_data.ensures ∙ c.if-not-in_data.false))

pub slice_bounds-same-end : goal.slice_bounds-same-end
slice_bounds-same-end c = omega (arith, in-data-gives _ _ _ (sym c.in_data.ensures ∙ c.if-not-in_data.false))

pub returns : goal.returns
returns c = shows-here _ _ _ _ _ _ _ c.requires.0 _ _
    c.if-s-r.false
    c.view_len-len.ensures.0
    c.view_block-k.ensures.0
    (omega (
      arith,
      c.requires.1,
    )) _ _ (omega arith) c.at_or-start.ensures
    c.at_or-size.ensures _ c.in_data.ensures
    (c.if-not-in_data.false) _ c.view_offset-o.ensures.0 _
    c.if-size-o.false c.same.ensures
