-- The value calls, once and n times, and the null call: why each refuses, and what it does. Assumes nothing.
use Rattle.std.specs.Prelude.{Bool, true, false, not, ◌&&◌, List, ℕ, suc, ◌+◌, ◌-◌, leb, ltb, eqb, length}
use Rattle.basis.specs.Pick.{pick}
use Rattle.order.specs.Order.{same}
use Rattle.hash.specs.Hash.{hash_of}
use Rattle.bounds.specs.Bounds.{byte_limit}
use Rattle.bounds.specs.Refusals.{refuse, is_accepted, accepted, Why}
use Rattle.bounds.specs.declared.Refusal.TheVariants.{Fit, TooLong, NotUtf8, RowRoom, BlockRoom, DataRoom}
use Rattle.views.specs.View.{is_short, short_view, long_view, zero_view, view_at}
use Rattle.merging.specs.declared.Found.{Found}
use Rattle.merging.specs.declared.Found.TheVariants.{Full}
use Rattle.merging.specs.Table.{search_from, is_row, row_of, entered}
use Rattle.column.specs.Lent.{block_room, data_room}
use Rattle.column.specs.Truth.{of_kind}
use Rattle.column.specs.declared.Kind.{Kind}
use Rattle.builder.specs.declared.Merging.{Merging}
use Rattle.builder.specs.declared.Merging.TheVariants.{Off, On, UpTo}
use Rattle.builder.specs.declared.State.{State}
use Rattle.builder.specs.State.{Builder, builder, rows_room, all_blocks, used, fits_state, fits_open, make_room, lay, add_row, add_rows}
use Rattle.builder.specs.Get.{why_get, get_value}

-- the values of n bytes that merge
abbrev pub merges : Merging → ℕ → Bool
merges Off n = false
merges On n = true
merges (UpTo m) n = leb n m

-- the value of row r can be got and is x
unfoldable pub hits : Builder → List ℕ → ℕ → Bool
hits b x r = is_accepted (why_get b r) && same (get_value b r) x

-- what a table answers for x: a row that hits, a place for it, or neither where x doesn't merge
unfoldable pub found_by : Merging → List ℕ → (ℕ → Bool) → List ℕ → Found
found_by m places hit x = pick (merges m (length x)) (search_from places hit (hash_of x)) Full

unfoldable pub found : Builder → List ℕ → Found
found b x = found_by b.state.merging b.places (hits b x) x

-- n bytes more, in rooms for so many blocks and bytes; 6 only where a new block is needed
unfoldable pub why_lay : State → ℕ → ℕ → ℕ → Why
why_lay s blocks bytes n =
    refuse BlockRoom (not (fits_open s n) && leb blocks (all_blocks s)) (refuse DataRoom (ltb bytes (used s + n)) accepted)

-- neither block nor bytes are needed for a short value, nor for a row that is found
unfoldable pub why_store : Builder → List ℕ → Why
why_store b x =
    pick (is_short (length x)) accepted
    (pick (is_row (found b x)) accepted (why_lay b.state (block_room b.lent) (data_room b.lent) (length x)))

-- 4, 10 and 5: x, of a kind, as `more` rows after `rows` in a room for so many
unfoldable pub why_rows : Kind → List ℕ → ℕ → ℕ → ℕ → Why → Why
why_rows kind x rows more room w =
    refuse TooLong (ltb byte_limit (length x)) (refuse NotUtf8 (not (of_kind kind x)) (refuse RowRoom (ltb room (rows + more)) w))

-- a value n times; none is accepted whatever the value
unfoldable pub why_values : ℕ → Builder → List ℕ → Why
why_values n b x =
    refuse Fit (not (fits_state b))
    (pick (eqb n 0) accepted (why_rows b.state.kind x b.state.rows n (rows_room b) (why_store b x)))

-- the row that comes next entered at the place that was found for it, if any
abbrev pub enter : Found → Builder → Builder
enter f b = builder b.state b.lent (entered f (suc b.state.rows) b.places)

-- x laid in the open block, and the row that shows it there
unfoldable pub store : List ℕ → Builder → Builder
store x b = add_row (long_view x b.state.blocks b.state.fill) true (lay x b)

unfoldable pub put_found : Found → List ℕ → Builder → Builder
put_found f x b = pick (is_row f) (add_row (view_at b.lent.views (row_of f)) true b) (store x (make_room (length x) (enter f b)))

unfoldable pub put_value : List ℕ → Builder → Builder
put_value x b = pick (is_short (length x)) (add_row (short_view x) true b) (put_found (found b x) x b)

-- one append, then copies of its row
unfoldable pub put_values : ℕ → List ℕ → Builder → Builder
put_values n x b = pick (eqb n 0) b (add_rows (n - 1) (view_at (put_value x b).lent.views b.state.rows) true (put_value x b))

unfoldable pub why_null : Builder → Why
why_null b = refuse Fit (not (fits_state b)) (refuse RowRoom (leb (rows_room b) b.state.rows) accepted)

-- a null row has the zero view
unfoldable pub put_null : Builder → Builder
put_null b = add_row zero_view false b
