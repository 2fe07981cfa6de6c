-- One history of every call, run over the definitions: what is said of any calls is said of some. Assumes nothing.
use Rattle.std.specs.Prelude.{◌≡◌, Bool, true, false, ◌&&◌, List, [], ◌∷◌, ℕ, replicate, Ok}
use Rattle.std.proofs.Math.Option.{none, some}
use Rattle.bounds.specs.Refusals.{is_accepted}
use Rattle.views.specs.View.{block_of, view_at}
use Rattle.column.specs.declared.Kind.TheVariants.{Binary}
use Rattle.column.specs.Laid.{rows_of}
use Rattle.reading.specs.Reading.{value_at, bit_of}
use Rattle.builder.specs.declared.Settings.{Settings}
use Rattle.builder.specs.declared.Sizes.TheVariants.{Doubled}
use Rattle.builder.specs.declared.Merging.TheVariants.{On}
use Rattle.builder.specs.State.{Builder}
use Rattle.builder.specs.Start.{start}
use Rattle.builder.specs.Get.{column_of}
use Rattle.builder.specs.Finish.{finished}
use Rattle.promise.specs.Calls.{cell, no_value, Call, adds_values, adds_null, adds_block, adds_view, adds_column, finish_copy, finish, why, put, rows_after}
use Rattle.promise.specs.Merged.{memo, target, recall_all}
use Rattle.promise.specs.Bench.{mar, may, bench_lent, alone}

-- whether none of the calls is refused, and what they leave
unfoldable pub accepts_calls : List Call → Builder → Bool
accepts_calls [] b = true
accepts_calls (c ∷ cs) b = is_accepted (why c b) && accepts_calls cs (put c b)

unfoldable pub left_by_calls : List Call → Builder → Builder
left_by_calls [] b = b
left_by_calls (c ∷ cs) b = left_by_calls cs (put c b)

abbrev pub merging : Settings
merging = record { kind = Binary; sizes = Doubled; merging = On }

abbrev pub mixed_begun : Builder
mixed_begun = start merging bench_lent (replicate 4 0)

-- a block that holds RO-8040-03MAR, a view of it, and that value: stored, for a view's row is no target
abbrev pub viewed_first : List Call
viewed_first = adds_block mar ∷ adds_view 0 0 13 ∷ adds_values 1 mar ∷ []

-- the same value again, then a column of RO-8040-03MAY, and the finish that leaves all as it is
abbrev pub joined : List Call
joined = adds_block mar ∷ adds_view 0 0 13 ∷ adds_values 1 mar ∷ adds_values 1 mar ∷ adds_column (alone may).lent (alone may).column ∷ finish_copy ∷ []

-- two rows are left after a finish
abbrev pub mixed_anew : List Call
mixed_anew = adds_values 1 mar ∷ finish ∷ adds_values 1 mar ∷ adds_null ∷ []

abbrev pub shown_in : Builder → List (List ℕ)
shown_in b = rows_of (value_at (finished b).lent (column_of b)) b.state.rows

pub record Mixed : Type 0 where
  pub joins : accepts_calls joined mixed_begun ≡ true
  pub puts : rows_after joined mixed_begun [] ≡ cell mar true ∷ cell mar true ∷ cell mar true ∷ cell may true ∷ []
  pub shows : shown_in (left_by_calls joined mixed_begun) ≡ mar ∷ mar ∷ mar ∷ may ∷ []
  -- the view's row in block 0, the value's two rows in block 1, the column's in block 2
  pub blocks : rows_of (λ r. block_of (view_at (left_by_calls joined mixed_begun).lent.views r)) 4 ≡ 0 ∷ 1 ∷ 1 ∷ 2 ∷ []
  pub targets : target On (recall_all On viewed_first mixed_begun (memo [] [])) mar ≡ some 1
  pub again : accepts_calls mixed_anew mixed_begun ≡ true
  pub after : rows_after mixed_anew mixed_begun [] ≡ cell mar true ∷ no_value ∷ []
  pub bits : rows_of (bit_of (finished (left_by_calls mixed_anew mixed_begun)).lent (column_of (left_by_calls mixed_anew mixed_begun))) 2 ≡ Ok true ∷ Ok false ∷ []
  pub forgets : target On (recall_all On (adds_values 1 mar ∷ finish ∷ []) mixed_begun (memo [] [])) mar ≡ none
