-- The ten worked examples, as one statement over the definitions of the calls. Each builder and each compaction has small buffers of zeros of its own.
-- Assumes nothing.
use Rattle.std.specs.Prelude.{◌≡◌, Bool, true, false, ◌&&◌, List, [], ◌∷◌, map, ℕ, replicate, Ok}
use Rattle.basis.specs.Pick.{pick}
use Rattle.bounds.specs.Refusals.{if_accepted, is_accepted, accepted}
use Rattle.utf8.specs.Table.{well_formed}
use Rattle.views.specs.View.{block_of, make_view}
use Rattle.std.proofs.Common.{Less}
use Rattle.column.specs.declared.Kind.TheVariants.{Binary}
use Rattle.column.specs.declared.Column.{Column}
use Rattle.column.specs.Lent.{Lent, buffers, block, block_at}
use Rattle.column.specs.Meaning.{row_view}
use Rattle.column.specs.Laid.{rows_of}
use Rattle.reading.specs.Reading.{prefix_at, suffix_at}
use Rattle.comparison.specs.Compare.{compare_rows}
use Rattle.builder.specs.declared.Settings.{Settings}
use Rattle.builder.specs.declared.Sizes.{Sizes}
use Rattle.builder.specs.declared.Sizes.TheVariants.{Doubled, Same}
use Rattle.builder.specs.declared.Merging.TheVariants.{Off}
use Rattle.builder.specs.State.{Builder}
use Rattle.builder.specs.Start.{start}
use Rattle.builder.specs.Values.{why_values, put_values}
use Rattle.builder.specs.Get.{column_of}
use Rattle.builder.specs.Finish.{why_finish, finished}
use Rattle.compaction.specs.Compact.{why_compact, compacted, compact_column}

-- RO-8040-03MAR, RO-8040-03MAY, RO-8040-0303
abbrev pub mar : List ℕ
mar = 82 ∷ 79 ∷ 45 ∷ 56 ∷ 48 ∷ 52 ∷ 48 ∷ 45 ∷ 48 ∷ 51 ∷ 77 ∷ 65 ∷ 82 ∷ []

abbrev pub may : List ℕ
may = 82 ∷ 79 ∷ 45 ∷ 56 ∷ 48 ∷ 52 ∷ 48 ∷ 45 ∷ 48 ∷ 51 ∷ 77 ∷ 65 ∷ 89 ∷ []

abbrev pub twelve : List ℕ
twelve = 82 ∷ 79 ∷ 45 ∷ 56 ∷ 48 ∷ 52 ∷ 48 ∷ 45 ∷ 48 ∷ 51 ∷ 48 ∷ 51 ∷ []

-- room for four rows, four blocks and 64 bytes
abbrev pub bench_lent : Lent
bench_lent = buffers (replicate 64 0) (replicate 64 0) (replicate 4 (block 0 0)) (replicate 1 0)

abbrev pub plain : Sizes → Settings
plain sizes = record { kind = Binary; sizes = sizes; merging = Off }

abbrev pub fresh : Sizes → Builder
fresh sizes = start (plain sizes) bench_lent []

-- the value calls, one after the other, and whether they and the finish are accepted
unfoldable pub call_each : List (List ℕ) → Builder → Builder
call_each [] b = b
call_each (x ∷ xs) b = call_each xs (put_values 1 x b)

unfoldable pub taken_each : List (List ℕ) → Builder → Bool
taken_each [] b = is_accepted (why_finish b)
taken_each (x ∷ xs) b = is_accepted (why_values 1 b x) && taken_each xs (put_values 1 x b)

-- a finished column and its buffers
pub record Finished : Type 0 where
  pub lent : Lent
  pub column : Column

-- no rows and no blocks
abbrev pub nothing_built : Finished
nothing_built = record { lent = bench_lent; column = record { first = 0; rows = 0; blocks = 0; kind = Binary; mapped = false } }

-- built of values; nothing where one is refused
unfoldable pub bench_built : Sizes → List (List ℕ) → Finished
bench_built sizes xs =
    let b = call_each xs (fresh sizes) in
    pick (taken_each xs (fresh sizes)) (record { lent = (finished b).lent; column = column_of b }) nothing_built

-- compacted at a maximum; nothing where that is refused
unfoldable pub compact : ℕ → Finished → Finished
compact most f =
    if_accepted (why_compact most f.lent f.column bench_lent)
    (record { lent = compacted most f.lent f.column bench_lent; column = compact_column most f.lent f.column }) nothing_built

abbrev pub view_in : Finished → ℕ → List ℕ
view_in f r = row_view f.lent f.column r

-- the block of each row
abbrev pub blocks_in : Finished → List ℕ
blocks_in f = rows_of (λ r. block_of (view_in f r)) f.column.rows

-- the length of each block
abbrev pub lengths_in : Finished → List ℕ
lengths_in f = rows_of (λ k. (block_at f.lent k).len) f.column.blocks

-- values of these lengths, stored by doubling, and compacted at a maximum: the lengths of the blocks
unfoldable pub lengths_at : ℕ → List ℕ → List ℕ
lengths_at most ns = lengths_in (compact most (bench_built Doubled (map (λ n. replicate n 65) ns)))

abbrev pub codes : Sizes → Finished
codes sizes = bench_built sizes (mar ∷ may ∷ [])

abbrev pub alone : List ℕ → Finished
alone x = bench_built Doubled (x ∷ [])

abbrev pub below : List ℕ → List ℕ → Type 0
below x y = compare_rows (alone x).lent (alone x).column 0 (alone y).lent (alone y).column 0 ≡ Ok Less

pub record Bench : Type 0 where
  -- 1: the empty value
  pub empty : make_view [] 0 0 ≡ replicate 16 0
  -- 2: RO-8040-0303
  pub short : make_view twelve 0 0 ≡ 12 ∷ 0 ∷ 0 ∷ 0 ∷ twelve
  -- 3: RO-8040-03MAR first, then RO-8040-03MAY at block 0, offset 13
  pub first : view_in (codes Doubled) 0 ≡ 13 ∷ 0 ∷ 0 ∷ 0 ∷ 82 ∷ 79 ∷ 45 ∷ 56 ∷ replicate 8 0
  pub second : view_in (codes Doubled) 1 ≡ 13 ∷ 0 ∷ 0 ∷ 0 ∷ 82 ∷ 79 ∷ 45 ∷ 56 ∷ 0 ∷ 0 ∷ 0 ∷ 0 ∷ 13 ∷ 0 ∷ 0 ∷ 0 ∷ []
  -- 4: at 20 in blocks 0 and 1, at 26 both in 0
  pub fixed_20 : blocks_in (codes (Same 20)) ≡ 0 ∷ 1 ∷ []
  pub fixed_26 : blocks_in (codes (Same 26)) ≡ 0 ∷ 0 ∷ []
  -- 5: A, a zero byte after it, twelve of them
  pub zero_after : below (65 ∷ []) (65 ∷ 0 ∷ [])
  pub zeros_after : below (65 ∷ []) (65 ∷ replicate 12 0)
  -- 6: one above the maximum
  pub above : lengths_at 20 (13 ∷ 30 ∷ 13 ∷ []) ≡ 13 ∷ 30 ∷ 13 ∷ []
  -- 7: all above, so that the first block is empty
  pub empty_first : lengths_at 12 (13 ∷ 5 ∷ 13 ∷ []) ≡ 0 ∷ 13 ∷ 13 ∷ []
  -- 8: the total within the maximum, and one byte past it; a block exactly filled while the total isn't
  pub at_26 : lengths_at 26 (13 ∷ 13 ∷ []) ≡ 26 ∷ []
  pub at_25 : lengths_at 25 (13 ∷ 13 ∷ []) ≡ 13 ∷ 13 ∷ []
  pub filled : lengths_at 26 (13 ∷ 13 ∷ 13 ∷ []) ≡ 26 ∷ 13 ∷ []
  -- 9: RO-8040-03MAR, prefix 14 and suffix 3
  pub prefix_14 : prefix_at (alone mar).lent (alone mar).column 0 14 ≡ []
  pub suffix_3 : suffix_at (alone mar).lent (alone mar).column 0 3 ≡ 77 ∷ 65 ∷ 82 ∷ []
  -- 10: C0 80, ED A0 80, F4 90 80 80, F4 8F BF BF
  pub overlong : well_formed (0xC0 ∷ 0x80 ∷ []) ≡ false
  pub surrogate : well_formed (0xED ∷ 0xA0 ∷ 0x80 ∷ []) ≡ false
  pub beyond : well_formed (0xF4 ∷ 0x90 ∷ 0x80 ∷ 0x80 ∷ []) ≡ false
  pub last : well_formed (0xF4 ∷ 0x8F ∷ 0xBF ∷ 0xBF ∷ []) ≡ true
