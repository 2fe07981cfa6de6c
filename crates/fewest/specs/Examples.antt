-- Cuts of three rows beside what compaction makes of them: one that closes early, the empty first block, and one out of row order. Assumes nothing.
use Rattle.std.specs.Prelude.{◌≡◌, List, [], ◌∷◌, map, ℕ, length, replicate}
use Rattle.builder.specs.declared.Sizes.TheVariants.{Doubled}
use Rattle.promise.specs.Bench.{Finished, bench_built, compact}
use Rattle.fewest.specs.Lawful.{long_rows, Lawful}
use Rattle.fewest.specs.Fewest.{filled_blocks}

-- values of these lengths
abbrev pub of_lengths : List ℕ → List (List ℕ)
of_lengths ns = map (λ n. replicate n 65) ns

-- a column of them
abbrev pub rows_for : List ℕ → Finished
rows_for ns = bench_built Doubled (of_lengths ns)

-- the blocks of these lengths are a lawful cut of the column's long rows
abbrev pub LawfulFor : ℕ → List ℕ → List (List ℕ) → Type 0
LawfulFor most ns bs = Lawful most (long_rows (rows_for ns).lent (rows_for ns).column) (map of_lengths bs)

-- how many blocks its compaction has, and how many of them aren't empty
abbrev pub blocks_at : ℕ → List ℕ → ℕ
blocks_at most ns = (compact most (rows_for ns)).column.blocks

abbrev pub filled_at : ℕ → List ℕ → ℕ
filled_at most ns = length (filled_blocks (compact most (rows_for ns)).lent (compact most (rows_for ns)).column)

pub record Examples : Type 0 where
  -- 13, 13, 13 at 26: three blocks are lawful where the second value might have stayed with the first; compaction has two
  pub early : LawfulFor 26 (13 ∷ 13 ∷ 13 ∷ []) ((13 ∷ []) ∷ (13 ∷ []) ∷ (13 ∷ []) ∷ [])
  pub early_filled : filled_at 26 (13 ∷ 13 ∷ 13 ∷ []) ≡ 2
  -- 13, 5, 13 at 12: two blocks are lawful; compaction has three, of which the first is empty
  pub apart : LawfulFor 12 (13 ∷ 5 ∷ 13 ∷ []) ((13 ∷ []) ∷ (13 ∷ []) ∷ [])
  pub apart_blocks : blocks_at 12 (13 ∷ 5 ∷ 13 ∷ []) ≡ 3
  pub apart_filled : filled_at 12 (13 ∷ 5 ∷ 13 ∷ []) ≡ 2
  -- 13, 25, 13 at 26: out of row order two blocks would do, which is not lawful; compaction has three
  pub moved : LawfulFor 26 (13 ∷ 25 ∷ 13 ∷ []) ((13 ∷ 13 ∷ []) ∷ (25 ∷ []) ∷ []) → ⊥
  pub moved_filled : filled_at 26 (13 ∷ 25 ∷ 13 ∷ []) ≡ 3
