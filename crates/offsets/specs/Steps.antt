-- What the code does at an offset and at a row, and what it asks. Assumes nothing.
use Rattle.std.specs.Prelude.{◌≡◌, Bool, true, false, ◌&&◌, List, ℕ, zero, suc, ◌+◌, ◌*◌, ◌^◌, ◌≤◌, ◌<◌, leb, length}
use Rattle.column.specs.declared.Kind.{Kind}
use Rattle.offsets.specs.declared.Input.{Input}
use Rattle.offsets.specs.Offsets.{Source, source, width_of, offset_at, offset_count, kind_at}

-- the source and the bytes of an offset, as the code has them
abbrev pub source_of : Input → Source
source_of i = source i.offsets.now i.bytes.now i.nulls.now i.mapped

abbrev pub width : Input → ℕ
width i = width_of i.large

-- none of the offsets 1 to n is below the one before it
unfoldable pub rising : ℕ → List ℕ → ℕ → Bool
rising w os zero = true
rising w os (suc n) = rising w os n && leb (offset_at w os n) (offset_at w os (n + 1))

-- row j's two offsets are there, and cut a part out of so many bytes
pub record CutIn (w : ℕ) (os : List ℕ) (size j : ℕ) : Type 0 where
  pub there : j + 1 < offset_count w os
  pub rise : offset_at w os j ≤ offset_at w os (j + 1)
  pub last : offset_at w os (j + 1) ≤ size

-- a lawful source of so many rows
pub record SourceIn (w : ℕ) (s : Source) (rows : ℕ) : Type 0 where
  pub small : rows < 2 ^ 62
  pub there : rows < offset_count w s.offsets
  pub cut : (j : ℕ) → j < rows → CutIn w s.offsets (length s.bytes) j
  pub map : s.mapped ≡ true → rows ≤ 8 * length s.nulls

-- the first n rows are of the kind
unfoldable pub all_kinds : ℕ → Source → Kind → ℕ → Bool
all_kinds w s k zero = true
all_kinds w s k (suc n) = all_kinds w s k n && kind_at w s k n
