-- A byte view column from an offset column. The offsets are little-endian signed numbers of w bytes each. Assumes nothing.
use Rattle.std.specs.Prelude.{◌≡◌, Bool, true, false, not, ◌&&◌, ◌||◌, List, [], ◌∷◌, ℕ, zero, suc, ◌+◌, ◌-◌, ◌*◌, ◌/◌, ◌^◌, leb, ltb, length, take, drop}
use Rattle.basis.specs.Pick.{pick}
use Rattle.words.specs.Words.{word_at}
use Rattle.bounds.specs.Refusals.{refuse, if_accepted, Why}
use Rattle.bounds.specs.declared.Refusal.TheVariants.{Fit, Offsets, NotUtf8}
use Rattle.views.specs.View.{make_view, zero_view}
use Rattle.null_bits.specs.Bits.{valid_at}
use Rattle.null_bits.specs.Runs.{put_bits}
use Rattle.column.specs.declared.Kind.{Kind}
use Rattle.column.specs.declared.Column.{Column}
use Rattle.column.specs.Lent.{Lent, buffers, block, lent}
use Rattle.column.specs.Truth.{of_kind}
use Rattle.laying.specs.Written.{front, put_rows}
use Rattle.laying.specs.Rooms.{why_rooms}
use Rattle.offsets.specs.declared.Outcome.{Outcome}

-- the bytes of an offset: four, or eight in the Large form
abbrev pub width_of : Bool → ℕ
width_of large = pick large 8 4

-- what is lent: the offsets' bytes, the bytes that they cut, the map's bytes and whether there is a map
pub record Source : Type 0 where
  pub offsets : List ℕ
  pub bytes : List ℕ
  pub nulls : List ℕ
  pub mapped : Bool

abbrev pub source : List ℕ → List ℕ → List ℕ → Bool → Source
source offsets bytes nulls mapped = record { offsets = offsets; bytes = bytes; nulls = nulls; mapped = mapped }

-- offset j, and how many there are
unfoldable pub offset_at : ℕ → List ℕ → ℕ → ℕ
offset_at w os j = word_at os (w * j) w

unfoldable pub offset_count : ℕ → List ℕ → ℕ
offset_count w os = length os / w

-- one less than offsets
abbrev pub row_count : ℕ → List ℕ → ℕ
row_count w os = offset_count w os - 1

-- the first number whose top bit is set: as a signed one it is negative
abbrev pub half : ℕ → ℕ
half w = 2 ^ (8 * w - 1)

-- offset j is not negative, and not below the one before it
unfoldable pub lawful_at : ℕ → List ℕ → ℕ → Bool
lawful_at w os zero = ltb (offset_at w os zero) (half w)
lawful_at w os (suc j) = ltb (offset_at w os (suc j)) (half w) && leb (offset_at w os j) (offset_at w os (suc j))

unfoldable pub lawful : ℕ → List ℕ → ℕ → Bool
lawful w os zero = true
lawful w os (suc n) = lawful w os n && lawful_at w os n

-- there is an offset, none is negative, none falls, and the last is within so many bytes
unfoldable pub cuts : ℕ → List ℕ → ℕ → Bool
cuts w os n = leb 1 (offset_count w os) && (lawful w os (offset_count w os) && leb (offset_at w os (row_count w os)) n)

-- the bytes that row r's two offsets cut out
unfoldable pub cut_at : ℕ → List ℕ → List ℕ → ℕ → List ℕ
cut_at w os bs r = take (offset_at w os (r + 1) - offset_at w os r) (drop (offset_at w os r) bs)

-- one of the first n rows is null
unfoldable pub any_null : List ℕ → Bool → ℕ → Bool
any_null nulls mapped zero = false
any_null nulls mapped (suc n) = any_null nulls mapped n || not (valid_at nulls mapped n)

module _ (w : ℕ) (s : Source) where
  abbrev pub rows_in : ℕ
  rows_in = row_count w s.offsets

  abbrev pub valid_row : ℕ → Bool
  valid_row r = valid_at s.nulls s.mapped r

  abbrev pub row_value : ℕ → List ℕ
  row_value r = cut_at w s.offsets s.bytes r

  -- what row r shows: a null row nothing
  unfoldable pub value_in : ℕ → List ℕ
  value_in r = pick (valid_row r) (row_value r) []

  -- a null row is of every kind
  unfoldable pub kind_at : Kind → ℕ → Bool
  kind_at k r = pick (valid_row r) (of_kind k (row_value r)) true

  -- the first of n rows that isn't of the kind is refused with 10; where each is, y
  unfoldable pub why_kinds : Kind → ℕ → Why → Why
  why_kinds k zero y = y
  why_kinds k (suc n) y = why_kinds k n (refuse NotUtf8 (not (kind_at k n)) y)

  -- a null row gets the zero view
  unfoldable pub row_view_of : ℕ → List ℕ
  row_view_of r = pick (valid_row r) (make_view (row_value r) 0 (offset_at w s.offsets r)) zero_view

  -- 2, 13, 10, 5, 6, 7: 2 only if an input map is too short; the bits are written either way, so the new map counts
  unfoldable pub why_offsets : Kind → Lent → Why
  why_offsets k out =
      refuse Fit (s.mapped && ltb (8 * length s.nulls) rows_in)
      (refuse Offsets (not (cuts w s.offsets (length s.bytes))) (why_kinds k rows_in (why_rooms true rows_in 1 (length s.bytes) out)))

  -- all bytes become one block, kept even if empty; the bits are written as the builder's
  unfoldable pub from_offsets : Lent → Lent
  from_offsets out =
      buffers
      (put_rows out.views row_view_of rows_in)
      (front out.bytes s.bytes)
      (front out.table (block 0 (length s.bytes) ∷ []))
      (put_bits out.nulls 0 valid_row rows_in)

  abbrev pub offset_column : Kind → Column
  offset_column k = record { first = 0; rows = rows_in; blocks = 1; kind = k; mapped = any_null s.nulls s.mapped rows_in }

  -- refused, a column without rows
  abbrev pub no_column : Kind → Column
  no_column k = record { first = 0; rows = 0; blocks = 0; kind = k; mapped = false }

  unfoldable pub offsets_of : Kind → Lent → Outcome
  offsets_of k out = record { why = why_offsets k out; column = if_accepted (why_offsets k out) (offset_column k) (no_column k) }

-- the whole call over output buffers of five slices: the answer, and each of them at exit
pub record Converted (w : ℕ) (s : Source) (k : Kind) (vs bs ss ns ms : List ℕ) (r : Outcome) (vs' bs' ss' ns' ms' : List ℕ) : Type 0 where
  pub answer : r ≡ offsets_of w s k (lent vs bs ss ns ms)
  pub views : vs' ≡ if_accepted (why_offsets w s k (lent vs bs ss ns ms)) (from_offsets w s (lent vs bs ss ns ms)).views vs
  pub bytes : bs' ≡ if_accepted (why_offsets w s k (lent vs bs ss ns ms)) (from_offsets w s (lent vs bs ss ns ms)).bytes bs
  pub starts : ss' ≡ if_accepted (why_offsets w s k (lent vs bs ss ns ms)) (front ss (0 ∷ [])) ss
  pub lens : ns' ≡ if_accepted (why_offsets w s k (lent vs bs ss ns ms)) (front ns (length s.bytes ∷ [])) ns
  pub nulls : ms' ≡ if_accepted (why_offsets w s k (lent vs bs ss ns ms)) (from_offsets w s (lent vs bs ss ns ms)).nulls ms
