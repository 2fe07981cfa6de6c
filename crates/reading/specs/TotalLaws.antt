-- Totals row by row, over the buffers that they ask. Assumes nothing.
use Rattle.std.specs.Prelude.{◌≡◌, Bool, true, false, List, [], length}
use Rattle.std.proofs.Math.Path.{refl}
use Rattle.std.proofs.Common.{sym, true≢false, add-one}
use Prim.Native.Nat.{ℕ, zero, suc, ◌+◌, ◌*◌, ◌≤◌}
use Rattle.basis.specs.Pick.{pick}
use Rattle.bounds.specs.Bounds.{row_limit}
use Rattle.null_bits.specs.Bits as bits
use Rattle.views.specs.View.{view_size, length_of, is_short, view_at}
use Rattle.column.specs.declared.Kind.TheVariants.{Binary}
use Rattle.column.specs.declared.Column.{Column}
use Rattle.column.specs.Lent.{Lent, buffers, lent, fits}
use Rattle.column.proofs.FitLaws.{fits_gives}
use Rattle.column.specs.Meaning.{row_valid}
use Rattle.reading.specs.Reading.{bytes_len, buffer_bytes}

-- a column of which only the rows are asked
abbrev pub rows_only : Bool → ℕ → Column
rows_only mapped first = record { first = first; rows = 0; blocks = 0; kind = Binary; mapped = mapped }

-- the views have the rows from first on, and so has the null map, if there is one
pub record Held (vs ms : List ℕ) (mapped : Bool) (first rows : ℕ) : Type 0 where
  pub limit : first + rows ≤ row_limit
  pub views : view_size * (first + rows) ≤ length vs
  pub bits : mapped ≡ true → first + rows ≤ 8 * length ms

module _ (l : Lent) (c : Column) (k s x : ℕ) where
  pub bytes-more : s ≡ bytes_len l c k → x ≡ pick (bits.valid_at l.nulls c.mapped (c.first + k)) (length_of (view_at l.views (c.first + k))) 0
      → s + x ≡ bytes_len l c (k + 1)
  unfolding bytes_len row_valid
  bytes-more e f = rw (add-one k, e, f)

  pub buffer-more : s ≡ buffer_bytes l c k → x ≡ pick (is_short (length_of (view_at l.views (c.first + k)))) 0 (length_of (view_at l.views (c.first + k)))
      → s + x ≡ buffer_bytes l c (k + 1)
  unfolding buffer_bytes
  buffer-more e f = rw (add-one k, e, f)

pub bytes-none : (l : Lent) (c : Column) → 0 ≡ bytes_len l c 0
unfolding bytes_len
bytes-none l c = refl

pub buffer-none : (l : Lent) (c : Column) → 0 ≡ buffer_bytes l c 0
unfolding buffer_bytes
buffer-none l c = refl

-- nothing else of the column is asked, nor the null map for the long rows
module _ (views bytes starts lens nulls : List ℕ) (c : Column) where
  pub bytes-bare : (n : ℕ) → bytes_len (buffers views [] [] nulls) (rows_only c.mapped c.first) n ≡ bytes_len (lent views bytes starts lens nulls) c n
  unfolding bytes_len row_valid
  bytes-bare zero = refl
  bytes-bare (suc n) = rw (bytes-bare n)

  pub buffer-bare : (n : ℕ) → buffer_bytes (buffers views [] [] []) (rows_only false c.first) n ≡ buffer_bytes (lent views bytes starts lens nulls) c n
  unfolding buffer_bytes
  buffer-bare zero = refl
  buffer-bare (suc n) = rw (buffer-bare n)

  pub fits-held : fits (lent views bytes starts lens nulls) c ≡ true → Held views nulls c.mapped c.first c.rows
  fits-held f = let g = fits_gives views bytes starts lens nulls c f in record { limit = g.rows; views = g.views; bits = g.bits }

  pub fits-views : fits (lent views bytes starts lens nulls) c ≡ true → Held views [] false c.first c.rows
  fits-views f = let g = fits_gives views bytes starts lens nulls c f in record { limit = g.rows; views = g.views; bits = λ e. absurd (true≢false (sym e)) }
