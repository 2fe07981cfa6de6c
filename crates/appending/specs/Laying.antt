-- Blocks and rows laid one after the other, field by field. Assumes nothing.
use Rattle.std.specs.Prelude.{◌≡◌, Bool, true, List, [], ℕ, zero, suc, ◌+◌, ◌*◌, ◌^◌, ◌≤◌, ◌<◌, length, set, get_or}
use Rattle.std.proofs.Math.Seq.{paste}
use Rattle.basis.specs.Pick.{pick}
use Rattle.column.specs.declared.Block.{Block}
use Rattle.column.specs.declared.Column.{Column}
use Rattle.column.specs.declared.Kind.{Kind}
use Rattle.column.specs.Lent.{block, all_in_data}
use Rattle.column.specs.Room.{bare, Listed}
use Rattle.builder.specs.declared.State.{State}
use Rattle.builder.specs.State.{moved}

-- the state with a block of n bytes more
abbrev pub block_more : ℕ → State → State
block_more n s = moved s s.growth s.rows (suc s.blocks) (s.base + n) s.fill s.cap s.nulled

-- the state with rows more, blocks more up to an end, and the flag
abbrev pub column_more : ℕ → ℕ → ℕ → Bool → State → State
column_more rows blocks end nulled s = moved s s.growth (s.rows + rows) (s.blocks + blocks) end s.fill s.cap nulled

-- where the first n of the blocks f end that lie from `at` on
unfoldable pub end_from : (ℕ → List ℕ) → ℕ → ℕ → ℕ
end_from f zero at = at
end_from f (suc n) at = end_from f n at + length (f n)

-- their bytes, their starts, their lengths and their records
unfoldable pub put_data : (ℕ → List ℕ) → ℕ → List ℕ → ℕ → List ℕ
put_data f zero bs at = bs
put_data f (suc n) bs at = paste (put_data f n bs at) (end_from f n at) (f n) (length (f n))

unfoldable pub put_starts : (ℕ → List ℕ) → ℕ → List ℕ → ℕ → ℕ → List ℕ
put_starts f zero ss k at = ss
put_starts f (suc n) ss k at = set (put_starts f n ss k at) (k + n) (end_from f n at)

unfoldable pub put_lens : (ℕ → List ℕ) → ℕ → List ℕ → ℕ → List ℕ
put_lens f zero ns k = ns
put_lens f (suc n) ns k = set (put_lens f n ns k) (k + n) (length (f n))

unfoldable pub put_records : (ℕ → List ℕ) → ℕ → List Block → ℕ → ℕ → List Block
put_records f zero t k at = t
put_records f (suc n) t k at = set (put_records f n t k at) (k + n) (block (end_from f n at) (length (f n)))

-- the views f stored from row r on
unfoldable pub put_from : (ℕ → List ℕ) → ℕ → List ℕ → ℕ → List ℕ
put_from f zero vs r = vs
put_from f (suc n) vs r = paste (put_from f n vs r) (16 * (r + n)) (f n) 16

-- whether a row was null, before or among n rows
unfoldable pub nulled_by : (ℕ → Bool) → ℕ → Bool → Bool
nulled_by f zero b = b
nulled_by f (suc n) b = pick (f n) (nulled_by f n b) true

-- the first n lengths together
unfoldable pub lens_total : List ℕ → ℕ → ℕ
lens_total ns zero = 0
lens_total ns (suc n) = lens_total ns n + get_or ns n 0

abbrev pub by_kind : Kind → Column → Column
by_kind k c = record { first = c.first; rows = c.rows; blocks = c.blocks; kind = k; mapped = c.mapped }

-- n blocks of another table, which lie in its data, have room in buffers of these lengths
pub record Taking (bytes starts lens first base : ℕ) (bs ss ns : List ℕ) (n : ℕ) : Type 0 where
  pub inside : base + lens_total ns n ≤ bytes
  pub small : base + lens_total ns n < 2 ^ 64
  pub starts-room : first + n ≤ starts
  pub lens-room : first + n ≤ lens
  pub few : first + n < 2 ^ 64
  pub listed : Listed ss ns n
  pub lie : all_in_data (bare [] bs ss ns) n ≡ true
