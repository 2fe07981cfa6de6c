-- Lists by row, and stores into buffers of any content as steps of the lists that they stand for: a view, a bit, bytes, a block's record. Assumes nothing.
use Rattle.std.specs.Prelude.{◌≡◌, refl, Bool, ℕ, zero, suc, ◌+◌, ◌*◌, ◌/◌, ◌≤◌, ◌<◌, length, take, drop, get_or, set}
use Rattle.std.proofs.Common.{sym, ◌∙◌, arith, length-append, length-take, length-drop, ext_get_or, get_or-take, take_all, take-add, drop-drop, take-suc-set}
use mathlib.Core.List.{List, [], ◌∷◌, ◌++◌, map-append}
use Rattle.std.proofs.Math.Logic.{by_cases}
use Rattle.std.proofs.Math.Decide.{ℕ_discrete}
use Rattle.std.proofs.lemmas.List.{length-map, get_or_at}
use Rattle.std.proofs.Math.ListN.{get_or-append, get_or-map, get_or-eq_default}
use Rattle.std.proofs.Math.Seq.{paste, length-take-le}
use Rattle.null_bits.specs.Bits.{is_valid, put_bit}
use Rattle.null_bits.proofs.PutLaws.{valid-put-same, valid-put-before}
use Rattle.views.specs.View.{view_size, view_at}
use Rattle.views.specs.ViewLaws.{part-stored, part-before, view-stored, view-before}
use Rattle.column.specs.declared.Block.{Block}
use Rattle.column.specs.Lent.{Lent, buffers, block, block_at}
use Rattle.column.specs.Meaning.{bytes_of, blocks_of}
use Rattle.column.specs.Laid.{rows_of}

pub length-rows : {A : Type 0} (f : ℕ → A) (n : ℕ) → length (rows_of f n) ≡ n
unfolding rows_of
length-rows f zero = refl
length-rows f (suc n) = rw (length-append, length-rows f n) (omega arith)

pub get_d_rows : {A : Type 0} (f : ℕ → A) (n i : ℕ) (d : A) → i < n → get_or (rows_of f n) i d ≡ f i
unfolding rows_of
get_d_rows f zero i d h = absurd (omega arith)
get_d_rows f (suc n) i d h =
    by_cases (ℕ_discrete i n)
    (λ e. rw e (get_or_at (rows_of f n) (f n) [] d n (length-rows f n)))
    (λ e. get_or-append (rows_of f n) (f n ∷ []) d i (rw (length-rows f n) (omega arith)) ∙ get_d_rows f n i d (omega arith))

pub rows_same : {A : Type 0} (f g : ℕ → A) (n : ℕ) → ((i : ℕ) → i < n → f i ≡ g i) → rows_of f n ≡ rows_of g n
unfolding rows_of
rows_same f g zero h = refl
rows_same f g (suc n) h = rw (rows_same f g n (λ i k. h i (omega arith)), h n (omega arith))

-- a list is what is said of its places
pub rows-list : {A : Type 0} (f : ℕ → A) (xs : List A) (d : A) → ((i : ℕ) → i < length xs → f i ≡ get_or xs i d) → rows_of f (length xs) ≡ xs
rows-list f xs d h =
    let e : length (rows_of f (length xs)) ≡ length xs = length-rows f (length xs) in
    ext_get_or d (rows_of f (length xs)) xs e
    (λ i k. get_d_rows f (length xs) i d (rw e at k) ∙ h i (rw e at k))

-- the rows before n are those of g, and row n is a
pub rows_last : {A : Type 0} (f g : ℕ → A) (n : ℕ) (a : A) → ((i : ℕ) → i < n → f i ≡ g i) → f n ≡ a → rows_of f (suc n) ≡ rows_of g n ++ a ∷ []
unfolding rows_of
rows_last f g n a h e = rw (rows_same f g n h, e)

-- a view stored after n rows is one row more; a bit likewise
pub views-paste : (s v : List ℕ) (n : ℕ) → length v ≡ view_size → view_size * n + view_size ≤ length s
    → rows_of (view_at (paste s (view_size * n) v view_size)) (suc n) ≡ rows_of (view_at s) n ++ v ∷ []
views-paste s v n h k = rows_last (view_at (paste s (view_size * n) v view_size)) (view_at s) n v (view-before s v n h k) (view-stored s v n h k)

pub bits_put : (m : List ℕ) (b : Bool) (n : ℕ) → n / 8 < length m → rows_of (is_valid (put_bit m n b)) (suc n) ≡ rows_of (is_valid m) n ++ b ∷ []
bits_put m b n h = rows_last (is_valid (put_bit m n b)) (is_valid m) n b (λ i k. valid-put-before m n i b h k) (valid-put-same m n b h)

module _ (d : List ℕ) (at : ℕ) (x : List ℕ) (fits : at + length x ≤ length d) where
  pub paste-here : take (length x) (drop at (paste d at x (length x))) ≡ x
  paste-here = part-stored d x at (length x) fits (omega arith) ∙ take_all (length x) x (omega arith)

  -- what lies before the place stays
  pub part-paste : (s n : ℕ) → s + n ≤ at → take n (drop s (paste d at x (length x))) ≡ take n (drop s d)
  part-paste s n h = part-before d x at (length x) s n h (omega arith)

-- bytes stored at the end of a block that reaches so far are at its end
pub open-paste : (d : List ℕ) (s n : ℕ) (x : List ℕ) → s + n + length x ≤ length d
    → take (n + length x) (drop s (paste d (s + n) x (length x))) ≡ take n (drop s d) ++ x
open-paste d s n x h = rw (
  take-add n (length x) (drop s (paste d (s + n) x (length x))),
  drop-drop,
  paste-here d (s + n) x h,
  part-paste d (s + n) x
      h s n (omega arith),
)

module _ (l : Lent) (n : ℕ) where
  pub length-blocks : n ≤ length l.table → length (blocks_of l n) ≡ n
  unfolding blocks_of
  length-blocks h = rw (length-map, length-take-le n l.table h)

  pub blocks_at_lem : (k : ℕ) → k < n → get_or (blocks_of l n) k [] ≡ bytes_of l.bytes (block_at l k)
  unfolding blocks_of
  blocks_at_lem k h = get_or-map (bytes_of l.bytes) (take n l.table) k (block 0 0) ∙ rw (get_or-take n l.table k (block 0 0) h)

  -- there is no other block
  pub blocks-past : (k : ℕ) → n ≤ k → get_or (blocks_of l n) k [] ≡ []
  unfolding blocks_of
  blocks-past k h = get_or-eq_default (blocks_of l n) [] {n = k} (rw (length-map, length-take) (omega arith))

  -- a record stored after n blocks is one block more
  pub blocks-set : (b : Block) (vs ns : List ℕ) → n < length l.table
      → blocks_of (buffers vs l.bytes (set l.table n b) ns) (suc n) ≡ blocks_of l n ++ bytes_of l.bytes b ∷ []
  unfolding blocks_of
  blocks-set b vs ns h = rw (take-suc-set l.table n b h) (map-append (bytes_of l.bytes) (take n l.table) (b ∷ []))

-- how long a block's bytes are: as its record says, if it lies in the bytes
pub block-length : (d : List ℕ) (b : Block) → b.start + b.len ≤ length d → length (bytes_of d b) ≡ b.len
block-length d b h = length-take-le b.len (drop b.start d) (rw length-drop (omega arith))

pub block-most : (d : List ℕ) (b : Block) → length (bytes_of d b) ≤ b.len
block-most d b = rw length-take (omega arith)

-- blocks that agree one by one
pub blocks-same : (l m : Lent) (n : ℕ) → n ≤ length l.table → n ≤ length m.table
    → ((k : ℕ) → k < n → bytes_of l.bytes (block_at l k) ≡ bytes_of m.bytes (block_at m k)) → blocks_of l n ≡ blocks_of m n
blocks-same l m n h k e =
    let p : length (blocks_of l n) ≡ n = length-blocks l n h in
    let q : length (blocks_of m n) ≡ n = length-blocks m n k in
    ext_get_or [] (blocks_of l n) (blocks_of m n) (p ∙ sym q)
    (λ i j. let i<n : i < n = omega arith in blocks_at_lem l n i i<n ∙ e i i<n ∙ sym (blocks_at_lem m n i i<n))

-- bytes stored past all blocks change none
pub blocks-paste : (l : Lent) (n at : ℕ) (x : List ℕ) (vs ns : List ℕ) → n ≤ length l.table
    → ((k : ℕ) → k < n → (block_at l k).start + (block_at l k).len ≤ at) → at + length x ≤ length l.bytes
    → blocks_of (buffers vs (paste l.bytes at x (length x)) l.table ns) n ≡ blocks_of l n
blocks-paste l n at x vs ns r h f =
    blocks-same (buffers vs (paste l.bytes at x (length x)) l.table ns) l n r r
    (λ k j. part-paste l.bytes at x f (block_at l k).start (block_at l k).len (h k j))
