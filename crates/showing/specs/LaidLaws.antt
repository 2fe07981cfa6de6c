-- Rows, bits and blocks that are written one after the other are read back as they were written, after those that stood before. Assumes nothing.
use Rattle.std.specs.Prelude.{◌≡◌, refl, Bool, true, List, [], ◌∷◌, ◌++◌, map, ℕ, suc, ◌+◌, ◌*◌, ◌≤◌, ◌<◌, length, take, drop, get_or, set}
use Rattle.std.proofs.Common.{sym, ap, ◌∙◌, append-nil, add-zero, arith, length-append, length-set, take-take, take-add, drop-drop, take-suc-set, get_or-set_same, get_or-set_other}
use Rattle.std.proofs.lemmas.List.{map-append}
use Rattle.std.proofs.Math.Logic.{by_cases}
use Rattle.std.proofs.Math.Decide.{ℕ_discrete}
use Rattle.std.proofs.Math.Seq.{paste, append_snoc, take-append_seam, drop-append_seam}
use Rattle.null_bits.specs.Bits.{valid_at}
use Rattle.null_bits.specs.Runs.{put_bits}
use Rattle.null_bits.proofs.RunLaws.{bits-read}
use Rattle.column.specs.declared.Block.{Block}
use Rattle.column.specs.Lent.{Lent, buffers, block, block_at}
use Rattle.column.specs.Meaning.{bytes_of, blocks_of}
use Rattle.column.specs.Laid.{rows_of, flat, put_table}
use Rattle.showing.specs.Stores.{rows_same, paste-here, blocks-paste}

pub length-put-table : (t : List Block) (k at : ℕ) (xs : List (List ℕ)) → length (put_table t k at xs) ≡ length t
unfolding put_table
length-put-table t k at [] = refl
length-put-table t k at (x ∷ xs) = length-put-table (set t k (block at (length x))) (suc k) (at + length x) xs ∙ length-set t k (block at (length x))

-- the first piece, and what follows it
front : (x y d : List ℕ) → take (length (x ++ y)) d ≡ x ++ y → take (length x) d ≡ x
front x y d h =
    sym (take-take (length x) (length (x ++ y)) d (rw length-append (omega arith))) ∙ ap (take (length x)) h ∙ take-append_seam x y

rest : (x y d : List ℕ) → take (length (x ++ y)) d ≡ x ++ y → take (length y) (drop (length x) d) ≡ y
rest x y d h =
    let e : x ++ take (length y) (drop (length x) d) ≡ x ++ y =
    ap (λ (p : List ℕ). p ++ take (length y) (drop (length x) d)) (sym (front x y d h)) ∙ sym (take-add (length x) (length y) d) ∙ rw length-append at h in
    sym (drop-append_seam x (take (length y) (drop (length x) d))) ∙ ap (drop (length x)) e ∙ drop-append_seam x y

-- over bytes that have the blocks end to end from a place
table-put : (d : List ℕ) (t : List Block) (k at : ℕ) (xs : List (List ℕ)) → take (length (flat xs)) (drop at d) ≡ flat xs → k + length xs ≤ length t
    → map (bytes_of d) (take (k + length xs) (put_table t k at xs)) ≡ map (bytes_of d) (take k t) ++ xs
unfolding put_table flat
table-put d t k at [] h r = rw (add-zero k) (sym (append-nil (map (bytes_of d) (take k t))))
table-put d t k at (x ∷ xs) h r =
    let b : Block = block at (length x) in
    let n : k + suc (length xs) ≡ suc k + length xs = omega arith in
    let here : bytes_of d b ≡ x = front x (flat xs) (drop at d) h in
    let more : take (length (flat xs)) (drop (at + length x) d) ≡ flat xs = rw drop-drop at (rest x (flat xs) (drop at d) h) in
    let last : map (bytes_of d) (take (suc k) (set t k b)) ≡ map (bytes_of d) (take k t) ++ x ∷ [] =
    rw (take-suc-set t k b (omega arith)) (map-append (bytes_of d) (take k t) (b ∷ []) ∙ rw here) in
    rw n
    (table-put d (set t k b) (suc k) (at + length x) xs more (rw (length-set t k b) (omega arith))
    ∙ ap (λ (p : List (List ℕ)). p ++ xs) last ∙ append_snoc (map (bytes_of d) (take k t)) x xs)

pub blocks-put : (l : Lent) (k at : ℕ) (xs : List (List ℕ)) (vs ns : List ℕ) → k + length xs ≤ length l.table
    → ((j : ℕ) → j < k → (block_at l j).start + (block_at l j).len ≤ at) → at + length (flat xs) ≤ length l.bytes
    → blocks_of (buffers vs (paste l.bytes at (flat xs) (length (flat xs))) (put_table l.table k at xs) ns) (k + length xs) ≡ blocks_of l k ++ xs
unfolding blocks_of
blocks-put l k at xs vs ns r h f =
    table-put (paste l.bytes at (flat xs) (length (flat xs))) l.table k at xs (paste-here l.bytes at (flat xs) f) r
    ∙ ap (λ (p : List (List ℕ)). p ++ xs) (blocks-paste l k at (flat xs) vs ns (omega arith) h f)

-- all of them end where the bytes written end
pub table-ends : (t : List Block) (k at : ℕ) (xs : List (List ℕ)) → k + length xs ≤ length t
    → ((j : ℕ) → j < k → (get_or t j (block 0 0)).start + (get_or t j (block 0 0)).len ≤ at)
    → (j : ℕ) → j < k + length xs → (get_or (put_table t k at xs) j (block 0 0)).start + (get_or (put_table t k at xs) j (block 0 0)).len ≤ at + length (flat xs)
unfolding put_table flat
table-ends t k at [] r h j i = omega (arith, h j (omega arith))
table-ends t k at (x ∷ xs) r h j i =
    rw length-append
    (omega (
      arith,
      table-ends (set t k (block at (length x))) (suc k) (at + length x) xs (rw (length-set t k (block at (length x))) (omega arith))
          step j (omega arith),
    ))
  where
    step : (j : ℕ) → j < suc k → (get_or (set t k (block at (length x))) j (block 0 0)).start + (get_or (set t k (block at (length x))) j (block 0 0)).len
        ≤ at + length x
    step j i =
        by_cases (ℕ_discrete j k)
        (λ e. rw (e, get_or-set_same t k (block at (length x)) (block 0 0) (omega arith)) (omega arith))
        (λ e. rw (get_or-set_other t k j (block at (length x)) (block 0 0) e) (omega (arith, h j (omega arith))))

pub bits-anew : (m : List ℕ) (f : ℕ → Bool) (n : ℕ) → n ≤ 8 * length m → rows_of (λ i. valid_at (put_bits m 0 f n) true (0 + i)) n ≡ rows_of f n
unfolding valid_at
bits-anew m f n h = rows_same (λ i. valid_at (put_bits m 0 f n) true (0 + i)) f n (λ i k. bits-read m 0 f n i (omega arith) k)
