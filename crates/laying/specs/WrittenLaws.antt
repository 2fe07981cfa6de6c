-- What is written from the front of buffers is read back: views, blocks, and the table as two number slices. Assumes nothing.
use Rattle.std.specs.Prelude.{◌≡◌, List, [], ◌∷◌, ◌++◌, map, length, set, take, drop, get_or}
use Rattle.std.proofs.Math.Path.{refl}
use Rattle.std.proofs.Common.{sym, ap, subst, ◌∙◌, append-nil, append_assoc, not-suc-le-zero, add-zero, zero-add, add_assoc, add-one, arith, length-append, length-drop, take_at, drop-drop, drop-cons}
use Prim.Native.Nat.{ℕ, zero, suc, ◌+◌, ◌*◌, ◌≤◌, ◌<◌}
use Rattle.std.proofs.lemmas.List.{length-map}
use Rattle.std.proofs.Math.Seq.{paste, length-paste, take-append_seam, drop-append_seam, take-length, drop-append-add, set-append_seam, append_snoc}
use Rattle.views.specs.View.{view_size, view_at}
use Rattle.column.specs.declared.Block.{Block}
use Rattle.column.specs.Lent.{buffers, block, table_of}
use Rattle.column.proofs.FitLaws.{length-table}
use Rattle.column.specs.Meaning.{bytes_of, blocks_of}
use Rattle.column.specs.Laid.{rows_of, flat}
use Rattle.showing.specs.Stores.{views-paste}
use Rattle.laying.specs.Written.{front, put_rows, total, starts_from}

pub total-append : (ms ns : List ℕ) → total (ms ++ ns) ≡ total ms + total ns
unfolding total
total-append [] ns = sym (zero-add (total ns))
total-append (m ∷ ms) ns = rw (total-append ms ns) (sym (add_assoc m (total ms) (total ns)))

pub total-one : (n : ℕ) → total (n ∷ []) ≡ n
unfolding total
total-one n = add-zero n

-- ---- the front of a buffer grows

pub front-paste : (d xs y : List ℕ) (o : ℕ) → o ≡ length xs → paste (front d xs) o y (length y) ≡ front d (xs ++ y)
front-paste d xs y o e =
    rw (
      e,
      take-append_seam xs (drop (length xs) d),
      take-length y,
      drop-append-add xs (drop (length xs) d) (length y),
      drop-drop (length y)
          (length xs) d,
      length-append xs y,
    )

pub front-set : (d xs : List ℕ) (o a : ℕ) → o ≡ length xs → length xs < length d → set (front d xs) o a ≡ front d (xs ++ a ∷ [])
front-set d xs o a e h =
    rw (e, drop-cons d (length xs) 0 h, set-append_seam, length-append xs (a ∷ []), add-one (length xs), append_snoc)

-- ---- lengths, starts and bytes of one more

pub flat-snoc : (xs : List (List ℕ)) (x : List ℕ) → flat (xs ++ x ∷ []) ≡ flat xs ++ x
unfolding flat
flat-snoc [] x = append-nil x
flat-snoc (y ∷ xs) x = rw (flat-snoc xs x) (sym (append_assoc y (flat xs) x))

pub starts-snoc : (at : ℕ) (ns : List ℕ) (n : ℕ) → starts_from at (ns ++ n ∷ []) ≡ starts_from at ns ++ (at + total ns) ∷ []
unfolding starts_from total
starts-snoc at [] n = rw (add-zero at)
starts-snoc at (m ∷ ns) n = rw (starts-snoc (at + m) ns n, add_assoc at m (total ns))

pub length-starts : (at : ℕ) (ns : List ℕ) → length (starts_from at ns) ≡ length ns
unfolding starts_from
length-starts at [] = refl
length-starts at (n ∷ ns) = ap suc (length-starts (at + n) ns)

pub front-one : (d : List ℕ) (x : ℕ) → 0 < length d → set d 0 x ≡ front d (x ∷ [])
front-one [] x h = absurd (omega arith)
front-one (y ∷ d) x h = refl

pub length_front : {A : Type 0} (d xs : List A) → length xs ≤ length d → length (front d xs) ≡ length d
length_front d xs h = rw (length-append xs (drop (length xs) d), length-drop (length xs) d) (omega arith)

-- ---- views

module _ (s : List ℕ) (f : ℕ → List ℕ) where
  pub length-put-rows : (n : ℕ) → ((r : ℕ) → r < n → length (f r) ≡ view_size) → view_size * n ≤ length s → length (put_rows s f n) ≡ length s
  unfolding put_rows
  length-put-rows zero h k = refl
  length-put-rows (suc n) h k =
      let e = length-put-rows n (λ r l. h r (omega arith)) (omega arith) in
      length-paste (put_rows s f n) (16 * n) (f n) 16 (omega arith) (omega (arith, h n (omega arith))) ∙ e

  pub views-read : (n : ℕ) → ((r : ℕ) → r < n → length (f r) ≡ view_size) → view_size * n ≤ length s → rows_of (view_at (put_rows s f n)) n ≡ rows_of f n
  unfolding rows_of put_rows
  views-read zero h k = refl
  views-read (suc n) h k =
      let e = length-put-rows n (λ r l. h r (omega arith)) (omega arith) in
      views-paste (put_rows s f n) (f n) n (h n (omega arith)) (omega arith) ∙ rw (views-read n (λ r l. h r (omega arith)) (omega arith))

-- ---- blocks

abbrev pub records : ℕ → List ℕ → List Block
records at ns = table_of (starts_from at ns) ns

pub length-records : (at : ℕ) (ns : List ℕ) → length (records at ns) ≡ length ns
length-records at ns = length-table (starts_from at ns) ns ∙ omega (arith, length-starts at ns)

records-read : (pre rest : List ℕ) (xs : List (List ℕ)) → map (bytes_of (pre ++ (flat xs ++ rest))) (records (length pre) (map length xs)) ≡ xs
unfolding starts_from table_of flat
records-read pre rest [] = refl
records-read pre rest (x ∷ xs) =
    let e : pre ++ ((x ++ flat xs) ++ rest) ≡ (pre ++ x) ++ (flat xs ++ rest) = simp append_assoc in
    let n : length pre + length x ≡ length (pre ++ x) = sym (length-append pre x) in
    let here : take (length x) (drop (length pre) (pre ++ ((x ++ flat xs) ++ rest))) ≡ x =
    rw (drop-append_seam pre ((x ++ flat xs) ++ rest), append_assoc x (flat xs) rest) (take-append_seam x (flat xs ++ rest)) in
    let later : map (bytes_of (pre ++ ((x ++ flat xs) ++ rest))) (records (length pre + length x) (map length xs)) ≡ xs =
    subst (λ (l : List ℕ). map (bytes_of l) (records (length pre + length x) (map length xs)) ≡ xs) (sym e) (rw n (records-read (pre ++ x) rest xs)) in
    rw here (ap (λ (t : List (List ℕ)). x ∷ t) later)

pub blocks-read : (d : List ℕ) (t : List Block) (xs : List (List ℕ)) (vs ms : List ℕ)
    → blocks_of (buffers vs (front d (flat xs)) (front t (records 0 (map length xs))) ms) (length xs) ≡ xs
unfolding blocks_of
blocks-read d t xs vs ms =
    let n : length (records 0 (map length xs)) ≡ length xs = length-records 0 (map length xs) ∙ length-map xs length in
    rw (take_at (records 0 (map length xs)) (drop (length (records 0 (map length xs))) t) (length xs) n) (records-read [] (drop (length (flat xs)) d) xs)

-- each ends within all of them
pub record-ends : (at : ℕ) (ns : List ℕ) (k : ℕ) → k < length ns → (get_or (records at ns) k (block 0 0)).start + (get_or (records at ns) k (block 0 0)).len
    ≤ at + total ns
unfolding starts_from table_of total
record-ends at [] k h = absurd (not-suc-le-zero h)
record-ends at (n ∷ ns) zero h = omega arith
record-ends at (n ∷ ns) (suc k) h = omega (arith, record-ends (at + n) ns k (omega arith))

-- ---- the table as two number slices

table-append : (xs ys us bs : List ℕ) → length xs ≡ length ys → table_of (xs ++ us) (ys ++ bs) ≡ table_of xs ys ++ table_of us bs
unfolding table_of
table-append [] [] us bs e = refl
table-append [] (y ∷ ys) us bs e = absurd (omega arith)
table-append (x ∷ xs) [] us bs e = absurd (omega arith)
table-append (x ∷ xs) (y ∷ ys) us bs e = ap (λ (t : List Block). block x y ∷ t) (table-append xs ys us bs (omega arith))

table-drop : (n : ℕ) (us bs : List ℕ) → table_of (drop n us) (drop n bs) ≡ drop n (table_of us bs)
unfolding table_of
table-drop zero us bs = refl
table-drop (suc n) [] bs = refl
table-drop (suc n) (a ∷ us) [] = table_none (drop n us)
  where
    table_none : (l : List ℕ) → table_of l [] ≡ []
    table_none [] = refl
    table_none (x ∷ l) = refl
table-drop (suc n) (a ∷ us) (b ∷ bs) = table-drop n us bs

pub table-front : (ss ns xs ys : List ℕ) → length xs ≡ length ys → table_of (front ss xs) (front ns ys) ≡ front (table_of ss ns) (table_of xs ys)
table-front ss ns xs ys e =
    let n : length (table_of xs ys) ≡ length ys = length-table xs ys ∙ omega arith in
    table-append xs ys (drop (length xs) ss) (drop (length ys) ns) e ∙ rw (e, n, table-drop (length ys) ss ns)
