-- Laws of rows that go on showing values as blocks grow. Assumes nothing.
use Rattle.std.specs.Prelude.{◌≡◌, refl, Bool, true, false, List, [], ◌∷◌, ◌++◌, ℕ, zero, suc, ◌+◌, ◌≤◌, ◌<◌, length, drop, get_or}
use Rattle.std.proofs.Common.{ap, not-suc-le-zero, le_of_suc-le-suc, arith, leb-true, leb-false, length-drop, length-append}
use Rattle.std.proofs.lemmas.List.{take-append-le, drop-append-le}
use Rattle.views.specs.View.{short_most, is_short, block_of, offset_of}
use Rattle.column.specs.Meaning.{part, shown}
use Rattle.showing.specs.Row.{Row, row-short, row-long}
use Rattle.showing.specs.Rows.{Ext, more, keep, grow, Rows, rnil, rcons}

pub part_ext : {bs cs : List (List ℕ)} → Ext bs cs → (b o n : ℕ) → o + n ≤ length (get_or bs b []) → part cs b o n ≡ part bs b o n
part_ext more b o n h = let z : n ≡ 0 = omega arith in rw z
part_ext (keep e) zero o n h = refl
part_ext (keep e) (suc b) o n h = part_ext e b o n h
part_ext (grow {b = c} m e) zero o n h =
    let k : o ≤ length c = omega arith in
    let j : n ≤ length (drop o c) = simp length-drop (omega arith) in
    rw (drop-append-le o c m k, take-append-le n (drop o c) m j)
part_ext (grow m e) (suc b) o n h = part_ext e b o n h

pub reach-ext : {bs cs : List (List ℕ)} → Ext bs cs → (b n : ℕ) → n ≤ length (get_or bs b []) → n ≤ length (get_or cs b [])
reach-ext more b n h = omega arith
reach-ext (keep e) zero n h = h
reach-ext (keep e) (suc b) n h = reach-ext e b n h
reach-ext (grow {b = c} m e) zero n h = simp length-append (omega arith)
reach-ext (grow m e) (suc b) n h = reach-ext e b n h

-- the last block grows; blocks are added
pub ext-last : (bs : List (List ℕ)) (c m : List ℕ) → Ext (bs ++ c ∷ []) (bs ++ (c ++ m) ∷ [])
ext-last [] c m = grow m more
ext-last (b ∷ bs) c m = keep (ext-last bs c m)

pub ext-add : (bs cs : List (List ℕ)) → Ext bs (bs ++ cs)
ext-add [] cs = more
ext-add (b ∷ bs) cs = keep (ext-add bs cs)

-- a row goes on showing what it showed: a short one over any blocks, a long one over more
pub row_any : {bs cs : List (List ℕ)} {v x : List ℕ} → length x ≤ short_most → Row bs v x → Row cs v x
unfolding shown
row_any {bs} {cs} {v} {x} h r =
    record {
      size = r.size;
      len = r.len;
      pre = r.pre;
      body = r.body;
      val = rw (row-short r h) (rw (row-short r h) at r.val);
      reach = λ k. absurd (omega arith);
    }

pub row-ext : {bs cs : List (List ℕ)} {v x : List ℕ} → Ext bs cs → Row bs v x → Row cs v x
unfolding shown
row-ext {bs} {cs} {v} {x} e r = by (is_short (length x)) refl
  where
    by : (t : Bool) → is_short (length x) ≡ t → Row cs v x
    by true t = row_any (leb-true (length x) short_most t) r
    by false t =
        let h : short_most < length x = leb-false (length x) short_most t in
        let p : part cs (block_of v) (offset_of v) (length x) ≡ part bs (block_of v) (offset_of v) (length x) = part_ext e (block_of v) (offset_of v)
        (length x) (r.reach h) in
        record {
          size = r.size;
          len = r.len;
          pre = r.pre;
          body = r.body;
          val = rw (row-long r h, r.len, p) (rw (row-long r h, r.len) at r.val);
          reach = λ k. reach-ext e (block_of v) (offset_of v + length x) (r.reach h);
        }

pub rows_ext : {bs cs vs xs : List (List ℕ)} → Ext bs cs → Rows bs vs xs → Rows cs vs xs
rows_ext e rnil = rnil
rows_ext e (rcons r rs) = rcons (row-ext e r) (rows_ext e rs)

pub rows_snoc : {bs vs xs : List (List ℕ)} {v x : List ℕ} → Rows bs vs xs → Row bs v x → Rows bs (vs ++ v ∷ []) (xs ++ x ∷ [])
rows_snoc rnil r = rcons r rnil
rows_snoc (rcons s rs) r = rcons s (rows_snoc rs r)

pub rows-length : {bs vs xs : List (List ℕ)} → Rows bs vs xs → length vs ≡ length xs
rows-length rnil = refl
rows-length (rcons s rs) = ap suc (rows-length rs)

pub rows_at : {bs vs xs : List (List ℕ)} → Rows bs vs xs → (i : ℕ) → i < length vs → Row bs (get_or vs i []) (get_or xs i [])
rows_at rnil i h = absurd (not-suc-le-zero h)
rows_at (rcons s rs) zero h = s
rows_at (rcons s rs) (suc i) h = rows_at rs i (le_of_suc-le-suc h)
