-- A view that shows a value, by its fields; the views that are made show theirs. Assumes nothing.
use Rattle.std.specs.Prelude.{◌≡◌, true, false, List, [], ◌∷◌, ◌++◌, ℕ, ◌+◌, ◌^◌, ◌≤◌, ◌<◌, length, get_or}
use Rattle.std.proofs.Common.{arith, le-leb, length-append}
use Rattle.std.proofs.lemmas.Bool.{lt-leb}
use Rattle.std.proofs.Math.Seq.{take-length, drop-append_seam, get_or-append_seam}
use Rattle.words.specs.Words.{pad}
use Rattle.views.specs.View.{view_size, short_most, is_short, length_of, prefix_of, body_of, block_of, offset_of, short_view, long_view}
use Rattle.views.specs.ViewLaws.{length-short, short-length, short-body, short-prefix, short-value, length-long, long-length, long-prefix, long-block, long-offset}
use Rattle.column.specs.Meaning.{part, shown}

-- the view v, over the blocks bs, shows x: its fields are those of x, and a long value lies in its block
pub record Row (bs : List (List ℕ)) (v x : List ℕ) : Type 0 where
  pub size : length v ≡ view_size
  pub len : length_of v ≡ length x
  pub pre : prefix_of v ≡ pad 4 x
  pub body : length x ≤ short_most → body_of v ≡ pad short_most x
  pub val : shown bs v ≡ x
  pub reach : short_most < length x → offset_of v + length x ≤ length (get_or bs (block_of v) [])

-- the bounds that a view's numbers of four bytes need
pub record Fits (x : List ℕ) (b o : ℕ) : Type 0 where
  pub len : length x < 2 ^ 32
  pub block : b < 2 ^ 32
  pub offset : o < 2 ^ 32

pub short_row : (bs : List (List ℕ)) (x : List ℕ) → length x ≤ short_most → Row bs (short_view x) x
unfolding shown
short_row bs x h =
    let l : length_of (short_view x) ≡ length x = short-length x (omega arith) in
    record {
      size = length-short x;
      len = l;
      pre = short-prefix x;
      body = λ k. short-body x;
      val = rw (l, le-leb (length x) short_most h) (short-value x h);
      reach = λ k. absurd (omega arith);
    }

pub long-row : (bs : List (List ℕ)) (x : List ℕ) (b o : ℕ) → short_most < length x → Fits x b o → o + length x ≤ length (get_or bs b [])
    → part bs b o (length x) ≡ x
    → Row bs (long_view x b o) x
unfolding shown
long-row bs x b o h f r p =
    let l : length_of (long_view x b o) ≡ length x = long-length x b o f.len in
    record {
      size = length-long x b o;
      len = l;
      pre = long-prefix x b o;
      body = λ k. absurd (omega arith);
      val = rw (l, lt-leb (length x) short_most h, long-block x b o f.block, long-offset x b o f.offset) p;
      reach = λ k. rw (long-block x b o f.block, long-offset x b o f.offset) r;
    }

-- a long value at the end of the last block
pub placed : (bs : List (List ℕ)) (c x : List ℕ) → short_most < length x → Fits x (length bs) (length c)
    → Row (bs ++ (c ++ x) ∷ []) (long_view x (length bs) (length c)) x
placed bs c x h f =
    long-row (bs ++ (c ++ x) ∷ []) x (length bs) (length c) h f (rw (get_or-append_seam, length-append) (omega arith))
    (rw (get_or-append_seam, drop-append_seam) (take-length x))

-- whether a view is short, by what it shows
module _ {bs : List (List ℕ)} {v x : List ℕ} (r : Row bs v x) where
  pub row-short : length x ≤ short_most → is_short (length_of v) ≡ true
  row-short h = rw r.len (le-leb (length x) short_most h)

  pub row-long : short_most < length x → is_short (length_of v) ≡ false
  row-long h = rw r.len (lt-leb (length x) short_most h)
