-- What the fields of a made view say, the fields of a row's view as words of all views, and a row's view stored. Assumes nothing.
use Rattle.std.specs.Prelude.{◌≡◌, Bool, take, drop, Ok, Err}
use Rattle.std.proofs.Math.Path.{refl}
use Rattle.std.proofs.Common.{sym, ap, ◌∙◌, add-zero, zero-add, suc-add, arith, lt-ltb, le-ltb, le-leb, drop_of_length-le, length-append, take_at, take-take}
use mathlib.Core.List.{List, [], ◌∷◌, ◌++◌, append_assoc, append-nil}
use Rattle.std.proofs.Math.Bool.{true, false}
use Prim.Native.Nat.{ℕ, zero, suc, ◌+◌, ◌*◌, ◌^◌, ◌≤◌, ◌<◌}
use Rattle.std.proofs.lemmas.Bool.{lt-leb}
use Rattle.std.proofs.Math.ListN.{length, length-drop}
use Rattle.std.proofs.Math.Seq.{take-nil, drop_at, take_all, drop-drop, length-take-le, paste}
use Rattle.std.proofs.lemmas.List.{take-append-le}
use Rattle.basis.specs.Pick.{pick}
use Rattle.words.specs.Words.{word_at, enc, pad}
use Rattle.words.specs.ListLaws.{length-enc, dec-enc, length-pad, take-pad, take-length-pad, word-dec, word-part}
use Rattle.bounds.specs.Bounds.{byte_limit}
use Rattle.bounds.specs.Refusals.{refuse, if_accepted, accepted, Why}
use Rattle.bounds.specs.declared.Refusal.TheVariants.{TooLong}
use Rattle.views.specs.Made.{view_why, make_of}
use Rattle.views.specs.View.{view_size, short_most, is_short, length_of, body_of, prefix_of, block_of, offset_of, short_view, long_view, make_view, zero_view, view_at}

-- a number of four bytes that stands at place i comes back
field : (a b : List ℕ) (i n : ℕ) → length a ≡ i → n < 2 ^ 32 → word_at (a ++ (enc 4 n ++ b)) i 4 ≡ n
field a b i n e h = rw (word-dec (a ++ (enc 4 n ++ b)) i 4, drop_at a (enc 4 n ++ b) i e, take_at (enc 4 n) b 4 (length-enc 4 n)) (dec-enc 4 n h)

-- parts of a list after a store

pub drop-take : (m n : ℕ) (l : List ℕ) → drop m (take (m + n) l) ≡ take n (drop m l)
drop-take zero n l = rw (zero-add n)
drop-take (suc m) n [] = rw (suc-add m n) (sym (take-nil n))
drop-take (suc m) n (a ∷ l) = rw (suc-add m n) (drop-take m n l)

module _ (d s : List ℕ) (at n : ℕ) where
  pub part-stored : at + n ≤ length d → n ≤ length s → take n (drop at (paste d at s n)) ≡ take n s
  part-stored h g =
      rw (append_assoc (take at d) (take n s) (drop (at + n) d), drop_at (take at d) (take n s ++ drop (at + n) d) at (length-take-le at d (omega arith)))
      (take_at (take n s) (drop (at + n) d) n (length-take-le n s g))

  pub part-before : (k m : ℕ) → k + m ≤ at → at ≤ length d → take m (drop k (paste d at s n)) ≡ take m (drop k d)
  part-before k m h g =
      let same : take (k + m) (paste d at s n) ≡ take (k + m) d =
      rw (
        append_assoc (take at d) (take n s) (drop (at + n) d),
        take-append-le (k + m) (take at d) (take n s ++ drop (at + n) d)
            (rw (length-take-le at d g) h),
      )
      (take-take (k + m) at d h) in
      sym (drop-take k m (paste d at s n)) ∙ ap (drop k) same ∙ drop-take k m d

-- views of short values

module _ (x : List ℕ) where
  pub length-short : length (short_view x) ≡ view_size
  unfolding short_view
  length-short = rw (length-append, length-enc, length-pad)

  pub short-length : length x < 2 ^ 32 → length_of (short_view x) ≡ length x
  unfolding length_of short_view
  short-length h = field [] (pad 12 x) 0 (length x) refl h

  pub short-body : body_of (short_view x) ≡ pad short_most x
  unfolding body_of short_view
  short-body = drop_at (enc 4 (length x)) (pad 12 x) 4 (length-enc 4 (length x))

  pub short-prefix : prefix_of (short_view x) ≡ pad 4 x
  unfolding prefix_of short_view
  short-prefix = rw (drop_at (enc 4 (length x)) (pad 12 x) 4 (length-enc 4 (length x))) (take-pad 4 12 x (omega arith))

  -- the value comes back
  pub short-value : length x ≤ short_most → take (length x) (body_of (short_view x)) ≡ x
  short-value h = rw short-body (take-length-pad 12 x h)

-- views of long values

module _ (x : List ℕ) (b o : ℕ) where
  pub length-long : length (long_view x b o) ≡ view_size
  unfolding long_view
  length-long = simp (length-append, length-enc, length-pad)

  pub long-length : length x < 2 ^ 32 → length_of (long_view x b o) ≡ length x
  unfolding length_of long_view
  long-length h = field [] (pad 4 x ++ (enc 4 b ++ enc 4 o)) 0 (length x) refl h

  pub long-prefix : prefix_of (long_view x b o) ≡ pad 4 x
  unfolding prefix_of long_view
  long-prefix =
      rw (drop_at (enc 4 (length x)) (pad 4 x ++ (enc 4 b ++ enc 4 o)) 4 (length-enc 4 (length x)))
      (take_at (pad 4 x) (enc 4 b ++ enc 4 o) 4 (length-pad 4 x))

  pub long-block : b < 2 ^ 32 → block_of (long_view x b o) ≡ b
  unfolding block_of long_view
  long-block h =
      let e : length (enc 4 (length x) ++ pad 4 x) ≡ 8 = rw (length-append, length-enc, length-pad) in
      rw (← append_assoc (enc 4 (length x)) (pad 4 x) (enc 4 b ++ enc 4 o)) (field (enc 4 (length x) ++ pad 4 x) (enc 4 o) 8 b e h)

  pub long-offset : o < 2 ^ 32 → offset_of (long_view x b o) ≡ o
  unfolding offset_of long_view
  long-offset h =
      let front : List ℕ = (enc 4 (length x) ++ pad 4 x) ++ enc 4 b in
      let e : length front ≡ 12 = simp (length-append, length-enc, length-pad) in
      let whole : enc 4 (length x) ++ (pad 4 x ++ (enc 4 b ++ enc 4 o)) ≡ front ++ (enc 4 o ++ []) = simp (append_assoc, append-nil) in
      rw whole (field front [] 12 o e h)

-- the view of any value

module _ (x : List ℕ) (b o : ℕ) where
  pub make-short : length x ≤ short_most → make_view x b o ≡ short_view x
  unfolding make_view
  make-short h = rw (le-leb (length x) short_most h)

  pub make-long : short_most < length x → make_view x b o ≡ long_view x b o
  unfolding make_view
  make-long h = rw (lt-leb (length x) short_most h)

  pub length-make : length (make_view x b o) ≡ view_size
  unfolding make_view
  length-make = by (is_short (length x))
    where
      by : (t : Bool) → length (pick t (short_view x) (long_view x b o)) ≡ view_size
      by true = length-short x
      by false = length-long x b o

  -- end theorems, which nothing cites: a made view tells its value's length and first four bytes
  pub make-length : length x < 2 ^ 32 → length_of (make_view x b o) ≡ length x
  unfolding make_view
  make-length h = by (is_short (length x))
    where
      by : (t : Bool) → length_of (pick t (short_view x) (long_view x b o)) ≡ length x
      by true = short-length x h
      by false = long-length x b o h

  pub make-prefix : prefix_of (make_view x b o) ≡ pad 4 x
  unfolding make_view
  make-prefix = by (is_short (length x))
    where
      by : (t : Bool) → prefix_of (pick t (short_view x) (long_view x b o)) ≡ pad 4 x
      by true = short-prefix x
      by false = long-prefix x b o

-- the view of a null row is that of the empty value
pub zero-view : zero_view ≡ short_view []
unfolding zero_view short_view enc pad
zero-view = refl

-- the view of a row, by words of all views

module _ (vs : List ℕ) (r : ℕ) where
  pub length-view : view_size * r + view_size ≤ length vs → length (view_at vs r) ≡ view_size
  unfolding view_at
  length-view h = length-take-le 16 (drop (16 * r) vs) (simp length-drop (omega arith))

  pub length_at : length_of (view_at vs r) ≡ word_at vs (view_size * r) 4
  unfolding view_at length_of
  length_at = word-part vs (16 * r) 16 0 4 (omega arith) ∙ rw (add-zero (16 * r))

  pub block_at : block_of (view_at vs r) ≡ word_at vs (view_size * r + 8) 4
  unfolding view_at block_of
  block_at = word-part vs (16 * r) 16 8 4 (omega arith)

  pub offset_at_lem : offset_of (view_at vs r) ≡ word_at vs (view_size * r + 12) 4
  unfolding view_at offset_of
  offset_at_lem = word-part vs (16 * r) 16 12 4 (omega arith)

  pub body_at : body_of (view_at vs r) ≡ take short_most (drop (view_size * r + 4) vs)
  unfolding view_at body_of
  body_at = drop-take 4 12 (drop (16 * r) vs) ∙ rw (drop-drop 4 (16 * r) vs)

  pub prefix-at : prefix_of (view_at vs r) ≡ take 4 (drop (view_size * r + 4) vs)
  unfolding view_at prefix_of
  prefix-at = rw (drop-take 4 12 (drop (16 * r) vs), drop-drop 4 (16 * r) vs) (take-take 4 12 (drop (16 * r + 4) vs) (omega arith))

-- a row's view stored

module _ (vs v : List ℕ) (r : ℕ) (len : length v ≡ view_size) (room : view_size * r + view_size ≤ length vs) where
  pub view-stored : view_at (paste vs (view_size * r) v view_size) r ≡ v
  unfolding view_at
  view-stored = part-stored vs v (16 * r) 16 (omega arith) (omega arith) ∙ take_all 16 v (omega arith)

  pub view-before : (q : ℕ) → q < r → view_at (paste vs (view_size * r) v view_size) q ≡ view_at vs q
  unfolding view_at
  view-before q h = part-before vs v (16 * r) 16 (16 * q) 16 (omega arith) (omega arith)

-- a view stored over sixteen bytes is all of them
pub view-whole : (d v : List ℕ) → length d ≡ view_size → length v ≡ view_size → paste d 0 v view_size ≡ v
view-whole d v h g =
    let none : drop 16 d ≡ [] = drop_of_length-le d {i = 16} (omega arith) in
    rw (take_all 16 v (omega arith), none, append-nil v)

-- the call that makes one

module _ (x : List ℕ) (b o : ℕ) where
  pub made-accepted : length x ≤ byte_limit → make_of x b o ≡ record { why = accepted; view = make_view x b o }
  unfolding make_of view_why refuse
  made-accepted h = rw (le-ltb byte_limit (length x) h)

  pub made-refused : byte_limit < length x → make_of x b o ≡ record { why = Err TooLong; view = zero_view }
  unfolding make_of view_why refuse
  made-refused h = rw (lt-ltb byte_limit (length x) h)

  pub length-made : length (make_of x b o).view ≡ view_size
  unfolding make_of zero_view
  length-made = by (view_why x)
    where
      by : (w : Why) → length (if_accepted w (make_view x b o) zero_view) ≡ view_size
      by (Ok _) = length-make x b o
      by (Err r) = length-pad 16 []

  -- the answer's parts
  pub made-why : (make_of x b o).why ≡ view_why x
  unfolding make_of
  made-why = refl

  pub made-view : view_why x ≡ accepted → (make_of x b o).view ≡ make_view x b o
  unfolding make_of
  made-view h = rw h
