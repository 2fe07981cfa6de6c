-- A row as the code cuts it, judges it and writes its view. Assumes nothing.
use mathlib.Core.Path.{◌≡◌, refl}
use mathlib.Core.Bool.{Bool, true, false}
use mathlib.Core.List.{List}
use Prim.Native.Nat.{ℕ, ◌+◌, ◌-◌, ◌*◌, ◌≤◌}
use native.Mathlib.Omega.{arith}
use native.Mathlib.Numerals.{add-one}
use lib.ListN.{length, take, drop, length-take, length-drop}
use lib.Seq.{paste}
use Rattle.views.specs.View.{view_size, make_view, zero_view}
use Rattle.null_bits.specs.Bits.{valid_at}
use Rattle.column.specs.declared.Kind.{Kind}
use Rattle.column.specs.Truth.{of_kind}
use Rattle.laying.specs.Written.{put_rows}
use Rattle.offsets.specs.Offsets.{source, offset_at, cut_at, kind_at, row_view_of}

pub cut-is : (w : ℕ) (os bs : List ℕ) (j a e : ℕ) → a ≡ offset_at w os j → e ≡ offset_at w os (j + 1) → take (e - a) (drop a bs) ≡ cut_at w os bs j
unfolding cut_at
cut-is w os bs j a e p q = rw (p, q)

pub cut_most : (w : ℕ) (os bs : List ℕ) (j : ℕ) → length (cut_at w os bs j) ≤ length bs
unfolding cut_at
cut_most w os bs j = rw (length-take, length-drop) (omega arith)

module _ (w : ℕ) (os bs ms : List ℕ) (mapped : Bool) (j : ℕ) where
  pub kind-null : (k : Kind) → valid_at ms mapped j ≡ false → true ≡ kind_at w (source os bs ms mapped) k j
  unfolding kind_at
  kind-null k e = rw e

  pub kind-valid : (k : Kind) (x : List ℕ) (b : Bool) → valid_at ms mapped j ≡ true → x ≡ cut_at w os bs j → b ≡ of_kind k x
      → b ≡ kind_at w (source os bs ms mapped) k j
  unfolding kind_at
  kind-valid k x b e p q = rw (e, ← p) q

  pub view-null : (d d' : List ℕ) → valid_at ms mapped j ≡ false → d' ≡ paste d (view_size * j) zero_view view_size
      → d' ≡ paste d (view_size * j) (row_view_of w (source os bs ms mapped) j) view_size
  unfolding row_view_of
  view-null d d' e p = rw e p

  pub view-valid : (d d' x : List ℕ) (a : ℕ) → valid_at ms mapped j ≡ true → x ≡ cut_at w os bs j → a ≡ offset_at w os j
      → d' ≡ paste d (view_size * j) (make_view x 0 a) view_size
      → d' ≡ paste d (view_size * j) (row_view_of w (source os bs ms mapped) j) view_size
  unfolding row_view_of
  view-valid d d' x a e p q r = rw (e, ← p, ← q) r

pub rows_none : (d : List ℕ) (f : ℕ → List ℕ) → d ≡ put_rows d f 0
unfolding put_rows
rows_none d f = refl

pub rows_more : (d d' d'' : List ℕ) (f : ℕ → List ℕ) (k : ℕ) → d' ≡ put_rows d f k → d'' ≡ paste d' (view_size * k) (f k) view_size → d'' ≡ put_rows d f (k + 1)
unfolding put_rows
rows_more d d' d'' f k e p = rw (add-one k) (rw e at p)
