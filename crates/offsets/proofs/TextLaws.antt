-- A row cut out of a text where sequences begin is a text: one look at all bytes judges every row. Assumes nothing.
use mathlib.Core.Path.{◌≡◌, refl}
use mathlib.Core.Bool.{Bool, true, false}
use mathlib.Core.List.{List}
use Prim.Native.Nat.{ℕ, ◌+◌}
use lib.ListN.{length}
use Rattle.basis.specs.Pick.{pick}
use Rattle.utf8.specs.Table.{well_formed}
use Rattle.utf8.specs.Cut.{Begins, formed-part}
use Rattle.null_bits.specs.Bits.{valid_at}
use Rattle.column.specs.declared.Kind.{Kind}
use Rattle.column.specs.declared.Kind.TheVariants.{Binary, Text}
use Rattle.column.specs.Truth.{of_kind}
use Rattle.offsets.specs.Offsets.{source, offset_at, cut_at, kind_at}
use Rattle.offsets.specs.Steps.{CutIn}

pub text-row : (w : ℕ) (os bs : List ℕ) (k : Kind) (j : ℕ) → well_formed bs ≡ true → CutIn w os (length bs) j → Begins bs (offset_at w os j)
    → Begins bs (offset_at w os (j + 1)) → of_kind k (cut_at w os bs j) ≡ true
unfolding cut_at
text-row w os bs Binary j f c p q = refl
text-row w os bs Text j f c p q = formed-part bs (offset_at w os j) (offset_at w os (j + 1)) f c.rise p q

pub kind-any : (w : ℕ) (os bs ms : List ℕ) (mapped : Bool) (k : Kind) (j : ℕ) → of_kind k (cut_at w os bs j) ≡ true → kind_at w (source os bs ms mapped) k j ≡ true
unfolding kind_at
kind-any w os bs ms mapped k j e = by (valid_at ms mapped j)
  where
    by : (t : Bool) → pick t (of_kind k (cut_at w os bs j)) true ≡ true
    by true = e
    by false = refl
