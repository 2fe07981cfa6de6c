-- The answer to the UTF-8 question. Assumes nothing.
use Rattle.std.specs.Prelude.{◌≡◌, refl, Bool, true, false, eqb}
use Rattle.basis.specs.Pick.{pick}
use mir.Val.{bool_byte}
use mathlib.Core.List.{List}
use Prim.Native.Nat.{ℕ}
use lib.ListN.{length}
use Rattle.utf8.specs.Table.{first_bad}
use Rattle.utf8.proofs.First.{formed-end}
use Rattle.text_exports.specs.declared.Text.{Text}
use Rattle.text_exports.specs.Told.{text_of}

-- a truth as a number
one-if : (t : Bool) → bool_byte t ≡ pick t 1 0
one-if true = refl
one-if false = refl

pub told-is : (x : List ℕ) (y p : ℕ) → p ≡ first_bad x → y ≡ bool_byte (eqb p (length x)) → ◌≡◌ {A = Text} (record { yes = y; place = p }) (text_of x)
unfolding text_of
told-is x y p e h = rw (h, one-if (eqb p (length x)), formed-end x, e)
