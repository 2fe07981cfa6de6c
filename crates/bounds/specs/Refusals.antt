-- The paper's number for each refusal, the row that it names, and how a call's tests make its verdict. Assumes nothing.
use Rattle.std.specs.Prelude.{ℕ, Bool, true, false, ◌≡◌, refl, ⊤, Result, Ok, Err, is_ok}
use Rattle.std.proofs.Common.{true≢false, sym}
use Rattle.bounds.specs.declared.Refusal.{Refusal}
use Rattle.bounds.specs.declared.Refusal.TheVariants.{Setting, Fit, Row, TooLong, RowRoom, BlockRoom, DataRoom, NoBlock, Range, NotUtf8, BadView, Offsets}

abbrev pub number_of : Refusal → ℕ
number_of Setting = 1
number_of Fit = 2
number_of Row = 3
number_of TooLong = 4
number_of RowRoom = 5
number_of BlockRoom = 6
number_of DataRoom = 7
number_of NoBlock = 8
number_of Range = 9
number_of NotUtf8 = 10
number_of (BadView r) = 11
number_of Offsets = 13

-- counted from the column's first row; 0 where the refusal names none
abbrev pub row_named : Refusal → ℕ
row_named Setting = 0
row_named Fit = 0
row_named Row = 0
row_named TooLong = 0
row_named RowRoom = 0
row_named BlockRoom = 0
row_named DataRoom = 0
row_named NoBlock = 0
row_named Range = 0
row_named NotUtf8 = 0
row_named (BadView r) = r
row_named Offsets = 0

-- a call's verdict before it writes anything
abbrev pub Why : Type 0
Why = Result ⊤ Refusal

abbrev pub accepted : Why
accepted = Ok tt

-- 0 where the call is accepted
abbrev pub why_number : Why → ℕ
why_number (Ok _) = 0
why_number (Err r) = number_of r

abbrev pub is_accepted : Why → Bool
is_accepted w = is_ok w

-- the number that document 01 had for a block number above 32 bits: no builder has such a block, and nothing else gets the number
abbrev pub retired : ℕ
retired = 12

abbrev pub refuse_by : Refusal → Bool → Why → Why
refuse_by r true w = Err r
refuse_by r false w = w

-- r where the test holds, what the later tests say where it doesn't
unfoldable pub refuse : Refusal → Bool → Why → Why
refuse r b w = refuse_by r b w

-- x where the call is accepted, else y
abbrev pub if_accepted : {A : Type 0} → Why → A → A → A
if_accepted (Ok _) x y = x
if_accepted (Err r) x y = y

-- what a call answers: x where it is accepted, else why it isn't
abbrev pub answered : {A E : Type 0} → Result ⊤ E → A → Result A E
answered (Ok _) x = Ok x
answered (Err r) x = Err r

-- a test that failed the call, one that let it pass, and what is known of a call that was accepted
pub refuse-yes : (r : Refusal) (b : Bool) (w x : Why) → b ≡ true → x ≡ Err r → x ≡ refuse r b w
unfolding refuse
refuse-yes r b w x h e = rw h e

pub refuse-no : (r : Refusal) (b : Bool) (w x : Why) → b ≡ false → x ≡ w → x ≡ refuse r b w
unfolding refuse
refuse-no r b w x h e = rw h e

pub accepted-both : (r : Refusal) (b : Bool) (w : Why) → is_accepted (refuse r b w) ≡ true → (b ≡ false) × (is_accepted w ≡ true)
unfolding refuse
accepted-both r true w h = absurd (true≢false (sym h))
accepted-both r false w h = (refl, h)

-- a choice by a call's verdict takes the side that the verdict names; w' is the verdict that a callee answered
pub accepted-yes : {A : Type 0} (w w' : Why) (x y z : A) → w' ≡ w → is_accepted w' ≡ true → z ≡ x → z ≡ if_accepted w x y
accepted-yes w w' x y z e h p = go w (rw e at h)
  where
    go : (w : Why) → is_accepted w ≡ true → z ≡ if_accepted w x y
    go (Ok _) k = p
    go (Err r) k = absurd (true≢false (sym k))

pub accepted-no : {A : Type 0} (w w' : Why) (x y z : A) → w' ≡ w → is_accepted w' ≡ false → z ≡ y → z ≡ if_accepted w x y
accepted-no w w' x y z e h p = go w (rw e at h)
  where
    go : (w : Why) → is_accepted w ≡ false → z ≡ if_accepted w x y
    go (Ok _) k = absurd (true≢false k)
    go (Err r) k = p

-- the same of an answer
pub answered-yes : {A E : Type 0} (w : Result ⊤ E) (x y : A) → Ok tt ≡ w → y ≡ x → Ok y ≡ answered w x
answered-yes w x y e h = rw (← e, h)

pub answered-no : {A E : Type 0} (w : Result ⊤ E) (x : A) (r : E) → Err r ≡ w → Err r ≡ answered w x
answered-no w x r e = rw (← e)
