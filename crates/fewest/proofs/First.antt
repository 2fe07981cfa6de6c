-- Only the first block of the walk of compaction can be empty: every other is begun for a value. Assumes nothing.
use mathlib.Core.Path.{◌≡◌, refl}
use mathlib.Core.Bool.{Bool, true, false}
use mathlib.Core.List.{List, [], ◌∷◌, ◌++◌}
use mathlib.Core.Logic.{by_cases}
use Prim.Native.Nat.{ℕ, zero, suc, ◌+◌, ◌<◌}
use native.Mathlib.Decide.{ℕ_discrete}
use native.Mathlib.Omega.{arith}
use borrow.Author.Tests.{leb-true, leb-false}
use lib.Dec.{leb}
use lib.ListN.{length, get_or, length-append, get_or-append}
use lib.Seq.{get_or-append_seam}
use Rattle.basis.specs.Pick.{pick}
use Rattle.views.specs.View.{short_most, is_short}
use Rattle.compaction.specs.Cut.{Cut, shut, add, is_none, room_for, cut_from, cut_all, cut_lens}
use Rattle.compaction.specs.Compact.{long_of}
use Rattle.compaction.proofs.CutLaws.{cut_short, cut-long}

-- of these lengths only the first is 0
abbrev FirstOnly : List ℕ → Type 0
FirstOnly ns = (k : ℕ) → k < length ns → get_or ns k 0 ≡ 0 → k ≡ 0

abbrev all_of : Cut → List ℕ
all_of c = c.done ++ c.fill ∷ []

-- another last length, that isn't 0
first-last : (ns : List ℕ) (n : ℕ) → 0 < n → FirstOnly ns → FirstOnly (ns ++ n ∷ [])
first-last ns n p h k j e =
    by_cases (ℕ_discrete (length ns) k)
    (λ q. absurd (omega (arith, rw (← q, get_or-append_seam ns n [] 0) at e)))
    (λ d.
    let l : k < length ns = omega (arith, rw (length-append ns (n ∷ [])) at j) in
    h k l (rw (get_or-append ns (n ∷ []) 0 k l) at e))

first_done : (c : Cut) → FirstOnly (all_of c) → FirstOnly c.done
first_done c h k l e = h k (rw (length-append c.done (c.fill ∷ [])) (omega arith)) (rw (get_or-append c.done (c.fill ∷ []) 0 k l) e)

first-add : (most n : ℕ) (c : Cut) → 0 < n → FirstOnly (all_of c) → FirstOnly (all_of (add n (room_for most n c)))
unfolding room_for
first-add most n c p h = by (leb (c.fill + n) most)
  where
    by : (t : Bool) → FirstOnly (all_of (add n (pick t c (shut c))))
    by true = first-last c.done (c.fill + n) (omega arith) (first_done c h)
    by false = first-last (all_of c) (0 + n) (omega arith) h

first_rows : (most : ℕ) (len : ℕ → ℕ) (n : ℕ) → FirstOnly (all_of (cut_all most (long_of len len n)))
unfolding cut_all cut_from long_of
first_rows most len zero = λ k j e. omega arith
first_rows most len (suc n) = by (is_short (len n)) refl (first_rows most len n)
  where
    by : (t : Bool) → is_short (len n) ≡ t → FirstOnly (all_of (cut_all most (long_of len len n))) → FirstOnly (all_of (cut_all most (long_of len len (suc n))))
    by true e h = rw (cut_short most len n (leb-true (len n) short_most e)) h
    by false e h =
        let more = leb-false (len n) short_most e in
        rw (cut-long most len n more) (first-add most (len n) (cut_all most (long_of len len n)) (omega (arith, more)) h)

pub first-only : (most : ℕ) (len : ℕ → ℕ) (n k : ℕ) → k < length (cut_lens most (long_of len len n)) → get_or (cut_lens most (long_of len len n)) k 0 ≡ 0 → k ≡ 0
unfolding cut_lens
first-only most len n = by (is_none (long_of len len n)) (first_rows most len n)
  where
    by : (t : Bool) → FirstOnly (all_of (cut_all most (long_of len len n))) → FirstOnly (pick t [] (all_of (cut_all most (long_of len len n))))
    by true h k j e = absurd (omega arith)
    by false h k j e = h k j e
