-- The walk in the paper's first two cases: no long rows leave the views as they are and need no block; long values within the maximum together make one block.
-- Assumes nothing.
use mathlib.Core.Path.{◌≡◌, refl, ◌∙◌}
use mathlib.Core.Bool.{true}
use mathlib.Core.List.{List, [], ◌∷◌}
use Prim.Native.Nat.{ℕ, ◌+◌, ◌≤◌, ◌<◌}
use native.Mathlib.Omega.{arith}
use borrow.Author.Tests.{le-leb}
use Rattle.views.specs.View.{length_of}
use Rattle.compaction.specs.Cut.{Cut, cut, is_none, room_for, cut_from, cut_all, cut_lens}
use Rattle.compaction.specs.Compact.{long_of, view_by}
use Rattle.compaction.proofs.LaidLaws.{view-short}
use Rattle.compaction.proofs.Kept.{none-short}
use Rattle.laying.specs.Written.{total}

-- no long row
pub no_block : (most : ℕ) → cut_lens most [] ≡ []
unfolding cut_lens
no_block most = refl

pub views-kept : (most : ℕ) (view value : ℕ → List ℕ) (n : ℕ) → is_none (long_of (λ r. length_of (view r)) (λ r. length_of (view r)) n) ≡ true → (r : ℕ)
    → r < n → view_by most view value r ≡ view r
views-kept most view value n e r h = view-short most view value r (none-short (λ q. length_of (view q)) n e r h)

-- the total within the maximum
pub never-closed : (most : ℕ) (ns : List ℕ) (c : Cut) → c.fill + total ns ≤ most → cut_from most ns c ≡ cut c.done (c.fill + total ns)
unfolding cut_from total room_for
never-closed most [] c h = let e : c.fill + 0 ≡ c.fill = omega arith in rw e
never-closed most (n ∷ ns) c h =
    let e : c.fill + n + total ns ≡ c.fill + (n + total ns) = omega arith in
    rw (le-leb (c.fill + n) most (omega arith)) (never-closed most ns (cut c.done (c.fill + n)) (omega arith) ∙ rw e)

pub one_block : (most n : ℕ) (ns : List ℕ) → total (n ∷ ns) ≤ most → cut_lens most (n ∷ ns) ≡ total (n ∷ ns) ∷ []
unfolding cut_lens cut_all
one_block most n ns h =
    let e : 0 + total (n ∷ ns) ≡ total (n ∷ ns) = omega arith in
    rw (never-closed most (n ∷ ns) (cut [] 0) (omega arith), e)
