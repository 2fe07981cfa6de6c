-- The check of a column that fits, as a walk over its rows and blocks finds it. Assumes nothing.
use Rattle.std.specs.Prelude.{Err}
use mathlib.Core.Path.{◌≡◌, refl, ◌∙◌}
use mathlib.Core.Bool.{Bool, true, false, not}
use mathlib.Core.List.{List, []}
use Prim.Native.Nat.{ℕ, ◌<◌}
use Rattle.bounds.specs.Refusals.{refuse, refuse-yes, refuse-no, accepted, Why}
use Rattle.bounds.specs.declared.Refusal.TheVariants.{Fit, Range, BadView}
use Rattle.column.specs.declared.Column.{Column}
use Rattle.column.specs.Lent.{Lent, lent, fits, in_data, data_room, all_in_data}
use Rattle.column.specs.Room.{bare}
use Rattle.column.specs.Meaning.{blocks_of}
use Rattle.column.proofs.FitLaws.{all-bare}
use Rattle.column.proofs.LowestLaws.{lowest-none, lowest-bad}
use Rattle.column.specs.Truth.{reach_of, reachable, is_true, true_at, lowest}
use Rattle.validity.specs.Check.{why_invalid}

module _ (views bytes starts lens nulls : List ℕ) (c : Column) where
  abbrev whole : Lent
  whole = lent views bytes starts lens nulls

  -- the rows as the code judges them, without the null map
  abbrev judged : ℕ → Bool
  judged = true_at c.kind (bare views bytes starts lens) c

  -- 9
  abbrev blocked : Why
  blocked = refuse Range (not (all_in_data whole c.blocks)) accepted

  judged-whole : (w : Why) → lowest judged c.rows w ≡ lowest (true_at c.kind whole c) c.rows w
  unfolding is_true reachable reach_of in_data data_room blocks_of
  judged-whole w = refl

  pub invalid-fit : not (fits whole c) ≡ true → Err Fit ≡ why_invalid whole c
  unfolding why_invalid
  invalid-fit h = refuse-yes Fit (not (fits whole c)) _ (Err Fit) h refl

  module _ (fit : not (fits whole c) ≡ false) where
    pub invalid-row : (k : ℕ) → k < c.rows → ((r : ℕ) → r < k → judged r ≡ true) → judged k ≡ false → Err (BadView k) ≡ why_invalid whole c
    unfolding why_invalid
    invalid-row k h g b = refuse-no Fit (not (fits whole c)) _ (Err (BadView k)) fit (lowest-bad judged k c.rows blocked h g b ∙ judged-whole blocked)

    module _ (good : (r : ℕ) → r < c.rows → judged r ≡ true) where
      all_true : (w : Why) → w ≡ blocked → w ≡ why_invalid whole c
      unfolding why_invalid
      all_true w e = refuse-no Fit (not (fits whole c)) _ w fit (e ∙ lowest-none judged c.rows blocked good ∙ judged-whole blocked)

      pub invalid-block : not (all_in_data (bare [] bytes starts lens) c.blocks) ≡ true → Err Range ≡ why_invalid whole c
      invalid-block h =
          all_true (Err Range) (refuse-yes Range (not (all_in_data whole c.blocks)) accepted (Err Range)
          (rw (all-bare views bytes starts lens nulls c.blocks) h) refl)

      pub valid : not (all_in_data (bare [] bytes starts lens) c.blocks) ≡ false → accepted ≡ why_invalid whole c
      valid h =
          all_true accepted (refuse-no Range (not (all_in_data whole c.blocks)) accepted accepted
          (rw (all-bare views bytes starts lens nulls c.blocks) h) refl)
