-- The lowest row that fails a test. Assumes nothing.
use Rattle.std.specs.Prelude.{◌≡◌, Bool, true, false, not, Err}
use Rattle.std.proofs.Math.Path.{refl, subst}
use Rattle.std.proofs.Math.Logic.{by_cases}
use Prim.Native.Nat.{ℕ, zero, suc, ◌<◌}
use Rattle.std.proofs.Common.{not-suc-le-zero, arith}
use Rattle.std.proofs.Math.Decide.{ℕ_discrete}
use Rattle.std.proofs.lemmas.Bool.{not-false}
use Rattle.bounds.specs.Refusals.{refuse, is_accepted, accepted-both, Why}
use Rattle.bounds.specs.declared.Refusal.TheVariants.{BadView}
use Rattle.column.specs.Truth.{lowest}

module _ (good : ℕ → Bool) where
  -- all are good
  pub lowest-none : (n : ℕ) (w : Why) → ((j : ℕ) → j < n → good j ≡ true) → w ≡ lowest good n w
  unfolding lowest refuse
  lowest-none zero w h = refl
  lowest-none (suc n) w h = rw (h n (omega arith)) (lowest-none n w (λ j l. h j (omega arith)))

  -- row k is the lowest that isn't
  pub lowest-bad : (k n : ℕ) (w : Why) → k < n → ((j : ℕ) → j < k → good j ≡ true) → good k ≡ false → Err (BadView k) ≡ lowest good n w
  unfolding lowest refuse
  lowest-bad k zero w l h b = absurd (not-suc-le-zero l)
  lowest-bad k (suc n) w l h b =
      by_cases (ℕ_discrete k n)
      (λ e. subst (λ (m : ℕ). Err (BadView k) ≡ lowest good m (refuse (BadView m) (not (good m)) w)) e (rw b (lowest-none k (Err (BadView k)) h)))
      (λ d. lowest-bad k n (refuse (BadView n) (not (good n)) w) (omega arith) h b)

  -- an accepted call found none
  pub lowest-good : (n : ℕ) (w : Why) → is_accepted (lowest good n w) ≡ true → ((j : ℕ) → j < n → good j ≡ true) × (is_accepted w ≡ true)
  unfolding lowest
  lowest-good zero w a = (λ j l. absurd (not-suc-le-zero l), a)
  lowest-good (suc n) w a =
      let below = lowest-good n (refuse (BadView n) (not (good n)) w) a in
      let here = accepted-both (BadView n) (not (good n)) w below.1 in
      (λ j l. by_cases (ℕ_discrete j n) (λ e. rw e (not-false (good n) here.0)) (λ d. below.0 j (omega arith)), here.1)
