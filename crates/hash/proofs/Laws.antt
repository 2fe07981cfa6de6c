-- What the code's last steps leave of the hash. Assumes nothing.
use Rattle.std.proofs.Common.{◌≡◌, ℕ, ◌-◌, ◌*◌, ◌/◌, ◌<◌, ◌≤◌, ltb, List, length, le-ltb, lt-ltb}
use Rattle.basis.specs.Pick.{pick}
use Rattle.words.specs.Words.{word_at}
use Rattle.hash.specs.Hash.{mixed, key_a, key_b, lane_a, lane_b, fold, hash_closed, hash_of}

module _ (s : List ℕ) (k : ℕ) where
  -- the second lane after the word before the last, where there is one
  abbrev Lane : ℕ → Type 0
  Lane g = g ≡ pick (ltb 8 (length s - 16 * k)) (mixed (lane_b s k) (word_at s (16 * k) 8) key_b) (lane_b s k)

  pub more-word : (g w r g₂ : ℕ) → 8 < length s - 16 * k → g ≡ lane_b s k → w ≡ word_at s (16 * k) 8 → r ≡ mixed g w key_b → g₂ ≡ r → Lane g₂
  more-word g w r g₂ h eg ew er e = rw (lt-ltb 8 (length s - 16 * k) h, e, er, eg, ew)

  pub no_word : (g g₂ : ℕ) → length s - 16 * k ≤ 8 → g ≡ lane_b s k → g₂ ≡ g → Lane g₂
  no_word g g₂ h eg e = rw (le-ltb 8 (length s - 16 * k) h, e, eg)

  -- the last words
  pub close : (h l h₂ g₂ h₃ : ℕ) → k ≡ (length s - 1) / 16 → h ≡ lane_a s k → Lane g₂ → l ≡ word_at s (length s - 8) 8 → h₂ ≡ mixed h l key_a
      → h₃ ≡ mixed h₂ g₂ key_a → fold h₃ ≡ hash_of s
  unfolding hash_of hash_closed
  close h l h₂ g₂ h₃ e eh eg el e₂ e₃ = rw (← e, e₃, e₂, el, eh, eg)
