-- What it means that a text was put into a buffer. Assumes nothing.
use Rattle.std.specs.Prelude.{◌≡◌, List, ◌++◌, ℕ, ◌+◌, ◌≤◌, length, take}

-- a text t was put at `at` and ends at r: what stood before stays
pub record Put (old new : List ℕ) (at r : ℕ) (t : List ℕ) : Type 0 where
  pub ends : r ≡ at + length t
  pub text : take r new ≡ take at old ++ t
  pub same : length new ≡ length old

-- the first n bytes of a buffer are t
pub record HoldsText (new : List ℕ) (n : ℕ) (t : List ℕ) : Type 0 where
  pub text : take n new ≡ t
  pub low : n ≤ length new
  pub counts : n ≡ length (take n new)

-- the first n bytes of a buffer and then `later` are the text `all`
pub record Rest (new : List ℕ) (n : ℕ) (later all : List ℕ) : Type 0 where
  pub text : take n new ++ later ≡ all
  pub low : n ≤ length new
  pub counts : n ≡ length (take n new)
