-- A month's name as one number, which is how the code tells it. Assumes nothing.
use Rattle.std.specs.Prelude.{Bool, false, ◌||◌, List, [], ◌∷◌, ℕ, ◌+◌, ◌*◌, eqb}
use Rattle.codes.specs.Grammar.{months}

-- three bytes, the first one on top; 0 where there aren't three
abbrev pub word_of : List ℕ → ℕ
word_of [] = 0
word_of (a ∷ []) = 0
word_of (a ∷ b ∷ []) = 0
word_of (a ∷ b ∷ c ∷ x) = 65536 * a + (256 * b + c)

unfoldable pub is_word_of : List (List ℕ) → ℕ → Bool
is_word_of [] w = false
is_word_of (t ∷ ts) w = eqb w (word_of t) || is_word_of ts w

unfoldable pub is_month_word : ℕ → Bool
is_month_word w = is_word_of months w
