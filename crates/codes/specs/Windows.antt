-- Nine bytes of a text at a place, as eight pairs of neighbours: what is asked of them where a text is judged by words. Assumes nothing.
use Rattle.std.specs.Prelude.{Bool, true, not, ◌&&◌, List, ℕ, zero, suc, ◌+◌, leb, get_or}
use Rattle.codes.specs.Recogniser.{is_hyphen, is_code_byte}

unfoldable pub every : (ℕ → Bool) → ℕ → Bool
every p zero = true
every p (suc n) = p n && every p n

-- one byte and the next
abbrev pub pair_ok : ℕ → ℕ → Bool
pair_ok b c = is_code_byte b && not (is_hyphen b && is_hyphen c)

-- eight pairs, and the ninth byte is ASCII
unfoldable pub window_ok : List ℕ → ℕ → Bool
window_ok s i = every (λ (j : ℕ). pair_ok (get_or s (i + j) 0) (get_or s (i + 1 + j) 0)) 8 && leb (get_or s (i + 8) 0) 127
