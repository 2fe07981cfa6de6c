-- Well-formed UTF-8 by Unicode's Table 3-7, and where the first ill-formed sequence begins. Assumes nothing.
use Rattle.std.specs.Prelude.{Bool, true, false, ◌&&◌, List, [], ◌∷◌, ◌++◌, ◌≡◌, ℕ, zero, suc, ◌<◌, leb, eqb, length, get_or, take, drop}
use Rattle.basis.specs.Pick.{pick}

-- bytes from lo to hi, both included
pub record Range : Type 0 where
  pub lo : ℕ
  pub hi : ℕ

infixl 20 ◌‥◌
abbrev pub ◌‥◌ : ℕ → ℕ → Range
l ‥ h = record { lo = l; hi = h }

-- the table: a row for each range of code points, a range for each of its bytes
abbrev pub table : List (List Range)
table =
    ((0x00 ‥ 0x7F) ∷ [])
    ∷ ((0xC2 ‥ 0xDF) ∷ (0x80 ‥ 0xBF) ∷ [])
    ∷ ((0xE0 ‥ 0xE0) ∷ (0xA0 ‥ 0xBF) ∷ (0x80 ‥ 0xBF) ∷ [])
    ∷ ((0xE1 ‥ 0xEC) ∷ (0x80 ‥ 0xBF) ∷ (0x80 ‥ 0xBF) ∷ [])
    ∷ ((0xED ‥ 0xED) ∷ (0x80 ‥ 0x9F) ∷ (0x80 ‥ 0xBF) ∷ [])
    ∷ ((0xEE ‥ 0xEF) ∷ (0x80 ‥ 0xBF) ∷ (0x80 ‥ 0xBF) ∷ [])
    ∷ ((0xF0 ‥ 0xF0) ∷ (0x90 ‥ 0xBF) ∷ (0x80 ‥ 0xBF) ∷ (0x80 ‥ 0xBF) ∷ [])
    ∷ ((0xF1 ‥ 0xF3) ∷ (0x80 ‥ 0xBF) ∷ (0x80 ‥ 0xBF) ∷ (0x80 ‥ 0xBF) ∷ [])
    ∷ ((0xF4 ‥ 0xF4) ∷ (0x80 ‥ 0x8F) ∷ (0x80 ‥ 0xBF) ∷ (0x80 ‥ 0xBF) ∷ [])
    ∷ []

abbrev pub row_at : ℕ → List Range
row_at k = get_or table k []

unfoldable pub within : ℕ → Range → Bool
within b r = leb r.lo b && leb b r.hi

-- the list begins with a byte of each range, one after the other
unfoldable pub in_ranges : List Range → List ℕ → Bool
in_ranges [] s = true
in_ranges (r ∷ rs) [] = false
in_ranges (r ∷ rs) (b ∷ s) = within b r && in_ranges rs s

-- well formed, as Unicode says it: sequences, one after the other, each with the bytes of a row of the table
pub data WellFormed : List ℕ → Type 0 where
  none : WellFormed []
  more : (k : ℕ) (t s : List ℕ) → k < length table → length t ≡ length (row_at k) → in_ranges (row_at k) t ≡ true → WellFormed s → WellFormed (t ++ s)

-- the rows whose first range has b, without that range
unfoldable pub led : ℕ → List (List Range) → List (List Range)
led b [] = []
led b ([] ∷ rows) = led b rows
led b ((r ∷ rs) ∷ rows) = pick (within b r) (rs ∷ led b rows) (led b rows)

-- how many bytes the sequence has whose lead byte left these rows, if the bytes after it fit one; 0 where they fit none
unfoldable pub led_by : List (List Range) → List ℕ → ℕ
led_by [] s = 0
led_by (rs ∷ rows) s = pick (in_ranges rs s) (suc (length rs)) (led_by rows s)

-- how many bytes the well-formed sequence at the front has; 0 where none begins there
unfoldable pub front_length : List ℕ → ℕ
front_length [] = 0
front_length (b ∷ s) = led_by (led b table) s

-- 0 where no sequence begins; else what is said of the bytes that follow its first
abbrev pub judged : ℕ → (ℕ → ℕ) → ℕ
judged zero f = 0
judged (suc n) f = f n

-- how far one gets from sequence to sequence; the first k bytes belong to a sequence that was judged
unfoldable pub bad_after : ℕ → List ℕ → ℕ
bad_after k [] = 0
bad_after (suc k) (b ∷ s) = suc (bad_after k s)
bad_after zero (b ∷ s) = judged (front_length (b ∷ s)) (λ n. suc (bad_after n s))

abbrev pub walk : List ℕ → ℕ
walk s = bad_after 0 s

-- well formed, as a question: the walk comes to the end. Text.antt: exactly the lists that are `WellFormed`
unfoldable pub well_formed : List ℕ → Bool
well_formed s = eqb (walk s) (length s)

-- everything before place i is well formed, and no well-formed sequence starts there
unfoldable pub is_bad : List ℕ → ℕ → Bool
is_bad s i = well_formed (take i s) && eqb (front_length (drop i s)) 0

-- the lowest of the n places from i on that p has; the place after them where it has none
unfoldable pub lowest_from : (ℕ → Bool) → ℕ → ℕ → ℕ
lowest_from p i zero = i
lowest_from p i (suc n) = pick (p i) i (lowest_from p (suc i) n)

-- where the first ill-formed sequence begins: the lowest place such that everything before it is well formed and no well-formed sequence
-- starts there. In a well-formed text that is its end. First.antt: there is such a place, and no other
unfoldable pub first_bad : List ℕ → ℕ
first_bad s = lowest_from (is_bad s) 0 (length s)
