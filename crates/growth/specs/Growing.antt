-- Growth of blocks: the wall sheet of their sizes, the size after a size, the states that a start makes or a step leaves, what a step answers.
-- Assumes nothing.
use Rattle.std.specs.Prelude.{ℕ, zero, suc, Bool, false, not, ◌||◌, ◌&&◌, List, [], ◌∷◌, eqb, ltb, leb, get_or}
use Rattle.basis.specs.Pick.{pick}
use Rattle.bounds.specs.Bounds.{byte_limit}
use Rattle.bounds.specs.Refusals.{refuse, if_accepted, accepted, Why}
use Rattle.bounds.specs.declared.Refusal.TheVariants.{Fit}
use Rattle.growth.specs.declared.Step.{Step}
use Rattle.growth.specs.declared.Growth.{Growth}
use Rattle.growth.specs.declared.Growth.TheVariants.{Fixed, Doubling}

-- where doubling starts; not on the sheet
unfoldable pub start_size : ℕ
start_size = 8192

-- the wall sheet: the sizes of the first block to the eighth; every later one has the eighth
unfoldable pub sheet : List ℕ
sheet = 16384 ∷ 32768 ∷ 65536 ∷ 131072 ∷ 262144 ∷ 524288 ∷ 1048576 ∷ 2097152 ∷ []

-- the first of a list that is above s, s where none is
unfoldable pub first_above : ℕ → List ℕ → ℕ
first_above s [] = s
first_above s (n ∷ ns) = pick (ltb s n) n (first_above s ns)

-- the size after s: the first on the sheet that is larger, s where none is
unfoldable pub next_size : ℕ → ℕ
unfolding sheet first_above
next_size s = first_above s sheet

-- the last on the sheet
unfoldable pub largest_size : ℕ
unfolding sheet
largest_size = get_or sheet 7 0

-- the size after k steps from the start
unfoldable pub size_after : ℕ → ℕ
size_after zero = start_size
size_after (suc k) = next_size (size_after k)

-- is s the size after fewer than k steps?
unfoldable pub reached_in : ℕ → ℕ → Bool
reached_in zero s = false
reached_in (suc k) s = reached_in k s || eqb s (size_after k)

-- the size after at most eight steps: the start or one of the eight on the sheet
unfoldable pub fits_size : ℕ → Bool
fits_size s = reached_in 9 s

unfoldable pub fits_growth : Growth → Bool
fits_growth (Fixed n) = leb 1 n && leb n byte_limit
fits_growth (Doubling s) = fits_size s

-- the next block's size
abbrev pub size_of : Growth → ℕ
size_of (Fixed n) = n
size_of (Doubling s) = next_size s

-- the state after the step
abbrev pub grown : Growth → Growth
grown (Fixed n) = Fixed n
grown (Doubling s) = Doubling (next_size s)

unfoldable pub step_why : Growth → Why
step_why g = refuse Fit (not (fits_growth g)) accepted

unfoldable pub step_of : Growth → Step
step_of g = record { why = step_why g; growth = if_accepted (step_why g) (grown g) g; size = if_accepted (step_why g) (size_of g) 0 }
