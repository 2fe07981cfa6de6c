-- Growth by doubling, in the paper's words: "Doubling from 8,192: first 16,384, eighth 2,097,152, then constant. Fixed: always the size." The step goes by
-- the sheet (Growing); this is what the sheet is held against (proofs/Sheet). Assumes nothing.
use Rattle.bounds.specs.Refusals.{accepted}
use Rattle.std.specs.Prelude.{ℕ, zero, suc, ◌*◌, ◌^◌, Bool, false, ◌||◌, ◌&&◌, eqb, ltb, leb, Err}
use Rattle.basis.specs.Pick.{pick}
use Rattle.bounds.specs.Bounds.{byte_limit}
use Rattle.bounds.specs.declared.Refusal.TheVariants.{Fit}
use Rattle.growth.specs.declared.Step.{Step}
use Rattle.growth.specs.declared.Growth.{Growth}
use Rattle.growth.specs.declared.Growth.TheVariants.{Fixed, Doubling}
use Rattle.growth.specs.Growing.{start_size}

-- the start doubled k times
unfoldable pub start_doubled : ℕ → ℕ
start_doubled k = start_size * 2 ^ k

-- the size after s: doubled, until the start has been doubled eight times
unfoldable pub doubled : ℕ → ℕ
doubled s = pick (ltb s (start_doubled 8)) (2 * s) s

-- is s the start doubled fewer than n times?
unfoldable pub doubled_in : ℕ → ℕ → Bool
doubled_in zero s = false
doubled_in (suc n) s = doubled_in n s || eqb s (start_doubled n)

unfoldable pub fits_doubled : Growth → Bool
fits_doubled (Fixed n) = leb 1 n && leb n byte_limit
fits_doubled (Doubling s) = doubled_in 9 s

-- the next block's size
abbrev pub doubled_size : Growth → ℕ
doubled_size (Fixed n) = n
doubled_size (Doubling s) = doubled s

-- the state after the step
abbrev pub doubled_growth : Growth → Growth
doubled_growth (Fixed n) = Fixed n
doubled_growth (Doubling s) = Doubling (doubled s)

unfoldable pub doubled_step : Growth → Step
doubled_step g =
    pick (fits_doubled g)
    (record { why = accepted; growth = doubled_growth g; size = doubled_size g })
    (record { why = Err Fit; growth = g; size = 0 })
