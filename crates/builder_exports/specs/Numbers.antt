-- A builder's state and its settings as the numbers that C and Rust see, and what an exported call says of them. Assumes nothing.
use Rattle.std.specs.Prelude.{◌≡◌, Bool, true, false, not, List, [], ◌∷◌, ℕ, eqb, get_or, Ok, Err}
use Rattle.bounds.specs.Refusals.{number_of, why_number, if_accepted, Why}
use Rattle.growth.specs.declared.Growth.{Growth}
use Rattle.growth.specs.declared.Growth.TheVariants.{Fixed, Doubling}
use Rattle.column.specs.Room.{bare}
use Rattle.builder.specs.declared.Merging.{Merging}
use Rattle.builder.specs.declared.Merging.TheVariants.{Off, On, UpTo}
use Rattle.builder.specs.declared.Sizes.{Sizes}
use Rattle.builder.specs.declared.Sizes.TheVariants.{Doubled, Same}
use Rattle.builder.specs.declared.Settings.{Settings}
use Rattle.builder.specs.declared.State.{State}
use Rattle.builder.specs.State.{Builder, held}
use Rattle.builder.specs.Get.{why_get}
use Rattle.builder.specs.Does.{left, starts_of, lens_of}
use Rattle.finishing.specs.Places.{spot_row}
use Rattle.numbers.specs.declared.Place.{Place}
use Rattle.numbers.specs.Numbers.{kind_from, kind_number, flag, place, place_of}

-- ---- numbers in: 0 is the first of two, anything else the second

abbrev pub growth_by : Bool → ℕ → Growth
growth_by true n = Fixed n
growth_by false n = Doubling n

abbrev pub sizes_by : Bool → ℕ → Sizes
sizes_by true n = Same n
sizes_by false n = Doubled

-- 0 off, 1 on, anything else up to a maximum
abbrev pub merging_by : Bool → Bool → ℕ → Merging
merging_by true one most = Off
merging_by false true most = On
merging_by false false most = UpTo most

unfoldable pub growth_from : ℕ → ℕ → Growth
growth_from g n = growth_by (eqb g 0) n

unfoldable pub sizes_of : ℕ → ℕ → Sizes
sizes_of g n = sizes_by (eqb g 0) n

unfoldable pub merging_of : ℕ → ℕ → Merging
merging_of m most = merging_by (eqb m 0) (eqb m 1) most

-- kind, growth and its size, merging and its maximum, rows, blocks, base, fill, capacity, whether a null was added
unfoldable pub state_of : List ℕ → State
state_of l =
    record {
      kind = kind_from (get_or l 0 0);
      growth = growth_from (get_or l 1 0) (get_or l 2 0);
      merging = merging_of (get_or l 3 0) (get_or l 4 0);
      rows = get_or l 5 0;
      blocks = get_or l 6 0;
      base = get_or l 7 0;
      fill = get_or l 8 0;
      cap = get_or l 9 0;
      nulled = not (eqb (get_or l 10 0) 0);
    }

-- kind, growth and its fixed size, merging and its maximum
unfoldable pub settings_of : List ℕ → Settings
settings_of l = record { kind = kind_from (get_or l 0 0); sizes = sizes_of (get_or l 1 0) (get_or l 2 0); merging = merging_of (get_or l 3 0) (get_or l 4 0) }

-- ---- numbers out

abbrev pub growth_number : Growth → ℕ
growth_number (Fixed n) = 0
growth_number (Doubling n) = 1

abbrev pub growth_size : Growth → ℕ
growth_size (Fixed n) = n
growth_size (Doubling n) = n

abbrev pub merging_number : Merging → ℕ
merging_number Off = 0
merging_number On = 1
merging_number (UpTo n) = 2

abbrev pub merging_most : Merging → ℕ
merging_most Off = 0
merging_most On = 0
merging_most (UpTo n) = n

unfoldable pub numbers_of : State → List ℕ
numbers_of s =
    kind_number s.kind ∷ growth_number s.growth ∷ growth_size s.growth ∷ merging_number s.merging ∷ merging_most s.merging
    ∷ s.rows ∷ s.blocks ∷ s.base ∷ s.fill ∷ s.cap ∷ flag s.nulled ∷ []

abbrev pub place_when : Why → Place → Place
place_when (Ok _) p = p
place_when (Err r) p = place (number_of r) 0 0 0

-- where the value of a row stands while it is built
unfoldable pub place_got : State → List ℕ → List ℕ → List ℕ → List ℕ → List ℕ → List ℕ → ℕ → Place
place_got s vs bs ss ns ms ps r = place_when (why_get (held s vs bs ss ns ms ps) r) (place_of (spot_row s (bare vs bs ss ns) r))

-- ---- a call: its number, the state's numbers and each buffer at exit, of those at entry

pub record Exported (why : Builder → Why) (put : Builder → Builder) (l vs bs ss ns ms ps : List ℕ) (n : ℕ) (l' vs' bs' ss' ns' ms' ps' : List ℕ) : Type 0 where
  pub number : n ≡ why_number (why (held (state_of l) vs bs ss ns ms ps))
  pub state : l' ≡ if_accepted (why (held (state_of l) vs bs ss ns ms ps)) (numbers_of (put (held (state_of l) vs bs ss ns ms ps)).state) l
  pub views : vs' ≡ (left why put (held (state_of l) vs bs ss ns ms ps)).lent.views
  pub bytes : bs' ≡ (left why put (held (state_of l) vs bs ss ns ms ps)).lent.bytes
  pub starts : ss' ≡ starts_of (left why put (held (state_of l) vs bs ss ns ms ps)).lent.table ss
  pub lens : ns' ≡ lens_of (left why put (held (state_of l) vs bs ss ns ms ps)).lent.table ns
  pub nulls : ms' ≡ (left why put (held (state_of l) vs bs ss ns ms ps)).lent.nulls
  pub places : ps' ≡ (left why put (held (state_of l) vs bs ss ns ms ps)).places
