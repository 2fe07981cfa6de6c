-- What a call over a state says, as the exported call over its numbers says it. Assumes nothing.
use Rattle.std.specs.Prelude.{Ok, Err}
use mathlib.Core.Path.{◌≡◌, refl, ap, ◌∙◌}
use mathlib.Core.Bool.{not}
use mathlib.Core.List.{List, [], ◌∷◌}
use Prim.Native.Nat.{ℕ}
use borrow.Author.Tests.{eq-eqb, ne_eqb}
use lib.Dec.{eqb}
use lib.ListN.{get_or}
use Rattle.bounds.specs.Refusals.{number_of, why_number, if_accepted, accepted, Why}
use Rattle.bounds.specs.declared.Refusal.{Refusal}
use Rattle.growth.specs.declared.Growth.{Growth}
use Rattle.growth.specs.declared.Growth.TheVariants.{Fixed, Doubling}
use Rattle.column.specs.declared.Kind.{Kind}
use Rattle.column.specs.declared.Column.{Column}
use Rattle.column.specs.Room.{bare}
use Rattle.builder.specs.declared.Merging.{Merging}
use Rattle.builder.specs.declared.Merging.TheVariants.{Off, On, UpTo}
use Rattle.builder.specs.declared.Sizes.{Sizes}
use Rattle.builder.specs.declared.Sizes.TheVariants.{Doubled, Same}
use Rattle.builder.specs.declared.Settings.{Settings}
use Rattle.builder.specs.declared.State.{State}
use Rattle.builder.specs.declared.Answer.{Answer}
use Rattle.builder.specs.State.{Builder, held}
use Rattle.builder.specs.Get.{why_get}
use Rattle.builder.specs.Start.{why_start, started, unstarted, start_state}
use Rattle.builder.specs.Does.{Does, answer}
use Rattle.finishing.specs.Places.{spot_row}
use Rattle.numbers.specs.declared.Told.{Told}
use Rattle.numbers.specs.declared.Place.{Place}
use Rattle.numbers.specs.Numbers.{kind_from, kind_number, flag, column_numbers, why_told, place, place_of}
use Rattle.builder_exports.specs.Numbers.{growth_from, sizes_of, merging_of, state_of, settings_of}
use Rattle.builder_exports.specs.Numbers.{growth_number, growth_size, merging_number, merging_most, numbers_of, place_got, Exported}

module _ (why : Builder → Why) (put : Builder → Builder) (l vs bs ss ns ms ps : List ℕ) (s : State) (a : Answer) (vs' bs' ss' ns' ms' ps' : List ℕ)
    (e : s ≡ state_of l) (d : Does why put s vs bs ss ns ms ps a vs' bs' ss' ns' ms' ps') where
  abbrev b : Builder
  b = held (state_of l) vs bs ss ns ms ps

  does : Does why put (state_of l) vs bs ss ns ms ps a vs' bs' ss' ns' ms' ps'
  does = rw e at d

  -- a refused call's state is kept as numbers
  state-left : (w : Why) → if_accepted w (numbers_of (if_accepted w (put b) b).state) l ≡ if_accepted w (numbers_of (put b).state) l
  state-left (Ok _) = refl
  state-left (Err r) = refl

  pub exported : (n : ℕ) (l' : List ℕ) → n ≡ why_number a.why → l' ≡ if_accepted a.why (numbers_of a.state) l
      → Exported why put l vs bs ss ns ms ps n l' vs' bs' ss' ns' ms' ps'
  exported n l' p q =
      record {
        number = p ∙ ap (λ (x : Answer). why_number x.why) does.answers;
        state = q ∙ ap (λ (x : Answer). if_accepted x.why (numbers_of x.state) l) does.answers ∙ state-left (why b);
        views = does.views;
        bytes = does.bytes;
        starts = does.starts;
        lens = does.lens;
        nulls = does.nulls;
        places = does.places;
      }

  -- a verdict with its row, and a column that is handed over
  pub told-left : (t : Told) → t ≡ why_told a.why → t ≡ why_told (why b)
  told-left t p = p ∙ ap (λ (x : Answer). why_told x.why) does.answers

  pub column-left : (c d : Column) (n : Column) (k k' : List ℕ) → c ≡ if_accepted (why (held s vs bs ss ns ms ps)) d n
      → k' ≡ if_accepted a.why (column_numbers c) k
      → k' ≡ if_accepted (why (held s vs bs ss ns ms ps)) (column_numbers d) k
  column-left c d' n k k' p q = q ∙ ap (λ (x : Answer). if_accepted x.why (column_numbers c) k) d.answers ∙ by (why (held s vs bs ss ns ms ps)) p
    where
      by : (w : Why) → c ≡ if_accepted w d' n → if_accepted w (column_numbers c) k ≡ if_accepted w (column_numbers d') k
      by (Ok _) e = ap column_numbers e
      by (Err r) e = refl

-- start: its number, and the state's numbers
pub start_left : (t : Settings) (a : Answer) (n : ℕ) (l l' : List ℕ) → a ≡ answer (why_start t) (start_state t) → n ≡ why_number a.why
    → l' ≡ if_accepted a.why (numbers_of a.state) l → (n ≡ why_number (why_start t)) × (l' ≡ if_accepted (why_start t) (numbers_of (started t)) l)
unfolding start_state
start_left t a n l l' e p q =
    (p ∙ ap (λ (x : Answer). why_number x.why) e, q ∙ ap (λ (x : Answer). if_accepted x.why (numbers_of x.state) l) e ∙ by (why_start t))
  where
    by : (w : Why) → if_accepted w (numbers_of (if_accepted w (started t) (unstarted t))) l ≡ if_accepted w (numbers_of (started t)) l
    by (Ok _) = refl
    by (Err r) = refl

-- ---- numbers

module _ (k n : ℕ) where
  pub growth-zero : k ≡ 0 → Fixed n ≡ growth_from k n
  unfolding growth_from
  growth-zero h = rw (eq-eqb k 0 h)

  pub growth-other : (k ≡ 0 → ⊥) → Doubling n ≡ growth_from k n
  unfolding growth_from
  growth-other h = rw (ne_eqb k 0 h)

  pub sizes-zero : k ≡ 0 → Same n ≡ sizes_of k n
  unfolding sizes_of
  sizes-zero h = rw (eq-eqb k 0 h)

  pub sizes-other : (k ≡ 0 → ⊥) → Doubled ≡ sizes_of k n
  unfolding sizes_of
  sizes-other h = rw (ne_eqb k 0 h)

  pub merging-zero : k ≡ 0 → Off ≡ merging_of k n
  unfolding merging_of
  merging-zero h = rw (eq-eqb k 0 h)

  pub merging-one : (k ≡ 0 → ⊥) → k ≡ 1 → On ≡ merging_of k n
  unfolding merging_of
  merging-one h g = rw (ne_eqb k 0 h, eq-eqb k 1 g)

  pub merging-other : (k ≡ 0 → ⊥) → (k ≡ 1 → ⊥) → UpTo n ≡ merging_of k n
  unfolding merging_of
  merging-other h g = rw (ne_eqb k 0 h, ne_eqb k 1 g)

module _ (l : List ℕ) (k : Kind) (m : Merging) where
  pub state-is : (g : Growth) → k ≡ kind_from (get_or l 0 0) → g ≡ growth_from (get_or l 1 0) (get_or l 2 0) → m ≡ merging_of (get_or l 3 0) (get_or l 4 0)
      → record {
        kind = k;
        growth = g;
        merging = m;
        rows = get_or l 5 0;
        blocks = get_or l 6 0;
        base = get_or l 7 0;
        fill = get_or l 8 0;
        cap = get_or l 9 0;
        nulled = not (eqb (get_or l 10 0) 0);
      } ≡ state_of l
  unfolding state_of
  state-is g p q r = rw (p, q, r)

  pub settings-is : (g : Sizes) → k ≡ kind_from (get_or l 0 0) → g ≡ sizes_of (get_or l 1 0) (get_or l 2 0) → m ≡ merging_of (get_or l 3 0) (get_or l 4 0)
      → record { kind = k; sizes = g; merging = m } ≡ settings_of l
  unfolding settings_of
  settings-is g p q r = rw (p, q, r)

pub numbers-are : (s : State) (k g z m u f : ℕ) → k ≡ kind_number s.kind → g ≡ growth_number s.growth → z ≡ growth_size s.growth
    → m ≡ merging_number s.merging
    → u ≡ merging_most s.merging → f ≡ flag s.nulled
    → k ∷ g ∷ z ∷ m ∷ u ∷ s.rows ∷ s.blocks ∷ s.base ∷ s.fill ∷ s.cap ∷ f ∷ [] ≡ numbers_of s
unfolding numbers_of
numbers-are s k g z m u f a b c d e h = λ i. a i ∷ b i ∷ c i ∷ d i ∷ e i ∷ s.rows ∷ s.blocks ∷ s.base ∷ s.fill ∷ s.cap ∷ h i ∷ []

-- ---- places

module _ (s : State) (vs bs ss ns ms ps : List ℕ) (r : ℕ) (w : Why) (is : w ≡ why_get (held s vs bs ss ns ms ps) r) where
  pub got-not : (e : Refusal) → w ≡ Err e → (n : ℕ) → n ≡ number_of e → place n 0 0 0 ≡ place_got s vs bs ss ns ms ps r
  unfolding place_got
  got-not e q n p = rw (← is, q, p)

  pub got-there : w ≡ accepted → (p : Place) → p ≡ place_of (spot_row s (bare vs bs ss ns) r) → p ≡ place_got s vs bs ss ns ms ps r
  unfolding place_got
  got-there q p e = rw (← is, q) e
