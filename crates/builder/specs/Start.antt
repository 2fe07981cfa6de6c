-- Start: the settings that it takes, and the builder that it makes. Assumes nothing.
use Rattle.std.specs.Prelude.{Bool, true, false, not, ◌&&◌, List, ℕ, leb, length, replicate}
use Rattle.basis.specs.Pick.{pick}
use Rattle.bounds.specs.Bounds.{byte_limit}
use Rattle.bounds.specs.Refusals.{refuse, if_accepted, accepted, Why}
use Rattle.bounds.specs.declared.Refusal.TheVariants.{Setting}
use Rattle.growth.specs.Growing.{start_size}
use Rattle.growth.specs.declared.Growth.{Growth}
use Rattle.growth.specs.declared.Growth.TheVariants.{Fixed, Doubling}
use Rattle.column.specs.Lent.{Lent}
use Rattle.column.specs.declared.Kind.{Kind}
use Rattle.builder.specs.declared.Merging.{Merging}
use Rattle.builder.specs.declared.Merging.TheVariants.{Off, On, UpTo}
use Rattle.builder.specs.declared.Sizes.{Sizes}
use Rattle.builder.specs.declared.Sizes.TheVariants.{Doubled, Same}
use Rattle.builder.specs.declared.Settings.{Settings}
use Rattle.builder.specs.declared.State.{State}
use Rattle.builder.specs.State.{Builder, builder}

-- a fixed block size is 1 to the most bytes that a block has
abbrev pub lawful_sizes : Sizes → Bool
lawful_sizes Doubled = true
lawful_sizes (Same n) = leb 1 n && leb n byte_limit

-- a merge maximum is not 0
abbrev pub lawful_merging : Merging → Bool
lawful_merging Off = true
lawful_merging On = true
lawful_merging (UpTo n) = leb 1 n

unfoldable pub why_start : Settings → Why
why_start t = refuse Setting (not (lawful_sizes t.sizes && lawful_merging t.merging)) accepted

abbrev pub growth_of : Sizes → Growth
growth_of Doubled = Doubling start_size
growth_of (Same n) = Fixed n

-- no rows and no blocks
abbrev pub empty_state : Kind → Growth → Merging → State
empty_state k g m = record { kind = k; growth = g; merging = m; rows = 0; blocks = 0; base = 0; fill = 0; cap = 0; nulled = false }

abbrev pub started : Settings → State
started t = empty_state t.kind (growth_of t.sizes) t.merging

-- a size that no growth reaches: a state that fits no buffers, so that each call that is given it refuses with 2
abbrev pub unstarted : Settings → State
unstarted t = empty_state t.kind (Fixed 0) t.merging

unfoldable pub start_state : Settings → State
start_state t = if_accepted (why_start t) (started t) (unstarted t)

-- every place of the merge table empty, where it is used
abbrev pub is_off : Merging → Bool
is_off Off = true
is_off On = false
is_off (UpTo n) = false

unfoldable pub cleared : Merging → List ℕ → List ℕ
cleared m places = pick (is_off m) places (replicate (length places) 0)

unfoldable pub start_places : Settings → List ℕ → List ℕ
start_places t places = if_accepted (why_start t) (cleared t.merging places) places

-- a builder over buffers of any content
unfoldable pub start : Settings → Lent → List ℕ → Builder
start t l places = builder (started t) l (cleared t.merging places)
