-- A builder: its state beside the buffers that it is lent; when the state fits them; the small steps of which its calls are made. Assumes nothing.
use Rattle.std.specs.Prelude.{Bool, true, not, ◌&&◌, List, ℕ, zero, suc, ◌+◌, ◌*◌, min, max, leb, eqb, length, set}
use Rattle.std.proofs.Math.Seq.{paste}
use Rattle.basis.specs.Pick.{pick}
use Rattle.bounds.specs.Bounds.{row_limit}
use Rattle.bounds.specs.Refusals.{if_accepted, Why}
use Rattle.null_bits.specs.Bits.{put_bit}
use Rattle.growth.specs.Growing.{size_of, grown, fits_growth}
use Rattle.growth.specs.declared.Growth.{Growth}
use Rattle.column.specs.Lent.{Lent, buffers, lent, block, row_room, block_room, data_room}
use Rattle.column.specs.Meaning.{blocks_of}
use Rattle.builder.specs.declared.Merging.{Merging}
use Rattle.builder.specs.declared.Merging.TheVariants.{Off, On, UpTo}
use Rattle.builder.specs.declared.State.{State}

-- the state, the buffers, and the places of the merge table
pub record Builder : Type 0 where
  pub state : State
  pub lent : Lent
  pub places : List ℕ

-- kind and merging stay what they were given at start
abbrev pub moved : State → Growth → ℕ → ℕ → ℕ → ℕ → ℕ → Bool → State
moved s growth rows blocks base fill cap nulled =
    record { kind = s.kind; growth = growth; merging = s.merging; rows = rows; blocks = blocks; base = base; fill = fill; cap = cap; nulled = nulled }

abbrev pub builder : State → Lent → List ℕ → Builder
builder s l places = record { state = s; lent = l; places = places }

-- a builder whose block table is lent as two number slices
abbrev pub held : State → List ℕ → List ℕ → List ℕ → List ℕ → List ℕ → List ℕ → Builder
held s views bytes starts lens nulls places = builder s (lent views bytes starts lens nulls) places

-- what a call leaves: what it does where it is accepted, and everything as it came where it is refused
abbrev pub outcome : Why → (Builder → Builder) → Builder → Builder
outcome w does b = if_accepted w (does b) b

-- the merge table, of so many places, bounds the rows where it is used
abbrev pub places_room : Merging → ℕ → ℕ
places_room Off places = row_limit
places_room On places = places
places_room (UpTo n) places = places

-- the bit of each added row is written, so the map always counts
unfoldable pub rows_room : Builder → ℕ
rows_room b = min (row_room true b.lent) (places_room b.state.merging (length b.places))

-- an open block is there from its first byte on
abbrev pub is_open : State → Bool
is_open s = not (eqb s.fill 0)

-- the blocks, the open one included
unfoldable pub all_blocks : State → ℕ
all_blocks s = pick (is_open s) (suc s.blocks) s.blocks

abbrev pub used : State → ℕ
used s = s.base + s.fill

-- a state fits rooms for so many rows, blocks and bytes
unfoldable pub fits_rooms : State → ℕ → ℕ → ℕ → Bool
fits_rooms s rows blocks bytes = leb s.rows rows && (leb (all_blocks s) blocks && (leb (used s) bytes && fits_growth s.growth))

unfoldable pub fits_state : Builder → Bool
fits_state b = fits_rooms b.state (rows_room b) (block_room b.lent) (data_room b.lent)

-- the open block's record is written
unfoldable pub recorded : State → Lent → Lent
recorded s l = buffers l.views l.bytes (pick (is_open s) (set l.table s.blocks (block s.base s.fill)) l.table) l.nulls

-- the bytes of the blocks, those of the open one last
unfoldable pub blocks_now : Builder → List (List ℕ)
blocks_now b = blocks_of (recorded b.state b.lent) (all_blocks b.state)

-- the open block, if any, completed
unfoldable pub closed : State → State
closed s = moved s s.growth s.rows (all_blocks s) (used s) 0 0 s.nulled

unfoldable pub complete : Builder → Builder
complete b = builder (closed b.state) (recorded b.state b.lent) b.places

-- an open block is there that takes n bytes more
unfoldable pub fits_open : State → ℕ → Bool
fits_open s n = is_open s && leb (s.fill + n) s.cap

-- the next size is taken, for a block that holds n bytes at least
unfoldable pub sized : ℕ → State → State
sized n s = moved s (grown s.growth) s.rows s.blocks s.base s.fill (max n (size_of s.growth)) s.nulled

-- the open block takes n bytes more, or it is completed and a new one does
unfoldable pub roomed : ℕ → State → State
roomed n s = pick (fits_open s n) s (sized n (closed s))

unfoldable pub make_room : ℕ → Builder → Builder
make_room n b = builder (roomed n b.state) (pick (fits_open b.state n) b.lent (recorded b.state b.lent)) b.places

-- n bytes more in the open block
abbrev pub laid : ℕ → State → State
laid n s = moved s s.growth s.rows s.blocks s.base (s.fill + n) s.cap s.nulled

-- x laid at the end of the open block
unfoldable pub lay : List ℕ → Builder → Builder
lay x b =
    let s = b.state in
    let l = b.lent in
    builder (laid (length x) s) (buffers l.views (paste l.bytes (used s) x (length x)) l.table l.nulls) b.places

-- a row more; a null row sets the flag
abbrev pub rowed : Bool → State → State
rowed valid s = moved s s.growth (suc s.rows) s.blocks s.base s.fill s.cap (pick valid s.nulled true)

-- a row more: its view and its bit
unfoldable pub add_row : List ℕ → Bool → Builder → Builder
add_row v valid b =
    let s = b.state in
    let l = b.lent in
    builder (rowed valid s) (buffers (paste l.views (16 * s.rows) v 16) l.bytes l.table (put_bit l.nulls s.rows valid)) b.places

-- the same row n times
unfoldable pub add_rows : ℕ → List ℕ → Bool → Builder → Builder
add_rows zero v valid b = b
add_rows (suc n) v valid b = add_row v valid (add_rows n v valid b)
