-- What the value call does, case by case, and that the row's test and the search are those of the definitions. Assumes nothing.
use Rattle.std.proofs.Math.Path.{◌≡◌, refl, sym, ap}
use Rattle.std.proofs.Common.{◌∙◌, true≢false, mod-lt}
use Rattle.std.specs.Prelude.{Bool, not, ◌&&◌, List, ltb, set}
use Rattle.std.proofs.Math.Bool.{true, false}
use Prim.Native.Nat.{ℕ, zero, suc, ◌+◌, ◌*◌, ◌%◌, ◌≤◌, ◌<◌}
use Rattle.std.proofs.Math.Nat.{zero-add, add-zero}
use native.Mathlib.Omega.{arith}
use borrow.Author.Tests.{le-leb, lt-leb, lt-ltb, le-ltb, leb-true, leb-false, ltb-true, ltb-false}
use Rattle.std.proofs.Math.Dec.{leb}
use Rattle.std.proofs.Math.ListN.{length}
use Rattle.std.proofs.Math.Seq.{paste}
use Rattle.basis.specs.Pick.{pick}
use Rattle.bounds.specs.Refusals.{refuse, is_accepted, accepted-both, accepted}
use Rattle.bounds.specs.declared.Refusal.TheVariants.{BlockRoom, DataRoom}
use Rattle.order.specs.Order.{same}
use Rattle.hash.specs.Hash.{hash_of}
use Rattle.null_bits.specs.Bits.{put_bit}
use Rattle.views.specs.View.{short_most, view_at, short_view, long_view}
use Rattle.merging.specs.declared.Found.{Found}
use Rattle.merging.specs.declared.Found.TheVariants.{Row, Free, Full}
use Rattle.merging.specs.Table.{is_row, row_of, entered, seek, search_from}
use Rattle.merging.proofs.Search.{seek-row, seek-free, never-empty}
use Rattle.column.specs.declared.Block.{Block}
use Rattle.column.specs.Lent.{Lent, lent, buffers, block, table_of, in_data, block_room, data_room}
use Rattle.column.specs.Room.{bare}
use Rattle.column.specs.Meaning.{blocks_of, shown, shown_at}
use Rattle.column.specs.Truth.{reach_of, reachable}
use Rattle.column.proofs.FitLaws.{and_left}
use Rattle.builder.specs.declared.Merging.{Merging}
use Rattle.builder.specs.declared.State.{State}
use Rattle.builder.specs.State.{Builder, builder, held, is_open, all_blocks, used, fits_state, recorded, closed, sized, fits_open, roomed, make_room, laid, lay, rowed, add_row}
use Rattle.builder.specs.Get.{why_get, get_value}
use Rattle.builder.specs.Values.{merges, hits, found_by, found, why_lay, why_store, store, put_found, put_value}
use Rattle.builder.specs.Rooms.{open_starts, open_lens, shows_row}
use Rattle.builder.specs.RoomLaws.{all-bounds}
use Rattle.builder.specs.Does.{starts_of, lens_of}
use Rattle.builder.specs.DoesLaws.{starts-same, lens_same, starts-set, lens-set}

-- ---- the row's test is `hits`

module _ (s : State) (vs bs ss ns ms ps x : List ℕ) (fit : fits_state (held s vs bs ss ns ms ps) ≡ true) where
  abbrev whole : Lent
  whole = lent vs bs ss ns ms

  module _ (r : ℕ) where
    hits-late : leb s.rows r ≡ true → hits (held s vs bs ss ns ms ps) x r ≡ false
    unfolding hits why_get refuse
    hits-late q = rw (fit, q)

    hits-unreached : leb s.rows r ≡ false → reachable (recorded s whole) (all_blocks s) (view_at vs r) ≡ false → hits (held s vs bs ss ns ms ps) x r ≡ false
    unfolding hits why_get refuse recorded
    hits-unreached q z = rw (fit, q, zero-add r, z)

    hits-reached : leb s.rows r ≡ false → reachable (recorded s whole) (all_blocks s) (view_at vs r) ≡ true
        → hits (held s vs bs ss ns ms ps) x r ≡ same (shown (blocks_of (recorded s whole) (all_blocks s)) (view_at vs r)) x
    unfolding hits why_get get_value refuse recorded shown_at
    hits-reached q z = rw (fit, q, zero-add r, z)

    pub reach-same : reachable (recorded s (bare vs bs ss ns)) (all_blocks s) (view_at vs r) ≡ reachable (recorded s whole) (all_blocks s) (view_at vs r)
    unfolding recorded reachable reach_of in_data data_room
    reach-same = refl

    pub shown-same : shown (blocks_of (recorded s (bare vs bs ss ns)) (all_blocks s)) (view_at vs r) ≡ shown (blocks_of (recorded s whole) (all_blocks s))
        (view_at vs r)
    unfolding recorded blocks_of
    shown-same = refl

    pub hits-is : shows_row s (bare vs bs ss ns) x r ≡ hits (held s vs bs ss ns ms ps) x r
    unfolding shows_row
    hits-is = go (leb s.rows r) (reachable (recorded s whole) (all_blocks s) (view_at vs r)) refl refl
      where
        go : (a c : Bool) → leb s.rows r ≡ a → reachable (recorded s whole) (all_blocks s) (view_at vs r) ≡ c → shows_row s (bare vs bs ss ns) x r
            ≡ hits (held s vs bs ss ns ms ps) x r
        go true c q z = rw (le-ltb r s.rows (leb-true s.rows r q), hits-late q)
        go false true q z = rw (lt-ltb r s.rows (leb-false s.rows r q), reach-same, z, shown-same, hits-reached q z)
        go false false q z = rw (lt-ltb r s.rows (leb-false s.rows r q), reach-same, z, hits-unreached q z)

  pub found-is : found_by s.merging ps (shows_row s (bare vs bs ss ns) x) x ≡ found (held s vs bs ss ns ms ps) x
  unfolding found
  found-is = ap (λ (h : ℕ → Bool). found_by s.merging ps h x) (λ i r. hits-is r i)

-- a row that is found is there, and so is a place
module _ (m : Merging) (ps : List ℕ) (s : State) (l : Lent) (x : List ℕ) (f : Found) (e : f ≡ found_by m ps (shows_row s l x) x) where
  there : (r : ℕ) → shows_row s l x r ≡ true → r < s.rows
  unfolding shows_row
  there r q = ltb-true r s.rows (and_left (ltb r s.rows) _ q)

  found-row : (r : ℕ) → found_by m ps (shows_row s l x) x ≡ Row r → r < s.rows
  unfolding found_by search_from
  found-row r q = by (merges m (length x)) q
    where
      by : (t : Bool) → pick t (seek ps (shows_row s l x) (hash_of x % length ps) (length ps)) Full ≡ Row r → r < s.rows
      by true q = there r (seek-row ps (shows_row s l x) (hash_of x % length ps) (length ps) r q).0
      by false q = let z : ◌≡◌ {A = ℕ} 0 1 = cc in absurd (omega arith)

  pub row_lt : is_row f ≡ true → row_of f < s.rows
  row_lt h = go f h (sym e)
    where
      go : (g : Found) → is_row g ≡ true → found_by m ps (shows_row s l x) x ≡ g → row_of g < s.rows
      go (Row r) h q = found-row r q
      go (Free p) h q = absurd (true≢false (sym h))
      go Full h q = absurd (true≢false (sym h))

  pub free-lt : (p : ℕ) → f ≡ Free p → p < length ps
  unfolding found_by search_from
  free-lt p h = by (merges m (length x)) (sym e ∙ h)
    where
      places : (n : ℕ) → length ps ≡ n → seek ps (shows_row s l x) (hash_of x % length ps) n ≡ Free p → p < length ps
      places zero k q = absurd (never-empty ps (shows_row s l x) (hash_of x % length ps) p q)
      places (suc n) k q = (seek-free ps (shows_row s l x) (hash_of x % length ps) (suc n) p (mod-lt (hash_of x) (omega arith)) q).1

      by : (t : Bool) → pick t (seek ps (shows_row s l x) (hash_of x % length ps) (length ps)) Full ≡ Free p → p < length ps
      by true q = places (length ps) refl q
      by false q = let z : ◌≡◌ {A = ℕ} 0 1 = cc in absurd (omega arith)

-- ---- room for n bytes: what it keeps

module _ (s : State) (n : ℕ) where
  pub room-rows : (roomed n s).rows ≡ s.rows
  unfolding roomed sized closed
  room-rows = by (fits_open s n)
    where
      by : (t : Bool) → (pick t s (sized n (closed s))).rows ≡ s.rows
      by true = refl
      by false = refl

  pub room-used : used (roomed n s) ≡ used s
  unfolding roomed sized closed
  room-used = by (fits_open s n)
    where
      by : (t : Bool) → used (pick t s (sized n (closed s))) ≡ used s
      by true = refl
      by false = add-zero (s.base + s.fill)

  pub room-fill : (roomed n s).fill ≤ s.fill
  unfolding roomed sized closed
  room-fill = by (fits_open s n)
    where
      by : (t : Bool) → (pick t s (sized n (closed s))).fill ≤ s.fill
      by true = omega arith
      by false = omega arith

  pub room-blocks : (roomed n s).blocks ≤ all_blocks s
  unfolding roomed sized closed
  room-blocks = by (fits_open s n)
    where
      by : (t : Bool) → (pick t s (sized n (closed s))).blocks ≤ all_blocks s
      by true = (all-bounds s).0
      by false = omega arith

-- the buffers after room is made: only the table may differ
module _ (t : Bool) (s : State) (vs bs : List ℕ) (tab : List Block) (ms : List ℕ) where
  abbrev roomy : Lent
  roomy = pick t (buffers vs bs tab ms) (recorded s (buffers vs bs tab ms))

  pub room-views : roomy.views ≡ vs
  unfolding recorded
  room-views = by t
    where
      by : (t : Bool) → (pick t (buffers vs bs tab ms) (recorded s (buffers vs bs tab ms))).views ≡ vs
      by true = refl
      by false = refl

  pub room-bytes : roomy.bytes ≡ bs
  unfolding recorded
  room-bytes = by t
    where
      by : (t : Bool) → (pick t (buffers vs bs tab ms) (recorded s (buffers vs bs tab ms))).bytes ≡ bs
      by true = refl
      by false = refl

  pub room-nulls : roomy.nulls ≡ ms
  unfolding recorded
  room-nulls = by t
    where
      by : (t : Bool) → (pick t (buffers vs bs tab ms) (recorded s (buffers vs bs tab ms))).nulls ≡ ms
      by true = refl
      by false = refl

-- the table's two slices after room is made
module _ (s : State) (vs bs ss ns ms : List ℕ) (hs : all_blocks s ≤ length ss) (hn : all_blocks s ≤ length ns) where
  pub recorded-starts : open_starts s ss ≡ starts_of (recorded s (lent vs bs ss ns ms)).table ss
  unfolding recorded open_starts all_blocks
  recorded-starts = by (is_open s) hs hn
    where
      by : (o : Bool) → pick o (suc s.blocks) s.blocks ≤ length ss → pick o (suc s.blocks) s.blocks ≤ length ns
          → pick o (set ss s.blocks s.base) ss ≡ starts_of (pick o (set (table_of ss ns) s.blocks (block s.base s.fill)) (table_of ss ns)) ss
      by true h g = sym (starts-set ss ns s.blocks s.base s.fill h g)
      by false h g = sym (starts-same ss ns)

  pub recorded-lens : open_lens s ns ≡ lens_of (recorded s (lent vs bs ss ns ms)).table ns
  unfolding recorded open_lens all_blocks
  recorded-lens = by (is_open s) hs hn
    where
      by : (o : Bool) → pick o (suc s.blocks) s.blocks ≤ length ss → pick o (suc s.blocks) s.blocks ≤ length ns
          → pick o (set ns s.blocks s.fill) ns ≡ lens_of (pick o (set (table_of ss ns) s.blocks (block s.base s.fill)) (table_of ss ns)) ns
      by true h g = sym (lens-set ss ns s.blocks s.base s.fill h g)
      by false h g = sym (lens_same ss ns)

  pub room-starts : (t : Bool) → pick t ss (open_starts s ss) ≡ starts_of (pick t (lent vs bs ss ns ms) (recorded s (lent vs bs ss ns ms))).table ss
  room-starts true = sym (starts-same ss ns)
  room-starts false = recorded-starts

  pub room-lens : (t : Bool) → pick t ns (open_lens s ns) ≡ lens_of (pick t (lent vs bs ss ns ms) (recorded s (lent vs bs ss ns ms))).table ns
  room-lens true = sym (lens_same ss ns)
  room-lens false = recorded-lens

-- ---- the value call, case by case

module _ (s : State) (vs bs ss ns ms ps x : List ℕ) where
  pub store-short : length x ≤ short_most → why_store (held s vs bs ss ns ms ps) x ≡ accepted
  unfolding why_store
  store-short h = rw (le-leb (length x) short_most h)

  pub put-short : length x ≤ short_most → add_row (short_view x) true (held s vs bs ss ns ms ps) ≡ put_value x (held s vs bs ss ns ms ps)
  unfolding put_value
  put-short h = rw (le-leb (length x) short_most h)

  module _ (f : Found) (e : f ≡ found (held s vs bs ss ns ms ps) x) (long : short_most < length x) where
    pub store-row : is_row f ≡ true → why_store (held s vs bs ss ns ms ps) x ≡ accepted
    unfolding why_store
    store-row h = rw (lt-leb (length x) short_most long, ← e, h)

    pub store-lay : is_row f ≡ false → why_lay s (block_room (lent vs bs ss ns ms)) (data_room (lent vs bs ss ns ms)) (length x)
        ≡ why_store (held s vs bs ss ns ms ps) x
    unfolding why_store
    store-lay h = rw (lt-leb (length x) short_most long, ← e, h)

    pub put-row : is_row f ≡ true → add_row (view_at vs (row_of f)) true (held s vs bs ss ns ms ps) ≡ put_value x (held s vs bs ss ns ms ps)
    unfolding put_value put_found
    put-row h = rw (lt-leb (length x) short_most long, ← e, h)

    -- stored: what is in each field
    abbrev pub stored : Builder
    stored =
        builder (rowed true (laid (length x) (roomed (length x) s)))
        (buffers (paste vs (16 * s.rows) (long_view x (roomed (length x) s).blocks (roomed (length x) s).fill) 16)
        (paste bs (used (roomed (length x) s)) x (length x))
        (pick (fits_open s (length x)) (lent vs bs ss ns ms) (recorded s (lent vs bs ss ns ms))).table
        (put_bit ms s.rows true))
        (entered f (suc s.rows) ps)

    pub put-lay : is_row f ≡ false → stored ≡ put_value x (held s vs bs ss ns ms ps)
    unfolding put_value put_found store make_room lay add_row
    put-lay h =
        rw (
          lt-leb (length x) short_most long,
          ← e,
          h,
          room-rows s (length x),
          room-views (fits_open s (length x)) s vs bs (table_of ss ns) ms,
          room-bytes (fits_open s (length x)) s vs bs (table_of ss ns) ms,
          room-nulls (fits_open s (length x)) s vs bs (table_of ss ns) ms,
        )

-- room for the bytes where they are laid
pub lay-room : (s : State) (blocks bytes n : ℕ) → is_accepted (why_lay s blocks bytes n) ≡ true → used s + n ≤ bytes
unfolding why_lay
lay-room s blocks bytes n a =
    let k = accepted-both BlockRoom (not (fits_open s n) && leb blocks (all_blocks s)) _ a in
    let d = accepted-both DataRoom (ltb bytes (used s + n)) _ k.1 in
    ltb-false bytes (used s + n) d.0
