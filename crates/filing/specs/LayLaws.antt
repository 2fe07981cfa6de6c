-- A block added over a table of records, from what its parts leave. Assumes nothing.
use Rattle.std.specs.Prelude.{◌≡◌, true, false, not, List, ℕ, ◌≤◌, ◌<◌, ltb, length, Err}
use Rattle.std.proofs.Math.Path.{refl}
use Rattle.std.proofs.Common.{ap, ◌∙◌, arith}
use borrow.Author.Tests.{lt-ltb, le-ltb, leb-true}
use Rattle.std.proofs.Math.Dec.{leb}
use Rattle.std.proofs.Math.ListN.{set}
use Rattle.std.proofs.Math.Seq.{paste}
use Rattle.bounds.specs.Bounds.{block_limit, byte_limit}
use Rattle.bounds.specs.Refusals.{refuse, is_accepted, accepted, Why}
use Rattle.bounds.specs.declared.Refusal.TheVariants.{Fit, TooLong}
use Rattle.column.specs.declared.Block.{Block}
use Rattle.column.specs.Lent.{block, table_of}
use Rattle.column.proofs.FitLaws.{and_left, and_right}
use Rattle.builder.specs.declared.State.{State}
use Rattle.builder.specs.State.{held, all_blocks, used, fits_rooms, closed, complete, recorded}
use Rattle.builder.specs.Rooms.{room_of_rows, room_of_blocks, room_of_bytes}
use Rattle.builder.specs.RoomLaws.{blocks-room-is, bytes-room-is, is-accepted}
use Rattle.builder.specs.Others.{lay_block, why_room, why_block, put_block, block_number}
use Rattle.builder.specs.Does.{answer}
use Rattle.appending.specs.Laying.{block_more}
use Rattle.appending.specs.BlockLaws.{Blocked, blocked, does-not-block, does-block}
use Rattle.filing.specs.Files.{Files, filed, open_table}
use Rattle.filing.specs.FilesLaws.{over-tables, blank, blank-length, blocks-room, files-of, table-no, table-yes, recorded-table, fits-by}

-- a block's verdict, by the lengths of what is lent and the count of the records
unfoldable pub block_by : State → ℕ → ℕ → ℕ → ℕ → ℕ → ℕ → Why
block_by s views bytes count nulls places n =
    refuse Fit (not (fits_rooms s (room_of_rows s.merging views nulls places) (room_of_blocks count count) (room_of_bytes bytes)))
    (refuse TooLong (ltb byte_limit n) (why_room s (room_of_blocks count count) (room_of_bytes bytes) 1 n))

module _ (s : State) (views bytes count nulls places n : ℕ) where
  abbrev fits : Type 0
  fits = fits_rooms s (room_of_rows s.merging views nulls places) (room_of_blocks count count) (room_of_bytes bytes) ≡ true

  pub block_fit : fits_rooms s (room_of_rows s.merging views nulls places) (room_of_blocks count count) (room_of_bytes bytes) ≡ false → Err Fit
      ≡ block_by s views bytes count nulls places n
  unfolding block_by refuse
  block_fit h = rw h

  pub block-long : fits → byte_limit < n → Err TooLong ≡ block_by s views bytes count nulls places n
  unfolding block_by refuse
  block-long h g = rw (h, lt-ltb byte_limit n g)

  pub fits-small : fits → (all_blocks s ≤ block_limit) × (used s ≤ byte_limit)
  unfolding fits_rooms room_of_blocks room_of_bytes
  fits-small h =
      let r = leb s.rows (room_of_rows s.merging views nulls places) in
      let b = leb (all_blocks s) (room_of_blocks count count) in
      let u = leb (used s) (room_of_bytes bytes) in
      let h1 = and_right r _ h in
      let k = leb-true (all_blocks s) (room_of_blocks count count) (and_left b _ h1) in
      let d = leb-true (used s) (room_of_bytes bytes) (and_left u _ (and_right b _ h1)) in
      (omega (arith, k), omega (arith, d))

  pub block_room_lem : fits → n ≤ byte_limit → (w : Why) (p q : ℕ) → p ≡ room_of_blocks count count → q ≡ room_of_bytes bytes → w ≡ why_room s p q 1 n
      → w ≡ block_by s views bytes count nulls places n
  unfolding block_by refuse
  block_room_lem h g w p q ep eq e = e ∙ rw (h, le-ltb byte_limit n g, ep, eq)

module _ (s : State) (vs bs ms ps x : List ℕ) (n : ℕ) (w : Why) (ew : w ≡ block_by s (length vs) (length bs) n (length ms) (length ps) (length x)) where
  verdict : (ss ns : List ℕ) → n ≡ length ss → n ≡ length ns → w ≡ why_block (held s vs bs ss ns ms ps) x
  unfolding block_by why_block
  verdict ss ns es en =
      ew ∙ rw (fits-by s vs bs ms ps n ss ns es en, blocks-room n ss ns es en ∙ blocks-room-is s vs bs ss ns ms ps, bytes-room-is s vs bs ss ns ms ps)

  pub laid-room : is_accepted w ≡ true → Blocked s vs bs (blank n) (blank n) ms ps x
  laid-room h = blocked s vs bs (blank n) (blank n) ms ps x (rw (verdict (blank n) (blank n) (blank-length n) (blank-length n)) at h)

  pub laid-no : is_accepted w ≡ false → (t : List Block) → n ≡ length t
      → Files (λ d. why_block d x) (put_block x) s vs bs t ms ps (answer w s) vs bs t ms ps × (0 ≡ block_number (filed s vs bs t ms ps) x)
  laid-no h =
      over-tables (λ t. Files (λ d. why_block d x) (put_block x) s vs bs t ms ps (answer w s) vs bs t ms ps
      × (0 ≡ block_number (filed s vs bs t ms ps) x)) n (λ ss ns es en.
      let e = verdict ss ns es en in
      let d = does-not-block s vs bs ss ns ms ps x w e h in (
        files-of (λ d. why_block d x) (put_block x) s vs bs ss ns ms ps (table_of ss ns) d.0
            (table-no (λ d. why_block d x) (put_block x) s vs bs ss ns ms ps w e h),
        d.1,
      ))

  -- z₁ is the table with the open block's record
  pub laid-yes : (t : State) {u : State} {bs' : List ℕ} → is_accepted w ≡ true → t ≡ closed s → u ≡ block_more (length x) t
      → bs' ≡ paste bs t.base x (length x)
      → (z : List Block) → n ≡ length z → (z₁ z₂ : List Block) → z₁ ≡ open_table s z → z₂ ≡ set z₁ t.blocks (block t.base (length x))
      → Files (λ d. why_block d x) (put_block x) s vs bs z ms ps (answer accepted u) vs bs' z₂ ms ps
      × (t.blocks ≡ block_number (filed s vs bs z ms ps) x)
  unfolding put_block lay_block complete closed
  laid-yes t {u} {bs'} h et eu eb =
      over-tables (λ z. (z₁ z₂ : List Block) → z₁ ≡ open_table s z → z₂ ≡ set z₁ t.blocks (block t.base (length x))
      → Files (λ d. why_block d x) (put_block x) s vs bs z ms ps (answer accepted u) vs bs' z₂ ms ps
      × (t.blocks ≡ block_number (filed s vs bs z ms ps) x)) n (λ ss ns es en z₁ z₂ e₁ e₂.
      let e = verdict ss ns es en in
      let d = does-block s vs bs ss ns ms ps x w t e h et refl refl eu eb refl refl in
      let first : z₁ ≡ (recorded s (held s vs bs ss ns ms ps).lent).table = e₁ ∙ recorded-table s vs bs ss ns ms in (
        files-of (λ d. why_block d x) (put_block x) s vs bs ss ns ms ps z₂ d.0
            (table-yes (λ d. why_block d x) (put_block x) s vs bs ss ns ms ps z₂
            (is-accepted w (why_block (held s vs bs ss ns ms ps) x) e h)
            (e₂ ∙ λ i. set (first i) (et i).blocks (block (et i).base (length x)))),
        d.1,
      ))
