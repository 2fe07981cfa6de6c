-- A column over a table of records: its verdict, what an accepted one knows, what its parts leave, and its blocks laid one by one. Assumes nothing.
use Rattle.std.specs.Prelude.{Ok, Err}
use mathlib.Core.Path.{◌≡◌, refl, sym, ap, subst, ◌∙◌}
use mathlib.Core.Logic.{by_cases}
use mathlib.Core.Bool.{Bool, true, false}
use mathlib.Core.List.{List, []}
use Prim.Native.Nat.{ℕ, zero, suc, ◌+◌, ◌-◌, ◌*◌, ◌≤◌, ◌<◌}
use native.Mathlib.Numerals.{add-one}
use Rattle.std.specs.Prelude.{sum_by}
use Rattle.std.proofs.lemmas.List.Sums.{sum_by_more}
use native.Mathlib.Nat.{add-zero, add_assoc, not-suc-le-zero}
use native.Mathlib.Decide.{ℕ_discrete}
use native.Mathlib.Omega.{arith}
use borrow.Author.Tests.{ltb-true, ltb-false, leb-true, lt-ltb, le-ltb}
use lib.Dec.{leb, ltb, eqb, lit<}
use lib.ListN.{length, set, get_or, take, drop, length-drop, length-set}
use lib.Seq.{paste, length-paste, length-take-le}
use Rattle.basis.specs.Pick.{pick, part-is}
use Rattle.bounds.specs.Bounds.{row_limit, block_limit, byte_limit, byte-limit-is, block-limit-small}
use Rattle.bounds.specs.Refusals.{refuse, is_accepted, if_accepted, accepted-both, accepted-no, accepted, Why}
use Rattle.bounds.specs.declared.Refusal.TheVariants.{Fit, RowRoom}
use Rattle.null_bits.specs.Bits.{count_nulls}
use Rattle.null_bits.specs.Runs.{copy_column}
use Rattle.views.specs.View.{view_at}
use Rattle.column.specs.declared.Block.{Block}
use Rattle.column.specs.declared.Column.{Column}
use Rattle.column.specs.Lent.{Lent, buffers, block, table_of, lent, fits, in_data, all_in_data, block_at, block_room, row_room}
use Rattle.column.specs.Meaning.{bytes_of}
use Rattle.column.proofs.FitLaws.{in-data-gives, and_left, and_right}
use Rattle.column.proofs.FitLaws as fit-laws
use Rattle.validity.specs.Check.{why_invalid}
use Rattle.builder.specs.declared.State.{State}
use Rattle.builder.specs.declared.Answer.{Answer}
use Rattle.builder.specs.State.{Builder, held, all_blocks, used, fits_rooms, fits_state, closed, complete}
use Rattle.builder.specs.Rooms.{room_of_rows, room_of_blocks, room_of_bytes}
use Rattle.builder.specs.RoomLaws.{accepted-is, is-accepted}
use Rattle.builder.specs.Others.{renumbered, block_bytes, sizes, lay_blocks, why_room, why_column, put_column}
use Rattle.builder.specs.Does.{answer}
use Rattle.builder.specs.DoesLaws.{does-no}
use Rattle.appending.specs.Laying.{column_more, end_from, put_data, put_records, put_from, lens_total, by_kind}
use Rattle.appending.specs.ColumnLaws.{alone-gives, column-fit, column-no, column-full, column-room, Taken, taken, does-column, add-column, lay-blocks, rows_on, blocks_on, sizes-is, end_is}
use Rattle.filing.specs.Files.{Files, filed, open_table}
use Rattle.filing.specs.FilesLaws.{over-tables, blank, blank-length, blocks-room, files-of, table-no, table-yes, recorded-table, fits-by, table-length}
use Rattle.filing_columns.specs.Columns.{Counts, Lays, SourceJudged, ColumnRoomy, column_by}

-- ---- the sizes and the place of blocks, which no other buffer changes

pub sizes-same : (vs bs ms : List ℕ) (u : List Block) (n : ℕ) → sizes (buffers [] [] u []) n ≡ sizes (buffers vs bs u ms) n
unfolding sizes
sizes-same vs bs ms u zero = refl
sizes-same vs bs ms u (suc n) = ap (λ (k : ℕ). k + (get_or u n (block 0 0)).len) (sizes-same vs bs ms u n)

each_in : (l : Lent) (n k : ℕ) → all_in_data l n ≡ true → k < n → in_data l (block_at l k) ≡ true
unfolding all_in_data
each_in l zero k a h = absurd (not-suc-le-zero h)
each_in l (suc n) k a h =
    by_cases (ℕ_discrete k n) (λ e. rw e (and_right (all_in_data l n) (in_data l (block_at l n)) a))
    (λ d. each_in l n k (and_left (all_in_data l n) (in_data l (block_at l n)) a) (omega arith))

each_fits : (l : Lent) (n k : ℕ) → all_in_data l n ≡ true → k < n → ((block_at l k).start + (block_at l k).len ≤ byte_limit)
    × ((block_at l k).start + (block_at l k).len ≤ length l.bytes)
each_fits l n k a h = in-data-gives l (block_at l k).start (block_at l k).len (each_in l n k a h)

sizes-most : (l : Lent) (n k : ℕ) → all_in_data l n ≡ true → k ≤ n → sizes l k ≤ 16777216 * k
unfolding sizes
sizes-most l n zero a h = omega arith
sizes-most l n (suc k) a h =
    let i = sizes-most l n k a (omega arith) in
    let b = each_fits l n k a h in
    omega (arith, i, b, byte-limit-is)

sizes-below : (l : Lent) (k n : ℕ) → k < n → sizes l k + (block_at l k).len ≤ sizes l n
unfolding sizes
sizes-below l k zero h = absurd (not-suc-le-zero h)
sizes-below l k (suc n) h = by_cases (ℕ_discrete k n) (λ e. rw e (omega arith)) (λ d. let i = sizes-below l k n (omega arith) in omega (arith, i))

-- ---- a source that was judged

module _ (s : State) (cv cb cn : List ℕ) (u : List Block) (c : Column) where
  abbrev from : Lent
  from = buffers cv cb u cn

  -- what a column that is valid keeps to
  source-gives : (w : Why) → w ≡ why_invalid from (by_kind s.kind c) → is_accepted w ≡ true → (fits from c ≡ true) × (all_in_data from c.blocks ≡ true)
  source-gives w e h = alone-gives (filed s [] [] [] [] []) from c (ap is_accepted (sym e) ∙ h)

  blocks-few : fits from c ≡ true → c.blocks ≤ block_limit
  unfolding fits block_room
  blocks-few h =
      let k = leb-true c.blocks (block_room from) (and_right (leb (c.first + c.rows) (row_room c.mapped from)) _ h) in
      omega arith

  blocks-there : fits from c ≡ true → c.blocks ≤ length u
  unfolding fits block_room
  blocks-there h =
      let k = leb-true c.blocks (block_room from) (and_right (leb (c.first + c.rows) (row_room c.mapped from)) _ h) in
      omega arith

  rows_few : fits from c ≡ true → c.rows ≤ row_limit
  unfolding fits row_room
  rows_few h =
      let k = leb-true (c.first + c.rows) (row_room c.mapped from) (and_left (leb (c.first + c.rows) (row_room c.mapped from)) _ h) in
      omega arith

  pub counts-source : (w : Why) (d : Column) → d ≡ by_kind s.kind c → w ≡ why_invalid from d → is_accepted w ≡ true
      → (c.blocks ≤ length u) × Counts u c.blocks
  counts-source w d ed ew h =
      let g = source-gives w (ew ∙ ap (why_invalid from) ed) h in (
        blocks-there g.0,
        record { few = blocks-few g.0; each = λ j l. let b = each_fits from c.blocks j g.1 l in omega (arith, b) },
      )

  pub source-small : (w : Why) (d : Column) → d ≡ by_kind s.kind c → w ≡ why_invalid from d → is_accepted w ≡ true
      → (c.rows ≤ row_limit) × (c.blocks ≤ block_limit) × (sizes (buffers [] [] u []) c.blocks ≤ 16777216 * c.blocks)
  source-small w d ed ew h =
      let g = source-gives w (ew ∙ ap (why_invalid from) ed) h in
      let i = sizes-most from c.blocks c.blocks g.1 (omega arith) in
      let e = sizes-same cv cb cn u c.blocks in
      (rows_few g.0, blocks-few g.0, omega (arith, e, i))

-- ---- the verdict, test by test

module _ (s : State) (views bytes count nulls places : ℕ) (c : Column) (w : Why) (m : ℕ) where
  abbrev fit : Bool
  fit = fits_rooms s (room_of_rows s.merging views nulls places) (room_of_blocks count count) (room_of_bytes bytes)

  pub by-fit : fit ≡ false → Err Fit ≡ column_by s views bytes count nulls places c w m
  unfolding column_by refuse
  by-fit h = rw h

  pub by-source : fit ≡ true → is_accepted w ≡ false → w ≡ column_by s views bytes count nulls places c w m
  unfolding column_by refuse
  by-source h g = rw h (accepted-no w w _ w w refl g refl)

  module _ (h : fit ≡ true) (g : is_accepted w ≡ true) (p : ℕ) (e : p ≡ room_of_rows s.merging views nulls places) where
    pub by-full : p < s.rows + c.rows → Err RowRoom ≡ column_by s views bytes count nulls places c w m
    unfolding column_by refuse
    by-full i = rw (h, accepted-is w g, ← e, lt-ltb p (s.rows + c.rows) i)

    pub by-room : s.rows + c.rows ≤ p → (v : Why) (a b : ℕ) → a ≡ room_of_blocks count count → b ≡ room_of_bytes bytes → v ≡ why_room s a b c.blocks m
        → v ≡ column_by s views bytes count nulls places c w m
    unfolding column_by refuse
    by-room i v a b ea eb ev = ev ∙ rw (h, accepted-is w g, ← e, le-ltb p (s.rows + c.rows) i, ea, eb)

  pub fit_small : fit ≡ true → (s.rows ≤ row_limit) × (all_blocks s ≤ block_limit) × (used s ≤ byte_limit)
  unfolding fits_rooms room_of_rows room_of_blocks room_of_bytes
  fit_small h =
      let q = leb s.rows (room_of_rows s.merging views nulls places) in
      let r = leb (all_blocks s) (room_of_blocks count count) in
      let i = and_right q _ h in
      let k = leb-true s.rows (room_of_rows s.merging views nulls places) (and_left q _ h) in
      let b = leb-true (all_blocks s) (room_of_blocks count count) (and_left r _ i) in
      let d = leb-true (used s) (room_of_bytes bytes) (and_left (leb (used s) (room_of_bytes bytes)) _ (and_right r _ i)) in
      (omega (arith, k), omega (arith, b), omega (arith, d))

-- ---- over two number slices each

module _ (s : State) (vs bs ss ns ms ps cv cb cs cl cn : List ℕ) (c : Column) (n : ℕ) (es : n ≡ length ss) (en : n ≡ length ns) (w : Why) (m : ℕ)
    (src : SourceJudged s cv cb (table_of cs cl) cn c w m) where
  abbrev here : Builder
  here = held s vs bs ss ns ms ps

  abbrev column : Lent
  column = lent cv cb cs cl cn

  abbrev verdict : Why
  verdict = column_by s (length vs) (length bs) n (length ms) (length ps) c w m

  abbrev room : ℕ
  room = room_of_rows s.merging (length vs) (length ms) (length ps)

  abbrev later : Why
  later = refuse RowRoom (ltb room (s.rows + c.rows)) (why_room s (room_of_blocks n n) (room_of_bytes (length bs)) c.blocks m)

  listed : is_accepted w ≡ true → lens_total cl c.blocks ≡ sizes column c.blocks
  listed h =
      let g = fit-laws.fits_gives cv cb cs cl cn c (source-gives s cv cb cn (table_of cs cl) c w src.why h).0 in
      sizes-is cv cb cs cl cn c.blocks g.starts g.lens

  full : fits_state here ≡ true → w ≡ accepted → (t : Bool) → ltb room (s.rows + c.rows) ≡ t → verdict ≡ why_column column c here
  unfolding column_by refuse
  full f e true g =
      rw (fits-by s vs bs ms ps n ss ns es en ∙ f, e, g)
      (column-full s vs bs ss ns ms ps cv cb cs cl cn c f (ap is_accepted (sym src.why) ∙ ap is_accepted e) room refl
      (ltb-true room (s.rows + c.rows) g))
  full f e false g =
      rw (fits-by s vs bs ms ps n ss ns es en ∙ f, e, g)
      (column-room s vs bs ss ns ms ps cv cb cs cl cn c f (ap is_accepted (sym src.why) ∙ ap is_accepted e) room refl _ _ m _
      (ltb-false room (s.rows + c.rows) g) (blocks-room n ss ns es en) refl
      (src.total (ap is_accepted e) ∙ sym (listed (ap is_accepted e))) refl)

  judged : fits_state here ≡ true → (v : Why) → w ≡ v → verdict ≡ why_column column c here
  unfolding column_by refuse
  judged f (Ok _) e = full f e (ltb room (s.rows + c.rows)) refl
  judged f (Err z) e =
      rw (fits-by s vs bs ms ps n ss ns es en ∙ f, e) (column-no here column c (Err z) f (sym e ∙ src.why) refl)

  fitting : (t : Bool) → fits_state here ≡ t → verdict ≡ why_column column c here
  unfolding column_by refuse
  fitting true f = judged f w refl
  fitting false f = rw (fits-by s vs bs ms ps n ss ns es en ∙ f) (column-fit here column c f)

  verdict-is : verdict ≡ why_column column c here
  verdict-is = fitting (fits_state here) refl

  verdict-source : is_accepted verdict ≡ true → is_accepted w ≡ true
  unfolding column_by
  verdict-source h = go w (accepted-both Fit _ _ h).1
    where
      go : (x : Why) → is_accepted (if_accepted x later x) ≡ true → is_accepted x ≡ true
      go (Ok _) i = refl
      go (Err z) i = i

  module _ (v : Why) (ev : v ≡ verdict) where
    v-is : v ≡ why_column column c here
    v-is = ev ∙ verdict-is

    knows : is_accepted v ≡ true → Taken s vs bs ss ns ms ps cv cb cs cl cn c
    knows h = taken s vs bs ss ns ms ps cv cb cs cl cn c (ap is_accepted (sym v-is) ∙ h)

    bytes-are : is_accepted v ≡ true → m ≡ lens_total cl c.blocks
    bytes-are h = let a = verdict-source (ap is_accepted (sym ev) ∙ h) in src.total a ∙ sym (listed a)

    roomy-here : is_accepted v ≡ true → ColumnRoomy s vs ms cv cn c m
    roomy-here h =
        let k = knows h in
        let e = bytes-are h in
        record {
          blocks = k.limit;
          small = omega (arith, e, k.small);
          rows = k.rows;
          views-room = k.views;
          bits = k.bits;
          srcrows = k.source.rows;
          src-room = k.source.views;
          srcbits = k.source.bits;
        }

    abbrev f : ℕ → List ℕ
    f = block_bytes (buffers [] cb (table_of cs cl) [])

    none_here : is_accepted v ≡ false → Files (why_column column c) (put_column column c) s vs bs (table_of ss ns) ms ps (answer v s) vs bs
        (table_of ss ns) ms ps
    none_here h =
        files-of (why_column column c) (put_column column c) s vs bs ss ns ms ps (table_of ss ns)
        (does-no (why_column column c) (put_column column c) s vs bs ss ns ms ps v v-is h)
        (table-no (why_column column c) (put_column column c) s vs bs ss ns ms ps v v-is h)

    lays-here : is_accepted v ≡ true → (t : State) → t ≡ closed s → Lays (length bs) t.blocks t.base cb (table_of cs cl) c.blocks
    unfolding closed
    lays-here h t et =
        let k = knows h in
        let b : t.blocks ≡ all_blocks s = ap (λ (z : State). z.blocks) et in
        let d : t.base ≡ used s = ap (λ (z : State). z.base) et in
        let e : sizes (buffers [] [] (table_of cs cl) []) c.blocks ≡ lens_total cl c.blocks =
        sizes-same cv cb cn (table_of cs cl) c.blocks ∙ sym (listed (verdict-source (ap is_accepted (sym ev) ∙ h))) in
        record {
          inside = omega (arith, d, e, k.inside);
          few = omega (arith, b, k.limit, block-limit-small);
          lie = k.lie;
        }

    put_is : put_column column c here ≡ rows_on c.rows (all_blocks s) column c (blocks_on c.blocks (block_bytes column) (complete here))
    unfolding put_column
    put_is =
        add-column c.rows (all_blocks s) column c (lay_blocks c.blocks (block_bytes column) (complete here))
        ∙ ap (rows_on c.rows (all_blocks s) column c) (lay-blocks c.blocks (block_bytes column) (complete here))

    table_here : (t : State) (z : List Block) → t ≡ closed s → z ≡ open_table s (table_of ss ns)
        → put_records f c.blocks z t.blocks t.base ≡ (put_column column c here).lent.table
    unfolding complete closed
    table_here t z et ez =
        (λ i. put_records f c.blocks ((ez ∙ recorded-table s vs bs ss ns ms) i) (et i).blocks (et i).base)
        ∙ sym (ap (λ (z : Builder). z.lent.table) put_is)

    some-here : (t : State) {u : State} {some : Bool} {end : ℕ} {vs' ms' : List ℕ} (z : List Block) → is_accepted v ≡ true → t ≡ closed s
        → z ≡ open_table s (table_of ss ns) → end ≡ end_from f c.blocks t.base
        → vs' ≡ put_from (λ j. renumbered t.blocks (view_at cv (c.first + j))) c.rows vs s.rows
        → ms' ≡ copy_column ms s.rows cn c.mapped c.first c.rows
        → some ≡ pick (eqb (count_nulls cn c.mapped c.first c.rows) 0) s.nulled true
        → u ≡ column_more c.rows c.blocks end some t
        → Files (why_column column c) (put_column column c) s vs bs (table_of ss ns) ms ps (answer accepted u) vs' (put_data f c.blocks bs t.base)
        (put_records f c.blocks z t.blocks t.base) ms' ps
    some-here t z h et ez ee ev' em e eu =
        files-of (why_column column c) (put_column column c) s vs bs ss ns ms ps (put_records f c.blocks z t.blocks t.base)
        (does-column s vs bs ss ns ms ps cv cb cs cl cn c v t v-is h et refl refl ee refl refl refl ev' em e eu)
        (table-yes (why_column column c) (put_column column c) s vs bs ss ns ms ps (put_records f c.blocks z t.blocks t.base)
        (is-accepted v (why_column column c here) v-is h) (table_here t z et ez))

-- ---- over tables of records

-- what holds of two tables that are lent as two slices each holds of any two
both-tables : (P : List Block → List Block → Type 0) → ((ss ns cs cl : List ℕ) → length (table_of ss ns) ≡ length ss → length (table_of ss ns) ≡ length ns
    → P (table_of ss ns) (table_of cs cl)) → (t u : List Block) → P t u
both-tables P f t u =
    over-tables (λ t. P t u) (length t) (λ ss ns es en.
    let e = table-length (length t) ss ns es en in
    over-tables (λ u. P (table_of ss ns) u) (length u) (λ cs cl _ _. f ss ns cs cl (sym e ∙ es) (sym e ∙ en)) u refl) t refl

module _ (s : State) (vs bs ms ps cv cb cn : List ℕ) (c : Column) where
  abbrev pub judged-by : List Block → List Block → Why
  judged-by t u =
      column_by s (length vs) (length bs) (length t) (length ms) (length ps) c (why_invalid (buffers cv cb u cn) (by_kind s.kind c))
      (sizes (buffers [] [] u []) c.blocks)

  judged-source : (u : List Block) → SourceJudged s cv cb u cn c (why_invalid (buffers cv cb u cn) (by_kind s.kind c)) (sizes (buffers [] [] u []) c.blocks)
  judged-source u = record { why = refl; total = λ h. sizes-same cv cb cn u c.blocks }

  pub roomy : (t u : List Block) (v : Why) → v ≡ judged-by t u → is_accepted v ≡ true → ColumnRoomy s vs ms cv cn c (sizes (buffers [] [] u []) c.blocks)
  roomy =
      both-tables (λ t u. (v : Why) → v ≡ judged-by t u → is_accepted v ≡ true → ColumnRoomy s vs ms cv cn c (sizes (buffers [] [] u []) c.blocks))
      (λ ss ns cs cl es en v ev h.
      roomy-here s vs bs ss ns ms ps cv cb cs cl cn c _ es en _ _ (judged-source (table_of cs cl)) v ev h)

  pub lays : (t u : List Block) (v : Why) → v ≡ judged-by t u → is_accepted v ≡ true → (t' : State) → t' ≡ closed s
      → Lays (length bs) t'.blocks t'.base cb u c.blocks
  lays =
      both-tables (λ t u. (v : Why) → v ≡ judged-by t u → is_accepted v ≡ true → (t' : State) → t' ≡ closed s
      → Lays (length bs) t'.blocks t'.base cb u c.blocks)
      (λ ss ns cs cl es en v ev h.
      lays-here s vs bs ss ns ms ps cv cb cs cl cn c _ es en _ _ (judged-source (table_of cs cl)) v ev h)

  pub poured-no : (t u : List Block) (v : Why) → v ≡ judged-by t u → is_accepted v ≡ false
      → Files (why_column (buffers cv cb u cn) c) (put_column (buffers cv cb u cn) c) s vs bs t ms ps (answer v s) vs bs t ms ps
  poured-no =
      both-tables (λ t u. (v : Why) → v ≡ judged-by t u → is_accepted v ≡ false
      → Files (why_column (buffers cv cb u cn) c) (put_column (buffers cv cb u cn) c) s vs bs t ms ps (answer v s) vs bs t ms ps)
      (λ ss ns cs cl es en v ev h.
      none_here s vs bs ss ns ms ps cv cb cs cl cn c _ es en _ _ (judged-source (table_of cs cl)) v ev h)

  -- z is the builder's table with the open block's record
  pub poured-yes : (t u : List Block) (v : Why) → v ≡ judged-by t u → is_accepted v ≡ true → (t' : State) → t' ≡ closed s
      → (z : List Block) → z ≡ open_table s t → (u' : State) (some : Bool) (end : ℕ) (vs' ms' : List ℕ)
      → end ≡ end_from (block_bytes (buffers [] cb u [])) c.blocks t'.base
      → vs' ≡ put_from (λ j. renumbered t'.blocks (view_at cv (c.first + j))) c.rows vs s.rows
      → ms' ≡ copy_column ms s.rows cn c.mapped c.first c.rows
      → some ≡ pick (eqb (count_nulls cn c.mapped c.first c.rows) 0) s.nulled true
      → u' ≡ column_more c.rows c.blocks end some t'
      → Files (why_column (buffers cv cb u cn) c) (put_column (buffers cv cb u cn) c) s vs bs t ms ps (answer accepted u') vs'
      (put_data (block_bytes (buffers [] cb u [])) c.blocks bs t'.base)
      (put_records (block_bytes (buffers [] cb u [])) c.blocks z t'.blocks t'.base) ms' ps
  poured-yes =
      both-tables (λ t u. (v : Why) → v ≡ judged-by t u → is_accepted v ≡ true → (t' : State) → t' ≡ closed s
      → (z : List Block) → z ≡ open_table s t → (u' : State) (some : Bool) (end : ℕ) (vs' ms' : List ℕ)
      → end ≡ end_from (block_bytes (buffers [] cb u [])) c.blocks t'.base
      → vs' ≡ put_from (λ j. renumbered t'.blocks (view_at cv (c.first + j))) c.rows vs s.rows
      → ms' ≡ copy_column ms s.rows cn c.mapped c.first c.rows
      → some ≡ pick (eqb (count_nulls cn c.mapped c.first c.rows) 0) s.nulled true
      → u' ≡ column_more c.rows c.blocks end some t'
      → Files (why_column (buffers cv cb u cn) c) (put_column (buffers cv cb u cn) c) s vs bs t ms ps (answer accepted u') vs'
      (put_data (block_bytes (buffers [] cb u [])) c.blocks bs t'.base)
      (put_records (block_bytes (buffers [] cb u [])) c.blocks z t'.blocks t'.base) ms' ps)
      (λ ss ns cs cl es en v ev h t' et z ez u' some end vs' ms' ee e1 e2 e3 e4.
      some-here s vs bs ss ns ms ps cv cb cs cl cn c _ es en _ _ (judged-source (table_of cs cl)) v ev t' z h et ez ee e1 e2 e3 e4)

-- ---- blocks laid one by one

-- a part of the source, as the code takes it
pub lay-is : (d src : List ℕ) (at a n : ℕ) → a + n ≤ length src
    → paste d at (take (a + n - a) (drop a src)) (length (take (a + n - a) (drop a src))) ≡ paste d at (take n (drop a src)) n
lay-is d src at a n h =
    let e = part-is src a n a n refl refl in
    (λ i. paste d at (e i) (length (e i))) ∙ ap (paste d at (take n (drop a src))) (length-take-le n (drop a src) (simp length-drop (omega arith)))

module _ (src : List ℕ) (u : List Block) where
  abbrev pub taking : ℕ → List ℕ
  taking = block_bytes (buffers [] src u [])

  pub data-none : (bs : List ℕ) (base : ℕ) → bs ≡ put_data taking 0 bs base
  unfolding put_data
  data-none bs base = refl

  pub records-none : (t : List Block) (first base : ℕ) → t ≡ put_records taking 0 t first base
  unfolding put_records
  records-none t first base = refl

  pub end_none : (base : ℕ) → base ≡ end_from taking 0 base
  unfolding end_from
  end_none base = refl

  module _ (bytes first base n : ℕ) (l : Lays bytes first base src u n) (k : ℕ) (h : k < n) (b : Block) (e : b ≡ get_or u k (block 0 0)) where
    pub block_inside : b.start + b.len ≤ length src
    block_inside = rw e (each_fits (buffers [] src u []) n k l.lie h).1

    block-length : length (taking k) ≡ b.len
    block-length =
        ap (λ (z : Block). length (bytes_of src z)) (sym e)
        ∙ length-take-le b.len (drop b.start src) (simp length-drop (omega (arith, block_inside)))

    pub data-more : (bs : List ℕ) → paste (put_data taking k bs base) (end_from taking k base) (bytes_of src b) b.len ≡ put_data taking (suc k) bs base
    unfolding put_data
    data-more bs = λ i. paste (put_data taking k bs base) (end_from taking k base) (bytes_of src (e i)) (sym block-length i)

    pub records-more : (t : List Block) → set (put_records taking k t first base) (first + k) (block (end_from taking k base) b.len)
        ≡ put_records taking (suc k) t first base
    unfolding put_records
    records-more t = ap (λ (z : ℕ). set (put_records taking k t first base) (first + k) (block (end_from taking k base) z)) (sym block-length)

    pub end_more : end_from taking k base + b.len ≡ end_from taking (suc k) base
    unfolding end_from
    end_more = ap (λ (z : ℕ). end_from taking k base + z) (sym block-length)

  module _ (bytes first base n : ℕ) (l : Lays bytes first base src u n) where
    end-at : (k : ℕ) → k ≤ n → end_from taking k base ≡ base + sizes (buffers [] [] u []) k
    unfolding end_from sizes
    end-at zero h = sym (add-zero base)
    end-at (suc k) h =
        let b = get_or u k (block 0 0) in
        rw (end-at k (omega arith), block-length bytes first base n l k h b refl) (add_assoc base (sizes (buffers [] [] u []) k) b.len)

    pub block_room_lem : (k : ℕ) → k < n → (b : Block) → b ≡ get_or u k (block 0 0) → end_from taking k base + b.len ≤ bytes
    block_room_lem k h b e =
        let i = end-at k (omega arith) in
        let j = sizes-below (buffers [] [] u []) k n h in
        let d : b.len ≡ (get_or u k (block 0 0)).len = ap (λ (z : Block). z.len) e in
        omega (arith, i, j, d, l.inside)

    -- the bytes stay as many
    pub data-kept : (bs : List ℕ) → length bs ≡ bytes → (k : ℕ) → k ≤ n → length (put_data taking k bs base) ≡ bytes
    unfolding put_data
    data-kept bs e zero h = e
    data-kept bs e (suc k) h =
        let b = get_or u k (block 0 0) in
        let i = data-kept bs e k (omega arith) in
        let r = block_room_lem k h b refl in
        let d = block-length bytes first base n l k h b refl in
        length-paste (put_data taking k bs base) (end_from taking k base) (taking k) (length (taking k)) (omega (arith, i, r, d)) (omega arith) ∙ i

  pub records-kept : (t : List Block) (first base k : ℕ) → length (put_records taking k t first base) ≡ length t
  unfolding put_records
  records-kept t first base zero = refl
  records-kept t first base (suc k) = length-set (put_records taking k t first base) (first + k) _ ∙ records-kept t first base k

-- ---- sizes one by one

module _ (u : List Block) where
  -- as a sum
  pub sizes-sum : (n : ℕ) → n ≤ length u → sum_by (λ b. b.len) (take n u) ≡ sizes (buffers [] [] u []) n
  unfolding sizes
  sizes-sum zero h = refl
  sizes-sum (suc n) h =
      rw (← add-one n) (sum_by_more (λ (b : Block). b.len) u n (block 0 0) (omega arith)
      ∙ ap (λ (k : ℕ). k + (get_or u n (block 0 0)).len) (sizes-sum n (omega arith)))

  sizes-upto : (n : ℕ) → Counts u n → (k : ℕ) → k ≤ n → sizes (buffers [] [] u []) k ≤ 16777216 * k
  unfolding sizes
  sizes-upto n a zero h = omega arith
  sizes-upto n a (suc k) h =
      let i = sizes-upto n a k (omega arith) in
      let b = a.each k h in
      omega (arith, i, b, byte-limit-is)

  pub sizes-small : (n : ℕ) → Counts u n → sizes (buffers [] [] u []) n < 18446744073709551616
  sizes-small n a =
      let i = sizes-upto n a n (omega arith) in
      let f = a.few in
      omega (arith, i, f, block-limit-small)
