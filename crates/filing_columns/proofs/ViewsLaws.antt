-- A view of a completed block over a table of records: its verdict test by test, and the call's contract from what its parts leave. Assumes nothing.
use Rattle.std.specs.Prelude.{Err}
use mathlib.Core.Path.{◌≡◌, refl, sym, ap, ◌∙◌}
use mathlib.Core.Bool.{Bool, true, false}
use mathlib.Core.List.{List, []}
use Prim.Native.Nat.{ℕ, zero, suc, ◌+◌, ◌-◌, ◌*◌, ◌/◌, ◌≤◌, ◌<◌}
use native.Mathlib.Nat.{not-suc-le-zero}
use native.Mathlib.Omega.{arith}
use lib.ListN.{length, get_or, take, drop, replicate}
use lib.Seq.{paste}
use Rattle.bounds.specs.Bounds.{row_limit, byte_limit}
use Rattle.bounds.specs.Refusals.{is_accepted, accepted, Why}
use Rattle.bounds.specs.declared.Refusal.TheVariants.{Fit, NotUtf8, RowRoom, NoBlock, Range}
use Rattle.null_bits.specs.Bits.{put_bit}
use Rattle.views.specs.View.{make_view}
use Rattle.column.specs.declared.Block.{Block}
use Rattle.column.specs.Lent.{buffers, block, table_of, in_data}
use Rattle.column.specs.Truth.{of_kind}
use Rattle.column.proofs.FitLaws.{table_at}
use Rattle.builder.specs.declared.State.{State}
use Rattle.builder.specs.State.{held, fits_state, rowed, add_row}
use Rattle.builder.specs.Rooms.{room_of_rows}
use Rattle.builder.specs.RoomLaws.{fits_gives, room-gives, all-bounds, is-accepted}
use Rattle.builder.specs.Others.{why_view, put_view}
use Rattle.builder.specs.Does.{answer}
use Rattle.builder.specs.DoesLaws.{does-no}
use Rattle.appending.specs.BlockLaws.{view-fit, view-none, view-outside, view-over, view-kind, view-full, view-fine, seen, seen-inside, does-view}
use Rattle.filing.specs.Files.{Files}
use Rattle.filing.specs.FilesLaws.{over-tables, files-of, table-no, table-yes, fits_by, fits-by}
use Rattle.filing_columns.specs.Columns.{Says}

-- slices of a length that hold the same number everywhere
get-same : (m x k : ℕ) → k < m → get_or (replicate m x) k 0 ≡ x
get-same zero x k h = absurd (not-suc-le-zero h)
get-same (suc m) x zero h = refl
get-same (suc m) x (suc k) h = get-same m x k (omega arith)

same_length : (m x : ℕ) → m ≡ length (replicate m x)
same_length zero x = refl
same_length (suc m) x = ap suc (same_length m x)

module _ (s : State) (vs bs ms ps : List ℕ) (count k o n : ℕ) (b : Block) where
  abbrev told : Why → Type 0
  told w = Says s vs bs ms ps count k o n b w

  pub says-fit : fits_by s vs bs ms ps count ≡ false → told (Err Fit)
  says-fit h ss ns es en at = view-fit s vs bs ss ns ms ps k o n (sym (fits-by s vs bs ms ps count ss ns es en) ∙ h)

  -- the bytes that the code takes
  abbrev bytes : Block → List ℕ
  bytes z = take (z.start + o + n - (z.start + o)) (drop (z.start + o) bs)

  module _ (h : fits_by s vs bs ms ps count ≡ true) where
    fit : (ss ns : List ℕ) → count ≡ length ss → count ≡ length ns → fits_state (held s vs bs ss ns ms ps) ≡ true
    fit ss ns es en = sym (fits-by s vs bs ms ps count ss ns es en) ∙ h

    pub says_none : s.blocks ≤ k → told (Err NoBlock)
    says_none g ss ns es en at = view-none s vs bs ss ns ms ps k o n (fit ss ns es en) g

    module _ (there : k < s.blocks) where
      below : (ss ns : List ℕ) → count ≡ length ss → count ≡ length ns → k < count
      below ss ns es en =
          let f = fits_gives s vs bs ss ns ms ps (fit ss ns es en) in
          let a = all-bounds s in
          omega (arith, f.starts, a, es, there)

      pub says-outside : in_data (buffers [] bs [] []) (block b.start b.len) ≡ false → told (Err Range)
      says-outside g ss ns es en at =
          view-outside s vs bs ss ns ms ps k o n (fit ss ns es en) there (ap (in_data (buffers [] bs [] [])) (sym (at (below ss ns es en))) ∙ g)

      module _ (inside : in_data (buffers [] bs [] []) (block b.start b.len) ≡ true) where
        in_table : (ss ns : List ℕ) → count ≡ length ss → count ≡ length ns → (k < count → b ≡ block (get_or ss k 0) (get_or ns k 0))
            → in_data (buffers [] bs [] []) (block (get_or ss k 0) (get_or ns k 0)) ≡ true
        in_table ss ns es en at = ap (in_data (buffers [] bs [] [])) (sym (at (below ss ns es en))) ∙ inside

        len_is : (ss ns : List ℕ) → count ≡ length ss → count ≡ length ns → (k < count → b ≡ block (get_or ss k 0) (get_or ns k 0)) → b.len ≡ get_or ns k 0
        len_is ss ns es en at = ap (λ (z : Block). z.len) (at (below ss ns es en))

        pub says-over : b.len < o + n → told (Err Range)
        says-over g ss ns es en at =
            let e = len_is ss ns es en at in
            view-over s vs bs ss ns ms ps k o n (fit ss ns es en) there (in_table ss ns es en at) (omega (arith, e, g))

        module _ (range : o + n ≤ b.len) (y : Bool) (ey : y ≡ of_kind s.kind (bytes b)) where
          in-range : (ss ns : List ℕ) → count ≡ length ss → count ≡ length ns → (k < count → b ≡ block (get_or ss k 0) (get_or ns k 0)) → o + n ≤ get_or ns k 0
          in-range ss ns es en at = let e = len_is ss ns es en at in omega (arith, e, range)

          kind-is : (ss ns : List ℕ) → count ≡ length ss → count ≡ length ns → (k < count → b ≡ block (get_or ss k 0) (get_or ns k 0))
              → y ≡ of_kind s.kind (bytes (block (get_or ss k 0) (get_or ns k 0)))
          kind-is ss ns es en at = ey ∙ ap (λ (z : Block). of_kind s.kind (bytes z)) (at (below ss ns es en))

          pub says-kind : y ≡ false → told (Err NotUtf8)
          says-kind g ss ns es en at =
              view-kind s vs bs ss ns ms ps k o n (fit ss ns es en) there (in_table ss ns es en at) (in-range ss ns es en at) y (kind-is ss ns es en at) g

          module _ (rows : ℕ) (er : rows ≡ room_of_rows s.merging (length vs) (length ms) (length ps)) (ok : y ≡ true) where
            pub says-full : rows ≤ s.rows → told (Err RowRoom)
            says-full g ss ns es en at =
                view-full s vs bs ss ns ms ps k o n (fit ss ns es en) there (in_table ss ns es en at) (in-range ss ns es en at) y
                (kind-is ss ns es en at) rows er ok g

            pub says-fine : s.rows < rows → told accepted
            says-fine g ss ns es en at =
                view-fine s vs bs ss ns ms ps k o n (fit ss ns es en) there (in_table ss ns es en at) (in-range ss ns es en at) y
                (kind-is ss ns es en at) rows er ok g

  -- what an accepted view knows, in numbers
  pub record Shows : Type 0 where
    pub inside : b.start + o + n ≤ length bs
    pub small : b.start + o + n ≤ byte_limit
    pub rows : s.rows < row_limit
    pub views : 16 * s.rows + 16 ≤ length vs
    pub bits : s.rows / 8 < length ms

  same_at : k < count → b ≡ block (get_or (replicate count b.start) k 0) (get_or (replicate count b.len) k 0)
  same_at l = λ i. block (sym (get-same count b.start k l) i) (sym (get-same count b.len k l) i)

  module _ (w : Why) (says : told w) where
    pub shows : is_accepted w ≡ true → Shows
    shows h =
        let ss = replicate count b.start in
        let ns = replicate count b.len in
        let es = same_length count b.start in
        let en = same_length count b.len in
        let e = says ss ns es en (λ l. same_at l) in
        let g = seen s vs bs ss ns ms ps k o n (ap is_accepted (sym e) ∙ h) in
        let d = seen-inside s vs bs ss ns ms ps k o n g in
        let r = room-gives s vs bs ss ns ms ps g.room in
        let f = fits_gives s vs bs ss ns ms ps g.fit in
        let a = all-bounds s in
        let t = g.there in
        let x = get-same count b.start k (omega (arith, f.starts, a, es, t)) in
        record { inside = omega (arith, d, x); small = omega (arith, d, x); rows = r.rows; views = r.views; bits = r.bits }

    -- over two number slices that have the record
    module _ (ss ns : List ℕ) (es : count ≡ length ss) (en : count ≡ length ns) (eb : b ≡ get_or (table_of ss ns) k (block 0 0)) where
      at-is : k < count → b ≡ block (get_or ss k 0) (get_or ns k 0)
      at-is l = eb ∙ table_at ss ns k (omega (arith, es, l)) (omega (arith, en, l))

      w-is : w ≡ why_view (held s vs bs ss ns ms ps) k o n
      w-is = says ss ns es en at-is

      no-here : is_accepted w ≡ false → Files (λ d. why_view d k o n) (put_view k o n) s vs bs (table_of ss ns) ms ps (answer w s) vs bs (table_of ss ns) ms ps
      no-here h =
          files-of (λ d. why_view d k o n) (put_view k o n) s vs bs ss ns ms ps (table_of ss ns)
          (does-no (λ d. why_view d k o n) (put_view k o n) s vs bs ss ns ms ps w w-is h)
          (table-no (λ d. why_view d k o n) (put_view k o n) s vs bs ss ns ms ps w w-is h)

      kept : table_of ss ns ≡ (put_view k o n (held s vs bs ss ns ms ps)).lent.table
      unfolding put_view add_row
      kept = refl

      yes-here : {u : State} {vs' ms' : List ℕ} → is_accepted w ≡ true → u ≡ rowed true s
          → vs' ≡ paste vs (16 * s.rows) (make_view (bytes b) k o) 16 → ms' ≡ put_bit ms s.rows true
          → Files (λ d. why_view d k o n) (put_view k o n) s vs bs (table_of ss ns) ms ps (answer accepted u) vs' bs (table_of ss ns) ms' ps
      yes-here h eu ev em =
          let g = seen s vs bs ss ns ms ps k o n (ap is_accepted (sym w-is) ∙ h) in
          let f = fits_gives s vs bs ss ns ms ps g.fit in
          let a = all-bounds s in
          let t = g.there in
          let e = at-is (omega (arith, f.starts, a, es, t)) in
          files-of (λ d. why_view d k o n) (put_view k o n) s vs bs ss ns ms ps (table_of ss ns)
          (does-view s vs bs ss ns ms ps k o n w w-is h eu (ev ∙ ap (λ (z : Block). paste vs (16 * s.rows) (make_view (bytes z) k o) 16) e) em)
          (table-yes (λ d. why_view d k o n) (put_view k o n) s vs bs ss ns ms ps (table_of ss ns)
          (is-accepted w (why_view (held s vs bs ss ns ms ps) k o n) w-is h) kept)

    pub viewed-no : is_accepted w ≡ false → (t : List Block) → count ≡ length t → b ≡ get_or t k (block 0 0)
        → Files (λ d. why_view d k o n) (put_view k o n) s vs bs t ms ps (answer w s) vs bs t ms ps
    viewed-no h =
        over-tables (λ t. b ≡ get_or t k (block 0 0) → Files (λ d. why_view d k o n) (put_view k o n) s vs bs t ms ps (answer w s) vs bs t ms ps) count
        (λ ss ns es en eb. no-here ss ns es en eb h)

    pub viewed-yes : {u : State} {vs' ms' : List ℕ} → is_accepted w ≡ true → u ≡ rowed true s
        → vs' ≡ paste vs (16 * s.rows) (make_view (bytes b) k o) 16 → ms' ≡ put_bit ms s.rows true
        → (t : List Block) → count ≡ length t → b ≡ get_or t k (block 0 0)
        → Files (λ d. why_view d k o n) (put_view k o n) s vs bs t ms ps (answer accepted u) vs' bs t ms' ps
    viewed-yes {u} {vs'} {ms'} h eu ev em =
        over-tables (λ t. b ≡ get_or t k (block 0 0) → Files (λ d. why_view d k o n) (put_view k o n) s vs bs t ms ps (answer accepted u) vs' bs t ms' ps) count
        (λ ss ns es en eb. yes-here ss ns es en eb h eu ev em)
