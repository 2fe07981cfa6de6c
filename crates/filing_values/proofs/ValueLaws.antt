-- The value calls over a table of records, from what their parts leave. Assumes nothing.
use Rattle.std.specs.Prelude.{Ok, Err}
use mathlib.Core.Path.{◌≡◌, refl, sym, ap, ◌∙◌}
use mathlib.Core.Bool.{Bool, true, false, not}
use mathlib.Core.List.{List, []}
use Prim.Native.Nat.{ℕ, suc, ◌+◌, ◌-◌, ◌*◌, ◌≤◌, ◌<◌}
use native.Mathlib.Omega.{arith}
use lib.Dec.{eqb}
use lib.ListN.{length, set}
use lib.Seq.{paste}
use Rattle.basis.specs.Pick.{pick}
use Rattle.bounds.specs.Bounds.{row_limit}
use Rattle.bounds.specs.Refusals.{refuse, is_accepted, if_accepted, accepted, Why}
use Rattle.bounds.specs.declared.Refusal.TheVariants.{Fit}
use Rattle.null_bits.specs.Bits.{put_bit}
use Rattle.null_bits.specs.Runs.{put_run}
use Rattle.views.specs.View.{short_most, view_at, short_view, long_view}
use Rattle.merging.specs.declared.Found.{Found}
use Rattle.merging.specs.Table.{is_row, row_of, entered}
use Rattle.column.specs.declared.Block.{Block}
use Rattle.column.specs.Lent.{table_of, lent, buffers}
use Rattle.builder.specs.declared.State.{State}
use Rattle.builder.specs.declared.Answer.{Answer}
use Rattle.builder.specs.State.{Builder, held, fits_rooms, fits_state, recorded, fits_open, roomed, laid, rowed, add_row}
use Rattle.builder.specs.Rooms.{room_of_rows, room_of_blocks, room_of_bytes, shows_row}
use Rattle.builder.specs.RoomLaws.{Judged, first-is, first_of, value-no, value_none, value_on, judged, room-many, fits_gives, is-accepted}
use Rattle.builder.specs.Values.{found_by, why_rows, why_lay, why_store, why_values, put_value, put_values}
use Rattle.builder.proofs.PutLaws.{found-is, store-short, put-short, store-row, put-row, put-lay}
use Rattle.builder.proofs.CallLaws.{does-short, does-row, lay-is, does-lay, put-none, put-many, put-rows}
use Rattle.builder.specs.TimesLaws.{put_copies, rowed_by, add-rows}
use Rattle.builder.specs.Does.{answer, left}
use Rattle.builder.specs.DoesLaws.{starts-same, lens_same, does-no, does-put}
use Rattle.filing.specs.Files.{Files, filed, open_table}
use Rattle.filing.specs.FilesLaws.{over-tables, blank, blank-length, blocks-room, files-of, table-no, table-yes, recorded-table, fits-by}

-- the table after making room
room-table : (s : State) (vs bs ss ns ms : List ℕ) (c : Bool) → pick c (table_of ss ns) (open_table s (table_of ss ns)) ≡ (pick c (lent vs bs ss ns ms)
    (recorded s (lent vs bs ss ns ms))).table
room-table s vs bs ss ns ms true = refl
room-table s vs bs ss ns ms false = recorded-table s vs bs ss ns ms

-- m rows have room, and the value fits
pub record Many (s : State) (vs bs ms ps x : List ℕ) (n m : ℕ) : Type 0 where
  pub judged : Judged (held s vs bs (blank n) (blank n) ms ps) x
  pub rows : s.rows + m ≤ row_limit
  pub views : 16 * (s.rows + m) ≤ length vs
  pub bits : s.rows + m ≤ 8 * length ms

module _ (s : State) (vs bs ms ps x : List ℕ) (n : ℕ) where
  -- ---- once

  pub files-short : {s' : State} {vs' ms' : List ℕ} → length x ≤ short_most → s' ≡ rowed true s → vs' ≡ paste vs (16 * s.rows)
      (short_view x) 16 → ms' ≡ put_bit ms s.rows true
      → (t : List Block) → n ≡ length t → Files (λ d. why_store d x) (put_value x) s vs bs t ms ps (answer accepted s') vs' bs t ms' ps
  unfolding add_row
  files-short {s'} {vs'} {ms'} h st v nu =
      over-tables (λ t. Files (λ d. why_store d x) (put_value x) s vs bs t ms ps (answer accepted s') vs' bs t ms' ps) n (λ ss ns es en.
      files-of (λ d. why_store d x) (put_value x) s vs bs ss ns ms ps (table_of ss ns) (does-short s vs bs ss ns ms ps x h st v nu)
      (table-yes (λ d. why_store d x) (put_value x) s vs bs ss ns ms ps (table_of ss ns) (store-short s vs bs ss ns ms ps x h)
      (ap (λ (z : Builder). z.lent.table) (put-short s vs bs ss ns ms ps x h))))

  module _ (f : Found) (jd : Judged (held s vs bs (blank n) (blank n) ms ps) x) (long : short_most < length x) where
    fit : (ss ns : List ℕ) → n ≡ length ss → n ≡ length ns → fits_state (held s vs bs ss ns ms ps) ≡ true
    fit ss ns es en = sym (fits-by s vs bs ms ps n ss ns es en) ∙ fits-by s vs bs ms ps n (blank n) (blank n) (blank-length n) (blank-length n) ∙ jd.fit

    pub files-row : (c : Bool) (r : ℕ) {s' : State} {vs' ms' : List ℕ} → c ≡ is_row f → c ≡ true → r ≡ row_of f → s' ≡ rowed true s
        → vs' ≡ paste vs (16 * s.rows) (view_at vs r) 16
        → ms' ≡ put_bit ms s.rows true → (t : List Block) → n ≡ length t → f ≡ found_by s.merging ps (shows_row s (buffers vs bs t []) x) x
        → Files (λ d. why_store d x) (put_value x) s vs bs t ms ps (answer accepted s') vs' bs t ms' ps
    unfolding add_row
    files-row c r {s'} {vs'} {ms'} ec h er st v nu =
        over-tables (λ t. f ≡ found_by s.merging ps (shows_row s (buffers vs bs t []) x) x → Files (λ d. why_store d x) (put_value x) s vs bs t ms ps
        (answer accepted s') vs' bs t ms' ps) n (λ ss ns es en e'.
        let g = fit ss ns es en in
        let e = e' ∙ found-is s vs bs ss ns ms ps x g in
        files-of (λ d. why_store d x) (put_value x) s vs bs ss ns ms ps (table_of ss ns) (does-row s vs bs ss ns ms ps x f g e' long c r ec h er st v nu)
        (table-yes (λ d. why_store d x) (put_value x) s vs bs ss ns ms ps (table_of ss ns) (store-row s vs bs ss ns ms ps x f e long (sym ec ∙ h))
        (ap (λ (z : Builder). z.lent.table) (put-row s vs bs ss ns ms ps x f e long (sym ec ∙ h)))))

    module _ (c : Bool) (ec : c ≡ is_row f) (h : c ≡ false) (w : Why) (blocks bytes : ℕ) (eb : blocks ≡ room_of_blocks n n) (ed : bytes
        ≡ room_of_bytes (length bs)) (ew : w ≡ why_lay s blocks bytes (length x)) where
      pub files-full : is_accepted w ≡ false → (t : List Block) → n ≡ length t → f ≡ found_by s.merging ps (shows_row s (buffers vs bs t []) x) x
          → Files (λ d. why_store d x) (put_value x) s vs bs t ms ps (answer w s) vs bs t ms ps
      files-full a =
          over-tables (λ t. f ≡ found_by s.merging ps (shows_row s (buffers vs bs t []) x) x → Files (λ d. why_store d x) (put_value x) s vs bs t ms ps
          (answer w s) vs bs t ms ps) n (λ ss ns es en e'.
          let g = fit ss ns es en in
          let i = lay-is s vs bs ss ns ms ps x f g e' long c ec h w blocks bytes (eb ∙ blocks-room n ss ns es en) ed ew in
          files-of (λ d. why_store d x) (put_value x) s vs bs ss ns ms ps (table_of ss ns) (does-no (λ d. why_store d x) (put_value x) s vs bs ss
          ns ms ps w i a)
          (table-no (λ d. why_store d x) (put_value x) s vs bs ss ns ms ps w i a))

      pub files-lay : (k : State) {s' : State} {vs' bs' ms' ps' : List ℕ} → is_accepted w ≡ true → k ≡ roomed (length x) s
          → s' ≡ rowed true (laid (length x) k)
          → vs' ≡ paste vs (16 * s.rows) (long_view x k.blocks k.fill) 16
          → bs' ≡ paste bs (k.base + k.fill) x (length x)
          → ms' ≡ put_bit ms s.rows true
          → ps' ≡ entered f (suc s.rows) ps
          → (t : List Block) → n ≡ length t → f ≡ found_by s.merging ps (shows_row s (buffers vs bs t []) x) x
          → (t' : List Block) → t' ≡ pick (fits_open s (length x)) t (open_table s t)
          → Files (λ d. why_store d x) (put_value x) s vs bs t ms ps (answer accepted s') vs' bs' t' ms' ps'
      files-lay k {s'} {vs'} {bs'} {ms'} {ps'} a ek st v by nu pl =
          over-tables (λ t. f ≡ found_by s.merging ps (shows_row s (buffers vs bs t []) x) x
          → (t' : List Block) → t' ≡ pick (fits_open s (length x)) t (open_table s t)
          → Files (λ d. why_store d x) (put_value x) s vs bs t ms ps (answer accepted s') vs' bs' t' ms' ps') n (λ ss ns es en e' t' et.
          let g = fit ss ns es en in
          let e = e' ∙ found-is s vs bs ss ns ms ps x g in
          let eb' = eb ∙ blocks-room n ss ns es en in
          let i = lay-is s vs bs ss ns ms ps x f g e' long c ec h w blocks bytes eb' ed ew in
          let q = fits_gives s vs bs ss ns ms ps g in
          files-of (λ d. why_store d x) (put_value x) s vs bs ss ns ms ps t'
          (does-lay s vs bs ss ns ms ps x f g e' long c ec h w blocks bytes eb' ed ew k a q.starts q.lens ek st v by refl refl nu pl)
          (et ∙ room-table s vs bs ss ns ms (fits_open s (length x))
          ∙ table-yes (λ d. why_store d x) (put_value x) s vs bs ss ns ms ps _ (is-accepted w (why_store (held s vs bs ss ns ms ps) x) i a)
          (ap (λ (z : Builder). z.lent.table) (put-lay s vs bs ss ns ms ps x f e long (sym ec ∙ h)))))

  -- ---- n times

  module _ (m rows blocks bytes : ℕ) (er : rows ≡ room_of_rows s.merging (length vs) (length ms) (length ps)) (eb : blocks ≡ room_of_blocks n n)
      (ed : bytes ≡ room_of_bytes (length bs))
      (w : Why) (ew : w ≡ refuse Fit (not (fits_rooms s rows blocks bytes)) (pick (eqb m 0) accepted (why_rows s.kind x s.rows m rows accepted))) where
    first : (ss ns : List ℕ) → n ≡ length ss → n ≡ length ns → w ≡ first_of (held s vs bs ss ns ms ps) x m
    first ss ns es en = ew ∙ first-is s vs bs ss ns ms ps rows blocks bytes er (eb ∙ blocks-room n ss ns es en) ed x m

    pub times-no : is_accepted w ≡ false → (t : List Block) → n ≡ length t → Files (λ d. why_values m d x) (put_values m x) s vs bs t ms ps
        (answer w s) vs bs t ms ps
    times-no h =
        over-tables (λ t. Files (λ d. why_values m d x) (put_values m x) s vs bs t ms ps (answer w s) vs bs t ms ps) n (λ ss ns es en.
        let e = first ss ns es en in
        let i = e ∙ value-no (held s vs bs ss ns ms ps) x m (ap is_accepted (sym e) ∙ h) in
        files-of (λ d. why_values m d x) (put_values m x) s vs bs ss ns ms ps (table_of ss ns) (does-no (λ d. why_values m d x) (put_values m x)
        s vs bs ss ns ms ps w i h)
        (table-no (λ d. why_values m d x) (put_values m x) s vs bs ss ns ms ps w i h))

    module _ (h : is_accepted w ≡ true) where
      yes : (ss ns : List ℕ) → n ≡ length ss → n ≡ length ns → is_accepted (first_of (held s vs bs ss ns ms ps) x m) ≡ true
      yes ss ns es en = ap is_accepted (sym (first ss ns es en)) ∙ h

      pub times_none : m ≡ 0 → (t : List Block) → n ≡ length t → Files (λ d. why_values m d x) (put_values m x) s vs bs t ms ps
          (answer accepted s) vs bs t ms ps
      times_none z =
          over-tables (λ t. Files (λ d. why_values m d x) (put_values m x) s vs bs t ms ps (answer accepted s) vs bs t ms ps) n (λ ss ns es en.
          let here = held s vs bs ss ns ms ps in
          let e = value_none here x m (yes ss ns es en) z in
          files-of (λ d. why_values m d x) (put_values m x) s vs bs ss ns ms ps (table_of ss ns)
          (does-put (λ d. why_values m d x) (put_values m x) s vs bs ss ns ms ps here e (put-none m x here z) refl refl refl (sym (starts-same ss ns))
          (sym (lens_same ss ns)) refl refl)
          (table-yes (λ d. why_values m d x) (put_values m x) s vs bs ss ns ms ps (table_of ss ns) e (ap (λ (z : Builder). z.lent.table)
          (put-none m x here z))))

      -- what a value that is added once or more knows
      pub many : (m ≡ 0 → ⊥) → Many s vs bs ms ps x n m
      many z =
          let j = judged (held s vs bs (blank n) (blank n) ms ps) x m (yes (blank n) (blank n) (blank-length n) (blank-length n)) z in
          let r = room-many s vs bs (blank n) (blank n) ms ps m j.1 in
          record { judged = j.0; rows = r.0; views = r.1; bits = r.2 }

      -- once, and then the rest
      pub times-on : (m ≡ 0 → ⊥) → (t : List Block) → n ≡ length t → why_values m (filed s vs bs t ms ps) x ≡ why_store (filed s vs bs t ms ps) x
      times-on z = over-tables (λ t. why_values m (filed s vs bs t ms ps) x ≡ why_store (filed s vs bs t ms ps) x) n
          (λ ss ns es en. value_on (held s vs bs ss ns ms ps) x m (yes ss ns es en) z)

-- the rest, from the call that was made once
module _ (s : State) (vs bs : List ℕ) (t : List Block) (ms ps x : List ℕ) (n : ℕ) (on : why_values n (filed s vs bs t ms ps) x
    ≡ why_store (filed s vs bs t ms ps) x)
    {r : Answer} {vs' bs' : List ℕ} {t' : List Block} {ms' ps' : List ℕ} (d : Files (λ b. why_store b x) (put_value x) s vs bs t ms ps r vs' bs' t' ms' ps') where
  abbrev here : Builder
  here = filed s vs bs t ms ps

  verdict : r.why ≡ why_store here x
  verdict = ap (λ (z : Answer). z.why) d.answers

  pub files-not : is_accepted r.why ≡ false → Files (λ b. why_values n b x) (put_values n x) s vs bs t ms ps r vs' bs' t' ms' ps'
  files-not h =
      let e : left (λ b. why_store b x) (put_value x) here ≡ left (λ b. why_values n b x) (put_values n x) here =
      go (why_store here x) (ap is_accepted (sym verdict) ∙ h) ∙ ap (λ (w : Why). if_accepted w (put_values n x here) here) (sym on) in
      record {
        answers = d.answers ∙ λ i. answer (sym on i) (e i).state;
        views = d.views ∙ ap (λ (z : Builder). z.lent.views) e;
        bytes = d.bytes ∙ ap (λ (z : Builder). z.lent.bytes) e;
        table = d.table ∙ ap (λ (z : Builder). z.lent.table) e;
        nulls = d.nulls ∙ ap (λ (z : Builder). z.lent.nulls) e;
        places = d.places ∙ ap (λ (z : Builder). z.places) e;
      }
    where
      go : (w : Why) → is_accepted w ≡ false → if_accepted w (put_value x here) here ≡ if_accepted w (put_values n x here) here
      go (Ok _) k = absurd (let z : ◌≡◌ {A = ℕ} 0 1 = cc in omega arith)
      go (Err z) k = refl

  pub once-rows : is_accepted r.why ≡ true → r.state.rows ≡ s.rows + 1
  once-rows h =
      let w : why_store here x ≡ accepted = is-accepted r.why (why_store here x) verdict h in
      ap (λ (z : Answer). z.state.rows) d.answers
      ∙ ap (λ (z : Builder). z.state.rows) (ap (λ (z : Why). if_accepted z (put_value x here) here) w) ∙ put-rows x here

  pub files-many : {s'' : State} {vs'' ms'' : List ℕ} → (n ≡ 0 → ⊥) → is_accepted r.why ≡ true → s'' ≡ rowed_by (n - 1) r.state
      → vs'' ≡ put_copies vs' (s.rows + 1) (view_at vs' s.rows) (n - 1) → ms'' ≡ put_run ms' (s.rows + 1) (n - 1) true
      → Files (λ b. why_values n b x) (put_values n x) s vs bs t ms ps (answer accepted s'') vs'' bs' t' ms'' ps'
  files-many ne h st v nu =
      let p = put_value x here in
      let w : why_store here x ≡ accepted = is-accepted r.why (why_store here x) verdict h in
      let e : if_accepted (why_store here x) p here ≡ p = ap (λ (z : Why). if_accepted z p here) w in
      let state : r.state ≡ p.state = ap (λ (z : Answer). z.state) d.answers ∙ ap (λ (z : Builder). z.state) e in
      let views : vs' ≡ p.lent.views = d.views ∙ ap (λ (z : Builder). z.lent.views) e in
      let nulls : ms' ≡ p.lent.nulls = d.nulls ∙ ap (λ (z : Builder). z.lent.nulls) e in
      let rows : s.rows + 1 ≡ p.state.rows = sym (put-rows x here) in
      let ok : why_values n here x ≡ accepted = on ∙ w in
      let q = sym (add-rows (n - 1) (view_at p.lent.views s.rows) p) ∙ put-many n x here ne in
      record {
        answers = rw (ok, ← q) (ap (answer accepted) (st ∙ ap (rowed_by (n - 1)) state));
        views = rw (ok, ← q) (v ∙ λ i. put_copies (views i) (rows i) (view_at (views i) s.rows) (n - 1));
        bytes = rw (ok, ← q) (d.bytes ∙ ap (λ (z : Builder). z.lent.bytes) e);
        table = rw (ok, ← q) (d.table ∙ ap (λ (z : Builder). z.lent.table) e);
        nulls = rw (ok, ← q) (nu ∙ λ i. put_run (nulls i) (rows i) (n - 1) true);
        places = rw (ok, ← q) (d.places ∙ ap (λ (z : Builder). z.places) e);
      }
