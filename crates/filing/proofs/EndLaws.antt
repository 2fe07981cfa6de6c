-- The null call and the two finishes over a table of records, from what their parts leave. Assumes nothing.
use Rattle.std.specs.Prelude.{Err}
use mathlib.Core.Path.{◌≡◌, refl, sym, ◌∙◌}
use mathlib.Core.Bool.{true, false, not}
use mathlib.Core.List.{List, []}
use Prim.Native.Nat.{ℕ, ◌*◌}
use lib.Dec.{leb}
use lib.ListN.{length, set}
use lib.Seq.{paste}
use Rattle.bounds.specs.Refusals.{refuse, is_accepted, accepted, Why}
use Rattle.bounds.specs.declared.Refusal.TheVariants.{Fit, RowRoom}
use Rattle.null_bits.specs.Bits.{put_bit}
use Rattle.views.specs.View.{zero_view}
use Rattle.column.specs.declared.Block.{Block}
use Rattle.column.specs.declared.Column.{Column}
use Rattle.column.specs.Lent.{table_of}
use Rattle.builder.specs.declared.State.{State}
use Rattle.builder.specs.declared.Answer.{Answer}
use Rattle.builder.specs.State.{Builder, held, fits_rooms, fits_state, rowed, add_row}
use Rattle.builder.specs.Rooms.{room_of_rows, room_of_blocks, room_of_bytes}
use Rattle.builder.specs.RoomLaws.{NullFine, null_is, null-fine, is-accepted}
use Rattle.builder.specs.Get.{column_of}
use Rattle.builder.specs.Start.{empty_state, cleared}
use Rattle.builder.specs.Values.{why_null, put_null}
use Rattle.builder.specs.Finish.{why_finish, copied, finished, no_column, finish_column}
use Rattle.builder.specs.Does.{answer}
use Rattle.builder.specs.DoesLaws.{starts-same, lens_same, does-no, does-yes}
use Rattle.finishing.specs.EndLaws.{does-refused, does-copied, does-finished}
use Rattle.builder.specs.RoomLaws.{fits_gives}
use Rattle.filing.specs.Files.{Files, filed, open_table}
use Rattle.filing.specs.FilesLaws.{over-tables, blank, blank-length, blocks-room, files-of, table-no, table-yes, recorded-table, fits_by, fits-by}

module _ (s : State) (vs bs ms ps : List ℕ) (n : ℕ) where
  -- ---- a null

  -- its verdict, in the code's numbers
  abbrev pub null_by : ℕ → ℕ → ℕ → Why
  null_by rows blocks bytes = refuse Fit (not (fits_rooms s rows blocks bytes)) (refuse RowRoom (leb rows s.rows) accepted)

  module _ (rows blocks bytes : ℕ) (er : rows ≡ room_of_rows s.merging (length vs) (length ms) (length ps)) (eb : blocks ≡ room_of_blocks n n)
      (ed : bytes ≡ room_of_bytes (length bs))
      (w : Why) (ew : w ≡ null_by rows blocks bytes) where
    verdict : (ss ns : List ℕ) → n ≡ length ss → n ≡ length ns → w ≡ why_null (held s vs bs ss ns ms ps)
    verdict ss ns es en = ew ∙ null_is s vs bs ss ns ms ps rows blocks bytes er (eb ∙ blocks-room n ss ns es en) ed

    pub null-room : is_accepted w ≡ true → NullFine s vs bs (blank n) (blank n) ms ps
    null-room h = null-fine s vs bs (blank n) (blank n) ms ps (rw (verdict (blank n) (blank n) (blank-length n) (blank-length n)) at h)

    pub null-no : is_accepted w ≡ false → (t : List Block) → n ≡ length t → Files why_null put_null s vs bs t ms ps (answer w s) vs bs t ms ps
    null-no h =
        over-tables (λ t. Files why_null put_null s vs bs t ms ps (answer w s) vs bs t ms ps) n (λ ss ns es en.
        let e = verdict ss ns es en in
        files-of why_null put_null s vs bs ss ns ms ps (table_of ss ns) (does-no why_null put_null s vs bs ss ns ms ps w e h) (table-no why_null put_null s
        vs bs ss ns ms ps w e h))

    pub null-yes : {s' : State} {vs' ms' : List ℕ} → is_accepted w ≡ true → s' ≡ rowed false s → vs' ≡ paste vs (16 * s.rows) zero_view 16
        → ms' ≡ put_bit ms s.rows false
        → (t : List Block) → n ≡ length t → Files why_null put_null s vs bs t ms ps (answer accepted s') vs' bs t ms' ps
    unfolding put_null add_row
    null-yes {s'} {vs'} {ms'} h st v m =
        over-tables (λ t. Files why_null put_null s vs bs t ms ps (answer accepted s') vs' bs t ms' ps) n (λ ss ns es en.
        let e : why_null (held s vs bs ss ns ms ps) ≡ accepted = is-accepted w (why_null (held s vs bs ss ns ms ps)) (verdict ss ns es en) h in
        files-of why_null put_null s vs bs ss ns ms ps (table_of ss ns)
        (does-yes why_null put_null s vs bs ss ns ms ps e st v refl (sym (starts-same ss ns)) (sym (lens_same ss ns)) m refl)
        (table-yes why_null put_null s vs bs ss ns ms ps (table_of ss ns) e refl))

  -- ---- the finishes

  finish-no : (ss ns : List ℕ) → fits_state (held s vs bs ss ns ms ps) ≡ false → Err Fit ≡ why_finish (held s vs bs ss ns ms ps)
  unfolding why_finish refuse
  finish-no ss ns h = rw h

  finish-yes : (ss ns : List ℕ) → fits_state (held s vs bs ss ns ms ps) ≡ true → why_finish (held s vs bs ss ns ms ps) ≡ accepted
  unfolding why_finish refuse
  finish-yes ss ns h = rw h

  pub ended-no : (put : Builder → Builder) (a : Answer) (c : Column) → fits_by s vs bs ms ps n ≡ false → a ≡ answer (Err Fit) s → c ≡ no_column s
      → (t : List Block) → n ≡ length t → Files why_finish put s vs bs t ms ps a vs bs t ms ps × (c ≡ finish_column (filed s vs bs t ms ps))
  ended-no put a c h ea ec =
      over-tables (λ t. Files why_finish put s vs bs t ms ps a vs bs t ms ps × (c ≡ finish_column (filed s vs bs t ms ps))) n (λ ss ns es en.
      let f = sym (fits-by s vs bs ms ps n ss ns es en) ∙ h in
      let d = does-refused s vs bs ss ns ms ps put a c f ea ec in (
        files-of why_finish put s vs bs ss ns ms ps (table_of ss ns) d.0
            (table-no why_finish put s vs bs ss ns ms ps (Err Fit) (finish-no ss ns f) refl),
        d.1,
      ))

  -- t' is the table with the open block's record
  module _ (fit : fits_by s vs bs ms ps n ≡ true) (c : Column) (ec : c ≡ column_of (filed s vs bs [] ms ps)) where
    pub ended-copied : (t : List Block) → n ≡ length t → (t' : List Block) → t' ≡ open_table s t
        → Files why_finish copied s vs bs t ms ps (answer accepted s) vs bs t' ms ps × (c ≡ finish_column (filed s vs bs t ms ps))
    unfolding copied
    ended-copied =
        over-tables (λ t. (t' : List Block) → t' ≡ open_table s t → Files why_finish copied s vs bs t ms ps (answer accepted s) vs bs t' ms ps
        × (c ≡ finish_column (filed s vs bs t ms ps))) n (λ ss ns es en t' e.
        let f = sym (fits-by s vs bs ms ps n ss ns es en) ∙ fit in
        let g = fits_gives s vs bs ss ns ms ps f in
        let d = does-copied s vs bs ss ns ms ps f g.starts g.lens refl refl c ec in (
          files-of why_finish copied s vs bs ss ns ms ps t' d.0
              (table-yes why_finish copied s vs bs ss ns ms ps t' (finish-yes ss ns f) (e ∙ recorded-table s vs bs ss ns ms)),
          d.1,
        ))

    pub ended-finished : (st : State) {ps' : List ℕ} → st ≡ empty_state s.kind s.growth s.merging → ps' ≡ cleared s.merging ps
        → (t : List Block) → n ≡ length t → (t' : List Block) → t' ≡ open_table s t
        → Files why_finish finished s vs bs t ms ps (answer accepted st) vs bs t' ms ps' × (c ≡ finish_column (filed s vs bs t ms ps))
    unfolding finished
    ended-finished st {ps'} e p =
        over-tables (λ t. (t' : List Block) → t' ≡ open_table s t → Files why_finish finished s vs bs t ms ps (answer accepted st) vs bs t' ms ps'
        × (c ≡ finish_column (filed s vs bs t ms ps))) n (λ ss ns es en t' o.
        let f = sym (fits-by s vs bs ms ps n ss ns es en) ∙ fit in
        let g = fits_gives s vs bs ss ns ms ps f in
        let d = does-finished s vs bs ss ns ms ps f g.starts g.lens refl refl c ec st e p in (
          files-of why_finish finished s vs bs ss ns ms ps t' d.0
              (table-yes why_finish finished s vs bs ss ns ms ps t' (finish-yes ss ns f) (o ∙ recorded-table s vs bs ss ns ms)),
          d.1,
        ))
