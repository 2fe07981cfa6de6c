-- Functions that meet their contracts make a run of calls. Assumes nothing.
use mathlib.Core.Path.{◌≡◌, refl, sym, ap, ◌∙◌, subst}
use mathlib.Core.Bool.{Bool, true, false}
use mathlib.Core.List.{List, [], ◌∷◌}
use Prim.Native.Nat.{ℕ, zero, suc}
use native.Mathlib.Omega.{arith}
use lib.ListN.{length, length-set}
use Rattle.basis.specs.Pick.{pick}
use Rattle.bounds.specs.Refusals.{Why, accepted}
use Rattle.views.specs.View.{is_short, short_view, view_at}
use Rattle.merging.specs.Table.{is_row, row_of}
use Rattle.column.specs.declared.Block.{Block}
use Rattle.column.specs.declared.Column.{Column}
use Rattle.column.specs.Lent.{Lent, buffers, block, table_of}
use Rattle.builder.specs.declared.State.{State}
use Rattle.builder.specs.declared.Answer.{Answer}
use Rattle.builder.specs.State.{Builder, builder, outcome, all_blocks, fits_open, complete, recorded, make_room, lay, add_row, add_rows}
use Rattle.builder.specs.Values.{found, enter, store, put_found, put_value, put_values, put_null}
use Rattle.builder.specs.Others.{lay_block, lay_blocks, block_bytes, put_block, put_view, add_column, put_column}
use Rattle.builder.specs.Finish.{copied, finished}
use Rattle.builder.specs.Does.{starts_of, lens_of, left}
use Rattle.promise.specs.Calls.{Call, adds_values, adds_null, adds_block, adds_view, adds_column, finish_copy, finish, why, put, Ran}
use Rattle.promise.specs.Calls as calls
use Rattle.promise.specs.Coded.{Slices, held_in, CallMet, Coded, none, more, Codes}
use Rattle.promise.proofs.Fits.{length-recorded}
use Rattle.promise.proofs.Appends.{put-suc, put-zero}

-- ---- no call makes the table longer or shorter

abbrev Long : Builder → Builder → Type 0
Long b c = length c.lent.table ≡ length b.lent.table

long-row : (v : List ℕ) (t : Bool) (b : Builder) → Long b (add_row v t b)
unfolding add_row
long-row v t b = refl

long-rows : (n : ℕ) (v : List ℕ) (b : Builder) → Long b (add_rows n v true b)
unfolding add_rows
long-rows zero v b = refl
long-rows (suc n) v b = long-row v true (add_rows n v true b) ∙ long-rows n v b

long-store : (x : List ℕ) (b : Builder) → Long b (store x (make_room (length x) b))
unfolding store add_row lay make_room
long-store x b = by (fits_open b.state (length x))
  where
    by : (t : Bool) → length (pick t b.lent (recorded b.state b.lent)).table ≡ length b.lent.table
    by true = refl
    by false = length-recorded b.state b.lent

long-value : (x : List ℕ) (b : Builder) → Long b (put_value x b)
unfolding put_value put_found
long-value x b = by (is_short (length x)) (is_row (found b x))
  where
    by : (t u : Bool)
        → Long b (pick t (add_row (short_view x) true b) (pick u (add_row (view_at b.lent.views (row_of (found b x))) true b)
        (store x (make_room (length x) (enter (found b x) b)))))
    by true u = long-row (short_view x) true b
    by false true = long-row (view_at b.lent.views (row_of (found b x))) true b
    by false false = long-store x (enter (found b x) b)

long-values : (n : ℕ) (x : List ℕ) (b : Builder) → Long b (put_values n x b)
long-values zero x b = rw (put-zero x b)
long-values (suc n) x b = rw (put-suc n x b) (long-rows n (view_at (put_value x b).lent.views b.state.rows) (put_value x b) ∙ long-value x b)

long-complete : (b : Builder) → Long b (complete b)
unfolding complete
long-complete b = length-recorded b.state b.lent

long-block : (x : List ℕ) (b : Builder) → Long b (lay_block x b)
unfolding lay_block
long-block x b = length-set b.lent.table b.state.blocks (block b.state.base (length x))

long-blocks : (n : ℕ) (f : ℕ → List ℕ) (b : Builder) → Long b (lay_blocks n f b)
unfolding lay_blocks
long-blocks zero f b = refl
long-blocks (suc n) f b = long-block (f n) (lay_blocks n f b) ∙ long-blocks n f b

long-column : (n before : ℕ) (l : Lent) (c : Column) (b : Builder) → Long b (add_column n before l c b)
unfolding add_column add_row
long-column zero before l c b = refl
long-column (suc n) before l c b = long-column n before l c b

long-put : (c : Call) (b : Builder) → Long b (put c b)
unfolding put_null put_block put_view put_column copied finished
long-put (adds_values n x) b = long-values n x b
long-put adds_null b = long-row _ false b
long-put (adds_block x) b = long-block x (complete b) ∙ long-complete b
long-put (adds_view k offset n) b = long-row _ true b
long-put (adds_column l c) b = long-column c.rows (all_blocks b.state) l c (lay_blocks c.blocks (block_bytes l) (complete b))
    ∙ long-blocks c.blocks (block_bytes l) (complete b) ∙ long-complete b
long-put finish_copy b = length-recorded b.state b.lent
long-put finish b = length-recorded b.state b.lent

-- ---- the slices at exit are the table at exit

table-back : (t : List Block) (ss ns : List ℕ) → length t ≡ length (table_of ss ns) → table_of (starts_of t ss) (lens_of t ns) ≡ t
unfolding table_of starts_of lens_of
table-back [] [] ns e = refl
table-back [] (s ∷ ss) [] e = refl
table-back [] (s ∷ ss) (n ∷ ns) e = absurd (omega arith)
table-back (b ∷ t) [] ns e = absurd (omega arith)
table-back (b ∷ t) (s ∷ ss) [] e = absurd (omega arith)
table-back (b ∷ t) (s ∷ ss) (n ∷ ns) e = ap (λ (r : List Block). b ∷ r) (table-back t ss ns (omega arith))

same-builder : (e : Builder) {s : State} {vs bs : List ℕ} {t : List Block} {ms ps : List ℕ} → s ≡ e.state → vs ≡ e.lent.views → bs ≡ e.lent.bytes
    → t ≡ e.lent.table
    → ms ≡ e.lent.nulls → ps ≡ e.places → builder s (buffers vs bs t ms) ps ≡ e
same-builder e p q r u v w = λ i. builder (p i) (buffers (q i) (r i) (u i) (v i)) (w i)

-- a call that meets its contract and accepts leaves what it puts
module _ (c : Call) (h : Slices) (r : Answer) (h' : Slices) (m : CallMet c h r h') where
  abbrev was : Builder
  was = held_in h

  pub met-why : why c was ≡ accepted
  met-why = sym (ap (λ (a : Answer). a.why) m.does.answers) ∙ m.accepted

  leaves : left (why c) (put c) was ≡ put c was
  leaves = ap (λ (w : Why). outcome w (put c) was) met-why

  table : table_of h'.starts h'.lens ≡ (put c was).lent.table
  table =
      let t : List Block = (put c was).lent.table in
      let ss : h'.starts ≡ starts_of t h.starts = m.does.starts ∙ ap (λ (e : Builder). starts_of e.lent.table h.starts) leaves in
      let ns : h'.lens ≡ lens_of t h.lens = m.does.lens ∙ ap (λ (e : Builder). lens_of e.lent.table h.lens) leaves in
      rw (ss, ns) (table-back t h.starts h.lens (long-put c was))

  pub met-put : held_in h' ≡ put c was
  met-put =
      same-builder (put c was)
      (m.state ∙ ap (λ (a : Answer). a.state) m.does.answers ∙ ap (λ (e : Builder). e.state) leaves)
      (m.does.views ∙ ap (λ (e : Builder). e.lent.views) leaves)
      (m.does.bytes ∙ ap (λ (e : Builder). e.lent.bytes) leaves)
      table
      (m.does.nulls ∙ ap (λ (e : Builder). e.lent.nulls) leaves)
      (m.does.places ∙ ap (λ (e : Builder). e.places) leaves)

runs : {cs : List Call} {h e : Slices} → Coded cs h e → Ran cs (held_in h) (held_in e)
runs none = calls.none
runs {e = e} (more {c = c} {cs} {h} {h'} r m rest) = calls.more (met-why c h r h' m) (subst (λ (b : Builder). Ran cs b (held_in e))
    (met-put c h r h' m) (runs rest))

pub coded : Codes
coded = record { runs = λ cs h e d. runs d }
