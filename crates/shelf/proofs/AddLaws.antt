-- The calls keep the table's length, so that the two number slices say what the table is. Assumes nothing.
use Rattle.std.specs.Prelude.{Ok, Err}
use mathlib.Core.Path.{◌≡◌, refl, ap, ◌∙◌}
use mathlib.Core.Bool.{Bool, true, false}
use mathlib.Core.List.{List, [], ◌∷◌}
use Prim.Native.Nat.{ℕ}
use native.Mathlib.Omega.{arith}
use lib.ListN.{length, set, length-set}
use Rattle.basis.specs.Pick.{pick}
use Rattle.bounds.specs.Refusals.{if_accepted, Why}
use Rattle.views.specs.View.{is_short, short_view, zero_view, view_at}
use Rattle.merging.specs.Table.{is_row, row_of}
use Rattle.column.specs.declared.Block.{Block}
use Rattle.column.specs.Lent.{Lent, buffers, block, table_of, lent}
use Rattle.builder.specs.declared.State.{State}
use Rattle.builder.specs.declared.Answer.{Answer}
use Rattle.builder.specs.State.{Builder, builder, held, is_open, recorded, fits_open, make_room, lay, add_row, add_rows}
use Rattle.builder.specs.Values.{found, enter, store, put_found, put_value, put_values, why_values, why_null, put_null}
use Rattle.builder.specs.Does.{starts_of, lens_of, answer, left, Does}
use Rattle.shelf.specs.declared.Line.TheVariants.{Code, Null, Bad}
use Rattle.shelf.specs.Lines.{lines, says, value_of}
use Rattle.shelf.specs.Adding.{added, added_all, shelf_settings, built, shelf_lent, shelf_column}
use Rattle.builder.specs.Start.{why_start, start_state, start_places}
use Rattle.builder.specs.Finish.{why_finish, finished, finish_column}
use Rattle.column.specs.declared.Column.{Column}

abbrev many : Builder → ℕ
many b = length b.lent.table

pick-many : (t : Bool) (a b : Builder) (n : ℕ) → many a ≡ n → many b ≡ n → many (pick t a b) ≡ n
pick-many true a b n p q = p
pick-many false a b n p q = q

recorded-many : (s : State) (l : Lent) → length (recorded s l).table ≡ length l.table
unfolding recorded
recorded-many s l = go (is_open s)
  where
    go : (t : Bool) → length (pick t (set l.table s.blocks (block s.base s.fill)) l.table) ≡ length l.table
    go true = length-set l.table s.blocks (block s.base s.fill)
    go false = refl

room-many : (n : ℕ) (b : Builder) → many (make_room n b) ≡ many b
unfolding make_room
room-many n b = go (fits_open b.state n)
  where
    go : (t : Bool) → length (pick t b.lent (recorded b.state b.lent)).table ≡ many b
    go true = refl
    go false = recorded-many b.state b.lent

row-many : (v : List ℕ) (t : Bool) (b : Builder) → many (add_row v t b) ≡ many b
unfolding add_row
row-many v t b = refl

store_many : (x : List ℕ) (b : Builder) → many (store x b) ≡ many b
unfolding store add_row lay
store_many x b = refl

value-many : (x : List ℕ) (b : Builder) → many (put_value x b) ≡ many b
unfolding put_value put_found
value-many x b =
    let f = found b x in
    pick-many (is_short (length x)) _ _ (many b) (row-many (short_view x) true b)
    (pick-many (is_row f) _ _ (many b) (row-many (view_at b.lent.views (row_of f)) true b) (store_many x (make_room (length x) (enter f b))
    ∙ room-many (length x) (enter f b)))

values-many : (x : List ℕ) (b : Builder) → many (put_values 1 x b) ≡ many b
unfolding put_values add_rows
values-many x b = value-many x b

null-many : (b : Builder) → many (put_null b) ≡ many b
unfolding put_null
null-many b = row-many zero_view false b

left-many : (why : Builder → Why) (put : Builder → Builder) (b : Builder) → many (put b) ≡ many b → many (left why put b) ≡ many b
left-many why put b h = go (why b)
  where
    go : (w : Why) → many (if_accepted w (put b) b) ≡ many b
    go (Ok _) = h
    go (Err r) = refl

-- ---- two number slices that were written from a table say what it is

table-back : (t : List Block) (ss ns : List ℕ) → length t ≡ length (table_of ss ns) → table_of (starts_of t ss) (lens_of t ns) ≡ t
unfolding table_of starts_of lens_of
table-back [] [] ns h = refl
table-back [] (s ∷ ss) [] h = refl
table-back [] (s ∷ ss) (n ∷ ns) h = absurd (omega arith)
table-back (b ∷ t) [] ns h = absurd (omega arith)
table-back (b ∷ t) (s ∷ ss) [] h = absurd (omega arith)
table-back (b ∷ t) (s ∷ ss) (n ∷ ns) h = ap (λ (l : List Block). b ∷ l) (table-back t ss ns (omega arith))

module _ (why : Builder → Why) (put : Builder → Builder) (s : State) (vs bs ss ns ms ps : List ℕ) {r : Answer} {vs' bs' ss' ns' ms' ps' : List ℕ} where
  pub whole : many (put (held s vs bs ss ns ms ps)) ≡ length (table_of ss ns) → Does why put s vs bs ss ns ms ps r vs' bs' ss' ns' ms' ps'
      → held r.state vs' bs' ss' ns' ms' ps' ≡ left why put (held s vs bs ss ns ms ps)
  whole h d =
      let b = held s vs bs ss ns ms ps in
      let e = left why put b in
      let st : r.state ≡ e.state = ap (λ (a : Answer). a.state) d.answers in
      let t : table_of ss' ns' ≡ e.lent.table = (λ i. table_of (d.starts i) (d.lens i)) ∙ table-back e.lent.table ss ns (left-many why put b h) in
      λ i. builder (st i) (buffers (d.views i) (d.bytes i) (t i) (d.nulls i)) (d.places i)

module _ (s : State) (vs bs ss ns ms ps : List ℕ) {r : Answer} {vs' bs' ss' ns' ms' ps' : List ℕ} where
  pub added-value : (l x : List ℕ) → says l ≡ Code → x ≡ value_of l → Does (λ b. why_values 1 b x) (put_values 1 x) s vs bs ss ns ms ps r vs' bs' ss' ns' ms' ps'
      → held r.state vs' bs' ss' ns' ms' ps' ≡ added l (held s vs bs ss ns ms ps)
  unfolding added
  added-value l x h e d = rw (h, ← e) (whole (λ b. why_values 1 b x) (put_values 1 x) s vs bs ss ns ms ps (values-many x (held s vs bs ss ns ms ps)) d)

  pub added-null : (l : List ℕ) → says l ≡ Null → Does why_null put_null s vs bs ss ns ms ps r vs' bs' ss' ns' ms' ps'
      → held r.state vs' bs' ss' ns' ms' ps' ≡ added l (held s vs bs ss ns ms ps)
  unfolding added
  added-null l h d = rw h (whole why_null put_null s vs bs ss ns ms ps (null-many (held s vs bs ss ns ms ps)) d)

pub added_none : (l : List ℕ) (b : Builder) → says l ≡ Bad → b ≡ added l b
unfolding added
added_none l b h = rw h

pub added_next : (l : List ℕ) (ls : List (List ℕ)) (b : Builder) → added_all (l ∷ ls) b ≡ added_all ls (added l b)
unfolding added_all
added_next l ls b = refl

pub added-end : (b : Builder) → added_all [] b ≡ b
unfolding added_all
added-end b = refl

-- ---- the finished column

finish-many : (b : Builder) → many (finished b) ≡ many b
unfolding finished
finish-many b = recorded-many b.state b.lent

module _ (i vs bs ss ns ms ps : List ℕ) {ps₀ vs₁ bs₁ ss₁ ns₁ ms₁ ps₁ ss₂ ns₂ ps₂ : List ℕ} {s₁ : State} {begun a : Answer} {col : Column} where
  pub built-finished : begun ≡ answer (why_start shelf_settings) (start_state shelf_settings) → ps₀ ≡ start_places shelf_settings ps
      → held s₁ vs₁ bs₁ ss₁ ns₁ ms₁ ps₁ ≡ added_all (lines i) (held begun.state vs bs ss ns ms ps₀)
      → Does why_finish finished s₁ vs₁ bs₁ ss₁ ns₁ ms₁ ps₁ a vs₁ bs₁ ss₂ ns₂ ms₁ ps₂ × (col ≡ finish_column (held s₁ vs₁ bs₁ ss₁ ns₁ ms₁ ps₁))
      → (col ≡ shelf_column (built i vs bs ss ns ms ps)) × (lent vs₁ bs₁ ss₂ ns₂ ms₁ ≡ shelf_lent (built i vs bs ss ns ms ps))
  unfolding built shelf_lent
  built-finished e p d f =
      let b : held s₁ vs₁ bs₁ ss₁ ns₁ ms₁ ps₁ ≡ built i vs bs ss ns ms ps = d ∙ (λ j. added_all (lines i) (held (e j).state vs bs ss ns ms (p j))) in (
        f.1 ∙ ap finish_column b,
        ap (λ (z : Builder). z.lent) (whole why_finish finished s₁ vs₁ bs₁ ss₁ ns₁ ms₁ ps₁ (finish-many (held s₁ vs₁ bs₁ ss₁ ns₁ ms₁ ps₁)) f.0)
            ∙ ap shelf_lent b,
      )
