-- The verdict on two columns by the verdicts on each, and what is known where neither is refused. Assumes nothing.
use Rattle.comparison.specs.declared.Side.TheVariants.{Left, Right}
use Rattle.comparison.specs.declared.Side.{Side}
use Rattle.std.specs.Prelude.{◌≡◌, refl, Bool, true, false, ◌&&◌, take, drop, Ok, Err, Some, None, Result, Option, ⊤}
use Rattle.std.proofs.Common.{sym, ◌∙◌, arith, le-leb, take_all}
use Rattle.std.proofs.Math.Path.{ap, ap₂}
use mathlib.Core.List.{List}
use Prim.Native.Nat.{ℕ, ◌+◌, ◌-◌, ◌*◌, ◌≤◌, ◌<◌, compare, Ordering}
use Rattle.std.proofs.lemmas.Bool.{lt-leb}
use Rattle.std.proofs.Math.Dec.{leb}
use Rattle.std.proofs.Math.ListN.{length}
use Rattle.basis.specs.Pick.{pick, part-is}
use Rattle.bounds.specs.Refusals.{number_of, is_accepted, accepted, Why}
use Rattle.bounds.specs.declared.Refusal.{Refusal}
use Rattle.words.specs.Words.{Bytes, be_at}
use Rattle.order.specs.Order.{Order, ordering, thenby, cmp, short_order}
use Rattle.std.proofs.Common.{Less, Equal, Greater}
use Rattle.order.proofs.WordOrder.{four-first, four-short}
use Rattle.views.specs.View.{view_size, view_at, length_of, body_of, prefix_of, is_short}
use Rattle.views.specs.ViewLaws.{length-view}
use Rattle.column.specs.declared.Block.{Block}
use Rattle.column.specs.declared.Column.{Column}
use Rattle.column.specs.Lent.{Lent, lent, buffers, fits}
use Rattle.column.proofs.FitLaws.{fits-row, fits-view}
use Rattle.column.proofs.ReachLaws.{reachable-bare}
use Rattle.column.specs.Meaning.{row_view, blocks_of, shown, shown_at}
use Rattle.column.specs.Truth.{reachable_at}
use Rattle.reading.specs.Reading.{why_value, value_at}
use Rattle.reading.proofs.ReadingLaws.{value-readable}
use Rattle.reading.proofs.WalkLaws.{value-shown}
use Rattle.comparison.specs.Readable.{ViewReadable, Comparable}
use Rattle.comparison.specs.Compare.{both_of, why_compare, compare_views, told_by, order_of, compare_rows}

-- the verdict, where each row's is known
module _ (w v : Why) where
  pub verdict-is : (w' v' : Why) (r : Result ⊤ Side) → w ≡ w' → v ≡ v' → r ≡ both_of w' v' → r ≡ both_of w v
  verdict-is w' v' r e f g = rw (e, f) g

  module _ (r s : Refusal) (a b : ℕ) (ew : w ≡ Err r) (ev : v ≡ Err s) (ea : a ≡ number_of r) (eb : b ≡ number_of s) where
    by_number : (t : Bool) → leb a b ≡ t → pick t (Err (Left r)) (Err (Right s)) ≡ both_of w v
    unfolding both_of
    by_number t h = verdict-is (Err r) (Err s) (pick t (Err (Left r)) (Err (Right s))) ew ev (ap (λ (o : Bool). pick o (Err (Left r)) (Err (Right s))) (sym h
        ∙ ap₂ leb ea eb))

    pub left-lower : a ≤ b → Err (Left r) ≡ both_of w v
    left-lower h = by_number true (le-leb a b h)

    pub right-lower : b < a → Err (Right s) ≡ both_of w v
    right-lower h = by_number false (lt-leb a b h)

-- a call on two columns is accepted where it is on each
pub both-accepted : (w v : Why) → both_of w v ≡ Ok tt → (w ≡ accepted) × (v ≡ accepted)
unfolding both_of
both-accepted (Ok _) (Ok _) h = (refl, refl)
both-accepted (Ok _) (Err s) h = let z : ◌≡◌ {A = ℕ} 0 1 = cc in absurd (omega arith)
both-accepted (Err r) (Ok _) h = let z : ◌≡◌ {A = ℕ} 0 1 = cc in absurd (omega arith)
both-accepted (Err r) (Err s) h = by (leb (number_of r) (number_of s)) h
  where
    by : (t : Bool) → pick t (Err (Left r)) (Err (Right s)) ≡ Ok (tt {0}) → (Err r ≡ accepted) × (Err s ≡ accepted)
    by true h = let z : ◌≡◌ {A = ℕ} 0 1 = cc in absurd (omega arith)
    by false h = let z : ◌≡◌ {A = ℕ} 0 1 = cc in absurd (omega arith)

-- what is known of a comparison that is accepted
pub comparable : (l : Lent) (c : Column) (i : ℕ) (m : Lent) (d : Column) (j : ℕ) → why_compare l c i m d j ≡ Ok tt → Comparable l c i m d j
unfolding why_compare
comparable l c i m d j h =
    let p = both-accepted (why_value l c i) (why_value m d j) h in
    let q = value-readable l c i (ap is_accepted p.0) in
    let r = value-readable m d j (ap is_accepted p.1) in
    record { fit = q.fit; fit2 = r.fit; row = q.row; row2 = r.row; reach = q.reach; reach2 = r.reach }

-- the verdict on two rows by where the value of each stands
pub both_is : (l : Lent) (c : Column) (i : ℕ) (m : Lent) (d : Column) (j : ℕ) (w v : Why) (r : Result ⊤ Side) → w ≡ why_value l c i → v ≡ why_value m d j
    → r ≡ both_of w v → r ≡ why_compare l c i m d j
unfolding why_compare
both_is l c i m d j w v r ew ev er = er ∙ ap₂ both_of ew ev

-- the answer by the verdict
order-back : (o : Order) → order_of (ordering o) ≡ o
order-back Less = refl
order-back Equal = refl
order-back Greater = refl

module _ (l : Lent) (c : Column) (i : ℕ) (m : Lent) (d : Column) (j : ℕ) (v : Result ⊤ Side) (is : v ≡ why_compare l c i m d j) where
  pub compared-no : (s : Side) → v ≡ Err s → Err s ≡ compare_rows l c i m d j
  unfolding compare_rows
  compared-no s e = rw (← is, e)

  pub compared_is : (o : Order) → v ≡ Ok tt
      → ordering o ≡ compare_views (blocks_of l c.blocks) (row_view l c i) (blocks_of m d.blocks) (row_view m d j) → Ok o ≡ compare_rows l c i m d j
  unfolding compare_rows
  compared_is o e p = rw (← is, e, ← p, order-back o)

-- a view is the first of itself
pub view-zero : (v : List ℕ) → length v ≡ view_size → view_at v 0 ≡ v
unfolding view_at
view-zero v h = take_all 16 v (omega arith)

-- the sixteen bytes of a row's view
pub view-part : (views : List ℕ) (at : ℕ) → take (16 * at + 16 - 16 * at) (drop (16 * at) views) ≡ view_at views at
unfolding view_at
view-part views at = part-is views (16 * at) 16 (16 * at) 16 refl refl

-- the sides of a comparison by views, their lengths as the code has them
module _ (bs : List (List ℕ)) (v : List ℕ) (cs : List (List ℕ)) (w : List ℕ) (h : length v ≡ view_size) (g : length w ≡ view_size)
    (a b : ℕ) (ea : a ≡ length_of (view_at v 0)) (eb : b ≡ length_of (view_at w 0)) (t : Bool) (et : t ≡ is_short a && is_short b) where
  shorts : is_short (length_of v) && is_short (length_of w) ≡ t
  shorts = sym (et ∙ ap₂ (λ (m n : ℕ). is_short m && is_short n) (ea ∙ ap length_of (view-zero v h)) (eb ∙ ap length_of (view-zero w g)))

  pub short-order : (o : Ordering) → t ≡ true → o ≡ short_order v w → o ≡ compare_views bs v cs w
  unfolding compare_views body_of length_of short_order
  short-order o e p = rw (shorts ∙ e) p

  pub whole-order : t ≡ false → cmp (take 4 (drop 4 v)) (take 4 (drop 4 w)) ≡ Ordering.eq → cmp (shown bs v) (shown cs w) ≡ compare_views bs v cs w
  unfolding compare_views prefix_of
  whole-order e p = rw (shorts ∙ e, p)

-- four bytes that differ decide, whether both are short or not
pub four-order : (bs : List (List ℕ)) (v : List ℕ) (cs : List (List ℕ)) (w : List ℕ) → Bytes v → Bytes w → length v ≡ view_size → length w ≡ view_size
    → (p q : ℕ) → p ≡ be_at v 4 4 → q ≡ be_at w 4 4 → (p ≡ q → ⊥) → compare p q ≡ compare_views bs v cs w
unfolding compare_views body_of length_of prefix_of short_order
four-order bs v cs w bv bw h g p q ep eq ne = by (is_short (length_of v) && is_short (length_of w))
  where
    by : (t : Bool) → compare p q ≡ pick t (thenby (cmp (body_of v) (body_of w)) (compare (length_of v) (length_of w)))
        (thenby (cmp (prefix_of v) (prefix_of w)) (cmp (shown bs v) (shown cs w)))
    by true = four-short v w bv bw h g p q ep eq ne
    by false = four-first v w bv bw h g p q ep eq ne (cmp (shown bs v) (shown cs w))

-- what two views tell, in hand
module _ (t : Option Order) (whole r : Ordering) (is : told_by t whole ≡ r) where
  pub told_is : (o : Order) → t ≡ Some o → ordering o ≡ r
  told_is o e = rw e at is

  pub told-whole : t ≡ None → whole ≡ r
  told-whole e = rw e at is

-- two rows whose comparison is accepted, by their views and values
module _ (views bytes nulls : List ℕ) (table : List Block) (c : Column) (i : ℕ) (views2 bytes2 nulls2 : List ℕ) (table2 : List Block) (d : Column) (j : ℕ)
    (r : Result ⊤ Side) (o : Order) (x y v w : List ℕ) where
  abbrev l : Lent
  l = buffers views bytes table nulls

  abbrev m : Lent
  m = buffers views2 bytes2 table2 nulls2

  pub compared-by : r ≡ why_compare l c i m d j → r ≡ Ok tt
      → (view_size * (c.first + i) + view_size ≤ length views → v ≡ view_at views (c.first + i))
      → (view_size * (d.first + j) + view_size ≤ length views2 → w ≡ view_at views2 (d.first + j))
      → x ≡ value_at l c i → y ≡ value_at m d j
      → ((bs cs : List (List ℕ)) → length v ≡ view_size → length w ≡ view_size → x ≡ shown bs v → y ≡ shown cs w → ordering o ≡ compare_views bs v cs w)
      → Ok o ≡ compare_rows l c i m d j
  unfolding shown_at
  compared-by is e f g ex ey order =
      let k = comparable l c i m d j (sym is ∙ e) in
      let room = fits-view views bytes nulls table c i k.fit k.row in
      let room2 = fits-view views2 bytes2 nulls2 table2 d j k.fit2 k.row2 in
      let bs = blocks_of l c.blocks in
      let cs = blocks_of m d.blocks in
      let ev = f room in
      let ew = g room2 in
      let sx = value-shown l c i (record { fit = k.fit; row = k.row; reach = k.reach }) in
      let sy = value-shown m d j (record { fit = k.fit2; row = k.row2; reach = k.reach2 }) in
      let by = order bs cs (ap length ev ∙ length-view views (c.first + i) room) (ap length ew ∙ length-view views2 (d.first + j) room2)
      (ex ∙ sx ∙ ap (shown bs) (sym ev)) (ey ∙ sy ∙ ap (shown cs) (sym ew)) in
      compared_is l c i m d j r is o e (by ∙ ap₂ (λ (p q : List ℕ). compare_views bs p cs q) ev ew)

-- a row of a column that fits, whose view is reachable, can be read
pub readable : (views bytes starts lens nulls : List ℕ) (c : Column) (r : ℕ) → fits (lent views bytes starts lens nulls) c ≡ true → r < c.rows
    → reachable_at (lent views bytes starts lens nulls) c r ≡ true → ViewReadable views bytes starts lens c.blocks (c.first + r)
readable views bytes starts lens nulls c r h l e =
    record {
      room = fits-row views bytes starts lens nulls c r h l;
      reach = rw (reachable-bare views bytes starts lens nulls c.blocks (view_at views (c.first + r))) e;
    }
