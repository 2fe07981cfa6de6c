-- Rows counted and values tasted, one more at a time; which row is below the next, by which are reachable. Assumes nothing.
use Rattle.comparison.specs.declared.Side.TheVariants.{Left, Right}
use Rattle.comparison.specs.declared.Side.{Side}
use Rattle.std.specs.Prelude.{Ok, Err, Result, Option}
use Rattle.std.proofs.Common.{◌≡◌, ℕ, ◌+◌, ◌-◌, ◌%◌, ◌^◌, ◌<◌, Bool, true, false, ◌&&◌, eqb, leb, List, [], length, get_or, sym, refl, ap, ◌∙◌, subst, true≢false, add-one, arith, ne_eqb}
use Rattle.std.specs.Ordering.{is_lt}
use Prim.Native.Nat.{Ordering, ◌≤◌}
use mir.Val.{bool_byte}
use lib.ListN.{get_or-eq_default}
use Rattle.basis.specs.Pick.{pick}
use Rattle.bounds.specs.Refusals.{refuse, is_accepted, number_of, accepted, Why, answered}
use Rattle.bounds.specs.declared.Refusal.TheVariants as refusal
use Rattle.order.specs.Order.{Order, ordering, cmp}
use Rattle.std.proofs.Common.{Less, Equal, Greater}
use Rattle.views.specs.View.{view_at}
use Rattle.column.specs.declared.Column.{Column}
use Rattle.column.specs.declared.Spot.{Spot}
use Rattle.column.specs.declared.Spot.TheVariants as spot
use Rattle.column.specs.Lent.{Lent, lent, fits}
use Rattle.column.specs.Room.{bare}
use Rattle.column.proofs.FitLaws.{and_no}
use Rattle.column.specs.Meaning.{row_view, blocks_of, shown}
use Rattle.column.specs.Spot.{spot_in, bytes_at}
use Rattle.column.specs.Truth.{reachable_at}
use Rattle.reading.specs.Reading.{why_reach, why_value, located_bytes, value_at}
use Rattle.reading.proofs.ReadingLaws.{value-reach, value-reached}
use Rattle.reading.proofs.LocatedLaws.{located-is, located-bytes}
use Rattle.comparison.specs.Compare.{order_of, compare_views, told_by, both_of, why_compare, compare_rows}
use Rattle.comparison.specs.Readable.{ViewReadable}
use Rattle.comparison.specs.VerdictLaws.{readable, compared_is}
use Rattle.exports.specs.Exported.{order_number, compared_number}
use Rattle.batches.specs.Batches.{is_less, less_rows, less_batch, taste_of, taste_rows, taste_batch}

-- a truth as a number
pub one-if : (t : Bool) → bool_byte t ≡ pick t 1 0
one-if true = refl
one-if false = refl

pub one-at-most : (t : Bool) → bool_byte t ≤ 1
one-at-most true = omega arith
one-at-most false = omega arith

pub less-is : (o : Order) → is_lt o ≡ is_less o
less-is Less = refl
less-is Equal = refl
less-is Greater = refl

module _ (l : Lent) (c : Column) where
  value-unreached : (r : ℕ) → fits l c ≡ true → r < c.rows → reachable_at l c r ≡ false → Err (refusal.BadView r) ≡ why_value l c r
  unfolding refuse
  value-unreached r f h e = rw (← value-reach l c r f h, e)

  pub less_none : 0 ≡ less_rows l c 0
  unfolding less_rows
  less_none = refl

  pub less-more : (k n y : ℕ) (b : Bool) → n ≡ less_rows l c k → b ≡ eqb (compared_number (compare_rows l c k l c (k + 1))) 0 → y ≡ pick b 1 0
      → n + y ≡ less_rows l c (k + 1)
  unfolding less_rows
  less-more k n y b pn pb py = rw (add-one k, ← pn, ← pb, ← py)

  pub no_rows : c.rows ≡ 0 → 0 ≡ less_rows l c (c.rows - 1)
  no_rows e = let h : c.rows - 1 ≡ 0 = omega arith in rw h less_none

  pub not-counted : fits l c ≡ false → 0 ≡ less_batch l c
  unfolding less_batch
  not-counted h = rw h

  pub counted : (n : ℕ) → fits l c ≡ true → n ≡ less_rows l c (c.rows - 1) → n ≡ less_batch l c
  unfolding less_batch
  counted n h p = rw h p

  pub taste-first : 0 ≡ taste_rows l c 0
  unfolding taste_rows
  taste-first = refl

  pub taste-more : (k s r : ℕ) (x : List ℕ) → s ≡ taste_rows l c k → x ≡ value_at l c k → r ≡ (s + taste_of x) % 2 ^ 64 → r ≡ taste_rows l c (k + 1)
  unfolding taste_rows
  taste-more k s r x es ex er = rw (er, es, ex, add-one k)

  pub not-tasted : fits l c ≡ false → 0 ≡ taste_batch l c
  unfolding taste_batch
  not-tasted h = rw h

  pub tasted : (s : ℕ) → fits l c ≡ true → s ≡ taste_rows l c c.rows → s ≡ taste_batch l c
  unfolding taste_batch
  tasted s h p = rw h p

pub taste-none : (x : List ℕ) → length x ≡ 0 → 0 ≡ taste_of x
unfolding taste_of
taste-none x h = rw (h, get_or-eq_default x 0 {n = 0} (omega arith))

pub taste-is : (x : List ℕ) (b r : ℕ) → b ≡ get_or x 0 0 → r ≡ (length x + b) % 2 ^ 64 → r ≡ taste_of x
unfolding taste_of
taste-is x b r e p = rw (← e) p

-- a value's taste added to a sum, and none where there is no value
pub taste-added : (sum x r : ℕ) (y z : List ℕ) → r ≡ (sum + x) % 2 ^ 64 → x ≡ taste_of y → y ≡ z → r ≡ (sum + taste_of z) % 2 ^ 64
taste-added sum x r y z er ex e = rw (er, ex, e)

pub taste-nothing : (sum : ℕ) (z : List ℕ) → sum < 2 ^ 64 → [] ≡ z → sum ≡ (sum + taste_of z) % 2 ^ 64
taste-nothing sum z h e = rw (← e, ← taste-none [] refl) (omega arith)

-- ---- a refused comparison isn't less

refused-not : (x y : Why) (o : Ordering) → is_accepted x && is_accepted y ≡ false → false ≡ eqb (compared_number (answered (both_of x y) (order_of o))) 0
unfolding both_of
refused-not (Ok _) (Ok _) o h = absurd (true≢false h)
refused-not (Ok _) (Err s) o h = sym (ne_eqb (32 + number_of s) 0 (λ e. omega arith))
refused-not (Err r) (Ok _) o h = sym (ne_eqb (16 + number_of r) 0 (λ e. omega arith))
refused-not (Err r) (Err s) o h = by (leb (number_of r) (number_of s))
  where
    by : (t : Bool) → false ≡ eqb (compared_number (answered (pick t (Err (Left r)) (Err (Right s))) (order_of o))) 0
    by true = sym (ne_eqb (16 + number_of r) 0 (λ e. omega arith))
    by false = sym (ne_eqb (32 + number_of s) 0 (λ e. omega arith))

less-number : (o : Order) → is_less o ≡ eqb (order_number o) 0
less-number Less = refl
less-number Equal = refl
less-number Greater = refl

-- two rows of a column that fits
module _ (l : Lent) (c : Column) (i j : ℕ) (fit : fits l c ≡ true) (row : i < c.rows) (row2 : j < c.rows) where
  pub left-unreached : reachable_at l c i ≡ false → false ≡ eqb (compared_number (compare_rows l c i l c j)) 0
  unfolding compare_rows why_compare
  left-unreached e =
      refused-not (why_value l c i) (why_value l c j) _ (rw (← value-unreached l c i fit row e))

  pub right-unreached : reachable_at l c j ≡ false → false ≡ eqb (compared_number (compare_rows l c i l c j)) 0
  unfolding compare_rows why_compare
  right-unreached e =
      refused-not (why_value l c i) (why_value l c j) _ (sym (and_no (is_accepted (why_value l c i)) (is_accepted (why_value l c j))
      (ap is_accepted (sym (value-unreached l c j fit row2 e)))))

  both-reached : reachable_at l c i ≡ true → reachable_at l c j ≡ true → Ok tt ≡ why_compare l c i l c j
  unfolding why_compare both_of
  both-reached e f = rw (← value-reached l c i fit row e, ← value-reached l c j fit row2 f)

  pub both-less : reachable_at l c i ≡ true → reachable_at l c j ≡ true → (o : Order)
      → ordering o ≡ compare_views (blocks_of l c.blocks) (row_view l c i) (blocks_of l c.blocks) (row_view l c j)
      → is_less o ≡ eqb (compared_number (compare_rows l c i l c j)) 0
  both-less e f o p = less-number o ∙ ap (λ (z : Result Order Side). eqb (compared_number z) 0) (compared_is l c i l c j (Ok tt) (both-reached e f) o refl p)

-- a row and the next one, as the code counts them
module _ (views bytes starts lens nulls : List ℕ) (c : Column) (k : ℕ) where
  abbrev here : Lent
  here = lent views bytes starts lens nulls

  abbrev bs : List (List ℕ)
  bs = blocks_of (bare views bytes starts lens) c.blocks

  after : c.first + (k + 1) ≡ c.first + k + 1
  after = omega arith

  pub next-readable : fits here c ≡ true → k + 1 < c.rows → reachable_at here c (k + 1) ≡ true
      → ViewReadable views bytes starts lens c.blocks (c.first + k + 1)
  next-readable f h r = subst (ViewReadable views bytes starts lens c.blocks) after (readable views bytes starts lens nulls c (k + 1) f h r)

  pub next-order : (o : Order) → ordering o ≡ compare_views bs (view_at views (c.first + k)) bs (view_at views (c.first + k + 1))
      → ordering o ≡ compare_views (blocks_of here c.blocks) (row_view here c k) (blocks_of here c.blocks) (row_view here c (k + 1))
  unfolding blocks_of
  next-order o p = p ∙ ap (λ (r : ℕ). compare_views bs (view_at views (c.first + k)) bs (view_at views r)) (sym after)

-- what the parts tell that are the views
pub by_parts : (bs : List (List ℕ)) (p q v w : List ℕ) (t : Option Order) → told_by t (cmp (shown bs p) (shown bs q)) ≡ compare_views bs p bs q → p ≡ v → q ≡ w
    → told_by t (cmp (shown bs v) (shown bs w)) ≡ compare_views bs v bs w
by_parts bs p q v w t h ep eq = rw (← ep, ← eq) h

-- what stands where a row's value does is the value
module _ (views bytes starts lens nulls : List ℕ) (c : Column) (r : ℕ) where
  abbrev column : Lent
  column = lent views bytes starts lens nulls

  kept : (s : Spot) → bytes_at views bytes s ≡ located_bytes views bytes (answered (why_reach r s) s)
  unfolding why_reach refuse bytes_at located_bytes
  kept (spot.View o n) = refl
  kept (spot.Data o n) = refl
  kept spot.NoBlock = refl
  kept spot.Outside = refl

  pub spot-value : fits column c ≡ true → r < c.rows → (s : Spot) → s ≡ spot_in column c.blocks (row_view column c r) (c.first + r)
      → bytes_at views bytes s ≡ value_at column c r
  spot-value f h s e = kept s ∙ located-bytes views bytes nulls column.table c r (answered (why_reach r s) s) (located-is column c r f h s
      (answered (why_reach r s) s) e refl)
