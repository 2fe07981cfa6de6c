-- The check by its places: what a place that holds tells, and the verdict at the first that doesn't. Assumes nothing.
use Rattle.std.specs.Prelude.{◌≡◌, Bool, true, false, List, [], length, Err}
use Rattle.std.proofs.Math.Path.{refl, sym, ap}
use Rattle.std.proofs.Common.{subst, ◌∙◌, true≢false, not-suc-le-zero, arith, lt-ltb, le-ltb}
use Rattle.std.proofs.Math.Bool.{not}
use Rattle.std.proofs.Math.Logic.{by_cases}
use Prim.Native.Nat.{ℕ, zero, suc, ◌+◌, ◌-◌, ◌*◌, ◌≤◌, ◌<◌}
use Rattle.std.proofs.Math.Nat.{add-sub_cancel_left}
use Rattle.std.proofs.Math.Decide.{ℕ_discrete}
use Rattle.std.proofs.Math.ListN.{get_or}
use Rattle.bounds.specs.Refusals.{refuse, refuse-yes, refuse-no, accepted, Why}
use Rattle.bounds.specs.declared.Refusal.TheVariants.{Fit, Range, BadView}
use Rattle.views.specs.View.{view_size, view_at}
use Rattle.column.specs.declared.Block.{Block}
use Rattle.column.specs.declared.Column.{Column}
use Rattle.column.specs.Lent.{Lent, buffers, block, block_at, fits, in_data, data_room, all_in_data}
use Rattle.column.proofs.FitLaws.{and_no}
use Rattle.column.proofs.LowestLaws.{lowest-none, lowest-bad}
use Rattle.column.specs.Spot.{Names}
use Rattle.column.specs.Truth.{is_true, true_at}
use Rattle.validity.specs.Check.{why_invalid}
use Rattle.blocks.specs.Places.{holds_at, Asks, Answers, PlacesCounted, PlaceFound, Stopped}

pub never-by : {A : Type 0} → false ≡ true → A
never-by h = absurd (true≢false (sym h))

module _ (l : Lent) (c : Column) where
  pub holds_row : (k : ℕ) → k < c.rows → holds_at l c k ≡ true_at c.kind l c k
  unfolding holds_at
  holds_row k h = rw (lt-ltb k c.rows h)

  pub holds-block : (k : ℕ) → c.rows ≤ k → holds_at l c k ≡ in_data l (block_at l (k - c.rows))
  unfolding holds_at
  holds-block k h = rw (le-ltb k c.rows h)

  -- block j stands after the rows
  block-place : (j : ℕ) → holds_at l c (c.rows + j) ≡ in_data l (block_at l j)
  block-place j = holds-block (c.rows + j) (omega arith) ∙ ap (λ (i : ℕ). in_data l (block_at l i)) (add-sub_cancel_left c.rows j)

  all_in : (n : ℕ) → ((j : ℕ) → j < n → in_data l (block_at l j) ≡ true) → all_in_data l n ≡ true
  unfolding all_in_data
  all_in zero h = refl
  all_in (suc n) h = rw (all_in n (λ j g. h j (omega arith)), h n (omega arith))

  all-out : (k n : ℕ) → k < n → in_data l (block_at l k) ≡ false → false ≡ all_in_data l n
  unfolding all_in_data
  all-out k zero h i = absurd (not-suc-le-zero h)
  all-out k (suc n) h i =
      by_cases (ℕ_discrete k n)
      (λ e. and_no (all_in_data l n) (in_data l (block_at l n)) (subst (λ (j : ℕ). in_data l (block_at l j) ≡ false) e i))
      (λ d. rw (← all-out k n (omega arith) i))

  -- 9
  abbrev blocked : Why
  blocked = refuse Range (not (all_in_data l c.blocks)) accepted

  pub check-unfit : fits l c ≡ false → Err Fit ≡ why_invalid l c
  unfolding why_invalid
  check-unfit h = refuse-yes Fit (not (fits l c)) _ (Err Fit) (ap not h) refl

  module _ (k : ℕ) (fit : fits l c ≡ true) (s : Stopped l c k) where
    pub check-row : k < c.rows → Err (BadView k) ≡ why_invalid l c
    unfolding why_invalid
    check-row h =
        refuse-no Fit (not (fits l c)) _ (Err (BadView k)) (ap not fit)
        (lowest-bad (true_at c.kind l c) k c.rows blocked h (λ j g. sym (holds_row j (omega arith)) ∙ s.passed j g) (sym (holds_row k h)
        ∙ s.stops (omega arith)))

    rows_true : c.rows ≤ k → (w : Why) → w ≡ blocked → w ≡ why_invalid l c
    unfolding why_invalid
    rows_true h w e =
        refuse-no Fit (not (fits l c)) _ w (ap not fit) (e ∙ lowest-none (true_at c.kind l c) c.rows blocked (λ j g. sym (holds_row j g)
        ∙ s.passed j (omega arith)))

    pub check-block : c.rows ≤ k → k - c.rows < c.blocks → Err Range ≡ why_invalid l c
    check-block h g =
        rows_true h (Err Range) (refuse-yes Range (not (all_in_data l c.blocks)) accepted (Err Range)
        (ap not (sym (all-out (k - c.rows) c.blocks g (sym (holds-block k h) ∙ s.stops (omega arith))))) refl)

    pub check-valid : c.rows ≤ k → c.blocks ≤ k - c.rows → accepted ≡ why_invalid l c
    check-valid h g =
        rows_true h accepted (refuse-no Range (not (all_in_data l c.blocks)) accepted accepted
        (ap not (all_in c.blocks (λ j i. sym (block-place j) ∙ s.passed (c.rows + j) (omega arith)))) refl)

-- ---- the answer on a place, by the record b that it asks for

module _ (views bytes : List ℕ) (table : List Block) (c : Column) (places k p : ℕ) (b : Block) (asks : Asks views c k p) (e : b
    ≡ get_or table p (block 0 0)) (r : Bool) where
  pub past-places : places ≤ k → r ≡ false → Answers views bytes table c places k r
  past-places h f = record { below = λ t. never-by (sym f ∙ t); right = λ nulls room g. absurd (omega arith) }

  pub no-view : k < c.rows → length views < view_size * (c.first + c.rows) → r ≡ false → Answers views bytes table c places k r
  no-view h g f = record { below = λ t. never-by (sym f ∙ t); right = λ nulls room i. absurd (omega arith) }

  pub block-answer : k < places → c.rows ≤ k → r ≡ in_data (buffers [] bytes [] []) (block b.start b.len) → Answers views bytes table c places k r
  unfolding in_data data_room
  block-answer h g f =
      record {
        below = λ t. h;
        right = λ nulls room i. f ∙ ap (in_data (buffers views bytes table nulls)) (e ∙ ap (λ (j : ℕ). get_or table j (block 0 0)) (asks.block g))
            ∙ sym (holds-block (buffers views bytes table nulls) c k g);
      }

  pub row-answer : k < places → k < c.rows → view_size * (c.first + k) + view_size ≤ length views
      → ((ts : List Block) (nulls : List ℕ) → Names ts c.blocks (view_at views (c.first + k)) b → r ≡ is_true (buffers views bytes ts nulls)
      c.kind c.blocks (view_at views (c.first + k)))
      → Answers views bytes table c places k r
  row-answer h g room f =
      record {
        below = λ t. h;
        right = λ nulls _ i. f table nulls (λ long named. e ∙ ap (λ (j : ℕ). get_or table j (block 0 0)) (asks.row g room))
            ∙ sym (holds_row (buffers views bytes table nulls) c k g);
      }

-- ---- from place to place

module _ (views bytes : List ℕ) (table : List Block) (c : Column) (places : ℕ) where
  abbrev pub Passed : ℕ → Type 0
  Passed k = (k ≤ places) × ((nulls : List ℕ) → view_size * (c.first + c.rows) ≤ length views → (j : ℕ) → j < k
      → holds_at (buffers views bytes table nulls) c j ≡ true)

  pub passed_none : Passed 0
  passed_none = (omega arith, λ nulls room j h. absurd (not-suc-le-zero h))

  module _ (k : ℕ) (r : Bool) (before : Passed k) (a : Answers views bytes table c places k r) where
    pub passed-more : r ≡ true → Passed (suc k)
    passed-more t =
        let h = a.below t in
        (h, λ nulls room j g. by_cases (ℕ_discrete j k) (λ e. rw e (sym (a.right nulls room h) ∙ t)) (λ d. before.1 nulls room j (omega arith)))

    pub found : r ≡ false → PlaceFound views bytes table c places k
    found f = record { most = before.0; passed = before.1; stops = λ nulls room h. sym (a.right nulls room h) ∙ f }

pub stopped : (views bytes nulls : List ℕ) (table : List Block) (c : Column) (count places k : ℕ) → PlacesCounted views nulls c count places
    → count ≡ length table → PlaceFound views bytes table c places k
    → fits (buffers views bytes table nulls) c ≡ true → Stopped (buffers views bytes table nulls) c k
stopped views bytes nulls table c count places k counted is f fit =
    let all = counted.all bytes table is fit in
    let most = f.most in
    record {
      passed = λ j h. f.passed nulls (counted.room (omega arith)) j h;
      stops = λ h. f.stops nulls (counted.room (omega arith)) (omega arith);
    }
