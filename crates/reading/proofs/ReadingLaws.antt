-- What an accepted call knows of its column and row, and what a call answers by its verdict. Assumes nothing.
use Rattle.std.specs.Prelude.{◌≡◌, true, false, not, List, [], ℕ, ◌+◌, ◌-◌, ◌≤◌, ◌<◌, leb, ltb, length, take, drop, Err, Result, ⊤}
use Rattle.std.proofs.Math.Path.{refl}
use Rattle.std.proofs.Common.{ap, ap₂, ◌∙◌, add_comm, arith, take_all}
use borrow.Author.Tests.{le-leb, lt-leb, lt-ltb, le-ltb, leb-false, ltb-false, not-false}
use Rattle.std.proofs.Math.ListN.{length-drop}
use Rattle.std.specs.Result.{IsErrAnd}
use Rattle.std.proofs.lemmas.Result.{err_from_is_err_and}
use Rattle.bounds.specs.Refusals.{refuse, is_accepted, accepted-both, accepted-yes, accepted-no, accepted, Why, answered, answered-no}
use Rattle.bounds.specs.declared.Refusal.TheVariants.{Fit, Row, BadView}
use Rattle.column.specs.declared.Column.{Column}
use Rattle.column.specs.Lent.{Lent, fits}
use Rattle.column.specs.Spot.{further}
use Rattle.column.specs.Truth.{reachable_at}
use Rattle.reading.specs.declared.Cursor.{Cursor}
use Rattle.reading.specs.Walk.{cursor, walk_step}
use Rattle.reading.specs.Reading.{why_fit, why_run, why_value, prefix_bytes, suffix_bytes, skip_of}

module _ (l : Lent) (c : Column) where
  -- ---- the tests one by one, and what is known where all let the call pass

  module _ (r : ℕ) where
    pub value-unfit : fits l c ≡ false → Err Fit ≡ why_value l c r
    unfolding why_value refuse
    value-unfit f = rw f

    pub value-past : fits l c ≡ true → c.rows ≤ r → Err Row ≡ why_value l c r
    unfolding why_value refuse
    value-past f h = rw (f, le-leb c.rows r h)

    pub value-reach : fits l c ≡ true → r < c.rows → refuse (BadView r) (not (reachable_at l c r)) accepted ≡ why_value l c r
    unfolding why_value refuse
    value-reach f h = rw (f, lt-leb c.rows r h)

    pub value-reached : fits l c ≡ true → r < c.rows → reachable_at l c r ≡ true → accepted ≡ why_value l c r
    unfolding refuse
    value-reached f h e = rw (← value-reach f h, e)

    pub record Readable : Type 0 where
      pub fit : fits l c ≡ true
      pub row : r < c.rows
      pub reach : reachable_at l c r ≡ true

    pub value-readable : is_accepted (why_value l c r) ≡ true → Readable
    unfolding why_value
    value-readable a =
        let f = accepted-both Fit (not (fits l c)) (refuse Row (leb c.rows r) (refuse (BadView r) (not (reachable_at l c r)) accepted)) a in
        let w = accepted-both Row (leb c.rows r) (refuse (BadView r) (not (reachable_at l c r)) accepted) f.1 in
        let v = accepted-both (BadView r) (not (reachable_at l c r)) accepted w.1 in
        record { fit = not-false (fits l c) f.0; row = leb-false c.rows r w.0; reach = not-false (reachable_at l c r) v.0 }

  module _ (start count : ℕ) where
    pub run-unfit : fits l c ≡ false → Err Fit ≡ why_run l c start count
    unfolding why_run refuse
    run-unfit f = rw f

    pub run_past : fits l c ≡ true → c.rows < start + count → Err Row ≡ why_run l c start count
    unfolding why_run refuse
    run_past f h = rw (f, lt-ltb c.rows (start + count) h)

    pub run-within : fits l c ≡ true → start + count ≤ c.rows → accepted ≡ why_run l c start count
    unfolding why_run refuse
    run-within f h = rw (f, le-ltb c.rows (start + count) h)

    pub record Within : Type 0 where
      pub fit : fits l c ≡ true
      pub rows : start + count ≤ c.rows

    pub run-known : is_accepted (why_run l c start count) ≡ true → Within
    unfolding why_run
    run-known a =
        let f = accepted-both Fit (not (fits l c)) (refuse Row (ltb c.rows (start + count)) accepted) a in
        let w = accepted-both Row (ltb c.rows (start + count)) accepted f.1 in
        record { fit = not-false (fits l c) f.0; rows = ltb-false c.rows (start + count) w.0 }

  pub column-unfit : fits l c ≡ false → Err Fit ≡ why_fit l c
  unfolding why_fit refuse
  column-unfit f = rw f

  pub column-fit : fits l c ≡ true → accepted ≡ why_fit l c
  unfolding why_fit refuse
  column-fit f = rw f

  pub column-known : is_accepted (why_fit l c) ≡ true → fits l c ≡ true
  unfolding why_fit
  column-known a = not-false (fits l c) (accepted-both Fit (not (fits l c)) accepted a).0

-- ---- prefix and suffix of a part

module _ (n : ℕ) (x : List ℕ) where
  pub prefix-no : length x < n → [] ≡ prefix_bytes n x
  unfolding prefix_bytes
  prefix-no h = rw (lt-leb n (length x) h)

  pub prefix-yes : n ≤ length x → take n x ≡ prefix_bytes n x
  unfolding prefix_bytes
  prefix-yes h = rw (le-leb n (length x) h)

  pub suffix-no : length x < n → [] ≡ suffix_bytes n x
  unfolding suffix_bytes
  suffix-no h = rw (lt-leb n (length x) h)

  pub suffix-yes : n ≤ length x → take (length x - (length x - n)) (drop (length x - n) x) ≡ suffix_bytes n x
  unfolding suffix_bytes
  suffix-yes h = rw (le-leb n (length x) h) (take_all (length x - (length x - n)) (drop (length x - n) x) (simp length-drop (omega arith)))

-- where they are, by where the whole is
module _ (p q y : ℕ × ℕ) (e : p ≡ q) where
  pub starts-after : (n k : ℕ) (x : List ℕ) → y ≡ (p.0, k + p.1) → k ≡ skip_of n x → y ≡ further q (skip_of n x)
  starts-after n k x h f = h ∙ ap (λ (j : ℕ). (p.0, j)) (add_comm k p.1) ∙ ap₂ further e f

module _ (n : ℕ) (x : List ℕ) where
  pub skip-none : length x < n → 0 ≡ skip_of n x
  unfolding skip_of
  skip-none h = rw (lt-leb n (length x) h)

  pub skip-some : n ≤ length x → length x - n ≡ skip_of n x
  unfolding skip_of
  skip-some h = rw (le-leb n (length x) h)

-- ---- a step of the walk; w is why it doesn't go on

module _ (l : Lent) (c : Column) (k : Cursor) (w : Why) (e : w ≡ why_value l c k.at) where
  pub step_stays : is_accepted w ≡ false → record { why = w; next = k } ≡ walk_step l c k
  unfolding walk_step
  step_stays a = rw (← accepted-no (why_value l c k.at) w (cursor (k.at + 1)) k k e a refl, ← e)

  pub step-goes : is_accepted w ≡ true → record { why = w; next = cursor (k.at + 1) } ≡ walk_step l c k
  unfolding walk_step
  step-goes a = rw (← accepted-yes (why_value l c k.at) w (cursor (k.at + 1)) k (cursor (k.at + 1)) e a refl, ← e)

-- ---- what a `?` hands on is the refusal that it met

pub handed-on : {A E : Type 0} (y z : Result A E) (e : E) → IsErrAnd y (λ d. d ≡ e) → Err e ≡ z → y ≡ z
handed-on y z e a h = let p = err_from_is_err_and y a in rw (p.1, p.2) h

pub handed-no : {A E : Type 0} (w : Result ⊤ E) (x : A) (y : Result A E) (e : E) → IsErrAnd y (λ d. d ≡ e) → Err e ≡ w → y ≡ answered w x
handed-no w x y e a h = handed-on y (answered w x) e a (answered-no w x e h)
