-- Each piece, with what is left after it, is what was left. Assumes nothing.
use Rattle.bounds.specs.declared.Refusal.{Refusal}
use Rattle.std.specs.Prelude.{◌≡◌, refl, Bool, true, false, length, Result}
use Rattle.std.proofs.Common.{sym, ◌∙◌, subst, lt-ltb, le-ltb, length-append, length-take, length-drop}
use Rattle.std.proofs.Math.Path.{ap}
use mathlib.Core.List.{List, [], ◌∷◌, ◌++◌, append_assoc, append-nil}
use Prim.Native.Nat.{ℕ, suc, ◌+◌, ◌-◌, ◌≤◌, ◌<◌}
use Rattle.std.proofs.Math.Numerals.{add-one}
use native.Mathlib.Omega.{arith}
use Rattle.std.proofs.Math.ListN.{take, drop, drop_of_length-le, take-append-drop}
use Rattle.std.proofs.Math.Seq.{drop-drop}
use Rattle.basis.specs.Pick.{pick}
use Rattle.codes.specs.declared.Mark.{Mark}
use Rattle.codes.specs.declared.Mark.TheVariants.{Null, Other, Code, Date}
use Rattle.column.specs.declared.Column.{Column}
use Rattle.column.specs.Lent.{Lent}
use Rattle.reading.specs.Reading.{value_at}
use Rattle.marks.specs.declared.Tally.{Tally}
use Rattle.marks.specs.Marking.{mark_at, marks_of}
use Rattle.listing.specs.Text.{refused_line}
use Rattle.listing.specs.Put.{HoldsText}
use Rattle.whole.specs.declared.Place.{Place}
use Rattle.whole.specs.declared.Place.TheVariants.{Refused, Opening, Line, Part, End}
use Rattle.whole.specs.declared.Piece.{Piece}
use Rattle.whole.specs.Rest.{is_end, steps, piece}
use Rattle.marking.specs.Text.{mark_name, mark_line, mark_shown, mark_line_at, mark_lines_at, tally_lines, tally_shown, marked_column}
use Rattle.marking.specs.Left.{marks_from, bytes_from, marks_left, mark_weight, WroteMarks}

-- ---- a text that was put whole

module _ (l : Lent) (c : Column) (all : List ℕ) {out : List ℕ} {n : ℕ} {t : List ℕ} (h : HoldsText out n t) where
  wrote : (q : Place) → t ++ marks_left l c q ≡ all → 1 ≤ length t → WroteMarks l c all out (piece q n)
  wrote q e k =
      record {
        stands = record { text = ap (λ (z : List ℕ). z ++ marks_left l c q) h.text ∙ e; low = h.low; counts = h.counts };
        moves = few (is_end q);
      }
    where
      some : 1 ≤ n
      some = omega (arith, h.counts, ap length h.text)

      few : (t : Bool) → pick t 0 1 ≤ n
      few true = omega arith
      few false = some

  wrote-last : t ≡ all → WroteMarks l c all out (piece End n)
  wrote-last e =
      record { stands = record { text = append-nil (take n out) ∙ (h.text ∙ e); low = h.low; counts = h.counts }; moves = omega arith }

-- ---- the rows

name-some : (m : Mark) → 1 ≤ length (mark_name m)
name-some Null = omega arith
name-some Other = omega arith
name-some Code = omega arith
name-some Date = omega arith

module _ (l : Lent) (c : Column) where
  from_first : marks_from l c 0 ≡ marked_column l c
  unfolding marks_from marked_column
  from_first = let e : c.rows - 0 ≡ c.rows = omega arith in rw e

  from_end : (k : ℕ) → c.rows ≤ k → tally_lines (tally_shown (marks_of l c)) ≡ marks_from l c k
  unfolding marks_from mark_lines_at
  from_end k h = let e : c.rows - k ≡ 0 = omega arith in rw e

  module _ (k : ℕ) (h : k < c.rows) where
    from_row : mark_line_at l c k ++ marks_from l c (suc k) ≡ marks_from l c k
    unfolding marks_from mark_lines_at
    from_row =
        let e : c.rows - k ≡ suc (c.rows - suc k) = omega arith in
        rw e (sym (append_assoc (mark_line_at l c k) (mark_lines_at l c (suc k) (c.rows - suc k)) (tally_lines (tally_shown (marks_of l c)))))

    from-name : mark_name (mark_shown (mark_at l c k)) ++ bytes_from l c k 0 ≡ marks_from l c k
    unfolding bytes_from mark_line
    from-name =
        let m = mark_name (mark_shown (mark_at l c k)) in
        let x = value_at l c k in
        rw (lt-ltb k c.rows h)
        (ap (λ (z : List ℕ). m ++ z) (sym (append_assoc x (10 ∷ []) (marks_from l c (suc k))))
        ∙ (sym (append_assoc m (x ++ 10 ∷ []) (marks_from l c (suc k))) ∙ from_row))

    from-line-end : (at : ℕ) → length (value_at l c k) ≤ at → (10 ∷ []) ++ marks_from l c (k + 1) ≡ bytes_from l c k at
    unfolding bytes_from
    from-line-end at g = rw (lt-ltb k c.rows h, add-one k, drop_of_length-le (value_at l c k) g)

    from_bytes : (x : List ℕ) (at to : ℕ) → x ≡ value_at l c k → at ≤ to → take (to - at) (drop at x) ++ bytes_from l c k to ≡ bytes_from l c k at
    unfolding bytes_from
    from_bytes x at to e g =
        let later : List ℕ = 10 ∷ marks_from l c (suc k) in
        let n : at + (to - at) ≡ to = omega arith in
        let d : drop (to - at) (drop at x) ≡ drop to x = drop-drop (to - at) at x ∙ ap (λ (j : ℕ). drop j x) n in
        let parts : take (to - at) (drop at x) ++ drop to x ≡ drop at x =
        ap (λ (z : List ℕ). take (to - at) (drop at x) ++ z) (sym d) ∙ take-append-drop (to - at) (drop at x) in
        rw (lt-ltb k c.rows h, ← e)
        (sym (append_assoc (take (to - at) (drop at x)) (drop to x) later) ∙ ap (λ (z : List ℕ). z ++ later) parts)

  -- a step comes nearer to the end
  pub mark-weight-less : (p : Place) {out : List ℕ} {r : Piece} → is_end p ≡ false → WroteMarks l c (marks_left l c p) out r
      → mark_weight l c r.place < mark_weight l c p
  mark-weight-less p {out} {r} e w =
      let k : length (take r.written out) + length (marks_left l c r.place) ≡ length (marks_left l c p) =
      sym (length-append (take r.written out) (marks_left l c r.place)) ∙ ap length w.stands.text in
      let s : steps p ≡ 1 = rw e in
      omega (arith, w.moves, w.stands.counts, s, k)

-- ---- each piece as a function writes it

module _ (l : Lent) (c : Column) {out : List ℕ} {n : ℕ} where
  pub wrote-tally : (k : ℕ) {t : Tally} {d : Result Tally Refusal} → c.rows ≤ k → t ≡ tally_shown d → d ≡ marks_of l c → HoldsText out n (tally_lines t)
      → WroteMarks l c (marks_from l c k) out (piece End n)
  wrote-tally k {t} {d} h e f p = wrote-last l c _ p (ap tally_lines (e ∙ ap tally_shown f) ∙ from_end l c k h)

  module _ (k : ℕ) (h : k < c.rows) where
    pub wrote-name : {m : Mark} {d : Result Mark Refusal} → m ≡ mark_shown d → d ≡ mark_at l c k → HoldsText out n (mark_name m)
        → WroteMarks l c (marks_from l c k) out (piece (Part k 0) n)
    wrote-name {m} {d} e f p =
        wrote l c _ p (Part k 0) (ap (λ (z : Mark). mark_name z ++ bytes_from l c k 0) (e ∙ ap mark_shown f) ∙ from-name l c k h) (name-some m)

    pub wrote-line-end : {x : List ℕ} (at : ℕ) → x ≡ value_at l c k → length x ≤ at → HoldsText out n (10 ∷ [])
        → WroteMarks l c (bytes_from l c k at) out (piece (Line (k + 1)) n)
    wrote-line-end {x} at e g p =
        wrote l c _ p (Line (k + 1)) (from-line-end l c k h at (subst (λ (y : List ℕ). length y ≤ at) e g)) (omega arith)

    pub wrote-bytes : {x : List ℕ} (at to : ℕ) → x ≡ value_at l c k → at < to → to ≤ length x → HoldsText out n (take (to - at) (drop at x))
        → WroteMarks l c (bytes_from l c k at) out (piece (Part k to) n)
    wrote-bytes {x} at to e f g p =
        let some : 1 ≤ length (take (to - at) (drop at x)) = simp (length-take, length-drop) (omega arith) in
        wrote l c _ p (Part k to) (from_bytes l c k h x at to e (omega arith)) some

  -- by the place that the writing stands at
  pub left-refused : (p : Place) (m : ℕ) → p ≡ Refused m → HoldsText out n (refused_line m) → WroteMarks l c (marks_left l c p) out (piece End n)
  left-refused p m e h = subst (λ (q : Place). WroteMarks l c (marks_left l c q) out (piece End n)) (sym e) (wrote-last l c _ h refl)

module _ (l : Lent) (c : Column) {out : List ℕ} {r : Piece} where
  pub left-opening : (p : Place) → p ≡ Opening → WroteMarks l c (marks_from l c 0) out r → WroteMarks l c (marks_left l c p) out r
  left-opening p e w =
      subst (λ (q : Place). WroteMarks l c (marks_left l c q) out r) (sym e) (subst (λ (t : List ℕ). WroteMarks l c t out r) (from_first l c) w)

  pub left-row : (p : Place) (k : ℕ) → p ≡ Line k → WroteMarks l c (marks_from l c k) out r → WroteMarks l c (marks_left l c p) out r
  left-row p k e w = subst (λ (q : Place). WroteMarks l c (marks_left l c q) out r) (sym e) w

  pub left-bytes : (p : Place) (k at : ℕ) → p ≡ Part k at → WroteMarks l c (bytes_from l c k at) out r → WroteMarks l c (marks_left l c p) out r
  left-bytes p k at e w = subst (λ (q : Place). WroteMarks l c (marks_left l c q) out r) (sym e) w

-- a place that no answer comes to
pub wrote_nothing : (l : Lent) (c : Column) (k at : ℕ) (out : List ℕ) → c.rows ≤ k → WroteMarks l c (bytes_from l c k at) out (piece End 0)
unfolding bytes_from
wrote_nothing l c k at out h =
    record { stands = record { text = rw (le-ltb k c.rows h); low = omega arith; counts = refl }; moves = omega arith }

pub left_end : (l : Lent) (c : Column) (out : List ℕ) (p : Place) → p ≡ End → WroteMarks l c (marks_left l c p) out (piece End 0)
left_end l c out p e =
    subst (λ (q : Place). WroteMarks l c (marks_left l c q) out (piece End 0)) (sym e)
    (record { stands = record { text = refl; low = omega arith; counts = refl }; moves = omega arith })
