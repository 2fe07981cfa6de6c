-- Each piece, with what is left after it, is what was left. Assumes nothing.
use Rattle.bounds.specs.declared.Refusal.{Refusal}
use Rattle.std.specs.Prelude.{◌≡◌, refl, Bool, true, false, leb, take, get_or, Result}
use Rattle.std.proofs.Common.{sym, ap, ◌∙◌, add-zero, leb-true, lt-ltb, le-ltb, length-append}
use Rattle.std.proofs.Math.Path.{subst, transport}
use mathlib.Core.List.{List, [], ◌∷◌, ◌++◌, append_assoc, append-nil}
use Prim.Native.Nat.{ℕ, zero, suc, ◌+◌, ◌-◌, ◌≤◌, ◌<◌}
use Rattle.std.proofs.Math.Numerals.{add-one}
use native.Mathlib.Omega.{arith}
use Rattle.std.proofs.Math.ListN.{length}
use Rattle.basis.specs.Pick.{pick}
use Rattle.column.specs.declared.Column.{Column}
use Rattle.column.specs.Lent.{Lent}
use Rattle.reading.specs.Reading.{bit_of, value_at, null_run, total_bytes_len, total_buffer_bytes_used}
use Rattle.listing.specs.Text.{closing, digits, decimal, bytes_text, text_from, item_text, row_open, row_close, row_null, row_line, gap_line, opening, refused_line}
use Rattle.listing.specs.Put.{HoldsText, Rest}
use Rattle.listing.specs.Laws.{text-more, text-end}
use Rattle.shelf.specs.declared.Item.{Item}
use Rattle.shelf.specs.declared.Item.TheVariants as item
use Rattle.shelf.specs.Items.{item_count, item_at}
use Rattle.whole.specs.declared.Place.{Place}
use Rattle.whole.specs.declared.Place.TheVariants.{Refused, Opening, Line, Part, End}
use Rattle.whole.specs.declared.Piece.{Piece}
use Rattle.whole.specs.Answer.{ShelfRow, bit_valid, shelf_rows, number_is, closing_of, listed_column}
use Rattle.whole.specs.Pieces.{item_line, item_lines, length-rows, row_at, column-whole}
use Rattle.whole.specs.Rest.{lines_from, item_value, parts_from, rest_of, is_end, steps, weight, piece, WrotePiece}

-- ---- a text that was put whole

module _ (l : Lent) (c : Column) (all : List ℕ) {out : List ℕ} {n : ℕ} {t : List ℕ} (h : HoldsText out n t) where
  pub wrote : (q : Place) → t ++ rest_of l c q ≡ all → 1 ≤ length t → WrotePiece l c all out (piece q n)
  wrote q e k =
      record { text = ap (λ (z : List ℕ). z ++ rest_of l c q) h.text ∙ e; low = h.low; counts = h.counts; moves = few (is_end q) }
    where
      some : 1 ≤ n
      some = omega (arith, h.counts, ap length h.text)

      few : (t : Bool) → pick t 0 1 ≤ n
      few true = omega arith
      few false = some

  pub wrote-last : t ≡ all → WrotePiece l c all out (piece End n)
  wrote-last e = record { text = append-nil (take n out) ∙ (h.text ∙ e); low = h.low; counts = h.counts; moves = omega arith }

-- ---- a value's text

item-some : (k b : ℕ) → 1 ≤ length (item_text k b)
unfolding item_text decimal digits
item-some zero b = simp length-append (omega arith)
item-some (suc k) b = omega arith

text-step : (x : List ℕ) (k : ℕ) → k < length x → length (text_from x (k + 1)) < length (text_from x k)
text-step x k h =
    let e = ap length (text-more x k h) ∙ length-append (item_text k (get_or x k 0)) (text_from x (k + 1)) in
    omega (arith, e, item-some k (get_or x k 0))

text-later : (x : List ℕ) (k j : ℕ) → k + j < length x → length (text_from x (k + j + 1)) < length (text_from x k)
text-later x k zero h = rw (add-zero k) (text-step x k (omega arith))
text-later x k (suc j) h =
    let e : k + suc j ≡ k + j + 1 = omega arith in
    let a : length (text_from x (k + j + 1 + 1)) < length (text_from x (k + j + 1)) = text-step x (k + j + 1) (omega arith) in
    rw e (omega (arith, a, text-later x k j (omega arith)))

text-less : (x : List ℕ) (k n : ℕ) → k < n → n ≤ length x → length (text_from x n) < length (text_from x k)
text-less x k n h g = let e : k + (n - k - 1) + 1 ≡ n = omega arith in rw e at (text-later x k (n - k - 1) (omega arith))

text-none : (x : List ℕ) (k : ℕ) → length x ≤ k → text_from x k ≡ []
unfolding text_from bytes_text
text-none [] zero h = refl
text-none (b ∷ x) zero h = absurd (omega arith)
text-none x (suc k) h = text-end x (suc k) (omega arith) h

-- ---- the lines

module _ (l : Lent) (c : Column) where
  pub rest-opening : opening ++ lines_from l c 0 ≡ listed_column l c
  unfolding lines_from
  rest-opening = let e : item_count c.rows - 0 ≡ item_count c.rows = omega arith in rw e (column-whole l c)

  pub rest-closing : (k : ℕ) → item_count c.rows ≤ k → closing_of l c ≡ lines_from l c k
  unfolding lines_from item_lines
  rest-closing k h = let e : item_count c.rows - k ≡ 0 = omega arith in rw e

  module _ (k : ℕ) (h : k < item_count c.rows) where
    line-next : item_line (shelf_rows l c) (item_at c.rows k) ++ lines_from l c (suc k) ≡ lines_from l c k
    unfolding lines_from item_lines
    line-next =
        let e : item_count c.rows - k ≡ suc (item_count c.rows - suc k) = omega arith in
        rw (e, length-rows l c) (sym (append_assoc (item_line (shelf_rows l c) (item_at c.rows k)) (item_lines (shelf_rows l c) (suc k)
        (item_count c.rows - suc k)) (closing_of l c)))

    pub rest-gap : (n : ℕ) → item.Gap n ≡ item_at c.rows k → gap_line n ++ lines_from l c (k + 1) ≡ lines_from l c k
    rest-gap n e = rw (add-one k) (ap (λ (z : Item). item_line (shelf_rows l c) z ++ lines_from l c (suc k)) e ∙ line-next)

    row_next : (r : ℕ) → item.Row r ≡ item_at c.rows k → row_line (bit_valid (bit_of l c r)) (value_at l c r) ++ lines_from l c (suc k) ≡ lines_from l c k
    row_next r e =
        ap (λ (z : ShelfRow). row_line z.valid z.value ++ lines_from l c (suc k)) (sym (row_at l c r))
        ∙ (ap (λ (z : Item). item_line (shelf_rows l c) z ++ lines_from l c (suc k)) e ∙ line-next)

    pub rest-null : (r : ℕ) → item.Row r ≡ item_at c.rows k → bit_valid (bit_of l c r) ≡ false → row_null ++ lines_from l c (k + 1) ≡ lines_from l c k
    unfolding row_line
    rest-null r e b = rw (add-one k) (ap (λ (t : Bool). row_line t (value_at l c r) ++ lines_from l c (suc k)) (sym b) ∙ row_next r e)

    pub rest-open : (r : ℕ) → item.Row r ≡ item_at c.rows k → bit_valid (bit_of l c r) ≡ true → row_open ++ parts_from l c k 0 ≡ lines_from l c k
    unfolding row_line parts_from text_from
    rest-open r e b =
        let x = value_at l c r in
        rw (lt-ltb k (item_count c.rows) h, ← e)
        (ap (λ (z : List ℕ). row_open ++ z) (sym (append_assoc (bytes_text x) row_close (lines_from l c (suc k))))
        ∙ (sym (append_assoc row_open (bytes_text x ++ row_close) (lines_from l c (suc k)))
        ∙ (ap (λ (t : Bool). row_line t x ++ lines_from l c (suc k)) (sym b) ∙ row_next r e)))

    -- a value's text is over
    pub rest-close : (at : ℕ) → length (item_value l c (item_at c.rows k)) ≤ at → row_close ++ lines_from l c (k + 1) ≡ parts_from l c k at
    unfolding parts_from
    rest-close at g = rw (lt-ltb k (item_count c.rows) h, add-one k, text-none (item_value l c (item_at c.rows k)) at g)

    -- or a part of it is written
    pub wrote-part : (x : List ℕ) (at to : ℕ) {out : List ℕ} {n : ℕ} → x ≡ item_value l c (item_at c.rows k) → at < to → to ≤ length x
        → Rest out n (text_from x to) (text_from x at)
        → WrotePiece l c (parts_from l c k at) out (piece (Part k to) n)
    unfolding parts_from
    wrote-part x at to {out} {n} e f g p =
        record {
          text = rw (lt-ltb k (item_count c.rows) h, ← e) text;
          low = p.low;
          counts = p.counts;
          moves = omega
              (arith, p.counts, some, text-less x at to f g);
        }
      where
        later : List ℕ
        later = row_close ++ lines_from l c (suc k)

        text : take n out ++ (text_from x to ++ later) ≡ text_from x at ++ later
        text = sym (append_assoc (take n out) (text_from x to) later) ∙ ap (λ (z : List ℕ). z ++ later) p.text

        some : length (take n out) + length (text_from x to) ≡ length (text_from x at)
        some = sym (length-append (take n out) (text_from x to)) ∙ ap length p.text

  -- a place that no listing comes to
  pub wrote_none : (k at : ℕ) (out : List ℕ) → item_count c.rows ≤ k → WrotePiece l c (parts_from l c k at) out (piece End 0)
  unfolding parts_from
  wrote_none k at out h = record { text = rw (le-ltb k (item_count c.rows) h); low = omega arith; counts = refl; moves = omega arith }

  pub wrote-end : (out : List ℕ) → WrotePiece l c [] out (piece End 0)
  wrote-end out = record { text = refl; low = omega arith; counts = refl; moves = omega arith }

  -- a step comes nearer to the end
  pub weight-less : (p : Place) {out : List ℕ} {r : Piece} → is_end p ≡ false → WrotePiece l c (rest_of l c p) out r → weight l c r.place < weight l c p
  weight-less p {out} {r} e w =
      let k : length (take r.written out) + length (rest_of l c r.place) ≡ length (rest_of l c p) =
      sym (length-append (take r.written out) (rest_of l c r.place)) ∙ ap length w.text in
      let s : steps p ≡ 1 = rw e in
      omega (arith, w.moves, w.counts, s, k)

-- ---- each piece as a function writes it

pub count_most : (rows : ℕ) → item_count rows ≤ 21
unfolding item_count
count_most rows = go (leb rows 20) refl
  where
    go : (t : Bool) → leb rows 20 ≡ t → pick t rows 21 ≤ 21
    go true e = omega (arith, leb-true rows 20 e)
    go false e = omega arith

module _ (l : Lent) (c : Column) {out : List ℕ} {n : ℕ} where
  pub holds-closing : {a b d : ℕ} → a ≡ number_is (null_run l c 0 c.rows) → b ≡ number_is (total_bytes_len l c) → d ≡ number_is (total_buffer_bytes_used l c)
      → HoldsText out n (closing c.rows a b d c.blocks) → HoldsText out n (closing_of l c)
  holds-closing p q r h = transport (λ i. HoldsText out n (closing c.rows (p i) (q i) (r i) c.blocks)) h

  pub wrote-closing : (k : ℕ) → item_count c.rows ≤ k → HoldsText out n (closing_of l c) → WrotePiece l c (lines_from l c k) out (piece End n)
  wrote-closing k h p = wrote-last l c _ p (rest-closing l c k h)

  module _ (k : ℕ) (h : k < item_count c.rows) where
    pub wrote-gap : (m : ℕ) → item.Gap m ≡ item_at c.rows k → HoldsText out n (gap_line m) → WrotePiece l c (lines_from l c k) out (piece (Line (k + 1)) n)
    unfolding gap_line
    wrote-gap m e p = wrote l c _ p (Line (k + 1)) (rest-gap l c k h m e) (omega arith)

    pub wrote-open : (r : ℕ) {b : Result Bool Refusal} → item.Row r ≡ item_at c.rows k → b ≡ bit_of l c r → bit_valid b ≡ true → HoldsText out n row_open
        → WrotePiece l c (lines_from l c k) out (piece (Part k 0) n)
    unfolding row_open
    wrote-open r e f g p = wrote l c _ p (Part k 0) (rest-open l c k h r e (ap bit_valid (sym f) ∙ g)) (omega arith)

    pub wrote-null : (r : ℕ) {b : Result Bool Refusal} → item.Row r ≡ item_at c.rows k → b ≡ bit_of l c r → bit_valid b ≡ false → HoldsText out n row_null
        → WrotePiece l c (lines_from l c k) out (piece (Line (k + 1)) n)
    unfolding row_null
    wrote-null r e f g p = wrote l c _ p (Line (k + 1)) (rest-null l c k h r e (ap bit_valid (sym f) ∙ g)) (omega arith)

    pub wrote-close : (x : List ℕ) (at : ℕ) → x ≡ item_value l c (item_at c.rows k) → length x ≤ at → HoldsText out n row_close
        → WrotePiece l c (parts_from l c k at) out (piece (Line (k + 1)) n)
    unfolding row_close
    wrote-close x at e g p = wrote l c _ p (Line (k + 1)) (rest-close l c k h at (subst (λ (y : List ℕ). length y ≤ at) e g)) (omega arith)

  -- by the place that the writing stands at
  pub at-refused : (p : Place) (m : ℕ) → p ≡ Refused m → HoldsText out n (refused_line m) → WrotePiece l c (rest_of l c p) out (piece End n)
  at-refused p m e h = subst (λ (q : Place). WrotePiece l c (rest_of l c q) out (piece End n)) (sym e) (wrote-last l c _ h refl)

  pub at-opening : (p : Place) → p ≡ Opening → HoldsText out n opening → WrotePiece l c (rest_of l c p) out (piece (Line 0) n)
  unfolding opening
  at-opening p e h = subst (λ (q : Place). WrotePiece l c (rest_of l c q) out (piece (Line 0) n)) (sym e) (wrote l c _ h (Line 0) (rest-opening l c)
      (omega arith))

module _ (l : Lent) (c : Column) {out : List ℕ} {r : Piece} where
  pub at-line : (p : Place) (k : ℕ) → p ≡ Line k → WrotePiece l c (lines_from l c k) out r → WrotePiece l c (rest_of l c p) out r
  at-line p k e w = subst (λ (q : Place). WrotePiece l c (rest_of l c q) out r) (sym e) w

  pub at_part : (p : Place) (k at : ℕ) → p ≡ Part k at → WrotePiece l c (parts_from l c k at) out r → WrotePiece l c (rest_of l c p) out r
  at_part p k at e w = subst (λ (q : Place). WrotePiece l c (rest_of l c q) out r) (sym e) w

pub at-end : (l : Lent) (c : Column) (out : List ℕ) (p : Place) → p ≡ End → WrotePiece l c (rest_of l c p) out (piece End 0)
at-end l c out p e = subst (λ (q : Place). WrotePiece l c (rest_of l c q) out (piece End 0)) (sym e) (wrote-end l c out)
