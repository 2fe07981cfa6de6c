-- A column added: its verdict test by test, its blocks and rows field by field, and the call's contract from what its parts leave. Assumes nothing.
use Rattle.std.specs.Prelude.{◌≡◌, Bool, true, false, not, ltb, eqb, get_or, take, Err}
use Rattle.std.proofs.Math.Path.{refl, sym, ap}
use Rattle.std.proofs.Common.{subst, ◌∙◌, add-zero, add-suc, add_assoc, not-suc-le-zero, add-one, arith, length-append, take_all, length-take-le}
use Rattle.std.proofs.Math.Logic.{by_cases}
use mathlib.Core.List.{List, [], ◌∷◌, ◌++◌, append_assoc}
use Prim.Native.Nat.{ℕ, zero, suc, ◌+◌, ◌-◌, ◌*◌, ◌≤◌, ◌<◌}
use Rattle.std.proofs.Math.Decide.{ℕ_discrete}
use borrow.Author.Tests.{le-leb, lt-leb, lt-ltb, le-ltb, ltb-false, ne_eqb, not-false}
use Rattle.std.proofs.Math.ListN.{length, set, drop, length-set, length-drop}
use Rattle.std.proofs.Math.Seq.{paste, length-paste, take-take, take-append-add, drop-append-add}
use Rattle.std.proofs.lemmas.List.{take-append-le, drop-append-le}
use Rattle.basis.specs.Pick.{pick, part-is}
use Rattle.words.specs.Words.{enc, put_word}
use Rattle.words.specs.ListLaws.{put-enc, length-enc}
use Rattle.bounds.specs.Bounds.{row_limit, block_limit, byte_limit, block-limit-small, byte-limit-small}
use Rattle.bounds.specs.Refusals.{refuse, is_accepted, accepted-both, accepted, Why}
use Rattle.bounds.specs.declared.Refusal.TheVariants.{Fit, RowRoom, Range, BadView}
use Rattle.null_bits.specs.Bits as bits
use Rattle.null_bits.specs.Runs.{put_bits, copy_column}
use Rattle.views.specs.View.{short_most, view_at, length_of, block_of}
use Rattle.column.specs.declared.Block.{Block}
use Rattle.column.specs.declared.Column.{Column}
use Rattle.column.specs.Lent.{Lent, buffers, block, lent, fits, in_data, all_in_data, block_at, block_room, data_room}
use Rattle.column.specs.Room.{bare, Listed}
use Rattle.column.specs.Meaning.{row_view, bytes_of, row_valid}
use Rattle.column.specs.Truth.{true_at, lowest}
use Rattle.column.proofs.FitLaws.{Fitting, table_at, block-in-data, in-data-gives, all-bare, and_left, and_right}
use Rattle.column.proofs.FitLaws as fit-laws
use Rattle.column.proofs.LowestLaws.{lowest-good}
use Rattle.validity.specs.Check.{why_invalid}
use Rattle.builder.specs.declared.State.{State}
use Rattle.builder.specs.State.{Builder, builder, held, moved, all_blocks, used, rows_room, fits_state, closed, complete, recorded, add_row}
use Rattle.builder.specs.Rooms.{room_of_rows, room_of_blocks, room_of_bytes, open_starts, open_lens}
use Rattle.builder.specs.RoomLaws.{Fitted, fits_gives, rows-room-is, blocks-room-is, bytes-room-is, refuse-same, refuse-on, never, is-accepted, room-many}
use Rattle.builder.specs.Others.{lay_block, lay_blocks, why_room, renumbered, add_column, block_bytes, sizes, why_column, put_column}
use Rattle.builder.proofs.PutLaws.{recorded-starts, recorded-lens}
use Rattle.builder.specs.Does.{Does, answer, starts_of, lens_of}
use Rattle.builder.specs.DoesLaws.{does-put}
use Rattle.appending.specs.Laying.{column_more, end_from, put_data, put_starts, put_lens, put_records, put_from, nulled_by, lens_total, by_kind, Taking}
use Rattle.appending.specs.BlockLaws.{starts-put, lens-put, recorded-length, room-has, room-lent}

-- ---- by fields

abbrev pub blocks_on : ℕ → (ℕ → List ℕ) → Builder → Builder
blocks_on n f b =
    let s = b.state in
    let l = b.lent in
    builder (moved s s.growth s.rows (s.blocks + n) (end_from f n s.base) s.fill s.cap s.nulled)
    (buffers l.views (put_data f n l.bytes s.base) (put_records f n l.table s.blocks s.base) l.nulls) b.places

pub lay-blocks : (n : ℕ) (f : ℕ → List ℕ) (b : Builder) → lay_blocks n f b ≡ blocks_on n f b
unfolding lay_blocks lay_block end_from put_data put_records
lay-blocks zero f b =
    let s = b.state in
    ap (λ (k : ℕ). builder (moved s s.growth s.rows k s.base s.fill s.cap s.nulled) b.lent b.places) (sym (add-zero s.blocks))
lay-blocks (suc n) f b = rw (lay-blocks n f b, add-suc b.state.blocks n)

abbrev pub rows_on : ℕ → ℕ → Lent → Column → Builder → Builder
rows_on n before l c b =
    let s = b.state in
    let m = b.lent in
    builder (moved s s.growth (s.rows + n) s.blocks s.base s.fill s.cap (nulled_by (row_valid l c) n s.nulled))
    (buffers (put_from (λ k. renumbered before (row_view l c k)) n m.views s.rows) m.bytes m.table (put_bits m.nulls s.rows
    (row_valid l c) n)) b.places

pub add-column : (n before : ℕ) (l : Lent) (c : Column) (b : Builder) → add_column n before l c b ≡ rows_on n before l c b
unfolding add_column add_row put_from put_bits nulled_by
add-column zero before l c b =
    let s = b.state in
    ap (λ (k : ℕ). builder (moved s s.growth k s.blocks s.base s.fill s.cap s.nulled) b.lent b.places) (sym (add-zero s.rows))
add-column (suc n) before l c b = rw (add-column n before l c b, add-suc b.state.rows n)

-- the flag by a count
pub nulled-is : (m : List ℕ) (mapped : Bool) (first n : ℕ) (b : Bool) → pick (eqb (bits.count_nulls m mapped first n) 0) b true
    ≡ nulled_by (λ k. bits.valid_at m mapped (first + k)) n b
unfolding nulled_by bits.count_nulls
nulled-is m mapped first zero b = refl
nulled-is m mapped first (suc n) b = by (bits.valid_at m mapped (first + n)) (nulled-is m mapped first n b)
  where
    by : (v : Bool) → pick (eqb (bits.count_nulls m mapped first n) 0) b true ≡ nulled_by (λ k. bits.valid_at m mapped (first + k)) n b
        → pick (eqb (bits.count_nulls m mapped first n + bits.null_of v) 0) b true ≡ pick v (nulled_by (λ k. bits.valid_at m mapped (first + k)) n b) true
    by true e = rw (add-zero (bits.count_nulls m mapped first n)) e
    by false e = rw (ne_eqb (bits.count_nulls m mapped first n + 1) 0 (λ z. omega (arith, z)))

-- the records, seen in the table's two slices
module _ (f : ℕ → List ℕ) (t : List Block) (k at : ℕ) where
  records-length : (n : ℕ) → length (put_records f n t k at) ≡ length t
  unfolding put_records
  records-length zero = refl
  records-length (suc n) = length-set (put_records f n t k at) (k + n) (block (end_from f n at) (length (f n))) ∙ records-length n

  pub starts-records : (n : ℕ) (ss : List ℕ) → k + n ≤ length t → put_starts f n (starts_of t ss) k at ≡ starts_of (put_records f n t k at) ss
  unfolding put_records put_starts
  starts-records zero ss h = refl
  starts-records (suc n) ss h =
      ap (λ (l : List ℕ). set l (k + n) (end_from f n at)) (starts-records n ss (omega arith))
      ∙ sym (starts-put (put_records f n t k at) ss (k + n) (end_from f n at) (length (f n)) (rw (records-length n) (omega arith)))

  pub lens-records : (n : ℕ) (ns : List ℕ) → k + n ≤ length t → put_lens f n (lens_of t ns) k ≡ lens_of (put_records f n t k at) ns
  unfolding put_records put_lens
  lens-records zero ns h = refl
  lens-records (suc n) ns h =
      ap (λ (l : List ℕ). set l (k + n) (length (f n))) (lens-records n ns (omega arith))
      ∙ sym (lens-put (put_records f n t k at) ns (k + n) (end_from f n at) (length (f n)) (rw (records-length n) (omega arith)))

-- ---- another table's blocks

module _ (bs ss ns : List ℕ) where
  abbrev src : Lent
  src = bare [] bs ss ns

  pub total-more : (k : ℕ) → lens_total ns k + get_or ns k 0 ≡ lens_total ns (k + 1)
  unfolding lens_total
  total-more k = rw (add-one k)

  pub total-below : (k n : ℕ) → k < n → lens_total ns k + get_or ns k 0 ≤ lens_total ns n
  unfolding lens_total
  total-below k zero h = absurd (not-suc-le-zero h)
  total-below k (suc n) h = by_cases (ℕ_discrete k n) (λ e. rw e (omega arith)) (λ d. let i = total-below k n (omega arith) in omega (arith, i))

  each_in : (n k : ℕ) → all_in_data src n ≡ true → k < n → in_data src (block_at src k) ≡ true
  unfolding all_in_data
  each_in zero k a h = absurd (not-suc-le-zero h)
  each_in (suc n) k a h =
      by_cases (ℕ_discrete k n) (λ e. rw e (and_right (all_in_data src n) (in_data src (block_at src n)) a))
      (λ d. each_in n k (and_left (all_in_data src n) (in_data src (block_at src n)) a) (omega arith))

  module _ (n : ℕ) (li : Listed ss ns n) (a : all_in_data src n ≡ true) (k : ℕ) (h : k < n) where
    in-numbers : (get_or ss k 0 + get_or ns k 0 ≤ byte_limit) × (get_or ss k 0 + get_or ns k 0 ≤ length bs)
    in-numbers =
        in-data-gives (buffers [] bs [] []) (get_or ss k 0) (get_or ns k 0)
        (block-in-data [] bs ss ns [] k (omega (arith, li.starts)) (omega (arith, li.lens)) ∙ each_in n k a h)

    pub block-limit : get_or ns k 0 ≤ byte_limit
    block-limit = omega (arith, in-numbers)

    pub block-end : (get_or ss k 0 + get_or ns k 0 ≤ byte_limit) × (get_or ss k 0 + get_or ns k 0 ≤ length bs)
    block-end = in-numbers

    -- the bytes that the code takes
    pub block-is : take (get_or ss k 0 + get_or ns k 0 - get_or ss k 0) (drop (get_or ss k 0) bs) ≡ block_bytes src k
    block-is =
        part-is bs (get_or ss k 0) (get_or ns k 0) (get_or ss k 0) (get_or ns k 0) refl refl
        ∙ ap (bytes_of bs) (sym (table_at ss ns k (omega (arith, li.starts)) (omega (arith, li.lens))))

    pub block-length : length (block_bytes src k) ≡ get_or ns k 0
    block-length =
        ap (λ (b : Block). length (bytes_of bs b)) (table_at ss ns k (omega (arith, li.starts)) (omega (arith, li.lens)))
        ∙ length-take-le (get_or ns k 0) (drop (get_or ss k 0) bs) (simp length-drop (omega (arith, in-numbers)))

  pub end_is : (n : ℕ) (li : Listed ss ns n) (a : all_in_data src n ≡ true) (k at : ℕ) → k ≤ n → end_from (block_bytes src) k at ≡ at + lens_total ns k
  unfolding end_from lens_total
  end_is n li a zero at h = sym (add-zero at)
  end_is n li a (suc k) at h = rw (end_is n li a k at (omega arith), block-length n li a k h) (add_assoc at (lens_total ns k) (get_or ns k 0))

-- the sizes as the code adds them
pub sizes-is : (vs bs ss ns ms : List ℕ) (n : ℕ) → n ≤ length ss → n ≤ length ns → lens_total ns n ≡ sizes (lent vs bs ss ns ms) n
unfolding sizes lens_total
sizes-is vs bs ss ns ms zero h g = refl
sizes-is vs bs ss ns ms (suc n) h g =
    rw (sizes-is vs bs ss ns ms n (omega arith) (omega arith)) (ap (λ (b : Block). sizes (lent vs bs ss ns ms) n + b.len) (sym (table_at ss ns n h g)))

-- ---- a row's view

apart : (a x w y c : List ℕ) → (a ++ x ++ w) ++ (y ++ c) ≡ a ++ (x ++ (w ++ y)) ++ c
apart [] [] w y c = sym (append_assoc w y c)
apart [] (b ∷ x) w y c = ap (λ (l : List ℕ). b ∷ l) (apart [] x w y c)
apart (b ∷ a) x w y c = ap (λ (l : List ℕ). b ∷ l) (apart a x w y c)

middle : (a v c w : List ℕ) → length v ≡ 16 → take (length a + 8) (a ++ v ++ c) ++ w ++ drop (length a + 12) (a ++ v ++ c)
    ≡ a ++ (take 8 v ++ (w ++ drop 12 v)) ++ c
middle a v c w h =
    let e : length (a ++ v) ≡ length a + 16 = length-append a v ∙ ap (λ (k : ℕ). length a + k) h in
    rw (
      take-append-le (length a + 8) (a ++ v) c (omega (arith, e)),
      take-append-add a v 8,
      drop-append-le (length a + 12) (a ++ v) c (omega (arith, e)),
      drop-append-add a v 12,
    ) (apart a (take 8 v) w (drop 12 v) c)

-- four bytes stored inside sixteen
pub paste-inside : (d s w : List ℕ) (o : ℕ) → o + 16 ≤ length d → 16 ≤ length s → length w ≡ 4
    → paste (paste d o s 16) (o + 8) w 4 ≡ paste d o (take 8 (take 16 s) ++ (w ++ drop 12 (take 16 s))) 16
paste-inside d s w o h g e =
    let v = take 16 s in
    let lv : length v ≡ 16 = length-take-le 16 s g in
    let la : length (take o d) ≡ o = length-take-le o d (omega arith) in
    let l8 : length (take 8 v) ≡ 8 = length-take-le 8 v (omega (arith, lv)) in
    let l12 : length (drop 12 v) ≡ 4 = length-drop 12 v ∙ ap (λ (k : ℕ). k - 12) lv in
    let whole : length (take 8 v ++ (w ++ drop 12 v)) ≡ 16 = length-append (take 8 v) (w ++ drop 12 v)
    ∙ (λ i. l8 i + (length-append w (drop 12 v) ∙ (λ j. e j + l12 j)) i) in
    let p : o + 8 + 4 ≡ o + 12 = omega arith in
    rw (take_all 4 w (omega (arith, e)), take_all 16 (take 8 v ++ (w ++ drop 12 v)) (omega (arith, whole)), p)
    (subst (λ (k : ℕ). take (k + 8) (take o d ++ v ++ drop (o + 16) d) ++ w ++ drop (k + 12) (take o d ++ v ++ drop (o + 16) d)
    ≡ take o d ++ (take 8 v ++ (w ++ drop 12 v)) ++ drop (o + 16) d) la
    (middle (take o d) v (drop (o + 16) d) w lv))

module _ (d s : List ℕ) (to from n : ℕ) where
  pub row-short : length_of (view_at s from) ≤ short_most → paste d (16 * to) (drop (16 * from) s) 16 ≡ paste d (16 * to) (renumbered n (view_at s from)) 16
  unfolding renumbered view_at
  row-short h = rw (le-leb (length_of (view_at s from)) short_most h, take-take 16 16 (drop (16 * from) s) (omega arith))

  pub row-long : (x : ℕ) → 16 * to + 16 ≤ length d → 16 * from + 16 ≤ length s → short_most < length_of (view_at s from) → x ≡ block_of (view_at s from) + n
      → put_word (paste d (16 * to) (drop (16 * from) s) 16) (16 * to + 8) x 4 ≡ paste d (16 * to) (renumbered n (view_at s from)) 16
  unfolding renumbered view_at
  row-long x h g l e =
      let t = drop (16 * from) s in
      let ls : 16 ≤ length t = simp length-drop (omega arith) in
      let lp : length (paste d (16 * to) t 16) ≡ length d = length-paste d (16 * to) t 16 h ls in
      rw (lt-leb (length_of (view_at s from)) short_most l, ← e)
      (put-enc (paste d (16 * to) t 16) (16 * to + 8) x 4 (omega (arith, lp)) ∙ paste-inside d t (enc 4 x) (16 * to) h ls (length-enc 4 x))

pub from_more : (f : ℕ → List ℕ) (vs : List ℕ) (r k : ℕ) → paste (put_from f k vs r) (16 * (r + k)) (f k) 16 ≡ put_from f (k + 1) vs r
unfolding put_from
from_more f vs r k = rw (add-one k)

-- one block more
module _ (f : ℕ → List ℕ) (k : ℕ) where
  pub end_more : (at : ℕ) → end_from f k at + length (f k) ≡ end_from f (k + 1) at
  unfolding end_from
  end_more at = rw (add-one k)

  pub data-more : (bs : List ℕ) (at : ℕ) → paste (put_data f k bs at) (end_from f k at) (f k) (length (f k)) ≡ put_data f (k + 1) bs at
  unfolding put_data
  data-more bs at = rw (add-one k)

  pub starts_more : (ss : List ℕ) (b at : ℕ) → set (put_starts f k ss b at) (b + k) (end_from f k at) ≡ put_starts f (k + 1) ss b at
  unfolding put_starts
  starts_more ss b at = rw (add-one k)

  pub lens-more : (ns : List ℕ) (b : ℕ) → set (put_lens f k ns b) (b + k) (length (f k)) ≡ put_lens f (k + 1) ns b
  unfolding put_lens
  lens-more ns b = rw (add-one k)

-- ---- the verdict

lowest-same : (good : ℕ → Bool) (n : ℕ) (v w : Why) → (is_accepted v ≡ false → v ≡ w) → is_accepted (lowest good n v) ≡ false → lowest good n v ≡ lowest good n w
unfolding lowest
lowest-same good zero v w f h = f h
lowest-same good (suc n) v w f h = lowest-same good n _ _ (refuse-same (BadView n) (not (good n)) v w f) h

lowest-on : (good : ℕ → Bool) (n : ℕ) (v w u : Why) → (is_accepted v ≡ true → w ≡ u) → is_accepted (lowest good n v) ≡ true → lowest good n w ≡ u
unfolding lowest
lowest-on good zero v w u f h = f h
lowest-on good (suc n) v w u f h = lowest-on good n _ _ u (refuse-on (BadView n) (not (good n)) v w u f) h

module _ (b : Builder) (l : Lent) (c : Column) where
  abbrev pub later : Why
  later =
      refuse RowRoom (ltb (rows_room b) (b.state.rows + c.rows))
      (why_room b.state (block_room b.lent) (data_room b.lent) c.blocks (sizes l c.blocks))

  abbrev rest : Why → Why
  rest v = refuse Fit (not (fits l c)) (lowest (true_at b.state.kind l c) c.rows (refuse Range (not (all_in_data l c.blocks)) v))

  -- 2, 11 and 9 of the column alone, judged by the builder's kind
  abbrev pub alone : Why
  alone = why_invalid l (by_kind b.state.kind c)

  alone-is : alone ≡ rest accepted
  unfolding why_invalid fits
  alone-is = refl

  whole_is : fits_state b ≡ true → why_column l c b ≡ rest later
  unfolding why_column refuse
  whole_is fit = rw fit

  pub column-fit : fits_state b ≡ false → Err Fit ≡ why_column l c b
  unfolding why_column refuse
  column-fit h = rw h

  pub column-no : (w : Why) → fits_state b ≡ true → w ≡ alone → is_accepted w ≡ false → w ≡ why_column l c b
  column-no w fit e h =
      let q : is_accepted (rest accepted) ≡ false = ap is_accepted (sym (e ∙ alone-is)) ∙ h in
      e ∙ alone-is
      ∙ refuse-same Fit (not (fits l c)) _ _ (lowest-same (true_at b.state.kind l c) c.rows _ _
      (refuse-same Range (not (all_in_data l c.blocks)) accepted later (never later))) q
      ∙ sym (whole_is fit)

  column-on : fits_state b ≡ true → is_accepted alone ≡ true → why_column l c b ≡ later
  column-on fit a =
      whole_is fit
      ∙ refuse-on Fit (not (fits l c)) _ _ later (lowest-on (true_at b.state.kind l c) c.rows _ _ later
      (refuse-on Range (not (all_in_data l c.blocks)) accepted later later (λ z. refl)))
      (ap is_accepted (sym alone-is) ∙ a)

  pub alone-gives : is_accepted alone ≡ true → (fits l c ≡ true) × (all_in_data l c.blocks ≡ true)
  alone-gives a =
      let q : is_accepted (rest accepted) ≡ true = ap is_accepted (sym alone-is) ∙ a in
      let f = accepted-both Fit (not (fits l c)) _ q in
      let g = lowest-good (true_at b.state.kind l c) c.rows _ f.1 in
      let r = accepted-both Range (not (all_in_data l c.blocks)) accepted g.1 in
      (not-false (fits l c) f.0, not-false (all_in_data l c.blocks) r.0)

  whole-gives : is_accepted (why_column l c b) ≡ true → (fits_state b ≡ true) × (fits l c ≡ true) × (all_in_data l c.blocks ≡ true) × (is_accepted later ≡ true)
  unfolding why_column
  whole-gives a =
      let s = accepted-both Fit (not (fits_state b)) _ a in
      let f = accepted-both Fit (not (fits l c)) _ s.1 in
      let g = lowest-good (true_at b.state.kind l c) c.rows _ f.1 in
      let r = accepted-both Range (not (all_in_data l c.blocks)) later g.1 in
      (not-false (fits_state b) s.0, not-false (fits l c) f.0, not-false (all_in_data l c.blocks) r.0, r.1)

-- over two number slices each
module _ (s : State) (vs bs ss ns ms ps cv cb cs cl cn : List ℕ) (c : Column) where
  abbrev here : Builder
  here = held s vs bs ss ns ms ps

  abbrev from : Lent
  from = lent cv cb cs cl cn

  pub lies : all_in_data from c.blocks ≡ true → all_in_data (bare [] cb cs cl) c.blocks ≡ true
  lies a = sym (all-bare cv cb cs cl cn c.blocks) ∙ a

  module _ (fit : fits_state here ≡ true) (ok : is_accepted (alone here from c) ≡ true) (rows : ℕ) (er : rows ≡ room_of_rows s.merging (length vs)
      (length ms) (length ps)) where
    pub column-full : rows < s.rows + c.rows → Err RowRoom ≡ why_column from c here
    unfolding refuse
    column-full h = sym (column-on here from c fit ok ∙ rw (← er ∙ rows-room-is s vs bs ss ns ms ps, lt-ltb rows (s.rows + c.rows) h))

    pub column-room : (blocks bytes m : ℕ) (w : Why) → s.rows + c.rows ≤ rows → blocks ≡ room_of_blocks (length ss) (length ns)
        → bytes ≡ room_of_bytes (length bs) → m ≡ lens_total cl c.blocks
        → w ≡ why_room s blocks bytes c.blocks m → w ≡ why_column from c here
    unfolding refuse
    column-room blocks bytes m w h eb ed em e =
        let g = fit-laws.fits_gives cv cb cs cl cn c (alone-gives here from c ok).0 in
        let em' : m ≡ sizes from c.blocks = em ∙ sizes-is cv cb cs cl cn c.blocks g.starts g.lens in
        e ∙ sym (column-on here from c fit ok ∙ rw (
          ← er ∙ rows-room-is s vs bs ss ns ms ps,
          le-ltb rows (s.rows + c.rows) h,
          ← eb
              ∙ blocks-room-is s vs bs ss ns ms ps,
          ← ed ∙ bytes-room-is s vs bs ss ns ms ps,
          ← em',
        ))

  -- what an accepted column knows
  pub record Taken : Type 0 where
    pub fit : Fitted s vs bs ss ns ms ps
    pub source : Fitting cv cs cl cn c
    pub lie : all_in_data (bare [] cb cs cl) c.blocks ≡ true
    pub rows : s.rows + c.rows ≤ row_limit
    pub views : 16 * (s.rows + c.rows) ≤ length vs
    pub bits : s.rows + c.rows ≤ 8 * length ms
    pub starts : all_blocks s + c.blocks ≤ length ss
    pub lens : all_blocks s + c.blocks ≤ length ns
    pub limit : all_blocks s + c.blocks ≤ block_limit
    pub inside : used s + lens_total cl c.blocks ≤ length bs
    pub small : used s + lens_total cl c.blocks ≤ byte_limit

  pub taken : is_accepted (why_column from c here) ≡ true → Taken
  taken a =
      let w = whole-gives here from c a in
      let g = fit-laws.fits_gives cv cb cs cl cn c w.1 in
      let m = accepted-both RowRoom (ltb (rows_room here) (s.rows + c.rows)) _ w.3 in
      let many = room-many s vs bs ss ns ms ps c.rows (ltb-false (rows_room here) (s.rows + c.rows) m.0) in
      let h = room-has s (block_room here.lent) (data_room here.lent) c.blocks (sizes from c.blocks) m.1 in
      let r = room-lent s vs bs ss ns ms ps c.blocks (sizes from c.blocks) h.0 h.1 in
      let e = sizes-is cv cb cs cl cn c.blocks g.starts g.lens in
      record {
        fit = fits_gives s vs bs ss ns ms ps w.0;
        source = g;
        lie = lies w.2;
        rows = many.0;
        views = many.1;
        bits = many.2;
        starts = r.0;
        lens = r.1;
        limit = r.2;
        inside = rw e r.3;
        small = rw e r.4;
      }

  pub taking : Taken → (t : State) (bytes starts lens : ℕ) → t ≡ closed s → bytes ≡ length bs → starts ≡ length ss → lens ≡ length ns
      → Taking bytes starts lens t.blocks t.base cb cs cl c.blocks
  unfolding closed
  taking k t bytes starts lens e eb es en =
      let b : t.blocks ≡ all_blocks s = ap (λ (z : State). z.blocks) e in
      let d : t.base ≡ used s = ap (λ (z : State). z.base) e in
      record {
        inside = omega (arith, d, eb, k.inside);
        small = omega (arith, d, k.small, byte-limit-small);
        starts-room = omega (arith, b, es, k.starts);
        lens-room = omega (arith, b, en, k.lens);
        few = omega (arith, b, k.limit, block-limit-small);
        listed = record { starts = k.source.starts; lens = k.source.lens };
        lie = k.lie;
      }

  pub does-column : (w : Why) (t : State) {u : State} {some : Bool} {end : ℕ} {ss₁ ns₁ vs' bs' ss' ns' ms' : List ℕ} → w ≡ why_column from c here
      → is_accepted w ≡ true → t ≡ closed s
      → ss₁ ≡ open_starts s ss → ns₁ ≡ open_lens s ns
      → end ≡ end_from (block_bytes from) c.blocks t.base
      → bs' ≡ put_data (block_bytes from) c.blocks bs t.base
      → ss' ≡ put_starts (block_bytes from) c.blocks ss₁ t.blocks t.base
      → ns' ≡ put_lens (block_bytes from) c.blocks ns₁ t.blocks
      → vs' ≡ put_from (λ k. renumbered t.blocks (view_at cv (c.first + k))) c.rows vs s.rows
      → ms' ≡ copy_column ms s.rows cn c.mapped c.first c.rows
      → some ≡ pick (eqb (bits.count_nulls cn c.mapped c.first c.rows) 0) s.nulled true
      → u ≡ column_more c.rows c.blocks end some t
      → Does (why_column from c) (put_column from c) s vs bs ss ns ms ps (answer accepted u) vs' bs' ss' ns' ms' ps
  unfolding put_column complete closed recorded row_valid
  does-column w t {u} {some} {end} {ss₁} {ns₁} e h et e1 e2 ee eb es en ev em en' eu =
      let j = taken (ap is_accepted (sym e) ∙ h) in
      let f = block_bytes from in
      let m = c.blocks in
      let T = (recorded s (lent vs bs ss ns ms)).table in
      let size = recorded-length s vs bs ss ns ms in
      let k : all_blocks s + m ≤ length T = omega (arith, size, j.starts, j.lens) in
      let base : t.base ≡ used s = ap (λ (z : State). z.base) et in
      let blocks : t.blocks ≡ all_blocks s = ap (λ (z : State). z.blocks) et in
      let flag : some ≡ nulled_by (λ q. bits.valid_at cn c.mapped (c.first + q)) c.rows s.nulled = en' ∙ nulled-is cn c.mapped c.first
      c.rows s.nulled in
      let o1 : ss₁ ≡ starts_of T ss = e1 ∙ recorded-starts s vs bs ss ns ms j.fit.starts j.fit.lens in
      let o2 : ns₁ ≡ lens_of T ns = e2 ∙ recorded-lens s vs bs ss ns ms j.fit.starts j.fit.lens in
      does-put (why_column from c) (put_column from c) s vs bs ss ns ms ps (rows_on c.rows (all_blocks s) from c (blocks_on m f (complete here)))
      (is-accepted w (why_column from c here) e h)
      (sym (add-column c.rows (all_blocks s) from c (lay_blocks m f (complete here)) ∙ ap (rows_on c.rows (all_blocks s) from c)
      (lay-blocks m f (complete here))))
      (eu ∙ (λ i. column_more c.rows m ((ee ∙ ap (end_from f m) base) i) (flag i) (et i)))
      (ev ∙ ap (λ (z : ℕ). put_from (λ q. renumbered z (view_at cv (c.first + q))) c.rows vs s.rows) blocks)
      (eb ∙ ap (put_data f m bs) base)
      (es ∙ (λ i. put_starts f m (o1 i) (blocks i) (base i)) ∙ starts-records f T (all_blocks s) (used s) m ss k)
      (en ∙ (λ i. put_lens f m (o2 i) (blocks i)) ∙ lens-records f T (all_blocks s) (used s) m ns k)
      em refl
