-- What compaction keeps of any valid column. Assumes nothing.
use Rattle.std.specs.Prelude.{Ok}
use mathlib.Core.Path.{◌≡◌, refl, sym, ap, ◌∙◌}
use mathlib.Core.Bool.{Bool, true, false, not}
use mathlib.Core.Logic.{by_cases}
use mathlib.Core.List.{List, [], ◌∷◌, ◌++◌, map, append-nil}
use Prim.Native.Nat.{ℕ, zero, suc, ◌+◌, ◌≤◌, ◌<◌}
use native.Mathlib.Decide.{ℕ_discrete}
use native.Mathlib.Nat.{add-zero}
use native.Mathlib.Omega.{arith}
use borrow.Author.Tests.{le-ltb, leb-true, not-false}
use lib.ListN.{length}
use Rattle.basis.specs.Pick.{pick}
use Rattle.bounds.specs.Bounds.{most_compaction}
use Rattle.bounds.specs.Refusals.{refuse, accepted}
use Rattle.bounds.specs.declared.Refusal.TheVariants.{Fit, Range}
use Rattle.views.specs.View.{length_of, is_short}
use Rattle.column.specs.declared.Block.{Block}
use Rattle.column.specs.declared.Column.{Column}
use Rattle.column.specs.Lent.{Lent, block_at, data_room, fits, in_data, all_in_data, table_of}
use Rattle.column.specs.Meaning.{row_view, shown_at}
use Rattle.column.specs.Truth.{true_at}
use Rattle.column.proofs.LowestLaws.{lowest-none}
use Rattle.column.specs.Laid.{rows_of, bits_of}
use Rattle.showing.specs.Rooms.{passed, all-passed, both}
use Rattle.showing.specs.Truths.{AllIn}
use Rattle.showing.specs.Shows.{Shows}
use Rattle.showing.proofs.ShowsLaws.{true-rows}
use Rattle.reading.specs.Reading.{why_fit, buffer_bytes, total_buffer_bytes_used}
use Rattle.validity.specs.Check.{why_invalid}
use Rattle.laying.specs.Rooms.{why_rooms}
use Rattle.laying.specs.Written.{total, starts_from}
use Rattle.laying.specs.WrittenLaws.{total-append, total-one, records}
use Rattle.compaction.specs.Compact.{long_of, long_lens, new_lens, why_compact, compacted, compact_column}
use Rattle.compaction.proofs.LaidLaws.{lens-total}
use Rattle.compaction.proofs.Compacted.{room, compacted-alike, compacted-true}
use Rattle.compaction.proofs.Bound.{compacted-bounded}
use Rattle.promise.specs.Compactions.{Alike, lens_of_first, Compactions}
use Rattle.promise.proofs.Answers.{why-shows, value-shows, bit-shows, compare-shows}
use Rattle.promise.proofs.Finishing.{all-inside}
use Rattle.promise.proofs.Twice.{twice, table-front-is}

-- ---- a valid column shows what its rows show

inside-all : (l : Lent) (n : ℕ) → all_in_data l n ≡ true → AllIn l n
unfolding all_in_data in_data
inside-all l zero e k h = absurd (omega arith)
inside-all l (suc n) e k h =
    let p = both (all_in_data l n) (in_data l (block_at l n)) e in
    by_cases (ℕ_discrete k n) (λ q. rw q (leb-true ((block_at l n).start + (block_at l n).len) (data_room l) p.1)) (λ q. inside-all l n p.0 k (omega arith))

-- what a valid column passed
record Valid (l : Lent) (c : Column) : Type 0 where
  fitted : fits l c ≡ true
  truth : (r : ℕ) → r < c.rows → true_at c.kind l c r ≡ true
  inside : AllIn l c.blocks

valid : (l : Lent) (c : Column) → why_invalid l c ≡ accepted → Valid l c
unfolding why_invalid
valid l c v =
    let f = passed Fit (not (fits l c)) _ v in
    let t = all-passed (true_at c.kind l c) c.rows _ f.1 in
    let i = passed Range (not (all_in_data l c.blocks)) accepted t.1 in
    record { fitted = not-false (fits l c) f.0; truth = t.0; inside = inside-all l c.blocks (not-false (all_in_data l c.blocks) i.0) }

pub valid-shows : (l : Lent) (c : Column) → why_invalid l c ≡ accepted → Shows l c (rows_of (shown_at l c) c.rows) (bits_of l c)
valid-shows l c v =
    let p = valid l c v in
    record { rows = true-rows c.kind l c p.fitted p.truth; bits = refl; fitted = p.fitted; inside = p.inside }

-- ---- columns that show the same answer the same

pub shows_alike : (l : Lent) (c : Column) (m : Lent) (d : Column) {xs : List (List ℕ)} {bs : List Bool} → d.rows ≡ c.rows → Shows l c xs bs
    → Shows m d xs bs → Alike l c m d
shows_alike l c m d e s t =
    record {
      rows = e;
      accepts = λ r h. why-shows t r (omega arith);
      values = λ r h. value-shows t r (omega arith) ∙ sym (value-shows s r h);
      bits = λ r h. bit-shows t r (omega arith) ∙ sym (bit-shows s r h);
      compares = λ n b v i j h k. let w = valid-shows n b v in compare-shows t w i j (omega arith) k ∙ sym (compare-shows s w i j h k);
      compared = λ n b v i j h k. let w = valid-shows n b v in compare-shows w t j i k (omega arith) ∙ sym (compare-shows w s j i k h);
    }

-- ---- the bytes

buffer-total : (l : Lent) (c : Column) (n : ℕ) → buffer_bytes l c n ≡ total (long_lens l c n)
unfolding buffer_bytes long_of total
buffer-total l c zero = refl
buffer-total l c (suc n) = by (is_short (length_of (row_view l c n))) (buffer-total l c n)
  where
    by : (t : Bool) → buffer_bytes l c n ≡ total (long_lens l c n)
        → buffer_bytes l c n + pick t 0 (length_of (row_view l c n)) ≡ total (long_lens l c n ++ pick t [] (length_of (row_view l c n) ∷ []))
    by true e = rw (append-nil (long_lens l c n)) (add-zero (buffer_bytes l c n) ∙ e)
    by false e = rw (e, total-append (long_lens l c n) (length_of (row_view l c n) ∷ []), total-one (length_of (row_view l c n)))

lens-records : (at : ℕ) (ns : List ℕ) → map (λ (b : Block). b.len) (records at ns) ≡ ns
unfolding starts_from table_of
lens-records at [] = refl
lens-records at (n ∷ ns) = ap (λ (r : List ℕ). n ∷ r) (lens-records (at + n) ns)

module _ (most : ℕ) (l : Lent) (c : Column) (out : Lent) where
  judges : why_invalid l c ≡ accepted → most ≤ most_compaction
      → why_compact most l c out ≡ why_rooms c.mapped c.rows (length (new_lens most l c)) (total (long_lens l c c.rows)) out
  unfolding why_compact refuse
  judges v h =
      let p = valid l c v in
      rw (le-ltb most_compaction most h, p.fitted) (sym (lowest-none (true_at c.kind l c) c.rows (why_rooms c.mapped c.rows
      (length (new_lens most l c)) (total (long_lens l c c.rows)) out) p.truth))

  module _ (a : why_compact most l c out ≡ accepted) where
    shows : why_invalid l c ≡ accepted → Alike l c (compacted most l c out) (compact_column most l c)
    shows v = shows_alike l c (compacted most l c out) (compact_column most l c) refl (valid-shows l c v) (compacted-alike most l c out a)

    checks : why_invalid (compacted most l c out) (compact_column most l c) ≡ accepted
    unfolding why_invalid refuse
    checks =
        let s = compacted-alike most l c out a in
        let m : Lent = compacted most l c out in
        let n : ℕ = length (new_lens most l c) in
        rw (
          s.fitted,
          ← lowest-none (true_at c.kind m (compact_column most l c)) c.rows (refuse Range (not (all_in_data m n)) accepted) (compacted-true most l c out a),
          all-inside m n s.inside,
        )

    pub new-lens : lens_of_first (compacted most l c out) (length (new_lens most l c)) ≡ new_lens most l c
    new-lens = ap (map (λ (b : Block). b.len)) (table-front-is most l c out) ∙ lens-records 0 (new_lens most l c)

    used : total_buffer_bytes_used l c ≡ Ok (total (lens_of_first (compacted most l c out) (compact_column most l c).blocks))
    unfolding total_buffer_bytes_used why_fit refuse
    used = rw (room most l c out a).fitted (ap Ok (buffer-total l c c.rows ∙ sym (lens-total most (long_lens l c c.rows))
        ∙ ap total (sym new-lens)))

pub compactions : Compactions
compactions =
    record {
      judges = judges;
      shows = λ most l c out v a. shows most l c out a v;
      checks = checks;
      bounds = compacted-bounded;
      used = used;
      again = λ most l c out out₂ a b. twice most l c out a out₂ b;
    }
