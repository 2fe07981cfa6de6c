-- What is listed at each row is the line that came in. Assumes nothing.
use mathlib.Core.Path.{◌≡◌, refl, sym, ap, ◌∙◌, subst, transport}
use mathlib.Core.Bool.{Bool, true, false, not, true≢false}
use mathlib.Core.List.{List, [], ◌∷◌, ◌++◌, map, append-nil, append_assoc}
use Prim.Native.Nat.{ℕ, suc, ◌+◌, ◌≤◌}
use native.Mathlib.Nat.{zero-add}
use native.Mathlib.Omega.{arith}
use lib.Dec.{eqb}
use Rattle.basis.specs.Pick.{pick}
use Rattle.bounds.specs.Bounds.{row-limit-is, block-limit-is, byte-limit-is}
use Rattle.bounds.specs.Refusals.{refuse, if_accepted, accepted, Why}
use Rattle.column.specs.Lent.{lent, row_room, block_room, data_room}
use Rattle.column.proofs.FitLaws.{length-table}
use Rattle.builder.specs.State.{Builder, rows_room, all_blocks}
use Rattle.builder.specs.Get.{column_of}
use Rattle.builder.specs.Start.{why_start, start_state, start_places, start}
use Rattle.builder.specs.Finish.{why_finish, finished, finish_column}
use Rattle.promise.specs.Calls.{put, Cell, cells_after, rows_after, Ran}
use Rattle.promise.specs.Kept.{Filed, done}
use Rattle.promise.proofs.Fits.{are-fits}
use Rattle.promise.proofs.Steps.{Inv}
use Rattle.promise.proofs.Finishing.{inv-start, shows-finished}
use Rattle.shelf.specs.declared.Line.{Line}
use Rattle.shelf.specs.declared.Line.TheVariants.{Code, Null, Bad}
use Rattle.shelf.specs.Lines.{lines, says, value_of, is_bad_line, first_bad_line}
use Rattle.shelf.specs.Adding.{shelf_settings, added_all, built, shelf_lent, shelf_column}
use Rattle.whole.specs.Answer.{row, row_said, is_code, nulls_in, valid_bytes, block_bytes_in, blocks_used}
use Rattle.whole.specs.Pieces.{ShowsRows, answered}
use Rattle.whole.specs.Sizes.{rooms-hold}
use Rattle.answering.specs.Rows.{call_for, line_cell, call_of, cell_of_line}
use Rattle.answering.specs.Listed.{Enough, GoodInput, LinesListed}
use Rattle.answering.proofs.Numbers.{Numbers}
use Rattle.answering.proofs.Added.{null-empty, Ended, all-added}
use Rattle.answering.proofs.Totals.{row_for, rows-listed, nulls-listed, bytes-listed, long-listed}

-- ---- the row that a good line says is the one that its call makes

row-cell : (t : Line) (x : List ℕ) → is_bad_line t ≡ false → (t ≡ Null → x ≡ []) → row (is_code t) x ≡ row_for (line_cell t x)
row-cell Code x g z = refl
row-cell Null x g z = ap (row false) (z refl)
row-cell Bad x g z = absurd (true≢false g)

rows-cells : (k : ℕ) (ls : List (List ℕ)) → first_bad_line k ls ≡ 0 → map row_said ls ≡ map row_for (map cell_of_line ls)
unfolding first_bad_line
rows-cells k [] g = refl
rows-cells k (l ∷ ls) g = go (is_bad_line (says l)) refl g (rows-cells (suc k) ls)
  where
    go : (t : Bool) → is_bad_line (says l) ≡ t → pick t (suc k) (first_bad_line (suc k) ls) ≡ 0 → (first_bad_line (suc k) ls ≡ 0
        → map row_said ls ≡ map row_for (map cell_of_line ls))
        → map row_said (l ∷ ls) ≡ map row_for (map cell_of_line (l ∷ ls))
    go true e g rest = absurd (omega arith)
    go false e g rest = let a : row_said l ≡ row_for (cell_of_line l) = row-cell (says l) (value_of l) e (null-empty l) in λ i. a i ∷ rest g i

-- ---- the start

started : why_start shelf_settings ≡ accepted
unfolding why_start refuse
started = refl

module _ (vs bs ss ns ms ps : List ℕ) where
  abbrev first : Builder
  first = start shelf_settings (lent vs bs ss ns ms) ps

  module _ (n : Enough vs bs ss ns ms) where
    row_room_lem : 2730 ≤ rows_room first
    unfolding rows_room row_room start
    row_room_lem = omega (arith, n.views, n.nulls, row-limit-is)

    numbers : Numbers 0 first
    unfolding start block_room data_room
    numbers =
        record {
          kind = refl;
          merging = refl;
          blocks = refl;
          base = refl;
          fill = refl;
          fresh = λ z. refl;
          cap = λ h. absurd (omega arith);
          table = omega (arith, n.starts, n.lens, length-table ss ns, block-limit-is);
          bytes = omega (arith, n.bytes, byte-limit-is);
        }

-- ---- what the calls put in the rows

after_call : (t : Line) (x : List ℕ) (b : Builder) (xs : List Cell) → cells_after (call_for t x) b xs ≡ xs ++ line_cell t x ∷ []
after_call Code x b xs = refl
after_call Null x b xs = refl
after_call Bad x b xs = refl

rows-after : (ls : List (List ℕ)) (b : Builder) (xs : List Cell) → rows_after (map call_of ls) b xs ≡ xs ++ map cell_of_line ls
unfolding rows_after
rows-after [] b xs = sym (append-nil xs)
rows-after (l ∷ ls) b xs =
    ap (rows_after (map call_of ls) (put (call_of l) b)) (after_call (says l) (value_of l) b xs)
    ∙ (rows-after ls (put (call_of l) b) (xs ++ cell_of_line l ∷ []) ∙ append_assoc xs (cell_of_line l ∷ []) (map cell_of_line ls))

-- ---- all lines

-- one block where a long value was laid
all_blocks_lem : (b : Builder) (n : ℕ) → Numbers n b → all_blocks b.state ≡ pick (eqb n 0) 0 1
unfolding all_blocks
all_blocks_lem b n a = rw (a.fill, a.blocks) (go (eqb n 0))
  where
    go : (t : Bool) → ◌≡◌ {A = ℕ} (pick (not t) 1 0) (pick t 0 1)
    go true = refl
    go false = refl

module _ (s vs bs ss ns ms ps : List ℕ) (e : Enough vs bs ss ns ms) (g : GoodInput s) where
  abbrev b : Builder
  b = built s vs bs ss ns ms ps

  same : added_all (lines s) (first vs bs ss ns ms ps) ≡ b
  unfolding built start_state start_places start why_start refuse
  same = refl

  abbrev n : ℕ
  n = block_bytes_in (map row_said (lines s))

  ended : Ended (rows_room (first vs bs ss ns ms ps)) (0 + n) (lines s) (first vs bs ss ns ms ps) []
  ended =
      let r = rooms-hold s g.size g.lines in
      all-added (lines s) 0 0 (first vs bs ss ns ms ps) [] g.lines (inv-start shelf_settings (lent vs bs ss ns ms) ps started) (numbers vs bs ss ns ms ps e)
      (omega (arith, r.0, row_room_lem vs bs ss ns ms ps e)) (omega (arith, r.1))

  inv : Inv (rows_room (first vs bs ss ns ms ps)) b (map cell_of_line (lines s))
  inv = subst (λ (z : Builder). Inv (rows_room (first vs bs ss ns ms ps)) z (map cell_of_line (lines s))) same ended.inv

  counts : Numbers n b
  counts = transport (λ j. Numbers (zero-add n j) (same j)) ended.numbers

  ran : Ran (map call_of (lines s)) (first vs bs ss ns ms ps) b
  ran = subst (Ran (map call_of (lines s)) (first vs bs ss ns ms ps)) same ended.ran

  finishes : why_finish b ≡ accepted
  unfolding why_finish refuse
  finishes = rw (are-fits b inv.fits)

  lent_is : (finished b).lent ≡ shelf_lent b
  unfolding shelf_lent
  lent_is = ap (λ (w : Why). (if_accepted w (finished b) b).lent) (sym finishes)

  column-is : column_of b ≡ shelf_column b
  unfolding finish_column
  column-is = rw finishes

  blocks-are : all_blocks b.state ≡ blocks_used (map row_said (lines s))
  unfolding blocks_used
  blocks-are = all_blocks_lem b n counts

  shows : ShowsRows (finished b).lent (column_of b) (map row_said (lines s))
  shows =
      let w = shows-finished b (map cell_of_line (lines s)) inv in
      let rs = sym (rows-cells 0 (lines s) g.lines) in
      record {
        rows = rows-listed (map cell_of_line (lines s)) w ∙ rs;
        nulls = nulls-listed (map cell_of_line (lines s)) w ∙ ap nulls_in rs;
        bytes = bytes-listed (map cell_of_line (lines s)) w ∙ ap valid_bytes rs;
        long = long-listed (map cell_of_line (lines s)) w ∙ ap block_bytes_in rs;
        blocks = blocks-are;
      }

  shown : ShowsRows (shelf_lent b) (shelf_column b) (map row_said (lines s))
  shown = transport (λ j. ShowsRows (lent_is j) (column-is j) (map row_said (lines s))) shows

  pub listed : LinesListed s vs bs ss ns ms ps
  listed =
      record {
        runs = ran;
        filed =
            transport (λ j. Filed (map cell_of_line (lines s)) (lent_is j) (column-is j))
            (done shelf_settings (lent vs bs ss ns ms) ps (map call_of (lines s)) b started ran (rows-after (lines s) (first vs bs ss ns ms ps) []));
        shows = shown;
        answers = answered (shelf_lent b) (shelf_column b) s g.size g.lines shown;
      }
