-- What is listed at each row is the line that came in: the statement. Assumes nothing.
use Rattle.std.specs.Prelude.{◌≡◌, List, map, ℕ, ◌≤◌, length}
use Rattle.promise.specs.Calls.{Ran}
use Rattle.promise.specs.Kept.{Filed}
use Rattle.builder.specs.Start.{start}
use Rattle.column.specs.Lent.{lent}
use Rattle.shelf.specs.Lines.{lines, first_bad_line}
use Rattle.shelf.specs.Adding.{shelf_settings, built, shelf_lent, shelf_column}
use Rattle.whole.specs.Answer.{row_said, shelf_answer, listed_column, input_most}
use Rattle.whole.specs.Pieces.{ShowsRows}
use Rattle.answering.specs.Rows.{call_of, cell_of_line}

-- buffers of any content that are long enough for whatever 16,384 bytes of input ask for
pub record Enough (vs bs ss ns ms : List ℕ) : Type 0 where
  pub views : 43680 ≤ length vs
  pub bytes : 16379 ≤ length bs
  pub starts : 1 ≤ length ss
  pub lens : 1 ≤ length ns
  pub nulls : 342 ≤ length ms

-- an input that is accepted: neither too long, nor with a bad line
pub record GoodInput (s : List ℕ) : Type 0 where
  pub size : length s ≤ input_most
  pub lines : first_bad_line 0 (lines s) ≡ 0

pub record LinesListed (s vs bs ss ns ms ps : List ℕ) : Type 0 where
  -- no append is refused, so that nothing is lost by a call that drops its verdict
  pub runs : Ran (map call_of (lines s)) (start shelf_settings (lent vs bs ss ns ms) ps) (built s vs bs ss ns ms ps)
  -- the column is one of those of which the third promise speaks
  pub filed : Filed (map cell_of_line (lines s)) (shelf_lent (built s vs bs ss ns ms ps)) (shelf_column (built s vs bs ss ns ms ps))
  -- its rows and its five numbers are those of the lines
  pub shows : ShowsRows (shelf_lent (built s vs bs ss ns ms ps)) (shelf_column (built s vs bs ss ns ms ps)) (map row_said (lines s))
  -- and what is listed of it is the answer
  pub answers : listed_column (shelf_lent (built s vs bs ss ns ms ps)) (shelf_column (built s vs bs ss ns ms ps)) ≡ shelf_answer s
