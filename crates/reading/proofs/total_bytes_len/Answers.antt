-- `reading::total_bytes_len` meets its contract. Assumes nothing.
use mathlib.Core.Path.{sym, ap, ◌∙◌}
use Rattle.bounds.specs.Refusals.{is_accepted, answered-yes}
use Rattle.reading.specs.Reading.{total_bytes_len}
use Rattle.reading.proofs.ReadingLaws.{column-known, handed-no}
use Rattle.reading.specs.TotalLaws.{fits-held, bytes-bare}
use Rattle.reading.proofs.total_bytes_len.Goals as goal

pub sum_valid-requires : goal.sum_valid-requires
sum_valid-requires c = fits-held _ _ _ _ _ _ (column-known _ _ (ap is_accepted (sym c.why_column.ensures ∙ c.in_ok-why_column.was)))

pub returns : goal.returns
unfolding total_bytes_len
returns c = answered-yes _ _ _ (sym c.in_ok-why_column.was ∙ c.why_column.ensures) (c.sum_valid.ensures ∙ bytes-bare _ _ _ _ _ _ _)

pub returns-in_err-why_column : goal.returns-in_err-why_column
unfolding total_bytes_len
returns-in_err-why_column c =
    handed-no _ _ _ _ c.from_residual.ensures.1 (sym c.in_err-why_column.was ∙ c.why_column.ensures)
