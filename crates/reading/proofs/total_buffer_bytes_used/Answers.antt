-- `reading::total_buffer_bytes_used` meets its contract. Assumes nothing.
use mathlib.Core.Path.{sym, ap, ◌∙◌}
use Rattle.bounds.specs.Refusals.{is_accepted, answered-yes}
use Rattle.reading.specs.Reading.{total_buffer_bytes_used}
use Rattle.reading.proofs.ReadingLaws.{column-known, handed-no}
use Rattle.reading.specs.TotalLaws.{fits-views, buffer-bare}
use Rattle.reading.proofs.total_buffer_bytes_used.Goals as goal

pub sum_long-requires : goal.sum_long-requires
sum_long-requires c = fits-views _ _ _ _ _ _ (column-known _ _ (ap is_accepted (sym c.why_column.ensures ∙ c.in_ok-why_column.was)))

pub returns : goal.returns
unfolding total_buffer_bytes_used
returns c = answered-yes _ _ _ (sym c.in_ok-why_column.was ∙ c.why_column.ensures) (c.sum_long.ensures ∙ buffer-bare _ _ _ _ _ _ _)

pub returns-in_err-why_column : goal.returns-in_err-why_column
unfolding total_buffer_bytes_used
returns-in_err-why_column c =
    handed-no _ _ _ _ c.from_residual.ensures.1 (sym c.in_err-why_column.was ∙ c.why_column.ensures)
