use Rattle.whole.specs.Answer.{number_is}
use Rattle.whole.specs.RestLaws.{holds-closing}
use mathlib.Core.Path.{ap, ◌∙◌}
use borrow.Author.Rules.{rules}
use Rattle.whole.proofs.closing_piece.Goals as goal

pub returns : goal.returns
returns c =
    holds-closing _ _
    (c.unwrap_or.ensures ∙ ap number_is c.null_run.ensures)
    (c.unwrap_or-2.ensures ∙ ap number_is c.total_bytes_len.ensures)
    (c.unwrap_or-3.ensures ∙ ap number_is c.total_buffer_bytes_used.ensures) c.put_closing.ensures
