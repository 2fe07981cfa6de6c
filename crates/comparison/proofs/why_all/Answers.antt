-- `comparison::why_all` meets its contract. Assumes nothing.
use mathlib.Core.Bool.{not}
use mathlib.Core.Path.{sym, ap, ◌∙◌}
use Rattle.comparison.proofs.SameLaws.{all-unfit, all-judged, judged-bare, rows-in-room}
use Rattle.comparison.proofs.why_all.Goals as goal

pub returns-then-not-fits : goal.returns-then-not-fits
returns-then-not-fits c = all-unfit _ _ (ap not (sym c.fits.ensures ∙ c.if-not-fits.true))

pub judge_rows-requires : goal.judge_rows-requires
judge_rows-requires c = rows-in-room _ _ _ _ _ _ (sym c.fits.ensures ∙ c.if-not-fits.false)

pub returns : goal.returns
returns c = all-judged _ _ _ (ap not (sym c.fits.ensures ∙ c.if-not-fits.false)) (c.judge_rows.ensures
    ∙ judged-bare _ _ _ _ _ c.args.c _ _)
