-- `batches::bench_count_less` meets its contract. Assumes nothing.
use Rattle.std.proofs.Common.{sym, ◌∙◌, rules}
use borrow.Author.Tests.{not-true, not-false}
use Rattle.batches.proofs.Laws.{not-counted, counted}
use Rattle.batches.proofs.bench_count_less.Goals as goal

pub returns-then-not-fits : goal.returns-then-not-fits
returns-then-not-fits c = not-counted _ _ (rw c.column_of-c.ensures at (sym c.fits.ensures ∙ c.if-not-fits.true))

pub count_less-requires : goal.count_less-requires
count_less-requires c = sym c.fits.ensures ∙ c.if-not-fits.false

pub returns : goal.returns
returns c =
    rw c.column_of-c.ensures at (counted _ _ _
    (sym c.fits.ensures ∙ c.if-not-fits.false) c.count_less.ensures)
