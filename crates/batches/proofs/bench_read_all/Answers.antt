-- `batches::bench_read_all` meets its contract. Assumes nothing.
use Rattle.std.proofs.Common.{sym, ◌∙◌, rules}
use borrow.Author.Tests.{not-true, not-false}
use Rattle.batches.proofs.Laws.{not-tasted, tasted}
use Rattle.batches.proofs.bench_read_all.Goals as goal

pub returns-then-not-fits : goal.returns-then-not-fits
returns-then-not-fits c = not-tasted _ _ (rw c.column_of-c.ensures at (sym c.fits.ensures ∙ c.if-not-fits.true))

pub taste_all-requires : goal.taste_all-requires
taste_all-requires c = sym c.fits.ensures ∙ c.if-not-fits.false

pub returns : goal.returns
returns c =
    rw c.column_of-c.ensures at (tasted _ _ _
    (sym c.fits.ensures ∙ c.if-not-fits.false) c.taste_all.ensures)
