-- `views::put_view` meets its contract. Assumes nothing.
use Rattle.views.specs.View.{make_view}
use lib.ListN.{length}
use borrow.Author.Tests.{le-leb, lt-leb}
use native.Mathlib.Omega.{arith}
use Rattle.views.proofs.put_view.Goals as goal

pub returns-then-v-le-SHORT_MOST : goal.returns-then-v-le-SHORT_MOST
unfolding make_view
returns-then-v-le-SHORT_MOST c = rw (le-leb (length c.args.v.now) 12 (omega arith))
    c.short_view.ensures

pub returns-else-v-le-SHORT_MOST : goal.returns-else-v-le-SHORT_MOST
unfolding make_view
returns-else-v-le-SHORT_MOST c = rw (lt-leb (length c.args.v.now) 12 (omega arith))
    c.long_view.ensures
