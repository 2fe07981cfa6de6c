-- `utf8::more` meets its contract. Assumes nothing.
use mathlib.Core.Path.{sym, ◌∙◌}
use native.Mathlib.Omega.{arith}
use Rattle.utf8.specs.Table.{◌‥◌}
use Rattle.utf8.specs.Text.{past-and}
use Rattle.utf8.proofs.Laws.{too_few, led-more}
use Rattle.utf8.proofs.more.Goals as goal
use Rattle.utf8.proofs.more.Goals.{else-n-s-via-then-n-s+then-goes_on+else-in_range, else-n-s-via-then-n-s+else-goes_on, else-n-s-via-else-n-s}

pub returns-then-in_range : goal.returns-then-in_range
returns-then-in_range c =
    let a = c.args in
    let all = led-more a.n (a.lo ‥ a.hi) a.s.now a.i (omega arith) (omega arith) in
    let rest = sym c.goes_on.ensures ∙ c.if-goes_on.true in
    (rw (rest, sym c.in_range.ensures ∙ c.if-in_range.true) at all, omega arith, omega arith)

pub returns-else-n-s : goal.returns-else-n-s
returns-else-n-s c =
    let a = c.args in
    elim c.else-n-s.branch [
      | else-n-s-via-then-n-s+then-goes_on+else-in_range w ↦
          let all = led-more a.n (a.lo ‥ a.hi) a.s.now a.i (omega arith) (omega arith) in
          sym (rw (sym w.goes_on.ensures ∙ w.if-goes_on.true, sym w.in_range.ensures ∙ w.if-in_range.false) at all)
      | else-n-s-via-then-n-s+else-goes_on w ↦
          let all = led-more a.n (a.lo ‥ a.hi) a.s.now a.i (omega arith) (omega arith) in
          sym (rw (sym w.goes_on.ensures ∙ w.if-goes_on.false, past-and _) at all)
      | else-n-s-via-else-n-s w ↦ sym (too_few a.n (a.lo ‥ a.hi) a.s.now a.i (omega arith) (omega arith) (omega arith))
    ]
