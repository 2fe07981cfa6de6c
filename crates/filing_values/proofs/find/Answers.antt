use Rattle.builder.specs.SearchLaws.{found-off, found-on, seek-end, seek-empty, seek_found, seek-on}
use Rattle.merging.specs.Table.{search_from}
use native.Mathlib.Nat.{mod-lt}
use mathlib.Core.Path.{sym, ◌∙◌}
use Rattle.std.proofs.Math.Nat.{sub-zero, sub-add-eq}
use native.Mathlib.Omega.{arith}
use Rattle.filing_values.proofs.find.Goals as goal

pub returns-then-not-does_merge : goal.returns-then-not-does_merge
returns-then-not-does_merge c = found-off _ _ _ _ _ c.does_merge.ensures (c.if-not-does_merge.true)

pub returns-then-n-eq0 : goal.returns-then-n-eq0
unfolding search_from
returns-then-n-eq0 c = found-on _ _ _ _ _ _ c.does_merge.ensures (c.if-not-does_merge.false) (seek-end _ _ _ _ c.if-n-eq0.true)

pub loop-init : goal.loop-init
unfolding search_from
loop-init c = (mod-lt _ (omega (arith, c.if-n-eq0.false)), rw (← c.hash.ensures, sub-zero))

pub returns-then-e-eq0 : goal.returns-then-e-eq0
returns-then-e-eq0 c = found-on _ _ _ _ _ _ c.does_merge.ensures
    (c.if-not-does_merge.false) (seek-empty _ _ _ _ (omega arith)
    c.if-e-eq0.true ∙ sym c.loop.invariant.1)

pub returns-then-shows_row : goal.returns-then-shows_row
returns-then-shows_row c =
    found-on _ _ _ _ _ _ c.does_merge.ensures (c.if-not-does_merge.false)
    (seek_found _ _ _ _ (omega arith) c.if-e-eq0.false (sym c.shows_row.ensures
    ∙ c.if-shows_row.true) ∙ sym c.loop.invariant.1)

pub loop-preserved : goal.loop-preserved
loop-preserved c = (
  c.next_place-p.ensures.1,
  c.loop.invariant.1
      ∙ rw sub-add-eq (seek-on _ _ _ _ _ c.next_place-p.ensures.0 (omega arith)
      c.if-e-eq0.false (sym c.shows_row.ensures ∙ c.if-shows_row.false)),
)

pub returns : goal.returns
returns c = found-on _ _ _ _ _ _ c.does_merge.ensures
    (c.if-not-does_merge.false) (seek-end _ _ _ _ (omega arith) ∙ sym c.loop.invariant.1)
