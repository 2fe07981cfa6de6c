-- `batches::count_less` meets its contract. The invariant: the rows passed are counted, and it is known whether the next one is reachable. Assumes nothing.
use Rattle.std.proofs.Common.{◌≡◌, ◌-◌, ◌≤◌, sym, ◌∙◌, arith, rules}
use Rattle.bounds.specs.Bounds.{row-limit-small}
use Rattle.column.proofs.FitLaws.{fits_gives, fits-listed}
use Rattle.column.specs.Lent.{lent}
use Rattle.column.proofs.SpotLaws.{found-reach}
use Rattle.column.specs.Truth.{reachable_at}
use Rattle.batches.specs.Batches.{less_rows}
use Rattle.batches.proofs.Laws.{less_none, less-more, no_rows, one-if, one-at-most}
use Rattle.batches.proofs.count_less.Goals as goal

pub returns-then-c-eq0 : goal.returns-then-c-eq0
returns-then-c-eq0 c = no_rows _ _ c.if-c-eq0.true

pub all_in_data-known-requires : goal.all_in_data-known-requires
all_in_data-known-requires c = fits-listed _ _ _ _ _ _ c.requires

pub spot_of-requires : goal.spot_of-requires
spot_of-requires c = (c.requires, omega arith, λ e. sym c.all_in_data-known.ensures ∙ e)

pub loop-k-init : goal.loop-k-init
loop-k-init c = (
  omega arith,
  less_none _ _,
  c.is_reached-good.ensures ∙ found-reach _ _ _ _ _ _ _ c.spot_of.ensures,
)

pub spot_of-s-requires : goal.spot_of-s-requires
spot_of-s-requires c = (
  c.requires,
  omega arith,
  λ e. sym c.all_in_data-known.ensures ∙ e,
)

pub is_below-requires : goal.is_below-requires
is_below-requires c = (
  c.requires,
  omega arith,
  c.loop-k.invariant.2,
  c.is_reached-next.ensures ∙ found-reach _ _ _ _ _ _ _ c.spot_of-s.ensures,
)

pub overflow_add-n : goal.overflow_add-n
overflow_add-n c =
    let g = fits_gives _ _ _ _ _ _ c.requires in
    omega (arith, row-limit-small, c.from-n.ensures, one-at-most c.is_below.result)

pub loop-k-preserved : goal.loop-k-preserved
loop-k-preserved c = (
  omega (arith, c.from-n.ensures, one-at-most c.is_below.result),
  less-more _ _ _ _ _ _ c.loop-k.invariant.1 c.is_below.ensures (c.from-n.ensures ∙ one-if c.is_below.result),
  c.is_reached-next.ensures ∙ found-reach _ _ _ _ _ _ _ c.spot_of-s.ensures,
)

pub returns : goal.returns
returns c =
    let e : c.loop-k.k ≡ c.args.c.rows - 1 = omega arith in
    rw (← e) c.loop-k.invariant.1
