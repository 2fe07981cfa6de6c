-- `batches::taste_all` meets its contract. The invariant: the values passed are added up. Assumes nothing.
use Rattle.std.proofs.Common.{◌≡◌, ◌-◌, ◌≤◌, sym, ap, ◌∙◌, arith}
use Rattle.column.proofs.FitLaws.{fits-listed, fits-view}
use Rattle.column.specs.Lent.{lent}
use Rattle.column.proofs.SpotLaws.{found-lies}
use Rattle.batches.specs.Batches.{taste_rows}
use Rattle.batches.proofs.Laws.{taste-first, taste-more, spot-value}
use Rattle.batches.proofs.taste_all.Goals as goal

pub all_in_data-known-requires : goal.all_in_data-known-requires
all_in_data-known-requires c = fits-listed _ _ _ _ _ _ c.requires

pub loop-k-init : goal.loop-k-init
loop-k-init c = taste-first _ _

pub spot_of-s-requires : goal.spot_of-s-requires
spot_of-s-requires c = (
  c.requires,
  omega arith,
  λ e. sym c.all_in_data-known.ensures ∙ e,
)

pub taste_more-sum-requires : goal.taste_more-sum-requires
taste_more-sum-requires c =
    found-lies _ _ _ _ _ _ _ c.spot_of-s.ensures
    (fits-view _ _ _ _ _ _ c.requires (omega arith))

pub loop-k-preserved : goal.loop-k-preserved
loop-k-preserved c =
    taste-more _ _ _ _ _ _ c.loop-k.invariant
    (spot-value _ _ _ _ _ _ _ c.requires (omega arith) _ c.spot_of-s.ensures) c.taste_more-sum.ensures

pub returns : goal.returns
returns c =
    let e : c.loop-k.k ≡ c.args.c.rows = omega arith in
    c.loop-k.invariant ∙ ap (taste_rows _ _) e
