use mathlib.Core.Path.{◌∙◌}
use lib.ListN.{get_or}
use Rattle.listing.specs.Laws.{rest_more, item-length}
use native.Mathlib.Omega.{arith}
use Rattle.listing.proofs.row_part.Goals as goal

pub loop-k-preserved : goal.loop-k-preserved
loop-k-preserved c =
    let k = c.loop-k.k in let v = c.args.x.now in let e = c.put_item-w.ensures.ends in
    let i = item-length k (get_or v k 0) (omega (arith, c.type_inv.x k)) in (
      omega arith,
      c.put_item-w.ensures.same ∙ c.loop-k.invariant.1,
      rest_more v k _ (omega arith)
          c.loop-k.invariant.2 c.put_item-w.ensures,
    )
