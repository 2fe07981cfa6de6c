-- `exports::parts::tambuyeel_suffix` meets its contract. Assumes nothing.
use Rattle.std.proofs.Common.{arith}
use Rattle.bounds.specs.Bounds.{byte-limit-small}
use Rattle.exports.proofs.PartLaws.{suffix-none, suffix-some}
use Rattle.exports.proofs.PlaceLaws.{place-ends}
use Rattle.exports.proofs.parts.tambuyeel_suffix.Goals as goal

pub returns-then-p-n : goal.returns-then-p-n
returns-then-p-n c = suffix-none _ _ _ c.tambuyeel_value-p.ensures c.if-p-n.true

pub overflow_add-result : goal.overflow_add-result
overflow_add-result c = let t = place-ends _ _ _ _ _ _ _ c.tambuyeel_value-p.ensures in omega (arith, byte-limit-small)

pub returns : goal.returns
returns c = suffix-some _ _ _ c.tambuyeel_value-p.ensures c.if-p-n.false
