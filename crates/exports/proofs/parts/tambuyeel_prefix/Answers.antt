-- `exports::parts::tambuyeel_prefix` meets its contract. Assumes nothing.
use Rattle.exports.proofs.PartLaws.{prefix-none, prefix-some}
use Rattle.exports.proofs.parts.tambuyeel_prefix.Goals as goal

pub returns-then-p-n : goal.returns-then-p-n
returns-then-p-n c = prefix-none _ _ _ c.tambuyeel_value-p.ensures c.if-p-n.true

pub returns-else-p-n : goal.returns-else-p-n
returns-else-p-n c = prefix-some _ _ _ c.tambuyeel_value-p.ensures c.if-p-n.false
