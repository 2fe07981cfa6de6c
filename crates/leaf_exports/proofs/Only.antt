-- No second answer to a batch, and no second copy. Assumes nothing.
use Rattle.std.proofs.Common.{sym, ◌∙◌}
use Rattle.basis.specs.Only.{Only}
use Rattle.leaf_exports.proofs.leaf_count_nulls.Kinds as nulls-kinds
use Rattle.leaf_exports.proofs.leaf_count_nulls.Reads as nulls
use Rattle.leaf_exports.proofs.leaf_copy_parts.Kinds as parts-kinds
use Rattle.leaf_exports.proofs.leaf_copy_parts.Reads as parts
use Rattle.leaf_exports.proofs.leaf_count_pairs.Kinds as pairs-kinds
use Rattle.leaf_exports.proofs.leaf_count_pairs.Reads as pairs

pub one-nulls : Only nulls-kinds.ps nulls-kinds.r nulls.Post (λ κs z s. z)
one-nulls κs a z z' s s' p q = p ∙ sym q

pub one-parts : Only parts-kinds.ps parts-kinds.r parts.Post (λ κs z s. s.1.0.now)
one-parts κs a z z' s s' p q = p ∙ sym q

pub one-pairs : Only pairs-kinds.ps pairs-kinds.r pairs.Post (λ κs z s. z)
one-pairs κs a z z' s s' p q = p ∙ sym q
