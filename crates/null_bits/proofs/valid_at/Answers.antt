use Rattle.null_bits.specs.Bits.{valid_at}
use Rattle.null_bits.proofs.valid_at.Goals as goal

pub returns-then-not-mapped : goal.returns-then-not-mapped
unfolding valid_at
returns-then-not-mapped c = rw c.if-not-mapped.true

pub returns-else-not-mapped : goal.returns-else-not-mapped
unfolding valid_at
returns-else-not-mapped c = rw c.if-not-mapped.false c.is_valid.ensures
