use Rattle.null_bits.proofs.ByteLaws.{all_valid, all-null}
use borrow.Author.Rules.{rules}
use Rattle.null_bits.proofs.runs.all_bits.Goals as goal

pub returns-then-valid : goal.returns-then-valid
returns-then-valid c = (search rules, λ j h. rw c.if-valid.true (all_valid j h))

pub returns-else-valid : goal.returns-else-valid
returns-else-valid c = (search rules, λ j h. rw c.if-valid.false (all-null j))
