use borrow.Author.Rules.{rules}
use Rattle.whole.proofs.item_value.Goals as goal

pub returns-in-Row : goal.returns-in-Row
returns-in-Row c = rw c.in-Row.is c.value.ensures.0

pub returns-in-Gap : goal.returns-in-Gap
returns-in-Gap c = rw c.in-Gap.is
