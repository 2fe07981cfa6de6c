use Rattle.bounds.specs.Bounds.{byte-limit-is}
use borrow.Author.Tests.{le-leb}
use Rattle.finishing.proofs.lawful_size.Goals as goal

pub returns-then-n-ge1 : goal.returns-then-n-ge1
returns-then-n-ge1 c = rw (le-leb _ _ c.if-n-ge1.true, ← byte-limit-is)
