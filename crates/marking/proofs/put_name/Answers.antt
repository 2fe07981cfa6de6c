use Rattle.listing.specs.Laws.{put_holds}
use native.Mathlib.Omega.{arith}
use borrow.Author.Rules.{rules}
use Rattle.marking.proofs.put_name.Goals as goal

pub returns-in-Null : goal.returns-in-Null
returns-in-Null c = rw c.in-Null.is (put_holds c.put_bytes.ensures (omega arith))

pub returns-in-Other : goal.returns-in-Other
returns-in-Other c = rw c.in-Other.is (put_holds c.put_bytes-in-Other.ensures (omega arith))

pub returns-in-Code : goal.returns-in-Code
returns-in-Code c = rw c.in-Code.is (put_holds c.put_bytes-in-Code.ensures (omega arith))

pub returns-in-Date : goal.returns-in-Date
returns-in-Date c = rw c.in-Date.is (put_holds c.put_bytes-in-Date.ensures (omega arith))
