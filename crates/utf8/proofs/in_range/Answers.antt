-- `utf8::in_range` meets its contract. Assumes nothing.
use Rattle.std.proofs.Common.{◌≡◌, refl, ℕ, leb, arith}
use Rattle.std.proofs.lemmas.Bool.Decides.{nat_tests}
use Rattle.std.specs.Ordering.{is_le, nat_cmp}
use Rattle.utf8.specs.Table.{within}
use Rattle.utf8.proofs.in_range.Goals as goal

test : (a b : ℕ) → is_le (nat_cmp a b) ≡ leb a b
test a b = grind (arith, nat_tests)

pub returns : goal.returns
unfolding within
returns c = rw (c.contains.ensures.value, c.new.ensures.start, c.new.ensures.end, c.new.ensures.exhausted, test c.args.lo c.args.b, test c.args.b c.args.hi) refl
