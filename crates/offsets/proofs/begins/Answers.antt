use Rattle.std.proofs.Common.{ltb-true, ltb-false, leb-true, sym, arith}
use Rattle.std.proofs.lemmas.Grind.{get_or_default_zero}
use Rattle.utf8.specs.Cut.{begins-end}
use Rattle.offsets.proofs.begins.Goals as goal

pub returns-in-None : goal.returns-in-None
returns-in-None c = λ e. begins-end c.args.bytes.now c.args.o (ltb-false _ _ (sym c.in-None.ensures.lookup.0))

pub returns-then-b-lt128 : goal.returns-then-b-lt128
returns-then-b-lt128 c =
    let h = c.in-Some.ensures.lookup in
    let z = get_or_default_zero c.args.bytes.now c.args.o c.in-Some.b.now (ltb-true _ _ (sym h.0)) in
    λ e g. absurd (omega (arith, h.1))

pub returns-else-b-lt128 : goal.returns-else-b-lt128
returns-else-b-lt128 c =
    let h = c.in-Some.ensures.lookup in
    let z = get_or_default_zero c.args.bytes.now c.args.o c.in-Some.b.now (ltb-true _ _ (sym h.0)) in
    λ e g. omega (arith, h.1, leb-true _ _ e)
