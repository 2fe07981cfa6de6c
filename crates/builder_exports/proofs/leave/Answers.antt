-- `builder_exports::leave` meets its contract. Assumes nothing.
use Rattle.builder_exports.specs.Numbers.{numbers_of}
use Rattle.bounds.specs.Refusals.{accepted-yes, accepted-no}
use mathlib.Core.Path.{refl, sym, ◌∙◌}
use Rattle.builder_exports.proofs.leave.Goals as goal

pub returns-then-is_ok : goal.returns-then-is_ok
returns-then-is_ok c = accepted-yes c.args.a.why c.args.a.why
    (numbers_of c.args.a.state) c.args.state.now _ refl
    (sym c.is_ok.ensures.value ∙ c.if-is_ok.true) c.numbers_of.ensures

pub returns-else-is_ok : goal.returns-else-is_ok
returns-else-is_ok c = accepted-no c.args.a.why c.args.a.why
    (numbers_of c.args.a.state) c.args.state.now _ refl
    (sym c.is_ok.ensures.value ∙ c.if-is_ok.false) refl
