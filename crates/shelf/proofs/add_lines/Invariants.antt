use Rattle.std.specs.Prelude.{◌≡◌}
use Rattle.builder.specs.State.{held}
use Rattle.shelf.specs.Adding.{added_all}
use Rattle.shelf.specs.Lines.{lines}
use Rattle.shelf.proofs.add_lines.Given as goal

abbrev pub invariant-loop-line : goal.invariant-loop-line
invariant-loop-line l = added_all (lines l.line-iterator.rest.now) (held l.s l.views l.bytes l.starts l.lens l.nulls l.places)
    ≡ added_all (lines l.input) (held l.initial.s l.initial.views l.initial.bytes l.initial.starts l.initial.lens l.initial.nulls l.initial.places)
