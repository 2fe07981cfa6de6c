use Rattle.shelf.proofs.AddLaws.{built-finished}
use mathlib.Core.Path.{◌∙◌}
use borrow.Author.Rules.{rules}
use Rattle.shelf.proofs.build.Goals as goal

pub returns : goal.returns
returns c =
    let a = c.args in built-finished a.input.now a.views.now a.bytes.now a.starts.now a.lens.now a.nulls.now
    a.places.now c.start-begun.ensures.0 c.start-begun.ensures.1 c.add_lines-s.ensures
    c.finish.ensures
