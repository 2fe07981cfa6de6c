-- What the UTF-8 question answers. Assumes nothing.
use Rattle.std.specs.Prelude.{List, ℕ}
use Rattle.basis.specs.Pick.{pick}
use Rattle.utf8.specs.Table.{well_formed, first_bad}
use Rattle.text_exports.specs.declared.Text.{Text}

unfoldable pub text_of : List ℕ → Text
text_of x = record { yes = pick (well_formed x) 1 0; place = first_bad x }
