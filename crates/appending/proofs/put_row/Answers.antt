use Rattle.words.specs.Words.{put_word}
use Rattle.appending.specs.ColumnLaws.{row-short, row-long}
use mathlib.Core.List.{List}
use Prim.Native.Nat.{ℕ, ◌+◌, ◌*◌}
use mathlib.Core.Path.{ap, ◌∙◌}
use native.Mathlib.Omega.{arith}
use Rattle.appending.proofs.put_row.Goals as goal

pub returns-else-view_len-gt-SHORT_MOST : goal.returns-else-view_len-gt-SHORT_MOST
returns-else-view_len-gt-SHORT_MOST c =
    let a = c.args in
    c.copy16.ensures ∙ row-short a.views.now a.src.now a.to a.from a.before
    (omega (arith, c.view_len.ensures.0))

pub returns-then-view_len-gt-SHORT_MOST : goal.returns-then-view_len-gt-SHORT_MOST
returns-then-view_len-gt-SHORT_MOST c =
    let a = c.args in
    c.put32.ensures ∙ ap (λ (l : List ℕ). put_word l (16 * a.to + 8) (c.view_block-k.result
    + a.before) 4) c.copy16.ensures ∙ row-long a.views.now a.src.now a.to a.from a.before _ c.requires.0 c.requires.1
    (omega (arith, c.view_len.ensures.0)) (ap (λ (z : ℕ). z + a.before)
    c.view_block-k.ensures.0)
