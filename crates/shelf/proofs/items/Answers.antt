use Rattle.std.proofs.Common.{rules, ◌≡◌, ℕ, ◌≤◌, Bool, true, false, refl, min, leb, leb-true, leb-false, ◌∙◌, arith}
use Rattle.shelf.specs.Items.{item_count}
use Rattle.shelf.specs.ItemLaws.{count-few, count-many}
use Rattle.shelf.proofs.items.Goals as goal

count-min : (rows : ℕ) → min rows 21 ≡ item_count rows
count-min rows = go (leb rows 20) refl
  where
    go : (t : Bool) → leb rows 20 ≡ t → min rows 21 ≡ item_count rows
    go true e = let h = leb-true rows 20 e in let m : min rows 21 ≡ rows = omega arith in m ∙ count-few rows h
    go false e = let h = leb-false rows 20 e in let m : min rows 21 ≡ 21 = omega arith in m ∙ count-many rows h

pub returns : goal.returns
returns c = c.min.ensures ∙ count-min _
