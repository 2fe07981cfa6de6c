use Rattle.std.specs.Prelude.{◌≡◌, ℕ, ◌≤◌, ◌<◌, ◌⊎◌}
use Rattle.std.proofs.Common.{rules, arith, inl, inr}
use Rattle.shelf.specs.declared.Item.TheVariants.{Row}
use Rattle.shelf.specs.Items.{item_at}
use Rattle.shelf.specs.ItemLaws.{count-many, item-few, item-first, item-gap, item-last}
use Rattle.shelf.proofs.nth_item.Goals as goal

shown : (rows k : ℕ) → (rows ≤ 20) ⊎ ((20 < rows) × (k < 10)) → Row k ≡ item_at rows k
shown rows k (inl h) = item-few rows k h
shown rows k (inr h) = item-first rows k h.0 h.1

pub overflow_add-result : goal.overflow_add-result
overflow_add-result c = omega (arith, c.requires, count-many c.args.rows c.if-k-lt10.false.0)

pub returns-then-k-lt10 : goal.returns-then-k-lt10
returns-then-k-lt10 c = shown _ _ c.if-k-lt10.either

pub returns-then-k-eq10 : goal.returns-then-k-eq10
returns-then-k-eq10 c = item-gap _ _ c.if-k-lt10.false.0 c.if-k-eq10.true

pub returns-else-k-eq10 : goal.returns-else-k-eq10
returns-else-k-eq10 c = item-last _ _ c.if-k-lt10.false.0 c.if-k-lt10.false.1 c.if-k-eq10.false
