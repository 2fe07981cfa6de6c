-- Which line of a listing says what, test by test. Assumes nothing.
use Rattle.std.specs.Prelude.{◌≡◌, ℕ, ◌+◌, ◌-◌, ◌≤◌, ◌<◌}
use native.Mathlib.Omega.{arith}
use borrow.Author.Tests.{le-leb, lt-leb, lt-ltb, le-ltb, ne_eqb}
use Rattle.shelf.specs.declared.Item.TheVariants.{Row, Gap}
use Rattle.shelf.specs.Items.{item_count, item_at, part_end}

pub count-few : (rows : ℕ) → rows ≤ 20 → rows ≡ item_count rows
unfolding item_count
count-few rows h = rw (le-leb rows 20 h)

pub count-many : (rows : ℕ) → 20 < rows → 21 ≡ item_count rows
unfolding item_count
count-many rows h = rw (lt-leb rows 20 h)

module _ (rows k : ℕ) where
  pub item-few : rows ≤ 20 → Row k ≡ item_at rows k
  unfolding item_at
  item-few h = rw (le-leb rows 20 h)

  pub item-first : 20 < rows → k < 10 → Row k ≡ item_at rows k
  unfolding item_at
  item-first h g = rw (lt-leb rows 20 h, lt-ltb k 10 g)

  pub item-gap : 20 < rows → k ≡ 10 → Gap (rows - 20) ≡ item_at rows k
  unfolding item_at
  item-gap h g = rw (lt-leb rows 20 h, g)

  pub item-last : 20 < rows → 10 ≤ k → (k ≡ 10 → ⊥) → Row (rows - 21 + k) ≡ item_at rows k
  unfolding item_at
  item-last h g n = rw (lt-leb rows 20 h, le-ltb k 10 g, ne_eqb k 10 n)

  pub end-few : k < rows → rows ≤ k + 800 → rows ≡ part_end rows k
  unfolding part_end
  end-few h g = omega arith

  pub end-many : k + 800 ≤ rows → k + 800 ≡ part_end rows k
  unfolding part_end
  end-many g = omega arith
