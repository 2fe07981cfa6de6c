-- What a readable row's value is, and how a walk goes: one row's value after the other, then 3. Assumes nothing.
use Rattle.bounds.specs.Refusals.{accepted}
use Rattle.std.specs.Prelude.{◌≡◌, refl, true, ℕ, ◌+◌, Err}
use Rattle.std.proofs.Common.{sym, arith}
use Rattle.bounds.specs.declared.Refusal.TheVariants.{Row}
use Rattle.column.specs.declared.Column.{Column}
use Rattle.column.specs.Lent.{Lent, fits}
use Rattle.column.specs.Meaning.{shown_at}
use Rattle.reading.specs.Reading.{why_value, value_at}
use Rattle.reading.proofs.ReadingLaws.{Readable, value-reached, value-past, step_stays, step-goes}
use Rattle.reading.specs.Walk.{cursor, walk_value, walk_step}

module _ (l : Lent) (c : Column) (r : ℕ) (h : Readable l c r) where
  readable-accepted : accepted ≡ why_value l c r
  readable-accepted = value-reached l c r h.fit h.row h.reach

  pub value-shown : value_at l c r ≡ shown_at l c r
  unfolding value_at
  value-shown = rw (← readable-accepted)

  -- a walk shows the rows and ends after the last (end theorems: nothing cites them)
  pub walk-shown : walk_value l c (cursor r) ≡ shown_at l c r
  unfolding walk_value
  walk-shown = value-shown

  pub walk-on : walk_step l c (cursor r) ≡ record { why = accepted; next = cursor (r + 1) }
  walk-on = sym (step-goes l c (cursor r) accepted readable-accepted refl)

pub walk_end : (l : Lent) (c : Column) → fits l c ≡ true → walk_step l c (cursor c.rows) ≡ record { why = Err Row; next = cursor c.rows }
walk_end l c f = sym (step_stays l c (cursor c.rows) (Err Row) (value-past l c c.rows f (omega arith)) refl)
