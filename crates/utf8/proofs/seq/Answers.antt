-- `utf8::seq` meets its contract. Assumes nothing.
use mathlib.Core.Path.{◌≡◌, sym, ap, ◌∙◌}
use native.Mathlib.Omega.{arith}
use Prim.Native.Nat.{ℕ}
use Rattle.std.proofs.Common.{Option}
use Rattle.utf8.specs.Table.{in_ranges, led_by}
use Rattle.utf8.specs.Lead.{tails, SequenceOf}
use Rattle.utf8.proofs.Laws.{front_at}
use Rattle.utf8.proofs.seq.Goals as goal

-- what is said of the same number
said : {m n : ℕ} (room : ℕ) (r : Option ℕ) → m ≡ n → SequenceOf m room r → SequenceOf n room r
said room r e h = rw e at h

pub returns-in-One : goal.returns-in-One
unfolding tails led_by in_ranges
returns-in-One c =
    let a = c.args in
    (sym (front_at a.s.now a.i (omega arith) (c.lead_of.ensures ∙ ap tails c.in-One.is)), omega arith, omega arith)

pub returns-in-Two : goal.returns-in-Two
unfolding tails
returns-in-Two c =
    let a = c.args in
    said _ _ (sym (front_at a.s.now a.i (omega arith) (c.lead_of.ensures ∙ ap tails c.in-Two.is))) c.more.ensures

pub returns-in-Three : goal.returns-in-Three
unfolding tails
returns-in-Three c =
    let a = c.args in
    said _ _ (sym (front_at a.s.now a.i (omega arith) (c.lead_of.ensures ∙ ap tails c.in-Three.is))) c.more-in-Three.ensures

pub returns-in-Four : goal.returns-in-Four
unfolding tails
returns-in-Four c =
    let a = c.args in
    said _ _ (sym (front_at a.s.now a.i (omega arith) (c.lead_of.ensures ∙ ap tails c.in-Four.is))) c.more-in-Four.ensures

pub returns-in-Bad : goal.returns-in-Bad
unfolding tails led_by in_ranges
returns-in-Bad c =
    let a = c.args in
    front_at a.s.now a.i (omega arith) (c.lead_of.ensures ∙ ap tails c.in-Bad.is)
