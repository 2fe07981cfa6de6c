-- `utf8::lead_of` meets its contract. Assumes nothing.
use mathlib.Core.Path.{refl}
use Rattle.utf8.specs.Lead.{nexts, tails_of, tails}
use Rattle.utf8.specs.Text.{lead-row}
use Rattle.utf8.proofs.Laws.{lead-80, lead-f5}
use native.Mathlib.Omega.{arith}
use Rattle.utf8.proofs.lead_of.Goals as goal

pub returns-in-224 : goal.returns-in-224
unfolding tails tails_of nexts
returns-in-224 c = lead-row 2 _ 0xE0 0xE0 _ (omega arith) refl (omega arith) (omega arith)

pub returns-in-237 : goal.returns-in-237
unfolding tails tails_of nexts
returns-in-237 c = lead-row 4 _ 0xED 0xED _ (omega arith) refl (omega arith) (omega arith)

pub returns-in-240 : goal.returns-in-240
unfolding tails tails_of nexts
returns-in-240 c = lead-row 6 _ 0xF0 0xF0 _ (omega arith) refl (omega arith) (omega arith)

pub returns-in-244 : goal.returns-in-244
unfolding tails tails_of nexts
returns-in-244 c = lead-row 8 _ 0xF4 0xF4 _ (omega arith) refl (omega arith) (omega arith)

pub returns-in-0-to-127 : goal.returns-in-0-to-127
unfolding tails tails_of nexts
returns-in-0-to-127 c = lead-row 0 _ 0x00 0x7F _ (omega arith) refl (omega arith) (omega arith)

pub returns-in-194-to-223 : goal.returns-in-194-to-223
unfolding tails tails_of nexts
returns-in-194-to-223 c = lead-row 1 _ 0xC2 0xDF _ (omega arith) refl (omega arith) (omega arith)

pub returns-in-225-to-236 : goal.returns-in-225-to-236
unfolding tails tails_of nexts
returns-in-225-to-236 c = lead-row 3 _ 0xE1 0xEC _ (omega arith) refl (omega arith) (omega arith)

pub returns-in-238-to-239 : goal.returns-in-238-to-239
unfolding tails tails_of nexts
returns-in-238-to-239 c = lead-row 5 _ 0xEE 0xEF _ (omega arith) refl (omega arith) (omega arith)

pub returns-in-241-to-243 : goal.returns-in-241-to-243
unfolding tails tails_of nexts
returns-in-241-to-243 c = lead-row 7 _ 0xF1 0xF3 _ (omega arith) refl (omega arith) (omega arith)

pub returns-in_default : goal.returns-in_default
unfolding tails tails_of nexts
returns-in_default c = lead-80 _ (omega arith) (omega arith)

pub returns-in_default-2 : goal.returns-in_default-2
unfolding tails tails_of nexts
returns-in_default-2 c = lead-f5 _ (omega arith)
