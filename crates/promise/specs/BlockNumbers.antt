-- The last test that document 01 has of a value call, that the number of its block fits in 32 bits, and that no verdict has need of it. Assumes nothing.
use Rattle.std.specs.Prelude.{◌≡◌, Bool, List, ℕ, ◌^◌, ◌≤◌, leb, length}
use Rattle.bounds.specs.Bounds.{block_limit}
use Rattle.bounds.specs.Refusals.{refuse, if_accepted, accepted, Why}
use Rattle.bounds.specs.declared.Refusal.{Refusal}
use Rattle.builder.specs.declared.State.{State}
use Rattle.builder.specs.State.{Builder, all_blocks, roomed}
use Rattle.builder.specs.Get.{why_get}
use Rattle.builder.specs.Values.{why_values}
use Rattle.promise.specs.Calls.{Call, why}

-- the number of the block that takes n bytes more, once there is room for them
abbrev pub block_for : State → ℕ → ℕ
block_for s n = (roomed n s).blocks

-- the first number that 32 bits don't hold
abbrev pub word_end : ℕ
word_end = 2 ^ 32

-- a verdict with one test more, tried after all others
abbrev pub then_tried : Refusal → Bool → Why → Why
then_tried r t w = if_accepted w (refuse r t accepted) w

pub record NumbersFit : Type 0 where
  -- a state that a call accepts has no more blocks than a column may have: of the calls that change a builder, and of get_value
  pub few : (c : Call) (b : Builder) → why c b ≡ accepted → all_blocks b.state ≤ block_limit
  pub few_got : (b : Builder) (r : ℕ) → why_get b r ≡ accepted → all_blocks b.state ≤ block_limit
  -- so the test, whatever refusal it gave, would move no verdict: for any builder, value and count, those that need no block too
  pub needless : (r : Refusal) (n : ℕ) (b : Builder) (x : List ℕ)
      → then_tried r (leb word_end (block_for b.state (length x))) (why_values n b x) ≡ why_values n b x
