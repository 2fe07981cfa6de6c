-- A state that a call accepts fits, so its blocks are no more than a column may have, and the number of the next one is as small. Assumes nothing.
use Rattle.std.specs.Prelude.{Ok, Err}
use mathlib.Core.Path.{◌≡◌, refl}
use mathlib.Core.Bool.{Bool, true, false}
use Prim.Native.Nat.{ℕ, ◌≤◌}
use native.Mathlib.Omega.{arith}
use borrow.Author.Tests.{lt-leb, not-false}
use lib.ListN.{length}
use Rattle.bounds.specs.Bounds.{block_limit, block-limit-small}
use Rattle.bounds.specs.Refusals.{refuse, accepted, Why}
use Rattle.bounds.specs.declared.Refusal.{Refusal}
use Rattle.column.specs.Lent.{block_room}
use Rattle.showing.specs.Rooms.{passed}
use Rattle.builder.specs.State.{Builder, all_blocks, fits_state}
use Rattle.builder.proofs.PutLaws.{room-blocks}
use Rattle.builder.specs.Get.{why_get}
use Rattle.builder.specs.Values.{why_values, why_null}
use Rattle.builder.specs.Others.{why_block, why_view, why_column}
use Rattle.builder.specs.Finish.{why_finish}
use Rattle.promise.specs.Calls.{Call, adds_values, adds_null, adds_block, adds_view, adds_column, finish_copy, finish, why}
use Rattle.promise.specs.BlockNumbers.{block_for, word_end, then_tried, NumbersFit}
use Rattle.promise.proofs.Fits.{fits-are}

-- every call tries first whether the state fits
accepted-fits : (c : Call) (b : Builder) → why c b ≡ accepted → fits_state b ≡ true
unfolding why_values why_null why_block why_view why_column why_finish
accepted-fits (adds_values n x) b e = not-false _ (passed _ _ _ e).0
accepted-fits adds_null b e = not-false _ (passed _ _ _ e).0
accepted-fits (adds_block x) b e = not-false _ (passed _ _ _ e).0
accepted-fits (adds_view k offset n) b e = not-false _ (passed _ _ _ e).0
accepted-fits (adds_column l c) b e = not-false _ (passed _ _ _ e).0
accepted-fits finish_copy b e = not-false _ (passed _ _ _ e).0
accepted-fits finish b e = not-false _ (passed _ _ _ e).0

got-fits : (b : Builder) (r : ℕ) → why_get b r ≡ accepted → fits_state b ≡ true
unfolding why_get
got-fits b r e = not-false _ (passed _ _ _ e).0

few-blocks : (b : Builder) → fits_state b ≡ true → all_blocks b.state ≤ block_limit
unfolding block_room
few-blocks b e = omega (arith, (fits-are b e).blocks)

untouched : (r : Refusal) (t : Bool) (w : Why) → (w ≡ accepted → t ≡ false) → then_tried r t w ≡ w
unfolding refuse
untouched r t (Ok _) h = rw (h refl)
untouched r t (Err q) h = refl

pub numbers_fit : NumbersFit
numbers_fit =
    record {
      few = λ c b e. few-blocks b (accepted-fits c b e);
      few_got = λ b r e. few-blocks b (got-fits b r e);
      needless = λ r n b x. untouched r _ (why_values n b x) (λ e. lt-leb word_end (block_for b.state (length x))
          (omega (arith, room-blocks b.state (length x), few-blocks b (accepted-fits (adds_values n x) b e), block-limit-small)));
    }
