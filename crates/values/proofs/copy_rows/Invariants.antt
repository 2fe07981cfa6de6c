use Rattle.builder.specs.TimesLaws.{put_copies}
use Rattle.views.specs.View.{view_at}
use lib.ListN.{length}
use Prim.Native.Nat.{◌+◌, ◌*◌}
use Rattle.words.specs.Words.{word_at}
use mathlib.Core.Path.{◌≡◌}
use Rattle.values.proofs.copy_rows.Given as goal

abbrev pub invariant-loop-k : goal.invariant-loop-k
invariant-loop-k l = (length l.views ≡ length l.initial.views) × (l.lo ≡ word_at l.initial.views (16 * l.from) 8)
    × (l.hi ≡ word_at l.initial.views (16 * l.from + 8) 8) × (l.views ≡ put_copies l.initial.views l.to (view_at l.initial.views l.from) l.k)
