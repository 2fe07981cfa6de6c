use Rattle.column.specs.Room.{bare}
use Rattle.builder.specs.Others.{block_bytes}
use Rattle.appending.specs.Laying.{end_from, put_data, put_starts, put_lens}
use mathlib.Core.List.{[]}
use Prim.Native.Nat.{◌≤◌}
use lib.ListN.{length}
use mathlib.Core.Path.{◌≡◌}
use Rattle.appending.proofs.put_blocks.Given as goal

abbrev pub invariant-loop-k : goal.invariant-loop-k
invariant-loop-k l = (l.k ≤ l.n) × (length l.bytes ≡ length l.initial.bytes)
    × (length l.starts ≡ length l.initial.starts) × (length l.lens ≡ length l.initial.lens) × (l.at ≡ end_from (block_bytes (bare [] l.src l.srcstarts l.srclens)) l.k l.base)
    × (l.bytes ≡ put_data (block_bytes (bare [] l.src l.srcstarts l.srclens)) l.k l.initial.bytes l.base) × (l.starts ≡ put_starts (block_bytes (bare [] l.src l.srcstarts l.srclens))
    l.k l.initial.starts l.first l.base) × (l.lens ≡ put_lens (block_bytes (bare [] l.src l.srcstarts l.srclens)) l.k l.initial.lens l.first)
