use Rattle.builder.specs.Rooms.{shows_row}
use Rattle.column.specs.Lent.{buffers}
use mathlib.Core.List.{[]}
use Rattle.merging.specs.Table.{seek, search_from}
use Rattle.hash.specs.Hash.{hash_of}
use lib.ListN.{length}
use Prim.Native.Nat.{◌-◌, ◌<◌}
use mathlib.Core.Path.{◌≡◌}
use Rattle.filing_values.proofs.find.Given as goal

-- the search from the hash's place is the one from here, over the places that are left
abbrev pub invariant-loop : goal.invariant-loop
invariant-loop l = (l.p < length l.places)
    × (search_from l.places (shows_row l.s (buffers l.views l.bytes l.table []) l.x) (hash_of l.x)
    ≡ seek l.places (shows_row l.s (buffers l.views l.bytes l.table []) l.x) l.p (l.n - l.counter))
