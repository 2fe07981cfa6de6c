-- A block table of records as the two number slices that the laws of compaction speak of. Assumes nothing.
use Rattle.std.specs.Prelude.{List, map, ℕ}
use Rattle.column.specs.declared.Block.{Block}
use Rattle.column.specs.Lent.{Lent, lent}
use Rattle.column.specs.Room.{bare}
use Rattle.compaction_blocks.specs.declared.Records.{Records}

abbrev pub starts_in : List Block → List ℕ
starts_in t = map (λ (b : Block). b.start) t

abbrev pub lens_in : List Block → List ℕ
lens_in t = map (λ (b : Block). b.len) t

-- what the code's buffers hold, and the same without the null map
abbrev pub lent_by : Records → Lent
lent_by l = lent l.views.now l.bytes.now (starts_in l.table.now) (lens_in l.table.now) l.nulls.now

abbrev pub source_of : Records → Lent
source_of l = bare l.views.now l.bytes.now (starts_in l.table.now) (lens_in l.table.now)
