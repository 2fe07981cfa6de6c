-- The history of every call runs as it says: each side computes to the other. Assumes nothing.
use mathlib.Core.Path.{refl}
use Rattle.hash.specs.Hash.{rotl, mixed, lane_a, lane_b, hash_closed, hash_of}
use Rattle.merging.specs.Table.{after, seek, search_from}
use Rattle.views.specs.View.{zero_view}
use Rattle.column.specs.Lent.{in_data, all_in_data}
use Rattle.null_bits.specs.Bits as bits
use Rattle.reading.specs.Reading.{why_row, bit_of}
use Rattle.builder.specs.Values.{why_null, put_null}
use Rattle.builder.specs.Others.{lay_block, lay_blocks, sizes, why_room, why_block, put_block, viewed, why_view, put_view, renumbered, add_column, why_column, put_column}
use Rattle.builder.specs.Finish.{copied}
use Rattle.promise.specs.Calls.{rows_after}
use Rattle.promise.specs.Merged.{recall_all}
use Rattle.promise.specs.Bench.{call_each, taken_each, bench_built}
use Rattle.promise.specs.Mixed.{Mixed, accepts_calls, left_by_calls}
use Rattle.promise.proofs.Computed.{computed}

pub mixed-runs : Mixed
unfolding computed rotl mixed lane_a lane_b hash_closed hash_of after seek search_from zero_view in_data all_in_data bits.valid_at why_row bit_of why_null put_null
    lay_block lay_blocks sizes why_room why_block put_block
    viewed why_view put_view renumbered add_column why_column put_column copied rows_after recall_all call_each taken_each bench_built accepts_calls left_by_calls
mixed-runs =
    record { joins = refl; puts = refl; shows = refl; blocks = refl; targets = refl; again = refl; after = refl; bits = refl; forgets = refl }
