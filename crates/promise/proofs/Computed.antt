-- The definitions that examples compute with, under one name for an `unfolding` line. Assumes nothing.
use Prim.Native.Nat.{ℕ}
use Rattle.bounds.specs.Bounds.{row_limit, block_limit, byte_limit, most_compaction}
use Rattle.bounds.specs.Refusals.{refuse}
use Rattle.words.specs.Words.{word_at, enc, pad}
use Rattle.null_bits.specs.Bits.{bit_at, is_valid, count_nulls, put_bit}
use Rattle.null_bits.specs.Runs.{put_bits}
use Rattle.order.specs.Order.{cmp, same}
use Rattle.utf8.specs.Table.{within, in_ranges, led, led_by, front_length, bad_after, first_bad, well_formed}
use Rattle.views.specs.View.{length_of, body_of, prefix_of, block_of, offset_of, short_view, long_view, make_view, view_at}
use Rattle.growth.specs.Growing.{start_size, largest_size, next_size, size_after, reached_in, fits_size, fits_growth}
use Rattle.column.specs.Lent as lent
use Rattle.column.specs.Meaning.{blocks_of, shown, shown_at, row_valid}
use Rattle.column.specs.Spot.{spot_of}
use Rattle.column.specs.Truth.{reach_of, reachable, zeros, honest, is_true, lowest}
use Rattle.column.specs.Laid.{rows_of, views_of, bits_of, flat, put_views, put_table}
use Rattle.reading.specs.Reading as reading
use Rattle.comparison.specs.Compare.{compare_views, both_of, why_compare, compare_rows}
use Rattle.builder.specs.State.{rows_room, all_blocks, fits_rooms, fits_state, recorded, blocks_now, closed, complete, fits_open, sized, roomed, make_room, lay, add_row, add_rows}
use Rattle.builder.specs.Start.{why_start, cleared, start}
use Rattle.builder.specs.Values.{hits, found_by, found, why_lay, why_store, why_rows, why_values, store, put_found, put_value, put_values}
use Rattle.builder.specs.Get.{why_get, get_value}
use Rattle.builder.specs.Finish.{why_finish, finished}
use Rattle.compaction.specs.Cut.{room_for, cut_from, cut_all, cut_lens}
use Rattle.compaction.specs.Compact.{long_of, view_by, why_compact, compacted}
use Rattle.laying.specs.Rooms.{why_rooms}
use Rattle.laying.specs.Written.{put_rows, starts_from, total}

unfoldable pub computed : ℕ
unfolding row_limit block_limit byte_limit most_compaction refuse word_at enc pad bit_at is_valid count_nulls put_bit put_bits cmp same within in_ranges led
    led_by front_length
    bad_after first_bad well_formed length_of body_of prefix_of block_of offset_of short_view long_view make_view view_at start_size largest_size next_size size_after
    reached_in fits_size fits_growth lent.row_room lent.block_room lent.data_room lent.fits lent.in_data lent.table_of blocks_of shown shown_at row_valid spot_of
    reach_of reachable
    zeros honest is_true lowest rows_of views_of bits_of flat put_views put_table reading.why_fit reading.why_run reading.why_value reading.value_at
    reading.prefix_bytes reading.suffix_bytes
    reading.prefix_at reading.suffix_at reading.null_run reading.bytes_len reading.total_bytes_len compare_views both_of why_compare compare_rows rows_room
    all_blocks fits_rooms fits_state recorded blocks_now closed complete fits_open
    sized roomed make_room lay add_row add_rows why_start cleared start why_get get_value hits found_by found why_lay why_store why_rows why_values store
    put_found put_value put_values why_finish finished put_rows total starts_from room_for cut_from
    cut_all cut_lens long_of view_by why_rooms why_compact compacted
computed = 0
