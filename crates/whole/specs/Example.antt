-- Document 01's example, computed. Assumes nothing.
use Rattle.std.specs.Prelude.{◌≡◌, refl, [], ◌∷◌}
use Rattle.listing.specs.Text.{digits, decimal, more_text, bytes_text, row_open, row_close, row_null, row_line, opening, number_line, closing, refused_line}
use Rattle.order.specs.Order.{same}
use Rattle.shelf.specs.Lines.{on_first, lines, says, first_bad_line}
use Rattle.whole.specs.Answer.{row_lines, body, nulls_in, valid_bytes, block_bytes_in, blocks_used, listed, answer_lines, shelf_answer}

pub example : shelf_answer (99 ∷ 111 ∷ 100 ∷ 101 ∷ 61 ∷ 65 ∷ 10 ∷ 110 ∷ 117 ∷ 108 ∷ 108 ∷ 61 ∷ 10 ∷ 99 ∷ 111 ∷ 100 ∷ 101 ∷ 61 ∷ 82 ∷ 79 ∷ 45 ∷ 56 ∷ 48 ∷ 52
    ∷ 48 ∷ 45 ∷ 48 ∷ 51 ∷ 77 ∷ 65 ∷ 82 ∷ 10 ∷ [])
    ≡ 66 ∷ 105 ∷ 110 ∷ 97 ∷ 114 ∷ 121 ∷ 86 ∷ 105 ∷ 101 ∷ 119 ∷ 65 ∷ 114 ∷ 114 ∷ 97 ∷ 121 ∷ 10 ∷ 91 ∷ 10 ∷ 32 ∷ 32 ∷ 91 ∷ 54 ∷ 53 ∷ 93 ∷ 44 ∷ 10 ∷ 32
    ∷ 32 ∷ 110 ∷ 117 ∷ 108 ∷ 108 ∷ 44 ∷ 10 ∷ 32 ∷ 32 ∷ 91 ∷ 56 ∷ 50 ∷ 44 ∷ 32 ∷ 55 ∷ 57 ∷ 44 ∷ 32 ∷ 52 ∷ 53 ∷ 44 ∷ 32 ∷ 53 ∷ 54 ∷ 44 ∷ 32 ∷ 52
    ∷ 56 ∷ 44 ∷ 32 ∷ 53 ∷ 50 ∷ 44 ∷ 32 ∷ 52 ∷ 56 ∷ 44 ∷ 32 ∷ 52 ∷ 53 ∷ 44 ∷ 32 ∷ 52 ∷ 56 ∷ 44 ∷ 32 ∷ 53 ∷ 49 ∷ 44 ∷ 32 ∷ 55 ∷ 55 ∷ 44 ∷ 32 ∷ 54
    ∷ 53 ∷ 44 ∷ 32 ∷ 56 ∷ 50 ∷ 93 ∷ 44 ∷ 10 ∷ 93 ∷ 10 ∷ 114 ∷ 111 ∷ 119 ∷ 115 ∷ 61 ∷ 51 ∷ 10 ∷ 110 ∷ 117 ∷ 108 ∷ 108 ∷ 115 ∷ 61 ∷ 49 ∷ 10 ∷ 98
    ∷ 121 ∷ 116 ∷ 101 ∷ 115 ∷ 61 ∷ 49 ∷ 52 ∷ 10 ∷ 98 ∷ 108 ∷ 111 ∷ 99 ∷ 107 ∷ 95 ∷ 98 ∷ 121 ∷ 116 ∷ 101 ∷ 115 ∷ 61 ∷ 49 ∷ 51 ∷ 10 ∷ 98 ∷ 108 ∷ 111
    ∷ 99 ∷ 107 ∷ 115 ∷ 61 ∷ 49 ∷ 10 ∷ []
unfolding shelf_answer answer_lines listed body row_lines nulls_in valid_bytes block_bytes_in blocks_used lines on_first says first_bad_line same digits decimal more_text
    bytes_text row_open row_close row_null row_line opening number_line closing refused_line
example = refl
