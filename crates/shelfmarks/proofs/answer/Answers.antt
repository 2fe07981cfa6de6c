-- What is left to write where the answer begins is the answer to the input.
use Rattle.std.proofs.Common.{rules}
use Rattle.marked.proofs.Begins.{marks_begin}
use Rattle.shelfmarks.proofs.answer.Goals as goal

pub write_pieces-requires : goal.write_pieces-requires
write_pieces-requires g c =
    marks_begin _ _ _ _ _ _ _
    (record { views = search rules; bytes = search rules; starts = search rules; lens = search rules; nulls = search rules })
    c.begin-begun.ensures
