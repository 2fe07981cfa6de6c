-- Each piece leaves less to write.
use Rattle.column.specs.Lent.{lent_of}
use Rattle.whole.specs.Rest.{weight}
use Rattle.shelflist.proofs.write_pieces.Given as goal

abbrev pub decreases-loop-c : goal.decreases-loop-c
decreases-loop-c g l = weight (lent_of l.l) l.c l.p
