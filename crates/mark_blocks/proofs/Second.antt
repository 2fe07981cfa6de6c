-- No second answer to either call over records. What each promises is the fact that it looks like, by the clauses that the toolchain makes of its contract,
-- and that fact has one answer. Assumes nothing.
use Rattle.bounds.specs.declared.Refusal.{Refusal}
use Rattle.std.specs.Prelude.{Result}
use mathlib.Core.Path.{◌≡◌, refl, sym, ◌∙◌}
use mathlib.Core.List.{List}
use Prim.Native.Nat.{ℕ}
use seplogic.Ra.Ura.{Ura}
use base.Logic.{SProp}
use base.Fml.{Lft}
use prog.Memory.{Memory}
use prog.Routine.{Routine}
use types.Logic.{Logic}
use contract.Monad.{Fun, fact}
use denote.Bor.{Bor}
use Rattle.column.specs.declared.Block.{Block}
use Rattle.column.specs.declared.Column.{Column}
use Rattle.column.specs.Lent.{Lent, buffers}
use Rattle.codes.specs.declared.Mark.{Mark}
use Rattle.marks.specs.declared.Tally.{Tally}
use Rattle.marks.specs.Marking.{mark_at, marks_of}
use Rattle.mark_blocks.specs.contracts.mark_at as mark_at
use Rattle.mark_blocks.specs.contracts.count_marks as count_marks

module _ {M : Type 1} {𝓤 : Ura M} (𝓛 : Logic 𝓤) (mem : Memory → SProp 𝓤) (run : Routine → Fun 𝓤) (κ : Lft)
    (x y : Bor (List ℕ)) (t : Bor (List Block)) (z : Bor (List ℕ)) (c : Column) where
  abbrev l : Lent
  l = buffers x.now y.now t.now z.now

  pub mark-says : (row : ℕ) (m : Result Mark Refusal) → (mark_at.clauses 𝓛 mem run (κ, tt) (x, (y, (t, (z, (c, (row, tt))))))).ensures tt m
      (x, (y, (t, (z, (c, (row, tt)))))) ≡ fact 𝓤 (m ≡ mark_at l c row)
  mark-says row m = refl

  pub mark-one : (row : ℕ) (m m' : Result Mark Refusal) → m ≡ mark_at l c row → m' ≡ mark_at l c row → m ≡ m'
  mark-one row m m' p q = p ∙ sym q

  pub count-says : (r : Result Tally Refusal) → (count_marks.clauses 𝓛 mem run (κ, tt) (x, (y, (t, (z, (c, tt)))))).ensures tt r (x, (y, (t, (z, (c, tt)))))
      ≡ fact 𝓤 (r ≡ marks_of l c)
  count-says r = refl

  pub count-one : (r r' : Result Tally Refusal) → r ≡ marks_of l c → r' ≡ marks_of l c → r ≡ r'
  count-one r r' p q = p ∙ sym q
