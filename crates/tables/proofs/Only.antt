-- No second answer to the three things that are asked of a table: what each promises is the fact that it looks like, by the clauses that the toolchain
-- makes of its contract, and that fact has one answer, or one content at exit. Assumes nothing.
use mathlib.Core.Path.{◌≡◌, refl, sym, ◌∙◌}
use mathlib.Core.List.{List}
use Prim.Native.Nat.{ℕ}
use lib.ListN.{length, get_or, set}
use seplogic.Ra.Ura.{Ura}
use base.Logic.{SProp}
use base.Fml.{Lft}
use prog.Memory.{Memory}
use prog.Routine.{Routine}
use types.Logic.{Logic}
use contract.Monad.{Fun, fact}
use denote.Bor.{Bor}
use denote.MutBor.{MutBor}
use Rattle.column.specs.declared.Block.{Block}
use Rattle.tables.specs.contracts.count as count
use Rattle.tables.specs.contracts.block_or as block_or
use Rattle.tables.specs.contracts.put_or as put_or

module _ {M : Type 1} {𝓤 : Ura M} (𝓛 : Logic 𝓤) (mem : Memory → SProp 𝓤) (run : Routine → Fun 𝓤) (κ : Lft) (t : Bor (List Block))
    (k : ℕ) (b : Block) where
  pub count-says : (n : ℕ) → (count.clauses 𝓛 mem run (κ, tt) (t, tt)).ensures tt n (t, tt) ≡ fact 𝓤 (n ≡ length t.now)
  count-says n = refl

  pub count-one : (n n' : ℕ) → n ≡ length t.now → n' ≡ length t.now → n ≡ n'
  count-one n n' p q = p ∙ sym q

  pub block-or-says : (r : Block) → (block_or.clauses 𝓛 mem run (κ, tt) (t, (k, (b, tt)))).ensures tt r (t, (k, (b, tt))) ≡ fact 𝓤 (r ≡ get_or t.now k b)
  block-or-says r = refl

  pub block-or-one : (r r' : Block) → r ≡ get_or t.now k b → r' ≡ get_or t.now k b → r ≡ r'
  block-or-one r r' p q = p ∙ sym q

  pub put-or-says : (t t' : MutBor (List Block)) → (put_or.clauses 𝓛 mem run (κ, tt) (t, (k, (b, tt)))).ensures tt tt (t', (k, (b, tt)))
      ≡ fact 𝓤 (t'.now ≡ set t.now k b)
  put-or-says t t' = refl

  pub put-or-one : (t t' t'' : MutBor (List Block)) → t'.now ≡ set t.now k b → t''.now ≡ set t.now k b → t'.now ≡ t''.now
  put-or-one t t' t'' p q = p ∙ sym q
