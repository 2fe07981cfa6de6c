-- The blocks of a builder through its small steps. Assumes nothing.
use mathlib.Core.Path.{◌≡◌, refl, sym, ◌∙◌}
use mathlib.Core.Bool.{Bool, true, false, not}
use mathlib.Core.List.{List, [], ◌∷◌, ◌++◌, append-nil}
use mathlib.Core.Logic.{by_cases}
use Prim.Native.Nat.{ℕ, suc, ◌+◌, ◌≤◌, ◌<◌}
use native.Mathlib.Decide.{ℕ_discrete}
use native.Mathlib.Omega.{arith}
use borrow.Author.Tests.{eqb-true, ne_eqb}
use lib.Dec.{eqb}
use lib.ListN.{length, take, drop, get_or, set, length-drop}
use lib.Seq.{length-take-le, get_or-set_same, get_or-set_other}
use Rattle.basis.specs.Pick.{pick}
use Rattle.column.specs.declared.Block.{Block}
use Rattle.column.specs.Lent.{buffers, block, block_at}
use Rattle.column.specs.Meaning.{blocks_of}
use Rattle.showing.specs.Rows.{Ext}
use Rattle.showing.proofs.RowsLaws.{ext-last, ext-add}
use Rattle.showing.specs.Stores.{length-blocks, blocks-set, blocks-paste, open-paste}
use Rattle.builder.specs.declared.State.{State}
use Rattle.builder.specs.State.{Builder, is_open, all_blocks, used, recorded, blocks_now, closed, complete, sized, lay, add_row}
use Rattle.promise.proofs.Fits.{grow}

-- the bytes of the open block, and the completed blocks
abbrev pub open_of : Builder → List ℕ
open_of b = take b.state.fill (drop b.state.base b.lent.bytes)

abbrev pub done_of : Builder → List (List ℕ)
done_of b = blocks_of b.lent b.state.blocks

abbrev pub opened : Bool → List ℕ → List (List ℕ)
opened true x = x ∷ []
opened false x = []

-- the completed blocks lie before the open one
abbrev pub Below : Builder → Type 0
Below b = (k : ℕ) → k < b.state.blocks → (block_at b.lent k).start + (block_at b.lent k).len ≤ b.state.base

pub blocks-le : (s : State) → s.blocks ≤ all_blocks s
unfolding all_blocks
blocks-le s = by (is_open s)
  where
    by : (t : Bool) → s.blocks ≤ pick t (suc s.blocks) s.blocks
    by true = omega arith
    by false = omega arith

pub now-are : (b : Builder) → all_blocks b.state ≤ length b.lent.table → blocks_now b ≡ done_of b ++ opened (is_open b.state) (open_of b)
unfolding blocks_now recorded all_blocks
now-are b room = by (is_open b.state) room
  where
    by : (t : Bool) → pick t (suc b.state.blocks) b.state.blocks ≤ length b.lent.table
        → blocks_of (buffers b.lent.views b.lent.bytes
        (pick t (set b.lent.table b.state.blocks (block b.state.base b.state.fill)) b.lent.table) b.lent.nulls)
        (pick t (suc b.state.blocks) b.state.blocks)
        ≡ done_of b ++ opened t (open_of b)
    by true h = blocks-set b.lent b.state.blocks (block b.state.base b.state.fill) b.lent.views b.lent.nulls h
    by false h = sym (append-nil (done_of b))

pub now-complete : (b : Builder) → blocks_now (complete b) ≡ blocks_now b
unfolding blocks_now complete closed recorded all_blocks
now-complete b = refl

pub now-grow : (n : ℕ) (b : Builder) → blocks_now (grow n b) ≡ blocks_now b
unfolding blocks_now grow sized recorded all_blocks
now-grow n b = refl

pub now-row : (v : List ℕ) (valid : Bool) (b : Builder) → blocks_now (add_row v valid b) ≡ blocks_now b
unfolding blocks_now add_row recorded all_blocks blocks_of
now-row v valid b = refl

-- an open block is one that has a byte
pub open-empty : (s : State) → is_open s ≡ false → s.fill ≡ 0
open-empty s e = by (eqb s.fill 0) refl e
  where
    by : (t : Bool) → eqb s.fill 0 ≡ t → not t ≡ false → s.fill ≡ 0
    by true p q = eqb-true s.fill 0 p
    by false p q = let z : ◌≡◌ {A = ℕ} 0 1 = cc in absurd (omega arith)

pub open-some : (s : State) → 0 < s.fill → is_open s ≡ true
open-some s h = rw (ne_eqb s.fill 0 (λ e. omega arith))

-- completing keeps the blocks before the open one
pub below-complete : (b : Builder) → all_blocks b.state ≤ length b.lent.table → Below b → Below (complete b)
unfolding complete closed recorded all_blocks
below-complete b room below = by (is_open b.state) room
  where
    t : List Block
    t = b.lent.table

    n : ℕ
    n = b.state.blocks

    new : Block
    new = block b.state.base b.state.fill

    by : (o : Bool) → pick o (suc n) n ≤ length t → (k : ℕ) → k < pick o (suc n) n
        → (get_or (pick o (set t n new) t) k (block 0 0)).start + (get_or (pick o (set t n new) t) k (block 0 0)).len ≤ b.state.base + b.state.fill
    by true h k j =
        by_cases (ℕ_discrete k n)
        (λ e. let same : get_or (set t n new) k (block 0 0) ≡ new = rw e (get_or-set_same t n new (block 0 0) h) in rw same (omega arith))
        (λ e. let other : get_or (set t n new) k (block 0 0) ≡ get_or t k (block 0 0) = get_or-set_other t n k new (block 0 0) e in
        rw other (omega (arith, below k (omega arith))))
    by false h k j = omega (arith, below k j)

pub all-lay : (x : List ℕ) (b : Builder) → 0 < length x → all_blocks (lay x b).state ≡ suc b.state.blocks
unfolding lay all_blocks
all-lay x b h = rw (open-some (lay x b).state (omega arith))

-- x laid at the end of the open block
module _ (x : List ℕ) (b : Builder) (some : 0 < length x) (below : Below b) (room : b.state.blocks < length b.lent.table)
    (fits : used b.state + length x ≤ length b.lent.bytes) where
  lay-room : all_blocks (lay x b).state ≤ length (lay x b).lent.table
  unfolding lay
  lay-room = rw (all-lay x b some) room

  -- the completed blocks stay
  pub done-lay : done_of (lay x b) ≡ done_of b
  unfolding lay
  done-lay = blocks-paste b.lent b.state.blocks (used b.state) x b.lent.views b.lent.nulls (omega arith)
      (λ k j. omega (arith, below k j)) fits

  pub now-lay : blocks_now (lay x b) ≡ done_of b ++ (open_of b ++ x) ∷ []
  unfolding lay
  now-lay =
      let laid : open_of (lay x b) ≡ open_of b ++ x = open-paste b.lent.bytes b.state.base b.state.fill x fits in
      now-are (lay x b) lay-room ∙ rw (open-some (lay x b).state (omega arith), done-lay, laid)

  pub ext-lay : all_blocks b.state ≤ length b.lent.table → Ext (blocks_now b) (blocks_now (lay x b))
  ext-lay h = rw (now-are b h, now-lay) (by (is_open b.state) refl)
    where
      by : (t : Bool) → is_open b.state ≡ t → Ext (done_of b ++ opened t (open_of b)) (done_of b ++ (open_of b ++ x) ∷ [])
      by true e = ext-last (done_of b) (open_of b) x
      by false e =
          let none : open_of b ≡ [] = rw (open-empty b.state e) in
          rw (none, append-nil (done_of b)) (ext-add (done_of b) (x ∷ []))

  pub below-lay : Below (lay x b)
  unfolding lay
  below-lay = below

  pub length-open : length (open_of b) ≡ b.state.fill
  length-open = length-take-le b.state.fill (drop b.state.base b.lent.bytes) (rw length-drop (omega arith))

  pub length-done : length (done_of b) ≡ b.state.blocks
  length-done = length-blocks b.lent b.state.blocks (omega arith)
