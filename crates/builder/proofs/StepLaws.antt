-- The small steps, as the code takes them. Assumes nothing.
use Rattle.std.specs.Prelude.{◌≡◌, Bool, true, false, not, ◌&&◌, List, ℕ, ◌+◌, max, ◌≤◌, ◌<◌, leb, set, Err}
use Rattle.std.proofs.Math.Path.{ap}
use Rattle.std.proofs.Common.{◌∙◌}
use borrow.Author.Tests.{lt-ltb, le-ltb, eq-eqb, ne_eqb}
use Rattle.basis.specs.Pick.{pick}
use Rattle.bounds.specs.Refusals.{refuse, accepted}
use Rattle.bounds.specs.declared.Refusal.TheVariants.{BlockRoom, DataRoom}
use Rattle.growth.specs.Growing.{fits_growth, size_of, grown, step_why, step_of}
use Rattle.growth.specs.declared.Step.{Step}
use Rattle.builder.specs.declared.State.{State}
use Rattle.builder.specs.State.{moved, all_blocks, used, closed, sized, fits_open}
use Rattle.builder.specs.Rooms.{open_starts, open_lens}
use Rattle.builder.specs.Values.{why_lay}

pub pick_yes : {A : Type 0} (t u : Bool) (a b x : A) → u ≡ t → u ≡ true → x ≡ a → x ≡ pick t a b
pick_yes t u a b x e h p = rw (← e, h) p

pub pick_no : {A : Type 0} (t u : Bool) (a b x : A) → u ≡ t → u ≡ false → x ≡ b → x ≡ pick t a b
pick_no t u a b x e h p = rw (← e, h) p

module _ (s : State) (n : ℕ) where
  pub open_none : s.fill ≡ 0 → false ≡ fits_open s n
  unfolding fits_open
  open_none h = rw (eq-eqb s.fill 0 h)

  pub open-takes : (s.fill ≡ 0 → ⊥) → leb (s.fill + n) s.cap ≡ fits_open s n
  unfolding fits_open
  open-takes h = rw (ne_eqb s.fill 0 h)

  -- a new block and the next size
  pub fresh-is : (st : Step) (k m : ℕ) → st ≡ step_of s.growth → fits_growth s.growth ≡ true → k ≡ all_blocks s → m ≡ max n st.size
      → moved s st.growth s.rows k (s.base + s.fill) 0 m s.nulled ≡ sized n (closed s)
  unfolding sized closed step_of step_why refuse
  fresh-is st k m e h p q =
      let g : st.growth ≡ grown s.growth = ap (λ (z : Step). z.growth) e ∙ rw h in
      let z : st.size ≡ size_of s.growth = ap (λ (z : Step). z.size) e ∙ rw h in
      rw (q, z, p, g)

-- the open block's record
module _ (s : State) (ss ns : List ℕ) where
  pub record-none : s.fill ≡ 0 → (ss ≡ open_starts s ss) × (ns ≡ open_lens s ns)
  unfolding open_starts open_lens
  record-none h = (rw (eq-eqb s.fill 0 h), rw (eq-eqb s.fill 0 h))

  pub record-open : (s.fill ≡ 0 → ⊥) → (set ss s.blocks s.base ≡ open_starts s ss) × (set ns s.blocks s.fill ≡ open_lens s ns)
  unfolding open_starts open_lens
  record-open h = (rw (ne_eqb s.fill 0 h), rw (ne_eqb s.fill 0 h))

-- 6 and 7
module _ (s : State) (blocks bytes n : ℕ) where
  pub no_block : (t : Bool) → t ≡ fits_open s n → t ≡ true → false ≡ not (fits_open s n) && leb blocks (all_blocks s)
  no_block t e h = rw (← e, h)

  pub a_block : (t : Bool) → t ≡ fits_open s n → t ≡ false → leb blocks (all_blocks s) ≡ not (fits_open s n) && leb blocks (all_blocks s)
  a_block t e h = rw (← e, h)

  pub lay-no-block : (t : Bool) → t ≡ not (fits_open s n) && leb blocks (all_blocks s) → t ≡ true → Err BlockRoom ≡ why_lay s blocks bytes n
  unfolding why_lay refuse
  lay-no-block t e h = rw (← e, h)

  pub lay-no-data : (t : Bool) → t ≡ not (fits_open s n) && leb blocks (all_blocks s) → t ≡ false → bytes < used s + n → Err DataRoom
      ≡ why_lay s blocks bytes n
  unfolding why_lay refuse
  lay-no-data t e h g = rw (← e, h, lt-ltb bytes (used s + n) g)

  pub lay-fine : (t : Bool) → t ≡ not (fits_open s n) && leb blocks (all_blocks s) → t ≡ false → used s + n ≤ bytes → accepted ≡ why_lay s blocks bytes n
  unfolding why_lay refuse
  lay-fine t e h g = rw (← e, h, le-ltb bytes (used s + n) g)
