-- A table of records is as good as one of a single place that holds nothing, as long as it has a place. Assumes nothing.
use Rattle.std.specs.Prelude.{Ok, Err}
use mathlib.Core.Path.{◌≡◌, refl, ap, subst, ◌∙◌}
use mathlib.Core.Bool.{Bool, true, false}
use mathlib.Core.List.{List, [], ◌∷◌}
use Prim.Native.Nat.{ℕ, ◌≤◌, ◌<◌, min}
use native.Mathlib.Omega.{arith}
use borrow.Author.Tests.{le-ltb}
use lib.ListN.{length, set, take}
use Rattle.bounds.specs.Bounds.{block-limit-is}
use Rattle.bounds.specs.Refusals.{is_accepted, if_accepted, accepted, Why}
use Rattle.column.specs.declared.Block.{Block}
use Rattle.column.specs.declared.Kind.{Kind}
use Rattle.column.specs.Lent.{buffers, block, table_of, row_room, block_room, data_room}
use Rattle.showing.specs.Rooms.{rooms}
use Rattle.laying.specs.Rooms.{why_rooms}
use Rattle.offsets.specs.declared.Outcome.{Outcome}
use Rattle.offsets.specs.Offsets.{Source, why_offsets, from_offsets, offset_column, no_column, offsets_of, Converted}
use Rattle.offsets.specs.CallLaws.{given}
use Rattle.output_blocks.specs.Tabled.{Tabled}

module _ (s : Source) (k : Kind) (vs bs ms : List ℕ) where
  some-room : (b : Block) (t : List Block) → 1 ≤ block_room (buffers vs bs (b ∷ t) ms)
  unfolding block_room
  some-room b t = omega (arith, block-limit-is)

  why-same : (b c : Block) (t u : List Block) → why_offsets 4 s k (buffers vs bs (b ∷ t) ms) ≡ why_offsets 4 s k (buffers vs bs (c ∷ u) ms)
  unfolding why_offsets why_rooms row_room data_room
  why-same b c t u =
      rw (le-ltb (block_room (buffers vs bs (b ∷ t) ms)) 1 (some-room b t), le-ltb (block_room (buffers vs bs (c ∷ u) ms)) 1 (some-room c u))

  -- no place: never accepted
  none-why : is_accepted (why_offsets 4 s k (buffers vs bs [] ms)) ≡ true → 1 ≤ 0
  none-why a = omega (arith, (given 4 s k (buffers vs bs [] ms) a).rooms.block, (rooms true (buffers vs bs [] ms)).table)

  refused_why : (w : Why) → (is_accepted w ≡ true → 1 ≤ 0) → {A : Type 0} (x y : A) → y ≡ if_accepted w x y
  refused_why (Ok _) h x y = absurd (omega (arith, h refl))
  refused_why (Err r) h x y = refl

  same : {A : Type 0} (w : Why) (x : A) → if_accepted w x x ≡ x
  same (Ok _) x = refl
  same (Err r) x = refl

  pub tabled : (t : List Block) (n : ℕ) (r : Outcome) (vs' bs' ss' ns' ms' : List ℕ) (t' : List Block) → n ≡ min (length t) 1
      → Converted 4 s k vs bs (take n (0 ∷ [])) (take n (0 ∷ [])) ms r vs' bs' ss' ns' ms'
      → t' ≡ if_accepted r.why (set t 0 (block 0 (length s.bytes))) t
      → Tabled s k vs bs t ms r vs' bs' t' ms'
  unfolding table_of from_offsets offsets_of
  tabled [] n r vs' bs' ss' ns' ms' t' e p q =
      let n0 : n ≡ 0 = omega (arith, e) in
      let p' : Converted 4 s k vs bs [] [] ms r vs' bs' ss' ns' ms' =
      subst (λ (m : ℕ). Converted 4 s k vs bs (take m (0 ∷ [])) (take m (0 ∷ [])) ms r vs' bs' ss' ns' ms') n0 p in
      record {
        apart = record { answer = p'.answer; views = p'.views; bytes = p'.bytes; nulls = p'.nulls };
        table = q ∙ same r.why [] ∙ refused_why (why_offsets 4 s k (buffers vs bs [] ms)) none-why _ [];
      }
  tabled (b ∷ t) n r vs' bs' ss' ns' ms' t' e p q =
      let n1 : n ≡ 1 = omega (arith, e) in
      let p' : Converted 4 s k vs bs (0 ∷ []) (0 ∷ []) ms r vs' bs' ss' ns' ms' =
      subst (λ (m : ℕ). Converted 4 s k vs bs (take m (0 ∷ [])) (take m (0 ∷ [])) ms r vs' bs' ss' ns' ms') n1 p in
      let w : why_offsets 4 s k (buffers vs bs (block 0 0 ∷ []) ms) ≡ why_offsets 4 s k (buffers vs bs (b ∷ t) ms) = why-same (block 0 0) b [] t in
      let y : r.why ≡ why_offsets 4 s k (buffers vs bs (b ∷ t) ms) = ap (λ (o : Outcome). o.why) p'.answer ∙ w in
      record {
        apart =
            record {
              answer = p'.answer ∙ ap (λ (v : Why). record { why = v; column = if_accepted v (offset_column 4 s k) (no_column 4 s k) }) w;
              views = p'.views ∙ ap (λ (v : Why). if_accepted v (from_offsets 4 s (buffers vs bs (b ∷ t) ms)).views vs) w;
              bytes = p'.bytes ∙ ap (λ (v : Why). if_accepted v (from_offsets 4 s (buffers vs bs (b ∷ t) ms)).bytes bs) w;
              nulls = p'.nulls ∙ ap (λ (v : Why). if_accepted v (from_offsets 4 s (buffers vs bs (b ∷ t) ms)).nulls ms) w;
            };
        table = q ∙ ap (λ (v : Why). if_accepted v (block 0 (length s.bytes) ∷ t) (b ∷ t)) y;
      }

  -- an accepted call has a place for the record
  pub has-place : (t : List Block) (n : ℕ) (r : Outcome) (vs' bs' ss' ns' ms' : List ℕ) → n ≡ min (length t) 1
      → Converted 4 s k vs bs (take n (0 ∷ [])) (take n (0 ∷ [])) ms r vs' bs' ss' ns' ms' → is_accepted r.why ≡ true → 0 < length t
  unfolding table_of offsets_of
  has-place [] n r vs' bs' ss' ns' ms' e p a =
      let n0 : n ≡ 0 = omega (arith, e) in
      let p' : Converted 4 s k vs bs [] [] ms r vs' bs' ss' ns' ms' =
      subst (λ (m : ℕ). Converted 4 s k vs bs (take m (0 ∷ [])) (take m (0 ∷ [])) ms r vs' bs' ss' ns' ms') n0 p in
      absurd (omega (arith, none-why (rw (ap (λ (o : Outcome). o.why) p'.answer) at a)))
  has-place (b ∷ t) n r vs' bs' ss' ns' ms' e p a = omega arith
