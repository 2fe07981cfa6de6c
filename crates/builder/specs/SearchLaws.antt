-- A search of the merge table, turn by turn, and a row's test as the code makes it. Assumes nothing.
use Rattle.std.specs.Prelude.{◌≡◌, Bool, ◌&&◌, ltb, length, get_or, set, drop}
use Rattle.std.proofs.Math.Path.{refl, ap}
use Rattle.std.proofs.Common.{sym, ◌∙◌, length-set, get_or-set_same, get_or-set_other}
use Rattle.std.proofs.Math.Logic.{by_cases}
use Rattle.std.proofs.Math.Bool.{true, false}
use mathlib.Core.List.{List, []}
use Prim.Native.Nat.{ℕ, zero, suc, ◌+◌, ◌-◌, ◌≤◌, ◌<◌}
use Rattle.std.proofs.Math.Decide.{ℕ_discrete}
use native.Mathlib.Omega.{arith}
use borrow.Author.Tests.{lt-ltb, le-ltb, eq-eqb, ne_eqb}
use Rattle.std.proofs.Math.ListN.{take}
use Rattle.basis.specs.Pick.{pick, if_lt, lt_yes, lt_no}
use Rattle.order.specs.Order.{same}
use Rattle.order.proofs.OrderLaws.{same_true}
use Rattle.hash.specs.Hash.{hash_of}
use Rattle.views.specs.View.{short_most, view_at, length_of, block_of, offset_of}
use Rattle.views.specs.ViewLaws.{length-view}
use Rattle.merging.specs.declared.Found.{Found}
use Rattle.merging.specs.declared.Found.TheVariants.{Row, Free, Full}
use Rattle.merging.specs.Table.{after, on_entry, seek, search_from}
use Rattle.column.specs.declared.Reach.{Reach}
use Rattle.column.specs.declared.Reach.TheVariants.{Inside, NoBlock, Outside}
use Rattle.column.specs.Lent.{Lent, lent, buffers, block, in_data}
use Rattle.column.specs.Room.{bare}
use Rattle.column.specs.Meaning.{blocks_of, shown}
use Rattle.column.specs.Truth.{reach_of, is_inside, reachable}
use Rattle.column.proofs.ReachLaws.{reach-no-block, reach-no-data, reach-over, reach-inside, part-shown, length-shown}
use Rattle.builder.specs.declared.Merging.{Merging}
use Rattle.builder.specs.declared.State.{State}
use Rattle.builder.specs.State.{is_open, all_blocks}
use Rattle.builder.specs.Rooms.{open_starts, open_lens, shows_row, Ready}
use Rattle.builder.specs.DoesLaws.{recorded-is}
use Rattle.builder.specs.Values.{merges, found_by}

-- ---- the loop of a search

pub after-wrap : (n p : ℕ) → p + 1 ≡ n → 0 ≡ after n p
unfolding after
after-wrap n p h = let e : suc p ≡ n = omega arith in rw (eq-eqb (suc p) n e)

pub after_more : (n p : ℕ) → (p + 1 ≡ n → ⊥) → p + 1 ≡ after n p
unfolding after
after_more n p h = let e : p + 1 ≡ suc p = omega arith in rw (ne_eqb (suc p) n (λ z. h (e ∙ z))) e

module _ (t : List ℕ) (hit : ℕ → Bool) where
  pub seek-end : (p k : ℕ) → k ≡ 0 → Full ≡ seek t hit p k
  unfolding seek
  seek-end p zero h = refl
  seek-end p (suc k) h = absurd (omega arith)

  pub seek-empty : (p k : ℕ) → 0 < k → get_or t p 0 ≡ 0 → Free p ≡ seek t hit p k
  unfolding seek
  seek-empty p zero h e = absurd (omega arith)
  seek-empty p (suc k) h e = rw e

  pub seek_found : (p k : ℕ) → 0 < k → (get_or t p 0 ≡ 0 → ⊥) → hit (get_or t p 0 - 1) ≡ true → Row (get_or t p 0 - 1) ≡ seek t hit p k
  unfolding seek
  seek_found p zero h n e = absurd (omega arith)
  seek_found p (suc k) h n e = go (get_or t p 0) n e
    where
      go : (v : ℕ) → (v ≡ 0 → ⊥) → hit (v - 1) ≡ true → Row (v - 1) ≡ on_entry hit p v (seek t hit (after (length t) p) k)
      go zero m z = absurd (m refl)
      go (suc v) m z = let w : suc v - 1 ≡ v = omega arith in rw (w, rw w at z)

  pub seek-on : (p q k : ℕ) → q ≡ after (length t) p → 0 < k → (get_or t p 0 ≡ 0 → ⊥) → hit (get_or t p 0 - 1) ≡ false → seek t hit p k ≡ seek t hit q (k - 1)
  unfolding seek
  seek-on p q zero a h n e = absurd (omega arith)
  seek-on p q (suc k) a h n e = let u : suc k - 1 ≡ k = omega arith in rw (u, a) (go (get_or t p 0) n e)
    where
      go : (v : ℕ) → (v ≡ 0 → ⊥) → hit (v - 1) ≡ false → on_entry hit p v (seek t hit (after (length t) p) k) ≡ seek t hit (after (length t) p) k
      go zero m z = absurd (m refl)
      go (suc v) m z = let w : suc v - 1 ≡ v = omega arith in rw (rw w at z)

module _ (m : Merging) (places : List ℕ) (hit : ℕ → Bool) (x : List ℕ) where
  pub found-off : (t : Bool) → t ≡ merges m (length x) → t ≡ false → Full ≡ found_by m places hit x
  unfolding found_by
  found-off t e h = rw (← e, h)

  pub found-on : (t : Bool) (f : Found) → t ≡ merges m (length x) → t ≡ true → f ≡ search_from places hit (hash_of x) → f ≡ found_by m places hit x
  unfolding found_by
  found-on t f e h p = rw (← e, h) p

-- ---- the numbers of a block, the open one after the completed ones

open_at : (b : Bool) (l : List ℕ) (blocks last k : ℕ) → k < pick b (suc blocks) blocks → pick b (suc blocks) blocks ≤ length l
    → if_lt k blocks (get_or l k 0) last ≡ get_or (pick b (set l blocks last) l) k 0
open_at true l blocks last k h g =
    by_cases (ℕ_discrete k blocks)
    (λ e. sym (lt_no k blocks (get_or l k 0) last (get_or (set l blocks last) k 0) (omega arith) (rw e (get_or-set_same l blocks last 0 (omega arith)))))
    (λ d. sym (lt_yes k blocks (get_or l k 0) last (get_or (set l blocks last) k 0) (omega arith) (get_or-set_other l blocks k last 0 d)))
open_at false l blocks last k h g = sym (lt_yes k blocks (get_or l k 0) last (get_or l k 0) h refl)

open-length : (b : Bool) (l : List ℕ) (k v : ℕ) → length (pick b (set l k v) l) ≡ length l
open-length true l k v = length-set l k v
open-length false l k v = refl

module _ (s : State) (l : List ℕ) (k : ℕ) (h : k < all_blocks s) (g : all_blocks s ≤ length l) where
  pub start-at : if_lt k s.blocks (get_or l k 0) s.base ≡ get_or (open_starts s l) k 0
  unfolding all_blocks open_starts
  start-at = open_at (is_open s) l s.blocks s.base k h g

  pub size-at : if_lt k s.blocks (get_or l k 0) s.fill ≡ get_or (open_lens s l) k 0
  unfolding all_blocks open_lens
  size-at = open_at (is_open s) l s.blocks s.fill k h g

-- ---- a row's test

other_length : (y x : List ℕ) (n : ℕ) → length y ≡ n → (n ≡ length x → ⊥) → same y x ≡ false
other_length y x n e h = go (same y x) refl
  where
    go : (b : Bool) → same y x ≡ b → b ≡ false
    go true q = absurd (h (sym e ∙ ap length (same_true y x q)))
    go false q = refl

none : (a b : Bool) → false ≡ a && (false && b)
none true b = refl
none false b = refl

module _ (s : State) (vs bs ss ns x : List ℕ) (r : ℕ) where
  abbrev there : Lent
  there = lent vs bs (open_starts s ss) (open_lens s ns) []

  abbrev view : List ℕ
  view = view_at vs r

  shows-is : ltb r s.rows && (reachable there (all_blocks s) view && same (shown (blocks_of there (all_blocks s)) view) x) ≡ shows_row s (bare vs bs ss ns) x r
  unfolding shows_row
  shows-is = rw (recorded-is s vs bs ss ns [])

  pub shows-late : s.rows ≤ r → false ≡ shows_row s (bare vs bs ss ns) x r
  shows-late h = rw (← shows-is, le-ltb r s.rows h)

  unreached : (z : Reach) → z ≡ reach_of there (all_blocks s) view → is_inside z ≡ false → false ≡ shows_row s (bare vs bs ss ns) x r
  unfolding reachable
  unreached z e h =
      let w : reachable there (all_blocks s) view ≡ false = ap is_inside (sym e) ∙ h in
      rw (← shows-is, w) (none (ltb r s.rows) (same (shown (blocks_of there (all_blocks s)) view) x))

  module _ (rd : Ready s vs ss ns) where
    pub in-starts : all_blocks s ≤ length (open_starts s ss)
    unfolding open_starts
    in-starts = rw (open-length (is_open s) ss s.blocks s.base) rd.starts

    pub in_lens : all_blocks s ≤ length (open_lens s ns)
    unfolding open_lens
    in_lens = rw (open-length (is_open s) ns s.blocks s.fill) rd.lens

    pub shows-length : (len : ℕ) → r < s.rows → len ≡ length_of view → (len ≡ length x → ⊥) → false ≡ shows_row s (bare vs bs ss ns) x r
    shows-length len h e d = go (reachable there (all_blocks s) view) refl
      where
        go : (b : Bool) → reachable there (all_blocks s) view ≡ b → false ≡ shows_row s (bare vs bs ss ns) x r
        go true q =
            let size : length (shown (blocks_of there (all_blocks s)) view) ≡ len =
            length-shown vs bs (open_starts s ss) (open_lens s ns) [] (all_blocks s) view in-starts in_lens (length-view vs r (omega (arith, rd.rows)))
            q ∙ sym e in
            rw (← shows-is, q, other_length (shown (blocks_of there (all_blocks s)) view) x len size d, lt-ltb r s.rows h)
        go false q = rw (← shows-is, q) (none (ltb r s.rows) (same (shown (blocks_of there (all_blocks s)) view) x))

    module _ (len k : ℕ) (h : r < s.rows) (el : len ≡ length_of view) (ek : k ≡ block_of view) (long : short_most < len) where
      pub shows-past : all_blocks s ≤ k → false ≡ shows_row s (bare vs bs ss ns) x r
      shows-past p = unreached NoBlock (reach-no-block there (all_blocks s) view (rw (← el) long) (rw (← ek) p)) refl

      module _ (start size : ℕ) (hk : k < all_blocks s) (es : start ≡ if_lt k s.blocks (get_or ss k 0) s.base) (ez : size ≡ if_lt k s.blocks
          (get_or ns k 0) s.fill) where
        at-start : start ≡ get_or (open_starts s ss) k 0
        at-start = es ∙ start-at s ss k hk rd.starts

        at_size : size ≡ get_or (open_lens s ns) k 0
        at_size = ez ∙ size-at s ns k hk rd.lens

        pub shows-no-data : (t : Bool) → t ≡ in_data (buffers [] bs [] []) (block start size) → t ≡ false → false ≡ shows_row s (bare vs bs ss ns) x r
        shows-no-data t e f =
            unreached Outside
            (reach-no-data vs bs (open_starts s ss) (open_lens s ns) [] (all_blocks s) view k ek (rw (← el) long) hk in-starts in_lens
            (rw (← at-start, ← at_size) (sym e ∙ f))) refl

        module _ (t : Bool) (e : t ≡ in_data (buffers [] bs [] []) (block start size)) (f : t ≡ true) (o : ℕ) (eo : o ≡ offset_of view) where
          pub shows-over : size < o + len → false ≡ shows_row s (bare vs bs ss ns) x r
          shows-over p =
              unreached Outside
              (reach-over vs bs (open_starts s ss) (open_lens s ns) [] (all_blocks s) view k ek (rw (← el) long) hk in-starts in_lens
              (rw (← at-start, ← at_size) (sym e ∙ f))
              (rw (← eo, ← el, ← at_size) p)) refl

          pub shows-here : (y : Bool) → o + len ≤ size → y ≡ same (take (start + o + len - (start + o)) (drop (start + o) bs)) x
              → y ≡ shows_row s (bare vs bs ss ns) x r
          unfolding reachable
          shows-here y p q =
              let inside : Inside ≡ reach_of there (all_blocks s) view =
              reach-inside vs bs (open_starts s ss) (open_lens s ns) [] (all_blocks s) view k ek (rw (← el) long) hk in-starts in_lens
              (rw (← at-start, ← at_size) (sym e ∙ f))
              (rw (← eo, ← el, ← at_size) p) in
              let reached : reachable there (all_blocks s) view ≡ true = ap is_inside (sym inside) in
              let is : take (start + o + len - (start + o)) (drop (start + o) bs) ≡ shown (blocks_of there (all_blocks s)) view =
              rw at-start (part-shown vs bs (open_starts s ss) (open_lens s ns) [] (all_blocks s) view in-starts in_lens k o len ek eo el long reached) in
              q ∙ rw (is, ← shows-is, reached, lt-ltb r s.rows h)
