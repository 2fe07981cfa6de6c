-- The builder's numbers while lines are added: at most one block, open and from 0 on, in which there is room for all that can come.
-- So no call is refused. Assumes nothing.
use mathlib.Core.Path.{◌≡◌, refl, sym, ap, ◌∙◌, subst}
use mathlib.Core.Bool.{Bool, true, false, not}
use mathlib.Core.Logic.{by_cases}
use mathlib.Core.List.{List}
use Prim.Native.Nat.{ℕ, ◌+◌, ◌≤◌, ◌<◌}
use native.Mathlib.Nat.{add-zero}
use native.Mathlib.Decide.{ℕ_discrete}
use native.Mathlib.Omega.{arith}
use borrow.Author.Tests.{leb-false, le-leb, lt-leb, le-ltb, ne_eqb}
use lib.Dec.{ltb}
use lib.ListN.{length}
use Rattle.basis.specs.Pick.{pick}
use Rattle.bounds.specs.Bounds.{byte_limit, byte-limit-is}
use Rattle.bounds.specs.Refusals.{refuse, refuse-no, accepted}
use Rattle.growth.specs.Growing.{start_size, largest_size, next_size, size_of}
use Rattle.growth.specs.declared.Growth.TheVariants.{Doubling}
use Rattle.views.specs.View.{short_most, is_short, short_view, zero_view}
use Rattle.merging.specs.declared.Found.TheVariants.{Full}
use Rattle.merging.specs.Table.{is_row}
use Rattle.column.specs.declared.Kind.TheVariants.{Binary}
use Rattle.column.specs.Lent.{block_room, data_room}
use Rattle.column.specs.Truth.{of_kind}
use Rattle.builder.specs.declared.Merging.TheVariants.{Off}
use Rattle.builder.specs.State.{Builder, rows_room, is_open, all_blocks, used, fits_state, closed, complete, fits_open, sized, make_room, lay, add_row, add_rows}
use Rattle.builder.specs.Values.{found_by, found, why_lay, why_store, why_rows, why_values, store, put_found, put_value, put_values, why_null, put_null}
use Rattle.promise.specs.Calls.{Cell}
use Rattle.promise.proofs.Fits.{are-fits, data-bytes, sizes-then, sizes-complete, sizes-grow, sizes-lay, grow, room-is}
use Rattle.promise.proofs.Steps.{Inv}
use Rattle.promise.proofs.Gets.{rows_are}

-- n bytes of long values were laid, in the first block, whose capacity is the first size
pub record Numbers (n : ℕ) (b : Builder) : Type 0 where
  pub kind : b.state.kind ≡ Binary
  pub merging : b.state.merging ≡ Off
  pub blocks : b.state.blocks ≡ 0
  pub base : b.state.base ≡ 0
  pub fill : b.state.fill ≡ n
  pub fresh : n ≡ 0 → b.state.growth ≡ Doubling start_size
  pub cap : 0 < n → b.state.cap ≡ 16384
  pub table : 1 ≤ block_room b.lent
  pub bytes : 16379 ≤ data_room b.lent

-- ---- no call is refused

is_open_lem : (b : Builder) (n : ℕ) → Numbers n b → 0 < n → is_open b.state ≡ true
is_open_lem b n a h = rw (ne_eqb b.state.fill 0 (λ e. omega (arith, a.fill))) refl

none_found : (b : Builder) (x : List ℕ) → b.state.merging ≡ Off → found b x ≡ Full
unfolding found found_by
none_found b x e = rw e

module _ (b : Builder) (n : ℕ) (a : Numbers n b) (k : ℕ) (r : n + k ≤ 16379) where
  lay-open : 0 < n → why_lay b.state (block_room b.lent) (data_room b.lent) k ≡ accepted
  unfolding why_lay fits_open refuse
  lay-open h =
      rw (
        is_open_lem b n a h,
        le-leb (b.state.fill + k) b.state.cap (omega (arith, a.fill, a.cap h)),
        le-ltb (data_room b.lent) (used b.state + k) (omega (arith, a.fill, a.base, a.bytes)),
      )

  lay-first : n ≡ 0 → why_lay b.state (block_room b.lent) (data_room b.lent) k ≡ accepted
  unfolding why_lay fits_open refuse all_blocks
  lay-first h =
      let z : b.state.fill ≡ 0 = a.fill ∙ h in
      rw (
        z,
        lt-leb (block_room b.lent) b.state.blocks (omega (arith, a.blocks, a.table)),
        le-ltb (data_room b.lent) (b.state.base + 0 + k) (omega (arith, a.base, a.bytes)),
      )

  pub why-store : (x : List ℕ) → length x ≡ k → why_store b x ≡ accepted
  unfolding why_store
  why-store x e = go (is_short (length x))
    where
      lays : why_lay b.state (block_room b.lent) (data_room b.lent) k ≡ accepted
      lays = by_cases (ℕ_discrete n 0) lay-first (λ q. lay-open (omega arith))

      go : (t : Bool) → pick t accepted (pick (is_row (found b x)) accepted (why_lay b.state (block_room b.lent) (data_room b.lent) (length x))) ≡ accepted
      go true = refl
      go false = rw (none_found b x a.merging, e) lays

-- rows of a builder that shows cells, and whose room is m
module _ {m : ℕ} (b : Builder) (xs : List Cell) (i : Inv m b xs) (h : length xs < m) where
  pub why-null : why_null b ≡ accepted
  unfolding why_null refuse
  why-null = rw (are-fits b i.fits, lt-leb (rows_room b) b.state.rows (omega (arith, rows_are b xs i, i.room)))

  pub why-value : (n : ℕ) → Numbers n b → (x : List ℕ) → n + length x ≤ 16379 → why_values 1 b x ≡ accepted
  unfolding why_values why_rows
  why-value n a x r =
      let fits : not (fits_state b) ≡ false = rw (are-fits b i.fits) in
      let long : ltb byte_limit (length x) ≡ false = le-ltb byte_limit (length x) (omega (arith, byte-limit-is)) in
      let kind : not (of_kind b.state.kind x) ≡ false = rw a.kind in
      let rows : ltb (rows_room b) (b.state.rows + 1) ≡ false = le-ltb (rows_room b) (b.state.rows + 1) (omega (arith, rows_are b xs i, i.room)) in
      sym (refuse-no _ _ _ _ fits (refuse-no _ _ _ _ long (refuse-no _ _ _ _ kind (refuse-no _ _ _ _ rows (sym (why-store b n a (length x) r x refl))))))

-- ---- the numbers after each call

pub numbers-row : (b : Builder) (n : ℕ) (v : List ℕ) (t : Bool) → Numbers n b → Numbers n (add_row v t b)
unfolding add_row block_room data_room
numbers-row b n v t a =
    record {
      kind = a.kind;
      merging = a.merging;
      blocks = a.blocks;
      base = a.base;
      fill = a.fill;
      fresh = a.fresh;
      cap = a.cap;
      table =
          a.table;
      bytes = a.bytes;
    }

pub numbers-null : (b : Builder) (n : ℕ) → Numbers n b → Numbers n (put_null b)
unfolding put_null
numbers-null b n a = numbers-row b n zero_view false a

-- a block that takes what comes: it is open, or was just made
record Ready (n : ℕ) (b : Builder) : Type 0 where
  kind : b.state.kind ≡ Binary
  merging : b.state.merging ≡ Off
  blocks : b.state.blocks ≡ 0
  base : b.state.base ≡ 0
  fill : b.state.fill ≡ n
  cap : b.state.cap ≡ 16384
  table : 1 ≤ block_room b.lent
  bytes : 16379 ≤ data_room b.lent

ready-open : (b : Builder) (n : ℕ) → Numbers n b → 0 < n → Ready n b
ready-open b n a h =
    record { kind = a.kind; merging = a.merging; blocks = a.blocks; base = a.base; fill = a.fill; cap = a.cap h; table = a.table; bytes = a.bytes }

first-size : size_of (Doubling start_size) ≡ 16384
unfolding start_size next_size largest_size
first-size = refl

ready-first : (b : Builder) (k : ℕ) → Numbers 0 b → k ≤ 16379 → Ready 0 (grow k (complete b))
unfolding grow sized complete closed all_blocks
ready-first b k a r =
    let s = sizes-then (sizes-complete b) (sizes-grow k (complete b)) in
    let g : size_of b.state.growth ≡ 16384 = ap size_of (a.fresh refl) ∙ first-size in
    record {
      kind = a.kind;
      merging = a.merging;
      blocks = rw a.fill a.blocks;
      base = omega (arith, a.base, a.fill);
      fill = refl;
      cap = rw g (omega arith);
      table = omega (arith, a.table, s.blocks);
      bytes = omega (arith, a.bytes, s.bytes);
    }

-- the open block takes k bytes more, or the first is made
fits_all : (b : Builder) (n k : ℕ) → Numbers n b → 0 < n → n + k ≤ 16379 → fits_open b.state k ≡ true
unfolding fits_open
fits_all b n k a h r = rw (is_open_lem b n a h, le-leb (b.state.fill + k) b.state.cap (omega (arith, a.fill, a.cap h)))

fits-none : (b : Builder) (k : ℕ) → Numbers 0 b → fits_open b.state k ≡ false
unfolding fits_open
fits-none b k a = rw a.fill

ready : (b : Builder) (n k : ℕ) → Numbers n b → n + k ≤ 16379 → Ready n (make_room k b)
ready b n k a r = subst (Ready n) (sym (room-is k b)) (by_cases (ℕ_discrete n 0) first later)
  where
    first : n ≡ 0 → Ready n (pick (fits_open b.state k) b (grow k (complete b)))
    first e =
        let z : Numbers 0 b = subst (λ (j : ℕ). Numbers j b) e a in
        rw (e, fits-none b k z) (ready-first b k z (omega arith))

    later : (n ≡ 0 → ⊥) → Ready n (pick (fits_open b.state k) b (grow k (complete b)))
    later q =
        let h : 0 < n = omega arith in
        rw (fits_all b n k a h r) (ready-open b n a h)

-- x laid in it
numbers-lay : (b : Builder) (n : ℕ) (x : List ℕ) → Ready n b → n + length x ≤ 16379 → 0 < length x → Numbers (n + length x) (lay x b)
unfolding lay
numbers-lay b n x a r h =
    let s = sizes-lay x b (omega (arith, a.base, a.fill, a.bytes, data-bytes b.lent)) in
    record {
      kind = a.kind;
      merging = a.merging;
      blocks = a.blocks;
      base = a.base;
      fill = omega (arith, a.fill);
      fresh = λ z. absurd (omega arith);
      cap = λ z. a.cap;
      table = omega (arith, a.table, s.blocks);
      bytes = omega (arith, a.bytes, s.bytes);
    }

-- what a value adds to the block
abbrev pub long_of : List ℕ → ℕ
long_of x = pick (is_short (length x)) 0 (length x)

pub numbers-value : (b : Builder) (n : ℕ) (x : List ℕ) → Numbers n b → n + length x ≤ 16379 → Numbers (n + long_of x) (put_values 1 x b)
unfolding put_values add_rows put_value put_found store
numbers-value b n x a r = go (is_short (length x)) refl
  where
    go : (t : Bool) → is_short (length x) ≡ t → Numbers (n + pick t 0 (length x)) (pick t (add_row (short_view x) true b) (put_found (found b x) x b))
    go true e = rw (add-zero n) (numbers-row b n (short_view x) true a)
    go false e =
        rw (none_found b x a.merging)
        (numbers-row _ (n + length x) _ true (numbers-lay (make_room (length x) b) n x (ready b n (length x) a r) r
        (omega (arith, leb-false (length x) short_most e))))
