-- No second answer to any call over records, and none to a step of the walk; of a part, also which one it is. What each promises is the fact that it
-- looks like, by the clauses that the toolchain makes of its contract, and that fact has one answer. Assumes nothing.
use Rattle.comparison.specs.declared.Side.{Side}
use Rattle.std.specs.Prelude.{Result}
use Rattle.order.specs.Order.{Order}
use mathlib.Core.Path.{◌≡◌, refl, sym, ◌∙◌}
use mathlib.Core.List.{List}
use Prim.Native.Nat.{ℕ}
use seplogic.Ra.Ura.{Ura}
use base.Logic.{SProp}
use base.Fml.{Lft}
use prog.Memory.{Memory}
use prog.Routine.{Routine}
use types.Logic.{Logic}
use contract.Monad.{Fun, fact}
use denote.Bor.{Bor}
use Rattle.bounds.specs.Refusals.{Why}
use Rattle.column.specs.declared.Block.{Block}
use Rattle.column.specs.declared.Column.{Column}
use Rattle.column.specs.Lent.{Lent, buffers}
use Rattle.reading.specs.Reading.{why_value, value_at, points_at}
use Rattle.reading.specs.Walk.{cursor, walk_value, walk_step}
use Rattle.comparison.specs.Compare.{compare_rows}
use Rattle.validity.specs.Check.{why_invalid}
use Rattle.blocks.specs.declared.Walk.{Walk}
use Rattle.blocks.specs.declared.Item.{Item}
use Rattle.blocks.specs.Walk.{held_by}
use Rattle.blocks.specs.contracts.why_value as why_value
use Rattle.blocks.specs.contracts.value as value
use Rattle.blocks.specs.contracts.compare as compare
use Rattle.blocks.specs.contracts.check as check
use Rattle.blocks.specs.contracts.new as new
use Rattle.blocks.specs.contracts.next as next

module _ {M : Type 1} {𝓤 : Ura M} (𝓛 : Logic 𝓤) (mem : Memory → SProp 𝓤) (run : Routine → Fun 𝓤) (κ : Lft) where
  -- a column's buffers, and its numbers
  module _ (x y : Bor (List ℕ)) (t : Bor (List Block)) (z : Bor (List ℕ)) (c : Column) where
    abbrev l : Lent
    l = buffers x.now y.now t.now z.now

    pub check-says : (w : Why) → (check.clauses 𝓛 mem run (κ, tt) (x, (y, (t, (z, (c, tt)))))).ensures tt w (x, (y, (t, (z, (c, tt)))))
        ≡ fact 𝓤 (w ≡ why_invalid l c)
    check-says w = refl

    pub check-one : (w w' : Why) → w ≡ why_invalid l c → w' ≡ why_invalid l c → w ≡ w'
    check-one w w' p q = p ∙ sym q

    abbrev pub new-fact : Walk → Type 0
    new-fact r = r ≡ record { views = x; bytes = y; table = t; nulls = z; column = c; at = 0 }

    pub new-says : (r : Walk) → (new.clauses 𝓛 mem run (κ, tt) (x, (y, (t, (z, (c, tt)))))).ensures tt r (x, (y, (t, (z, (c, tt))))) ≡ fact 𝓤 (new-fact r)
    new-says r = refl

    pub new-one : (r r' : Walk) → new-fact r → new-fact r' → r ≡ r'
    new-one r r' p q = p ∙ sym q

    module _ (row : ℕ) where
      pub why-value-says : (w : Why) → (why_value.clauses 𝓛 mem run (κ, tt) (x, (y, (t, (z, (c, (row, tt))))))).ensures tt w
          (x, (y, (t, (z, (c, (row, tt)))))) ≡ fact 𝓤 (w ≡ why_value l c row)
      why-value-says w = refl

      pub why-value-one : (w w' : Why) → w ≡ why_value l c row → w' ≡ why_value l c row → w ≡ w'
      why-value-one w w' p q = p ∙ sym q

      abbrev pub value-fact : Bor (List ℕ) → Type 0
      value-fact r = (r.now ≡ value_at l c row) × (r.ref_ptr ≡ points_at l c row x.ref_ptr y.ref_ptr)

      pub value-says : (r : Bor (List ℕ)) → (value.clauses 𝓛 mem run (κ, tt) (x, (y, (t, (z, (c, (row, tt))))))).ensures tt r
          (x, (y, (t, (z, (c, (row, tt)))))) ≡ fact 𝓤 (value-fact r)
      value-says r = refl

      pub value-one : (r r' : Bor (List ℕ)) → value-fact r → value-fact r' → (r.ref_ptr ≡ r'.ref_ptr) × (r.now ≡ r'.now)
      value-one r r' p q = (p.1 ∙ sym q.1, p.0 ∙ sym q.0)

      module _ (x2 y2 : Bor (List ℕ)) (t2 : Bor (List Block)) (z2 : Bor (List ℕ)) (d : Column) (j : ℕ) where
        abbrev pub compare-fact : Result Order Side → Type 0
        compare-fact o = o ≡ compare_rows l c row (buffers x2.now y2.now t2.now z2.now) d j

        pub compare-says : (o : Result Order Side) → (compare.clauses 𝓛 mem run (κ, tt)
            (x, (y, (t, (z, (c, (row, (x2, (y2, (t2, (z2, (d, (j, tt))))))))))))).ensures tt o
            (x, (y, (t, (z, (c, (row, (x2, (y2, (t2, (z2, (d, (j, tt)))))))))))) ≡ fact 𝓤 (compare-fact o)
        compare-says o = refl

        pub compare-one : (o o' : Result Order Side) → compare-fact o → compare-fact o' → o ≡ o'
        compare-one o o' p q = p ∙ sym q

  module _ (w : Walk) where
    abbrev pub next-fact : Item → Type 0
    next-fact r =
        ((r.value.now ≡ walk_value (held_by w) w.column (cursor w.at))
        × (r.value.ref_ptr ≡ points_at (held_by w) w.column w.at w.views.ref_ptr w.bytes.ref_ptr))
        × ((r.why ≡ (walk_step (held_by w) w.column (cursor w.at)).why)
        × (r.walk ≡ record {
          views = w.views;
          bytes = w.bytes;
          table = w.table;
          nulls = w.nulls;
          column = w.column;
          at = (walk_step (held_by w) w.column (cursor w.at)).next.at;
        }))

    pub next-says : (r : Item) → (next.clauses 𝓛 mem run (κ, tt) (w, tt)).ensures tt r (w, tt) ≡ fact 𝓤 (next-fact r)
    next-says r = refl

    pub next_one : (r r' : Item) → next-fact r → next-fact r'
        → ((r.value.ref_ptr ≡ r'.value.ref_ptr) × (r.value.now ≡ r'.value.now)) × ((r.why ≡ r'.why) × (r.walk ≡ r'.walk))
    next_one r r' p q = ((p.0.1 ∙ sym q.0.1, p.0.0 ∙ sym q.0.0), (p.1.0 ∙ sym q.1.0, p.1.1 ∙ sym q.1.1))
