-- The contracts of the builder's functions, as they stand in the code, are calls that are met. Assumes nothing.
use mathlib.Core.Path.{◌≡◌, refl, sym, ap, ◌∙◌, subst}
use mathlib.Core.List.{List}
use Prim.Native.Nat.{ℕ}
use contract.Lifetimes.{Lfts}
use denote.Triple.Clauses.{AtExit}
use borrow.Fn.Kinds.{Dens, res_t, ended_of}
use Rattle.values.proofs.append_null.Kinds as null-kinds
use Rattle.values.proofs.append_null.Reads as null
use Rattle.values.proofs.append_value.Kinds as value-kinds
use Rattle.values.proofs.append_value.Reads as value
use Rattle.values.proofs.append_values.Kinds as values-kinds
use Rattle.values.proofs.append_values.Reads as values
use Rattle.finishing.proofs.start.Kinds as start-kinds
use Rattle.finishing.proofs.start.Reads as begin
use Rattle.finishing.proofs.finish.Kinds as finish-kinds
use Rattle.finishing.proofs.finish.Reads as ends
use Rattle.finishing.proofs.finish_copy.Kinds as copy-kinds
use Rattle.finishing.proofs.finish_copy.Reads as copy
use Rattle.appending.proofs.append_block.Kinds as block-kinds
use Rattle.appending.proofs.append_block.Reads as block
use Rattle.appending.proofs.append_view.Kinds as view-kinds
use Rattle.appending.proofs.append_view.Reads as view
use Rattle.appending.proofs.append_column.Kinds as column-kinds
use Rattle.appending.proofs.append_column.Reads as column
use Rattle.bounds.specs.Refusals.{if_accepted, accepted, Why}
use Rattle.column.specs.Lent.{lent, lent_of}
use Rattle.builder.specs.declared.Answer.{Answer}
use Rattle.builder.specs.State.{Builder, builder}
use Rattle.builder.specs.Start.{why_start, started, unstarted, start_state, cleared, start_places, start}
use Rattle.promise.specs.Calls.{Call, Ran, adds_values, adds_null, adds_block, adds_view, adds_column, finish_copy, finish}
use Rattle.promise.specs.Coded.{Slices, held_in, CallMet, Coded}
use Rattle.promise.specs.Kept.{Reached, by_calls}
use Rattle.promise.proofs.Coded.{coded}

-- a value n times: what it is called with, what it leaves, and that its own `ensures` meets the call
abbrev values-in : (κs : Lfts 7) → Dens κs values-kinds.ps → Slices
values-in κs a = record {
  state = a.0;
  views = a.1.0.now;
  bytes = a.1.1.0.now;
  starts = a.1.1.1.0.now;
  lens = a.1.1.1.1.0.now;
  nulls = a.1.1.1.1.1.0.now;
  places = a.1.1.1.1.1.1.0.now;
}

abbrev values-out : (κs : Lfts 7) → (res_t values-kinds.r κs).Denot → AtExit (ended_of 7 values-kinds.ps values-kinds.r) κs → Slices
values-out κs z s = record {
  state = z.state;
  views = s.1.0.now;
  bytes = s.1.1.0.now;
  starts = s.1.1.1.0.now;
  lens = s.1.1.1.1.0.now;
  nulls = s.1.1.1.1.1.0.now;
  places = s.1.1.1.1.1.1.0.now;
}

pub values-met : (κs : Lfts 7) (a : Dens κs values-kinds.ps) (z : (res_t values-kinds.r κs).Denot)
    (s : AtExit (ended_of 7 values-kinds.ps values-kinds.r) κs) → values.Post κs a z s → z.why ≡ accepted
    → CallMet (adds_values a.1.1.1.1.1.1.1.1.0 a.1.1.1.1.1.1.1.0.now) (values-in κs a) z (values-out κs z s)
values-met κs a z s p e = record { does = p; accepted = e; state = refl }

-- a value
abbrev value_in_lem : (κs : Lfts 7) → Dens κs value-kinds.ps → Slices
value_in_lem κs a = record {
  state = a.0;
  views = a.1.0.now;
  bytes = a.1.1.0.now;
  starts = a.1.1.1.0.now;
  lens = a.1.1.1.1.0.now;
  nulls = a.1.1.1.1.1.0.now;
  places = a.1.1.1.1.1.1.0.now;
}

abbrev value_out : (κs : Lfts 7) → (res_t value-kinds.r κs).Denot → AtExit (ended_of 7 value-kinds.ps value-kinds.r) κs → Slices
value_out κs z s = record {
  state = z.state;
  views = s.1.0.now;
  bytes = s.1.1.0.now;
  starts = s.1.1.1.0.now;
  lens = s.1.1.1.1.0.now;
  nulls = s.1.1.1.1.1.0.now;
  places = s.1.1.1.1.1.1.0.now;
}

pub value-met : (κs : Lfts 7) (a : Dens κs value-kinds.ps) (z : (res_t value-kinds.r κs).Denot) (s : AtExit (ended_of 7 value-kinds.ps value-kinds.r) κs)
    → value.Post κs a z s → z.why ≡ accepted
    → CallMet (adds_values 1 a.1.1.1.1.1.1.1.0.now) (value_in_lem κs a) z (value_out κs z s)
value-met κs a z s p e = record { does = p; accepted = e; state = refl }

-- a null
abbrev null-in : (κs : Lfts 6) → Dens κs null-kinds.ps → Slices
null-in κs a = record {
  state = a.0;
  views = a.1.0.now;
  bytes = a.1.1.0.now;
  starts = a.1.1.1.0.now;
  lens = a.1.1.1.1.0.now;
  nulls = a.1.1.1.1.1.0.now;
  places = a.1.1.1.1.1.1.0.now;
}

-- what is lent as it is stays as it is
abbrev null-out : (κs : Lfts 6) → Dens κs null-kinds.ps → (res_t null-kinds.r κs).Denot → AtExit (ended_of 6 null-kinds.ps null-kinds.r) κs → Slices
null-out κs a z s = record {
  state = z.state;
  views = s.1.0.now;
  bytes = a.1.1.0.now;
  starts = a.1.1.1.0.now;
  lens = a.1.1.1.1.0.now;
  nulls = s.1.1.1.1.1.0.now;
  places = a.1.1.1.1.1.1.0.now;
}

pub null-met : (κs : Lfts 6) (a : Dens κs null-kinds.ps) (z : (res_t null-kinds.r κs).Denot) (s : AtExit (ended_of 6 null-kinds.ps null-kinds.r) κs)
    → null.Post κs a z s → z.why ≡ accepted
    → CallMet adds_null (null-in κs a) z (null-out κs a z s)
null-met κs a z s p e = record { does = p; accepted = e; state = refl }

-- a block
abbrev block_in : (κs : Lfts 7) → Dens κs block-kinds.ps → Slices
block_in κs a = record {
  state = a.0;
  views = a.1.0.now;
  bytes = a.1.1.0.now;
  starts = a.1.1.1.0.now;
  lens = a.1.1.1.1.0.now;
  nulls = a.1.1.1.1.1.0.now;
  places = a.1.1.1.1.1.1.0.now;
}

abbrev block_out : (κs : Lfts 7) → Dens κs block-kinds.ps → (res_t block-kinds.r κs).Denot → AtExit (ended_of 7 block-kinds.ps block-kinds.r) κs → Slices
block_out κs a z s = record {
  state = z.answer.state;
  views = a.1.0.now;
  bytes = s.1.1.0.now;
  starts = s.1.1.1.0.now;
  lens = s.1.1.1.1.0.now;
  nulls = a.1.1.1.1.1.0.now;
  places = a.1.1.1.1.1.1.0.now;
}

pub block-met : (κs : Lfts 7) (a : Dens κs block-kinds.ps) (z : (res_t block-kinds.r κs).Denot) (s : AtExit (ended_of 7 block-kinds.ps block-kinds.r) κs)
    → block.Post κs a z s → z.answer.why ≡ accepted
    → CallMet (adds_block a.1.1.1.1.1.1.1.0.now) (block_in κs a) z.answer (block_out κs a z s)
block-met κs a z s p e = record { does = p.0; accepted = e; state = refl }

-- a view of a completed block
abbrev view_in_lem : (κs : Lfts 6) → Dens κs view-kinds.ps → Slices
view_in_lem κs a = record {
  state = a.0;
  views = a.1.0.now;
  bytes = a.1.1.0.now;
  starts = a.1.1.1.0.now;
  lens = a.1.1.1.1.0.now;
  nulls = a.1.1.1.1.1.0.now;
  places = a.1.1.1.1.1.1.0.now;
}

abbrev view_out : (κs : Lfts 6) → Dens κs view-kinds.ps → (res_t view-kinds.r κs).Denot → AtExit (ended_of 6 view-kinds.ps view-kinds.r) κs → Slices
view_out κs a z s = record {
  state = z.state;
  views = s.1.0.now;
  bytes = a.1.1.0.now;
  starts = a.1.1.1.0.now;
  lens = a.1.1.1.1.0.now;
  nulls = s.1.1.1.1.1.0.now;
  places = a.1.1.1.1.1.1.0.now;
}

pub view-met : (κs : Lfts 6) (a : Dens κs view-kinds.ps) (z : (res_t view-kinds.r κs).Denot) (s : AtExit (ended_of 6 view-kinds.ps view-kinds.r) κs)
    → view.Post κs a z s → z.why ≡ accepted
    → CallMet (adds_view a.1.1.1.1.1.1.1.0 a.1.1.1.1.1.1.1.1.0 a.1.1.1.1.1.1.1.1.1.0) (view_in_lem κs a) z (view_out κs a z s)
view-met κs a z s p e = record { does = p; accepted = e; state = refl }

-- a column, with its own slices
abbrev column-in : (κs : Lfts 8) → Dens κs column-kinds.ps → Slices
column-in κs a = record {
  state = a.0;
  views = a.1.0.now;
  bytes = a.1.1.0.now;
  starts = a.1.1.1.0.now;
  lens = a.1.1.1.1.0.now;
  nulls = a.1.1.1.1.1.0.now;
  places = a.1.1.1.1.1.1.0.now;
}

abbrev column-out : (κs : Lfts 8) → Dens κs column-kinds.ps → (res_t column-kinds.r κs).Denot → AtExit (ended_of 8 column-kinds.ps column-kinds.r) κs → Slices
column-out κs a z s = record {
  state = z.state;
  views = s.1.0.now;
  bytes = s.1.1.0.now;
  starts = s.1.1.1.0.now;
  lens = s.1.1.1.1.0.now;
  nulls = s.1.1.1.1.1.0.now;
  places = a.1.1.1.1.1.1.0.now;
}

pub column-met : (κs : Lfts 8) (a : Dens κs column-kinds.ps) (z : (res_t column-kinds.r κs).Denot)
    (s : AtExit (ended_of 8 column-kinds.ps column-kinds.r) κs) → column.Post κs a z s → z.why ≡ accepted
    → CallMet (adds_column (lent_of a.1.1.1.1.1.1.1.0) a.1.1.1.1.1.1.1.1.0)
    (column-in κs a) z (column-out κs a z s)
column-met κs a z s p e = record { does = p; accepted = e; state = refl }

-- a finish by copy
abbrev copy-in : (κs : Lfts 6) → Dens κs copy-kinds.ps → Slices
copy-in κs a = record {
  state = a.0;
  views = a.1.0.now;
  bytes = a.1.1.0.now;
  starts = a.1.1.1.0.now;
  lens = a.1.1.1.1.0.now;
  nulls = a.1.1.1.1.1.0.now;
  places = a.1.1.1.1.1.1.0.now;
}

abbrev copy-out : (κs : Lfts 6) → Dens κs copy-kinds.ps → (res_t copy-kinds.r κs).Denot → AtExit (ended_of 6 copy-kinds.ps copy-kinds.r) κs → Slices
copy-out κs a z s = record {
  state = z.answer.state;
  views = a.1.0.now;
  bytes = a.1.1.0.now;
  starts = s.1.1.1.0.now;
  lens = s.1.1.1.1.0.now;
  nulls = a.1.1.1.1.1.0.now;
  places = a.1.1.1.1.1.1.0.now;
}

pub copy_met : (κs : Lfts 6) (a : Dens κs copy-kinds.ps) (z : (res_t copy-kinds.r κs).Denot) (s : AtExit (ended_of 6 copy-kinds.ps copy-kinds.r) κs)
    → copy.Post κs a z s → z.answer.why ≡ accepted
    → CallMet finish_copy (copy-in κs a) z.answer (copy-out κs a z s)
copy_met κs a z s p e = record { does = p.0; accepted = e; state = refl }

-- a finish
abbrev pub finish-in : (κs : Lfts 6) → Dens κs finish-kinds.ps → Slices
finish-in κs a = record {
  state = a.0;
  views = a.1.0.now;
  bytes = a.1.1.0.now;
  starts = a.1.1.1.0.now;
  lens = a.1.1.1.1.0.now;
  nulls = a.1.1.1.1.1.0.now;
  places = a.1.1.1.1.1.1.0.now;
}

abbrev pub finish-out : (κs : Lfts 6) → Dens κs finish-kinds.ps → (res_t finish-kinds.r κs).Denot → AtExit (ended_of 6 finish-kinds.ps finish-kinds.r) κs → Slices
finish-out κs a z s = record {
  state = z.answer.state;
  views = a.1.0.now;
  bytes = a.1.1.0.now;
  starts = s.1.1.1.0.now;
  lens = s.1.1.1.1.0.now;
  nulls = a.1.1.1.1.1.0.now;
  places = s.1.1.1.1.1.1.0.now;
}

pub finish-met : (κs : Lfts 6) (a : Dens κs finish-kinds.ps) (z : (res_t finish-kinds.r κs).Denot)
    (s : AtExit (ended_of 6 finish-kinds.ps finish-kinds.r) κs) → ends.Post κs a z s → z.answer.why ≡ accepted
    → CallMet finish (finish-in κs a) z.answer (finish-out κs a z s)
finish-met κs a z s p e = record { does = p.0; accepted = e; state = refl }

-- an accepted start: its state and its places, with slices of any content, are the builder that runs start from
abbrev pub start-out : (κs : Lfts 1) → (res_t start-kinds.r κs).Denot → AtExit (ended_of 1 start-kinds.ps start-kinds.r) κs → (vs bs ss ns ms : List ℕ) → Slices
start-out κs z s vs bs ss ns ms = record { state = z.state; views = vs; bytes = bs; starts = ss; lens = ns; nulls = ms; places = s.1.0.now }

pub start-accepts : (κs : Lfts 1) (a : Dens κs start-kinds.ps) (z : (res_t start-kinds.r κs).Denot) (s : AtExit (ended_of 1 start-kinds.ps start-kinds.r)
    κs) → begin.Post κs a z s → z.why ≡ accepted
    → why_start a.0 ≡ accepted
start-accepts κs a z s p e = sym (ap (λ (r : Answer). r.why) p.0) ∙ e

pub start-met : (κs : Lfts 1) (a : Dens κs start-kinds.ps) (z : (res_t start-kinds.r κs).Denot) (s : AtExit (ended_of 1 start-kinds.ps start-kinds.r) κs)
    → begin.Post κs a z s → z.why ≡ accepted
    → (vs bs ss ns ms : List ℕ) → held_in (start-out κs z s vs bs ss ns ms) ≡ start a.0 (lent vs bs ss ns ms) a.1.0.now
unfolding start start_state start_places
start-met κs a z s p e vs bs ss ns ms =
    let w = start-accepts κs a z s p e in
    let state : z.state ≡ started a.0 = ap (λ (r : Answer). r.state) p.0 ∙ ap (λ (y : Why). if_accepted y (started a.0) (unstarted a.0)) w in
    let places : s.1.0.now ≡ cleared a.0.merging a.1.0.now = p.1
    ∙ ap (λ (y : Why). if_accepted y (cleared a.0.merging a.1.0.now) a.1.0.now) w in
    λ i. builder (state i) (lent vs bs ss ns ms) (places i)

-- so what functions leave after it is a builder that calls from a start left, and all that Kept says is said of it
pub start-reaches : (κs : Lfts 1) (a : Dens κs start-kinds.ps) (z : (res_t start-kinds.r κs).Denot) (s : AtExit (ended_of 1 start-kinds.ps start-kinds.r)
    κs) → begin.Post κs a z s → z.why ≡ accepted
    → (vs bs ss ns ms : List ℕ) (cs : List Call) (h : Slices) → Coded cs (start-out κs z s vs bs ss ns ms) h → Reached (held_in h)
start-reaches κs a z s p e vs bs ss ns ms cs h d =
    by_calls a.0 (lent vs bs ss ns ms) a.1.0.now cs (held_in h) (start-accepts κs a z s p e)
    (subst (λ (b : Builder). Ran cs b (held_in h)) (start-met κs a z s p e vs bs ss ns ms) (coded.runs cs (start-out κs z s vs bs ss ns ms) h d))
