-- The contracts of start, finish, compaction and the offset column, as they stand in the code, meet what the third promise asks of answers. Assumes nothing.
use Rattle.bounds.specs.Refusals.{accepted}
use mathlib.Core.Path.{◌≡◌, refl}
use mathlib.Core.List.{List}
use Prim.Native.Nat.{ℕ}
use contract.Lifetimes.{Lfts}
use denote.Triple.Clauses.{AtExit}
use borrow.Fn.Kinds.{Dens, res_t, ended_of}
use Rattle.finishing.proofs.start.Kinds as start-kinds
use Rattle.finishing.proofs.start.Reads as begin
use Rattle.finishing.proofs.finish.Kinds as finish-kinds
use Rattle.finishing.proofs.finish.Reads as ends
use Rattle.compaction.proofs.compact.Kinds as compact-kinds
use Rattle.compaction.proofs.compact.Reads as compact
use Rattle.offsets.proofs.from_offsets.Kinds as offsets-kinds
use Rattle.offsets.proofs.from_offsets.Reads as offsets
use Rattle.offsets.specs.Offsets.{source}
use Rattle.promise.specs.Answered.{Buffers, StartMet, FinishMet, CompactMet, ConvertMet}
use Rattle.promise.proofs.Tied.{start-out, finish-in, finish-out, finish-met}

-- an accepted start, with slices of any content
pub start-answers : (κs : Lfts 1) (a : Dens κs start-kinds.ps) (z : (res_t start-kinds.r κs).Denot) (s : AtExit (ended_of 1 start-kinds.ps start-kinds.r)
    κs) → begin.Post κs a z s → z.why ≡ accepted
    → (vs bs ss ns ms : List ℕ) → StartMet a.0 a.1.0.now z s.1.0.now (start-out κs z s vs bs ss ns ms)
start-answers κs a z s p e vs bs ss ns ms = record { answers = p.0; cleared = p.1; accepted = e; state = refl; places = refl }

-- an accepted finish
pub finish-answers : (κs : Lfts 6) (a : Dens κs finish-kinds.ps) (z : (res_t finish-kinds.r κs).Denot)
    (s : AtExit (ended_of 6 finish-kinds.ps finish-kinds.r) κs) → ends.Post κs a z s → z.answer.why ≡ accepted
    → FinishMet (finish-in κs a) z (finish-out κs a z s)
finish-answers κs a z s p e = record { met = finish-met κs a z s p e; column = p.1 }

-- an accepted compaction
abbrev pub compact-of : (κs : Lfts 7) → Dens κs compact-kinds.ps → Buffers
compact-of κs a = record { views = a.0.views.now; bytes = a.0.bytes.now; starts = a.0.starts.now; lens = a.0.lens.now; nulls = a.0.nulls.now }

abbrev pub compact-in : (κs : Lfts 7) → Dens κs compact-kinds.ps → Buffers
compact-in κs a = record {
  views = a.1.1.1.0.now;
  bytes = a.1.1.1.1.0.now;
  starts = a.1.1.1.1.1.0.now;
  lens = a.1.1.1.1.1.1.0.now;
  nulls = a.1.1.1.1.1.1.1.0.now;
}

abbrev pub compact-out : (κs : Lfts 7) → AtExit (ended_of 7 compact-kinds.ps compact-kinds.r) κs → Buffers
compact-out κs s = record {
  views = s.1.1.1.0.now;
  bytes = s.1.1.1.1.0.now;
  starts = s.1.1.1.1.1.0.now;
  lens = s.1.1.1.1.1.1.0.now;
  nulls = s.1.1.1.1.1.1.1.0.now;
}

pub compact-answers : (κs : Lfts 7) (a : Dens κs compact-kinds.ps) (z : (res_t compact-kinds.r κs).Denot)
    (s : AtExit (ended_of 7 compact-kinds.ps compact-kinds.r) κs) → compact.Post κs a z s → z.why ≡ accepted
    → CompactMet a.1.1.0 (compact-of κs a) a.1.0 (compact-in κs a) z (compact-out κs s)
compact-answers κs a z s p e = record { wrote = p; accepted = e }

-- an accepted conversion
abbrev offsets-in : (κs : Lfts 8) → Dens κs offsets-kinds.ps → Buffers
offsets-in κs a = record {
  views = a.1.1.1.1.1.0.now;
  bytes = a.1.1.1.1.1.1.0.now;
  starts = a.1.1.1.1.1.1.1.0.now;
  lens =
      a.1.1.1.1.1.1.1.1.0.now;
  nulls = a.1.1.1.1.1.1.1.1.1.0.now;
}

abbrev offsets-out : (κs : Lfts 8) → AtExit (ended_of 8 offsets-kinds.ps offsets-kinds.r) κs → Buffers
offsets-out κs s = record {
  views = s.1.1.1.1.1.0.now;
  bytes = s.1.1.1.1.1.1.0.now;
  starts = s.1.1.1.1.1.1.1.0.now;
  lens =
      s.1.1.1.1.1.1.1.1.0.now;
  nulls = s.1.1.1.1.1.1.1.1.1.0.now;
}

pub offsets-answers : (κs : Lfts 8) (a : Dens κs offsets-kinds.ps) (z : (res_t offsets-kinds.r κs).Denot)
    (s : AtExit (ended_of 8 offsets-kinds.ps offsets-kinds.r) κs) → offsets.Post κs a z s → z.why ≡ accepted
    → ConvertMet (source a.0.now a.1.0.now a.1.1.0.now a.1.1.1.0) a.1.1.1.1.0 (offsets-in κs a) z (offsets-out κs s)
offsets-answers κs a z s p e = record { converted = p; accepted = e }
