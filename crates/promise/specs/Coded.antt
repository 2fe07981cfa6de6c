-- A run of calls as functions promise them: each by its own contract `Does`, on the state and the slices that the one before left. Assumes nothing.
use Rattle.bounds.specs.Refusals.{accepted}
use Rattle.std.specs.Prelude.{◌≡◌, List, [], ◌∷◌, ℕ}
use Rattle.builder.specs.declared.State.{State}
use Rattle.builder.specs.declared.Answer.{Answer}
use Rattle.builder.specs.State.{Builder, held}
use Rattle.builder.specs.Does.{Does}
use Rattle.promise.specs.Calls.{Call, why, put, Ran}

-- a state and the slices that are lent beside it
pub record Slices : Type 0 where
  pub state : State
  pub views : List ℕ
  pub bytes : List ℕ
  pub starts : List ℕ
  pub lens : List ℕ
  pub nulls : List ℕ
  pub places : List ℕ

-- the builder that they are
abbrev pub held_in : Slices → Builder
held_in h = held h.state h.views h.bytes h.starts h.lens h.nulls h.places

-- a call's contract, met by what it answers and the slices that it leaves; the state that it answers is the next call's
pub record CallMet (c : Call) (h : Slices) (r : Answer) (h' : Slices) : Type 0 where
  pub does : Does (why c) (put c) h.state h.views h.bytes h.starts h.lens h.nulls h.places
      r h'.views h'.bytes h'.starts h'.lens h'.nulls h'.places
  pub accepted : r.why ≡ accepted
  pub state : h'.state ≡ r.state

pub data Coded : List Call → Slices → Slices → Type 0 where
  none : {h : Slices} → Coded [] h h
  more : {c : Call} {cs : List Call} {h h' e : Slices} (r : Answer) → CallMet c h r h' → Coded cs h' e → Coded (c ∷ cs) h e

-- what functions that meet their contracts do is a run, so all that is said of runs is said of them
pub record Codes : Type 0 where
  pub runs : (cs : List Call) (h e : Slices) → Coded cs h e → Ran cs (held_in h) (held_in e)
