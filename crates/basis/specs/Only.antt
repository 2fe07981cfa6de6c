-- No second answer: whatever meets a function's own `ensures` on the same arguments is the same. `ps` and `r` of its Kinds are its parameters and its
-- answer, `Post` of its Reads says its `ensures`. Assumes nothing.
use Rattle.std.specs.Prelude.{◌≡◌, List, ℕ}
use contract.Lifetimes.{Lfts}
use denote.Triple.Clauses.{AtExit}
use borrow.Fn.Kinds.{ParamKind, ResultKind, Dens, res_t, ended_of, Out}

-- an answer or a lent buffer at exit, as `seen` picks it out
abbrev pub Only : {n : ℕ} (ps : List (ParamKind n)) (r : ResultKind n) {X : Type 0} → Out n ps r → ((κs : Lfts n) → (res_t r κs).Denot → AtExit (ended_of n ps r) κs → X) → Type 0
Only {n} ps r Post seen =
    (κs : Lfts n) (a : Dens κs ps) (z z' : (res_t r κs).Denot) (s s' : AtExit (ended_of n ps r) κs) → Post κs a z s → Post κs a z' s' → seen κs z s ≡ seen κs z' s'
