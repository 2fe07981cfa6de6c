-- A table as its two number slices, so that what is known of the calls over these says it over records too. Assumes nothing.
use Rattle.std.specs.Prelude.{◌≡◌, refl, Bool, true, false, List, [], ◌∷◌, ℕ, zero, suc, length, set, replicate, Ok, Err}
use Rattle.std.proofs.Common.{sym, ap, subst, ◌∙◌, arith, eq-eqb, ne_eqb}
use Rattle.std.proofs.Math.Seq.{set_out}
use Rattle.bounds.specs.Refusals.{is_accepted, accepted, Why}
use Rattle.column.specs.declared.Block.{Block}
use Rattle.column.specs.Lent.{block, table_of, lent}
use Rattle.builder.specs.declared.State.{State}
use Rattle.builder.specs.declared.Answer.{Answer}
use Rattle.builder.specs.State.{Builder, held, fits_rooms, fits_state, recorded}
use Rattle.builder.specs.Rooms.{room_of_rows, room_of_blocks, room_of_bytes}
use Rattle.builder.specs.RoomLaws.{Fitted, fits-is, fits_gives}
use Rattle.column.proofs.FitLaws.{length-table}
use Rattle.builder.specs.Does.{Does, left}
use Rattle.filing.specs.Files.{Files, open_table}

-- the starts and the lengths of a table
unfoldable pub firsts : List Block → List ℕ
firsts [] = []
firsts (b ∷ t) = b.start ∷ firsts t

unfoldable pub lens_all : List Block → List ℕ
lens_all [] = []
lens_all (b ∷ t) = b.len ∷ lens_all t

firsts-length : (t : List Block) → length t ≡ length (firsts t)
unfolding firsts
firsts-length [] = refl
firsts-length (b ∷ t) = ap suc (firsts-length t)

sizes-length : (t : List Block) → length t ≡ length (lens_all t)
unfolding lens_all
sizes-length [] = refl
sizes-length (b ∷ t) = ap suc (sizes-length t)

table_is : (t : List Block) → table_of (firsts t) (lens_all t) ≡ t
unfolding table_of firsts lens_all
table_is [] = refl
table_is (b ∷ t) = ap (λ (u : List Block). block b.start b.len ∷ u) (table_is t)

-- what holds of each table that is lent as two slices of a length holds of each table of that length
pub over-tables : (P : List Block → Type 0) (n : ℕ) → ((ss ns : List ℕ) → n ≡ length ss → n ≡ length ns → P (table_of ss ns)) → (t : List Block)
    → n ≡ length t → P t
over-tables P n f t e = subst P (table_is t) (f (firsts t) (lens_all t) (e ∙ firsts-length t) (e ∙ sizes-length t))

-- two slices of a length that hold nothing
abbrev pub blank : ℕ → List ℕ
blank n = replicate n 0

pub blank-length : (n : ℕ) → n ≡ length (blank n)
blank-length zero = refl
blank-length (suc n) = ap suc (blank-length n)

pub blocks-room : (n : ℕ) (ss ns : List ℕ) → n ≡ length ss → n ≡ length ns → room_of_blocks n n ≡ room_of_blocks (length ss) (length ns)
blocks-room n ss ns e f = λ i. room_of_blocks (e i) (f i)

-- from a call over the two slices, and what it leaves of the table
module _ (why : Builder → Why) (put : Builder → Builder) (s : State) (vs bs ss ns ms ps : List ℕ) where
  pub files-of : {r : Answer} {vs' bs' ss' ns' ms' ps' : List ℕ} (t' : List Block) → Does why put s vs bs ss ns ms ps r vs' bs' ss' ns' ms' ps'
      → t' ≡ (left why put (held s vs bs ss ns ms ps)).lent.table
      → Files why put s vs bs (table_of ss ns) ms ps r vs' bs' t' ms' ps'
  files-of t' d e = record { answers = d.answers; views = d.views; bytes = d.bytes; table = e; nulls = d.nulls; places = d.places }

  pub table-no : (w : Why) → w ≡ why (held s vs bs ss ns ms ps) → is_accepted w ≡ false → table_of ss ns ≡ (left why put (held s vs bs ss ns ms ps)).lent.table
  table-no w e h = go w h e
    where
      go : (w : Why) → is_accepted w ≡ false → w ≡ why (held s vs bs ss ns ms ps) → table_of ss ns ≡ (left why put (held s vs bs ss ns ms ps)).lent.table
      go (Ok _) k d = absurd (let z : ◌≡◌ {A = ℕ} 0 1 = cc in omega arith)
      go (Err z) k d = rw (← d)

  pub table-yes : (t' : List Block) → why (held s vs bs ss ns ms ps) ≡ accepted → t' ≡ (put (held s vs bs ss ns ms ps)).lent.table
      → t' ≡ (left why put (held s vs bs ss ns ms ps)).lent.table
  table-yes t' e h = rw e h

-- a record past the end is written nowhere
pub set-none : (n : ℕ) (b : Block) (t : List Block) → n ≡ length t → set t n b ≡ t
set-none n b t e = set_out t n b (omega (arith, e))

-- the open block's record
module _ (s : State) (t : List Block) where
  pub open_same : s.fill ≡ 0 → t ≡ open_table s t
  unfolding open_table
  open_same h = rw (eq-eqb s.fill 0 h)

  pub open_none : (n : ℕ) (b : Block) → s.fill ≡ 0 → n ≡ length t → set t n b ≡ open_table s t
  open_none n b h e = set-none n b t e ∙ open_same h

  pub open-some : (s.fill ≡ 0 → ⊥) → set t s.blocks (block s.base s.fill) ≡ open_table s t
  unfolding open_table
  open-some h = rw (ne_eqb s.fill 0 h)

pub recorded-table : (s : State) (vs bs ss ns ms : List ℕ) → open_table s (table_of ss ns) ≡ (recorded s (lent vs bs ss ns ms)).table
unfolding open_table recorded
recorded-table s vs bs ss ns ms = refl

-- ---- a state fits, by the count of the records

module _ (s : State) (vs bs ms ps : List ℕ) (n : ℕ) where
  -- the test as the code has it
  abbrev pub fits_by : Bool
  fits_by = fits_rooms s (room_of_rows s.merging (length vs) (length ms) (length ps)) (room_of_blocks n n) (room_of_bytes (length bs))

  pub fits-by : (ss ns : List ℕ) → n ≡ length ss → n ≡ length ns → fits_by ≡ fits_state (held s vs bs ss ns ms ps)
  fits-by ss ns es en = fits-is s vs bs ss ns ms ps _ _ _ refl (blocks-room n ss ns es en) refl

  pub fitted : fits_by ≡ true → Fitted s vs bs (blank n) (blank n) ms ps
  fitted h = fits_gives s vs bs (blank n) (blank n) ms ps (sym (fits-by (blank n) (blank n) (blank-length n) (blank-length n)) ∙ h)

pub table-length : (n : ℕ) (ss ns : List ℕ) → n ≡ length ss → n ≡ length ns → n ≡ length (table_of ss ns)
table-length n ss ns es en = omega (arith, es, en, length-table ss ns)
