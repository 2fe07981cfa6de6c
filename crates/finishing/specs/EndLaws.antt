-- The merge table emptied, start and the two finishes from what their parts leave. Assumes nothing.
use Rattle.std.specs.Prelude.{◌≡◌, Bool, true, false, ◌&&◌, List, ℕ, ◌≤◌, leb, length, replicate, Err}
use Rattle.std.proofs.Math.Path.{refl, subst}
use Rattle.std.proofs.Common.{sym, ap, ◌∙◌}
use Rattle.bounds.specs.Refusals.{refuse, accepted}
use Rattle.bounds.specs.declared.Refusal.TheVariants.{Setting, Fit}
use Rattle.column.specs.declared.Column.{Column}
use Rattle.builder.specs.declared.Merging.{Merging}
use Rattle.builder.specs.declared.Settings.{Settings}
use Rattle.builder.specs.declared.State.{State}
use Rattle.builder.specs.declared.Answer.{Answer}
use Rattle.growth.specs.Growing.{fits_growth}
use Rattle.column.specs.Lent.{block_room, data_room}
use Rattle.column.proofs.FitLaws.{and_no}
use Rattle.builder.specs.State.{Builder, held, rows_room, all_blocks, used, fits_rooms, fits_state, recorded}
use Rattle.builder.specs.Rooms.{open_starts, open_lens}
use Rattle.builder.specs.Get.{column_of}
use Rattle.builder.specs.Start.{lawful_sizes, lawful_merging, is_off, empty_state, started, unstarted, cleared, why_start, start_state, start_places}
use Rattle.builder.specs.Finish.{why_finish, copied, finished, no_column, finish_column}
use Rattle.builder.specs.Does.{Does, answer}
use Rattle.builder.specs.DoesLaws.{does-no, does-put}
use Rattle.builder.proofs.PutLaws.{recorded-starts, recorded-lens}

module _ (m : Merging) (ps : List ℕ) (b : Bool) (e : b ≡ is_off m) where
  pub clear-off : b ≡ true → ps ≡ cleared m ps
  unfolding cleared
  clear-off h = rw (← e, h)

  pub clear-on : (ps' : List ℕ) → b ≡ false → ps' ≡ replicate (length ps) 0 → ps' ≡ cleared m ps
  unfolding cleared
  clear-on ps' h p = rw (← e, h) p

-- ---- start

module _ (t : Settings) (ps : List ℕ) (st : State) where
  pub start-no : lawful_sizes t.sizes && lawful_merging t.merging ≡ false → st ≡ unstarted t
      → (answer (Err Setting) st ≡ answer (why_start t) (start_state t)) × (ps ≡ start_places t ps)
  unfolding why_start start_state start_places refuse
  start-no h e = (rw h (ap (answer (Err Setting)) e), rw h)

  pub start-yes : (ps' : List ℕ) → lawful_sizes t.sizes && lawful_merging t.merging ≡ true → st ≡ started t → ps' ≡ cleared t.merging ps
      → (answer accepted st ≡ answer (why_start t) (start_state t)) × (ps' ≡ start_places t ps)
  unfolding why_start start_state start_places refuse
  start-yes ps' h e p = (rw h (ap (answer accepted) e), rw h p)

-- a refused start answers a state that no buffers fit (an end theorem: nothing cites it)
pub unstarted-never : (t : Settings) (vs bs ss ns ms ps : List ℕ) → fits_state (held (unstarted t) vs bs ss ns ms ps) ≡ false
unfolding fits_state fits_rooms fits_growth
unstarted-never t vs bs ss ns ms ps =
    let b = held (unstarted t) vs bs ss ns ms ps in
    sym (and_no (leb 0 (rows_room b)) _ (sym (and_no (leb (all_blocks (unstarted t)) (block_room b.lent)) _
    (sym (and_no (leb (used (unstarted t)) (data_room b.lent)) false refl)))))

-- ---- the finishes

module _ (s : State) (vs bs ss ns ms ps : List ℕ) where
  abbrev here : Builder
  here = held s vs bs ss ns ms ps

  finish-no : fits_state here ≡ false → Err Fit ≡ why_finish here
  unfolding why_finish refuse
  finish-no h = rw h

  finish-yes : fits_state here ≡ true → why_finish here ≡ accepted
  unfolding why_finish refuse
  finish-yes h = rw h

  pub does-refused : (put : Builder → Builder) (a : Answer) (c : Column) → fits_state here ≡ false → a ≡ answer (Err Fit) s → c ≡ no_column s
      → Does why_finish put s vs bs ss ns ms ps a vs bs ss ns ms ps × (c ≡ finish_column here)
  unfolding finish_column
  does-refused put a c h e d = (
    subst (λ (z : Answer). Does why_finish put s vs bs ss ns ms ps z vs bs ss ns ms ps) (sym e) (does-no why_finish put s vs bs ss ns ms ps
        (Err Fit) (finish-no h) refl),
    rw (← finish-no h) d,
  )

  module _ (fit : fits_state here ≡ true) (hs : all_blocks s ≤ length ss) (hn : all_blocks s ≤ length ns) {ss' ns' : List ℕ} (es : ss' ≡ open_starts s ss)
      (en : ns' ≡ open_lens s ns)
      (c : Column) (ec : c ≡ column_of here) where
    is-column : c ≡ finish_column here
    unfolding finish_column
    is-column = rw (finish-yes fit) ec

    pub does-copied : Does why_finish copied s vs bs ss ns ms ps (answer accepted s) vs bs ss' ns' ms ps × (c ≡ finish_column here)
    unfolding copied recorded
    does-copied = (
      does-put why_finish copied s vs bs ss ns ms ps (copied here) (finish-yes fit) refl refl refl refl
          (es ∙ recorded-starts s vs bs ss ns ms hs hn) (en ∙ recorded-lens s vs bs ss ns ms hs hn) refl refl,
      is-column,
    )

    pub does-finished : (st : State) {ps' : List ℕ} → st ≡ empty_state s.kind s.growth s.merging → ps' ≡ cleared s.merging ps
        → Does why_finish finished s vs bs ss ns ms ps (answer accepted st) vs bs ss' ns' ms ps' × (c ≡ finish_column here)
    unfolding finished recorded
    does-finished st e p = (
      does-put why_finish finished s vs bs ss ns ms ps (finished here) (finish-yes fit) refl e refl refl
          (es ∙ recorded-starts s vs bs ss ns ms hs hn) (en ∙ recorded-lens s vs bs ss ns ms hs hn) refl p,
      is-column,
    )
