-- The value call's contract from what its parts leave, case by case. Assumes nothing.
use Rattle.std.specs.Prelude.{◌≡◌, Bool, false, List, ℕ, suc, ◌+◌, ◌-◌, ◌*◌, ◌≤◌, ◌<◌, length, Ok, Err}
use Rattle.std.proofs.Math.Path.{refl, ap}
use Rattle.std.proofs.Common.{sym, ◌∙◌, add-one, eq-eqb, ne_eqb, arith}
use Rattle.std.proofs.Math.Bool.{true}
use Rattle.null_bits.specs.Runs.{put_run}
use Rattle.std.proofs.Math.Seq.{paste}
use Rattle.basis.specs.Pick.{pick}
use Rattle.bounds.specs.Refusals.{is_accepted, if_accepted, accepted, Why}
use Rattle.null_bits.specs.Bits.{put_bit}
use Rattle.views.specs.View.{is_short, short_most, view_at, short_view, long_view}
use Rattle.merging.specs.declared.Found.{Found}
use Rattle.merging.specs.Table.{is_row, row_of, entered}
use Rattle.column.specs.Room.{bare}
use Rattle.builder.specs.declared.State.{State}
use Rattle.builder.specs.State.{Builder, held, all_blocks, used, fits_state, fits_open, roomed, make_room, laid, lay, rowed, add_row, add_rows}
use Rattle.builder.specs.Values.{found_by, found, why_lay, why_store, why_values, enter, store, put_found, put_value, put_values}
use Rattle.builder.specs.Rooms.{room_of_blocks, room_of_bytes, open_starts, open_lens, shows_row}
use Rattle.builder.specs.RoomLaws.{blocks-room-is, bytes-room-is, is-accepted}
use Rattle.builder.proofs.PutLaws.{found-is, store-short, put-short, store-row, store-lay, put-row, put-lay, stored, room-rows, room-starts, room-lens}
use Rattle.builder.specs.Does.{Does, answer, starts_of, lens_of}
use Rattle.builder.specs.DoesLaws.{starts-same, lens_same, does-put, does-left}
use Rattle.builder.specs.declared.Answer.{Answer}
use Rattle.builder.specs.TimesLaws.{put_copies, rowed_by, add-rows}

pub bytes-room-le : (n : ℕ) → (room_of_bytes n ≤ n)
unfolding room_of_bytes
bytes-room-le n = omega arith

module _ (s : State) (vs bs ss ns ms ps x : List ℕ) where
  pub does-short : {s' : State} {vs' ms' : List ℕ} → length x ≤ short_most → s' ≡ rowed true s → vs' ≡ paste vs (16 * s.rows) (short_view x) 16
      → ms' ≡ put_bit ms s.rows true
      → Does (λ b. why_store b x) (put_value x) s vs bs ss ns ms ps (answer accepted s') vs' bs ss ns ms' ps
  unfolding add_row
  does-short h st v nu =
      does-put (λ b. why_store b x) (put_value x) s vs bs ss ns ms ps (add_row (short_view x) true (held s vs bs ss ns ms ps)) (store-short s vs bs ss ns
      ms ps x h) (put-short s vs bs ss ns ms ps x h) st v
      refl (sym (starts-same ss ns)) (sym (lens_same ss ns)) nu refl

  module _ (f : Found) (fit : fits_state (held s vs bs ss ns ms ps) ≡ true) (e : f ≡ found_by s.merging ps (shows_row s (bare vs bs ss ns) x) x)
      (long : short_most < length x) where
    is : f ≡ found (held s vs bs ss ns ms ps) x
    is = e ∙ found-is s vs bs ss ns ms ps x fit

    pub does-row : (t : Bool) (r : ℕ) {s' : State} {vs' ms' : List ℕ} → t ≡ is_row f → t ≡ true → r ≡ row_of f → s' ≡ rowed true s
        → vs' ≡ paste vs (16 * s.rows) (view_at vs r) 16
        → ms' ≡ put_bit ms s.rows true → Does (λ b. why_store b x) (put_value x) s vs bs ss ns ms ps (answer accepted s') vs' bs ss ns ms' ps
    unfolding add_row
    does-row t r et h er st v nu =
        does-put (λ b. why_store b x) (put_value x) s vs bs ss ns ms ps (add_row (view_at vs (row_of f)) true (held s vs bs ss ns ms ps))
        (store-row s vs bs ss ns ms ps x f is long (sym et ∙ h))
        (put-row s vs bs ss ns ms ps x f is long (sym et ∙ h)) st (v ∙ ap (λ (z : ℕ). paste vs (16 * s.rows) (view_at vs z) 16) er)
        refl (sym (starts-same ss ns)) (sym (lens_same ss ns)) nu refl

    module _ (t : Bool) (et : t ≡ is_row f) (h : t ≡ false) (w : Why) (blocks bytes : ℕ) (eb : blocks ≡ room_of_blocks (length ss) (length ns))
        (ed : bytes ≡ room_of_bytes (length bs))
        (ew : w ≡ why_lay s blocks bytes (length x)) where
      pub lay-is : w ≡ why_store (held s vs bs ss ns ms ps) x
      lay-is = ew ∙ rw (eb ∙ blocks-room-is s vs bs ss ns ms ps, ed ∙ bytes-room-is s vs bs ss ns ms ps) (store-lay s vs bs ss ns ms ps x f is long
          (sym et ∙ h))

      pub does-lay : (k : State) {s' : State} {vs' bs' ss' ns' ms' ps' : List ℕ} → is_accepted w ≡ true → all_blocks s ≤ length ss
          → all_blocks s ≤ length ns → k ≡ roomed (length x) s
          → s' ≡ rowed true (laid (length x) k)
          → vs' ≡ paste vs (16 * s.rows) (long_view x k.blocks k.fill) 16
          → bs' ≡ paste bs (k.base + k.fill) x (length x)
          → ss' ≡ pick (fits_open s (length x)) ss (open_starts s ss)
          → ns' ≡ pick (fits_open s (length x)) ns (open_lens s ns)
          → ms' ≡ put_bit ms s.rows true
          → ps' ≡ entered f (suc s.rows) ps
          → Does (λ b. why_store b x) (put_value x) s vs bs ss ns ms ps (answer accepted s') vs' bs' ss' ns' ms' ps'
      does-lay k a hs hn ek st v by sta le nu pl =
          does-put (λ b. why_store b x) (put_value x) s vs bs ss ns ms ps (stored s vs bs ss ns ms ps x f is long)
          (is-accepted w (why_store (held s vs bs ss ns ms ps) x) lay-is a)
          (put-lay s vs bs ss ns ms ps x f is long (sym et ∙ h))
          (st ∙ ap (λ (z : State). rowed true (laid (length x) z)) ek)
          (v ∙ ap (λ (z : State). paste vs (16 * s.rows) (long_view x z.blocks z.fill) 16) ek)
          (by ∙ ap (λ (z : State). paste bs (used z) x (length x)) ek)
          (sta ∙ room-starts s vs bs ss ns ms hs hn (fits_open s (length x)))
          (le ∙ room-lens s vs bs ss ns ms hs hn (fits_open s (length x)))
          nu pl

-- ---- once

module _ (s : State) (vs bs ss ns ms ps x : List ℕ) (on : why_values 1 (held s vs bs ss ns ms ps) x ≡ why_store (held s vs bs ss ns ms ps) x) where
  pub does-once : {r : Answer} {vs' bs' ss' ns' ms' ps' : List ℕ}
      → Does (λ b. why_store b x) (put_value x) s vs bs ss ns ms ps r vs' bs' ss' ns' ms' ps'
      → Does (λ b. why_values 1 b x) (put_values 1 x) s vs bs ss ns ms ps r vs' bs' ss' ns' ms' ps'
  unfolding put_values add_rows
  does-once d =
      does-left (λ b. why_store b x) (λ b. why_values 1 b x) (put_value x) (put_values 1 x) s vs bs ss ns ms ps (sym on)
      (ap (λ (w : Why). if_accepted w (put_value x (held s vs bs ss ns ms ps)) (held s vs bs ss ns ms ps)) (sym on)) d

-- ---- n times

pub put-rows : (x : List ℕ) (b : Builder) → (put_value x b).state.rows ≡ b.state.rows + 1
unfolding put_value put_found store make_room lay add_row
put-rows x b = by (is_short (length x)) (is_row (found b x)) ∙ sym (add-one b.state.rows)
  where
    by : (t u : Bool)
        → (pick t (add_row (short_view x) true b) (pick u (add_row (view_at b.lent.views (row_of (found b x))) true b)
        (store x (make_room (length x) (enter (found b x) b))))).state.rows ≡ suc b.state.rows
    by true u = refl
    by false true = refl
    by false false = ap suc (room-rows b.state (length x))

-- none: everything as it came
pub put-none : (n : ℕ) (x : List ℕ) (b : Builder) → n ≡ 0 → b ≡ put_values n x b
unfolding put_values
put-none n x b e = rw (eq-eqb n 0 e)

pub put-many : (n : ℕ) (x : List ℕ) (b : Builder) → (n ≡ 0 → ⊥) → add_rows (n - 1) (view_at (put_value x b).lent.views b.state.rows) true
    (put_value x b) ≡ put_values n x b
unfolding put_values
put-many n x b e = rw (ne_eqb n 0 e)

module _ (s : State) (vs bs ss ns ms ps x : List ℕ) (n : ℕ) (on : why_values n (held s vs bs ss ns ms ps) x ≡ why_store (held s vs bs ss ns ms ps) x)
    {r : Answer} {vs' bs' ss' ns' ms' ps' : List ℕ} (d : Does (λ b. why_store b x) (put_value x) s vs bs ss ns ms ps r vs' bs' ss' ns' ms' ps') where
  abbrev here : Builder
  here = held s vs bs ss ns ms ps

  verdict : r.why ≡ why_store here x
  verdict = ap (λ (z : Answer). z.why) d.answers

  -- the first one is refused
  pub does_not : is_accepted r.why ≡ false → Does (λ b. why_values n b x) (put_values n x) s vs bs ss ns ms ps r vs' bs' ss' ns' ms' ps'
  does_not h =
      does-left (λ b. why_store b x) (λ b. why_values n b x) (put_value x) (put_values n x) s vs bs ss ns ms ps (sym on)
      (go (why_store here x) (ap is_accepted (sym verdict) ∙ h) ∙ ap (λ (w : Why). if_accepted w (put_values n x here) here) (sym on)) d
    where
      go : (w : Why) → is_accepted w ≡ false → if_accepted w (put_value x here) here ≡ if_accepted w (put_values n x here) here
      go (Ok _) k = absurd (let z : ◌≡◌ {A = ℕ} 0 1 = cc in omega arith)
      go (Err z) k = refl

  -- it is added, and its row copied
  pub does-many : {s'' : State} {vs'' ms'' : List ℕ} → (n ≡ 0 → ⊥) → is_accepted r.why ≡ true → s'' ≡ rowed_by (n - 1) r.state
      → vs'' ≡ put_copies vs' (s.rows + 1) (view_at vs' s.rows) (n - 1) → ms'' ≡ put_run ms' (s.rows + 1) (n - 1) true
      → Does (λ b. why_values n b x) (put_values n x) s vs bs ss ns ms ps (answer accepted s'') vs'' bs' ss' ns' ms'' ps'
  does-many ne h st v nu =
      let p = put_value x here in
      let w : why_store here x ≡ accepted = is-accepted r.why (why_store here x) verdict h in
      let e : if_accepted (why_store here x) p here ≡ p = ap (λ (z : Why). if_accepted z p here) w in
      let state : r.state ≡ p.state = ap (λ (z : Answer). z.state) d.answers ∙ ap (λ (z : Builder). z.state) e in
      let views : vs' ≡ p.lent.views = d.views ∙ ap (λ (z : Builder). z.lent.views) e in
      let nulls : ms' ≡ p.lent.nulls = d.nulls ∙ ap (λ (z : Builder). z.lent.nulls) e in
      let rows : s.rows + 1 ≡ p.state.rows = sym (put-rows x here) in
      does-put (λ b. why_values n b x) (put_values n x) s vs bs ss ns ms ps _ (on ∙ w)
      (sym (add-rows (n - 1) (view_at p.lent.views s.rows) p) ∙ put-many n x here ne)
      (st ∙ ap (rowed_by (n - 1)) state)
      (v ∙ λ i. put_copies (views i) (rows i) (view_at (views i) s.rows) (n - 1))
      (d.bytes ∙ ap (λ (z : Builder). z.lent.bytes) e)
      (d.starts ∙ ap (λ (z : Builder). starts_of z.lent.table ss) e)
      (d.lens ∙ ap (λ (z : Builder). lens_of z.lent.table ns) e)
      (nu ∙ λ i. put_run (nulls i) (rows i) (n - 1) true)
      (d.places ∙ ap (λ (z : Builder). z.places) e)

  pub does-rows : is_accepted r.why ≡ true → r.state.rows ≡ s.rows + 1
  does-rows h =
      let w : why_store here x ≡ accepted = is-accepted r.why (why_store here x) verdict h in
      let e : if_accepted (why_store here x) (put_value x here) here ≡ put_value x here = ap (λ (z : Why). if_accepted z (put_value x here) here) w in
      ap (λ (z : Answer). z.state.rows) d.answers ∙ ap (λ (z : Builder). z.state.rows) e ∙ put-rows x here
