-- A row many times, field by field. Assumes nothing.
use Rattle.std.specs.Prelude.{◌≡◌, true, List, length, take, drop}
use Rattle.std.proofs.Math.Path.{refl}
use Rattle.std.proofs.Common.{sym, ap, ◌∙◌, add-zero, add-suc, add-one, arith, take-take}
use Prim.Native.Nat.{ℕ, zero, suc, ◌+◌, ◌*◌, ◌≤◌, ◌<◌}
use Rattle.std.proofs.Math.Seq.{paste, length-paste}
use Rattle.null_bits.specs.Runs.{put_bits, put_run}
use Rattle.views.specs.View.{view_size, view_at}
use Rattle.views.specs.ViewLaws.{length-view, view-before}
use Rattle.column.specs.Lent.{buffers}
use Rattle.builder.specs.declared.State.{State}
use Rattle.builder.specs.State.{Builder, builder, moved, add_row, add_rows}

-- v stored n times from row r on
unfoldable pub put_copies : List ℕ → ℕ → List ℕ → ℕ → List ℕ
put_copies vs r v zero = vs
put_copies vs r v (suc n) = paste (put_copies vs r v n) (16 * (r + n)) v 16

-- the state with n valid rows more
abbrev pub rowed_by : ℕ → State → State
rowed_by n s = moved s s.growth (s.rows + n) s.blocks s.base s.fill s.cap s.nulled

pub add-rows : (n : ℕ) (v : List ℕ) (b : Builder) → add_rows n v true b
    ≡ builder (rowed_by n b.state) (buffers (put_copies b.lent.views b.state.rows v n) b.lent.bytes b.lent.table
    (put_run b.lent.nulls b.state.rows n true)) b.places
unfolding add_rows add_row put_copies put_bits
add-rows zero v b =
    let s = b.state in
    ap (λ (k : ℕ). builder (moved s s.growth k s.blocks s.base s.fill s.cap s.nulled) b.lent b.places) (sym (add-zero s.rows))
add-rows (suc n) v b = rw (add-rows n v b, add-suc b.state.rows n)

module _ (vs v : List ℕ) (r : ℕ) (e : length v ≡ view_size) where
  pub copies_length : (n : ℕ) → 16 * (r + n) ≤ length vs → length (put_copies vs r v n) ≡ length vs
  unfolding put_copies
  copies_length zero h = refl
  copies_length (suc n) h = let ih = copies_length n (omega arith) in length-paste (put_copies vs r v n) (16 * (r + n)) v 16 (omega arith) (omega arith) ∙ ih

  -- rows before stay
  pub copies-before : (n q : ℕ) → q < r → 16 * (r + n) ≤ length vs → view_at (put_copies vs r v n) q ≡ view_at vs q
  unfolding put_copies
  copies-before zero q l h = refl
  copies-before (suc n) q l h =
      let ih = copies_length n (omega arith) in
      view-before (put_copies vs r v n) v (r + n) e (omega arith) q (omega arith) ∙ copies-before n q l (omega arith)

  pub copies-more : (k : ℕ) → paste (put_copies vs r v k) (16 * (r + k)) v 16 ≡ put_copies vs r v (k + 1)
  unfolding put_copies
  copies-more k = rw (add-one k)

pub copies-none : (vs : List ℕ) (r : ℕ) (v : List ℕ) → vs ≡ put_copies vs r v 0
unfolding put_copies
copies-none vs r v = refl

-- one copy more, by the bytes of the row that is copied
pub copies-next : (vs ws : List ℕ) (from to k : ℕ) → 16 * from + 16 ≤ length vs → ws ≡ put_copies vs to (view_at vs from) k
    → paste ws (16 * (to + k)) (drop (16 * from) vs) 16 ≡ put_copies vs to (view_at vs from) (k + 1)
unfolding view_at
copies-next vs ws from to k h e =
    let same : paste ws (16 * (to + k)) (drop (16 * from) vs) 16 ≡ paste ws (16 * (to + k)) (take 16 (drop (16 * from) vs)) 16 =
    rw (take-take 16 16 (drop (16 * from) vs) (omega arith)) in
    same ∙ rw e (copies-more vs (take 16 (drop (16 * from) vs)) to (length-view vs from h) k)
