-- No second answer to any call; none writes a lent buffer. Assumes nothing.
use mathlib.Core.Path.{◌≡◌, sym, ap₂, ◌∙◌}
use mathlib.Core.List.{List}
use Prim.Native.Nat.{ℕ}
use denote.Ref.{Bor}
use Rattle.basis.specs.Only.{Only}
use Rattle.reading.proofs.why_value.Kinds as why-value-kinds
use Rattle.reading.proofs.why_value.Reads as why-value
use Rattle.reading.proofs.value.Kinds as value-kinds
use Rattle.reading.proofs.value.Reads as value
use Rattle.reading.proofs.prefix.Kinds as prefix-kinds
use Rattle.reading.proofs.prefix.Reads as prefix
use Rattle.reading.proofs.suffix.Kinds as suffix-kinds
use Rattle.reading.proofs.suffix.Reads as suffix
use Rattle.reading.proofs.length.Kinds as length-kinds
use Rattle.reading.proofs.length.Reads as length
use Rattle.reading.proofs.null_bit.Kinds as null-bit-kinds
use Rattle.reading.proofs.null_bit.Reads as null-bit
use Rattle.reading.proofs.null_run.Kinds as null-run-kinds
use Rattle.reading.proofs.null_run.Reads as null-run
use Rattle.reading.proofs.slice.Kinds as slice-kinds
use Rattle.reading.proofs.slice.Reads as slice
use Rattle.reading.proofs.total_bytes_len.Kinds as total-bytes-len-kinds
use Rattle.reading.proofs.total_bytes_len.Reads as total-bytes-len
use Rattle.reading.proofs.total_buffer_bytes_used.Kinds as total-buffer-bytes-used-kinds
use Rattle.reading.proofs.total_buffer_bytes_used.Reads as total-buffer-bytes-used
use Rattle.reading.proofs.walk_start.Kinds as walk-start-kinds
use Rattle.reading.proofs.walk_start.Reads as walk_start
use Rattle.reading.proofs.walk_value.Kinds as walk-value-kinds
use Rattle.reading.proofs.walk_value.Reads as walk-value
use Rattle.reading.proofs.walk_step.Kinds as walk-step-kinds
use Rattle.reading.proofs.walk_step.Reads as walk_step
use Rattle.reading.proofs.locate.Kinds as locate-kinds
use Rattle.reading.proofs.locate.Reads as locate
use Rattle.reading.proofs.why_of.Kinds as why-of-kinds
use Rattle.reading.proofs.why_of.Reads as why-of
use Rattle.reading.proofs.part_of.Kinds as part-of-kinds
use Rattle.reading.proofs.part_of.Reads as part_of

-- of a part: which one it is, and its bytes
abbrev part : Bor (List ℕ) → (ℕ × ℕ) × List ℕ
part r = (r.ref_ptr, r.now)

part-one : (r r' : Bor (List ℕ)) {x : List ℕ} {p : ℕ × ℕ} → (r.now ≡ x) × (r.ref_ptr ≡ p) → (r'.now ≡ x) × (r'.ref_ptr ≡ p) → part r ≡ part r'
part-one r r' h g = ap₂ (λ (a : ℕ × ℕ) (b : List ℕ). (a, b)) (h.1 ∙ sym g.1) (h.0 ∙ sym g.0)

pub one-locate : Only locate-kinds.ps locate-kinds.r locate.Post (λ κs z s. z)
one-locate κs a z z' s s' p q = p ∙ sym q

pub one-why-of : Only why-of-kinds.ps why-of-kinds.r why-of.Post (λ κs z s. z)
one-why-of κs a z z' s s' p q = p ∙ sym q

pub one-part : Only part-of-kinds.ps part-of-kinds.r part_of.Post (λ κs z s. part z)
one-part κs a z z' s s' p q = part-one z z' p q

pub one-why : Only why-value-kinds.ps why-value-kinds.r why-value.Post (λ κs z s. z)
one-why κs a z z' s s' p q = p ∙ sym q

pub one_value : Only value-kinds.ps value-kinds.r value.Post (λ κs z s. part z)
one_value κs a z z' s s' p q = part-one z z' p q

pub one-prefix : Only prefix-kinds.ps prefix-kinds.r prefix.Post (λ κs z s. part z)
one-prefix κs a z z' s s' p q = part-one z z' p q

pub one-suffix : Only suffix-kinds.ps suffix-kinds.r suffix.Post (λ κs z s. part z)
one-suffix κs a z z' s s' p q = part-one z z' p q

pub one-length : Only length-kinds.ps length-kinds.r length.Post (λ κs z s. z)
one-length κs a z z' s s' p q = p ∙ sym q

pub one_bit : Only null-bit-kinds.ps null-bit-kinds.r null-bit.Post (λ κs z s. z)
one_bit κs a z z' s s' p q = p ∙ sym q

pub one-run : Only null-run-kinds.ps null-run-kinds.r null-run.Post (λ κs z s. z)
one-run κs a z z' s s' p q = p ∙ sym q

pub one-slice : Only slice-kinds.ps slice-kinds.r slice.Post (λ κs z s. z)
one-slice κs a z z' s s' p q = p ∙ sym q

pub one-bytes : Only total-bytes-len-kinds.ps total-bytes-len-kinds.r total-bytes-len.Post (λ κs z s. z)
one-bytes κs a z z' s s' p q = p ∙ sym q

pub one-buffer : Only total-buffer-bytes-used-kinds.ps total-buffer-bytes-used-kinds.r total-buffer-bytes-used.Post (λ κs z s. z)
one-buffer κs a z z' s s' p q = p ∙ sym q

pub one-start : Only walk-start-kinds.ps walk-start-kinds.r walk_start.Post (λ κs z s. z)
one-start κs a z z' s s' p q = p ∙ sym q

pub one-walked : Only walk-value-kinds.ps walk-value-kinds.r walk-value.Post (λ κs z s. part z)
one-walked κs a z z' s s' p q = part-one z z' p q

pub one-step : Only walk-step-kinds.ps walk-step-kinds.r walk_step.Post (λ κs z s. z)
one-step κs a z z' s s' p q = p ∙ sym q
