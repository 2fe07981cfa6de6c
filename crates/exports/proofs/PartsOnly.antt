-- No second answer to an exported call on a row's parts, lengths, null bits, slices and totals.
-- Assumes nothing.
use mathlib.Core.Path.{sym, ◌∙◌}
use Rattle.basis.specs.Only.{Only}
use Rattle.exports.proofs.parts.tambuyeel_prefix.Kinds as prefix-kinds
use Rattle.exports.proofs.parts.tambuyeel_prefix.Reads as prefix
use Rattle.exports.proofs.parts.tambuyeel_suffix.Kinds as suffix-kinds
use Rattle.exports.proofs.parts.tambuyeel_suffix.Reads as suffix
use Rattle.exports.proofs.parts.tambuyeel_length.Kinds as length-kinds
use Rattle.exports.proofs.parts.tambuyeel_length.Reads as length
use Rattle.exports.proofs.parts.tambuyeel_null_bit.Kinds as null-bit-kinds
use Rattle.exports.proofs.parts.tambuyeel_null_bit.Reads as null-bit
use Rattle.exports.proofs.parts.tambuyeel_null_run.Kinds as null-run-kinds
use Rattle.exports.proofs.parts.tambuyeel_null_run.Reads as null-run
use Rattle.exports.proofs.parts.tambuyeel_slice.Kinds as slice-kinds
use Rattle.exports.proofs.parts.tambuyeel_slice.Reads as slice
use Rattle.exports.proofs.parts.tambuyeel_total_bytes_len.Kinds as bytes-len-kinds
use Rattle.exports.proofs.parts.tambuyeel_total_bytes_len.Reads as bytes-len
use Rattle.exports.proofs.parts.tambuyeel_total_buffer_bytes_used.Kinds as bytes-used-kinds
use Rattle.exports.proofs.parts.tambuyeel_total_buffer_bytes_used.Reads as bytes-used

pub one-prefix : Only prefix-kinds.ps prefix-kinds.r prefix.Post (λ κs z s. z)
one-prefix κs a z z' s s' p q = p ∙ sym q

pub one-suffix : Only suffix-kinds.ps suffix-kinds.r suffix.Post (λ κs z s. z)
one-suffix κs a z z' s s' p q = p ∙ sym q

pub one-length : Only length-kinds.ps length-kinds.r length.Post (λ κs z s. z)
one-length κs a z z' s s' p q = p ∙ sym q

pub one-null-bit : Only null-bit-kinds.ps null-bit-kinds.r null-bit.Post (λ κs z s. z)
one-null-bit κs a z z' s s' p q = p ∙ sym q

pub one-null-run : Only null-run-kinds.ps null-run-kinds.r null-run.Post (λ κs z s. z)
one-null-run κs a z z' s s' p q = p ∙ sym q

pub one-slice : Only slice-kinds.ps slice-kinds.r slice.Post (λ κs z s. z)
one-slice κs a z z' s s' p q = p ∙ sym q

pub one-bytes-len : Only bytes-len-kinds.ps bytes-len-kinds.r bytes-len.Post (λ κs z s. z)
one-bytes-len κs a z z' s s' p q = p ∙ sym q

pub one-bytes-used : Only bytes-used-kinds.ps bytes-used-kinds.r bytes-used.Post (λ κs z s. z)
one-bytes-used κs a z z' s s' p q = p ∙ sym q
