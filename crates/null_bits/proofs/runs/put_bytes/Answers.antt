use mathlib.Core.Path.{◌≡◌, sym, ◌∙◌}
use native.Mathlib.Omega.{arith}
use Prim.Native.Nat.{◌+◌, ◌-◌}
use lib.ListN.{length, take, drop, replicate, length-drop}
use lib.Seq.{length-take-le}
use Rattle.std.proofs.lemmas.List.{length-replicate}
use Rattle.std.proofs.lemmas.Slice.{put_mid-paste}
use Rattle.null_bits.proofs.ByteLaws.{bytes_filled}
use Rattle.null_bits.proofs.runs.put_bytes.Goals as goal

pub returns : goal.returns
returns c =
    let a = c.args in
    let n : a.i + a.bytes - a.i ≡ a.bytes = omega arith in
    let part : length (take a.bytes (drop a.i a.map.now)) ≡ a.bytes = length-take-le a.bytes (drop a.i a.map.now) (simp length-drop (omega arith)) in
    let is : c.fill.new.self ≡ replicate a.bytes a.x = rw (n, part) at (c.fill.ensures.after (λ y h. h)) in
    put_mid-paste a.i _ a.map.now _ (replicate a.bytes a.x) a.bytes is (sym n) (sym (length-replicate a.bytes a.x)) ∙ bytes_filled a.map.now a.i a.x a.bytes (omega arith)
