use Rattle.builder.specs.RoomLaws.{row-long, row-kind, row-over, row_on}
use Rattle.bounds.specs.Bounds.{byte-limit-is}
use mathlib.Core.Path.{sym, ◌∙◌}
use native.Mathlib.Omega.{arith}
use Rattle.values.proofs.why_row.Goals as goal

pub returns-then-x-gt-BYTE_LIMIT : goal.returns-then-x-gt-BYTE_LIMIT
returns-then-x-gt-BYTE_LIMIT c = row-long _ _ _ _ _ _ (omega (arith, byte-limit-is))

pub returns-then-not-of_kind : goal.returns-then-not-of_kind
returns-then-not-of_kind c = row-kind _ _ _ _ _ _ (omega (arith, byte-limit-is)) (sym c.of_kind.ensures ∙ c.if-not-of_kind.true)

pub returns-then-room-rows : goal.returns-then-room-rows
returns-then-room-rows c = row-over _ _ _ _ _ _ (omega (arith, byte-limit-is)) (sym c.of_kind.ensures ∙ c.if-not-of_kind.false) (omega arith)

pub returns : goal.returns
returns c = row_on _ _ _ _ _ _ (omega (arith, byte-limit-is)) (sym c.of_kind.ensures ∙ c.if-not-of_kind.false) (omega arith)
