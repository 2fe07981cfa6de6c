use Rattle.std.proofs.Common.{sym, ◌∙◌}
use Rattle.compaction.proofs.CallLaws.{by-none, by-some}
use Rattle.compaction.proofs.Stand.blocks.Goals as goal

pub returns-then-bytes-eq0 : goal.returns-then-bytes-eq0
returns-then-bytes-eq0 c = by-none _ (sym c.bytes.ensures ∙ c.if-bytes-eq0.true)

pub returns : goal.returns
returns c = by-some _ (λ e. c.if-bytes-eq0.false (c.bytes.ensures ∙ e))
