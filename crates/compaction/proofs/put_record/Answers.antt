use Rattle.std.proofs.Common.{◌+◌, ◌<◌, ◌≤◌, ◌∙◌, arith}
use Rattle.views.specs.View.{short_most}
use Rattle.compaction.proofs.CutLaws.{recorded-over, recorded-none}
use Rattle.compaction.proofs.put_record.Goals as goal
use Rattle.compaction.proofs.put_record.Goals.{then-n-gt-SHORT_MOST+then-most-s, else-n-gt-SHORT_MOST, else-n-gt-SHORT_MOST-via-then-n-gt-SHORT_MOST+else-most-s, else-n-gt-SHORT_MOST-via-else-n-gt-SHORT_MOST}

pub returns : goal.returns
returns c =
    let a = c.args in
    elim c.if-n-gt-SHORT_MOST.branch [
      | then-n-gt-SHORT_MOST+then-most-s w ↦ record {
        next = c.step.ensures;
        starts = w.newstarts-is ∙ recorded-over _ _ _ _ _ (omega arith) (omega arith);
        lens = w.newlens-is ∙ recorded-over _ _ _ _ _ (omega arith) (omega arith);
      }
      | else-n-gt-SHORT_MOST w ↦ (let stays : short_most < a.n → a.s.fill + a.n ≤ a.most = λ h. elim w.else-n-gt-SHORT_MOST.branch [
        | else-n-gt-SHORT_MOST-via-then-n-gt-SHORT_MOST+else-most-s v ↦ omega arith
        | else-n-gt-SHORT_MOST-via-else-n-gt-SHORT_MOST v ↦ absurd (omega arith)
      ] in record {
        next = c.step.ensures;
        starts = w.newstarts-is ∙ recorded-none _ _ _ _ _ stays;
        lens = w.newlens-is ∙ recorded-none _ _ _ _ _ stays;
      })
    ]
