use Rattle.std.proofs.Common.{◌≡◌, sym, ◌∙◌, arith}
use Rattle.offsets.specs.OffsetLaws.{kinds-begin, kinds-more, kinds-stop, kinds-all}
use Rattle.offsets.specs.Steps.{width}
use Rattle.offsets.proofs.TextLaws.{kind-any}
use Rattle.offsets.proofs.Input.all_of_kind.Goals as goal

pub whole-requires : goal.whole-requires
whole-requires c = let p = c.requires in (p.there, p.small, p.cut)

pub returns-then-whole : goal.returns-then-whole
returns-then-whole c =
    let s = c.args.self in
    sym (kinds-all _ _ _ _ (λ r h. kind-any (width s) s.offsets.now s.bytes.now s.nulls.now s.mapped c.args.kind r (c.whole.ensures c.if-whole.true r h)))

pub loop-j-init : goal.loop-j-init
loop-j-init c = kinds-begin _ _ _

pub row_of_kind-requires : goal.row_of_kind-requires
row_of_kind-requires c = let p = c.requires in
    (p.cut c.loop-j.j (omega arith), omega (arith, p.small), λ e. omega (arith, p.map e))

pub returns-then-not-row_of_kind : goal.returns-then-not-row_of_kind
returns-then-not-row_of_kind c = kinds-stop _ _ _ c.loop-j.j _ (omega arith) (sym c.row_of_kind.ensures ∙ c.if-not-row_of_kind.true)

pub loop-j-preserved : goal.loop-j-preserved
loop-j-preserved c = kinds-more _ _ _ _ c.loop-j.invariant (sym c.row_of_kind.ensures ∙ c.if-not-row_of_kind.false)

pub returns : goal.returns
returns c = let e : c.loop-j.j ≡ c.args.rows = omega arith in rw (← e) (sym c.loop-j.invariant)
