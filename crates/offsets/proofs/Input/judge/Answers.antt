use Rattle.std.proofs.Common.{not, sym, ap, ◌∙◌}
use Rattle.std.proofs.lemmas.Result.{err_from_is_err_and}
use Rattle.bounds.specs.Refusals.{answered-yes, answered-no}
use Rattle.offsets.specs.CallLaws.{rows-are, refused_none, refused-map, refused-cut, refused-kind, judged, source_in}
use Rattle.offsets.proofs.Input.judge.Goals as goal

pub returns-in_default : goal.returns-in_default
returns-in_default c = answered-no _ _ _ (refused_none _ _ _ _ c.in_default.ensures)

pub returns-then-map_short : goal.returns-then-map_short
returns-then-map_short c =
    answered-no _ _ _ (refused-map _ _ _ _ _ (rows-are _ _ _ c.in-Some.ensures.0) (sym c.map_short.ensures ∙ c.if-map_short.true))

pub returns-then-not-cuts : goal.returns-then-not-cuts
returns-then-not-cuts c =
    answered-no _ _ _ (refused-cut _ _ _ _ _ (rows-are _ _ _ c.in-Some.ensures.0) (sym c.map_short.ensures ∙ c.if-map_short.false)
    (ap not (sym c.cuts.ensures ∙ c.if-not-cuts.true)))

pub all_of_kind-requires : goal.all_of_kind-requires
all_of_kind-requires c =
    let p = c.in-Some.ensures in
    source_in _ _ _ p.0 p.1 (sym c.map_short.ensures ∙ c.if-map_short.false) (sym c.cuts.ensures ∙ c.if-not-cuts.false)

pub returns-then-not-all_of_kind : goal.returns-then-not-all_of_kind
returns-then-not-all_of_kind c =
    answered-no _ _ _ (refused-kind _ _ _ _ _ (rows-are _ _ _ c.in-Some.ensures.0) (sym c.map_short.ensures ∙ c.if-map_short.false)
    (ap not (sym c.cuts.ensures ∙ c.if-not-cuts.false)) (sym c.all_of_kind.ensures ∙ c.if-not-all_of_kind.true))

pub returns-in_err-why_rooms : goal.returns-in_err-why_rooms
returns-in_err-why_rooms c =
    let p = err_from_is_err_and c.from_residual.result c.from_residual.ensures.1 in
    rw (p.1, p.2) (answered-no _ _ _ (judged _ _ _ _ _ (rows-are _ _ _ c.in-Some.ensures.0) (sym c.map_short.ensures ∙ c.if-map_short.false)
    (ap not (sym c.cuts.ensures ∙ c.if-not-cuts.false)) (sym c.all_of_kind.ensures ∙ c.if-not-all_of_kind.false) _
    (sym c.in_err-why_rooms.was ∙ c.why_rooms.ensures)))

pub returns : goal.returns
returns c =
    let e = rows-are _ _ _ c.in-Some.ensures.0 in
    answered-yes _ _ _ (judged _ _ _ _ _ e (sym c.map_short.ensures ∙ c.if-map_short.false)
    (ap not (sym c.cuts.ensures ∙ c.if-not-cuts.false)) (sym c.all_of_kind.ensures ∙ c.if-not-all_of_kind.false) _
    (sym c.in_ok-why_rooms.was ∙ c.why_rooms.ensures)) e
