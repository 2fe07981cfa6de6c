-- `codes::is_groups` meets its contract. Assumes nothing.
use Rattle.std.proofs.Common.{sym, ap, ◌∙◌, le-ltb}
use Rattle.std.proofs.lemmas.List.{take_rest}
use Rattle.codes.specs.Recogniser.{groups_follow}
use Rattle.codes.proofs.Laws.{groups-no, groups-one, groups-more}
use Rattle.codes.proofs.is_groups.Goals as goal

pub returns-then-not-is_group : goal.returns-then-not-is_group
returns-then-not-is_group c = groups-no _ _ c.requires.0 (sym c.is_group.ensures ∙ c.if-not-is_group.true)

pub returns-then-d-s : goal.returns-then-d-s
returns-then-d-s c = groups-more _ _ c.requires.0 _ (sym c.is_group.ensures ∙ c.if-not-is_group.false) c.if-d-s.true
    (c.groups_follow.ensures ∙ ap (groups_follow 2) (take_rest c.args.s.now c.args.d))

pub returns-else-d-s : goal.returns-else-d-s
returns-else-d-s c = le-ltb _ _ c.if-d-s.false ∙ groups-one _ _ c.requires.0 c.if-d-s.false
