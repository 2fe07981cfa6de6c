use Rattle.std.proofs.Common.{not, sym, ap, ◌∙◌, arith}
use Rattle.std.proofs.lemmas.Result.{err_from_is_err_and}
use Rattle.bounds.specs.Bounds.{most-compaction-is}
use Rattle.column.proofs.FitLaws.{fits_gives}
use Rattle.compaction.proofs.CallLaws.{compact-setting, compact-fit, compact-row, compact-rooms, judged}
use Rattle.compaction_blocks.proofs.RecordLaws.{long_is}
use Rattle.compaction_blocks.proofs.judge.Goals as goal

pub returns-then-most-gt-MOST_COMPACTION : goal.returns-then-most-gt-MOST_COMPACTION
returns-then-most-gt-MOST_COMPACTION c = compact-setting _ _ _ _ _ _ _ _ (omega (arith, most-compaction-is))

pub returns-then-not-fits_with : goal.returns-then-not-fits_with
returns-then-not-fits_with c =
    compact-fit _ _ _ _ _ _ _ _ (omega (arith, most-compaction-is))
    (ap not (sym (c.fits_with.ensures.1 _ _ (long_is c.args.l.table.now)) ∙ c.if-not-fits_with.true))

pub measure-requires : goal.measure-requires
measure-requires c =
    let g = fits_gives _ _ _ _ _ _ (sym (c.fits_with.ensures.1 c.args.l.bytes.now _ (long_is c.args.l.table.now)) ∙ c.if-not-fits_with.false) in
    record { rows = g.rows; views = g.views; starts = g.starts; lens = g.lens }

pub returns-in_err-s : goal.returns-in_err-s
returns-in_err-s c =
    let p = err_from_is_err_and c.from_residual.result c.from_residual.ensures.1 in
    rw (p.1, p.2) (compact-row _ _ _ _ _ _ _ _ (omega (arith, most-compaction-is))
    (ap not (sym (c.fits_with.ensures.1 _ _ (long_is c.args.l.table.now)) ∙ c.if-not-fits_with.false)) _ c.in_err-s.ensures)

pub returns-in_err-why_rooms_with : goal.returns-in_err-why_rooms_with
returns-in_err-why_rooms_with c =
    let p = err_from_is_err_and c.from_residual-in_err-why_rooms_with.result c.from_residual-in_err-why_rooms_with.ensures.1 in
    rw (p.1, p.2) (compact-rooms _ _ _ _ _ _ _ _ (omega (arith, most-compaction-is))
    (ap not (sym (c.fits_with.ensures.1 _ _ (long_is c.args.l.table.now)) ∙ c.if-not-fits_with.false)) _ c.in_ok-s.ensures
    _ _ _ c.blocks-blocks.ensures c.bytes-bytes.ensures
    (sym c.in_err-why_rooms_with.was ∙ c.why_rooms_with.ensures _ (long_is c.args.to.table.now)))

pub returns : goal.returns
returns c =
    judged _ _ _ _ _ _ _ _ (omega (arith, most-compaction-is))
    (ap not (sym (c.fits_with.ensures.1 _ _ (long_is c.args.l.table.now)) ∙ c.if-not-fits_with.false)) _ c.in_ok-s.ensures _
    c.blocks-blocks.ensures c.bytes-bytes.ensures
    (sym c.in_ok-why_rooms_with.was ∙ c.why_rooms_with.ensures _ (long_is c.args.to.table.now))
