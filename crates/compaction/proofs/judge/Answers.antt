use Rattle.std.proofs.Common.{not, sym, ap, ◌∙◌, arith}
use Rattle.std.proofs.lemmas.Result.{err_from_is_err_and}
use Rattle.bounds.specs.Bounds.{most-compaction-is}
use Rattle.column.proofs.FitLaws.{fits_gives}
use Rattle.compaction.proofs.CallLaws.{compact-setting, compact-fit, compact-row, compact-rooms, judged}
use Rattle.compaction.proofs.judge.Goals as goal

pub returns-then-most-gt-MOST_COMPACTION : goal.returns-then-most-gt-MOST_COMPACTION
returns-then-most-gt-MOST_COMPACTION c = compact-setting _ _ _ _ _ _ _ _ (omega (arith, most-compaction-is))

pub returns-then-not-fits : goal.returns-then-not-fits
returns-then-not-fits c =
    compact-fit _ _ _ _ _ _ _ _ (omega (arith, most-compaction-is)) (ap not (sym c.fits.ensures ∙ c.if-not-fits.true))

pub measure-requires : goal.measure-requires
measure-requires c =
    let g = fits_gives _ _ _ _ _ _ (sym c.fits.ensures ∙ c.if-not-fits.false) in
    record { rows = g.rows; views = g.views; starts = g.starts; lens = g.lens }

pub returns-in_err-s : goal.returns-in_err-s
returns-in_err-s c =
    let p = err_from_is_err_and c.from_residual.result c.from_residual.ensures.1 in
    rw (p.1, p.2) (compact-row _ _ _ _ _ _ _ _ (omega (arith, most-compaction-is)) (ap not (sym c.fits.ensures ∙ c.if-not-fits.false)) _ c.in_err-s.ensures)

pub returns-in_err-why_rooms : goal.returns-in_err-why_rooms
returns-in_err-why_rooms c =
    let p = err_from_is_err_and c.from_residual-in_err-why_rooms.result c.from_residual-in_err-why_rooms.ensures.1 in
    rw (p.1, p.2) (compact-rooms _ _ _ _ _ _ _ _ (omega (arith, most-compaction-is)) (ap not (sym c.fits.ensures ∙ c.if-not-fits.false)) _ c.in_ok-s.ensures
    _ _ _ c.blocks-blocks.ensures c.bytes-bytes.ensures (sym c.in_err-why_rooms.was ∙ c.why_rooms.ensures))

pub returns : goal.returns
returns c =
    judged _ _ _ _ _ _ _ _ (omega (arith, most-compaction-is)) (ap not (sym c.fits.ensures ∙ c.if-not-fits.false)) _ c.in_ok-s.ensures _
    c.blocks-blocks.ensures c.bytes-bytes.ensures (sym c.in_ok-why_rooms.was ∙ c.why_rooms.ensures)
