use Rattle.std.proofs.Common.{sym, ◌∙◌}
use Rattle.laying.specs.RoomLaws.{rooms-five, rooms-six, rooms-seven, rooms-yes}
use Rattle.laying.proofs.why_rooms_with.Goals as goal

pub returns-then-not-fits_with : goal.returns-then-not-fits_with
returns-then-not-fits_with c = λ t e. rooms-five _ _ _ _ _ (sym (c.fits_with.ensures.1 c.args.bytes.now t e) ∙ c.if-not-fits_with.true)

pub returns-then-not-fits_with-2 : goal.returns-then-not-fits_with-2
returns-then-not-fits_with-2 c = λ t e.
    rooms-six _ _ _ _ _ (sym (c.fits_with.ensures.1 c.args.bytes.now t e) ∙ c.if-not-fits_with.false)
    (sym (c.fits_with-2.ensures.1 c.args.bytes.now t e) ∙ c.if-not-fits_with-2.true)

pub returns-then-not-in_data : goal.returns-then-not-in_data
returns-then-not-in_data c = λ t e.
    rooms-seven _ _ _ _ _ (sym (c.fits_with.ensures.1 c.args.bytes.now t e) ∙ c.if-not-fits_with.false)
    (sym (c.fits_with-2.ensures.1 c.args.bytes.now t e) ∙ c.if-not-fits_with-2.false) (sym c.in_data.ensures ∙ c.if-not-in_data.true)

pub returns : goal.returns
returns c = λ t e.
    rooms-yes _ _ _ _ _ (sym (c.fits_with.ensures.1 c.args.bytes.now t e) ∙ c.if-not-fits_with.false)
    (sym (c.fits_with-2.ensures.1 c.args.bytes.now t e) ∙ c.if-not-fits_with-2.false) (sym c.in_data.ensures ∙ c.if-not-in_data.false)
