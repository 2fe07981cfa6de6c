-- `codes::is_month` meets its contract. Assumes nothing.
use Rattle.std.proofs.Common.{◌≡◌, ◌+◌, ◌*◌, get_or, sym, ap, ◌∙◌, arith}
use Rattle.codes.specs.MonthWords.{is_month_word}
use Rattle.codes.proofs.Laws.{month-word, month-is, month-long}
use Rattle.codes.proofs.is_month.Goals as goal

pub returns-in-len3 : goal.returns-in-len3
returns-in-len3 c =
    let s = c.args.s.now in
    let e : get_or s 0 0 * 65536 + get_or s 1 0 * 256 + get_or s 2 0 ≡ 65536 * get_or s 0 0 + (256 * get_or s 1 0 + get_or s 2 0) = omega arith in
    c.is_month_word.ensures ∙ (ap is_month_word e
    ∙ (sym (month-word (get_or s 0 0) (get_or s 1 0) (get_or s 2 0) (omega arith) (omega arith) (omega arith)) ∙ month-is s (omega arith)))

pub returns-in_default : goal.returns-in_default
returns-in_default c = sym (month-long c.args.s.now (λ e. omega arith))

pub returns-in_default-2 : goal.returns-in_default-2
returns-in_default-2 c = sym (month-long c.args.s.now (λ e. omega arith))
