-- `codes::is_code_byte` meets its contract. Assumes nothing.
use Rattle.std.proofs.Common.{arith}
use Rattle.codes.proofs.Laws.{byte-bit, byte_low, byte_high}
use Rattle.codes.proofs.is_code_byte.Goals as goal

pub returns-in-45-to-90 : goal.returns-in-45-to-90
returns-in-45-to-90 c = byte-bit c.args.b (omega arith) (omega arith)

pub returns-in_default : goal.returns-in_default
returns-in_default c = byte_low c.args.b (omega arith)

pub returns-in_default-2 : goal.returns-in_default-2
returns-in_default-2 c = byte_high c.args.b (omega arith)
