use Rattle.std.proofs.Common.{arith}
use Rattle.pv_lex.proofs.Digits.{value-wide}
use Rattle.pv_lex.proofs.value.digits_value.Goals as goal

pub returns-in_default : goal.returns-in_default
returns-in_default c = value-wide c.args.base c.args.digits.now c.loop-byte.byte-index c.loop-byte.value c.requires.low (omega arith)
    c.loop-byte.invariant c.in_default.ensures
