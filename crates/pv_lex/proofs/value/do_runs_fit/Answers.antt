use Rattle.std.proofs.Common.{arith}
use Rattle.pv_lex.proofs.Digits.{runs-wide}
use Rattle.pv_lex.proofs.value.do_runs_fit.Goals as goal

pub returns-in_default : goal.returns-in_default
returns-in_default c = runs-wide c.args.bytes.now c.loop-byte.byte-index c.loop-byte.value (omega arith) c.loop-byte.invariant.0
    c.loop-byte.invariant.1 c.in_default.ensures
