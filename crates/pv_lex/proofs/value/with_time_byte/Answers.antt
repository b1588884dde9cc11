use Rattle.std.proofs.Common.{rules}
use Rattle.pv_lex.proofs.Digits.{time-wide}
use Rattle.pv_lex.proofs.value.with_time_byte.Goals as goal

pub returns-in_default : goal.returns-in_default
returns-in_default c = time-wide c.args.clock.sum c.args.clock.number c.args.byte c.args.others.now (search rules) (search rules)
    c.in_default.ensures
