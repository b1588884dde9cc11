use Rattle.std.proofs.Common.{arith}
use Rattle.pv_eval.proofs.OperatorLaws.{shr_far}
use Rattle.pv_eval.proofs.operator.shr.Goals as goal

pub returns-else-n-lt32 : goal.returns-else-n-lt32
returns-else-n-lt32 c = shr_far c.args.ty c.args.a c.args.n (omega arith)
