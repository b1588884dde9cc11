use Rattle.std.proofs.Common.{◌+◌, arith}
use Rattle.pv_stl_run.proofs.Nestings.{opened_is}
use Rattle.pv_stl_run.proofs.logic.open_nesting.Goals as goal

pub returns-then-r-lt-MOST_NESTINGS-clause-same : goal.returns-then-r-lt-MOST_NESTINGS-clause-same
returns-then-r-lt-MOST_NESTINGS-clause-same c = λ few.
    opened_is c.args.r.now.accu1 c.args.r.now.accu2 c.args.r.now.logic c.args.r.now.codes c.args.r.now.nestings c.args.r.now.depth
    (c.args.r.now.depth + 1) c.args.junction (omega arith) (omega arith)
