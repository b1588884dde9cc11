use Rattle.std.proofs.Common.{◌-◌, rules}
use Rattle.pv_run.proofs.Lists.{found_at}
use Rattle.pv_run.proofs.Starting.{begins}
use Rattle.pv_run.proofs.program.Program.started.Goals as goal

pub returns-clause-starts : goal.returns-clause-starts
returns-clause-starts c =
    λ source block site program is. begins source block c.args.self.now c.args.c c.in-Some-block.n c.args.at
    (record { first = c.first_of.result; calls = c.args.at.calls - 1 }) site c.in-Some.call.now program is
    (found_at c.deref.result.now c.args.self.now.calls.items c.args.c c.in-Some.call.now c.deref.ensures.value (search rules)
    (search rules))
    (search rules) c.in-Some-code.code (search rules) c.first_of.ensures.value
