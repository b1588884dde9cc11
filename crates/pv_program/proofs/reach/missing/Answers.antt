use Rattle.std.proofs.Common.{sym, ◌∙◌}
use Rattle.pv_program.proofs.Reaching.{made-runs}
use Rattle.pv_program.proofs.reach.missing.Goals as goal

pub returns-then-has_code-clause-none : goal.returns-then-has_code-clause-none
returns-then-has_code-clause-none c =
    made-runs c.args.codes.now c.args.call.now c.in-Some.block c.in-Some.is (sym c.has_code.ensures ∙ c.if-has_code.true)

pub returns-else-has_code-clause-runs : goal.returns-else-has_code-clause-runs
returns-else-has_code-clause-runs c = c.in-Some.is
