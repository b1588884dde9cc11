use Rattle.pv_bool.specs.Programs.{program_tree}
use Rattle.pv_step.specs.Circuits.{circuit_of}
use Rattle.pv_recheck.proofs.Judged.{seen-is}
use Rattle.pv_recheck.proofs.check.step_formula.Goals as goal

pub formula_of-requires-clause-circuit : goal.formula_of-requires-clause-circuit
formula_of-requires-clause-circuit c = seen-is (circuit_of (program_tree c.args.program.now)) c.args.limit c.in-Ok.step c.in-Ok.ensures.made
