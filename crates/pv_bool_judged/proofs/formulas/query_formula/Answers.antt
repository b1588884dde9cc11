use Rattle.pv_bool.specs.Programs.{program_tree}
use Rattle.pv_step.specs.Circuits.{circuit_of}
use Rattle.pv_bool_judged.proofs.Formed.{seen-is}
use Rattle.pv_bool_judged.proofs.formulas.query_formula.Goals as goal

pub step_formula-requires-clause-circuit : goal.step_formula-requires-clause-circuit
step_formula-requires-clause-circuit c = seen-is (circuit_of (program_tree c.args.program.now)) c.args.limit c.in-Ok.step c.in-Ok.ensures.made
