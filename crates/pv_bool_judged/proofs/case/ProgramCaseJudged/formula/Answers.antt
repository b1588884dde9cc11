use Rattle.pv_gate.specs.Node.{gate_count}
use Rattle.pv_bool.specs.Programs.{program_tree}
use Rattle.pv_step.specs.Circuits.{circuit_of}
use Rattle.pv_bool_judged.proofs.Formed.{asked-is, fits-is, passes-is}
use Rattle.pv_bool_judged.proofs.case.ProgramCaseJudged.formula.Goals as goal

pub query_formula-requires-clause-query : goal.query_formula-requires-clause-query
query_formula-requires-clause-query c = asked-is c.args.q c.requires

pub returns-clause-fits : goal.returns-clause-fits
returns-clause-fits c =
    fits-is c.args.self.now.gates (gate_count (circuit_of (program_tree c.args.self.now.program.now)).nodes) c.query_formula.result
    c.query_formula.ensures.fits

pub returns-clause-passes : goal.returns-clause-passes
returns-clause-passes c = λ e.
    passes-is c.args.self.now.gates (program_tree c.args.self.now.program.now) c.query_formula.result c.query_formula.ensures.cause e
