use Rattle.std.proofs.Common.{length, ap, sym, ◌∙◌, List}
use Rattle.pv_bool.specs.Programs.{program_tree}
use Rattle.pv_circuit.specs.declared.start.Start.{Start}
use Rattle.pv_circuit.specs.Circuits.{Circuit}
use Rattle.pv_circuit.specs.Made.{circuit_seen}
use Rattle.pv_step.specs.Circuits.{circuit_of}
use Rattle.pv_step.specs.Steps.{starts_of}
use Rattle.pv_step.proofs.ForCallers.{long-starts}
use Rattle.pv_bool_judged.proofs.Formed.{formula-is}
use Rattle.pv_bool_judged.proofs.formulas.step_formula.Goals as goal

pub formula_from-requires-clause-start : goal.formula_from-requires-clause-start
formula_from-requires-clause-start c =
    ap (λ (xs : List Start). length xs) (c.as_slice.ensures ∙ c.in_ok-starts.ensures)
    ∙ (long-starts (program_tree c.args.program.now) c.args.program.now.own
    ∙ sym (ap (λ (x : Circuit). length x.state_in) c.requires.circuit))

pub returns-clause-formula : goal.returns-clause-formula
returns-clause-formula c =
    formula-is (circuit_seen c.args.step.now) (circuit_of (program_tree c.args.program.now)) c.as_slice.result.now
    (starts_of (program_tree c.args.program.now)) c.args.query c.formula_from.result c.requires.circuit
    (c.as_slice.ensures ∙ c.in_ok-starts.ensures) c.formula_from.ensures.formula
