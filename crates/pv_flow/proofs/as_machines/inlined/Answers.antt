use Rattle.pv_flow.specs.AutomatonView.{automaton_of}
use Rattle.pv_flow.proofs.Lawful.{inlined_is_lawful}
use Rattle.pv_flow.proofs.as_machines.inlined.Goals as goal

pub invariant_of-result-clause-lawful : goal.invariant_of-result-clause-lawful
invariant_of-result-clause-lawful c =
    inlined_is_lawful (automaton_of c.args.automaton) c.args.bound c.args.automaton.faultless c.args.automaton.well_made
