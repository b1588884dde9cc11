use Rattle.pv_flow.specs.AutomatonView.{automaton_of, attached_to}
use Rattle.pv_flow.proofs.Lawful.{acyclic_is_lawful}
use Rattle.pv_flow.proofs.as_machines.acyclic.Goals as goal

pub invariant_of-result-clause-lawful : goal.invariant_of-result-clause-lawful
invariant_of-result-clause-lawful c =
    acyclic_is_lawful (automaton_of c.args.automaton) (attached_to c.args.automaton c.args.attached) c.args.automaton.faultless
    c.args.automaton.well_made c.requires.fits
