use Rattle.pv_queries.specs.Lawful.{lawful_by_circuits}
use Rattle.pv_queries.proofs.laws.machines_of_circuits_are_lawful.Goals as goal

pub returns : goal.returns
returns c = lawful_by_circuits
