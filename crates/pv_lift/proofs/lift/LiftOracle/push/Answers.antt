use Rattle.std.proofs.Common.{◌≤◌, List}
use Rattle.pv_circuit.specs.declared.start.Start.{Start}
use Rattle.pv_circuit.specs.Circuits.{Circuit}
use Rattle.pv_frames.specs.Pushing.{Pushes}
use Rattle.pv_frames.specs.Queries.{variable_count, query_clauses}
use Rattle.pv_lift.proofs.Kept.{of_built, at_built}
use Rattle.pv_lift.proofs.Told.{asked_in}
use Rattle.pv_lift.proofs.lift.LiftOracle.push.Goals as goal

pub push-requires-clause-asked : goal.push-requires-clause-asked
push-requires-clause-asked g c = asked_in c.args.q c.requires.asked

pub push-requires-clause-variables : goal.push-requires-clause-variables
push-requires-clause-variables g c =
    let l = c.args.self.now in
    let at = l.machine.circuits.now in
    at_built (λ (x : Circuit) (s : List Start). variable_count x s c.args.q ≤ g.D.Clauses.variables c.args.into.now) l.built
    (g.C.StepSource.step at) (g.C.StepSource.start at) l.is_built c.requires.variables

pub returns-clause-pushes : goal.returns-clause-pushes
returns-clause-pushes g c =
    let l = c.args.self.now in
    let at = l.machine.circuits.now in
    of_built (λ (x : Circuit) (s : List Start). Pushes (g.D.Clauses.overflow c.args.into.now) (g.D.Clauses.clauses c.args.into.now)
    (query_clauses x s c.args.q) (g.D.Clauses.clauses c.push.new.into) c.push.result) l.built
    (g.C.StepSource.step at) (g.C.StepSource.start at) l.is_built c.requires.ready c.push.ensures.pushes
