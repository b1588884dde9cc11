use Rattle.std.proofs.Common.{◌≤◌, sym, ◌∙◌}
use Rattle.pv_gate.specs.Node.{gate_count}
use Rattle.pv_queries.specs.declared.built.TheConstants.{MAX_BUILT_GATES}
use Rattle.pv_lift.proofs.Kept.{kept}
use Rattle.pv_lift.proofs.lift.Lift.build_once.Goals as goal

pub returns-then-is_some-clause-within : goal.returns-then-is_some-clause-within
returns-then-is_some-clause-within g c =
    kept (gate_count (g.C.StepSource.step c.args.self.now.machine.circuits.now).nodes ≤ MAX_BUILT_GATES) c.args.self.now.built c.args.self.now.within
    (sym c.is_some.ensures ∙ c.if-is_some.true)
