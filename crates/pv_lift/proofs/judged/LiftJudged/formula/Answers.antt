use Rattle.std.proofs.Common.{◌≡◌, false, List, ap}
use Rattle.std.specs.Prelude.{IfOk, Err}
use Rattle.pv_gate.specs.declared.fault.GateFault.{GateFault}
use Rattle.pv_gate.specs.declared.fault.GateFault.TheVariants.{Limit}
use Rattle.pv_circuit.specs.declared.start.Start.{Start}
use Rattle.pv_circuit.specs.Circuits.{Circuit}
use Rattle.pv_lift.specs.Cases.{formula_of}
use Rattle.pv_lift.specs.Stages.{passes_limit}
use Rattle.pv_lift.proofs.Kept.{of_built, always, within, over_limit, same_gate_fault}
use Rattle.pv_lift.proofs.Told.{asked_in}
use Rattle.pv_lift.proofs.judged.LiftJudged.formula.Goals as goal

pub formula-requires : goal.formula-requires
formula-requires g c = asked_in c.args.q c.requires

-- ---- it is built

pub returns-in-Ok-clause-formula : goal.returns-in-Ok-clause-formula
returns-in-Ok-clause-formula g c =
    let at = c.args.self.now.machine.circuits.now in
    of_built (λ (x : Circuit) (s : List Start). IfOk c.formula.result (λ f. f ≡ formula_of x s c.args.q)) c.build_once.new.self.built
    (g.C.StepSource.step at) (g.C.StepSource.start at) c.build_once.ensures.is_built c.in-Ok.ensures.built c.formula.ensures.formula

pub returns-in-Ok-clause-fits : goal.returns-in-Ok-clause-fits
returns-in-Ok-clause-fits g c =
    let step = g.C.StepSource.step c.args.self.now.machine.circuits.now in
    always c.formula.result (passes_limit step ≡ false) (within step c.in-Ok.ensures.within)

pub returns-in-Ok-clause-passes : goal.returns-in-Ok-clause-passes
returns-in-Ok-clause-passes g c = λ e. absurd (c.formula.ensures.cause e)

-- ---- it isn't

pub returns-in-Err-clause-passes : goal.returns-in-Err-clause-passes
returns-in-Err-clause-passes g c = λ e. over_limit (g.C.StepSource.step c.args.self.now.machine.circuits.now)
    (c.in-Err.ensures.limit (ap (λ (f : GateFault). Err f) (same_gate_fault c.in-Err.fault Limit e)))
