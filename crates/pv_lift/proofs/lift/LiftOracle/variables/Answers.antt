use Rattle.std.proofs.Common.{◌≡◌, false, List, ap}
use Rattle.std.specs.Prelude.{Err, IfOk, IsTrue}
use Rattle.std.specs.Option.{is_some}
use Rattle.pv_gate.specs.declared.fault.GateFault.{GateFault}
use Rattle.pv_circuit.specs.declared.start.Start.{Start}
use Rattle.pv_circuit.specs.Circuits.{Circuit}
use Rattle.pv_frames.specs.Queries.{variable_count}
use Rattle.pv_kind.specs.declared.told.OracleFault.TheVariants.{Gates}
use Rattle.pv_lift.specs.Stages.{passes_limit, stage_of}
use Rattle.pv_lift.proofs.Kept.{of_built, always, past, within, same_fault}
use Rattle.pv_lift.proofs.Told.{asked_in}
use Rattle.pv_lift.proofs.lift.LiftOracle.variables.Goals as goal

pub count-requires : goal.count-requires
count-requires g c = asked_in c.args.q c.requires

-- ---- it is built

pub returns-in-Ok-clause-number : goal.returns-in-Ok-clause-number
returns-in-Ok-clause-number g c =
    let at = c.args.self.now.machine.circuits.now in
    of_built (λ (x : Circuit) (s : List Start). IfOk c.count.result (λ n. n ≡ variable_count x s c.args.q)) c.build_once.new.self.built
    (g.C.StepSource.step at) (g.C.StepSource.start at) c.build_once.ensures.is_built c.in-Ok.ensures.built c.count.ensures.number

pub returns-in-Ok-clause-ready : goal.returns-in-Ok-clause-ready
returns-in-Ok-clause-ready g c = always c.count.result (IsTrue (is_some c.build_once.new.self.built)) c.in-Ok.ensures.built

pub returns-in-Ok-clause-gates : goal.returns-in-Ok-clause-gates
returns-in-Ok-clause-gates g c = λ e. absurd (c.count.ensures.gates e)

pub returns-in-Ok-clause-fits : goal.returns-in-Ok-clause-fits
returns-in-Ok-clause-fits g c =
    let step = g.C.StepSource.step c.args.self.now.machine.circuits.now in
    always c.count.result (passes_limit step ≡ false) (within step c.in-Ok.ensures.within)

pub returns-in-Ok-clause-ready_kept : goal.returns-in-Ok-clause-ready_kept
returns-in-Ok-clause-ready_kept g c = λ p ready. c.build_once.ensures.kept ready

pub returns-in-Ok-clause-fixed_kept : goal.returns-in-Ok-clause-fixed_kept
returns-in-Ok-clause-fixed_kept g c = c.build_once.ensures.fixed

pub returns-in-Ok-clause-stage_kept : goal.returns-in-Ok-clause-stage_kept
returns-in-Ok-clause-stage_kept g c = ap stage_of c.build_once.ensures.chain

-- ---- it isn't

pub returns-in-Err-clause-gates : goal.returns-in-Err-clause-gates
returns-in-Err-clause-gates g c = λ e.
    past c.in-Err.fault c.oracle_fault.result (g.C.StepSource.step c.args.self.now.machine.circuits.now) c.oracle_fault.ensures
    (λ limit. c.in-Err.ensures.limit (ap (λ (f : GateFault). Err f) limit)) (same_fault c.oracle_fault.result Gates e)

pub returns-in-Err-clause-ready_kept : goal.returns-in-Err-clause-ready_kept
returns-in-Err-clause-ready_kept g c = λ p ready. c.build_once.ensures.kept ready

pub returns-in-Err-clause-fixed_kept : goal.returns-in-Err-clause-fixed_kept
returns-in-Err-clause-fixed_kept g c = c.build_once.ensures.fixed

pub returns-in-Err-clause-stage_kept : goal.returns-in-Err-clause-stage_kept
returns-in-Err-clause-stage_kept g c = ap stage_of c.build_once.ensures.chain
