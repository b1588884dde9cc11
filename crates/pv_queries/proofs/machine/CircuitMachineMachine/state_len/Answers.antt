use Rattle.std.proofs.Common.{◌∙◌, ap, length, List}
use Rattle.pv_word.specs.declared.types.Ty.{Ty}
use Rattle.pv_queries.proofs.Types.{state-types}
use Rattle.pv_queries.proofs.machine.CircuitMachineMachine.state_len.Goals as goal

pub returns : goal.returns
returns g c =
    let at = c.args.self.now.circuits.now in
    ap (λ (ts : List Ty). length ts) c.state_types.ensures
    ∙ state-types (g.C.StepSource.machine at) (g.C.StepSource.form at) (g.C.StepSource.start at) (g.C.StepSource.step at) (g.met.C.StepSource.steps at)
