use Rattle.pv_flow.proofs.Steps.{more_steps}
use Rattle.pv_flow.specs.Runs.{control_of, first_spot}
use Rattle.pv_flow.proofs.laws.more_steps_change_nothing.Goals as goal

pub returns : goal.returns
returns c = λ p n steps more w out le e. more_steps (control_of p n) steps more (first_spot p) w out le e
