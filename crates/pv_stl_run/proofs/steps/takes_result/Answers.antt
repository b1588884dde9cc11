use Rattle.std.proofs.Common.{ap}
use Rattle.pv_mean.specs.Registers.{with_logic}
use Rattle.pv_stl_run.specs.Views.{registers_of}
use Rattle.pv_stl_run.proofs.steps.takes_result.Goals as goal

pub returns-in-Ok-clause-left : goal.returns-in-Ok-clause-left
returns-in-Ok-clause-left c = λ ok. ap (with_logic (registers_of c.args.r.now)) c.resulting-r.ensures
