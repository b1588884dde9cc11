use Rattle.std.proofs.Common.{None}
use Rattle.pv_mean.specs.Runs.{start}
use Rattle.pv_mean.proofs.ForCallers.{length-start_image}
use Rattle.pv_pattern.proofs.Runs.{runs_to, runs_from}
use Rattle.pv_pattern.proofs.laws.runs_are_the_machines.Goals as goal

pub returns : goal.returns
returns c = λ source p params inputs. (
  runs_to source p None (start source params) inputs (length-start_image source.cells params),
  runs_from source p None (start source params) inputs (length-start_image source.cells params),
)
