use Rattle.std.proofs.Common.{None}
use Rattle.pv_mean.specs.Runs.{start}
use Rattle.pv_mean.proofs.ForCallers.{length-start_image}
use Rattle.pv_pattern.specs.Sources.{machine_of}
use Rattle.pv_pattern.proofs.Runs.{runs_to, runs_from}
use Rattle.pv_pattern.proofs.laws.no_base_is_satisfied.Goals as goal

pub returns : goal.returns
returns c = λ source p. (
  λ never params inputs are all.
      runs_from source p None (start source params) inputs (length-start_image source.cells params)
      (c.no_run_fails.ensures (machine_of source p) never params inputs are all),
  λ satisfied n base.
      c.bases_are_failing_runs.ensures (machine_of source p) n base
      (runs_to source p None (start source base.params) base.inputs (length-start_image source.cells base.params)
      (satisfied base.params base.inputs base.are_params base.are_inputs)),
)
