use Rattle.std.proofs.Common.{ℕ, None, subst}
use Rattle.pv_mean.specs.Runs.{start, run}
use Rattle.pv_mean.proofs.ForCallers.{length-start_image}
use Rattle.pv_pattern.specs.Failing.{Cause, FailsFirst}
use Rattle.pv_pattern.proofs.Runs.{first_fails, fails_first}
use Rattle.pv_pattern.proofs.laws.failing_runs_are_bases.Goals as goal

pub returns-clause-meets : goal.returns-clause-meets
returns-clause-meets c = λ source p params inputs n cause are all first.
    let some = first_fails source p None (start source params) inputs n cause (length-start_image source.cells params) all first in
    record { params = params; inputs = some.0; are_params = are; are_inputs = some.2; count = some.1; fails = some.3 }

pub returns-clause-fails : goal.returns-clause-fails
returns-clause-fails c = λ source p n base.
    let P : ℕ → Type 0 = λ k. (cause : Cause) × FailsFirst source p (run source base.params base.inputs) k cause in
    subst P base.count (fails_first source p None (start source base.params) base.inputs
    (length-start_image source.cells base.params) base.fails)
