-- By which first state and inputs a machine meets a query.
use Rattle.std.specs.Prelude.{◌≡◌, ℕ, ◌+◌, length}
use Rattle.std.specs.List.{AllByRecursion}
use Rattle.pv_machine.specs.Machines.{Machine, Values, IsState, IsInput, AreParams}
use Rattle.pv_machine.specs.Queries.{FailsAtLast}
use Rattle.pv_cert.specs.declared.proof.Query.{Query}
use Rattle.pv_cert.specs.declared.proof.Query.TheVariants.{Base, Step}
use Rattle.pv_queries.specs.declared.numbers.NumberRun.{NumberRun}

-- parameters with which a run starts in this state
pub record IsStartOf (m : Machine) (state : Values) : Type 0 where
  pub params : Values
  pub are_params : AreParams m params
  pub is : state ≡ m.start params

-- so many inputs, by which each scan from the state but the last is done and doesn't fail, and the last fails
pub record FailsIn (m : Machine) (n : ℕ) (run : NumberRun) : Type 0 where
  pub are_inputs : AllByRecursion (IsInput m) run.inputs
  pub count : length run.inputs ≡ n
  pub fails : FailsAtLast m run.state run.inputs

-- base(k) by a run from the start of k scans, step(k) by k + 1 scans from some state
abbrev pub MeetsBy : Machine → Query → NumberRun → Type 0
MeetsBy m (Base k) run = IsStartOf m run.state × FailsIn m k run
MeetsBy m (Step k) run = IsState m run.state × FailsIn m (k + 1) run
