-- What values of a formula's variables say of a machine.
use Rattle.std.specs.Prelude.{ℕ, Bool, List}
use Rattle.std.specs.List.{AllZip}
use Rattle.pv_machine.specs.Machines.{Machine}
use Rattle.pv_machine.specs.Queries.{MeetsBase, MeetsStep}
use Rattle.pv_cnf.specs.Clause.{Holds}
use Rattle.pv_circuit.specs.Steps.{Form, Denote}
use Rattle.pv_frames.specs.Runs.{BitRun}

-- some values make the clauses hold
pub record IsSatisfied (clauses : List (List ℕ)) : Type 0 where
  pub values : ℕ → Bool
  pub holds : Holds values clauses

-- the bits are those of a run that meets base(k)
pub record StandsForBase (m : Machine) (form : Form) (k : ℕ) (run : BitRun) : Type 0 where
  pub meets : MeetsBase m k
  pub state : Denote form.state run.state (m.start meets.params)
  pub inputs : AllZip (Denote form.input) run.inputs meets.inputs

-- the bits are those of a run that meets step(k)
pub record StandsForStep (m : Machine) (form : Form) (k : ℕ) (run : BitRun) : Type 0 where
  pub meets : MeetsStep m k
  pub state : Denote form.state run.state meets.state
  pub inputs : AllZip (Denote form.input) run.inputs meets.inputs
