-- Runs of a machine, and the two questions that k-induction asks (Sheeran, Singh and Stålmarck, "Checking Safety Properties
-- Using Induction and a SAT-Solver", 2000).
use Rattle.std.specs.Prelude.{◌≡◌, ℕ, ◌+◌, true, false, List, [], ◌∷◌, length}
use Rattle.std.specs.List.{AllByRecursion}
use Rattle.pv_machine.specs.Machines.{Machine, Values, done, IsState, IsInput, AreParams}

-- the scan from s by i is done, leaves t, and doesn't fail
pub record IsGoodScan (m : Machine) (s i t : Values) : Type 0 where
  pub done : m.step s i ≡ done t
  pub keeps : m.fails s i ≡ false

-- from s by these inputs each scan but the last is done and doesn't fail, and the last fails
abbrev pub FailsAtLast : Machine → Values → List Values → Type 0
FailsAtLast m s [] = ⊥
FailsAtLast m s (i ∷ []) = m.fails s i ≡ true
FailsAtLast m s (i ∷ j ∷ inputs) = (t : Values) × IsGoodScan m s i t × FailsAtLast m t (j ∷ inputs)

-- some run has k scans, of which the first k - 1 are done and don't fail, and the last fails
pub record MeetsBase (m : Machine) (k : ℕ) : Type 0 where
  pub params : Values
  pub inputs : List Values
  pub are_params : AreParams m params
  pub are_inputs : AllByRecursion (IsInput m) inputs
  pub count : length inputs ≡ k
  pub fails : FailsAtLast m (m.start params) inputs

-- from some state k scans are done and don't fail, and one that fails follows
pub record MeetsStep (m : Machine) (k : ℕ) : Type 0 where
  pub state : Values
  pub inputs : List Values
  pub is_state : IsState m state
  pub are_inputs : AllByRecursion (IsInput m) inputs
  pub count : length inputs ≡ k + 1
  pub fails : FailsAtLast m state inputs

-- from s by these inputs each scan is done, and the last leaves t
abbrev pub Reaches : Machine → Values → List Values → Values → Type 0
Reaches m s [] t = s ≡ t
Reaches m s (i ∷ inputs) t = (u : Values) × (m.step s i ≡ done u) × Reaches m u inputs t

-- some run reaches the state by scans that are done
pub record IsReachable (m : Machine) (state : Values) : Type 0 where
  pub params : Values
  pub inputs : List Values
  pub are_params : AreParams m params
  pub are_inputs : AllByRecursion (IsInput m) inputs
  pub reaches : Reaches m (m.start params) inputs state

-- from some state that a run reaches, k scans are done and don't fail, and one that fails follows
pub record MeetsReachableStep (m : Machine) (k : ℕ) : Type 0 where
  pub state : Values
  pub inputs : List Values
  pub is_reachable : IsReachable m state
  pub are_inputs : AllByRecursion (IsInput m) inputs
  pub count : length inputs ≡ k + 1
  pub fails : FailsAtLast m state inputs

-- in the run from s by these inputs, which ends with its first scan that isn't done, no scan fails
abbrev pub NoneFails : Machine → Values → List Values → Type 0
NoneFails m s [] = Unit {0}
NoneFails m s (i ∷ inputs) = (m.fails s i ≡ false) × ((t : Values) → m.step s i ≡ done t → NoneFails m t inputs)
