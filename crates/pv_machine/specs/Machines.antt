-- Machines: transition systems whose states and inputs are lists of numbers, each number within its range. A scan of a program
-- is a step of such a machine.
use Rattle.std.specs.Prelude.{◌≡◌, Bool, List, ℤ}
use Rattle.pv_place.specs.declared.place.Place.{Place}
use Rattle.pv_place.specs.declared.trap.TrapKind.{TrapKind}
use Rattle.pv_place.specs.Ranges.{Range, AreWithin}

-- the values of a state, or of an input, or of the parameters, in the order of their ranges
abbrev pub Values : Type 0
Values = List ℤ

-- how a step ends: it is done and leaves a state, it traps, or it goes over a loop's bound
pub data Step : Type 0 where
  done : Values → Step
  trap : TrapKind → Place → Step
  over : Place → Step

-- the ranges of states, inputs and parameters, the state in which a run with these parameters starts, the step from a state
-- by an input, and whether it fails
pub record Machine : Type 0 where
  pub state : List Range
  pub input : List Range
  pub params : List Range
  pub start : Values → Values
  pub step : Values → Values → Step
  pub fails : Values → Values → Bool

abbrev pub IsState : Machine → Values → Type 0
IsState m s = AreWithin m.state s

abbrev pub IsInput : Machine → Values → Type 0
IsInput m i = AreWithin m.input i

abbrev pub AreParams : Machine → Values → Type 0
AreParams m p = AreWithin m.params p

-- starts are states, and so is what a step from a state by an input leaves
pub record IsLawful (m : Machine) : Type 0 where
  pub starts : (p : Values) → AreParams m p → IsState m (m.start p)
  pub steps : (s i t : Values) → IsState m s → IsInput m i → m.step s i ≡ done t → IsState m t
