-- Machines that are the same as far as runs tell: what they do with lists that aren't their states, inputs or parameters plays no part.
use Rattle.std.specs.Prelude.{◌≡◌, ℕ, List, length, IfSome}
use Rattle.std.specs.List.{slice_get}
use Rattle.pv_place.specs.Ranges.{Range, IsWithin}
use Rattle.pv_machine.specs.Machines.{Machine, Values, IsState, IsInput, AreParams}

-- equal ranges, and equal starts, steps and failing on parameters, states and inputs within them
pub record IsSame (m n : Machine) : Type 0 where
  pub state : m.state ≡ n.state
  pub input : m.input ≡ n.input
  pub params : m.params ≡ n.params
  pub start : (p : Values) → AreParams m p → m.start p ≡ n.start p
  pub step : (s i : Values) → IsState m s → IsInput m i → m.step s i ≡ n.step s i
  pub fails : (s i : Values) → IsState m s → IsInput m i → m.fails s i ≡ n.fails s i

-- as many values as ranges, and each within its range, said by their numbers
pub record HaveRanges (ranges : List Range) (values : Values) : Type 0 where
  pub count : length values ≡ length ranges
  pub within : (n : ℕ) → IfSome (slice_get ranges n) (λ range. IfSome (slice_get values n) (λ v. IsWithin range v))

-- the same, said of lists that have their ranges place by place
pub record ActsAlike (m n : Machine) : Type 0 where
  pub start : (p : Values) → HaveRanges m.params p → m.start p ≡ n.start p
  pub step : (s i : Values) → HaveRanges m.state s → HaveRanges m.input i → m.step s i ≡ n.step s i
  pub fails : (s i : Values) → HaveRanges m.state s → HaveRanges m.input i → m.fails s i ≡ n.fails s i
