-- The machine of an automaton with call edges, whose scans are runs with calls. As such a run is a relation, so is what its machine is.
use Rattle.std.specs.Prelude.{◌≡◌, ℕ, ◌<◌, length, Some, None}
use Rattle.pv_machine.specs.Machines.{Machine, Values, IsState, IsInput, AreParams}
use Rattle.pv_machine.specs.Same.{IsSame}
use Rattle.pv_flow.specs.Automata.{Parts}
use Rattle.pv_flow.specs.Faults.{IsFaultless}
use Rattle.pv_flow.specs.WellMade.{IsWellMade}
use Rattle.pv_flow.specs.Runs.{Outcome}
use Rattle.pv_flow.specs.Calls.{Blocks, block_at, EndsAs}
use Rattle.pv_flow.specs.Fitting.{AreFitting, AreSound}
use Rattle.pv_flow.specs.Machines.{state_ranges, input_ranges, param_ranges, start_of, begin_at, step_of, fails_with, IsInlined, inlined_machine}

-- states, inputs and starts by the entry's variables, as without calls; each step ends as the entry's run, with loop bound n
pub record IsMachineWithCalls (blocks : Blocks) (n : ℕ) (p : Parts) (m : Machine) : Type 0 where
  pub state : m.state ≡ state_ranges p.vars
  pub input : m.input ≡ input_ranges p.vars
  pub params : m.params ≡ param_ranges p.vars
  pub start : (params : Values) → AreParams m params → m.start params ≡ start_of p.vars params
  pub step : (s i : Values) (out : Outcome) → IsState m s → IsInput m i → EndsAs blocks n p (begin_at p s i) out
      → m.step s i ≡ step_of p None s (begin_at p s i) out
  pub fails : (s i : Values) (out : Outcome) → IsState m s → IsInput m i → EndsAs blocks n p (begin_at p s i) out
      → m.fails s i ≡ fails_with None (length p.vars) (begin_at p s i) out

-- of blocks that fit there is at most one
abbrev pub OneMachineWithCalls : Type 0
OneMachineWithCalls = (blocks : Blocks) (n b : ℕ) (p : Parts) (m other : Machine) → AreFitting blocks → AreSound blocks → 0 < n
    → block_at blocks b ≡ Some p → IsMachineWithCalls blocks n p m → IsMachineWithCalls blocks n p other → IsSame m other

-- where there are no call edges it is that of the automaton with its loop bound
abbrev pub InlinedMachineWithCalls : Type 0
InlinedMachineWithCalls = (blocks : Blocks) (n : ℕ) (p : Parts) → IsFaultless p → IsWellMade p → IsInlined p n
    → IsMachineWithCalls blocks n p (inlined_machine p n)
