-- Runs of spots, with a count for each loop, one spot a step. A run comes to the location after all spots, or ends by a trap or over.
use Rattle.std.specs.Prelude.{◌≡◌, ℕ, zero, suc, ◌+◌, List, [], ◌∷◌, slice_get, true, false, ◌==◌, nat_le, cond, Option, Some, None}
use Rattle.pv_flow.specs.Terms.{Valuation}
use Rattle.pv_flow.specs.Automata.{Loop}
use Rattle.pv_flow.specs.Runs.{Outcome, done_with, trapped, gone_over, Counts, at, moved}
use Rattle.pv_flow.specs.Calls.{Stage, running, finished}
use Rattle.pv_layout.specs.Spots.{Check, Way, Spot, Act, Branch, Enter, is_on, failing}
use Rattle.pv_layout.specs.Flows.{Setting, seen_in, assigned_by}
use Rattle.pv_layout.specs.Layout.{Text}

abbrev pub calls_at : Spot → ℕ
calls_at (Act checks on) = 0
calls_at (Branch checks c one other) = 0
calls_at (Enter block instance place to) = 1

-- how many calls stand before location l
abbrev pub calls_before : List Spot → ℕ → ℕ
calls_before [] l = 0
calls_before (spot ∷ spots) zero = 0
calls_before (spot ∷ spots) (suc l) = calls_at spot + calls_before spots l

-- ---- where a way leads

-- loop i has one turn more
abbrev pub one_more : ℕ → Counts → Counts
one_more i counts = λ k. counts k + cond (k == i) 1 0

-- by the loop of which it would start a turn: past its bound it is over
abbrev pub turn_to : ℕ → ℕ → ℕ → Counts → Counts → Valuation → Option Loop → Stage
turn_to n i to counts after w None = running (at to after) w
turn_to n i to counts after w (Some loop) = elim (nat_le n (counts i)) [
  | true ↦ finished (gone_over loop.place)
  | false ↦ running (at to (one_more i after)) w
]

abbrev pub led_by : ℕ → List Loop → ℕ → ℕ → Counts → Valuation → Option ℕ → Stage
led_by n loops l to counts w None = running (at to (moved loops l to counts)) w
led_by n loops l to counts w (Some i) = turn_to n i to counts (moved loops l to counts) w (slice_get loops i)

-- along a way from location l
abbrev pub along : Setting → List Loop → ℕ → Counts → Way → Valuation → Stage
along s loops l counts on w = led_by s.bound loops l on.to counts (assigned_by s on.sets w) on.turn

-- ---- steps

abbrev pub unless : Option Check → Stage → Stage
unless None next = next
unless (Some check) next = finished (trapped check.kind check.place)

-- after a call
abbrev pub back_to : List Loop → ℕ → ℕ → Counts → Outcome → Stage
back_to loops l to counts (done_with w) = running (at to (moved loops l to counts)) w
back_to loops l to counts (trapped kind place) = finished (trapped kind place)
back_to loops l to counts (gone_over place) = finished (gone_over place)

-- the spot at location l, before which there are j calls; where there is none it is done
abbrev pub step_of : Setting → List Loop → ℕ → ℕ → Counts → Valuation → Option Spot → Stage
step_of s loops j l counts w None = finished (done_with w)
step_of s loops j l counts w (Some (Act checks on)) = unless (failing (seen_in s w) checks) (along s loops l counts on w)
step_of s loops j l counts w (Some (Branch checks c one other)) = unless (failing (seen_in s w) checks)
    (elim (is_on (seen_in s w) c) [ true ↦ along s loops l counts one w | false ↦ along s loops l counts other w ])
step_of s loops j l counts w (Some (Enter block instance place to)) = back_to loops l to counts (s.called j block instance w)

abbrev pub stepped : Setting → Text → ℕ → Counts → Valuation → Stage
stepped s text l counts w = step_of s text.loops (calls_before text.spots l) l counts w (slice_get text.spots l)

-- ---- runs

-- step by step the run from a stage comes to `end`
pub data Reaches (s : Setting) (text : Text) (end : Stage) : Stage → Type 0 where
  arrived : {stage : Stage} → stage ≡ end → Reaches s text end stage
  further : {l : ℕ} {counts : Counts} {w : Valuation} → Reaches s text end (stepped s text l counts w)
      → Reaches s text end (running (at l counts) w)
