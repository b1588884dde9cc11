-- Calls as a control: a state has the block at work with the spot where its run stands, and its callers, the innermost first, each with
-- its call edge and the spot where it waits. A call edge is a way into the called block, which sets what begins anew; where that block
-- is done a way leads on to where the call edge does.
use Rattle.std.specs.Prelude.{ℕ, List, [], ◌∷◌, map, Option, Some, None}
use Rattle.pv_flow.specs.Automata.{CallEdge, Parts}
use Rattle.pv_flow.specs.Runs.{End, done, trap, over, Way, Control, Spot, exit_of, ways_of, first_spot}
use Rattle.pv_flow.specs.Calls.{Blocks, block_at, Work, entry_work, Numbered, call_of, callee_work, back_at}
use Rattle.pv_call_copies.specs.Renaming.{renamed, renamed_sets, resets, true_term}

-- a caller
pub record Waiting : Type 0 where
  pub work : Work
  pub call : CallEdge
  pub spot : Spot

pub record Nest : Type 0 where
  pub work : Work
  pub spot : Spot
  pub callers : List Waiting

-- ---- ends

-- by what the spot ends: a called block that is done ends no run
abbrev pub exit_by : Option End → List Waiting → Option End
exit_by None callers = None
exit_by (Some done) [] = Some done
exit_by (Some done) (caller ∷ callers) = None
exit_by (Some (trap kind place)) callers = Some (trap kind place)
exit_by (Some (over place)) callers = Some (over place)

abbrev pub exit_of_nest : Nest → Option End
exit_of_nest x = exit_by (exit_of x.work.parts x.spot) x.callers

-- ---- ways

-- a way of the block at work
abbrev pub way_within : Work → List Waiting → Way Spot → Way Nest
way_within k callers way = record {
  guard = renamed k.place way.guard;
  sets = renamed_sets k.place way.sets;
  to = record { work = k; spot = way.to; callers = callers };
}

abbrev pub waiting : Work → CallEdge → Spot → Waiting
waiting k call x = record { work = k; call = call; spot = x }

-- into the called block
abbrev pub way_in : Work → Waiting → List Waiting → Way Nest
way_in callee caller callers = record {
  guard = true_term;
  sets = resets callee;
  to = record { work = callee; spot = first_spot callee.parts; callers = caller ∷ callers };
}

-- out of it
abbrev pub way_out : Waiting → List Waiting → Way Nest
way_out caller callers = record {
  guard = true_term;
  sets = [];
  to = record { work = caller.work; spot = back_at caller.work.parts.loops caller.call caller.spot; callers = callers };
}

abbrev pub ways_out : List Waiting → List (Way Nest)
ways_out [] = []
ways_out (caller ∷ callers) = way_out caller callers ∷ []

abbrev pub ways_in : Blocks → Work → Spot → List Waiting → Numbered → Option Parts → List (Way Nest)
ways_in blocks k x callers c None = []
ways_in blocks k x callers c (Some p) = way_in (callee_work blocks k c p) (waiting k c.call x) callers ∷ []

-- by the call edge where the spot stands
abbrev pub ways_on : Blocks → ℕ → Work → Spot → List Waiting → Option Numbered → List (Way Nest)
ways_on blocks n k x callers None = map (way_within k callers) (ways_of k.parts n x)
ways_on blocks n k x callers (Some c) = ways_in blocks k x callers c (block_at blocks c.call.block)

-- by what the spot ends
abbrev pub ways_by_end : Blocks → ℕ → Work → Spot → List Waiting → Option End → List (Way Nest)
ways_by_end blocks n k x callers None = ways_on blocks n k x callers (call_of k.parts x)
ways_by_end blocks n k x callers (Some done) = ways_out callers
ways_by_end blocks n k x callers (Some (trap kind place)) = []
ways_by_end blocks n k x callers (Some (over place)) = []

abbrev pub ways_of_nest : Blocks → ℕ → Nest → List (Way Nest)
ways_of_nest blocks n x = ways_by_end blocks n x.work x.spot x.callers (exit_of x.work.parts x.spot)

-- with loop bound n
abbrev pub nests_control : Blocks → ℕ → Control Nest
nests_control blocks n = record { exit = exit_of_nest; ways = ways_of_nest blocks n }

-- where the entry's run begins
abbrev pub first_nest : Parts → Nest
first_nest p = record { work = entry_work p; spot = first_spot p; callers = [] }
