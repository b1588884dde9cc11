-- What the code's tables of locations say: the statements of their laws.
use Rattle.std.specs.Prelude.{◌≡◌, ℕ, ◌<◌, slice_index_or, Option, Some, None}
use Rattle.pv_flow.specs.declared.parts.Parts.{Parts as CodeParts}
use Rattle.pv_flow.specs.Runs.{End, done, trap, over, end_at}
use Rattle.pv_flow.specs.Calls.{Numbered, call_from}
use Rattle.pv_flow.specs.View.{parts_of}
use Rattle.pv_call_tables.specs.declared.marks.Standing.{Standing}
use Rattle.pv_call_tables.specs.declared.marks.Standing.TheVariants as standing
use Rattle.pv_call_tables.specs.Standings.{standings_of, calls_of}

abbrev pub standing_of : Option End → Standing
standing_of None = standing.Nothing
standing_of (Some done) = standing.Done
standing_of (Some (trap kind place)) = standing.Trap kind place
standing_of (Some (over place)) = standing.Over place

abbrev pub number_of : Option Numbered → Option ℕ
number_of None = None
number_of (Some c) = Some c.number

-- of each location what it ends
abbrev pub StandingsAre : Type 0
StandingsAre = (p : CodeParts) (l : ℕ) → l < p.locations
    → slice_index_or (standings_of p) l standing.Nothing ≡ standing_of (end_at (parts_of p) l)

-- and the number of the call edge that begins there
abbrev pub CallsAre : Type 0
CallsAre = (p : CodeParts) (l : ℕ) → l < p.locations → slice_index_or (calls_of p) l None ≡ number_of (call_from l 0 (parts_of p).calls)
