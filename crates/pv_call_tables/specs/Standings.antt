-- What each location ends, and the number of the call edge that begins there: the last ones are marked first, so the first of several counts.
use Rattle.std.specs.Prelude.{ℕ, suc, List, [], ◌∷◌, replicate, slice_set, Option, Some, None}
use Rattle.pv_flow.specs.declared.parts.CallEdge.{CallEdge}
use Rattle.pv_flow.specs.declared.parts.TrapEnd.{TrapEnd}
use Rattle.pv_flow.specs.declared.parts.OverEnd.{OverEnd}
use Rattle.pv_flow.specs.declared.parts.Parts.{Parts}
use Rattle.pv_call_tables.specs.declared.marks.Standing.{Standing}
use Rattle.pv_call_tables.specs.declared.marks.Standing.TheVariants as standing

abbrev pub with_traps : List Standing → List TrapEnd → List Standing
with_traps ends [] = ends
with_traps ends (trap ∷ traps) = slice_set (with_traps ends traps) trap.location (standing.Trap trap.kind trap.place)

abbrev pub with_overs : List Standing → List OverEnd → List Standing
with_overs ends [] = ends
with_overs ends (over ∷ overs) = slice_set (with_overs ends overs) over.location (standing.Over over.place)

abbrev pub standings_of : Parts → List Standing
standings_of p = slice_set (with_traps (with_overs (replicate p.locations standing.Nothing) p.overs.items) p.traps.items) p.done standing.Done

-- call edges are numbered from j on
abbrev pub with_calls : List (Option ℕ) → ℕ → List CallEdge → List (Option ℕ)
with_calls at j [] = at
with_calls at j (call ∷ calls) = slice_set (with_calls at (suc j) calls) call.from (Some j)

abbrev pub calls_of : Parts → List (Option ℕ)
calls_of p = with_calls (replicate p.locations None) 0 p.calls.items
