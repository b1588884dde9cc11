-- What each location ends, as a table: of several ends of one location that where a scan is done counts, then the first of a trap.
use Rattle.std.specs.Prelude.{ℕ, List, [], ◌∷◌, map, replicate, slice_index_or, slice_set}
use Rattle.pv_flow.specs.declared.parts.TrapEnd.{TrapEnd}
use Rattle.pv_flow.specs.declared.parts.OverEnd.{OverEnd}
use Rattle.pv_flow.specs.declared.parts.Parts.{Parts}
use Rattle.pv_unroll.specs.declared.endings.Ending.{Ending}
use Rattle.pv_unroll.specs.declared.endings.Ending.TheVariants.{Goes, Done, Trapped, Gone}

abbrev pub ending_at : List Ending → ℕ → Ending
ending_at endings at = slice_index_or endings at Goes

abbrev pub with_ending : List Ending → ℕ → Ending → List Ending
with_ending endings at ending = slice_set endings at ending

abbrev pub with_traps : List Ending → List TrapEnd → List Ending
with_traps endings [] = endings
with_traps endings (end ∷ ends) = with_ending (with_traps endings ends) end.location (Trapped end.kind end.place)

abbrev pub with_overs : List Ending → List OverEnd → List Ending
with_overs endings [] = endings
with_overs endings (end ∷ ends) = with_ending (with_overs endings ends) end.location (Gone end.place)

abbrev pub endings_of : Parts → List Ending
endings_of p = with_ending (with_traps (with_overs (replicate p.locations Goes) p.overs.items) p.traps.items) p.done Done

-- 1 for a location that stands in the text
abbrev pub weight_of : Ending → ℕ
weight_of Goes = 1
weight_of Done = 0
weight_of (Trapped kind place) = 0
weight_of (Gone place) = 1

abbrev pub weights_of : List Ending → List ℕ
weights_of endings = map weight_of endings
