-- Edges counted by the locations where they begin.
use Rattle.std.specs.Prelude.{ℕ, List, [], ◌∷◌, slice_index_or}
use Rattle.pv_flow.specs.declared.parts.Edge.{Edge}
use Rattle.pv_call_tables.specs.Numbers.{raised}

-- how many edges begin at each location, with those counted before
abbrev pub counted : List ℕ → List Edge → List ℕ
counted counts [] = counts
counted counts (edge ∷ edges) = counted (raised counts edge.from) edges

-- how many begin before each edge at its location
abbrev pub ranks_by : List ℕ → List Edge → List ℕ
ranks_by counts [] = []
ranks_by counts (edge ∷ edges) = slice_index_or counts edge.from 0 ∷ ranks_by (raised counts edge.from) edges
