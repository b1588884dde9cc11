-- Which nodes of a graph lead to themselves, for all nodes at once.
use Rattle.std.specs.Prelude.{◌≡◌, ◌↔◌, ℕ, Bool as Truth, true, false, List, slice_index_or}
use Rattle.pv_graph.specs.Graphs.{next_of, LeadFrom}

-- the marked nodes are those that lead to themselves
abbrev pub AreOnCycles : List (List ℕ) → List Truth → Type 0
AreOnCycles g marks = (a : ℕ) → (slice_index_or marks a false ≡ true) ↔ LeadFrom g (next_of g a) a
