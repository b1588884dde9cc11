-- Of which project a graph of calls is, and what it has to be.
use Rattle.std.specs.Prelude.{◌≡◌, ◌<◌, ℕ, [], flat_map, option_to_list}
use Rattle.std.specs.List.{slice_get}
use Rattle.pv_tree.specs.Scopes.{ProjectTree}
use Rattle.pv_mean.specs.Cells.{most_calls}
use Rattle.pv_cells.specs.declared.graph.Graph.{Graph}
use Rattle.pv_cells.specs.Below.{cells_of_path}
use Rattle.pv_cells.specs.Graphs.{NodesAre, counts}
use Rattle.pv_cells.specs.Planned.{planned, IsPlan}

abbrev pub drawn : Graph → ProjectTree
drawn g = planned g.plan.now

-- its nodes and its counts are those of its plan's project
pub record IsGraph (g : Graph) : Type 0 where
  pub plan : IsPlan g.plan.now
  pub are : NodesAre (drawn g) g.nodes.items
  pub counted : g.below.items ≡ counts (drawn g) most_calls

-- no path that begins at the block of this number has a brief cell
abbrev pub IsEmptyAt : ProjectTree → ℕ → Type 0
IsEmptyAt project number =
    (left : ℕ) → left < most_calls
    → flat_map (cells_of_path project left) (option_to_list (slice_get project.blocks number)) ≡ []
