-- Blocks with their calls as numbers of blocks, and how many cells lie below each.
use Rattle.std.specs.Prelude.{◌≡◌, ℕ, List, map, length, Option, option_and_then}
use Rattle.std.specs.List.{slice_get, AllByRecursion}
use Rattle.pv_tree.specs.Tree.{BlockTree}
use Rattle.pv_tree.specs.Scopes.{ProjectTree}
use Rattle.pv_tree.specs.View.{block_tree}
use Rattle.pv_mean.specs.Counts.{capped}
use Rattle.pv_mean.specs.Cells.{own_brief_cells, brief_below}
use Rattle.pv_cells.specs.declared.node.Node.{Node}
use Rattle.pv_cells.specs.Below.{callees_in, at_numbers}

abbrev pub node_tree : Node → BlockTree
node_tree n = block_tree n.block.now

pub record IsNode (project : ProjectTree) (n : Node) : Type 0 where
  pub own : n.own ≡ capped (length (own_brief_cells project (node_tree n)))
  pub calls : at_numbers project.blocks n.calls.items ≡ callees_in project (node_tree n)

-- the blocks of a project, each with its own cells and its calls
pub record NodesAre (project : ProjectTree) (nodes : List Node) : Type 0 where
  pub blocks : map node_tree nodes ≡ project.blocks
  pub each : AllByRecursion (IsNode project) nodes

-- how many cells lie below each block where so many calls may stand behind one another
abbrev pub counts : ProjectTree → ℕ → List ℕ
counts project n = map (λ b. capped (length (brief_below project n b))) project.blocks

-- the element of a number, if there is one
abbrev pub at_number : {X : Type 0} → List X → Option ℕ → Option X
at_number xs number = option_and_then (slice_get xs) number
