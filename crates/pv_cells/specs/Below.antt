-- The calls of a block as the blocks that they run, and the cells of what lies below a block, block by block.
use Rattle.std.specs.Prelude.{ℕ, ◌+◌, List, [], ◌∷◌, ◌++◌, map, flat_map, length, option_to_list}
use Rattle.std.specs.List.{slice_get}
use Rattle.pv_tree.specs.Tree.{BlockTree}
use Rattle.pv_tree.specs.Scopes.{ProjectTree}
use Rattle.pv_tree.specs.Callees.{callee_of, block_of_callee}
use Rattle.pv_tree.specs.Parts.{calls_of}
use Rattle.pv_mean.specs.declared.cell.Cell.{Cell}
use Rattle.pv_mean.specs.Cells.{nameless, own_brief_cells, brief_below}

-- the blocks that the calls of a block run, call by call
abbrev pub callees_in : ProjectTree → BlockTree → List BlockTree
callees_in project block =
    flat_map (λ s. option_to_list
    (block_of_callee (callee_of (record { project = project; block = block }) s))) (calls_of block)

-- the cells of a called block, and of those that it calls
abbrev pub cells_of_path : ProjectTree → ℕ → BlockTree → List Cell
cells_of_path project n b = map nameless (own_brief_cells project b) ++ brief_below project n b

-- and how many they are
abbrev pub size_of_path : ProjectTree → ℕ → BlockTree → ℕ
size_of_path project n b = length (own_brief_cells project b) + length (brief_below project n b)

abbrev pub size_of_paths : ProjectTree → ℕ → List BlockTree → ℕ
size_of_paths project n [] = 0
size_of_paths project n (b ∷ more) = size_of_path project n b + size_of_paths project n more

-- the elements that have these numbers
abbrev pub at_numbers : {X : Type 0} → List X → List ℕ → List X
at_numbers xs numbers = flat_map (λ i. option_to_list (slice_get xs i)) numbers
