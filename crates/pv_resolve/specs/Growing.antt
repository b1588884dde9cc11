-- Arrays of nodes that grow.
use Rattle.std.specs.Prelude.{◌≡◌, ℕ, ◌≤◌, List, [], ◌∷◌, ◌++◌, length, Some}
use Rattle.pv_eval.specs.declared.node.Node.{Node}
use Rattle.pv_eval.specs.Order.{most_at, AreNodes}

-- a node stands behind the others, and has this number
pub record Adds (old new : List Node) (node : Node) (n : ℕ) : Type 0 where
  pub nodes : new ≡ old ++ node ∷ []
  pub number : n ≡ length old
  pub ordered : AreNodes new

-- nodes stand behind the others
pub record Grows (old new : List Node) : Type 0 where
  pub ordered : AreNodes new
  pub longer : length old ≤ length new
  -- and the numbers of cells are at most what they were
  pub same_most : (k m : ℕ) → most_at old k ≡ Some m → most_at new k ≡ Some m
