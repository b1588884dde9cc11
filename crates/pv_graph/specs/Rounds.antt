-- Nodes at which a chain of so many steps ends, marked round by round.
use Rattle.std.specs.Prelude.{◌≡◌, ◌↔◌, ℕ, List, [], ◌∷◌, length, nat_lt, Bool as Truth, true, false, if◌then◌else◌, slice_index_or, slice_set, IsTrue}
use Rattle.pv_graph.specs.Graphs.{EndsAt}

-- the node of this number is marked; a number that is no node isn't
abbrev pub IsMarked : List Truth → ℕ → Type 0
IsMarked marks a = IsTrue (slice_index_or marks a false)

-- the marks are at the ends of chains of so many steps
pub record AreEnds (g : List (List ℕ)) (marks : List Truth) (n : ℕ) : Type 0 where
  pub long : length marks ≡ length g
  pub ends : (a : ℕ) → IsMarked marks a ↔ EndsAt g n a

abbrev pub mark_one : List Truth → ℕ → List Truth
mark_one marks a = if nat_lt a (length marks) then slice_set marks a true else marks

abbrev pub mark_each : List Truth → List ℕ → List Truth
mark_each marks [] = marks
mark_each marks (a ∷ more) = mark_each (mark_one marks a) more

-- the targets of those nodes that are marked in the second list
abbrev pub step_marks : List (List ℕ) → List Truth → List Truth → List Truth
step_marks [] from marks = marks
step_marks (l ∷ g) [] marks = marks
step_marks (l ∷ g) (b ∷ from) marks = step_marks g from (if b then mark_each marks l else marks)
