use Rattle.std.proofs.Common.{◌≡◌, ◌≤◌, ℕ, ◌++◌, List, length, take, reverse}
use Rattle.pv_parse.specs.Levels.{gathered}
use Rattle.pv_parse.proofs.levels.greatest_of_many.Given as goal

-- what is left of the values makes of what is there what all of them make of nothing
abbrev pub invariant-values : goal.invariant-values
invariant-values l =
    (l.left ≤ length l.values)
    × ((below : List ℕ) → gathered l.left 0 l.one (reverse (take l.left l.values) ++ below)
    ≡ gathered (length l.values) 0 0 (reverse l.values ++ below))

abbrev pub decreases-values : goal.decreases-values
decreases-values l = l.left
