use Rattle.std.proofs.Common.{◌≡◌, ◌≤◌, ℕ, ◌++◌, List, length, take, reverse}
use Rattle.pv_parse.specs.Levels.{gathered}
use Rattle.pv_parse.proofs.levels.joined.Given as goal

abbrev pub invariant-values : goal.invariant-values
invariant-values l =
    (l.left ≤ length l.values)
    × ((below : List ℕ) → gathered l.left l.drops l.one (reverse (take l.left l.values) ++ below)
    ≡ gathered (length l.values) l.fn.drops 0 (reverse l.values ++ below))

abbrev pub decreases-values : goal.decreases-values
decreases-values l = l.left
