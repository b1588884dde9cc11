use Rattle.std.proofs.Common.{ℕ, List, [], drop}
use Rattle.pv_parse.specs.Levels.{table_making, levels_in}
use Rattle.pv_parse.specs.Building.{Makes}
use Rattle.pv_parse.proofs.depth.count_by.Given as goal

-- the turns that are left make of what is there what all of them make of the whole
abbrev pub invariant-loop-turn : goal.invariant-loop-turn
invariant-loop-turn l =
    (behind : List ℕ) → Makes (table_making l.table) l.turns [] behind
    → Makes (table_making l.table) (drop l.turn-index l.turns) (levels_in l.stack) behind
