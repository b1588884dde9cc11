use Rattle.std.proofs.Common.{map, All}
use Rattle.pv_bool.specs.Tree.{assignment_tree, IsAssignmentOver}
use Rattle.pv_rows_queries.proofs.chains.body.Given as goal

abbrev pub invariant-loop-turn : goal.invariant-loop-turn
invariant-loop-turn l = All (IsAssignmentOver 2) (map assignment_tree l.body.items)
