use Rattle.std.proofs.Common.{◌≡◌, map, take}
use Rattle.pv_bool_form.specs.Wording.{words_of}
use Rattle.pv_tree.specs.View.{stmt_trees}
use Rattle.pv_bool.specs.Tree.{assignment_tree}
use Rattle.pv_bool_form.specs.Programs.{assignments_by}
use Rattle.pv_bool_form.specs.Numbering.{place_among}
use Rattle.pv_bool_form.proofs.first.assignments.Given as goal

-- the assignments of the statements so far
abbrev pub invariant-loop-statement : goal.invariant-loop-statement
invariant-loop-statement l =
    map assignment_tree l.made.items ≡ assignments_by (place_among (words_of l.words)) (stmt_trees (take l.statement-index l.statements))
