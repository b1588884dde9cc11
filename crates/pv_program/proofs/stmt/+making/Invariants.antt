use Rattle.std.proofs.Common.{◌+◌, ◌*◌, map, take, max}
use Rattle.pv_program.proofs.Measuring.{of_list, of_arms, of_branches, of_other}
use Rattle.pv_tree.specs.declared.stmt.Stmt.{size-Stmt}
use Rattle.pv_tree.specs.View.{expr_tree, stmt_tree, stmt_trees, arms_of, branches_of}
use Rattle.pv_mean.specs.Sources.{Source}
use Rattle.pv_resolve.specs.Contexts.{IsContext, block_in}
use Rattle.pv_program.specs.Growth.{Extends}
use Rattle.pv_program.specs.Pairs.{Pairs}
use Rattle.pv_program.specs.Led.{AreLed, AllLed, ArmsLed, BranchesLed}
use Rattle.pv_program.specs.Made.{IsNext, IsArm, IsBranch}
use Rattle.pv_program.proofs.stmt.+making.Given as goal

abbrev pub invariant-make_arms-loop-arm : goal.invariant-make_arms-loop-arm
invariant-make_arms-loop-arm l = record {
  grows : Extends l.fn.program l.program;
  are : (source : Source) → IsContext l.context source → Pairs (IsArm source (block_in l.context) l.program) l.made.items
      (map (λ a. (expr_tree a.0, stmt_trees a.1.items)) (take l.arm-index l.arm-items));
  led : (source : Source) → IsContext l.context source
      → ArmsLed source (block_in l.context) (arms_of (map (λ a. (expr_tree a.0, stmt_trees a.1.items)) l.arms.items))
      → AreLed source l.fn.program.calls.items → AreLed source l.program.calls.items;
}

abbrev pub invariant-make_branches-loop-branch : goal.invariant-make_branches-loop-branch
invariant-make_branches-loop-branch l = record {
  grows : Extends l.fn.program l.program;
  are : (source : Source) → IsContext l.context source → Pairs (IsBranch source (block_in l.context) l.program) l.made.items
      (map (λ b. (b.0.items, stmt_trees b.1.items)) (take l.branch-index l.branch-items));
  led : (source : Source) → IsContext l.context source
      → BranchesLed source (block_in l.context) (branches_of (map (λ b. (b.0.items, stmt_trees b.1.items)) l.branches.items))
      → AreLed source l.fn.program.calls.items → AreLed source l.program.calls.items;
}

abbrev pub invariant-make_list-loop-stmt : goal.invariant-make_list-loop-stmt
invariant-make_list-loop-stmt l = record {
  grows : Extends l.fn.program l.program;
  are : (source : Source) → IsContext l.context source → Pairs (IsNext source (block_in l.context) l.program) l.made.items
      (map stmt_tree (take l.stmt-index l.list));
  led : (source : Source) → IsContext l.context source → AllLed source (block_in l.context) (stmt_trees l.list)
      → AreLed source l.fn.program.calls.items → AreLed source l.program.calls.items;
}

abbrev pub decreases-make_arms : goal.decreases-make_arms
decreases-make_arms l = 4 * of_arms l.arms.now.items + 2

abbrev pub decreases-make_branches : goal.decreases-make_branches
decreases-make_branches l = 4 * of_branches l.branches.now.items + 2

abbrev pub decreases-make_other : goal.decreases-make_other
decreases-make_other l = 4 * of_other l.other.now + 2

abbrev pub decreases-make_if : goal.decreases-make_if
decreases-make_if l = 4 * max (of_arms l.arms.now.items) (of_other l.other.now) + 3

abbrev pub decreases-make_case : goal.decreases-make_case
decreases-make_case l = 4 * max (of_branches l.branches.now.items) (of_other l.other.now) + 3

abbrev pub decreases-make_for : goal.decreases-make_for
decreases-make_for l = 4 * of_list l.body.now.items + 3

abbrev pub decreases-make_while : goal.decreases-make_while
decreases-make_while l = 4 * of_list l.body.now.items + 3

abbrev pub decreases-make_repeat : goal.decreases-make_repeat
decreases-make_repeat l = 4 * of_list l.body.now.items + 3

abbrev pub decreases-make_stmt : goal.decreases-make_stmt
decreases-make_stmt l = 4 * size-Stmt l.stmt.now

abbrev pub decreases-make_list : goal.decreases-make_list
decreases-make_list l = 4 * of_list l.list.now + 1
