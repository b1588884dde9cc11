use Rattle.std.proofs.Common.{◌≡◌, ℕ, ◌+◌, ◌*◌, drop, Option, Some, None}
use Rattle.std.specs.Prelude.{Vec, Box}
use Rattle.std.specs.declared.alloc.Global.{Global}
use denote.Param.Weighed.{most}
use Rattle.pv_tree.specs.declared.stmt.Stmt.{Stmt, size-Stmt}
use Rattle.pv_tree.specs.View.{stmt_trees}
use Rattle.pv_names.specs.InScope.{scope_of}
use Rattle.pv_sizes.specs.Counts.{capped}
use Rattle.pv_sizes.specs.Sizes.{size_of_arms, size_of_branches, sum_of_sizes}
use Rattle.pv_sizes.specs.Steps.{arm_trees, branch_trees}
use Rattle.pv_sizes.proofs.statements.+sizing.Given as goal

-- how deep statements stand behind ELSE at most
abbrev of_other : Option (Box (Vec Stmt Global) Global) → ℕ
of_other None = 0
of_other (Some v) = most size-Stmt v.value.items

abbrev pub decreases-one_size : goal.decreases-one_size
decreases-one_size l = 4 * size-Stmt l.stmt.now

abbrev pub decreases-stmt_size : goal.decreases-stmt_size
decreases-stmt_size l = 4 * most size-Stmt l.list.now + 1

abbrev pub decreases-arms_size : goal.decreases-arms_size
decreases-arms_size l = 4 * most (λ a. most size-Stmt a.1.items) l.arms.now.items + 2

abbrev pub decreases-branches_size : goal.decreases-branches_size
decreases-branches_size l = 4 * most (λ b. most size-Stmt b.1.items) l.branches.now.items + 2

abbrev pub decreases-other_size : goal.decreases-other_size
decreases-other_size l = 4 * of_other l.other.now + 2

abbrev pub decreases-turns_size : goal.decreases-turns_size
decreases-turns_size l = 4 * most size-Stmt l.body.now.items + 2

abbrev pub invariant-arms_size-loop-arm : goal.invariant-arms_size-loop-arm
invariant-arms_size-loop-arm l = record {
  within : capped l.total ≡ l.total;
  total : capped (l.total + size_of_arms (scope_of l.scope) (arm_trees (drop l.arm-index l.arm-items)))
      ≡ capped (size_of_arms (scope_of l.scope) (arm_trees l.fn.arms.items));
}

abbrev pub invariant-branches_size-loop-branch : goal.invariant-branches_size-loop-branch
invariant-branches_size-loop-branch l = record {
  within : capped l.total ≡ l.total;
  total : capped (l.total + size_of_branches (scope_of l.scope) (branch_trees (drop l.branch-index l.branch-items)))
      ≡ capped (size_of_branches (scope_of l.scope) (branch_trees l.fn.branches.items));
}

abbrev pub invariant-stmt_size-loop-stmt : goal.invariant-stmt_size-loop-stmt
invariant-stmt_size-loop-stmt l = record {
  within : capped l.total ≡ l.total;
  total : capped (l.total + sum_of_sizes (scope_of l.scope) (stmt_trees (drop l.stmt-index l.list)))
      ≡ capped (sum_of_sizes (scope_of l.scope) (stmt_trees l.list));
}
