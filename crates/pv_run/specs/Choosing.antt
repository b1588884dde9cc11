-- Which statements of an IF or a CASE run.
use Rattle.std.specs.Prelude.{ℤ, Option, Some, None, true, false}
use Rattle.pv_tree.specs.Tree.{StmtTrees, ArmTrees, no_arms, arms, BranchTrees, no_branches, branches}
use Rattle.pv_mean.specs.Sources.{Source}
use Rattle.pv_mean.specs.Frames.{Frame}
use Rattle.pv_mean.specs.Endings.{Tried, got, and_then}
use Rattle.pv_mean.specs.Activations.{Activation}
use Rattle.pv_mean.specs.Values.{value, is_true}
use Rattle.pv_mean.specs.Statements.{is_chosen}

-- those behind the first condition that is true
abbrev pub arm_chosen : Source → Activation → Frame → ArmTrees → Tried (Option StmtTrees)
arm_chosen source act frame no_arms = got None
arm_chosen source act frame (arms condition body more) =
    and_then (value source act frame condition) (λ v. elim (is_true v) [
      | true ↦ got (Some body)
      | false ↦ arm_chosen source act frame more
    ])

-- those of the first branch that has the value
abbrev pub branch_chosen : Activation → ℤ → BranchTrees → Option StmtTrees
branch_chosen act v no_branches = None
branch_chosen act v (branches choices body more) = elim (is_chosen act v choices) [
  | true ↦ Some body
  | false ↦ branch_chosen act v more
]
