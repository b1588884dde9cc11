use Rattle.std.proofs.Common.{ℕ}
use Rattle.pv_tree.specs.Tree.{BlockTree, BranchTrees}
use Rattle.pv_mean.specs.Sources.{Source}
use Rattle.pv_run.specs.Code.{AreBranches}
use Rattle.pv_run.proofs.Left.{BranchesLeft}
use Rattle.pv_run.proofs.program.Program.branch_of.Given as goal

abbrev pub invariant-loop-i : goal.invariant-loop-i
invariant-loop-i l = (source : Source) (block : BlockTree) (k first : ℕ) (trees : BranchTrees)
    → AreBranches source block l.self k l.fn.branches.first l.fn.branches.end trees
    → BranchesLeft source block l.self k first l.fn.v l.i l.fn.branches.end trees
