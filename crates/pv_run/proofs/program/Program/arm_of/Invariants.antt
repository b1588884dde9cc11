use Rattle.std.proofs.Common.{ℕ}
use Rattle.pv_tree.specs.Tree.{BlockTree, ArmTrees}
use Rattle.pv_mean.specs.Sources.{Source}
use Rattle.pv_run.specs.Code.{AreArms}
use Rattle.pv_run.specs.Runs.{frame_in}
use Rattle.pv_run.proofs.Left.{ArmsLeft}
use Rattle.pv_run.proofs.program.Program.arm_of.Given as goal

abbrev pub invariant-loop-i : goal.invariant-loop-i
invariant-loop-i l = (source : Source) (block : BlockTree) (k : ℕ) (trees : ArmTrees)
    → AreArms source block l.self k l.fn.arms.first l.fn.arms.end trees
    → ArmsLeft source block l.self k l.first (frame_in l.visible l.brief) l.i l.fn.arms.end trees
