use Rattle.std.proofs.Common.{ℕ}
use Rattle.pv_tree.specs.Tree.{BlockTree, Choices}
use Rattle.pv_run.specs.Code.{AreChoices}
use Rattle.pv_run.proofs.Left.{ChoicesLeft}
use Rattle.pv_run.proofs.program.Program.is_chosen.Given as goal

abbrev pub invariant-loop-i : goal.invariant-loop-i
invariant-loop-i l = (block : BlockTree) (first : ℕ) (trees : Choices) → AreChoices block l.self l.fn.choices.first l.fn.choices.end trees
    → ChoicesLeft block l.self first l.fn.v l.i l.fn.choices.end trees
