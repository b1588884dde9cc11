use Rattle.std.proofs.Common.{List}
use Rattle.pv_tree.specs.Tree.{BlockTree}
use Rattle.pv_tree.specs.Callees.{CallSite}
use Rattle.pv_mean.specs.Sources.{Source}
use Rattle.pv_eval.specs.Writes.{TypesOf}
use Rattle.pv_run.specs.Handing.{Handed}
use Rattle.pv_run.specs.Code.{AreInward}
use Rattle.pv_run.specs.Runs.{linked_in}
use Rattle.pv_run.proofs.Left.{InLeft}
use Rattle.pv_run.proofs.program.Program.hand_in.Given as goal

abbrev pub invariant-loop-i : goal.invariant-loop-i
invariant-loop-i l = (source : Source) (block : BlockTree) (site : CallSite) (callee : BlockTree) (handed : List Handed)
    → TypesOf source l.self.types.items
    → AreInward source block l.self site callee l.fn.span.first l.fn.span.end handed
    → InLeft source block l.self site callee l.caller_first l.first l.i l.fn.span.end handed
    (linked_in l.fn.visible l.outer l.fn.inner) (linked_in l.visible l.outer l.inner)
