use Rattle.std.proofs.Common.{refl, [], map}
use Rattle.pv_tree.specs.View.{operand_tree, start_tree}
use Rattle.pv_names.specs.InScope.{scope_of}
use Rattle.pv_tree.specs.Operands.{operands_within}
use Rattle.pv_rules.specs.Reads.{reads_of_starts}
use Rattle.pv_rules.specs.Values.{value_at}
use Rattle.pv_rules.proofs.Walks.{next_of}
use Rattle.pv_rules.proofs.reads.value_in_starts.Goals as goal

pub loop-start-preserved : goal.loop-start-preserved
loop-start-preserved c =
    next_of (value_at (scope_of c.args.scope.now) []) (λ v. operands_within (operand_tree v.0))
    (λ l. reads_of_starts (map start_tree l)) (λ v l. refl) c.args.starts.now c.loop-start.start-index _ c.start-item.result c.loop-start.best
    c.value_in_operand-best.result _ c.loop-start-test.true c.start-item.is refl c.value_in_operand-best.ensures c.loop-start.invariant
