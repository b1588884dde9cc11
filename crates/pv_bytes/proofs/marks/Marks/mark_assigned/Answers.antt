use Rattle.pv_tree.specs.View.{expr_tree, operand_tree}
use Rattle.pv_tree.specs.Operands.{operands_in, operands_within}
use Rattle.pv_bytes.proofs.Marking.{also_then}
use Rattle.pv_bytes.proofs.marks.Marks.mark_assigned.Goals as goal

pub returns : goal.returns
returns c =
    also_then c.args.area c.args.self.now.flags.items c.mark_indexes.new.self.flags.items c.mark_expr.new.self.flags.items
    (operands_within (operand_tree c.args.target.now)) (operands_in (expr_tree c.args.value.now)) c.mark_indexes.ensures c.mark_expr.ensures
