use Rattle.pv_tree.specs.View.{expr_tree}
use Rattle.pv_tree.specs.Operands.{operands_in}
use Rattle.pv_bytes.proofs.Marking.{also_then}
use Rattle.pv_bytes.proofs.marks.Marks.mark_both.Goals as goal

pub returns : goal.returns
returns c =
    also_then c.args.area c.args.self.now.flags.items c.mark_expr.new.self.flags.items c.mark_expr-2.new.self.flags.items
    (operands_in (expr_tree c.args.left.now)) (operands_in (expr_tree c.args.right.now)) c.mark_expr.ensures c.mark_expr-2.ensures
