use Rattle.pv_tree.specs.View.{call_tree, operand_tree}
use Rattle.pv_tree.specs.Operands.{operands_within}
use Rattle.pv_bytes.specs.Operands.{operands_in_call}
use Rattle.pv_bytes.proofs.Marking.{also_then}
use Rattle.pv_bytes.proofs.marks.Marks.mark_assigned_call.Goals as goal

pub returns : goal.returns
returns c =
    also_then c.args.area c.args.self.now.flags.items c.mark_indexes.new.self.flags.items c.mark_call.new.self.flags.items
    (operands_within (operand_tree c.args.target.now)) (operands_in_call (call_tree c.args.call.now)) c.mark_indexes.ensures
    c.mark_call.ensures
