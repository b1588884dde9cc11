use Rattle.pv_tree.specs.View.{stmt_tree}
use Rattle.pv_bytes.specs.Operands.{operands_in_stmt}
use Rattle.pv_bytes.proofs.Marking.{also_nothing, also_more, also_all}
use Rattle.pv_bytes.proofs.marks.Marks.mark_stmts.Goals as goal

pub loop-stmt-init : goal.loop-stmt-init
loop-stmt-init c = also_nothing c.args.area c.args.self.now.flags.items

pub loop-stmt-preserved : goal.loop-stmt-preserved
loop-stmt-preserved c =
    also_more c.args.area (λ s. operands_in_stmt (stmt_tree s.now)) c.args.stmts.now c.loop-stmt.stmt-index c.stmt-item.result
    c.args.self.now.flags.items
    c.loop-stmt.self.flags.items c.mark_stmt.new.self.flags.items c.loop-stmt-test.true c.stmt-item.is c.loop-stmt.invariant
    c.mark_stmt.ensures

pub returns : goal.returns
returns c =
    also_all c.args.area (λ s. operands_in_stmt (stmt_tree s.now)) c.args.stmts.now c.loop-stmt.stmt-index
    c.args.self.now.flags.items c.loop-stmt.self.flags.items c.loop-stmt-test.false c.loop-stmt.invariant
