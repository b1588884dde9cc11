use Rattle.std.proofs.Common.{take}
use Rattle.std.specs.Prelude.{flat_map}
use Rattle.pv_tree.specs.View.{stmt_tree}
use Rattle.pv_bytes.specs.Operands.{operands_in_stmt, MarksAlso}
use Rattle.pv_bytes.proofs.marks.Marks.mark_stmts.Given as goal

abbrev pub invariant-loop-stmt : goal.invariant-loop-stmt
invariant-loop-stmt l =
    MarksAlso l.area l.fn.self.flags.items l.self.flags.items (flat_map (λ s. operands_in_stmt (stmt_tree s.now))
    (take l.stmt-index l.stmts))
