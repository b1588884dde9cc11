use Rattle.std.proofs.Common.{take}
use Rattle.std.specs.Prelude.{flat_map, option_to_list}
use Rattle.pv_tree.specs.View.{stmt_tree}
use Rattle.pv_tree.specs.Parts.{target_of}
use Rattle.pv_bytes.specs.Operands.{MarksAlso}
use Rattle.pv_bytes.proofs.marks.Marks.mark_targets.Given as goal

abbrev pub invariant-loop-stmt : goal.invariant-loop-stmt
invariant-loop-stmt l =
    MarksAlso l.area l.fn.self.flags.items l.self.flags.items (flat_map (λ s. option_to_list (target_of (stmt_tree s.now)))
    (take l.stmt-index l.stmts))
