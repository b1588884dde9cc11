use Rattle.std.proofs.Common.{ap, sym, ◌∙◌, map}
use Rattle.std.specs.Prelude.{flat_map}
use Rattle.pv_tree.specs.View.{expr_tree, stmt_tree, stmts_of}
use Rattle.pv_tree.specs.Operands.{operands_in}
use Rattle.pv_bytes.specs.Operands.{operands_in_stmt}
use Rattle.pv_bytes.proofs.Marking.{also_same}
use Rattle.pv_tree.proofs.ForCallers.{stmt-if}
use Rattle.pv_bytes.proofs.Gathering.{conditions_listed}
use Rattle.pv_bytes.proofs.marks.Marks.mark_stmt.Goals as goal

pub returns-in-If : goal.returns-in-If
returns-in-If c =
    also_same c.args.area c.args.self.now.flags.items c.mark_conditions.new.self.flags.items _ _
    (ap (flat_map (λ a. operands_in (expr_tree a.0))) c.as_slice.ensures.value
    ∙ conditions_listed (λ a. expr_tree a.0) (λ a. stmts_of (map stmt_tree a.1.items)) c.in-If.arms.items
    ∙ sym (ap operands_in_stmt (ap stmt_tree c.in-If.is ∙ stmt-if c.in-If.arms c.in-If.other c.in-If.place)))
    c.mark_conditions.ensures
