use Rattle.std.proofs.Common.{sym, ap, ◌∙◌, map}
use Rattle.std.specs.Prelude.{flat_map}
use Rattle.pv_tree.specs.Tree.{assign_call, call_}
use Rattle.pv_tree.specs.View.{call_tree, expr_tree, operand_tree, stmt_tree, stmts_of}
use Rattle.pv_names.specs.InScope.{scope_of}
use Rattle.pv_tree.proofs.ForCallers.{stmt-if}
use Rattle.pv_rules_expr.specs.NearestIn.{nearest_in}
use Rattle.pv_rules.specs.Codes.{calls_of_code}
use Rattle.pv_tree.specs.Operands.{operands_in}
use Rattle.pv_rules.specs.Reads.{reads_of_stmt}
use Rattle.pv_rules.specs.Values.{value_at}
use Rattle.pv_rules.proofs.CallsAmong.{of_assigned, of_called, stmt-assign_call, stmt-call}
use Rattle.pv_rules.proofs.ReadLaws.{conditions_seen}
use Rattle.pv_rules.proofs.reads.value_in_stmt.Goals as goal

pub returns-in-If : goal.returns-in-If
returns-in-If c =
    let f = value_at (scope_of c.args.scope.now) (calls_of_code c.args.code) in
    c.value_in_conditions.ensures
    ∙ ap (λ l. nearest_in f (flat_map operands_in (map (λ a. expr_tree a.0) l)) c.args.nearest) c.as_slice.ensures.value
    ∙ ap (λ l. nearest_in f (flat_map operands_in l) c.args.nearest)
    (sym (conditions_seen (λ a. (expr_tree a.0, stmts_of (map stmt_tree a.1.items))) c.in-If.arms.items))
    ∙ ap (λ t. nearest_in f (reads_of_stmt t) c.args.nearest) (sym (ap stmt_tree c.in-If.is ∙ stmt-if c.in-If.arms c.in-If.other c.in-If.place))

pub value_in_assigned-requires : goal.value_in_assigned-requires
value_in_assigned-requires c =
    of_assigned (calls_of_code c.args.code) (stmt_tree c.args.stmt.now) (operand_tree c.in-AssignCall.target) c.in-AssignCall.place
    (call_tree c.deref-in-AssignCall.result.now)
    (ap stmt_tree c.in-AssignCall.is ∙ stmt-assign_call c.in-AssignCall.target c.in-AssignCall.place c.in-AssignCall.call
    ∙ ap (λ x. assign_call (operand_tree c.in-AssignCall.target) c.in-AssignCall.place (call_tree x)) (sym c.deref-in-AssignCall.ensures)) c.requires

pub value_in_call-requires : goal.value_in_call-requires
value_in_call-requires c =
    of_called (calls_of_code c.args.code) (stmt_tree c.args.stmt.now) (call_tree c.deref-in-Call.result.now)
    (ap stmt_tree c.in-Call.is ∙ stmt-call c.in-Call.call ∙ ap (λ x. call_ (call_tree x)) (sym c.deref-in-Call.ensures)) c.requires
