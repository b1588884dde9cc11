-- Statements of the code as plain data, form by form.
use Rattle.std.proofs.Common.{◌≡◌, sym, ap, ◌∙◌}
use Rattle.pv_place.specs.declared.place.Place.{Place}
use Rattle.pv_tree.specs.declared.stmt.Stmt.{fold-roll-Stmt}
use Rattle.pv_tree.specs.declared.stmt.Stmt.TheViews as form
use Rattle.pv_tree.specs.declared.stmt.Stmt.TheVariants as leaf
use Rattle.pv_tree.specs.declared.stmt.Stmt.TheVariants.{rolls-Assign, rolls-AssignCall, rolls-While, rolls-Repeat, rolls-Exit, rolls-Continue, rolls-Return, rolls-Call, rolls-Empty}
use Rattle.pv_tree.specs.declared.stmt.Stmt.TheOpen.{Stmt-F}
use Rattle.pv_tree.specs.Tree.{StmtTree, assign, assign_call, while_, repeat_, exit_, continue_, return_, call_, empty_}
use Rattle.pv_tree.specs.View.{expr_tree, operand_tree, call_tree, stmt_tree, stmt_step, stmt_trees}

pub stmt-assign : (target : _) (place : Place) (value : _)
    → stmt_tree (leaf.Assign target place value) ≡ assign (operand_tree target) place (expr_tree value.value)
stmt-assign target place value =
    ap stmt_tree (sym (rolls-Assign target place value)) ∙ fold-roll-Stmt StmtTree stmt_step (Stmt-F.Assign target place value)

pub stmt-assign_call : (target : _) (place : Place) (call : _)
    → stmt_tree (leaf.AssignCall target place call) ≡ assign_call (operand_tree target) place (call_tree call.value)
stmt-assign_call target place call =
    ap stmt_tree (sym (rolls-AssignCall target place call)) ∙ fold-roll-Stmt StmtTree stmt_step (Stmt-F.AssignCall target place call)

pub stmt-while : (cond : _) (body : _) (place : Place)
    → stmt_tree (form.While cond body place) ≡ while_ (expr_tree cond.value) (stmt_trees body.items) place
stmt-while cond body place =
    ap stmt_tree (sym (rolls-While cond body place)) ∙ fold-roll-Stmt StmtTree stmt_step (Stmt-F.While cond body place)

pub stmt-repeat : (body : _) (cond : _) (place : Place)
    → stmt_tree (form.Repeat body cond place) ≡ repeat_ (stmt_trees body.items) (expr_tree cond.value) place
stmt-repeat body cond place =
    ap stmt_tree (sym (rolls-Repeat body cond place)) ∙ fold-roll-Stmt StmtTree stmt_step (Stmt-F.Repeat body cond place)

pub stmt-exit : (place : Place) → stmt_tree (leaf.Exit place) ≡ exit_ place
stmt-exit place = ap stmt_tree (sym (rolls-Exit place)) ∙ fold-roll-Stmt StmtTree stmt_step (Stmt-F.Exit place)

pub stmt-continue : (place : Place) → stmt_tree (leaf.Continue place) ≡ continue_ place
stmt-continue place = ap stmt_tree (sym (rolls-Continue place)) ∙ fold-roll-Stmt StmtTree stmt_step (Stmt-F.Continue place)

pub stmt-return : (place : Place) → stmt_tree (leaf.Return place) ≡ return_ place
stmt-return place = ap stmt_tree (sym (rolls-Return place)) ∙ fold-roll-Stmt StmtTree stmt_step (Stmt-F.Return place)

pub stmt-call : (call : _) → stmt_tree (leaf.Call call) ≡ call_ (call_tree call.value)
stmt-call call = ap stmt_tree (sym (rolls-Call call)) ∙ fold-roll-Stmt StmtTree stmt_step (Stmt-F.Call call)

pub stmt-empty : (place : Place) → stmt_tree (leaf.Empty place) ≡ empty_ place
stmt-empty place = ap stmt_tree (sym (rolls-Empty place)) ∙ fold-roll-Stmt StmtTree stmt_step (Stmt-F.Empty place)
