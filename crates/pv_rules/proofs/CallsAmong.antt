-- The calls of a statement or an instruction are among those of its code, and what one of them is.
use Rattle.std.proofs.Common.{◌≡◌, refl, sym, ap, subst, ◌∙◌, inl, List, map, Some}
use Rattle.std.specs.Prelude.{option_to_list}
use Rattle.pv_place.specs.declared.place.Place.{Place}
use Rattle.pv_tree.specs.declared.stmt.Stmt.{fold-roll-Stmt}
use Rattle.pv_tree.specs.declared.stmt.Stmt.TheVariants.{AssignCall, Call, rolls-AssignCall, rolls-Call}
use Rattle.pv_tree.specs.declared.stmt.Stmt.TheOpen.{Stmt-F}
use Rattle.pv_tree.specs.Tree.{OperandTree, StmtTree, assign_call, call_, CallPlain, InstrTree}
use Rattle.pv_tree.specs.View.{call_tree, operand_tree, stmt_tree, stmt_step}
use Rattle.pv_tree.specs.Callees.{CallSite, How, as_statement, as_value}
use Rattle.pv_tree.specs.Parts.{calls_of_instruction, calls_of_stmt, how_of, site}
use Rattle.pv_rules_expr.specs.Members.{Has}
use Rattle.pv_rules.specs.Codes.{AreAmong}

pub stmt-assign_call : (target : _) (place : Place) (call : _)
    → stmt_tree (AssignCall target place call) ≡ assign_call (operand_tree target) place (call_tree call.value)
stmt-assign_call target place call =
    ap stmt_tree (sym (rolls-AssignCall target place call)) ∙ fold-roll-Stmt StmtTree stmt_step (Stmt-F.AssignCall target place call)

pub stmt-call : (call : _) → stmt_tree (Call call) ≡ call_ (call_tree call.value)
stmt-call call = ap stmt_tree (sym (rolls-Call call)) ∙ fold-roll-Stmt StmtTree stmt_step (Stmt-F.Call call)

pub of_assigned : (calls : List CallSite) (s : StmtTree) (target : OperandTree) (place : Place) (call : CallPlain) → s ≡ assign_call target place call
    → AreAmong calls (calls_of_stmt s) → Has calls (site as_value call)
of_assigned calls s target place call is all =
    all (site as_value call) (subst (λ t. Has (calls_of_stmt t) (site as_value call)) (sym is) (inl refl))

pub of_called : (calls : List CallSite) (s : StmtTree) (call : CallPlain) → s ≡ call_ call → AreAmong calls (calls_of_stmt s)
    → Has calls (site as_statement call)
of_called calls s call is all =
    all (site as_statement call) (subst (λ t. Has (calls_of_stmt t) (site as_statement call)) (sym is) (inl refl))

pub of_instruction : (calls : List CallSite) (how : How) (i : InstrTree) (call : CallPlain) → how ≡ how_of i.op → i.call ≡ Some call
    → AreAmong calls (calls_of_instruction i) → Has calls (site how call)
of_instruction calls how i call calls_so is all =
    all (site how call) (subst (λ o. Has (map (site (how_of i.op)) (option_to_list o)) (site how call)) (sym is) (inl (ap (λ h. site h call) (sym calls_so))))
