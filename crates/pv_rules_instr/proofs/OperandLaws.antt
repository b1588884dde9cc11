-- The place of an operand or a literal that breaks a rule is the least at which its instruction does.
use Rattle.std.proofs.Common.{◌≡◌, IsTrue}
use Rattle.std.specs.Prelude.{not, Any, option_to_list, option_and_then}
use Rattle.pv_tree.specs.Tree.{InstrTree}
use Rattle.pv_tree.specs.Scopes.{Scope}
use Rattle.pv_tree.specs.Things.{place_of_operand}
use Rattle.pv_tree.specs.InstructionGroups.{group_of}
use Rattle.pv_tree.specs.Rules.Behind.{refuses_operand, takes_literal, Refuses}
use Rattle.pv_tree.specs.Rules.OutOfRange.{is_outside_behind, IsBehindOutside}
use Rattle.pv_rules_expr.specs.Nearest.{IsNearest}
use Rattle.pv_rules_expr.proofs.ForCallers.{nearest_both, nearest_where}
use Rattle.pv_rules_instr.specs.AtOperands.{operand_at, literal_at, refused_at, outside_literal_at, outside_at}
use Rattle.pv_rules_instr.proofs.Somes.{of_option}

pub refused_nearest : (scope : Scope) (i : InstrTree) → IsNearest (λ at. Refuses scope at i) (refused_at scope i)
refused_nearest scope i =
    nearest_both
    (λ at. Any (λ o. (place_of_operand o ≡ at) × IsTrue (refuses_operand scope (group_of i.op) o)) (option_to_list i.operand))
    (λ at. Any (λ l. (l.place ≡ at) × IsTrue (not (takes_literal (group_of i.op) l.ty l.value))) (option_to_list i.literal))
    (option_and_then (operand_at scope (group_of i.op)) i.operand)
    (option_and_then (literal_at (group_of i.op)) i.literal)
    (of_option (λ o at. (place_of_operand o ≡ at) × IsTrue (refuses_operand scope (group_of i.op) o)) (operand_at scope (group_of i.op))
    (λ o. nearest_where (refuses_operand scope (group_of i.op) o) (place_of_operand o)) i.operand)
    (of_option (λ l at. (l.place ≡ at) × IsTrue (not (takes_literal (group_of i.op) l.ty l.value))) (literal_at (group_of i.op))
    (λ l. nearest_where (not (takes_literal (group_of i.op) l.ty l.value)) l.place) i.literal)

pub outside_nearest : (i : InstrTree) → IsNearest (λ at. IsBehindOutside at i) (outside_at i)
outside_nearest i =
    of_option (λ l at. (l.place ≡ at) × IsTrue (is_outside_behind (group_of i.op) l.ty l.value)) (outside_literal_at (group_of i.op))
    (λ l. nearest_where (is_outside_behind (group_of i.op) l.ty l.value) l.place) i.literal
