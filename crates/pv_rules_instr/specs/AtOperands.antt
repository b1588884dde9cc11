-- Where the operand or the literal of an instruction breaks a rule.
use Rattle.std.specs.Prelude.{not, Option, option_and_then}
use Rattle.pv_place.specs.declared.place.Place.{Place}
use Rattle.pv_types.specs.declared.declaration.Literal.{Literal}
use Rattle.pv_tree.specs.Tree.{OperandTree, InstrTree}
use Rattle.pv_tree.specs.Scopes.{Scope}
use Rattle.pv_tree.specs.Things.{place_of_operand}
use Rattle.pv_tree.specs.InstructionGroups.{Group, group_of}
use Rattle.pv_tree.specs.Rules.Behind.{refuses_operand, takes_literal}
use Rattle.pv_tree.specs.Rules.OutOfRange.{is_outside_behind}
use Rattle.pv_rules_expr.specs.Nearest.{nearer_of}
use Rattle.pv_rules_expr.specs.Places.{place_where}

-- an operand, and a literal, that the instruction doesn't take
abbrev pub operand_at : Scope → Group → OperandTree → Option Place
operand_at scope group o = place_where (refuses_operand scope group o) (place_of_operand o)

abbrev pub literal_at : Group → Literal → Option Place
literal_at group l = place_where (not (takes_literal group l.ty l.value)) l.place

abbrev pub refused_at : Scope → InstrTree → Option Place
refused_at scope i =
    nearer_of (option_and_then (operand_at scope (group_of i.op)) i.operand)
    (option_and_then (literal_at (group_of i.op)) i.literal)

-- a literal outside its type
abbrev pub outside_literal_at : Group → Literal → Option Place
outside_literal_at group l = place_where (is_outside_behind group l.ty l.value) l.place

abbrev pub outside_at : InstrTree → Option Place
outside_at i = option_and_then (outside_literal_at (group_of i.op)) i.literal
