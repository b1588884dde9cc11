-- What is looked for at the statements and instructions of a block, and the nearest place of it in a block and in a project.
use Rattle.std.specs.Prelude.{[], Option, None, option_and_then}
use Rattle.pv_place.specs.declared.place.Place.{Place}
use Rattle.pv_tree.specs.Tree.{OperandTree, InstrTree, BlockTree}
use Rattle.pv_tree.specs.Scopes.{ProjectTree, Scope}
use Rattle.pv_tree.specs.InstructionGroups.{operand_of_instruction, written_operand}
use Rattle.pv_tree.specs.Parts.{Spot, spots_of_body, instructions_of, target_of, calls_of_stmt, calls_of_instruction, parts_of_stmt, parts_of_instruction}
use Rattle.pv_rules_expr.specs.NearestIn.{nearest_in}
use Rattle.pv_rules_code.specs.AtTargets.{counted_at, target_place}
use Rattle.pv_rules_code.specs.AtCalls.{call_place}
use Rattle.pv_rules_code.specs.AtLoops.{count_place, step_place}
use Rattle.pv_rules_code.specs.AtAssignments.{misfit_place}
use Rattle.pv_rules_expr.specs.Looks.{near_parts}
use Rattle.pv_rules_code.specs.AtCases.{selector_place, values_place}
use Rattle.pv_rules_code.specs.AtStatements.{conditions_place, leave_place}
use Rattle.pv_rules_code.specs.Sought.Aim.{Aim}
use Rattle.pv_rules_code.specs.Sought.Aim.{Fixed, Missing, Address, Misused, Beyond}
use Rattle.pv_rules_code.specs.Sought.Site.{Site}
use Rattle.pv_rules_code.specs.Sought.Site.{Parts, Misfit, Target, CountedTarget, Call, Counter, By, Selector, Value, Condition, Leave}

abbrev pub site_place : Site → Scope → Spot → Option Place
site_place (Parts look) scope s = near_parts look scope (parts_of_stmt scope s.stmt) None
site_place Misfit scope s = misfit_place scope s.stmt
site_place (Target aim) scope s = option_and_then (target_place aim scope) (target_of s.stmt)
site_place CountedTarget scope s = option_and_then (counted_at s.loops) (target_of s.stmt)
site_place (Call ask) scope s = nearest_in (call_place ask scope s.loops) (calls_of_stmt s.stmt) None
site_place (Counter count) scope s = count_place count scope s.loops s.stmt
site_place (By stride) scope s = step_place stride scope s.stmt
site_place Selector scope s = selector_place scope s.stmt
site_place (Value pick) scope s = values_place pick scope s.stmt
site_place Condition scope s = conditions_place scope s.stmt
site_place Leave scope s = leave_place s.loops s.stmt

-- an instruction writes its operand, or names it
abbrev pub aimed_operand : Aim → InstrTree → Option OperandTree
aimed_operand Fixed i = written_operand i
aimed_operand Missing i = operand_of_instruction i
aimed_operand Address i = operand_of_instruction i
aimed_operand Misused i = operand_of_instruction i
aimed_operand Beyond i = operand_of_instruction i

abbrev pub instr_target : Aim → Scope → InstrTree → Option Place
instr_target what scope i = option_and_then (target_place what scope) (aimed_operand what i)

abbrev pub instr_place : Site → Scope → InstrTree → Option Place
instr_place (Parts look) scope i = near_parts look scope (parts_of_instruction scope i) None
instr_place Misfit scope i = None
instr_place (Target aim) scope i = instr_target aim scope i
instr_place CountedTarget scope i = None
instr_place (Call ask) scope i = nearest_in (call_place ask scope []) (calls_of_instruction i) None
instr_place (Counter count) scope i = None
instr_place (By stride) scope i = None
instr_place Selector scope i = None
instr_place (Value pick) scope i = None
instr_place Condition scope i = None
instr_place Leave scope i = None

abbrev pub in_block : ProjectTree → BlockTree → Scope
in_block project block = record { project = project; block = block }

abbrev pub body_place : Site → Scope → Option Place
body_place what scope = nearest_in (instr_place what scope) (instructions_of scope.block.body) (nearest_in (site_place what scope)
    (spots_of_body scope.block.body) None)

abbrev pub block_place : Site → ProjectTree → BlockTree → Option Place
block_place what project block = body_place what (in_block project block)

abbrev pub project_place : Site → ProjectTree → Option Place
project_place what project = nearest_in (block_place what project) project.blocks None
