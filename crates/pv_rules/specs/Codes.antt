-- The calls in the code of a block.
use Rattle.std.specs.Prelude.{List, ◌++◌, map, flat_map}
use Rattle.pv_tree.specs.Callees.{CallSite}
use Rattle.pv_tree.specs.Parts.{calls_of_stmt, calls_of_instruction}
use Rattle.pv_tree.specs.View.{stmt_tree, instr_tree}
use Rattle.pv_rules_expr.specs.Members.{Has}
use Rattle.pv_rules.specs.declared.code.Code.{Code}

abbrev pub calls_of_code : Code → List CallSite
calls_of_code code =
    flat_map calls_of_stmt (map (λ s. stmt_tree s.now) code.statements.now)
    ++ flat_map calls_of_instruction (map instr_tree code.instructions.now)

-- each of these calls is one of those
abbrev pub AreAmong : List CallSite → List CallSite → Type 0
AreAmong all some = (s : CallSite) → Has some s → Has all s
