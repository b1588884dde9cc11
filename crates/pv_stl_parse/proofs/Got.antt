-- What tokens make on the stack, in STL's grammar.
use Rattle.std.proofs.Common.{List, ◌++◌}
use Rattle.pv_ll.specs.declared.table.Symbol.{Symbol}
use Rattle.pv_ll.specs.Grammar.{Grammar}
use Rattle.pv_tree.specs.Lexemes.{Lexeme}
use Rattle.pv_parse.specs.declared.action.Action.{Action}
use Rattle.pv_parse.specs.Front.{declaration_productions}
use Rattle.pv_parse.specs.Items.{Stack}
use Rattle.pv_parse.specs.Deeds.{declaration_actions, call_actions}
use Rattle.pv_parse.proofs.ForCallers.{Gets}
use Rattle.pv_stl_parse.specs.StlGrammar.{instruction_productions}
use Rattle.pv_stl_parse.specs.StlActions.{body_actions, instruction_actions}

-- what stands behind the productions of expressions, and behind their actions
abbrev pub others : Grammar
others = declaration_productions ++ instruction_productions

abbrev pub own_acts : List Action
own_acts = body_actions ++ instruction_actions

abbrev pub other_acts : List Action
other_acts = declaration_actions ++ (call_actions ++ own_acts)

abbrev pub Got : List Symbol → List Lexeme → Stack → Stack → Type 0
Got = Gets others other_acts
