-- The table of SCL, for a text that is an expression, reads expressions.
use Rattle.std.proofs.Common.{◌≡◌, List, ◌++◌, refl}
use Rattle.pv_ll.specs.declared.table.Language.{Language}
use Rattle.pv_ll.specs.Table.{grammar_of}
use Rattle.pv_parse.specs.declared.action.Action.{Action}
use Rattle.pv_parse.specs.Front.{declaration_productions}
use Rattle.pv_parse.specs.Deeds.{declaration_actions, call_actions}
use Rattle.pv_parse.specs.ExprAnswers.{ReadsExpressions}
use Rattle.pv_scl_parse.specs.SclGrammar.{statement_productions, scl_grammar}
use Rattle.pv_scl_parse.specs.SclActions.{body_actions, statement_actions, scl_actions}

pub reads_expressions : (l : Language) (actions : List Action) → grammar_of l ≡ scl_grammar → l.start ≡ 4 → actions ≡ scl_actions
    → ReadsExpressions l actions
reads_expressions l actions e f g = record {
  rest = declaration_productions ++ statement_productions;
  acts = declaration_actions ++ (call_actions ++ (body_actions ++ statement_actions));
  grammar = e;
  others = refl;
  start = f;
  actions_are = g;
}
