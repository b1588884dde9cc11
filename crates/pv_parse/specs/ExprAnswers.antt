-- What reading an expression answers, in each language whose grammar begins with the productions of expressions.
use Rattle.std.specs.Prelude.{◌≡◌, nat_le, true, List, ◌++◌, Result, Ok, Err}
use Rattle.std.specs.List.{list_all}
use Rattle.pv_ll.specs.declared.table.Language.{Language}
use Rattle.pv_ll.specs.Grammar.{Grammar, Production}
use Rattle.pv_ll.specs.Table.{grammar_of}
use Rattle.pv_tree.specs.declared.expr.Expr.{Expr}
use Rattle.pv_tree.specs.Tree.{ExprTree}
use Rattle.pv_tree.specs.View.{expr_tree}
use Rattle.pv_tree.specs.Lexemes.{Lexeme}
use Rattle.pv_tree.specs.Nesting.{parts}
use Rattle.pv_tree.specs.Depth.{IsShallow, IsDeepest}
use Rattle.pv_tree.specs.Reading.{ReadAsExpression, IsSyntaxFault}
use Rattle.pv_place.specs.declared.place.Place.{Place}
use Rattle.pv_parse.specs.declared.action.Action.{Action}
use Rattle.pv_parse.specs.declared.fault.ReadFault.{ReadFault}
use Rattle.pv_parse.specs.declared.fault.ReadFault.TheVariants.{Syntax, Deep}
use Rattle.pv_parse.specs.FrontNames.{expression, source}
use Rattle.pv_parse.specs.Front.{expression_productions}
use Rattle.pv_parse.specs.Deeds.{expression_actions}

-- the productions behind those of expressions are of other names
abbrev pub AreOthers : Grammar → Type 0
AreOthers rest = list_all (λ (p : Production). nat_le source p.name) rest ≡ true

-- a text of the language is an expression, and each alternative of expressions acts as it should
pub record ReadsExpressions (l : Language) (actions : List Action) : Type 0 where
  pub rest : Grammar
  pub acts : List Action
  pub grammar : grammar_of l ≡ expression_productions ++ rest
  pub others : AreOthers rest
  pub start : l.start ≡ expression
  pub actions_are : actions ≡ expression_actions ++ acts

-- the tokens read as this tree, and as no other, and it doesn't nest too deep
pub record IsOnlyReading (tree : ExprTree) (tokens : List Lexeme) : Type 0 where
  pub read : ReadAsExpression tree tokens
  pub only : (other : ExprTree) → ReadAsExpression other tokens → other ≡ tree
  pub shallow : IsShallow (parts 0 tree)

-- the tokens read as a tree that nests too deep, first at this place
pub record IsDeepReading (tokens : List Lexeme) (place : Place) : Type 0 where
  pub tree : ExprTree
  pub read : ReadAsExpression tree tokens
  pub deepest : IsDeepest (parts 0 tree) place

-- the one tree that the tokens read as, or where they are at fault, or too deep
abbrev pub AnswersExpression : List Lexeme → Result Expr ReadFault → Type 0
AnswersExpression tokens (Ok e) = IsOnlyReading (expr_tree e) tokens
AnswersExpression tokens (Err (Syntax i)) = IsSyntaxFault ReadAsExpression tokens i
AnswersExpression tokens (Err (Deep place)) = IsDeepReading tokens place
