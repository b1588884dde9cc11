-- What reading a text of SCL answers.
use Rattle.std.specs.Prelude.{◌≡◌, ◌≤◌, ℕ, List, Result, Ok, Err}
use Rattle.pv_lex.specs.declared.token.Token.{Token}
use Rattle.pv_lex.specs.declared.token.Language.TheVariants.{Scl}
use Rattle.pv_tree.specs.declared.expr.Expr.{Expr}
use Rattle.pv_tree.specs.Tree.{ExprTree}
use Rattle.pv_tree.specs.View.{expr_tree}
use Rattle.pv_tree.specs.Lexemes.{Lexeme, lexemes_of}
use Rattle.pv_tree.specs.Nesting.{levels, most_levels}
use Rattle.pv_tree.specs.Reading.{ReadAsExpression, IsReadExpression, IsTooDeepExpression, IsSyntaxFaultAt}
use Rattle.pv_parse_source.specs.Parsing.{IsOutsideAt}
use Rattle.pv_parse.specs.declared.fault.ParseFault.{ParseFault}
use Rattle.pv_parse.specs.declared.fault.ParseFault.TheVariants.{Outside, Syntax, Deep, NoMemory}

-- no word is outside the profile, the tokens before the end read as this expression, which doesn't nest too deep, and as no
-- other
pub record IsOnlyExpression (tokens : List Lexeme) (tree : ExprTree) : Type 0 where
  pub reads : IsReadExpression tokens tree
  pub only : (other : ExprTree) → ReadAsExpression other reads.inner → other ≡ tree
  pub levels : levels tree ≤ most_levels

abbrev pub AnswersExpression : List ℕ → List Token → Result Expr ParseFault → Type 0
AnswersExpression text tokens (Ok e) = IsOnlyExpression (lexemes_of text tokens) (expr_tree e)
AnswersExpression text tokens (Err (Outside place len)) = IsOutsideAt Scl text tokens place len
AnswersExpression text tokens (Err (Syntax place)) =
    IsSyntaxFaultAt ReadAsExpression Scl (lexemes_of text tokens) place
AnswersExpression text tokens (Err (Deep place)) = IsTooDeepExpression (lexemes_of text tokens) place
AnswersExpression text tokens (Err NoMemory) = Unit {0}
