-- What is asked of a text's expression.
use Rattle.std.proofs.Common.{◌≡◌, ℕ, List, Option, Some, None, Err, IfSome, IfNone, sym, ap, subst}
use Rattle.pv_tree.specs.declared.expr.Expr.{Expr}
use Rattle.pv_types.specs.declared.var.Var.{Var}
use Rattle.pv_types.specs.View.{var_tree, section_of}
use Rattle.pv_types.proofs.ForCallers.{var_seen}
use Rattle.pv_mean.specs.Layout.{is_brief_in}
use Rattle.pv_tree.specs.Tree.{ExprTree, BlockTree}
use Rattle.pv_tree.specs.View.{expr_tree}
use Rattle.pv_tree.specs.Scopes.{Scope}
use Rattle.pv_pattern.specs.Texts.{IsTextOf, is_brief_var}
use Rattle.pv_pattern_read.specs.declared.fault.TextFault.{TextFault}
use Rattle.pv_pattern_read.specs.declared.fault.TextFault.TheVariants as text
use Rattle.pv_pattern_read.specs.Answers.{AnswersExpr, AnswersText}

-- the fault of a text's expression is the text's
pub of_expr : (scope : Scope) (t : List ℕ) (e : ExprTree) (fault : TextFault) → IsTextOf t e → AnswersExpr scope e (Err fault)
    → AnswersText scope t (Err fault)
of_expr scope t e text.Unread reads h = absurd h
of_expr scope t e (text.Broken rule) reads h = (e, reads, h)
of_expr scope t e text.BriefCell reads h = (e, reads, h)
of_expr scope t e text.NotBool reads h = (e, reads, h)
of_expr scope t e text.NoMemory reads h = tt

pub none_is : (t : List ℕ) (o : Option Expr) → o ≡ None → IfNone o ((e : ExprTree) → IsTextOf t e → ⊥) → (e : ExprTree) → IsTextOf t e → ⊥
none_is t o is h = subst (λ o. IfNone o ((e : ExprTree) → IsTextOf t e → ⊥)) is h

pub some_is : (t : List ℕ) (o : Option Expr) (e : Expr) → o ≡ Some e → IfSome o (λ e. IsTextOf t (expr_tree e)) → IsTextOf t (expr_tree e)
some_is t o e is h = subst (λ o. IfSome o (λ e. IsTextOf t (expr_tree e))) is h

-- whether a variable is brief goes by its section
pub brief_seen : (block : BlockTree) (v : Var) → is_brief_in block v.of.now.section ≡ is_brief_var block (Some (var_tree v))
brief_seen block v = ap (λ t. is_brief_in block (section_of t)) (sym (var_seen v))
