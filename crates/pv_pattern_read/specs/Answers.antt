-- What is answered of a pattern's texts: the first fault, or what they say. Want of memory may come at any time.
use Rattle.std.specs.Prelude.{ℕ, List, Result, Ok, Err, ⊤}
use Rattle.pv_tree.specs.declared.expr.Expr.{Expr}
use Rattle.pv_tree.specs.Tree.{ExprTree}
use Rattle.pv_tree.specs.View.{expr_tree}
use Rattle.pv_tree.specs.Scopes.{Scope}
use Rattle.pv_rules_decl.specs.Names.{rule_of}
use Rattle.pv_mean.specs.Sources.{Source}
use Rattle.pv_mean.specs.Scans.{entry_activation}
use Rattle.pv_mean.specs.Activations.{scope_in}
use Rattle.pv_case.specs.declared.case.PatternKind.{PatternKind}
use Rattle.pv_pattern.specs.declared.pattern.Pattern.{Pattern as Found}
use Rattle.pv_pattern.specs.Patterns.{Pattern}
use Rattle.pv_pattern.specs.Found.{IsPatternOf}
use Rattle.pv_pattern.specs.Texts as texts
use Rattle.pv_pattern.specs.Texts.{IsTextOf, HasFault, IsAtFault, Says, FailsAt}
use Rattle.pv_pattern_read.specs.Kinds.{IsReadPattern}
use Rattle.pv_pattern_read.specs.declared.fault.TextFault.{TextFault}
use Rattle.pv_pattern_read.specs.declared.fault.TextFault.TheVariants as text
use Rattle.pv_pattern_read.specs.declared.fault.PatternFault.{PatternFault}
use Rattle.pv_pattern_read.specs.declared.fault.PatternFault.TheVariants as of

-- ---- one text

-- an expression that is read says something of a scan, or this is its first fault
abbrev pub AnswersExpr : Scope → ExprTree → Result ⊤ TextFault → Type 0
AnswersExpr scope e (Ok done) = (text : List ℕ) → IsTextOf text e → Says scope text e
AnswersExpr scope e (Err text.Unread) = ⊥
AnswersExpr scope e (Err (text.Broken rule)) = HasFault scope e (texts.broken (rule_of rule))
AnswersExpr scope e (Err text.BriefCell) = HasFault scope e texts.brief_cell
AnswersExpr scope e (Err text.NotBool) = HasFault scope e texts.no_bool
AnswersExpr scope e (Err text.NoMemory) = ⊤

-- the text says this of a scan, or this is its first fault
abbrev pub AnswersText : Scope → List ℕ → Result Expr TextFault → Type 0
AnswersText scope t (Ok e) = Says scope t (expr_tree e)
AnswersText scope t (Err text.Unread) = IsAtFault scope t texts.unread
AnswersText scope t (Err (text.Broken rule)) = IsAtFault scope t (texts.broken (rule_of rule))
AnswersText scope t (Err text.BriefCell) = IsAtFault scope t texts.brief_cell
AnswersText scope t (Err text.NotBool) = IsAtFault scope t texts.no_bool
AnswersText scope t (Err text.NoMemory) = ⊤

-- ---- the texts of a pattern

-- the block that is entered, in which a pattern's names are looked up
abbrev pub entered : Source → Scope
entered source = scope_in source (entry_activation source)

-- the first text at fault is that of this number, and so
abbrev pub FailsBy : Scope → List (List ℕ) → PatternFault → Type 0
FailsBy scope all (of.Text n) = FailsAt scope all n texts.unread
FailsBy scope all (of.Rule n rule) = FailsAt scope all n (texts.broken (rule_of rule))
FailsBy scope all (of.BriefCell n) = FailsAt scope all n texts.brief_cell
FailsBy scope all (of.NotBool n) = FailsAt scope all n texts.no_bool
FailsBy scope all of.NoMemory = ⊤

-- the texts are a pattern, and this is it with its names found; or one is at fault
abbrev pub AnswersPattern : Source → PatternKind → List (List ℕ) → Result Found PatternFault → Type 0
AnswersPattern source kind all (Ok found) =
    (p : Pattern) × IsReadPattern (entered source) kind all p × IsPatternOf source found p
AnswersPattern source kind all (Err fault) = FailsBy (entered source) all fault
