-- Terms of texts over the names of a context's block. No public clause cites this.
use Rattle.std.specs.Prelude.{◌≡◌, ℕ, List, [], ◌∷◌, Result, Ok, Err, ⊤}
use Rattle.pv_tree.specs.Tree.{ExprTree}
use Rattle.pv_tree.specs.Scopes.{Scope}
use Rattle.pv_names.specs.InScope.{scope_of}
use Rattle.pv_rules_decl.specs.Names.{rule_of}
use Rattle.pv_mean.specs.Sources.{Source}
use Rattle.pv_resolve.specs.declared.context.Context.{Context}
use Rattle.pv_resolve.specs.Contexts.{IsContext, block_in}
use Rattle.pv_case.specs.declared.case.PatternKind.{PatternKind}
use Rattle.pv_pattern.specs.declared.term.Term.{Term}
use Rattle.pv_pattern.specs.declared.pattern.Pattern.{Pattern as Found}
use Rattle.pv_pattern.specs.Patterns.{Pattern}
use Rattle.pv_pattern.specs.Terms.{IsTermOf}
use Rattle.pv_pattern.specs.Found.{IsPatternOf}
use Rattle.pv_pattern.specs.Texts as texts
use Rattle.pv_pattern.specs.Texts.{IsAtFault, Says}
use Rattle.pv_pattern_read.specs.Kinds.{IsReadPattern}
use Rattle.pv_pattern_read.specs.declared.fault.PatternFault.{PatternFault}
use Rattle.pv_pattern_read.specs.declared.fault.PatternFault.TheVariants as of
use Rattle.pv_pattern_read.specs.Answers.{FailsBy}

abbrev pub scope_at : Context → Scope
scope_at c = scope_of c.scope

-- of each source that is entered at the context's block
abbrev pub InEach : Context → (Source → Type 0) → Type 0
InEach c P = (source : Source) → IsContext c source → block_in c ≡ source.entry → P source

-- the term of what the text says
pub record IsTermIn (c : Context) (text : List ℕ) (t : Term) : Type 0 where
  pub e : ExprTree
  pub says : Says (scope_at c) text e
  pub is : InEach c (λ source. IsTermOf source t e)

abbrev pub AreTermsIn : Context → List Term → List (List ℕ) → Type 0
AreTermsIn c [] [] = Unit {0}
AreTermsIn c (t ∷ ts) (text ∷ more) = IsTermIn c text t × AreTermsIn c ts more
AreTermsIn c ts all = ⊥

-- the text, whose number this is, is at fault so
abbrev pub IsFaultOf : Scope → List ℕ → ℕ → PatternFault → Type 0
IsFaultOf scope text n (of.Text m) = (m ≡ n) × IsAtFault scope text texts.unread
IsFaultOf scope text n (of.Rule m rule) =
    (m ≡ n) × IsAtFault scope text (texts.broken (rule_of rule))
IsFaultOf scope text n (of.BriefCell m) = (m ≡ n) × IsAtFault scope text texts.brief_cell
IsFaultOf scope text n (of.NotBool m) = (m ≡ n) × IsAtFault scope text texts.no_bool
IsFaultOf scope text n of.NoMemory = ⊤

abbrev pub AnswersTerm : Context → List ℕ → ℕ → Result Term PatternFault → Type 0
AnswersTerm c text n (Ok t) = IsTermIn c text t
AnswersTerm c text n (Err fault) = IsFaultOf (scope_at c) text n fault

-- the texts are this pattern, with its names found
abbrev pub IsFoundIn : Context → PatternKind → List (List ℕ) → Found → Type 0
IsFoundIn c kind all found =
    (p : Pattern) × IsReadPattern (scope_at c) kind all p × InEach c (λ source. IsPatternOf source found p)

abbrev pub AnswersFound : Context → PatternKind → List (List ℕ) → Result Found PatternFault → Type 0
AnswersFound c kind all (Ok found) = IsFoundIn c kind all found
AnswersFound c kind all (Err fault) = FailsBy (scope_at c) all fault
