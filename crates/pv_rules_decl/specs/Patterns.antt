-- What is answered of a pattern's expression.
use Rattle.std.specs.Prelude.{◌≡◌, Some, Result, Ok, Err, ⊤}
use Rattle.pv_place.specs.declared.place.Place.{Place}
use Rattle.pv_word.specs.declared.types.Ty.{Ty}
use Rattle.pv_tree.specs.Tree.{ExprTree}
use Rattle.pv_tree.specs.LiteralTypes.{nothing}
use Rattle.pv_tree.specs.Scopes.{Scope}
use Rattle.pv_tree.specs.Types.{type_of}
use Rattle.pv_tree.specs.Rules.{Rule, BreaksInPattern}
use Rattle.pv_tree.specs.Least.{IsLeast}
use Rattle.pv_rules_decl.specs.Names.{rule_of}
use Rattle.pv_rules_decl.specs.declared.fault.RuleFault.{RuleFault}
use Rattle.pv_rules_decl.specs.declared.fault.RuleFault.TheVariants.{Broken, NoMemory}

-- it breaks no rule and has this type
pub record IsPatternOf (scope : Scope) (e : ExprTree) (ty : Ty) : Type 0 where
  pub keeps : (rule : Rule) (at : Place) → BreaksInPattern rule scope e at → ⊥
  pub has_type : type_of scope nothing e ≡ Some ty

-- or this is the first breach; want of memory may come at any time
abbrev pub AnswersPattern : Scope → ExprTree → Result Ty RuleFault → Type 0
AnswersPattern scope e (Ok ty) = IsPatternOf scope e ty
AnswersPattern scope e (Err (Broken breach)) =
    IsLeast (λ rule at. BreaksInPattern rule scope e at) (rule_of breach.rule) breach.place
AnswersPattern scope e (Err NoMemory) = ⊤
