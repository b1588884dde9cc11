-- The first breach of a project, from the nearest places of the rules.
use Rattle.std.proofs.Common.{◌≡◌, subst, List, map, Option, Some, None}
use Rattle.pv_place.specs.declared.place.Place.{Place}
use Rattle.pv_tree.specs.Scopes.{ProjectTree}
use Rattle.pv_tree.specs.Rules.{Rule, Breaks, KeepsRules}
use Rattle.pv_tree.specs.Least.{IsLeastFault}
use Rattle.pv_rules_decl.specs.Names.{rule_of}
use Rattle.pv_rules_decl.specs.Least.{IsFirst, least, breach_found, AreNear, HasRule}
use Rattle.pv_rules_decl.specs.declared.fault.Breach.{Breach}
use Rattle.pv_rules_decl.specs.declared.least.Found.{Found}
use Rattle.pv_rules_decl.proofs.FirstLaws.{first_of_all}

module _ (project : ProjectTree) (fs : List Found) (near : AreNear (λ rule at. Breaks rule project at) fs)
    (each : (rule : Rule) (at : Place) → Breaks rule project at → HasRule rule fs) where
  first : (o : Option Breach) → o ≡ least (map breach_found fs) → IsFirst (λ rule at. Breaks rule project at) o
  first o is = first_of_all (λ rule at. Breaks rule project at) fs o near each is

  pub is_kept : (o : Option Breach) → o ≡ least (map breach_found fs) → o ≡ None → KeepsRules project
  is_kept o is none = subst (IsFirst (λ rule at. Breaks rule project at)) none (first o is)

  pub is_broken : (o : Option Breach) (b : Breach) → o ≡ least (map breach_found fs) → o ≡ Some b → IsLeastFault project (rule_of b.rule) b.place
  is_broken o b is some = subst (IsFirst (λ rule at. Breaks rule project at)) some (first o is)
