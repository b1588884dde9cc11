-- The first breach: the least place, by the source's number and then the offset, and of the rules broken there the least.
use Rattle.std.specs.Prelude.{◌≡◌, ◌⊎◌, Bool as Truth, if◌then◌else◌, Option, Some, None, List, [], ◌∷◌, IsTrue}
use Rattle.pv_place.specs.declared.place.Place.{Place}
use Rattle.pv_tree.specs.Rules as tree
pub use Rattle.pv_tree.specs.Least.{Breaches, IsLeast}
use Rattle.pv_tree.specs.Least as least_breach
use Rattle.pv_rules_decl.specs.Names.{rule_of}
use Rattle.pv_rules_decl.specs.declared.fault.Breach.{Breach}
use Rattle.pv_rules_decl.specs.declared.fault.Rule.{Rule}
use Rattle.pv_rules_decl.specs.declared.least.Found.{Found}
use Rattle.pv_rules_expr.specs.Members.{HasSome}
use Rattle.pv_rules_expr.specs.Nearest.{IsNearest}

-- a comes before b, or is the same
abbrev pub is_up_to : Breach → Breach → Truth
is_up_to a b = least_breach.is_up_to (tree.number_of (rule_of a.rule)) a.place (tree.number_of
    (rule_of b.rule)) b.place

-- the first of those that are broken, or none is
abbrev pub IsFirst : Breaches → Option Breach → Type 0
IsFirst breaks None = (rule : tree.Rule) (at : Place) → breaks rule at → ⊥
IsFirst breaks (Some b) = IsLeast breaks (rule_of b.rule) b.place

-- the first of two
abbrev pub lesser : Option Breach → Option Breach → Option Breach
lesser None other = other
lesser (Some a) None = Some a
lesser (Some a) (Some b) = if is_up_to a b then Some a else Some b

-- the first of all
abbrev pub least : List (Option Breach) → Option Breach
least [] = None
least (b ∷ more) = lesser b (least more)

-- a rule's breach at the place, if there is one
abbrev pub breach_at : Rule → Option Place → Option Breach
breach_at rule None = None
breach_at rule (Some place) = Some (record { rule = rule; place = place })

abbrev pub breach_found : Found → Option Breach
breach_found f = breach_at f.rule f.place

-- one rule, broken at these places
abbrev pub OfRule : Rule → (Place → Type 0) → Breaches
OfRule rule breaks r at = (rule_of rule ≡ r) × breaks at

-- a breach where the test says so
abbrev pub breach_where : Truth → Rule → Place → Option Breach
breach_where broken rule place =
    if broken then Some (record { rule = rule; place = place }) else None

-- one rule at one place, where the test says so
abbrev pub BreaksWhere : Truth → Rule → Place → Breaches
BreaksWhere broken rule place r at = (rule_of rule ≡ r) × (place ≡ at) × IsTrue broken

-- either breaks
abbrev pub Either : Breaches → Breaches → Breaches
Either a b rule at = a rule at ⊎ b rule at

-- of a list of rules, each with a place or none: that is the nearest at which it is broken
abbrev pub AreNear : Breaches → List Found → Type 0
AreNear breaks [] = Unit {0}
AreNear breaks (f ∷ more) = IsNearest (breaks (rule_of f.rule)) f.place × AreNear breaks more

-- the rule is one of them
abbrev pub HasRule : tree.Rule → List Found → Type 0
HasRule rule found = HasSome (λ f. rule_of f.rule ≡ rule) found
