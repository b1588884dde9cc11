-- Which breach is reported: of the places at which a rule is broken the least, in an earlier source before a later one and in one
-- source by the bytes before it, and of the rules that are broken there the one with the least number.
use Rattle.std.specs.Prelude.{ℕ, nat_lt, nat_eq, nat_le, Bool as Truth, ◌&&◌, ◌||◌, IsTrue}
use Rattle.pv_place.specs.declared.place.Place.{Place}
use Rattle.pv_tree.specs.Scopes.{ProjectTree}
use Rattle.pv_tree.specs.Rules.{Rule, number_of, Breaks}

-- the rule m at a comes before the rule n at b, or is the same at the same place
abbrev pub is_up_to : ℕ → Place → ℕ → Place → Truth
is_up_to m a n b =
    nat_lt a.file b.file || (nat_eq a.file b.file
    && (nat_lt a.offset b.offset || (nat_eq a.offset b.offset && nat_le m n)))

-- which rules are broken where
abbrev pub Breaches : Type 1
Breaches = Rule → Place → Type 0

-- the first of the breaches
pub record IsLeast (breaks : Breaches) (rule : Rule) (at : Place) : Type 0 where
  pub broken : breaks rule at
  pub least : (other : Rule) (place : Place) → breaks other place → IsTrue
      (is_up_to (number_of rule) at (number_of other) place)

-- the fault with which a project that doesn't keep the rules is refused
abbrev pub IsLeastFault : ProjectTree → Rule → Place → Type 0
IsLeastFault project rule at = IsLeast (λ r p. Breaks r project p) rule at
