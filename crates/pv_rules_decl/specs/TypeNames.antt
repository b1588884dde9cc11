-- The names of a project's types with their numbers.
use Rattle.std.specs.Prelude.{◌≡◌, ℕ, List, [], ◌∷◌, map}
use Rattle.pv_tree.specs.Tree.{BlockTree}
use Rattle.pv_tree.specs.Scopes.{is_type}
use Rattle.pv_names.specs.Firsts.{FindsFirsts}
use Rattle.pv_graph.specs.Cycles.{AreOnCycles}
use Rattle.pv_rules_decl.specs.Declarations.{HaveTheSame}
use Rattle.pv_rules_decl.specs.TypeNumbers.{types_graph}
use Rattle.pv_rules_decl.specs.declared.types.TypeNames.{TypeNames}
use Rattle.pv_rules_decl.specs.declared.types.DeclaredTypes.{DeclaredTypes}

-- they are those of these blocks
pub record NumbersTypes (names : TypeNames) (bs : List BlockTree) : Type 0 where
  pub numbers : FindsFirsts names.names (map (λ b. b.name.key) bs)
  pub types : names.kinds.items ≡ map (λ b. is_type b.kind) bs

-- two graphs lead from each number to the same ones
abbrev pub LeadToTheSame : List (List ℕ) → List (List ℕ) → Type 0
LeadToTheSame [] [] = Unit {0}
LeadToTheSame [] (y ∷ ys) = ⊥
LeadToTheSame (x ∷ xs) [] = ⊥
LeadToTheSame (x ∷ xs) (y ∷ ys) = HaveTheSame x y × LeadToTheSame xs ys

-- the types of these blocks by name, and which of them lead to themselves
pub record AreTypesOf (types : DeclaredTypes) (bs : List BlockTree) : Type 0 where
  pub names : NumbersTypes types.names bs
  pub endless : AreOnCycles (types_graph bs) types.endless.items
