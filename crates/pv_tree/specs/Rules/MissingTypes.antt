-- A type is not declared, or contains itself. The place is that of the name of the type.
use Rattle.std.specs.Prelude.{◌≡◌, ◌⊎◌, ℕ, List, [], ◌∷◌, ◌++◌, map, Some, None, Any, Contains}
use Rattle.pv_place.specs.declared.place.Place.{Place}
use Rattle.pv_types.specs.Tree.{TypeTree, plain, array, structure, named, unread, var, VarTrees, no_vars, _then_}
use Rattle.pv_types.specs.View.{listed}
use Rattle.pv_tree.specs.declared.block.BlockKind.{BlockKind}
use Rattle.pv_tree.specs.declared.block.BlockKind.TheVariants.{Fb, Fc, Ob, Db, Udt}
use Rattle.pv_tree.specs.Tree.{PlacedName, BlockTree}
use Rattle.pv_tree.specs.Scopes.{ProjectTree, type_named}

-- the types that are named in a type, and in variables
abbrev mutual
  pub names_in : TypeTree → List PlacedName
  names_in (plain ty) = []
  names_in (array low high of place) = names_in of
  names_in (structure vars) = names_in_vars vars
  names_in (named name place) = (name, place) ∷ []
  names_in unread = []

  pub names_in_vars : VarTrees → List PlacedName
  names_in_vars no_vars = []
  names_in_vars (_then_ (var name section ty start place) more) = names_in ty ++ names_in_vars more

-- the type that a data block is of
abbrev pub name_of_kind : BlockKind → List PlacedName
name_of_kind (Db (Some name)) = name ∷ []
name_of_kind (Db None) = []
name_of_kind Fb = []
name_of_kind Fc = []
name_of_kind Ob = []
name_of_kind Udt = []

-- the types that a block names, in its declarations of any section and in the type of a data block
abbrev pub named_types : BlockTree → List PlacedName
named_types block = names_in_vars (listed block.vars) ++ name_of_kind block.kind

-- the keys of the types that the type of this key names
abbrev pub named_within : ProjectTree → List ℕ → List (List ℕ)
named_within project key = elim (type_named project key) [
  | None ↦ []
  | Some b ↦ map (λ n. n.0.key)
      (names_in_vars (listed b.vars))
]

-- a type names a type, or names one that leads to it
pub data Holds (project : ProjectTree) : List ℕ → List ℕ → Type 0 where
  at_once : {outer inner : List ℕ} → Contains (named_within project outer) inner
      → Holds project outer inner
  within : {outer middle inner : List ℕ} → Contains (named_within project outer) middle
      → Holds project middle inner → Holds project outer inner

abbrev pub IsMissingOrEndless : ProjectTree → List ℕ → Type 0
IsMissingOrEndless project key = (type_named project key ≡ None) ⊎ Holds project key key

abbrev pub IsMissingType : ProjectTree → Place → Type 0
IsMissingType project place = Any (λ b. Any (λ n. (n.1 ≡ place)
    × IsMissingOrEndless project n.0.key) (named_types b)) project.blocks
