-- The declarations of a block: all variables and types in them, and names that stand twice.
use Rattle.std.specs.Prelude.{◌≡◌, List, [], ◌∷◌, ◌++◌, map, Contains}
use Rattle.pv_place.specs.declared.place.Place.{Place}
use Rattle.pv_types.specs.Tree.{TypeTree, plain, array, structure, named, unread, VarTree, var, VarTrees, no_vars, _then_}
use Rattle.pv_types.specs.View.{listed, name_of, place_of}
use Rattle.pv_tree.specs.Tree.{PlacedName}

-- a type with those in it, and the types of variables
abbrev mutual
  pub types_in : TypeTree → List TypeTree
  types_in (plain ty) = plain ty ∷ []
  types_in (array low high of place) = array low high of place ∷ types_in of
  types_in (structure vars) = structure vars ∷ types_in_vars vars
  types_in (named name place) = named name place ∷ []
  types_in unread = unread ∷ []

  pub types_in_vars : VarTrees → List TypeTree
  types_in_vars no_vars = []
  types_in_vars (_then_ (var name section ty start place) more) = types_in ty ++ types_in_vars more

-- the fields in a type, and variables with the fields in their types
abbrev mutual
  pub fields_in : TypeTree → List VarTree
  fields_in (plain ty) = []
  fields_in (array low high of place) = fields_in of
  fields_in (structure vars) = vars_in vars
  fields_in (named name place) = []
  fields_in unread = []

  pub vars_in : VarTrees → List VarTree
  vars_in no_vars = []
  vars_in (_then_ (var name section ty start place) more) =
      var name section ty start place ∷ fields_in ty ++ vars_in more

abbrev pub all_types : List VarTree → List TypeTree
all_types vars = types_in_vars (listed vars)

abbrev pub all_vars : List VarTree → List VarTree
all_vars vars = vars_in (listed vars)

-- the names of variables that are declared together
abbrev pub names_of_vars : List VarTree → List PlacedName
names_of_vars vars = map (λ v. (name_of v, place_of v)) vars

-- the name at this place stands behind one of the same key
pub record IsLater (names : List PlacedName) (place : Place) : Type 0 where
  pub front : List PlacedName
  pub later : PlacedName
  pub back : List PlacedName
  pub split : names ≡ front ++ later ∷ back
  pub is_before : Contains (map (λ n. n.0.key) front) later.0.key
  pub is_at : later.1 ≡ place
