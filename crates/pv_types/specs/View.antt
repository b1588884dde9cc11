-- Declarations of the code as plain data, and the parts of plain declarations.
use Rattle.std.specs.Prelude.{ℕ, List, [], ◌∷◌, ◌++◌, drop, map, Option}
use Rattle.std.specs.List.{flat_map}
use Rattle.pv_place.specs.declared.place.Place.{Place}
use Rattle.pv_types.specs.declared.name.Name.{Name}
use Rattle.pv_types.specs.declared.declaration.Section.{Section}
use Rattle.pv_types.specs.declared.declaration.Literal.{Literal}
use Rattle.pv_types.specs.declared.declaration.DeclType.{DeclType, fold-DeclType}
use Rattle.pv_types.specs.declared.declaration.DeclType.TheOpen.{DeclType-F}
use Rattle.pv_types.specs.declared.declaration.Vars.{Vars, Vars-F, fold-Vars}
use Rattle.pv_types.specs.declared.var.Var.{Var}
use Rattle.pv_types.specs.Tree.{
  TypeTree,
  plain,
  array,
  structure,
  named,
  unread,
  VarTree,
  var,
  VarTrees,
  no_vars,
  _then_,
}

-- a list of variables as the fields of a structure
abbrev pub listed : List VarTree → VarTrees
listed [] = no_vars
listed (x ∷ xs) = _then_ x (listed xs)

-- the fields of a structure as a list
abbrev pub fields_of : VarTrees → List VarTree
fields_of no_vars = []
fields_of (_then_ x xs) = x ∷ fields_of xs

-- the variable of a name and its place
abbrev pub word_tree : Section → TypeTree → Option Literal → Name × Place → VarTree
word_tree section ty start w = var w.0 section ty start w.1

-- one level of a type, and one of variables that are declared at once, with what lies below it seen
-- already
abbrev pub type_step : DeclType-F TypeTree (List VarTree) → TypeTree
type_step (DeclType-F.Plain ty) = plain ty
type_step (DeclType-F.Array low high of place) = array low high of.value place
type_step (DeclType-F.Struct vars) = structure (listed (flat_map (λ x. x) vars.items))
type_step (DeclType-F.Named name place) = named name place
type_step DeclType-F.Unread = unread

abbrev pub vars_step : Vars-F TypeTree (List VarTree) → List VarTree
vars_step v = map (word_tree v.section v.ty v.start) v.names.items

-- a type as plain data
abbrev pub type_tree : DeclType → TypeTree
type_tree = fold-DeclType TypeTree (List VarTree) type_step vars_step

-- variables that are declared at once, one by one
abbrev pub vars_tree : Vars → List VarTree
vars_tree = fold-Vars TypeTree (List VarTree) type_step vars_step

-- the variables of declarations as plain data
abbrev pub var_trees : List Vars → List VarTree
var_trees = flat_map vars_tree

-- the same, of the first declaration only the names from this number on
abbrev pub trees_from : List Vars → ℕ → List VarTree
trees_from [] from = []
trees_from (v ∷ vs) from = drop from (vars_tree v) ++ var_trees vs

-- a variable as plain data
abbrev pub var_tree : Var → VarTree
var_tree v = word_tree v.of.now.section (type_tree v.of.now.ty) v.of.now.start (v.name.now, v.place)

abbrev pub name_of : VarTree → Name
name_of (var name section ty start place) = name

abbrev pub section_of : VarTree → Section
section_of (var name section ty start place) = section

abbrev pub declared_type_of : VarTree → TypeTree
declared_type_of (var name section ty start place) = ty

abbrev pub start_of : VarTree → Option Literal
start_of (var name section ty start place) = start

abbrev pub place_of : VarTree → Place
place_of (var name section ty start place) = place
