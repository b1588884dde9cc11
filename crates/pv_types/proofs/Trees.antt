-- The plain data of a type, form by form.
use Rattle.std.specs.Prelude.{◌≡◌, ℕ, zero, suc, ◌-◌, ◌≤◌, ℤ, List, [], ◌∷◌, ◌++◌, map, Some, unwrap_or, refl}
use Rattle.std.specs.List.{flat_map}
use Rattle.std.proofs.Common.{ap, sym, ◌∙◌, arith}
use Rattle.pv_place.specs.declared.place.Place.{Place}
use Rattle.pv_types.specs.declared.declaration.DeclType.{DeclType, fold-roll-DeclType}
use Rattle.pv_types.specs.declared.name.Name.{Name}
use Rattle.pv_types.specs.declared.declaration.DeclType.TheVariants as variant
use Rattle.pv_types.specs.declared.declaration.DeclType.TheViews as form
use Rattle.pv_types.specs.declared.declaration.DeclType.TheVariants.{rolls-Array, rolls-Struct}
use Rattle.pv_types.specs.declared.declaration.DeclType.TheOpen.{DeclType-F}
use Rattle.pv_types.specs.declared.declaration.Vars.{Vars}
use Rattle.pv_types.specs.declared.var.Var.{Var}
use Rattle.pv_types.specs.declared.declaration.DeclType.TheFolds.{fold_out-Vars}
use Rattle.pv_types.specs.Tree.{TypeTree, VarTree, var, array, structure, named}
use Rattle.pv_types.specs.declared.declaration.Section.{Section}
use Rattle.pv_types.specs.Named.{NamedType, look_up}
use Rattle.pv_types.specs.Leaves.{leaves_of_vars, leaves_of_named, instance}
use Rattle.pv_types.specs.Walk.{work_of_vars, work_of_named}
use Rattle.pv_types.specs.View.{type_tree, var_tree, vars_tree, type_step, vars_step, word_tree, var_trees, trees_from, listed}

pub tree-array : (low high : ℤ) (of : _) (place : Place)
    → type_tree (form.Array low high of place) ≡ array low high (type_tree of.value) place
tree-array low high of place = ap type_tree (sym (rolls-Array low high of place))
    ∙ fold-roll-DeclType TypeTree (List VarTree) type_step vars_step (DeclType-F.Array low high of place)

joined_map : (vs : List Vars) → flat_map (λ x. x) (map vars_tree vs) ≡ var_trees vs
joined_map [] = refl
joined_map (v ∷ vs) = ap (λ l. vars_tree v ++ l) (joined_map vs)

pub tree-structure : (vars : _) → type_tree (form.Struct vars) ≡ structure (listed (var_trees vars.items))
tree-structure vars = ap type_tree (sym (rolls-Struct vars))
    ∙ fold-roll-DeclType TypeTree (List VarTree) type_step vars_step (DeclType-F.Struct vars)
    ∙ ap (λ l. structure (listed l)) (joined_map vars.items)

pub array_seen : (ty : DeclType) (low high : ℤ) (of : _) (place : Place) (inner : DeclType) → ty ≡ form.Array low high of place
    → inner ≡ of.value
    → type_tree ty ≡ array low high (type_tree inner) place
array_seen ty low high of place inner is same =
    ap type_tree is ∙ tree-array low high of place ∙ ap (λ t. array low high (type_tree t) place) (sym same)

pub structure_seen : (ty : DeclType) (vars : _) (all : List Vars) → ty ≡ form.Struct vars → all ≡ vars.items
    → type_tree ty ≡ structure (listed (var_trees all))
structure_seen ty vars all is same = ap type_tree is ∙ tree-structure vars ∙ ap (λ l. structure (listed (var_trees l))) (sym same)

-- the leaves of a named type that is found are those of its variables, and so are the steps
pub named_found : (types : List NamedType) (levels below : ℕ) (key path : List ℕ) (section : Section) (vars : List VarTree) → 1 ≤ levels
    → below ≡ levels - 1
    → Some vars ≡ look_up types key
    → (leaves_of_vars (leaves_of_named types below) (instance section) path (listed vars) ≡ leaves_of_named types levels key path section)
    × (work_of_vars (work_of_named types below) (listed vars) ≡ work_of_named types levels key)
named_found types zero below key path section vars le e found = absurd (omega (arith, le))
named_found types (suc n) below key path section vars le e found =
    let same : below ≡ n = omega (arith, e) in (
      ap (λ m. leaves_of_vars (leaves_of_named types m) (instance section) path (listed vars)) same
          ∙ ap (λ o. leaves_of_vars (leaves_of_named types n) (instance section) path (listed (unwrap_or o []))) found,
      ap (λ m. work_of_vars (work_of_named types m) (listed vars)) same
          ∙ ap (λ o. work_of_vars (work_of_named types n) (listed (unwrap_or o []))) found,
    )

-- a variable
pub var_seen : (v : Var) → var_tree v ≡ var v.name.now v.of.now.section (type_tree v.of.now.ty) v.of.now.start v.place
var_seen v = refl

-- variables that are declared at once, one by one
pub vars_seen : (v : Vars) → vars_tree v ≡ map (word_tree v.section (type_tree v.ty) v.start) v.names.items
vars_seen v = fold_out-Vars TypeTree (List VarTree) type_step vars_step v

-- all of them are those from the first name on
pub from_start : (vs : List Vars) → trees_from vs 0 ≡ var_trees vs
from_start [] = refl
from_start (v ∷ vs) = refl

pub named_seen : (ty : DeclType) (name : Name) (place : Place) → ty ≡ variant.Named name place → type_tree ty ≡ named name place
unfolding form.roll-DeclType denote.Hole.Carrier.roll
named_seen ty name place is = ap type_tree is ∙ fold-roll-DeclType TypeTree (List VarTree) type_step vars_step (DeclType-F.Named name place)
