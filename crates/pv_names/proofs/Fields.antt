-- Fields by name: among all variables of a list, and among those that an instance has.
use Rattle.std.proofs.Common.{◌≡◌, ℕ, refl, sym, ap, ◌∙◌, List, [], ◌∷◌, Option, Some, None, Bool, true, false, cond, filter, ◌++◌, true≢false, ◌&&◌, is_some}
use Rattle.std.specs.Prelude.{find}
use Rattle.pv_place.specs.declared.place.Place.{Place}
use Rattle.pv_types.specs.Tree.{TypeTree, structure, VarTree}
use Rattle.pv_types.specs.declared.var.Var.{Var}
use Rattle.pv_types.specs.View.{var_tree, type_tree, listed, name_of, section_of, declared_type_of}
use Rattle.pv_types.proofs.ForCallers.{fields-of-listed}
use Rattle.pv_tree.specs.Scopes as tree
use Rattle.pv_tree.specs.Things as things
use Rattle.pv_names.specs.Doubled.{is_sought}
use Rattle.pv_names.specs.declared.doubled.Part.TheVariants.{Fields}

abbrev is_kept : VarTree → Bool
is_kept v = tree.is_of_instance (section_of v)

pub filtered : (key : List ℕ) (xs : List VarTree) → find (is_sought Fields key) xs ≡ tree.first_var (filter is_kept xs) key
filtered key [] = refl
filtered key (x ∷ xs) =
    elim (is_kept x) as (λ b. cond (b && tree.has_key key (name_of x)) (Some x) (find (is_sought Fields key) xs)
    ≡ tree.first_var (cond b (x ∷ filter is_kept xs) (filter is_kept xs)) key) [
      | true ↦ ap (cond (tree.has_key key (name_of x)) (Some x)) (filtered key xs)
      | false ↦ filtered key xs
    ]

-- the field of a structure
pub struct_field : (scope : tree.Scope) (t : TypeTree) (vars : List VarTree) (key : List ℕ) (place : Place) (o : Option VarTree)
    → t ≡ structure (listed vars) → o ≡ tree.first_var vars key
    → things.field_where o place ≡ things.field_of_type scope t key place
struct_field scope t vars key place o is found =
    ap (λ o. things.field_where o place) found
    ∙ ap (λ l. things.field_where (tree.first_var l key) place) (sym (fields-of-listed vars))
    ∙ ap (λ t. things.field_of_type scope t key place) (sym is)

pub field_type : (v : Var) → type_tree v.of.now.ty ≡ declared_type_of (var_tree v)
field_type v = refl

-- an element of those behind, where none is in front
pub find_behind : (p : VarTree → Bool) (xs ys : List VarTree) → find p xs ≡ None → find p (xs ++ ys) ≡ find p ys
find_behind p [] ys none = refl
find_behind p (x ∷ xs) ys none =
    elim (p x) as (λ b. cond b (Some x) (find p xs) ≡ None → cond b (Some x) (find p (xs ++ ys)) ≡ find p ys) [
      | true ↦ λ h. absurd (true≢false (ap is_some h))
      | false ↦ λ h. find_behind p xs ys h
    ] none

-- or in front
pub find_front : (p : VarTree → Bool) (xs ys : List VarTree) (x : VarTree) → find p xs ≡ Some x → find p (xs ++ ys) ≡ Some x
find_front p [] ys x some = absurd (true≢false (sym (ap is_some some)))
find_front p (y ∷ xs) ys x some =
    elim (p y) as (λ b. cond b (Some y) (find p xs) ≡ Some x → cond b (Some y) (find p (xs ++ ys)) ≡ Some x) [
      | true ↦ λ h. h
      | false ↦ λ h. find_front p xs ys x h
    ] some
