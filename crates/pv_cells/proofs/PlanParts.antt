-- Variables of the code, those that are declared at once together, among those of a part.
use Rattle.std.proofs.Common.{◌≡◌, ◌<◌, ◌≤◌, ◌+◌, ℕ, List, [], ◌∷◌, ◌++◌, Option, map, length, take, get_or, add-one, Bool, true, false, refl, sym, ap, ◌∙◌, subst}
use Rattle.std.proofs.Math.Seq.{take-suc}
use Rattle.std.proofs.lemmas.List.{map-append, append-nil}
use Rattle.std.proofs.lemmas.Grind.{flat_map-append}
use Rattle.pv_place.specs.declared.place.Place.{Place}
use Rattle.pv_types.specs.declared.name.Name.{Name}
use Rattle.pv_types.specs.declared.declaration.Literal.{Literal}
use Rattle.pv_types.specs.declared.declaration.Section.{Section}
use Rattle.pv_types.specs.declared.declaration.Vars.{Vars}
use Rattle.pv_types.specs.Named.{NamedType}
use Rattle.pv_types.specs.Tree.{TypeTree, VarTree, var}
use Rattle.pv_types.specs.View.{type_tree, vars_tree, word_tree, var_trees}
use Rattle.pv_types.specs.Leaves.{block, section_within, field_path, start_value, leaves_where, leaves_of_type, leaves_of_named, leaves_of}
use Rattle.pv_types.proofs.ForCallers.{vars_seen}
use Rattle.pv_tree.specs.Scopes.{ProjectTree}
use Rattle.pv_tree.specs.NamedTypes.{types_of_project}
use Rattle.pv_cells.specs.declared.variables.Form.{Form}
use Rattle.pv_cells.specs.Forms.{formed, leaves_if, leaves_among}
use Rattle.pv_cells.proofs.Leaves.{leaves-if}

-- the leaves of the first of some variables, and those of the others
leaves-then : (types : List NamedType) (v : VarTree) (vs : List VarTree) → leaves_of types (v ∷ vs) ≡ leaves_of types (v ∷ []) ++ leaves_of types vs
leaves-then types (var name section ty start place) vs =
    ap (λ l. l ++ leaves_of types vs) (sym (append-nil (leaves_where (section_within block section)
    (λ s. leaves_of_type (leaves_of_named types (length types)) (field_path [] name) (start_value start) s ty))))

module _ (project : ProjectTree) (t : Section → Bool) (s : Section) (ty : TypeTree) (start : Option Literal) where
  words-same : (ws : List (Name × Place)) → t s ≡ true
      → leaves_of (types_of_project project) (map (word_tree s ty start) ws) ≡ leaves_among project t (map (word_tree s ty start) ws)
  words-same [] is = refl
  words-same (w ∷ ws) is =
      leaves-then (types_of_project project) (word_tree s ty start w) (map (word_tree s ty start) ws)
      ∙ ap (λ l. l ++ leaves_of (types_of_project project) (map (word_tree s ty start) ws))
      (sym (leaves-if project t (word_tree s ty start w) true is))
      ∙ ap (λ l. leaves_if project t (word_tree s ty start w) ++ l) (words-same ws is)

  words-none : (ws : List (Name × Place)) → t s ≡ false → [] ≡ leaves_among project t (map (word_tree s ty start) ws)
  words-none [] is = refl
  words-none (w ∷ ws) is =
      words-none ws is
      ∙ ap (λ l. l ++ leaves_among project t (map (word_tree s ty start) ws)) (sym (leaves-if project t (word_tree s ty start w) false is))

module _ (project : ProjectTree) (types : List NamedType) (t : Section → Bool) (v : Vars) (its : types ≡ types_of_project project) where
  pub part-same : t v.section ≡ true → leaves_of types (vars_tree v) ≡ leaves_among project t (vars_tree v)
  part-same is =
      ap (λ ts. leaves_of ts (vars_tree v)) its
      ∙ ap (leaves_of (types_of_project project)) (vars_seen v)
      ∙ words-same project t v.section (type_tree v.ty) v.start v.names.items is
      ∙ ap (leaves_among project t) (sym (vars_seen v))

  pub part-few : (m : ℕ) → t v.section ≡ true → length (leaves_among project t (vars_tree v)) ≤ m → length (leaves_of types (vars_tree v)) ≤ m
  part-few m is few = subst (λ l. length l ≤ m) (sym (part-same is)) few

  pub part-none : t v.section ≡ false → [] ≡ leaves_among project t (vars_tree v)
  part-none is =
      words-none project t v.section (type_tree v.ty) v.start v.names.items is ∙ ap (leaves_among project t) (sym (vars_seen v))

-- those of a declaration before those of the others
pub leaves-first : (project : ProjectTree) (t : Section → Bool) (v : Vars) (rest : List Vars)
    → leaves_among project t (var_trees (v ∷ rest)) ≡ leaves_among project t (vars_tree v) ++ leaves_among project t (var_trees rest)
leaves-first project t v rest = flat_map-append (leaves_if project t) (vars_tree v) (var_trees rest)

-- and so their cells
pub vars-first : (form : Form) (project : ProjectTree) (t : Section → Bool) (v : Vars) (rest : List Vars)
    → map (formed form) (leaves_among project t (var_trees (v ∷ rest)))
    ≡ map (formed form) (leaves_among project t (vars_tree v)) ++ map (formed form) (leaves_among project t (var_trees rest))
vars-first form project t v rest =
    ap (map (formed form)) (leaves-first project t v rest)
    ∙ map-append (formed form) (leaves_among project t (vars_tree v)) (leaves_among project t (var_trees rest))

-- declarations up to one, and this one more
pub declared-more : (vars : List Vars) (i : ℕ) (v : Vars) → i < length vars → v ≡ get_or vars i v
    → var_trees (take i vars) ++ vars_tree v ≡ var_trees (take (i + 1) vars)
declared-more vars i v inside is =
    ap (λ w. var_trees (take i vars) ++ vars_tree w) is
    ∙ ap (λ l. var_trees (take i vars) ++ l) (sym (append-nil (vars_tree (get_or vars i v))))
    ∙ sym (flat_map-append vars_tree (take i vars) (get_or vars i v ∷ []))
    ∙ ap var_trees (sym (take-suc vars i v inside)) ∙ ap (λ n. var_trees (take n vars)) (sym (add-one i))

-- the variables of one declaration
pub alone : (vars : List Vars) (v : Vars) → vars ≡ v ∷ [] → var_trees vars ≡ vars_tree v
alone vars v is = ap var_trees is ∙ append-nil (vars_tree v)
