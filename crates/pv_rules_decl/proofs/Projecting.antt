-- From what is found in lists of blocks to the definitions over a project.
use Rattle.std.proofs.Common.{◌≡◌, List, [], ◌∷◌, map, refl, ap, sym, subst, ◌∙◌, inl, inr}
use Rattle.std.specs.Prelude.{◌⊎◌, Option, None, Any, Result, Ok, Err, IfOk}
use Rattle.pv_place.specs.declared.place.Place.{Place}
use Rattle.pv_types.specs.declared.declaration.Vars.{Vars}
use Rattle.pv_types.specs.declared.var.Var.{Var}
use Rattle.pv_types.specs.View.{var_tree, var_trees, listed}
use Rattle.pv_types.specs.Tree.{TypeTree, structure, VarTree}
use Rattle.pv_types.proofs.ForCallers.{fields-of-listed}
use Rattle.pv_tree.specs.declared.block.Block.{Block}
use Rattle.pv_tree.specs.Tree.{BlockTree}
use Rattle.pv_tree.specs.View.{block_tree}
use Rattle.pv_tree.specs.Scopes.{ProjectTree}
use Rattle.pv_tree.specs.Interfaces.{all_types, names_of_vars, IsLater}
use Rattle.pv_tree.specs.Rules.Arrays.{IsWrongType, IsWrongArray}
use Rattle.pv_tree.specs.Rules.DoubledNames.{DoublesField, DoublesName, IsDoubledName}
use Rattle.pv_rules_expr.specs.Members.{HasSome}
use Rattle.pv_rules_expr.specs.Nearest.{Nears, IsNearest}
use Rattle.pv_rules_expr.specs.Members.{IsLaterBehind}
use Rattle.pv_rules_decl.specs.Doubles.{name_of_var, name_of_block}
use Rattle.pv_tree.specs.Rules.Misfits.{MisplacesDate}
use Rattle.pv_tree.specs.Interfaces.{all_vars}
use Rattle.pv_rules_decl.specs.OnDeclarations.{IsMisplacedDate}
use Rattle.pv_rules_decl.specs.Declarations.{HaveTheSame}
use Rattle.pv_rules_decl.proofs.Sharing.{some_same, same_back}
use Rattle.pv_rules_decl.specs.BlockLists.{HasWrongArrayIn, MisplacesDateIn, DoublesNameIn}
use Rattle.pv_rules_expr.proofs.ForCallers.{any_has, has_any, near_same, near_then, nearest_by}
use Rattle.pv_rules_expr.proofs.ForCallers.{later_is, is_later}

pub some_each : {X : Type 0} {P Q : X → Type 0} (xs : List X) → ((x : X) → P x → Q x) → HasSome P xs → HasSome Q xs
some_each [] f h = absurd h
some_each (x ∷ xs) f (inl p) = inl (f x p)
some_each (x ∷ xs) f (inr h) = inr (some_each xs f h)

pub names_same : (vars : List Var) → map name_of_var vars ≡ names_of_vars (map var_tree vars)
names_same [] = refl
names_same (v ∷ vs) = ap (λ l. name_of_var v ∷ l) (names_same vs)

pub blocks_same : (blocks : List Block) → map name_of_block blocks ≡ map (λ b. (b.name, b.place)) (map block_tree blocks)
blocks_same [] = refl
blocks_same (b ∷ bs) = ap (λ l. name_of_block b ∷ l) (blocks_same bs)

pub near_vars : (vars : List Vars) (old new : Option Place) → Nears (IsLaterBehind [] (names_of_vars (var_trees vars))) old new
    → Nears (λ at. IsLater (names_of_vars (var_trees vars)) at) old new
near_vars vars old new n =
    near_same (IsLaterBehind [] (names_of_vars (var_trees vars))) (λ at. IsLater (names_of_vars (var_trees vars)) at) old new
    (λ at h. later_is (names_of_vars (var_trees vars)) at h)
    (λ at h. is_later (names_of_vars (var_trees vars)) at h) n

pub near_fields : (vars : List Vars) (ty : TypeTree) (old new : Option Place) → ty ≡ structure (listed (var_trees vars))
    → Nears (λ at. IsLater (names_of_vars (var_trees vars)) at) old new → Nears (λ at. DoublesField at ty) old new
near_fields vars ty old new is n =
    subst (λ t. Nears (λ at. DoublesField at t) old new) (sym is)
    (subst (λ l. Nears (λ at. IsLater (names_of_vars l) at) old new) (sym (fields-of-listed (var_trees vars))) n)

pub near_both : (b : BlockTree) (vars : List VarTree) (types : List TypeTree) (old mid new : Option Place) → vars ≡ b.vars → HaveTheSame types (all_types b.vars)
    → Nears (λ at. IsLater (names_of_vars vars) at) old mid → Nears (λ at. HasSome (DoublesField at) types) mid new → Nears (λ at. DoublesNameIn at b) old new
near_both b vars types old mid new same all first second =
    near_then (λ at. IsLater (names_of_vars b.vars) at) (λ at. HasSome (DoublesField at) (all_types b.vars)) old mid new
    (subst (λ l. Nears (λ at. IsLater (names_of_vars l) at) old mid) same first)
    (near_same (λ at. HasSome (DoublesField at) types) (λ at. HasSome (DoublesField at) (all_types b.vars)) mid new
    (λ at. some_same (DoublesField at) types (all_types b.vars) all)
    (λ at. some_same (DoublesField at) (all_types b.vars) types (same_back types (all_types b.vars) all)) second)

pub if_ok : {T E : Type 0} (r : Result T E) {P Q : T → Type 0} → ((x : T) → P x → Q x) → IfOk r P → IfOk r Q
if_ok (Ok x) f p = f x p
if_ok (Err e) f p = p

-- ---- over a project

pub wrong_array_is : (project : ProjectTree) (trees : List BlockTree) (new : Option Place) → project.blocks ≡ trees
    → Nears (λ at. HasSome (HasWrongArrayIn at) trees) None new → IsNearest (IsWrongArray project) new
wrong_array_is project trees new same n =
    nearest_by (λ at. HasSome (HasWrongArrayIn at) trees) (IsWrongArray project) new
    (λ at h. subst (λ l. Any (λ b. Any (IsWrongType at) (all_types b.vars)) l) (sym same)
    (has_any (λ b. Any (IsWrongType at) (all_types b.vars)) trees (some_each trees (λ b g. has_any (IsWrongType at) (all_types b.vars) g) h)))
    (λ at a. some_each trees (λ b g. any_has (IsWrongType at) (all_types b.vars) g)
    (any_has (λ b. Any (IsWrongType at) (all_types b.vars)) trees (subst (λ l. Any (λ b. Any (IsWrongType at) (all_types b.vars)) l) same a))) n

in_block : (at : Place) (b : BlockTree) → DoublesNameIn at b → DoublesName at b
in_block at b (inl h) = inl h
in_block at b (inr h) = inr (has_any (DoublesField at) (all_types b.vars) h)

of_block : (at : Place) (b : BlockTree) → DoublesName at b → DoublesNameIn at b
of_block at b (inl h) = inl h
of_block at b (inr h) = inr (any_has (DoublesField at) (all_types b.vars) h)

pub doubled_name_is : (project : ProjectTree) (blocks : List Block) (trees : List BlockTree) (mid new : Option Place) → trees ≡ map block_tree blocks
    → project.blocks ≡ map block_tree blocks → Nears (IsLaterBehind [] (map name_of_block blocks)) None mid
    → Nears (λ at. HasSome (DoublesNameIn at) trees) mid new → IsNearest (IsDoubledName project) new
doubled_name_is project blocks trees mid new are same first second =
    nearest_by (λ at. IsLaterBehind [] (map name_of_block blocks) at ⊎ HasSome (DoublesNameIn at) trees) (IsDoubledName project) new
    (λ at h. elim h [
      | inl l ↦ inl (subst (λ bs. IsLater (map (λ b. (b.name, b.place)) bs) at) (sym same)
          (subst (λ l. IsLater l at) (blocks_same blocks) (later_is (map name_of_block blocks) at l)))
      | inr r ↦ inr (subst (λ bs. Any (DoublesName at) bs) (are ∙ sym same) (has_any (DoublesName at) trees (some_each trees (in_block at) r)))
    ])
    (λ at h. elim h [
      | inl l ↦ inl (is_later (map name_of_block blocks) at (subst (λ l. IsLater l at) (sym (blocks_same blocks))
          (subst (λ bs. IsLater (map (λ b. (b.name, b.place)) bs) at) same l)))
      | inr r ↦ inr (some_each trees (of_block at) (any_has (DoublesName at) trees (subst (λ bs. Any (DoublesName at) bs) (same ∙ sym are) r)))
    ])
    (near_then (IsLaterBehind [] (map name_of_block blocks)) (λ at. HasSome (DoublesNameIn at) trees) None mid new first second)

pub misplaced_date_is : (project : ProjectTree) (trees : List BlockTree) (new : Option Place) → project.blocks ≡ trees
    → Nears (λ at. HasSome (MisplacesDateIn at) trees) None new → IsNearest (λ at. Any (MisplacesDate at) project.blocks) new
misplaced_date_is project trees new same n =
    nearest_by (λ at. HasSome (MisplacesDateIn at) trees) (λ at. Any (MisplacesDate at) project.blocks) new
    (λ at h. subst (λ l. Any (MisplacesDate at) l) (sym same)
    (has_any (MisplacesDate at) trees (some_each trees (λ b g. has_any (IsMisplacedDate b.kind at) (all_vars b.vars) g) h)))
    (λ at a. some_each trees (λ b g. any_has (IsMisplacedDate b.kind at) (all_vars b.vars) g)
    (any_has (MisplacesDate at) trees (subst (λ l. Any (MisplacesDate at) l) same a))) n
