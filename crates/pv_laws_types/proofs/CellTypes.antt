-- The types of the cells of a declared type, one after another, as the layout counts cells: a recursion on the type, to which what
-- leaves are comes.
use Rattle.std.proofs.Common.{◌≡◌, ℕ, zero, suc, ℤ, pos, ◌+ℤ◌, List, [], ◌∷◌, ◌++◌, map, length, Bool, true, false, cond, Some, None, refl, sym, ap, ◌∙◌, arith}
use Rattle.std.specs.Prelude.{filter, unwrap_or}
use Rattle.std.proofs.lemmas.List.{length-append}
use Rattle.std.proofs.lemmas.List.Elements.{filter-append}
use Rattle.pv_word.specs.declared.types.Ty.{Ty}
use Rattle.pv_types.specs.declared.name.Name.{Name}
use Rattle.pv_types.specs.declared.declaration.Section.{Section}
use Rattle.pv_types.specs.declared.declaration.Section.TheVariants.{Input, Output, InOut, Static, Temp, Const}
use Rattle.pv_types.specs.declared.leaf.Leaf.{Leaf}
use Rattle.pv_types.specs.Tree.{TypeTree, plain, array, structure, named, unread, VarTree, var, VarTrees, no_vars, _then_}
use Rattle.pv_types.specs.View.{listed, fields_of}
use Rattle.pv_types.specs.Named.{NamedType, look_up, NestsWithin}
use Rattle.pv_types.specs.Leaves.{block, instance, fields, section_within, field_path, element_path, start_value, count_between, leaves_where, leaves_of_elements, leaves_of_type, leaves_of_vars, leaves_of_named, leaves_of}
use Rattle.pv_types.proofs.ForCallers.{counted_leaves, named_laid_out}
use Rattle.pv_tree.specs.Scopes.{ProjectTree, is_const, is_of_instance}
use Rattle.pv_tree.specs.NamedTypes.{types_of_project}
use Rattle.pv_mean.specs.Layout.{size_in}
use Rattle.pv_mean.proofs.ForCallers.{AreOf, of-type, of-named}

-- ---- definitions

abbrev pub repeated : ℕ → List Ty → List Ty
repeated zero types = []
repeated (suc n) types = types ++ repeated n types

abbrev mutual
  pub types_of_type : (List ℕ → List Ty) → TypeTree → List Ty
  types_of_type expand (plain ty) = ty ∷ []
  types_of_type expand (array low high of place) = repeated (count_between low high) (types_of_type expand of)
  types_of_type expand (structure vars) = types_of_fields expand vars
  types_of_type expand (named name place) = expand name.key
  types_of_type expand unread = []

  pub types_of_fields : (List ℕ → List Ty) → VarTrees → List Ty
  types_of_fields expand no_vars = []
  types_of_fields expand (_then_ (var name section ty start place) more) = types_of_type expand ty ++ types_of_fields expand more

abbrev pub types_of_vars : (List ℕ → List Ty) → (Section → Bool) → List VarTree → List Ty
types_of_vars expand test [] = []
types_of_vars expand test (var name section ty start place ∷ more) =
    cond (test section) (types_of_type expand ty ++ types_of_vars expand test more) (types_of_vars expand test more)

abbrev pub types_of_named : List NamedType → ℕ → List ℕ → List Ty
types_of_named types zero key = []
types_of_named types (suc n) key = types_of_vars (types_of_named types n) is_of_instance (unwrap_or (look_up types key) [])

abbrev pub named_in : ProjectTree → List ℕ → List Ty
named_in project = types_of_named (types_of_project project) (length (types_of_project project))

abbrev pub types_in : ProjectTree → TypeTree → List Ty
types_in project ty = types_of_type (named_in project) ty

abbrev pub types_among : ProjectTree → (Section → Bool) → List VarTree → List Ty
types_among project test vars = types_of_vars (named_in project) test vars

-- ---- the types of leaves

abbrev pub leaf_types : List Leaf → List Ty
leaf_types leaves = map (λ l. l.ty) leaves

pub types_append : (xs ys : List Leaf) → leaf_types (xs ++ ys) ≡ leaf_types xs ++ leaf_types ys
types_append [] ys = refl
types_append (x ∷ xs) ys = ap (λ l. x.ty ∷ l) (types_append xs ys)

types_count : (xs : List Leaf) → length (leaf_types xs) ≡ length xs
types_count [] = refl
types_count (x ∷ xs) = ap suc (types_count xs)

pub append_both : {X : Type 0} (a b c d : List X) → a ≡ b → c ≡ d → a ++ c ≡ b ++ d
append_both a b c d e f = ap (λ x. x ++ c) e ∙ ap (λ y. b ++ y) f

elements_types : (element : ℤ → List Leaf) (types : List Ty) → ((i : ℤ) → leaf_types (element i) ≡ types) → (i : ℤ) (count : ℕ)
    → leaf_types (leaves_of_elements element i count) ≡ repeated count types
elements_types element types each i zero = refl
elements_types element types each i (suc count) =
    types_append (element i) (leaves_of_elements element (i +ℤ pos 1) count)
    ∙ append_both (leaf_types (element i)) types _ _ (each i) (elements_types element types each (i +ℤ pos 1) count)

module _ (expand : List ℕ → List ℕ → Section → List Leaf) (types : List ℕ → List Ty)
    (same : (key path : List ℕ) (s : Section) → leaf_types (expand key path s) ≡ types key) where
  mutual
    pub type_types : (path : List ℕ) (start : ℤ) (s : Section) (t : TypeTree)
        → leaf_types (leaves_of_type expand path start s t) ≡ types_of_type types t
    type_types path start s (plain ty) = refl
    type_types path start s (array low high of place) =
        elements_types _ (types_of_type types of) (λ i. type_types (element_path path i) (pos 0) s of) low (count_between low high)
    type_types path start s (structure vars) = fields_types path s vars
    type_types path start s (named name place) = same name.key path s
    type_types path start s unread = refl

    fields_types : (path : List ℕ) (s : Section) (vars : VarTrees)
        → leaf_types (leaves_of_vars expand (fields s) path vars) ≡ types_of_fields types vars
    fields_types path s no_vars = refl
    fields_types path s (_then_ (var name section ty start place) xs) =
        types_append (leaves_of_type expand (field_path path name) (start_value start) s ty) (leaves_of_vars expand (fields s) path xs)
        ∙ append_both _ (types_of_type types ty) _ _ (type_types (field_path path name) (start_value start) s ty)
        (fields_types path s xs)

  instance_types : (path : List ℕ) (s : Section) (vars : List VarTree)
      → leaf_types (leaves_of_vars expand (instance s) path (listed vars)) ≡ types_of_vars types is_of_instance vars
  instance_types path s [] = refl
  instance_types path s (var name section ty start place ∷ more) =
      types_append (leaves_where (section_within (instance s) section) its) rest ∙ lead (instance_types path s more) section
    where
      its : Section → List Leaf
      its r = leaves_of_type expand (field_path path name) (start_value start) r ty

      rest : List Leaf
      rest = leaves_of_vars expand (instance s) path (listed more)

      here : leaf_types rest ≡ types_of_vars types is_of_instance more
          → leaf_types (its s) ++ leaf_types rest ≡ types_of_type types ty ++ types_of_vars types is_of_instance more
      here below = append_both _ _ _ _ (type_types (field_path path name) (start_value start) s ty) below

      lead : leaf_types rest ≡ types_of_vars types is_of_instance more → (own : Section)
          → leaf_types (leaves_where (section_within (instance s) own) its) ++ leaf_types rest
          ≡ cond (is_of_instance own) (types_of_type types ty ++ types_of_vars types is_of_instance more)
          (types_of_vars types is_of_instance more)
      lead below Input = here below
      lead below Output = here below
      lead below InOut = here below
      lead below Static = here below
      lead below Temp = below
      lead below Const = below

named_types : (types : List NamedType) (n : ℕ) (key path : List ℕ) (s : Section)
    → leaf_types (leaves_of_named types n key path s) ≡ types_of_named types n key
named_types types zero key path s = refl
named_types types (suc n) key path s =
    instance_types (leaves_of_named types n) (types_of_named types n) (named_types types n) path s (unwrap_or (look_up types key) [])

abbrev expand_in : ProjectTree → List ℕ → List ℕ → Section → List Leaf
expand_in project = leaves_of_named (types_of_project project) (length (types_of_project project))

known_types : (project : ProjectTree) (key path : List ℕ) (s : Section) → leaf_types (expand_in project key path s) ≡ named_in project key
known_types project key path s = named_types (types_of_project project) (length (types_of_project project)) key path s

pub laid_types : (project : ProjectTree) (path : List ℕ) (start : ℤ) (s : Section) (t : TypeTree)
    → leaf_types (leaves_of_type (expand_in project) path start s t) ≡ types_in project t
laid_types project path start s t = type_types (expand_in project) (named_in project) (known_types project) path start s t

-- a named type that nests has the types of its variables
pub named_unfolds : (project : ProjectTree) (key : List ℕ) (vars : List VarTree)
    → NestsWithin (types_of_project project) (length (types_of_project project)) key → look_up (types_of_project project) key ≡ Some vars
    → named_in project key ≡ types_among project is_of_instance vars
named_unfolds project key vars nests found =
    sym (known_types project key [] Static)
    ∙ (ap leaf_types (named_laid_out (types_of_project project) (length (types_of_project project)) key [] Static nests)
    ∙ (ap (λ o. leaf_types (leaves_of_vars (expand_in project) (instance Static) [] (listed (unwrap_or o [])))) found
    ∙ instance_types (expand_in project) (named_in project) (known_types project) [] Static vars))

-- a structure has those of its fields
pub fields_among : (expand : List ℕ → List Ty) (vars : VarTrees) → types_of_fields expand vars ≡ types_of_vars expand (λ s. true) (fields_of vars)
fields_among expand no_vars = refl
fields_among expand (_then_ (var name section ty start place) xs) = ap (λ l. types_of_type expand ty ++ l) (fields_among expand xs)

-- ---- how many there are

pub types_counted : (project : ProjectTree) (t : TypeTree) → length (types_in project t) ≡ size_in project t
types_counted project t =
    let e = counted_leaves (types_of_project project)
    (var (record { key = []; spelled = []; paired = false }) Static t None (record { file = 0; offset = 0 }) ∷ []) in
    let a = length-append (leaves_of_type (expand_in project) [] (pos 0) Static t) [] in
    let b = types_count (leaves_of_type (expand_in project) [] (pos 0) Static t) in
    let c = ap length (laid_types project [] (pos 0) Static t) in omega (arith, e, a, b, c)

-- ---- the variables of a block, by their sections

kept-all : (p : Section → Bool) (s : Section) (xs : List Leaf) → AreOf s xs → p s ≡ true → filter (λ l. p l.section) xs ≡ xs
kept-all p s [] are is = refl
kept-all p s (x ∷ xs) are is =
    ap (λ b. cond b (x ∷ filter (λ l. p l.section) xs) (filter (λ l. p l.section) xs)) (ap p are.0 ∙ is)
    ∙ ap (λ l. x ∷ l) (kept-all p s xs are.1 is)

kept-none : (p : Section → Bool) (s : Section) (xs : List Leaf) → AreOf s xs → p s ≡ false → filter (λ l. p l.section) xs ≡ []
kept-none p s [] are is = refl
kept-none p s (x ∷ xs) are is =
    ap (λ b. cond b (x ∷ filter (λ l. p l.section) xs) (filter (λ l. p l.section) xs)) (ap p are.0 ∙ is)
    ∙ kept-none p s xs are.1 is

-- what a test keeps, constants apart
abbrev pub but_constants : (Section → Bool) → Section → Bool
but_constants test s = cond (is_const s) false (test s)

module _ (project : ProjectTree) (test : Section → Bool) where
  one_types : (name : Name) (own : Section) (ty : TypeTree) (start : ℤ)
      → leaf_types (filter (λ l. test l.section) (leaves_where (section_within block own)
      (λ r. leaves_of_type (expand_in project) (field_path [] name) start r ty)))
      ≡ cond (but_constants test own) (types_in project ty) []
  one_types name own ty start = lead own
    where
      its : Section → List Leaf
      its r = leaves_of_type (expand_in project) (field_path [] name) start r ty

      by : (s : Section) (b : Bool) → test s ≡ b → leaf_types (filter (λ l. test l.section) (its s)) ≡ cond b (types_in project ty) []
      by s true e =
          ap leaf_types (kept-all test s (its s) (of-type (expand_in project)
          (of-named (types_of_project project) (length (types_of_project project))) (field_path [] name) start s ty) e)
          ∙ laid_types project (field_path [] name) start s ty
      by s false e =
          ap leaf_types (kept-none test s (its s) (of-type (expand_in project)
          (of-named (types_of_project project) (length (types_of_project project))) (field_path [] name) start s ty) e)

      lead : (s : Section) → leaf_types (filter (λ l. test l.section) (leaves_where (section_within block s) its))
          ≡ cond (but_constants test s) (types_in project ty) []
      lead Input = by Input (test Input) refl
      lead Output = by Output (test Output) refl
      lead InOut = by InOut (test InOut) refl
      lead Static = by Static (test Static) refl
      lead Temp = by Temp (test Temp) refl
      lead Const = refl

  pub block_types : (vars : List VarTree)
      → leaf_types (filter (λ l. test l.section) (leaves_of (types_of_project project) vars))
      ≡ types_among project (but_constants test) vars
  block_types [] = refl
  block_types (var name section ty start place ∷ more) =
      ap leaf_types (filter-append (λ l. test l.section) (leaves_where (section_within block section)
      (λ r. leaves_of_type (expand_in project) (field_path [] name) (start_value start) r ty))
      (leaves_of (types_of_project project) more))
      ∙ (types_append _ _
      ∙ (append_both _ (cond (but_constants test section) (types_in project ty) []) _ _ (one_types name section ty (start_value start))
      (block_types more) ∙ lead (but_constants test section)))
    where
      lead : (b : Bool) → cond b (types_in project ty) [] ++ types_among project (but_constants test) more
          ≡ cond b (types_in project ty ++ types_among project (but_constants test) more) (types_among project (but_constants test) more)
      lead true = refl
      lead false = refl

-- two tests that keep the same keep the same types
pub among_same : (project : ProjectTree) (test other : Section → Bool) → ((s : Section) → test s ≡ other s) → (vars : List VarTree)
    → types_among project test vars ≡ types_among project other vars
among_same project test other same [] = refl
among_same project test other same (var name section ty start place ∷ more) =
    ap (λ b. cond b (types_in project ty ++ types_among project test more) (types_among project test more)) (same section)
    ∙ ap (λ l. cond (other section) (types_in project ty ++ l) l) (among_same project test other same more)
