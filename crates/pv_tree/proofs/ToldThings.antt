-- Where each type that is named is declared, names and steps come to something that is told: to a part whose types are declared, or to
-- one of the faults that have a place. So nothing lacks a type but for a fault that some rule names.
use Rattle.std.proofs.Common.{ℕ, List, [], ◌∷◌, Bool, true, false, cond, not, ◌&&◌, sym, get_or}
use Rattle.std.proofs.lemmas.Bool.{true≢false}
use Rattle.std.proofs.lemmas.List.Elements.{Contains-append_left, Contains-append_right, Contains-push, Contains-get_or, recursion_from_All}
use Rattle.std.specs.List.{AllByRecursion}
use Rattle.std.specs.Prelude.{IsTrue, IsFalse, is_some, option_and_then, filter, Option, Some, None, if◌then◌else◌, Contains, ⊤}
use Rattle.pv_word.specs.declared.types.Ty.{Ty}
use Rattle.pv_place.specs.declared.place.Place.{Place}
use Rattle.pv_types.specs.declared.declaration.Section.TheVariants.{Input, Output, InOut, Static, Temp, Const}
use Rattle.pv_types.specs.Tree.{TypeTree, plain, array, structure, named, unread, VarTree, var, VarTrees, no_vars, _then_}
use Rattle.pv_types.specs.View.{fields_of, section_of, declared_type_of}
use Rattle.pv_types.specs.Named.{AllNamed, AllNamedIn}
use Rattle.pv_tree.specs.declared.expr.Root.{Root}
use Rattle.pv_tree.specs.declared.expr.Root.TheVariants.{Local, Named, Area}
use Rattle.pv_tree.specs.declared.block.BlockKind.{BlockKind}
use Rattle.pv_tree.specs.declared.block.BlockKind.TheVariants.{Fb, Fc, Ob, Db, Udt}
use Rattle.pv_tree.specs.Tree.{StepTree, field, index, StepTrees, no_steps, steps, BlockTree}
use Rattle.pv_tree.specs.Scopes.{SymbolTree, ProjectTree, Scope, has_key, first_block, first_var, first_symbol, is_const, block_where, type_named, own_value}
use Rattle.pv_tree.specs.Things.{Thing, part, constant, a_block, no_name, no_array, a_date, untold, is_address, thing_of_var, thing_of_variable, thing_of_block, thing_of_value, quoted_value, symbol_where, thing_of_root, field_where, field_among, field_within, fields_of_type, field_of_type, field_of_kind, field_of_thing, no_array_where, element_of_thing, is_date, dated, thing_at, last_behind, thing_behind}
use Rattle.pv_tree.specs.Rules.Addresses.{is_wrong_root}

-- ---- lists

pub all_of : {X : Type 0} (P : X → Type 0) (xs : List X) → ((x : X) → Contains xs x → P x) → AllByRecursion P xs
all_of P xs f = recursion_from_All P xs (λ k d lt. f (get_or xs k d) (Contains-get_or xs k d lt))

pub contains_first : {X : Type 0} (x : X) (xs : List X) → Contains (x ∷ xs) x
contains_first x xs = Contains-append_left (x ∷ []) xs x (Contains-push [] x)

pub contains_later : {X : Type 0} (x : X) (xs : List X) (y : X) → Contains xs y → Contains (x ∷ xs) y
contains_later x xs y c = Contains-append_right (x ∷ []) xs y c

-- ---- what is told

abbrev pub Declared : ProjectTree → List ℕ → Type 0
Declared project key = IsTrue (is_some (type_named project key))

abbrev pub TypeTold : ProjectTree → TypeTree → Type 0
TypeTold project ty = AllNamed (Declared project) ty

abbrev pub FieldTold : ProjectTree → VarTree → Type 0
FieldTold project v = TypeTold project (declared_type_of v)

-- a constant is no date
abbrev pub VarTold : ProjectTree → VarTree → Type 0
VarTold project v = FieldTold project v × IsFalse (is_const (section_of v) && is_date (declared_type_of v))

abbrev pub KindTold : ProjectTree → BlockKind → Type 0
KindTold project (Db (Some of)) = Declared project of.0.key
KindTold project (Db None) = ⊤
KindTold project Fb = ⊤
KindTold project Fc = ⊤
KindTold project Ob = ⊤
KindTold project Udt = ⊤

abbrev pub BlockTold : ProjectTree → BlockTree → Type 0
BlockTold project b = AllByRecursion (VarTold project) b.vars × KindTold project b.kind

abbrev pub BlocksTold : ProjectTree → Type 0
BlocksTold project = AllByRecursion (BlockTold project) project.blocks

abbrev pub OptionTold : ProjectTree → Option BlockTree → Type 0
OptionTold project None = ⊤
OptionTold project (Some b) = BlockTold project b

abbrev pub Told : ProjectTree → Thing → Type 0
Told project (part ty) = TypeTold project ty
Told project (constant ty) = TypeTold project ty × IsFalse (is_date ty)
Told project (a_block b) = BlockTold project b
Told project (no_name place) = ⊤
Told project (no_array place) = ⊤
Told project (a_date place) = ⊤
Told project untold = ⊥

-- ---- names

told_of_var : (project : ProjectTree) (v : VarTree) → VarTold project v → Told project (thing_of_var v)
told_of_var project (var name Input ty start place) t = t.0
told_of_var project (var name Output ty start place) t = t.0
told_of_var project (var name InOut ty start place) t = t.0
told_of_var project (var name Static ty start place) t = t.0
told_of_var project (var name Temp ty start place) t = t.0
told_of_var project (var name Const ty start place) t = t

told_found : (project : ProjectTree) (b : Bool) (v : VarTree) (rest : Option VarTree) (other : Thing)
    → VarTold project v → Told project (thing_of_variable rest other) → Told project (thing_of_variable (cond b (Some v) rest) other)
told_found project true v rest other t u = told_of_var project v t
told_found project false v rest other t u = u

told_variable : (project : ProjectTree) (vars : List VarTree) (key : List ℕ) (other : Thing)
    → AllByRecursion (VarTold project) vars → Told project other → Told project (thing_of_variable (first_var vars key) other)
told_variable project [] key other ts t = t
told_variable project (var name section ty start place ∷ more) key other ts t =
    told_found project (has_key key name) (var name section ty start place) (first_var more key) other ts.0
    (told_variable project more key other ts.1 t)

found_where : (project : ProjectTree) (c : Bool) (b : BlockTree) (rest : Option BlockTree)
    → BlockTold project b → OptionTold project rest → OptionTold project (cond c (Some b) rest)
found_where project true b rest t u = t
found_where project false b rest t u = u

pub found_block : (project : ProjectTree) (blocks : List BlockTree) (key : List ℕ) → AllByRecursion (BlockTold project) blocks
    → OptionTold project (first_block blocks key)
found_block project [] key ts = tt
found_block project (b ∷ more) key ts =
    found_where project (has_key key b.name) b (first_block more key) ts.0 (found_block project more key ts.1)

passed : (project : ProjectTree) (c : Bool) (b : BlockTree) → BlockTold project b → OptionTold project (if c then Some b else None)
passed project true b t = t
passed project false b t = tt

passed_where : (project : ProjectTree) (test : BlockTree → Bool) (o : Option BlockTree) → OptionTold project o → OptionTold project
    (option_and_then (block_where test) o)
passed_where project test None t = tt
passed_where project test (Some b) t = passed project (test b) b t

named_told : (project : ProjectTree) (key : List ℕ) → BlocksTold project → OptionTold project (type_named project key)
named_told project key ts = passed_where project _ (first_block project.blocks key) (found_block project project.blocks key ts)

told_value : (project : ProjectTree) (o : Option Ty) (other : Thing) → Told project other → Told project (thing_of_value o other)
told_value project None other t = t
told_value project (Some ty) other t = tt

told_block : (project : ProjectTree) (o : Option BlockTree) (other : Thing) → OptionTold project o → Told project other → Told project
    (thing_of_block o other)
told_block project None other t u = u
told_block project (Some b) other t u = t

told_symbol : (project : ProjectTree) (o : Option SymbolTree) (place : Place) → Told project (symbol_where o place)
told_symbol project None place = tt
told_symbol project (Some s) place = tt

told_if : (project : ProjectTree) (c : Bool) (x y : Thing) → Told project x → Told project y → Told project (if c then x else y)
told_if project true x y t u = t
told_if project false x y t u = u

told_address : (project : ProjectTree) (c : Bool) (x : Thing) → IsFalse (not c) → Told project x → Told project (if c then x else untold)
told_address project true x p t = t
told_address project false x p t = absurd (true≢false p)

pub told_root : (scope : Scope) (root : Root) (place : Place) → BlocksTold scope.project → AllByRecursion
    (VarTold scope.project) scope.block.vars
    → IsFalse (is_wrong_root root) → Told scope.project (thing_of_root scope root place)
told_root scope (Local name hash at) place ts vs r =
    told_variable scope.project scope.block.vars name.key _ vs
    (told_value scope.project (own_value scope.block name.key hash) _
    (told_if scope.project hash (no_name at) _ tt
    (told_block scope.project (first_block scope.project.blocks name.key) (no_name at)
    (found_block scope.project scope.project.blocks name.key ts) tt)))
told_root scope (Named name) place ts vs r =
    told_value scope.project (quoted_value scope.block name.key)
    (thing_of_block (first_block scope.project.blocks name.key) (symbol_where (first_symbol scope.project.symbols name.key) place))
    (told_block scope.project (first_block scope.project.blocks name.key) (symbol_where (first_symbol scope.project.symbols name.key) place)
    (found_block scope.project scope.project.blocks name.key ts)
    (told_symbol scope.project (first_symbol scope.project.symbols name.key) place))
told_root scope (Area area bits byte bit) place ts vs r = told_address scope.project (is_address bits byte bit) _ r tt

-- ---- steps

told_field_found : (project : ProjectTree) (b : Bool) (v : VarTree) (rest : Option VarTree) (place : Place)
    → FieldTold project v → Told project (field_where rest place) → Told project (field_where (cond b (Some v) rest) place)
told_field_found project true v rest place t u = t
told_field_found project false v rest place t u = u

told_field_among : (project : ProjectTree) (vars : List VarTree) (key : List ℕ) (place : Place) → AllByRecursion (FieldTold project) vars
    → Told project (field_among vars key place)
told_field_among project [] key place ts = tt
told_field_among project (var name section ty start at ∷ more) key place ts =
    told_field_found project (has_key key name) (var name section ty start at) (first_var more key) place ts.0
    (told_field_among project more key place ts.1)

told_kept : (project : ProjectTree) (b : Bool) (v : VarTree) (rest : List VarTree)
    → FieldTold project v → AllByRecursion (FieldTold project) rest → AllByRecursion (FieldTold project) (cond b (v ∷ rest) rest)
told_kept project true v rest t ts = (t, ts)
told_kept project false v rest t ts = ts

told_fields : (project : ProjectTree) (test : VarTree → Bool) (vars : List VarTree) → AllByRecursion (VarTold project) vars → AllByRecursion
    (FieldTold project) (filter test vars)
told_fields project test [] ts = tt
told_fields project test (v ∷ more) ts = told_kept project (test v) v (filter test more) ts.0.0 (told_fields project test more ts.1)

told_own : (project : ProjectTree) (vars : List VarTree) → AllByRecursion (VarTold project) vars → AllByRecursion (FieldTold project) vars
told_own project [] ts = tt
told_own project (v ∷ more) ts = (ts.0.0, told_own project more ts.1)

told_structure : (project : ProjectTree) (vars : VarTrees) → AllNamedIn (Declared project) vars → AllByRecursion (FieldTold project)
    (fields_of vars)
told_structure project no_vars ts = tt
told_structure project (_then_ (var name section ty start place) more) ts = (ts.0, told_structure project more ts.1)

told_within : (project : ProjectTree) (o : Option BlockTree) (key : List ℕ) (place : Place) → OptionTold project o → IsTrue (is_some o)
    → Told project (field_within o key place)
told_within project None key place t s = true≢false (sym s)
told_within project (Some b) key place t s = told_field_among project (fields_of_type b) key place (told_fields project _ b.vars t.0)

told_no_array : (project : ProjectTree) (o : Option BlockTree) (place : Place) → IsTrue (is_some o) → Told project (no_array_where o place)
told_no_array project None place s = true≢false (sym s)
told_no_array project (Some b) place s = tt

told_of_type : (scope : Scope) (ty : TypeTree) (key : List ℕ) (place : Place) → BlocksTold scope.project → TypeTold scope.project ty
    → Told scope.project (field_of_type scope ty key place)
told_of_type scope (plain ty) key place ts t = tt
told_of_type scope (array low high of at) key place ts t = tt
told_of_type scope (structure vars) key place ts t =
    told_field_among scope.project (fields_of vars) key place (told_structure scope.project vars t)
told_of_type scope (named name at) key place ts t =
    told_within scope.project (type_named scope.project name.key) key place (named_told scope.project name.key ts) t
told_of_type scope unread key place ts t = tt

pub told_of_kind : (scope : Scope) (kind : BlockKind) (vars : List VarTree) (key : List ℕ) (place : Place)
    → BlocksTold scope.project → AllByRecursion (VarTold scope.project) vars → KindTold scope.project kind → Told scope.project
    (field_of_kind scope kind vars key place)
told_of_kind scope Fb vars key place ts t k = tt
told_of_kind scope Fc vars key place ts t k = tt
told_of_kind scope Ob vars key place ts t k = tt
told_of_kind scope (Db None) vars key place ts t k = told_field_among scope.project vars key place (told_own scope.project vars t)
told_of_kind scope (Db (Some of)) vars key place ts t k =
    told_within scope.project (type_named scope.project of.0.key) key place (named_told scope.project of.0.key ts) k
told_of_kind scope Udt vars key place ts t k = tt

told_field : (scope : Scope) (thing : Thing) (key : List ℕ) (place : Place) → BlocksTold scope.project → Told scope.project thing
    → Told scope.project (field_of_thing scope thing key place)
told_field scope (part ty) key place ts t = told_of_type scope ty key place ts t
told_field scope (constant ty) key place ts t = tt
told_field scope (a_block b) key place ts t = told_of_kind scope b.kind b.vars key place ts t.0 t.1
told_field scope (no_name at) key place ts t = tt
told_field scope (no_array at) key place ts t = tt
told_field scope (a_date at) key place ts t = tt
told_field scope untold key place ts t = t

told_element : (scope : Scope) (thing : Thing) (place : Place) → Told scope.project thing → Told scope.project
    (element_of_thing scope thing place)
told_element scope (part (plain ty)) place t = tt
told_element scope (part (array low high of at)) place t = t
told_element scope (part (structure vars)) place t = tt
told_element scope (part (named name at)) place t = told_no_array scope.project (type_named scope.project name.key) place t
told_element scope (part unread) place t = tt
told_element scope (constant ty) place t = tt
told_element scope (a_block b) place t = tt
told_element scope (no_name at) place t = tt
told_element scope (no_array at) place t = tt
told_element scope (a_date at) place t = tt
told_element scope untold place t = t

pub told_dated : (project : ProjectTree) (last : Place) (thing : Thing) → Told project thing → Told project (dated last thing)
told_dated project last (part (plain ty)) t = tt
told_dated project last (part (array low high of at)) t =
    told_if project (is_date of) (a_date last) (part (array low high of at)) tt t
told_dated project last (part (structure vars)) t = t
told_dated project last (part (named name at)) t = t
told_dated project last (part unread) t = tt
told_dated project last (constant ty) t = t
told_dated project last (a_block b) t = t
told_dated project last (no_name at) t = tt
told_dated project last (no_array at) t = tt
told_dated project last (a_date at) t = tt
told_dated project last untold t = t

pub told_at : (scope : Scope) (thing : Thing) (step : StepTree) → BlocksTold scope.project → Told scope.project thing → Told scope.project
    (thing_at scope thing step)
told_at scope thing (field name place) ts t = told_field scope thing name.key place ts t
told_at scope thing (index e place) ts t = told_element scope thing _ t

-- what the steps come to is told, and is no date that isn't noticed
pub told_behind : (scope : Scope) (last : Place) (thing : Thing) (more : StepTrees) → BlocksTold scope.project → Told scope.project thing
    → Told scope.project (thing_behind scope last thing more)
told_behind scope last thing no_steps ts t = told_dated scope.project last thing t
told_behind scope last thing (steps step more) ts t =
    told_behind scope (last_behind last step) (thing_at scope (dated last thing) step) more ts
    (told_at scope (dated last thing) step ts (told_dated scope.project last thing t))
