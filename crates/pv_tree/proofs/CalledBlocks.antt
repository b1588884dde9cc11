-- The block that a call runs is the first of its name, and so one of the project's.
use Rattle.std.proofs.Common.{◌≡◌, ℕ, List, [], ◌∷◌, Bool, true, false, cond, Option, Some, None, refl, sym, subst, ap, ◌∙◌, arith}
use Rattle.std.proofs.lemmas.List.Elements.{Contains-append_right}
use Rattle.std.proofs.lemmas.Slice.Eq.{bytes_eq-Decides}
use Rattle.std.specs.Prelude.{⊤, Contains, is_some, if◌then◌else◌, option_and_then}
use Rattle.pv_place.specs.declared.place.Place.{Place}
use Rattle.pv_types.specs.declared.name.Name.{Name}
use Rattle.pv_types.specs.Tree.{TypeTree, plain, array, structure, named, unread, VarTree}
use Rattle.pv_types.specs.View.{declared_type_of}
use Rattle.pv_tree.specs.declared.block.BlockKind.{BlockKind}
use Rattle.pv_tree.specs.declared.block.BlockKind.TheVariants.{Fb, Fc, Ob, Db, Udt}
use Rattle.pv_tree.specs.Tree.{PlacedName, BlockTree}
use Rattle.pv_tree.specs.Scopes.{ProjectTree, Scope, has_key, first_block, first_var, is_fb, is_type, block_where, type_named}
use Rattle.pv_tree.specs.Callees.{How, as_statement, as_value, by_call, by_uc, is_by_stl, CallSite, is_word, Called, a_variable, block_called, no_callee, undeclared, called_where, called_block, called_name, Callee, runs, not_declared, not_callable, unknown, may_be_instance, function_runs, instance_runs, instance_of, variable_runs, block_runs, one_name_runs, data_block_runs, second_name_runs, first_name_runs, callee_of}

-- P holds of what there is, and of what is run
abbrev IsAll : {X : Type 0} → (X → Type 0) → Option X → Type 0
IsAll P None = ⊤
IsAll P (Some x) = P x

abbrev RunsSuch : (BlockTree → Type 0) → Callee → Type 0
RunsSuch P (runs b) = P b
RunsSuch P (not_declared place) = ⊤
RunsSuch P (not_callable place) = ⊤
RunsSuch P unknown = ⊤

-- ---- looked up blocks

abbrev Is : ProjectTree → BlockTree → Type 0
Is project b = first_block project.blocks b.name.key ≡ Some b

-- what is found of a key has it, and is what is found of its own
same_found : (blocks : List BlockTree) (key other : List ℕ) → key ≡ other → first_block blocks key ≡ first_block blocks other
same_found blocks key other e = ap (first_block blocks) e

found_own : (key : List ℕ) (blocks : List BlockTree) → IsAll (λ b. key ≡ b.name.key) (first_block blocks key)
found_own key [] = tt
found_own key (b ∷ more) = lead (has_key key b.name) (λ on. (bytes_eq-Decides key b.name.key).0 on) (found_own key more) refl
  where
    lead : (t : Bool) → (has_key key b.name ≡ true → key ≡ b.name.key) → IsAll (λ c. key ≡ c.name.key) (first_block more key)
        → has_key key b.name ≡ t → IsAll (λ c. key ≡ c.name.key) (cond t (Some b) (first_block more key))
    lead true on rest is = on is
    lead false on rest is = rest

block-is : (project : ProjectTree) (key : List ℕ) → IsAll (Is project) (first_block project.blocks key)
block-is project key = own (first_block project.blocks key) refl (found_own key project.blocks)
  where
    own : (o : Option BlockTree) → first_block project.blocks key ≡ o → IsAll (λ b. key ≡ b.name.key) o → IsAll (Is project) o
    own None is all = tt
    own (Some b) is all = sym (same_found project.blocks key b.name.key all) ∙ is

type-is : (project : ProjectTree) (key : List ℕ) → IsAll (Is project) (type_named project key)
type-is project key = lead (first_block project.blocks key) (block-is project key)
  where
    kind : (t : Bool) (b : BlockTree) → Is project b → IsAll (Is project) (if t then Some b else None)
    kind true b is = is
    kind false b is = tt

    lead : (o : Option BlockTree) → IsAll (Is project) o → IsAll (Is project) (option_and_then (block_where (λ b. is_type b.kind)) o)
    lead None is = tt
    lead (Some b) is = kind (is_type b.kind) b is

-- ---- what a call runs

abbrev CalledIs : ProjectTree → Called → Type 0
CalledIs project (a_variable v) = ⊤
CalledIs project (block_called b) = Is project b
CalledIs project no_callee = ⊤
CalledIs project undeclared = ⊤

callee_if : (P : BlockTree → Type 0) (c : Bool) (x y : Callee) → RunsSuch P x → RunsSuch P y → RunsSuch P (if c then x else y)
callee_if P true x y t u = t
callee_if P false x y t u = u

called_if : (project : ProjectTree) (c : Bool) (x y : Called) → CalledIs project x → CalledIs project y → CalledIs project (if c then x else y)
called_if project true x y t u = t
called_if project false x y t u = u

called_var : (project : ProjectTree) (o : Option VarTree) (other : Called) → CalledIs project other → CalledIs project (called_where o other)
called_var project None other t = t
called_var project (Some v) other t = tt

called_as : (project : ProjectTree) (o : Option BlockTree) (other : Called) → IsAll (Is project) o → CalledIs project other
    → CalledIs project (called_block o other)
called_as project None other t u = u
called_as project (Some b) other t u = t

called_is : (scope : Scope) (name : Name) (hash : Bool) → CalledIs scope.project (called_name scope name hash)
called_is scope name hash = called_if scope.project (is_word name) _ _
    (called_var scope.project (first_var scope.block.vars name.key) _
    (called_if scope.project _ no_callee _ tt (called_if scope.project hash undeclared _ tt
    (called_as scope.project (first_block scope.project.blocks name.key) undeclared (block-is scope.project name.key) tt))))
    (called_if scope.project hash _ _ (called_if scope.project _ no_callee undeclared tt tt)
    (called_as scope.project (first_block scope.project.blocks name.key) _ (block-is scope.project name.key)
    (called_if scope.project _ no_callee undeclared tt tt)))

function_is : (P : BlockTree → Type 0) (how : How) (b : BlockTree) (place : Place) → P b → RunsSuch P (function_runs how b place)
function_is P as_statement b place p = p
function_is P as_value b place p = callee_if P (is_some b.value) (runs b) (not_callable place) p tt
function_is P by_call b place p = p
function_is P by_uc b place p = p

instance_is : (P : BlockTree → Type 0) (how : How) (b : BlockTree) (place : Place) → P b → RunsSuch P (instance_runs how b place)
instance_is P as_statement b place p = callee_if P (is_fb b.kind) (runs b) (not_callable place) p tt
instance_is P as_value b place p = tt
instance_is P by_call b place p = callee_if P (is_fb b.kind) (runs b) (not_callable place) p tt
instance_is P by_uc b place p = tt

typed_is : (P : BlockTree → Type 0) (how : How) (o : Option BlockTree) (place : Place) → IsAll P o → RunsSuch P (elim o [
  | None ↦ unknown
  | Some b ↦ instance_runs how b place
])
typed_is P how None place t = tt
typed_is P how (Some b) place t = instance_is P how b place t

variable_is : (scope : Scope) (how : How) (ty : TypeTree) (place : Place) → RunsSuch (Is scope.project) (variable_runs scope how ty place)
variable_is scope how (plain ty) place = tt
variable_is scope how (array low high of at) place = tt
variable_is scope how (structure vars) place = tt
variable_is scope how (named name at) place =
    typed_is (Is scope.project) how (type_named scope.project name.key) place (type-is scope.project name.key)
variable_is scope how unread place = tt

block_is : (scope : Scope) (how : How) (kind : BlockKind) (b : BlockTree) (place : Place) → Is scope.project b
    → RunsSuch (Is scope.project) (block_runs scope how kind b place)
block_is scope how Fb b place t = tt
block_is scope how Fc b place t = function_is (Is scope.project) how b place t
block_is scope how Ob b place t = tt
block_is scope how (Db None) b place t = tt
block_is scope how (Db (Some of)) b place t = callee_if (Is scope.project) (is_by_stl how) (not_callable place) (instance_of scope how of.0.key place) tt
    (typed_is (Is scope.project) how (type_named scope.project of.0.key) place (type-is scope.project of.0.key))
block_is scope how Udt b place t = tt

refused_is : (P : BlockTree → Type 0) (c : Callee) (place : Place) → RunsSuch P (elim c [
  | runs b ↦ not_callable place
  | not_declared p ↦ not_callable place
  | not_callable p ↦ not_callable place
  | unknown ↦ unknown
])
refused_is P (runs b) place = tt
refused_is P (not_declared p) place = tt
refused_is P (not_callable p) place = tt
refused_is P unknown place = tt

one_is : (scope : Scope) (how : How) (c : Called) (place : Place) → CalledIs scope.project c
    → RunsSuch (Is scope.project) (one_name_runs scope how c place)
one_is scope how (a_variable v) place t =
    callee_if (Is scope.project) (may_be_instance scope.block v) (variable_runs scope how (declared_type_of v) place) _
    (variable_is scope how (declared_type_of v) place)
    (refused_is (Is scope.project) (variable_runs scope how (declared_type_of v) place) place)
one_is scope how (block_called b) place t = block_is scope how b.kind b place t
one_is scope how no_callee place t = tt
one_is scope how undeclared place t = tt

data_is : (P : BlockTree → Type 0) (how : How) (fb : BlockTree) (first place : Place) (o : Option BlockTree) → P fb → RunsSuch P (elim o [
  | None ↦ unknown
  | Some b ↦ if has_key b.name.key fb.name then instance_runs how fb first else not_callable place
])
data_is P how fb first place None t = tt
data_is P how fb first place (Some b) t =
    callee_if P (has_key b.name.key fb.name) (instance_runs how fb first) (not_callable place) (instance_is P how fb first t) tt

kind_is : (scope : Scope) (how : How) (fb : BlockTree) (first : Place) (kind : BlockKind) (place : Place) → Is scope.project fb
    → RunsSuch (Is scope.project) (data_block_runs scope how fb first kind place)
kind_is scope how fb first Fb place t = tt
kind_is scope how fb first Fc place t = tt
kind_is scope how fb first Ob place t = tt
kind_is scope how fb first (Db None) place t = tt
kind_is scope how fb first (Db (Some of)) place t = data_is (Is scope.project) how fb first place (type_named scope.project of.0.key) t
kind_is scope how fb first Udt place t = tt

second_is : (scope : Scope) (how : How) (fb : BlockTree) (first : Place) (c : Called) (place : Place) → Is scope.project fb
    → RunsSuch (Is scope.project) (second_name_runs scope how fb first c place)
second_is scope how fb first (a_variable v) place t = tt
second_is scope how fb first (block_called b) place t = kind_is scope how fb first b.kind place t
second_is scope how fb first no_callee place t = tt
second_is scope how fb first undeclared place t = tt

first_is : (scope : Scope) (how : How) (c : Called) (place : Place) (second : Called) (second_place : Place)
    → CalledIs scope.project c → RunsSuch (Is scope.project) (first_name_runs scope how c place second second_place)
first_is scope how (a_variable v) place second second_place t = tt
first_is scope how (block_called fb) place second second_place t =
    callee_if (Is scope.project) (is_fb fb.kind) (second_name_runs scope how fb place second second_place) (not_callable place)
    (second_is scope how fb place second second_place t) tt
first_is scope how no_callee place second second_place t = tt
first_is scope how undeclared place second second_place t = tt

callee_is : (scope : Scope) (s : CallSite) → RunsSuch (Is scope.project) (callee_of scope s)
callee_is scope s = named_by s.call.base
  where
    named_by : (o : Option PlacedName) → RunsSuch (Is scope.project) (elim o [
      | None ↦ one_name_runs scope s.how (called_name scope s.call.name s.call.hash) s.call.name_place
      | Some second ↦ first_name_runs scope s.how (called_name scope s.call.name s.call.hash) s.call.name_place
          (called_name scope second.0 false) second.1
    ])
    named_by None = one_is scope s.how (called_name scope s.call.name s.call.hash) s.call.name_place
        (called_is scope s.call.name s.call.hash)
    named_by (Some second) = first_is scope s.how (called_name scope s.call.name s.call.hash) s.call.name_place
        (called_name scope second.0 false) second.1 (called_is scope s.call.name s.call.hash)

pub run_block : (scope : Scope) (s : CallSite) (b : BlockTree) → callee_of scope s ≡ runs b
    → first_block scope.project.blocks b.name.key ≡ Some b
run_block scope s b e = subst (RunsSuch (Is scope.project)) e (callee_is scope s)

-- ---- among the blocks

among : (key : List ℕ) (blocks all : List BlockTree) → ((b : BlockTree) → Contains blocks b → Contains all b)
    → IsAll (λ b. Contains all b) (first_block blocks key)
among key [] all f = tt
among key (b ∷ more) all f =
    lead (has_key key b.name) (f b (0, omega arith, refl)) (among key more all (λ c is. f c (Contains-append_right (b ∷ []) more c is)))
  where
    lead : (t : Bool) → Contains all b → IsAll (λ c. Contains all c) (first_block more key)
        → IsAll (λ c. Contains all c) (cond t (Some b) (first_block more key))
    lead true is rest = is
    lead false is rest = rest

pub run_block_in : (scope : Scope) (s : CallSite) (b : BlockTree) → callee_of scope s ≡ runs b → Contains scope.project.blocks b
run_block_in scope s b e = subst (IsAll (λ c. Contains scope.project.blocks c)) (run_block scope s b e)
    (among b.name.key scope.project.blocks scope.project.blocks (λ c is. is))
