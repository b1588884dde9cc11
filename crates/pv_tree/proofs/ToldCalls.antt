-- Where each type that is named is declared, a call comes to a block or to a fault that has a place. So in a project that keeps the
-- rules it runs a block.
use Rattle.std.proofs.Common.{◌≡◌, ℕ, List, [], ◌∷◌, Bool, true, false, cond, inl, inr, refl, sym}
use Rattle.std.proofs.lemmas.Bool.{true≢false}
use Rattle.std.specs.List.{AllByRecursion}
use Rattle.std.specs.Prelude.{IsTrue, is_some, Option, Some, None, if◌then◌else◌, ⊤}
use Rattle.pv_place.specs.declared.place.Place.{Place}
use Rattle.pv_types.specs.declared.name.Name.{Name}
use Rattle.pv_types.specs.Tree.{TypeTree, plain, array, structure, named, unread, VarTree, var}
use Rattle.pv_types.specs.View.{declared_type_of}
use Rattle.pv_tree.specs.declared.block.BlockKind.{BlockKind}
use Rattle.pv_tree.specs.declared.block.BlockKind.TheVariants.{Fb, Fc, Ob, Db, Udt}
use Rattle.pv_tree.specs.Tree.{PlacedName, BlockTree}
use Rattle.pv_tree.specs.Scopes.{ProjectTree, Scope, has_key, first_block, first_var, type_named, is_fb}
use Rattle.pv_tree.specs.Callees.{How, as_statement, as_value, by_call, by_uc, is_by_stl, CallSite, is_word, Called, a_variable, block_called, no_callee, undeclared, called_where, called_block, called_name, Callee, runs, not_declared, not_callable, unknown, may_be_instance, function_runs, instance_runs, instance_of, variable_runs, block_runs, one_name_runs, data_block_runs, second_name_runs, first_name_runs, callee_of}
use Rattle.pv_tree.specs.Rules.{KeepsRules, missing_name, not_callable as not_called}
use Rattle.pv_tree.specs.RuleLaws.{RunsOne, CallsRun}
use Rattle.pv_tree.proofs.ToldThings.{TypeTold, VarTold, KindTold, BlockTold, OptionTold, found_block}
use Rattle.pv_tree.proofs.Upwards.{ScopeTold}
use Rattle.pv_tree.proofs.KeptBlocks.{scope_told}

-- ---- what is told

abbrev CalleeTold : Callee → Type 0
CalleeTold (runs b) = ⊤
CalleeTold (not_declared place) = ⊤
CalleeTold (not_callable place) = ⊤
CalleeTold unknown = ⊥

abbrev CalledTold : ProjectTree → Called → Type 0
CalledTold project (a_variable v) = VarTold project v
CalledTold project (block_called b) = BlockTold project b
CalledTold project no_callee = ⊤
CalledTold project undeclared = ⊤

callee_if : (c : Bool) (x y : Callee) → CalleeTold x → CalleeTold y → CalleeTold (if c then x else y)
callee_if true x y t u = t
callee_if false x y t u = u

called_if : (project : ProjectTree) (c : Bool) (x y : Called) → CalledTold project x → CalledTold project y → CalledTold project
    (if c then x else y)
called_if project true x y t u = t
called_if project false x y t u = u

-- ---- called names

found : (project : ProjectTree) (b : Bool) (v : VarTree) (rest : Option VarTree) (other : Called) → VarTold project v → CalledTold project
    (called_where rest other) → CalledTold project (called_where (cond b (Some v) rest) other)
found project true v rest other t u = t
found project false v rest other t u = u

called_var : (project : ProjectTree) (vars : List VarTree) (key : List ℕ) (other : Called) → AllByRecursion (VarTold project) vars
    → CalledTold project other → CalledTold project (called_where (first_var vars key) other)
called_var project [] key other ts t = t
called_var project (var name section ty start place ∷ more) key other ts t =
    found project (has_key key name) (var name section ty start place) (first_var more key) other ts.0
    (called_var project more key other ts.1 t)

called_as : (project : ProjectTree) (o : Option BlockTree) (other : Called) → OptionTold project o → CalledTold project other
    → CalledTold project (called_block o other)
called_as project None other t u = u
called_as project (Some b) other t u = t

called_told : (scope : Scope) (told : ScopeTold scope) (name : Name) (hash : Bool) → CalledTold scope.project (called_name scope name hash)
called_told scope told name hash = called_if scope.project (is_word name) _ _
    (called_var scope.project scope.block.vars name.key _ told.vars
    (called_if scope.project _ no_callee _ tt (called_if scope.project hash undeclared _ tt
    (called_as scope.project (first_block scope.project.blocks name.key) undeclared there tt))))
    (called_if scope.project hash _ _ (called_if scope.project _ no_callee undeclared tt tt)
    (called_as scope.project (first_block scope.project.blocks name.key) _ there
    (called_if scope.project _ no_callee undeclared tt tt)))
  where
    there : OptionTold scope.project (first_block scope.project.blocks name.key)
    there = found_block scope.project scope.project.blocks name.key told.blocks

-- ---- what they run

function_told : (how : How) (b : BlockTree) (place : Place) → CalleeTold (function_runs how b place)
function_told as_statement b place = tt
function_told as_value b place = callee_if (is_some b.value) (runs b) (not_callable place) tt tt
function_told by_call b place = tt
function_told by_uc b place = tt

instance_told : (how : How) (b : BlockTree) (place : Place) → CalleeTold (instance_runs how b place)
instance_told as_statement b place = callee_if (is_fb b.kind) (runs b) (not_callable place) tt tt
instance_told as_value b place = tt
instance_told by_call b place = callee_if (is_fb b.kind) (runs b) (not_callable place) tt tt
instance_told by_uc b place = tt

typed_told : (how : How) (o : Option BlockTree) (place : Place) → IsTrue (is_some o) → CalleeTold (elim o [
  | None ↦ unknown
  | Some b ↦ instance_runs how b place
])
typed_told how None place t = true≢false (sym t)
typed_told how (Some b) place t = instance_told how b place

variable_told : (scope : Scope) (how : How) (ty : TypeTree) (place : Place) → TypeTold scope.project ty → CalleeTold
    (variable_runs scope how ty place)
variable_told scope how (plain ty) place t = tt
variable_told scope how (array low high of at) place t = tt
variable_told scope how (structure vars) place t = tt
variable_told scope how (named name at) place t = typed_told how (type_named scope.project name.key) place t
variable_told scope how unread place t = tt

block_told : (scope : Scope) (how : How) (kind : BlockKind) (b : BlockTree) (place : Place) → KindTold scope.project kind → CalleeTold
    (block_runs scope how kind b place)
block_told scope how Fb b place t = tt
block_told scope how Fc b place t = function_told how b place
block_told scope how Ob b place t = tt
block_told scope how (Db None) b place t = tt
block_told scope how (Db (Some of)) b place t = callee_if (is_by_stl how) (not_callable place) (instance_of scope how of.0.key place) tt
    (typed_told how (type_named scope.project of.0.key) place t)
block_told scope how Udt b place t = tt

refused_told : (c : Callee) (place : Place) → CalleeTold c → CalleeTold (elim c [
  | runs b ↦ not_callable place
  | not_declared p ↦ not_callable place
  | not_callable p ↦ not_callable place
  | unknown ↦ unknown
])
refused_told (runs b) place t = tt
refused_told (not_declared p) place t = tt
refused_told (not_callable p) place t = tt
refused_told unknown place t = t

one_told : (scope : Scope) (how : How) (c : Called) (place : Place) → CalledTold scope.project c → CalleeTold
    (one_name_runs scope how c place)
one_told scope how (a_variable v) place t =
    callee_if (may_be_instance scope.block v) (variable_runs scope how (declared_type_of v) place) _
    (variable_told scope how (declared_type_of v) place t.0)
    (refused_told (variable_runs scope how (declared_type_of v) place) place (variable_told scope how (declared_type_of v) place t.0))
one_told scope how (block_called b) place t = block_told scope how b.kind b place t.1
one_told scope how no_callee place t = tt
one_told scope how undeclared place t = tt

data_told : (how : How) (fb : BlockTree) (first place : Place) (o : Option BlockTree) → IsTrue (is_some o) → CalleeTold (elim o [
  | None ↦ unknown
  | Some b ↦ if has_key b.name.key fb.name then instance_runs how fb first else not_callable place
])
data_told how fb first place None t = true≢false (sym t)
data_told how fb first place (Some b) t =
    callee_if (has_key b.name.key fb.name) (instance_runs how fb first) (not_callable place) (instance_told how fb first) tt

kind_told : (scope : Scope) (how : How) (fb : BlockTree) (first : Place) (kind : BlockKind) (place : Place) → KindTold scope.project kind
    → CalleeTold (data_block_runs scope how fb first kind place)
kind_told scope how fb first Fb place t = tt
kind_told scope how fb first Fc place t = tt
kind_told scope how fb first Ob place t = tt
kind_told scope how fb first (Db None) place t = tt
kind_told scope how fb first (Db (Some of)) place t = data_told how fb first place (type_named scope.project of.0.key) t
kind_told scope how fb first Udt place t = tt

second_told : (scope : Scope) (how : How) (fb : BlockTree) (first : Place) (c : Called) (place : Place) → CalledTold scope.project c
    → CalleeTold (second_name_runs scope how fb first c place)
second_told scope how fb first (a_variable v) place t = tt
second_told scope how fb first (block_called b) place t = kind_told scope how fb first b.kind place t.1
second_told scope how fb first no_callee place t = tt
second_told scope how fb first undeclared place t = tt

first_told : (scope : Scope) (how : How) (c : Called) (place : Place) (second : Called) (second_place : Place)
    → CalledTold scope.project second → CalleeTold (first_name_runs scope how c place second second_place)
first_told scope how (a_variable v) place second second_place t = tt
first_told scope how (block_called fb) place second second_place t =
    callee_if (is_fb fb.kind) (second_name_runs scope how fb place second second_place) (not_callable place)
    (second_told scope how fb place second second_place t) tt
first_told scope how no_callee place second second_place t = tt
first_told scope how undeclared place second second_place t = tt

callee_told : (scope : Scope) (told : ScopeTold scope) (s : CallSite) → CalleeTold (callee_of scope s)
callee_told scope told s = named_by s.call.base
  where
    named_by : (o : Option PlacedName) → CalleeTold (elim o [
      | None ↦ one_name_runs scope s.how (called_name scope s.call.name s.call.hash) s.call.name_place
      | Some second ↦ first_name_runs scope s.how (called_name scope s.call.name s.call.hash) s.call.name_place
          (called_name scope second.0 false) second.1
    ])
    named_by None = one_told scope s.how (called_name scope s.call.name s.call.hash) s.call.name_place
        (called_told scope told s.call.name s.call.hash)
    named_by (Some second) = first_told scope s.how (called_name scope s.call.name s.call.hash) s.call.name_place
        (called_name scope second.0 false) second.1 (called_told scope told second.0 false)

-- ---- in a project that keeps the rules

run_one : (c : Callee) → ((at : Place) → c ≡ not_declared at → ⊥) → ((at : Place) → c ≡ not_callable at → ⊥) → CalleeTold c → RunsOne c
run_one (runs b) f g t = tt
run_one (not_declared p) f g t = f p refl
run_one (not_callable p) f g t = g p refl
run_one unknown f g t = t

pub calls_run : (project : ProjectTree) → KeepsRules project → CallsRun project
calls_run project keeps = record {
  runs_one = λ block s b c. run_one (callee_of (record { project = project; block = block }) s)
      (λ at is. keeps missing_name at (b.0, block, b.1, b.2, (inr (inl (c.0, s, c.1, c.2, is)))))
      (λ at is. keeps not_called at (b.0, block, b.1, b.2, (inl (c.0, s, c.1, c.2, is))))
      (callee_told (record { project = project; block = block }) (scope_told project keeps block b) s);
}
