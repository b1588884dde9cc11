-- What names mean: where they mean nothing, the place is one of theirs. And what a call comes to.
use Rattle.std.proofs.Common.{ℕ, List, map, Option, Some, None}
use Rattle.std.specs.Prelude.{is_some, Bool as Truth, true, false, if◌then◌else◌}
use Rattle.std.specs.List.{AllByRecursion}
use Rattle.pv_word.specs.declared.types.Ty.{Ty}
use Rattle.pv_place.specs.declared.place.Place.{Place}
use Rattle.pv_types.specs.Tree.{TypeTree, plain, array, structure, named, unread, VarTree}
use Rattle.pv_types.specs.View.{fields_of, section_of, declared_type_of}
use Rattle.pv_tree.specs.declared.block.BlockKind.{BlockKind}
use Rattle.pv_tree.specs.declared.block.BlockKind.TheVariants.{Fb, Fc, Ob, Db, Udt}
use Rattle.pv_tree.specs.declared.expr.Root.{Root}
use Rattle.pv_tree.specs.declared.expr.Root.TheVariants.{Local, Named, Area}
use Rattle.pv_tree.specs.Tree.{PlacedName, OperandTree, operand, StepTree, field, index, StepTrees, no_steps, steps, BlockTree}
use Rattle.pv_tree.specs.Scopes.{SymbolTree, ProjectTree, Scope, first_block, first_var, first_symbol, is_const, is_fb, type_named, own_value, has_key}
use Rattle.pv_tree.specs.Things.{Thing, part, constant, a_block, no_name, no_array, a_date, untold, first_place, type_of_bits, is_address, thing_of_block, thing_of_value, thing_of_variable, thing_of_word, symbol_where, quoted_value, thing_of_name, thing_of_root, fields_of_type, field_where, field_within, field_of_type, field_of_kind, field_of_thing, no_array_where, element_of_type, element_of_thing, is_date, dated_type, dated, thing_at, last_behind, thing_behind, root_place}
use Rattle.pv_tree.specs.Callees.{How, as_statement, as_value, by_call, by_uc, CallSite, is_by_stl, Called, a_variable, block_called, no_callee, undeclared, called_name, Callee, runs, not_declared, not_callable, unknown, may_be_instance, function_runs, instance_runs, instance_of, variable_runs, block_runs, one_name_runs, data_block_runs, second_name_runs, first_name_runs, callee_of}
use Rattle.pv_tree.specs.Parts.{Path, path_of, start_thing, path_of_start, thing_of_path, IndexAt, indexes_of_step, indexes_behind, indexes_of, paths_of, operands_of, starts_of}
use Rattle.pv_laws_places.specs.Kept.{EachOfName, EachOfRoot, EachOfExpr, EachOfOperand, EachOfSteps, EachOfStep, EachOfStart, EachOfBlock}
use Rattle.pv_laws_places.proofs.Lists.{each-append, each-map}
use Rattle.pv_laws_places.proofs.Parts.{place-of-first, operands, body-starts, SiteHas}

-- ---- things

abbrev pub EachOfThing : (Place → Type 0) → Thing → Type 0
EachOfThing P (part ty) = Unit {0}
EachOfThing P (constant ty) = Unit {0}
EachOfThing P (a_block b) = Unit {0}
EachOfThing P (no_name at) = P at
EachOfThing P (no_array at) = P at
EachOfThing P (a_date at) = P at
EachOfThing P untold = Unit {0}

thing-if : (P : Place → Type 0) (b : Truth) (x y : Thing) → EachOfThing P x → EachOfThing P y → EachOfThing P (if b then x else y)
thing-if P true x y a c = a
thing-if P false x y a c = c

var-thing : (P : Place → Type 0) (o : Option VarTree) (other : Thing) → EachOfThing P other → EachOfThing P (thing_of_variable o other)
var-thing P None other a = a
var-thing P (Some v) other a = thing-if P (is_const (section_of v)) (constant (declared_type_of v)) (part (declared_type_of v)) tt tt

value-thing : (P : Place → Type 0) (o : Option Ty) (other : Thing) → EachOfThing P other → EachOfThing P (thing_of_value o other)
value-thing P None other a = a
value-thing P (Some ty) other a = tt

block-thing : (P : Place → Type 0) (o : Option BlockTree) (other : Thing) → EachOfThing P other → EachOfThing P (thing_of_block o other)
block-thing P None other a = a
block-thing P (Some b) other a = tt

symbol-thing : (P : Place → Type 0) (o : Option SymbolTree) (place : Place) → P place → EachOfThing P (symbol_where o place)
symbol-thing P None place a = a
symbol-thing P (Some s) place a = tt

pub word-thing : (P : Place → Type 0) (scope : Scope) (key : List ℕ) (hash : Truth) (place : Place) → P place
    → EachOfThing P (thing_of_word scope key hash place)
word-thing P scope key hash place a =
    let alone : Thing = thing_of_block (first_block scope.project.blocks key) (no_name place) in
    let last : Thing = if hash then no_name place else alone in
    var-thing P (first_var scope.block.vars key) (thing_of_value (own_value scope.block key hash) last)
    (value-thing P (own_value scope.block key hash) last
    (thing-if P hash (no_name place) alone a (block-thing P (first_block scope.project.blocks key) (no_name place) a)))

name-thing : (P : Place → Type 0) (scope : Scope) (key : List ℕ) (place : Place) → P place → EachOfThing P (thing_of_name scope key place)
name-thing P scope key place a =
    let last : Thing = symbol_where (first_symbol scope.project.symbols key) place in
    value-thing P (quoted_value scope.block key) (thing_of_block (first_block scope.project.blocks key) last)
    (block-thing P (first_block scope.project.blocks key) last (symbol-thing P (first_symbol scope.project.symbols key) place a))

root-thing : (P : Place → Type 0) (scope : Scope) (root : Root) (place : Place) → P place → EachOfRoot P root
    → EachOfThing P (thing_of_root scope root place)
root-thing P scope (Local name hash place) first a b = word-thing P scope name.key hash place b
root-thing P scope (Named name) first a b = name-thing P scope name.key first a
root-thing P scope (Area area bits byte bit) first a b =
    thing-if P (is_address bits byte bit) (part (plain (type_of_bits bits))) untold tt tt

-- ---- steps

field-thing : (P : Place → Type 0) (o : Option VarTree) (place : Place) → P place → EachOfThing P (field_where o place)
field-thing P None place a = a
field-thing P (Some v) place a = tt

within-thing : (P : Place → Type 0) (o : Option BlockTree) (key : List ℕ) (place : Place) → P place → EachOfThing P (field_within o key place)
within-thing P None key place a = tt
within-thing P (Some b) key place a = field-thing P (first_var (fields_of_type b) key) place a

type-field : (P : Place → Type 0) (scope : Scope) (ty : TypeTree) (key : List ℕ) (place : Place) → P place
    → EachOfThing P (field_of_type scope ty key place)
type-field P scope (plain ty) key place a = a
type-field P scope (array low high of at) key place a = a
type-field P scope (structure vars) key place a = field-thing P (first_var (fields_of vars) key) place a
type-field P scope (named name at) key place a = within-thing P (type_named scope.project name.key) key place a
type-field P scope unread key place a = a

kind-field : (P : Place → Type 0) (scope : Scope) (kind : BlockKind) (vars : List VarTree) (key : List ℕ) (place : Place) → P place
    → EachOfThing P (field_of_kind scope kind vars key place)
kind-field P scope Fb vars key place a = a
kind-field P scope Fc vars key place a = a
kind-field P scope Ob vars key place a = a
kind-field P scope (Db None) vars key place a = field-thing P (first_var vars key) place a
kind-field P scope (Db (Some type_name)) vars key place a = within-thing P (type_named scope.project type_name.0.key) key place a
kind-field P scope Udt vars key place a = a

thing-field : (P : Place → Type 0) (scope : Scope) (thing : Thing) (key : List ℕ) (place : Place) → EachOfThing P thing → P place
    → EachOfThing P (field_of_thing scope thing key place)
thing-field P scope (part ty) key place t a = type-field P scope ty key place a
thing-field P scope (constant ty) key place t a = a
thing-field P scope (a_block b) key place t a = kind-field P scope b.kind b.vars key place a
thing-field P scope (no_name at) key place t a = t
thing-field P scope (no_array at) key place t a = t
thing-field P scope (a_date at) key place t a = t
thing-field P scope untold key place t a = tt

array-where : (P : Place → Type 0) (o : Option BlockTree) (place : Place) → P place → EachOfThing P (no_array_where o place)
array-where P None place a = tt
array-where P (Some b) place a = a

type-element : (P : Place → Type 0) (scope : Scope) (ty : TypeTree) (place : Place) → P place → EachOfThing P (element_of_type scope ty place)
type-element P scope (plain ty) place a = a
type-element P scope (array low high of at) place a = tt
type-element P scope (structure vars) place a = a
type-element P scope (named name at) place a = array-where P (type_named scope.project name.key) place a
type-element P scope unread place a = a

thing-element : (P : Place → Type 0) (scope : Scope) (thing : Thing) (place : Place) → EachOfThing P thing → P place
    → EachOfThing P (element_of_thing scope thing place)
thing-element P scope (part ty) place t a = type-element P scope ty place a
thing-element P scope (constant ty) place t a = a
thing-element P scope (a_block b) place t a = a
thing-element P scope (no_name at) place t a = t
thing-element P scope (no_array at) place t a = t
thing-element P scope (a_date at) place t a = t
thing-element P scope untold place t a = tt

type-dated : (P : Place → Type 0) (name : Place) (ty : TypeTree) → P name → EachOfThing P (dated_type name ty)
type-dated P name unread a = a
type-dated P name (plain ty) a = tt
type-dated P name (array low high of at) a = thing-if P (is_date of) (a_date name) (part (array low high of at)) a tt
type-dated P name (structure vars) a = tt
type-dated P name (named n at) a = tt

pub thing-dated : (P : Place → Type 0) (name : Place) (thing : Thing) → P name → EachOfThing P thing → EachOfThing P (dated name thing)
thing-dated P name (part ty) a t = type-dated P name ty a
thing-dated P name (constant ty) a t = tt
thing-dated P name (a_block b) a t = tt
thing-dated P name (no_name at) a t = t
thing-dated P name (no_array at) a t = t
thing-dated P name (a_date at) a t = t
thing-dated P name untold a t = tt

step-thing : (P : Place → Type 0) (scope : Scope) (thing : Thing) (step : StepTree) → EachOfThing P thing → EachOfStep P step
    → EachOfThing P (thing_at scope thing step)
step-thing P scope thing (field name place) t a = thing-field P scope thing name.key place t a
step-thing P scope thing (index e place) t a = thing-element P scope thing (first_place e) t (place-of-first P e a.1)

step-last : (P : Place → Type 0) (last : Place) (step : StepTree) → P last → EachOfStep P step → P (last_behind last step)
step-last P last (field name place) l a = a
step-last P last (index e place) l a = l

behind-thing : (P : Place → Type 0) (scope : Scope) (last : Place) (thing : Thing) (more : StepTrees) → P last → EachOfThing P thing
    → EachOfSteps P more → EachOfThing P (thing_behind scope last thing more)
behind-thing P scope last thing no_steps l t a = thing-dated P last thing l t
behind-thing P scope last thing (steps step more) l t a =
    behind-thing P scope (last_behind last step) (thing_at scope (dated last thing) step) more (step-last P last step l a.0)
    (step-thing P scope (dated last thing) step (thing-dated P last thing l t) a.0) a.1

-- ---- paths

pub record PathHas (P : Place → Type 0) (p : Path) : Type 0 where
  pub its_from : EachOfThing P p.from
  pub its_last : P p.last
  pub its_more : EachOfSteps P p.more

root-last : (P : Place → Type 0) (root : Root) (place : Place) → P place → EachOfRoot P root → P (root_place root place)
root-last P (Local name hash place) first a b = b
root-last P (Named name) first a b = a
root-last P (Area area bits byte bit) first a b = a

pub operand-path : (P : Place → Type 0) (scope : Scope) (o : OperandTree) → EachOfOperand P o → PathHas P (path_of scope o)
operand-path P scope (operand root more place) a = record {
  its_from = root-thing P scope root place a.0 a.1.0;
  its_last = root-last P root place a.0 a.1.0;
  its_more = a.1.1;
}

start-root : (P : Place → Type 0) (scope : Scope) (root : Root) → EachOfRoot P root → EachOfThing P (start_thing scope root)
start-root P scope (Local name hash place) a = kind-field P scope scope.block.kind scope.block.vars name.key place a
start-root P scope (Named name) a = tt
start-root P scope (Area area bits byte bit) a = tt

pub start-path : (P : Place → Type 0) (scope : Scope) (o : OperandTree) → EachOfOperand P o → PathHas P (path_of_start scope o)
start-path P scope (operand root more place) a = record {
  its_from = start-root P scope root a.1.0;
  its_last = root-last P root place a.0 a.1.0;
  its_more = a.1.1;
}

pub path-thing : (P : Place → Type 0) (scope : Scope) (p : Path) → PathHas P p → EachOfThing P (thing_of_path scope p)
path-thing P scope p a = behind-thing P scope p.last p.from p.more a.its_last a.its_from a.its_more

pub block-paths : (P : Place → Type 0) (project : ProjectTree) (block : BlockTree) → EachOfBlock P block
    → AllByRecursion (PathHas P) (paths_of project block)
block-paths P project block a =
    let scope : Scope = record { project = project; block = block } in
    each-append (PathHas P) (map (path_of scope) (operands_of project block)) (map (λ v. path_of_start scope v.0) (starts_of block.body))
    (each-map (EachOfOperand P) (PathHas P) (path_of scope) (operand-path P scope) (operands_of project block) (operands P project block a))
    (each-map (EachOfStart P) (PathHas P) (λ v. path_of_start scope v.0) (λ v b. start-path P scope v.0 b.0) (starts_of block.body)
    (body-starts P block.body a.its_body))

-- ---- indexes

abbrev pub IndexHas : (Place → Type 0) → IndexAt → Type 0
IndexHas P i = EachOfExpr P i.index

step-indexes : (P : Place → Type 0) (thing : Thing) (step : StepTree) → EachOfStep P step → AllByRecursion (IndexHas P) (indexes_of_step thing step)
step-indexes P thing (field name place) a = tt
step-indexes P thing (index e place) a = (a.1, tt)

behind-indexes : (P : Place → Type 0) (scope : Scope) (last : Place) (thing : Thing) (more : StepTrees) → EachOfSteps P more
    → AllByRecursion (IndexHas P) (indexes_behind scope last thing more)
behind-indexes P scope last thing no_steps a = tt
behind-indexes P scope last thing (steps step more) a =
    each-append (IndexHas P) (indexes_of_step (dated last thing) step)
    (indexes_behind scope (last_behind last step) (thing_at scope (dated last thing) step) more) (step-indexes P (dated last thing) step a.0)
    (behind-indexes P scope (last_behind last step) (thing_at scope (dated last thing) step) more a.1)

pub path-indexes : (P : Place → Type 0) (scope : Scope) (p : Path) → PathHas P p → AllByRecursion (IndexHas P) (indexes_of scope p)
path-indexes P scope p a = behind-indexes P scope p.last p.from p.more a.its_more

-- ---- what a call comes to

abbrev pub EachOfCallee : (Place → Type 0) → Callee → Type 0
EachOfCallee P (runs b) = Unit {0}
EachOfCallee P (not_declared at) = P at
EachOfCallee P (not_callable at) = P at
EachOfCallee P unknown = Unit {0}

callee-if : (P : Place → Type 0) (b : Truth) (x y : Callee) → EachOfCallee P x → EachOfCallee P y → EachOfCallee P (if b then x else y)
callee-if P true x y a c = a
callee-if P false x y a c = c

function-callee : (P : Place → Type 0) (how : How) (b : BlockTree) (place : Place) → P place → EachOfCallee P (function_runs how b place)
function-callee P as_statement b place a = tt
function-callee P as_value b place a = callee-if P (is_some b.value) (runs b) (not_callable place) tt a
function-callee P by_call b place a = tt
function-callee P by_uc b place a = tt

instance-callee : (P : Place → Type 0) (how : How) (b : BlockTree) (place : Place) → P place → EachOfCallee P (instance_runs how b place)
instance-callee P as_statement b place a = callee-if P (is_fb b.kind) (runs b) (not_callable place) tt a
instance-callee P as_value b place a = a
instance-callee P by_call b place a = callee-if P (is_fb b.kind) (runs b) (not_callable place) tt a
instance-callee P by_uc b place a = a

of-instance : (P : Place → Type 0) (scope : Scope) (how : How) (key : List ℕ) (place : Place) → P place → EachOfCallee P (instance_of scope how key place)
of-instance P scope how key place a = lead (type_named scope.project key)
  where
    lead : (o : Option BlockTree) → EachOfCallee P (elim o [ None ↦ unknown | Some b ↦ instance_runs how b place ])
    lead None = tt
    lead (Some b) = instance-callee P how b place a

variable-callee : (P : Place → Type 0) (scope : Scope) (how : How) (ty : TypeTree) (place : Place) → P place
    → EachOfCallee P (variable_runs scope how ty place)
variable-callee P scope how (plain ty) place a = a
variable-callee P scope how (array low high of at) place a = a
variable-callee P scope how (structure vars) place a = a
variable-callee P scope how (named name at) place a = of-instance P scope how name.key place a
variable-callee P scope how unread place a = a

block-callee : (P : Place → Type 0) (scope : Scope) (how : How) (kind : BlockKind) (b : BlockTree) (place : Place) → P place
    → EachOfCallee P (block_runs scope how kind b place)
block-callee P scope how Fb b place a = a
block-callee P scope how Fc b place a = function-callee P how b place a
block-callee P scope how Ob b place a = a
block-callee P scope how (Db None) b place a = a
block-callee P scope how (Db (Some of)) b place a =
    callee-if P (is_by_stl how) (not_callable place) (instance_of scope how of.0.key place) a (of-instance P scope how of.0.key place a)
block-callee P scope how Udt b place a = a

one-callee : (P : Place → Type 0) (scope : Scope) (how : How) (called : Called) (place : Place) → P place
    → EachOfCallee P (one_name_runs scope how called place)
one-callee P scope how (a_variable v) place a =
    lead (may_be_instance scope.block v) (variable_runs scope how (declared_type_of v) place)
    (variable-callee P scope how (declared_type_of v) place a)
  where
    lead : (b : Truth) (c : Callee) → EachOfCallee P c → EachOfCallee P (if b then c else elim c [
      | runs b ↦ not_callable place
      | not_declared p ↦ not_callable place
      | not_callable p ↦ not_callable place
      | unknown ↦ unknown
    ])
    lead true c is = is
    lead false (runs b) is = a
    lead false (not_declared p) is = a
    lead false (not_callable p) is = a
    lead false unknown is = tt
one-callee P scope how (block_called b) place a = block-callee P scope how b.kind b place a
one-callee P scope how no_callee place a = a
one-callee P scope how undeclared place a = a

data-callee : (P : Place → Type 0) (scope : Scope) (how : How) (fb : BlockTree) (first : Place) (kind : BlockKind) (place : Place) → P first → P place
    → EachOfCallee P (data_block_runs scope how fb first kind place)
data-callee P scope how fb first Fb place f a = a
data-callee P scope how fb first Fc place f a = a
data-callee P scope how fb first Ob place f a = a
data-callee P scope how fb first (Db None) place f a = a
data-callee P scope how fb first (Db (Some of)) place f a = lead (type_named scope.project of.0.key)
  where
    lead : (o : Option BlockTree) → EachOfCallee P (elim o [
      | None ↦ unknown
      | Some b ↦ if has_key b.name.key fb.name then instance_runs how fb first else not_callable place
    ])
    lead None = tt
    lead (Some b) =
        callee-if P (has_key b.name.key fb.name) (instance_runs how fb first) (not_callable place) (instance-callee P how fb first f) a
data-callee P scope how fb first Udt place f a = a

second-callee : (P : Place → Type 0) (scope : Scope) (how : How) (fb : BlockTree) (first : Place) (called : Called) (place : Place) → P first → P place
    → EachOfCallee P (second_name_runs scope how fb first called place)
second-callee P scope how fb first (a_variable v) place f a = a
second-callee P scope how fb first (block_called b) place f a = data-callee P scope how fb first b.kind place f a
second-callee P scope how fb first no_callee place f a = a
second-callee P scope how fb first undeclared place f a = a

first-callee : (P : Place → Type 0) (scope : Scope) (how : How) (called : Called) (place : Place) (second : Called) (at : Place) → P place → P at
    → EachOfCallee P (first_name_runs scope how called place second at)
first-callee P scope how (a_variable v) place second at f a = f
first-callee P scope how (block_called fb) place second at f a =
    callee-if P (is_fb fb.kind) (second_name_runs scope how fb place second at) (not_callable place)
    (second-callee P scope how fb place second at f a) f
first-callee P scope how no_callee place second at f a = f
first-callee P scope how undeclared place second at f a = f

pub site-callee : (P : Place → Type 0) (scope : Scope) (s : CallSite) → SiteHas P s → EachOfCallee P (callee_of scope s)
site-callee P scope s a = lead s.call.base a.its_base
  where
    lead : (o : Option PlacedName) → EachOfName P o → EachOfCallee P (elim o [
      | None ↦ one_name_runs scope s.how (called_name scope s.call.name s.call.hash) s.call.name_place
      | Some second ↦ first_name_runs scope s.how (called_name scope s.call.name s.call.hash) s.call.name_place
          (called_name scope second.0 false) second.1
    ])
    lead None b = one-callee P scope s.how (called_name scope s.call.name s.call.hash) s.call.name_place a.its_name
    lead (Some second) b = first-callee P scope s.how (called_name scope s.call.name s.call.hash) s.call.name_place
        (called_name scope second.0 false) second.1 a.its_name b
