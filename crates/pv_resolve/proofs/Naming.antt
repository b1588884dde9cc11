-- What names begin with, by what the code finds of each.
use Rattle.std.proofs.Common.{◌≡◌, ℕ, ◌+◌, ◌<◌, ℤ, List, map, Option, Some, None, option_map, true, false, refl, sym, ap, ◌∙◌}
use Rattle.std.specs.Prelude.{Bool as Truth, if◌then◌else◌, bytes_eq, option_and_then}
use Rattle.std.proofs.lemmas.Bool.{true≢false}
use Rattle.std.proofs.lemmas.Option.{none-some}
use Rattle.pv_word.specs.declared.types.Ty.{Ty}
use Rattle.pv_place.specs.declared.place.Place.{Place}
use Rattle.pv_types.specs.declared.name.Name.{Name}
use Rattle.pv_types.specs.declared.declaration.Section.{Section}
use Rattle.pv_types.specs.declared.var.Var.{Var}
use Rattle.pv_types.specs.Tree.{TypeTree, VarTree, structure, named}
use Rattle.pv_types.specs.View.{listed, section_of, start_of, var_tree}
use Rattle.pv_types.specs.Leaves.{start_value}
use Rattle.pv_types.proofs.ForCallers.{fields-of-listed, var_seen}
use Rattle.pv_tree.specs.declared.expr.Area.{Area}
use Rattle.pv_tree.specs.declared.expr.Root.{Root}
use Rattle.pv_tree.specs.declared.expr.Root.TheVariants.{Local, Named, Area as InArea}
use Rattle.pv_tree.specs.declared.expr.Operand.{Operand}
use Rattle.pv_tree.specs.Tree.{operand, StepTrees, BlockTree}
use Rattle.pv_tree.specs.View.{operand_tree, step_tree, steps_of}
use Rattle.pv_tree.specs.Projects.{symbol_tree}
use Rattle.pv_tree.specs.Scopes.{ProjectTree, is_const, is_of_instance, is_type, block_where, type_named, first_var, first_block, first_symbol, own_value}
use Rattle.pv_tree.specs.Things.{quoted_value, type_of_bits}
use Rattle.pv_names.specs.Firsts.{first_number}
use Rattle.pv_names.specs.Tables.{blocks_of, symbols_of, project_of}
use Rattle.pv_mean.specs.declared.count.TheConstants.{BEYOND}
use Rattle.pv_mean.specs.Counts.{capped}
use Rattle.pv_mean.specs.Layout as layout
use Rattle.pv_mean.specs.AreaBytes.{place_of_byte}
use Rattle.pv_mean.specs.Sources.{Source, data_block_first, byte_number}
use Rattle.pv_mean.specs.Sized.{sized_project}
use Rattle.pv_mean.specs.Spots as spots
use Rattle.pv_mean.specs.Activations.{Activation, Begins, in_visible, at, visible_where, brief_where, variable_begins, block_begins, value_number, variable_or, value_or, block_or, symbol_or_none, symbol_at, word_begins, root_begins}
use Rattle.pv_eval.specs.Means.{activation}
use Rattle.pv_resolve.specs.declared.context.Context.{Context}
use Rattle.pv_resolve.specs.declared.begin.Where.{Where}
use Rattle.pv_resolve.specs.declared.begin.Where.TheVariants.{Own, Visible, Brief}
use Rattle.pv_bytes.specs.Lent.{bytes_tree}
use Rattle.pv_resolve.specs.Contexts.{IsContext, block_in, address_spot_at, area_spot}
use Rattle.pv_resolve.specs.Begins.{further, begins_in, begins_found, cells_begin, undeclared_begins, type_held}
use Rattle.pv_resolve.specs.Firsts.{IsNumbered}
use Rattle.pv_tree.proofs.ForCallers.{operand_seen}
use Rattle.pv_resolve.proofs.Beginning.{exact_number, laid_from}
use Rattle.pv_resolve.proofs.Tabling.{is_numbered}

-- ---- the numbers of area bytes

pub byte_cell : (c : Context) (source : Source) (area : Area) (byte place n : ℕ) → IsContext c source
    → place ≡ place_of_byte (bytes_tree c.bytes) area byte → n ≡ c.bytes_first + place → n ≡ byte_number source area byte
byte_cell c source area byte place n is p e =
    e ∙ ap (λ k. k + place) is.areas
    ∙ ap (λ k. layout.entry_size source.project source.entry + layout.data_size source.project source.project.blocks + k)
    (p ∙ ap (λ b. place_of_byte b area byte) (sym is.bytes))

-- ---- fields

pub field_of_struct : (project : ProjectTree) (ty : TypeTree) (vars : List VarTree) (key : List ℕ) (first : ℕ) (o : Option layout.Laid)
    → ty ≡ structure (listed vars) → o ≡ layout.laid_among project (λ s. true) vars key first → o ≡ layout.field_from project ty first key
field_of_struct project ty vars key first o is e =
    e ∙ ap (λ vs. layout.laid_among project (λ s. true) vs key first) (sym (fields-of-listed vars))
    ∙ ap (λ t. layout.field_from project t first key) (sym is)

pub field_of_type : (project : ProjectTree) (ty : TypeTree) (name : Name) (place : Place) (key : List ℕ) (first : ℕ) (o : Option layout.Laid)
    → ty ≡ named name place → o ≡ layout.field_among project is_of_instance (type_named project name.key) key first
    → o ≡ layout.field_from project ty first key
field_of_type project ty name place key first o is e = e ∙ ap (λ t. layout.field_from project t first key) (sym is)

-- a field among those of the block that is the type
pub field_of_block : (c : Context) (source : Source) (type_key key : List ℕ) (x : BlockTree) (first : ℕ) (o : Option layout.Laid) → IsContext c source
    → Some x ≡ type_named (project_of c.scope.tables.now) type_key → o ≡ layout.laid_among source.project is_of_instance x.vars key first
    → o ≡ layout.field_among source.project is_of_instance (type_named source.project type_key) key first
field_of_block c source type_key key x first o is found e =
    e ∙ ap (λ b. layout.field_among source.project is_of_instance b key first) (found ∙ ap (λ p. type_named p type_key) is.project)

-- the block that is the type has the number of its name
named_first : (o : Option BlockTree) (x : BlockTree) → Some x ≡ option_and_then (block_where (λ b. is_type b.kind)) o → o ≡ Some x
named_first None x e = absurd (none-some x (sym e))
named_first (Some b) x e = by (is_type b.kind) e
  where
    by : (t : Truth) → Some x ≡ (if t then Some b else None) → Some b ≡ Some x
    by true e = sym e
    by false e = absurd (none-some x (sym e))

pub type_numbered : (c : Context) (source : Source) (key : List ℕ) (x : BlockTree) (o : Option ℕ) → IsContext c source
    → Some x ≡ type_named (project_of c.scope.tables.now) key
    → o ≡ first_number (bytes_eq key) (map (λ (b : BlockTree). b.name.key) (blocks_of c.scope.tables.now)) → IsNumbered source.project o x
type_numbered c source key x o is found number =
    is_numbered source.project key x o
    (number ∙ ap (λ (p : ProjectTree). first_number (bytes_eq key) (map (λ (b : BlockTree). b.name.key) p.blocks)) is.project)
    (named_first (first_block source.project.blocks key) x (found ∙ ap (λ p. type_named p key) is.project))

pub no_type : (c : Context) (source : Source) (type_key key : List ℕ) (first : ℕ) → IsContext c source
    → None ≡ type_named (project_of c.scope.tables.now) type_key
    → None ≡ layout.field_among source.project is_of_instance (type_named source.project type_key) key first
no_type c source type_key key first is none =
    ap (λ b. layout.field_among source.project is_of_instance b key first) (none ∙ ap (λ p. type_named p type_key) is.project)

-- ---- a variable of the block

pub chosen : {A : Type 0} (b : Truth) (x y z : A) → true ≡ b → z ≡ x → z ≡ (if b then x else y)
chosen true x y z e h = h
chosen false x y z e h = absurd (true≢false e)

pub passed_by : {A : Type 0} (b : Truth) (x y z : A) → false ≡ b → z ≡ y → z ≡ (if b then x else y)
passed_by true x y z e h = absurd (true≢false (sym e))
passed_by false x y z e h = h

pub section_seen : (v : Var) → section_of (var_tree v) ≡ v.of.now.section
section_seen v = ap section_of (var_seen v)

pub start_seen : (v : Var) → start_of (var_tree v) ≡ v.of.now.start
start_seen v = ap start_of (var_seen v)

pub constant_begins : (source : Source) (act : Activation) (key : List ℕ) (v : Var) (n : ℤ) (held : Truth) → held ≡ is_const v.of.now.section
    → held ≡ true → n ≡ start_value v.of.now.start → at (spots.fixed n) ≡ variable_begins source act key (var_tree v)
constant_begins source act key v n held test is e =
    chosen (is_const (section_of (var_tree v))) (at (spots.fixed (start_value (start_of (var_tree v))))) _ (at (spots.fixed n))
    (sym is ∙ test ∙ ap is_const (sym (section_seen v)))
    (ap (λ k. at (spots.fixed k)) (e ∙ ap start_value (sym (start_seen v))))

pub variable_cells : (source : Source) (act : Activation) (key : List ℕ) (v : Var) (b : Begins) (held : Truth) → held ≡ is_const v.of.now.section
    → held ≡ false → b ≡ cells_begin source act key v.of.now.section → b ≡ variable_begins source act key (var_tree v)
variable_cells source act key v b held test is e =
    passed_by (is_const (section_of (var_tree v))) _ _ b (sym is ∙ test ∙ ap is_const (sym (section_seen v)))
    (e ∙ ap (cells_begin source act key) (sym (section_seen v)))

-- which it is, by the tree of the code's block
brief_test : (c : Context) (seen : BlockTree) (section : Section) (has : Truth) → seen ≡ block_in c → has ≡ layout.is_brief_in seen section
    → has ≡ layout.is_brief_in (block_in c) section
brief_test c seen section has same e = e ∙ ap (λ b. layout.is_brief_in b section) same

pub brief_cells : (c : Context) (source : Source) (first : ℕ) (key : List ℕ) (section : Section) (seen : BlockTree) (has : Truth) (b : Begins)
    → seen ≡ block_in c → has ≡ layout.is_brief_in seen section → has ≡ true
    → b ≡ brief_where (layout.laid_among source.project (layout.is_brief_in (block_in c)) (block_in c).vars key 0)
    → b ≡ cells_begin source (activation (block_in c) first) key section
brief_cells c source first key section seen has b same test held e =
    chosen (layout.is_brief_in (block_in c) section) _ _ b (sym held ∙ brief_test c seen section has same test) e

pub own_cells : (c : Context) (source : Source) (first : ℕ) (key : List ℕ) (section : Section) (seen : BlockTree) (has : Truth) (b : Begins)
    → seen ≡ block_in c → has ≡ layout.is_brief_in seen section → has ≡ false
    → b ≡ visible_where (layout.laid_among source.project is_of_instance (block_in c).vars key first)
    → b ≡ cells_begin source (activation (block_in c) first) key section
own_cells c source first key section seen has b same test missing e =
    passed_by (layout.is_brief_in (block_in c) section) _ _ b (sym missing ∙ brief_test c seen section has same test) e

-- from the first cell of the instance on
pub own_begins : (project : ProjectTree) (vars : List VarTree) (key : List ℕ) (first : ℕ) (o : Option layout.Laid)
    → o ≡ layout.laid_among project is_of_instance vars key 0
    → visible_where (option_map (further first) o) ≡ visible_where (layout.laid_among project is_of_instance vars key first)
own_begins project vars key first o e =
    ap (λ x. visible_where (option_map (further first) x)) e ∙ ap visible_where (sym (laid_from project is_of_instance vars key first))

-- what was found, by where it lies
pub found_begin : (part : Where) (first : ℕ) (l : layout.Laid) → begins_in part first l ≡ begins_found part first (Some l)
found_begin Own first l = refl
found_begin Visible first l = refl
found_begin Brief first l = refl

pub nothing_found : (part : Where) (first : ℕ) → at spots.nowhere ≡ begins_found part first None
nothing_found Own first = refl
nothing_found Visible first = refl
nothing_found Brief first = refl

-- ---- blocks and a function's value

pub held_block : (source : Source) (b : BlockTree) (ty : TypeTree) → Some ty ≡ type_held b
    → in_visible (record { ty = ty; first = data_block_first source b.name.key }) ≡ block_begins source b
held_block source b ty held = by (layout.is_db b.kind) held
  where
    by : (d : Truth) → Some ty ≡ (if d then Some (layout.data_type b) else None)
        → in_visible (record { ty = ty; first = data_block_first source b.name.key })
        ≡ (if d then in_visible (record { ty = layout.data_type b; first = data_block_first source b.name.key }) else at spots.nowhere)
    by true h =
        let same : ty ≡ layout.data_type b = cc in
        ap (λ t. let x : Begins = in_visible (record { ty = t; first = data_block_first source b.name.key }) in x) same
    by false h = cc

pub unheld_block : (source : Source) (b : BlockTree) → None ≡ type_held b → at spots.nowhere ≡ block_begins source b
unheld_block source b none = by (layout.is_db b.kind) none
  where
    by : (d : Truth) → None ≡ (if d then Some (layout.data_type b) else None)
        → at spots.nowhere
        ≡ (if d then in_visible (record { ty = layout.data_type b; first = data_block_first source b.name.key }) else at spots.nowhere)
    by true h = cc
    by false h = refl

-- where a data block begins, by what the sizes of the project say
pub data_begins : (c : Context) (source : Source) (key : List ℕ) (n : ℕ) → IsContext c source
    → n ≡ capped (layout.data_first (sized_project c.sizes.now) (sized_project c.sizes.now).blocks key c.data_first) → n < BEYOND
    → n ≡ data_block_first source key
data_begins c source key n is e below =
    exact_number n (layout.data_first (sized_project c.sizes.now) (sized_project c.sizes.now).blocks key c.data_first) e below
    ∙ ap (λ (p : ProjectTree). layout.data_first p p.blocks key c.data_first) is.sizes
    ∙ ap (layout.data_first source.project source.project.blocks key) is.data_blocks

pub value_begins : (c : Context) (source : Source) (ty : Ty) (n : ℕ) (seen : BlockTree) → IsContext c source → seen ≡ block_in c
    → n ≡ capped (layout.size_among (sized_project c.sizes.now) (layout.is_brief_in seen) seen.vars) → n < BEYOND
    → at (spots.brief ty n) ≡ at (spots.brief ty (value_number source (block_in c)))
value_begins c source ty n seen is same e below =
    ap (λ k. at (spots.brief ty k))
    (exact_number n (layout.size_among (sized_project c.sizes.now) (layout.is_brief_in seen) seen.vars) e below
    ∙ ap (λ p. layout.size_among p (layout.is_brief_in seen) seen.vars) is.sizes
    ∙ ap (λ (b : BlockTree). layout.size_among source.project (layout.is_brief_in b) b.vars) same)

-- ---- words and names

pub word_declared : (source : Source) (act : Activation) (key : List ℕ) (hash : Truth) (v : VarTree) (b : Begins)
    → Some v ≡ first_var act.block.vars key → b ≡ variable_begins source act key v → b ≡ word_begins source act key hash
word_declared source act key hash v b found e =
    e ∙ ap (λ o. variable_or source act key o (undeclared_begins source act key hash)) found

pub word_undeclared : (source : Source) (act : Activation) (key : List ℕ) (hash : Truth) (b : Begins)
    → None ≡ first_var act.block.vars key → b ≡ undeclared_begins source act key hash → b ≡ word_begins source act key hash
word_undeclared source act key hash b none e =
    e ∙ ap (λ o. variable_or source act key o (undeclared_begins source act key hash)) none

-- where a value is looked for first, it is found, or another begin is
pub value_found : (source : Source) (act : Activation) (o : Option Ty) (ty : Ty) (b other : Begins) → Some ty ≡ o
    → b ≡ at (spots.brief ty (value_number source act.block)) → b ≡ value_or source act o other
value_found source act o ty b other found e = e ∙ ap (λ x. value_or source act x other) found

pub value_missing : (source : Source) (act : Activation) (o : Option Ty) (b other : Begins) → None ≡ o → b ≡ other
    → b ≡ value_or source act o other
value_missing source act o b other none e = e ∙ ap (λ x. value_or source act x other) none

-- by the tree of the code's block
pub own_value_seen : (b seen : BlockTree) (key : List ℕ) (hash : Truth) (o : Option Ty) → seen ≡ b → o ≡ own_value seen key hash
    → o ≡ own_value b key hash
own_value_seen b seen key hash o same e = e ∙ ap (λ x. own_value x key hash) same

pub quoted_value_seen : (b seen : BlockTree) (key : List ℕ) (o : Option Ty) → seen ≡ b → o ≡ quoted_value seen key → o ≡ quoted_value b key
quoted_value_seen b seen key o same e = e ∙ ap (λ x. quoted_value x key) same

-- a block is found, or another begin is
pub block_found : (c : Context) (source : Source) (key : List ℕ) (x : BlockTree) (b other : Begins) → IsContext c source
    → Some x ≡ first_block (blocks_of c.scope.tables.now) key → b ≡ block_begins source x
    → b ≡ block_or source (first_block source.project.blocks key) other
block_found c source key x b other is found e =
    e ∙ ap (λ o. block_or source o other) (found ∙ ap (λ (p : ProjectTree). first_block p.blocks key) is.project)

pub block_missing : (c : Context) (source : Source) (key : List ℕ) (b other : Begins) → IsContext c source
    → None ≡ first_block (blocks_of c.scope.tables.now) key → b ≡ other → b ≡ block_or source (first_block source.project.blocks key) other
block_missing c source key b other is none e =
    e ∙ ap (λ o. block_or source o other) (none ∙ ap (λ (p : ProjectTree). first_block p.blocks key) is.project)

pub hash_nowhere : (hash : Truth) (other : Begins) → hash ≡ true → at spots.nowhere ≡ (if hash then at spots.nowhere else other)
hash_nowhere hash other is = chosen hash _ _ (at spots.nowhere) (sym is) refl

pub hash_other : (hash : Truth) (b other : Begins) → hash ≡ false → b ≡ other → b ≡ (if hash then at spots.nowhere else other)
hash_other hash b other is e = passed_by hash _ _ b (sym is) e

-- ---- symbols

area_at : (source : Source) (ty : Ty) (root : Root) (more : StepTrees) (place : _) → area_spot source ty root ≡ symbol_at source ty (operand root more place)
area_at source ty (Local name hash at_) more place = refl
area_at source ty (Named name) more place = refl
area_at source ty (InArea area bits byte n) more place = refl

pub symbol_spot : (source : Source) (ty : Ty) (o : Operand) (s : spots.Spot) → s ≡ area_spot source ty o.root.value
    → s ≡ symbol_at source ty (operand_tree o)
symbol_spot source ty o s e =
    e ∙ area_at source ty o.root.value (steps_of (map step_tree o.steps.items)) o.place ∙ ap (symbol_at source ty) (sym (operand_seen o))

pub symbol_found : (c : Context) (source : Source) (key : List ℕ) (symbol : Name × Operand × Ty) (s : spots.Spot) → IsContext c source
    → Some (symbol_tree symbol) ≡ first_symbol (symbols_of c.scope.tables.now) key → s ≡ area_spot source symbol.2 symbol.1.root.value
    → at s ≡ symbol_or_none source (first_symbol source.project.symbols key)
symbol_found c source key symbol s is found e =
    ap (λ x. at x) (symbol_spot source symbol.2 symbol.1 s e)
    ∙ ap (symbol_or_none source) (found ∙ ap (λ (p : ProjectTree). first_symbol p.symbols key) is.project)

pub symbol_missing : (c : Context) (source : Source) (key : List ℕ) → IsContext c source
    → None ≡ first_symbol (symbols_of c.scope.tables.now) key → at spots.nowhere ≡ symbol_or_none source (first_symbol source.project.symbols key)
symbol_missing c source key is none = ap (symbol_or_none source) (none ∙ ap (λ (p : ProjectTree). first_symbol p.symbols key) is.project)

-- ---- addresses

pub address_found : (source : Source) (ty : Ty) (area : Area) (bits byte n number : ℕ) (root : Root) (s : spots.Spot)
    → root ≡ InArea area bits byte n → number ≡ byte_number source area byte → s ≡ address_spot_at ty bits number n
    → s ≡ area_spot source ty root
address_found source ty area bits byte n number root s is same e =
    e ∙ ap (λ k. address_spot_at ty bits k n) same ∙ ap (area_spot source ty) (sym is)

pub area_begins : (source : Source) (act : Activation) (root : Root) (area : Area) (bits byte n : ℕ) (b : Begins) → root ≡ InArea area bits byte n
    → b ≡ at (area_spot source (type_of_bits bits) root) → b ≡ root_begins source act root
area_begins source act root area bits byte n b is e =
    e ∙ ap (λ r. at (area_spot source (type_of_bits bits) r)) is ∙ ap (root_begins source act) (sym is)
