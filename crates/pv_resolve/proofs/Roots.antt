-- Where names begin in a block with room lies within what a table may have; and 64 bits hold its constants.
use Rattle.std.proofs.Common.{◌≡◌, inl, inr, ℕ, ◌+◌, ◌<◌, ◌≤◌, pos, List, [], ◌∷◌, ◌++◌, Bool, true, false, cond, not, ◌||◌, Option, Some, None, IsTrue, Contains, refl, sym, ap, subst, ◌∙◌, arith}
use Rattle.std.specs.Prelude.{IfSome, FitsSigned, bytes_eq, if◌then◌else◌}
use Rattle.std.specs.Int.{w64}
use Rattle.std.specs.List.{AllByRecursion}
use Rattle.std.proofs.lemmas.Bool.{true≢false}
use Rattle.std.proofs.lemmas.Option.{none-some}
use Rattle.std.proofs.lemmas.Slice.Eq.{bytes_eq-Decides}
use Rattle.pv_word.specs.declared.types.Ty.{Ty}
use Rattle.pv_types.specs.declared.declaration.Literal.{Literal}
use Rattle.pv_types.specs.Tree.{TypeTree, plain, array, structure, named, unread, VarTree, var}
use Rattle.pv_types.specs.View.{listed, start_of, section_of}
use Rattle.pv_types.specs.Leaves.{start_value}
use Rattle.pv_tree.specs.declared.expr.Root.{Root}
use Rattle.pv_tree.specs.declared.expr.Root.TheVariants.{Local, Named, Area}
use Rattle.pv_tree.specs.Tree.{BlockTree}
use Rattle.pv_tree.specs.LiteralTypes.{holds, this, unsure, type_of_literal}
use Rattle.pv_tree.specs.Scopes.{SymbolTree, ProjectTree, is_const, is_of_instance, first_block, first_var, first_symbol, has_key, own_value}
use Rattle.pv_tree.specs.Things.{quoted_value}
use Rattle.pv_tree.specs.Interfaces.{fields_in, vars_in}
use Rattle.pv_tree.specs.Rules.{KeepsRules, out_of_range}
use Rattle.pv_tree.specs.Rules.OutOfRange.{is_outside, start_is_outside}
use Rattle.pv_mean.specs.declared.count.TheConstants.{BEYOND}
use Rattle.pv_mean.specs.Layout.{size_in, laid_among, is_brief_in, is_db, data_type, entry_size, data_first, data_size}
use Rattle.pv_mean.specs.Sources.{Source, data_block_first}
use Rattle.pv_mean.specs.Activations.{Activation, Begins, in_visible, at, visible_where, brief_where, variable_begins, block_begins, variable_or, value_or, block_or, symbol_or_none, root_begins}
use Rattle.pv_mean.specs.Spots.{fixed, nowhere}
use Rattle.pv_eval.specs.Means.{activation}
use Rattle.pv_resolve.specs.Rooms.{HasRoom, FitsSymbol, IsRoomy, BeginsRoomy}
use Rattle.pv_resolve.proofs.Rooms.{among_roomy, block_sound, held_sound, visible_roomy, brief_roomy, holds_fits, contains_more, contains_behind, same_some}

-- ---- constants

var_found : (vars : List VarTree) (key : List ℕ) (v : VarTree) → first_var vars key ≡ Some v → Contains (vars_in (listed vars)) v
var_found [] key v e = absurd (none-some v e)
var_found (var name section ty start place ∷ more) key v e = lead (bytes_eq key name.key) e (λ f. var_found more key v f)
  where
    it : VarTree
    it = var name section ty start place

    rest : List VarTree
    rest = fields_in ty ++ vars_in (listed more)

    lead : (same : Bool) → cond same (Some it) (first_var more key) ≡ Some v
        → (first_var more key ≡ Some v → Contains (vars_in (listed more)) v) → Contains (it ∷ rest) v
    lead true f behind = (0, omega arith, same_some it v f)
    lead false f behind = contains_more it v rest (contains_behind v (fields_in ty) (vars_in (listed more)) (behind f))

right_holds : (b : Bool) → (IsTrue (not b) → ⊥) → b ≡ true
right_holds true f = refl
right_holds false f = absurd (f refl)

either_holds : (a b : Bool) → (IsTrue (a || not b) → ⊥) → b ≡ true
either_holds a true f = refl
either_holds true false f = absurd (f refl)
either_holds false false f = absurd (f refl)

unsure_fits : (l : Literal) → (IsTrue (is_outside unsure l.ty l.value) → ⊥) → FitsSigned w64 l.value
unsure_fits l f = holds_fits (type_of_literal unsure l.ty l.value) l.value (right_holds (holds (type_of_literal unsure l.ty l.value) l.value) f)

literal_fits : (ty : TypeTree) (l : Literal) → (IsTrue (start_is_outside ty l) → ⊥) → FitsSigned w64 l.value
literal_fits (plain ty) l f = holds_fits ty l.value (either_holds (is_outside (this ty) l.ty l.value) (holds ty l.value) f)
literal_fits (array low high of place) l f = unsure_fits l f
literal_fits (structure vars) l f = unsure_fits l f
literal_fits (named name place) l f = unsure_fits l f
literal_fits unread l f = unsure_fits l f

pub zero_fits : FitsSigned w64 (pos 0)
zero_fits = record { sfits = omega arith }

start_fits : (project : ProjectTree) → KeepsRules project → (b : BlockTree) → Contains project.blocks b → (v : VarTree)
    → Contains (vars_in (listed b.vars)) v → FitsSigned w64 (start_value (start_of v))
start_fits project keeps b c (var name section ty None place) d = zero_fits
start_fits project keeps b c (var name section ty (Some literal) place) d = literal_fits ty literal (λ out. keeps out_of_range literal.place (
  c.0,
  b,
  c.1,
  c.2,
  inr (inl (d.0, var name section ty (Some literal) place, d.1, d.2, (refl, out))),
))

pub constant_fits : (source : Source) (block : BlockTree) → HasRoom source block → (key : List ℕ) (v : VarTree) → first_var block.vars key ≡ Some v
    → FitsSigned w64 (start_value (start_of v))
constant_fits source block h key v is =
    start_fits source.project h.rules block h.there v (var_found block.vars key v is)

-- ---- the block's variables

pub own_roomy : (source : Source) (block : BlockTree) → HasRoom source block → (key : List ℕ)
    → IfSome (laid_among source.project is_of_instance block.vars key 0) (IsRoomy source.project 0)
own_roomy source block h key =
    among_roomy source.project is_of_instance block.vars key 0 0 (block_sound source.project h.rules block h.there) (let w = h.own in omega (arith, w))

pub brief_var_roomy : (source : Source) (block : BlockTree) → HasRoom source block → (key : List ℕ)
    → IfSome (laid_among source.project (is_brief_in block) block.vars key 0) (IsRoomy source.project 0)
brief_var_roomy source block h key =
    among_roomy source.project (is_brief_in block) block.vars key 0 0 (block_sound source.project h.rules block h.there)
    (let w = h.brief in omega (arith, w))

variable_roomy : (source : Source) (block : BlockTree) → HasRoom source block → (key : List ℕ) (v : VarTree)
    → BeginsRoomy source.project 0 (variable_begins source (activation block 0) key v)
variable_roomy source block h key v = lead (is_const (section_of v)) (is_brief_in block (section_of v))
  where
    lead : (c b : Bool) → BeginsRoomy source.project 0 (if c then at (fixed (start_value (start_of v))) else (
        if b then brief_where (laid_among source.project (is_brief_in block) block.vars key 0)
        else visible_where (laid_among source.project is_of_instance block.vars key 0)))
    lead true b = tt
    lead false true = brief_roomy source.project 0 (laid_among source.project (is_brief_in block) block.vars key 0) (brief_var_roomy source block h key)
    lead false false = visible_roomy source.project 0 (laid_among source.project is_of_instance block.vars key 0) (own_roomy source block h key)

-- ---- data blocks

data_upto : (project : ProjectTree) (blocks : List BlockTree) (key : List ℕ) (first : ℕ)
    → data_first project blocks key first ≤ first + data_size project blocks
data_upto project [] key first = omega arith
data_upto project (x ∷ more) key first =
    lead (is_db x.kind) (bytes_eq key x.name.key) (data_upto project more key (first + size_in project (data_type x)))
    (data_upto project more key first)
  where
    lead : (db same : Bool)
        → data_first project more key (first + size_in project (data_type x)) ≤ first + size_in project (data_type x) + data_size project more
        → data_first project more key first ≤ first + data_size project more
        → (if db then (if same then first else data_first project more key (first + size_in project (data_type x)))
        else data_first project more key first)
        ≤ first + (if db then size_in project (data_type x) + data_size project more else data_size project more)
    lead true true a b = omega arith
    lead true false a b = omega (arith, a)
    lead false same a b = b

data_within : (project : ProjectTree) (blocks : List BlockTree) (key : List ℕ) (first : ℕ) (b : BlockTree)
    → first_block blocks key ≡ Some b → is_db b.kind ≡ true
    → data_first project blocks key first + size_in project (data_type b) ≤ first + data_size project blocks
data_within project [] key first b is db = absurd (none-some b is)
data_within project (x ∷ more) key first b is db =
    lead (is_db x.kind) (bytes_eq key x.name.key) refl is
    (λ e. data_within project more key (first + size_in project (data_type x)) b e db) (λ e. data_within project more key first b e db)
  where
    lead : (kept same : Bool) → is_db x.kind ≡ kept → cond same (Some x) (first_block more key) ≡ Some b
        → (first_block more key ≡ Some b → data_first project more key (first + size_in project (data_type x)) + size_in project (data_type b)
        ≤ first + size_in project (data_type x) + data_size project more)
        → (first_block more key ≡ Some b → data_first project more key first + size_in project (data_type b) ≤ first + data_size project more)
        → (if kept then (if same then first else data_first project more key (first + size_in project (data_type x)))
        else data_first project more key first) + size_in project (data_type b)
        ≤ first + (if kept then size_in project (data_type x) + data_size project more else data_size project more)
    lead true true k e f g =
        subst (λ y. first + size_in project (data_type y) ≤ first + (size_in project (data_type x) + data_size project more)) (same_some x b e)
        (omega arith)
    lead true false k e f g = let w = f e in omega (arith, w)
    lead false true k e f g = absurd (true≢false (sym db ∙ ap (λ y. is_db y.kind) (sym (same_some x b e)) ∙ k))
    lead false false k e f g = g e

block_named : (blocks : List BlockTree) (key : List ℕ) (b : BlockTree) → first_block blocks key ≡ Some b → key ≡ b.name.key
block_named [] key b is = absurd (none-some b is)
block_named (x ∷ more) key b is = lead (bytes_eq key x.name.key) refl is (λ e. block_named more key b e)
  where
    lead : (same : Bool) → bytes_eq key x.name.key ≡ same → cond same (Some x) (first_block more key) ≡ Some b
        → (first_block more key ≡ Some b → key ≡ b.name.key) → key ≡ b.name.key
    lead true s e behind = (bytes_eq-Decides key x.name.key).0 s ∙ ap (λ y. y.name.key) (same_some x b e)
    lead false s e behind = behind e

found_in : (blocks : List BlockTree) (key : List ℕ) (b : BlockTree) → first_block blocks key ≡ Some b → Contains blocks b
found_in [] key b e = absurd (none-some b e)
found_in (x ∷ more) key b e = lead (bytes_eq key x.name.key) e (λ f. found_in more key b f)
  where
    lead : (same : Bool) → cond same (Some x) (first_block more key) ≡ Some b → (first_block more key ≡ Some b → Contains more b)
        → Contains (x ∷ more) b
    lead true f behind = (0, omega arith, same_some x b f)
    lead false f behind = contains_more x b more (behind f)

-- a data block begins among the visible cells, and so does the place behind all of them
pub data_near : (source : Source) (block : BlockTree) → HasRoom source block → (key : List ℕ) → data_block_first source key < BEYOND
data_near source block h key =
    let w = data_upto source.project source.project.blocks key (entry_size source.project source.entry) in
    let v = h.visible in omega (arith, w, v)

block_roomy : (source : Source) (block : BlockTree) → HasRoom source block → (key : List ℕ) (x : BlockTree)
    → first_block source.project.blocks key ≡ Some x → BeginsRoomy source.project 0 (block_begins source x)
block_roomy source block h key x is = lead (is_db x.kind) refl
  where
    lead : (db : Bool) → is_db x.kind ≡ db
        → BeginsRoomy source.project 0 (if db then in_visible (record { ty = data_type x; first = data_block_first source x.name.key }) else at nowhere)
    lead true e = record {
      sound = held_sound source.project h.rules x (found_in source.project.blocks key x is) x.kind refl;
      within = (let w = data_within source.project source.project.blocks x.name.key (entry_size source.project source.entry) x
          (subst (λ k. first_block source.project.blocks k ≡ Some x) (block_named source.project.blocks key x is) is) e in
          let v = h.visible in omega (arith, w, v));
    }
    lead false e = tt

-- ---- what operands begin with

found_roomy : (source : Source) (block : BlockTree) → HasRoom source block → (key : List ℕ) (other : Begins)
    → BeginsRoomy source.project 0 other → BeginsRoomy source.project 0 (block_or source (first_block source.project.blocks key) other)
found_roomy source block h key other o = lead (first_block source.project.blocks key) refl
  where
    lead : (x : Option BlockTree) → first_block source.project.blocks key ≡ x → BeginsRoomy source.project 0 (block_or source x other)
    lead None e = o
    lead (Some x) e = block_roomy source block h key x e

value_roomy : (source : Source) (act : Activation) (o : Option Ty) (other : Begins) → BeginsRoomy source.project 0 other
    → BeginsRoomy source.project 0 (value_or source act o other)
value_roomy source act None other h = h
value_roomy source act (Some ty) other h = tt

symbol_roomy : (source : Source) (o : Option SymbolTree) → BeginsRoomy source.project 0 (symbol_or_none source o)
symbol_roomy source None = tt
symbol_roomy source (Some s) = tt

pub root_roomy : (source : Source) (block : BlockTree) → HasRoom source block → (root : Root)
    → BeginsRoomy source.project 0 (root_begins source (activation block 0) root)
root_roomy source block h (Local name hash place) = lead (first_var block.vars name.key)
  where
    hashed : (b : Bool) → BeginsRoomy source.project 0
        (if b then at nowhere else block_or source (first_block source.project.blocks name.key) (at nowhere))
    hashed true = tt
    hashed false = found_roomy source block h name.key (at nowhere) tt

    lead : (o : Option VarTree) → BeginsRoomy source.project 0 (variable_or source (activation block 0) name.key o
        (value_or source (activation block 0) (own_value block name.key hash)
        (if hash then at nowhere else block_or source (first_block source.project.blocks name.key) (at nowhere))))
    lead None = value_roomy source (activation block 0) (own_value block name.key hash) _ (hashed hash)
    lead (Some v) = variable_roomy source block h name.key v
root_roomy source block h (Named name) =
    value_roomy source (activation block 0) (quoted_value block name.key) _ (found_roomy source block h name.key _
    (symbol_roomy source (first_symbol source.project.symbols name.key)))
root_roomy source block h (Area area bits byte bit) = tt

-- ---- symbols

pub symbol_fits : (symbols : List SymbolTree) (key : List ℕ) (s : SymbolTree) → AllByRecursion (λ x. FitsSymbol x.at) symbols
    → first_symbol symbols key ≡ Some s → FitsSymbol s.at
symbol_fits [] key s all is = absurd (none-some s is)
symbol_fits (x ∷ more) key s all is = lead (has_key key x.name) is (λ e. symbol_fits more key s all.1 e)
  where
    lead : (same : Bool) → cond same (Some x) (first_symbol more key) ≡ Some s → (first_symbol more key ≡ Some s → FitsSymbol s.at)
        → FitsSymbol s.at
    lead true e behind = subst (λ (y : SymbolTree). FitsSymbol y.at) (same_some x s e) all.0
    lead false e behind = behind e
