-- What an operand begins with, by types and by the layout.
use Rattle.std.proofs.Common.{◌≡◌, inl, inr, ◌≤ℤ◌, ℕ, suc, ◌+◌, ℤ, pos, List, [], ◌∷◌, ◌++◌, length, map, Bool, true, false, cond, not, ◌&&◌, ◌||◌, Option, Some, None, IsTrue, Contains, refl, sym, ap, subst, ◌∙◌, arith}
use Rattle.std.specs.Prelude.{filter, bytes_eq, nat_le, int_le, option_to_list, if◌then◌else◌, ◌/◌}
use Rattle.std.specs.List.{AllByRecursion}
use Rattle.std.proofs.lemmas.Bool.{true≢false, false≢true}
use Rattle.std.proofs.lemmas.Int.{ints}
use Rattle.std.proofs.lemmas.Option.{none-some}
use Rattle.pv_word.specs.declared.types.Ty.{Ty}
use Rattle.pv_word.specs.declared.types.Ty.TheVariants.{Bool as BoolType, Byte, Word, Dword, Int, Dint, Time}
use Rattle.pv_word.specs.Types.{InRange, least_of, greatest_of, width_of}
use Rattle.pv_place.specs.declared.place.Place.{Place}
use Rattle.pv_types.specs.declared.declaration.Section.{Section}
use Rattle.pv_types.specs.declared.declaration.Section.TheVariants.{Input, Output, InOut, Static, Temp, Const}
use Rattle.pv_types.specs.declared.leaf.Leaf.{Leaf}
use Rattle.pv_types.specs.Tree.{TypeTree, plain, VarTree, var}
use Rattle.pv_types.specs.View.{listed, section_of, declared_type_of, start_of}
use Rattle.pv_types.specs.Leaves.{start_value}
use Rattle.pv_tree.specs.declared.expr.Area.{Area}
use Rattle.pv_tree.specs.declared.expr.Root.{Root}
use Rattle.pv_tree.specs.declared.expr.Root.TheVariants.{Local, Named, Area as InArea}
use Rattle.pv_tree.specs.Tree.{OperandTree, operand, BlockTree}
use Rattle.pv_tree.specs.LiteralTypes.{holds, this}
use Rattle.pv_tree.specs.Scopes.{SymbolTree, ProjectTree, Scope, is_fb, is_const, is_of_instance, is_stl, first_block, first_var, first_symbol, has_key, value_key, own_value}
use Rattle.pv_tree.specs.Things.{part, constant, a_block, no_name, untold, type_of_bits, is_address, thing_of_var, thing_of_variable, thing_of_value, thing_of_block, thing_of_word, thing_of_name, thing_of_root, field_where, symbol_where, quoted_value}
use Rattle.pv_tree.specs.Interfaces.{vars_in, fields_in}
use Rattle.pv_tree.specs.Rules.{KeepsRules, out_of_range}
use Rattle.pv_tree.specs.Rules.OutOfRange.{is_outside, start_is_outside}
use Rattle.pv_tree.specs.Rules.Addresses.{is_wrong_root}
use Rattle.pv_mean.specs.Layout.{laid_among, is_temp, is_brief_in, data_type}
use Rattle.pv_mean.specs.Cells.{brief_cell, leaves_of_block, brief_variables, value_cells, stl_cells}
use Rattle.pv_mean.specs.Sources.{Source, data_block_first, byte_number}
use Rattle.pv_mean.specs.Spots.{brief, bit, bytes, fixed, nowhere}
use Rattle.pv_mean.specs.Activations.{Activation, scope_in, value_number, Begins, in_visible, at, visible_where, brief_where, variable_begins, block_begins, address_spot, symbol_at, variable_or, value_or, block_or, symbol_or_none, word_begins, name_begins, root_begins}
use Rattle.pv_laws_types.specs.Typed.{types_of_cells, visible_types, brief_types, StandAt, HasTable, IsAtWork, SpotHas, SuitsAddress, SymbolsSuit}
use Rattle.pv_laws_types.proofs.CellTypes.{leaf_types, types_among, but_constants, block_types, among_same}
use Rattle.pv_laws_types.proofs.Standing.{stand_left, stand_right, stand_get, AreKnown, block_known, Both, among_both}
use Rattle.pv_laws_types.proofs.Tables.{cells_append, Shows, instance_cells_types, among_counted, data_laid_out}
use Rattle.pv_laws_types.proofs.Locating.{BeginsAs, Means, visible_means, brief_means}

same_some : {X : Type 0} (x y : X) → Some x ≡ Some y → x ≡ y
same_some x y e = cc

-- ---- constants

from_holds : (a b v : ℤ) → int_le a v && int_le v b ≡ true → (a ≤ℤ v) × (v ≤ℤ b)
from_holds a b v e = (grind (arith, ints), grind (arith, ints))

pub in_range : (ty : Ty) (v : ℤ) → holds ty v ≡ true → InRange ty v
in_range ty v e =
    let w = from_holds (least_of ty) (greatest_of ty) v e in
    record { from = w.0; to = w.1 }

pub not_outside : (a b : Bool) → (a || not b ≡ true → ⊥) → b ≡ true
not_outside a true f = refl
not_outside true false f = absurd (f refl)
not_outside false false f = absurd (f refl)

pub zero_in : (ty : Ty) → InRange ty (pos 0)
zero_in BoolType = record { from = omega (arith, ints); to = omega (arith, ints) }
zero_in Byte = record { from = omega (arith, ints); to = omega (arith, ints) }
zero_in Word = record { from = omega (arith, ints); to = omega (arith, ints) }
zero_in Dword = record { from = omega (arith, ints); to = omega (arith, ints) }
zero_in Int = record { from = omega (arith, ints); to = omega (arith, ints) }
zero_in Dint = record { from = omega (arith, ints); to = omega (arith, ints) }
zero_in Time = record { from = omega (arith, ints); to = omega (arith, ints) }

contains_more : {X : Type 0} (x y : X) (xs : List X) → Contains xs y → Contains (x ∷ xs) y
contains_more x y xs (k, lt, e) = (suc k, omega (arith, lt), e)

contains_behind : {X : Type 0} (y : X) (xs ys : List X) → Contains ys y → Contains (xs ++ ys) y
contains_behind y [] ys c = c
contains_behind y (x ∷ xs) ys c = contains_more x y (xs ++ ys) (contains_behind y xs ys c)

var_found : (vars : List VarTree) (key : List ℕ) (v : VarTree) → first_var vars key ≡ Some v → Contains (vars_in (listed vars)) v
var_found [] key v e = absurd (none-some v e)
var_found (var name section ty start place ∷ more) key v e = lead (bytes_eq key name.key) e (λ f. var_found more key v f)
  where
    it : VarTree
    it = var name section ty start place

    rest : List VarTree
    rest = fields_in ty ++ vars_in (listed more)

    lead : (same : Bool) → cond same (Some it) (first_var more key) ≡ Some v
        → (first_var more key ≡ Some v → Contains (vars_in (listed more)) v) → Contains (it ∷ rest) v
    lead true f behind = (0, omega arith, same_some it v f)
    lead false f behind = contains_more it v rest (contains_behind v (fields_in ty) (vars_in (listed more)) (behind f))

start_lies : (project : ProjectTree) → KeepsRules project → (b : BlockTree) → Contains project.blocks b → (v : VarTree)
    → Contains (vars_in (listed b.vars)) v → (ty : Ty) → declared_type_of v ≡ plain ty → InRange ty (start_value (start_of v))
start_lies project keeps b c (var name section t None place) d ty e = zero_in ty
start_lies project keeps b c (var name section t (Some literal) place) d ty e =
    in_range ty literal.value (not_outside (is_outside (this ty) literal.ty literal.value) (holds ty literal.value)
    (λ out. keeps out_of_range literal.place (
      c.0,
      b,
      c.1,
      c.2,
      inr (inl (
        d.0,
        var name section t (Some literal) place,
        d.1,
        d.2,
        (refl, subst (λ x. IsTrue (start_is_outside x literal)) (sym e) out),
      )),
    )))

-- ---- the brief cells of an activation

brief_cells_types : (leaves : List Leaf) → types_of_cells (map (λ l. brief_cell l.path l.ty l.start) leaves) ≡ leaf_types leaves
brief_cells_types [] = refl
brief_cells_types (l ∷ ls) = ap (λ t. l.ty ∷ t) (brief_cells_types ls)

brief_kept : (b : BlockTree) (s : Section) → but_constants (is_brief_in b) s ≡ is_brief_in b s
brief_kept b s = lead s (is_fb b.kind)
  where
    lead : (x : Section) (fb : Bool) → cond (is_const x) false (if fb then is_temp x else not (is_const x))
        ≡ (if fb then is_temp x else not (is_const x))
    lead Input fb = refl
    lead Output fb = refl
    lead InOut fb = refl
    lead Static fb = refl
    lead Temp fb = refl
    lead Const true = refl
    lead Const false = refl

variables_types : (project : ProjectTree) (b : BlockTree) → types_of_cells (brief_variables project b) ≡ types_among project (is_brief_in b) b.vars
variables_types project b =
    brief_cells_types (filter (λ l. is_brief_in b l.section) (leaves_of_block project b))
    ∙ (block_types project (is_brief_in b) b.vars ∙ among_same project (but_constants (is_brief_in b)) (is_brief_in b) (brief_kept b) b.vars)

own_stand : (source : Source) (act : Activation) → StandAt (types_among source.project (is_brief_in act.block) act.block.vars
    ++ types_of_cells (value_cells act.block)) (brief_types source act) 0
own_stand source act = record {
  front = [];
  back = types_of_cells (stl_cells act.block);
  is = cells_append (brief_variables source.project act.block ++ value_cells act.block) (stl_cells act.block)
      ∙ ap (λ l. l ++ types_of_cells (stl_cells act.block))
      (cells_append (brief_variables source.project act.block) (value_cells act.block)
      ∙ ap (λ l. l ++ types_of_cells (value_cells act.block)) (variables_types source.project act.block));
  at = refl;
}

value_stands : (source : Source) (act : Activation) (ty : Ty) → act.block.value ≡ Some ty
    → StandAt (ty ∷ []) (brief_types source act) (value_number source act.block)
value_stands source act ty e =
    subst (λ n. StandAt (ty ∷ []) (brief_types source act) n)
    (let e = among_counted source.project (is_brief_in act.block) act.block.vars in omega (arith, e))
    (subst (λ o. StandAt (types_of_cells (map (λ t. brief_cell [] t (pos 0)) (option_to_list o))) (brief_types source act)
    (0 + length (types_among source.project (is_brief_in act.block) act.block.vars))) e
    (stand_right (types_among source.project (is_brief_in act.block) act.block.vars) (types_of_cells (value_cells act.block))
    (brief_types source act) 0 (own_stand source act)))

-- ---- variables

no_place : Place
no_place = record { file = 0; offset = 0 }

kept_found : (test : Section → Bool) (vars : List VarTree) (key : List ℕ) (v : VarTree) → first_var vars key ≡ Some v
    → test (section_of v) ≡ true → first_var (filter (λ x. test (section_of x)) vars) key ≡ Some v
kept_found test [] key v e passes = absurd (none-some v e)
kept_found test (var name section ty start place ∷ more) key v e passes =
    lead (test section) refl (bytes_eq key name.key) refl e (λ f. kept_found test more key v f passes)
  where
    it : VarTree
    it = var name section ty start place

    kept : List VarTree
    kept = filter (λ x. test (section_of x)) more

    lead : (t : Bool) → test section ≡ t → (same : Bool) → bytes_eq key name.key ≡ same → cond same (Some it) (first_var more key) ≡ Some v
        → (first_var more key ≡ Some v → first_var kept key ≡ Some v) → first_var (cond t (it ∷ kept) kept) key ≡ Some v
    lead true is true s f behind = ap (λ b. cond b (Some it) (first_var kept key)) s ∙ f
    lead true is false s f behind = ap (λ b. cond b (Some it) (first_var kept key)) s ∙ behind f
    lead false is true s f behind = absurd (true≢false (sym passes ∙ ap (λ x. test (section_of x)) (sym (same_some it v f)) ∙ is))
    lead false is false s f behind = behind f

-- ---- a function's value

pick : (c : Bool) (x : Option Ty) (ty : Ty) → cond c x None ≡ Some ty → x ≡ Some ty
pick true x ty e = e
pick false x ty e = absurd (none-some ty e)

own_value_is : (b : BlockTree) (key : List ℕ) (hash : Bool) (ty : Ty) → own_value b key hash ≡ Some ty → b.value ≡ Some ty
own_value_is b key hash ty e = lead (is_stl b.body) hash e
  where
    lead : (t h : Bool) → cond t (cond (bytes_eq key value_key) b.value None) (cond h None (cond (has_key key b.name) b.value None)) ≡ Some ty
        → b.value ≡ Some ty
    lead true h f = pick (bytes_eq key value_key) b.value ty f
    lead false true f = absurd (none-some ty f)
    lead false false f = pick (has_key key b.name) b.value ty f

quoted_is : (b : BlockTree) (key : List ℕ) (ty : Ty) → quoted_value b key ≡ Some ty → b.value ≡ Some ty
quoted_is b key ty e = lead (is_stl b.body) e
  where
    lead : (t : Bool) → cond t None (own_value b key false) ≡ Some ty → b.value ≡ Some ty
    lead true f = absurd (none-some ty f)
    lead false f = own_value_is b key false ty f

-- ---- addresses

is_one_bit : (ty : Ty) → nat_le (width_of ty) 1 ≡ true → ty ≡ BoolType
is_one_bit BoolType e = refl
is_one_bit Byte e = absurd (false≢true e)
is_one_bit Word e = absurd (false≢true e)
is_one_bit Dword e = absurd (false≢true e)
is_one_bit Int e = absurd (false≢true e)
is_one_bit Dint e = absurd (false≢true e)
is_one_bit Time e = absurd (false≢true e)

bits_have : (source : Source) (act : Activation) (area : Area) (bits byte n : ℕ)
    → SpotHas source act (type_of_bits bits) (address_spot source (type_of_bits bits) area bits byte n)
bits_have source act area bits byte n = lead (nat_le bits 1)
  where
    others : Ty
    others = cond (nat_le bits 8) Byte (cond (nat_le bits 16) Word Dword)

    lead : (b : Bool) → SpotHas source act (cond b BoolType others)
        (cond b (bit (byte_number source area byte) n) (bytes (cond b BoolType others) (byte_number source area byte) (bits / 8)))
    lead true = refl
    lead false = refl

address_has : (source : Source) (act : Activation) (ty : Ty) (area : Area) (bits byte n : ℕ) → bits ≡ width_of ty
    → SpotHas source act ty (address_spot source ty area bits byte n)
address_has source act ty area bits byte n suits = lead (nat_le bits 1) refl
  where
    lead : (b : Bool) → nat_le bits 1 ≡ b → SpotHas source act ty
        (cond b (bit (byte_number source area byte) n) (bytes ty (byte_number source area byte) (bits / 8)))
    lead true e = is_one_bit ty (ap (λ k. nat_le k 1) (sym suits) ∙ e)
    lead false e = refl

symbol_has : (source : Source) (act : Activation) (ty : Ty) (o : OperandTree) → SuitsAddress ty o → SpotHas source act ty (symbol_at source ty o)
symbol_has source act ty (operand (InArea area bits byte n) more place) suits = address_has source act ty area bits byte n suits
symbol_has source act ty (operand (Local name hash o_place) more place) suits = absurd suits
symbol_has source act ty (operand (Named name) more place) suits = absurd suits

found_all : (symbols : List SymbolTree) (key : List ℕ) (s : SymbolTree) → AllByRecursion (λ x. SuitsAddress x.ty x.at) symbols
    → first_symbol symbols key ≡ Some s → SuitsAddress s.ty s.at
found_all [] key s all is = absurd (none-some s is)
found_all (x ∷ more) key s all is = lead (has_key key x.name) is (λ e. found_all more key s all.1 e)
  where
    lead : (same : Bool) → cond same (Some x) (first_symbol more key) ≡ Some s
        → (first_symbol more key ≡ Some s → SuitsAddress s.ty s.at) → SuitsAddress s.ty s.at
    lead true e behind = subst (λ (y : SymbolTree). SuitsAddress y.ty y.at) (same_some x s e) all.0
    lead false e behind = behind e

module _ (shows : Shows) (source : Source) (table : HasTable source) (keeps : KeepsRules source.project) (symbols : SymbolsSuit source.project)
    (act : Activation) (work : IsAtWork source act) where
  abbrev scope : Scope
  scope = scope_in source act

  known : AreKnown source.project act.block.vars
  known = block_known source.project keeps act.block work.block

  brief_both : (key : List ℕ) (v : VarTree) → first_var act.block.vars key ≡ Some v → is_brief_in act.block (section_of v) ≡ true
      → Means source act (part (declared_type_of v)) (brief_where (laid_among source.project (is_brief_in act.block) act.block.vars key 0))
  brief_both key v is its =
      brief_means source act (laid_among source.project (is_brief_in act.block) act.block.vars key 0) (part (declared_type_of v))
      (subst (λ o. Both source.project (brief_types source act) (laid_among source.project (is_brief_in act.block) act.block.vars key 0)
      (field_where o no_place)) (kept_found (is_brief_in act.block) act.block.vars key v is its)
      (among_both source.project (brief_types source act) (is_brief_in act.block) act.block.vars key 0 no_place known
      (stand_left (types_among source.project (is_brief_in act.block) act.block.vars) (types_of_cells (value_cells act.block))
      (brief_types source act) 0 (own_stand source act))))

  pub instance_both : (key : List ℕ) (v : VarTree) → first_var act.block.vars key ≡ Some v → is_fb act.block.kind ≡ true
      → is_of_instance (section_of v) ≡ true
      → Means source act (part (declared_type_of v)) (visible_where (laid_among source.project is_of_instance act.block.vars key act.first))
  instance_both key v is fb inst =
      visible_means source act (laid_among source.project is_of_instance act.block.vars key act.first) (part (declared_type_of v))
      (subst (λ o. Both source.project (visible_types source) (laid_among source.project is_of_instance act.block.vars key act.first)
      (field_where o no_place)) (kept_found is_of_instance act.block.vars key v is inst)
      (among_both source.project (visible_types source) is_of_instance act.block.vars key act.first no_place known
      (subst (λ l. StandAt l (visible_types source) act.first)
      (instance_cells_types source.project act.block ∙ ap (λ b. cond b (types_among source.project is_of_instance act.block.vars) []) fb)
      (work.instance fb))))

  var_means : (key : List ℕ) (v : VarTree) → first_var act.block.vars key ≡ Some v
      → Means source act (thing_of_var v) (variable_begins source act key v)
  var_means key v is = lead (section_of v) refl (is_fb act.block.kind) refl
    where
      X : Begins
      X = at (fixed (start_value (start_of v)))

      Y : Begins
      Y = brief_where (laid_among source.project (is_brief_in act.block) act.block.vars key 0)

      Z : Begins
      Z = visible_where (laid_among source.project is_of_instance act.block.vars key act.first)

      T : TypeTree
      T = declared_type_of v

      hidden : (s : Section) (fb : Bool) → section_of v ≡ s → is_fb act.block.kind ≡ fb → (if fb then is_temp s else not (is_const s)) ≡ true
          → Means source act (part T) Y
      hidden s fb e f h = brief_both key v is
          (ap (is_brief_in act.block) e ∙ (ap (λ b. if b then is_temp s else not (is_const s)) f ∙ h))

      shown : (s : Section) → section_of v ≡ s → is_fb act.block.kind ≡ true → is_of_instance s ≡ true → Means source act (part T) Z
      shown s e f h = instance_both key v is f (ap is_of_instance e ∙ h)

      lead : (s : Section) → section_of v ≡ s → (fb : Bool) → is_fb act.block.kind ≡ fb
          → Means source act (cond (is_const s) (constant T) (part T))
          (cond (is_const s) X (cond (cond fb (is_temp s) (not (is_const s))) Y Z))
      lead Const e fb f = (
        start_value (start_of v),
        refl,
        λ own o. start_lies source.project keeps act.block work.block v (var_found act.block.vars key v is) own o,
      )
      lead Temp e true f = hidden Temp true e f refl
      lead Temp e false f = hidden Temp false e f refl
      lead Input e true f = shown Input e f refl
      lead Input e false f = hidden Input false e f refl
      lead Output e true f = shown Output e f refl
      lead Output e false f = hidden Output false e f refl
      lead InOut e true f = shown InOut e f refl
      lead InOut e false f = hidden InOut false e f refl
      lead Static e true f = shown Static e f refl
      lead Static e false f = hidden Static false e f refl

  -- ---- blocks, values and symbols

  block_means : (key : List ℕ) (x : BlockTree) → first_block source.project.blocks key ≡ Some x
      → Means source act (a_block x) (block_begins source x)
  block_means key x is db =
      subst (BeginsAs source act (data_type x))
      (sym (ap (λ k. cond k (in_visible (record { ty = data_type x; first = data_block_first source x.name.key })) (at nowhere)) db))
      (data_laid_out shows source table keeps key x is db)

  value_means : (ty : Ty) → act.block.value ≡ Some ty → Means source act (part (plain ty)) (at (brief ty (value_number source act.block)))
  value_means ty is = (refl, stand_get (brief_types source act) ty (value_number source act.block) (value_stands source act ty is))

  word_means : (key : List ℕ) (hash : Bool) (place : Place)
      → Means source act (thing_of_word scope key hash place) (word_begins source act key hash)
  word_means key hash place = variable (first_var act.block.vars key) refl
    where
      blocked : (o : Option BlockTree) → first_block source.project.blocks key ≡ o
          → Means source act (thing_of_block o (no_name place)) (block_or source o (at nowhere))
      blocked None is = tt
      blocked (Some x) is = block_means key x is

      hashed : (h : Bool) → Means source act (cond h (no_name place) (thing_of_block (first_block source.project.blocks key) (no_name place)))
          (cond h (at nowhere) (block_or source (first_block source.project.blocks key) (at nowhere)))
      hashed true = tt
      hashed false = blocked (first_block source.project.blocks key) refl

      valued : (o : Option Ty) → own_value act.block key hash ≡ o
          → Means source act
          (thing_of_value o (cond hash (no_name place) (thing_of_block (first_block source.project.blocks key) (no_name place))))
          (value_or source act o (cond hash (at nowhere) (block_or source (first_block source.project.blocks key) (at nowhere))))
      valued None is = hashed hash
      valued (Some ty) is = value_means ty (own_value_is act.block key hash ty is)

      variable : (o : Option VarTree) → first_var act.block.vars key ≡ o
          → Means source act
          (thing_of_variable o (thing_of_value (own_value act.block key hash)
          (cond hash (no_name place) (thing_of_block (first_block source.project.blocks key) (no_name place)))))
          (variable_or source act key o (value_or source act (own_value act.block key hash)
          (cond hash (at nowhere) (block_or source (first_block source.project.blocks key) (at nowhere)))))
      variable None is = valued (own_value act.block key hash) refl
      variable (Some v) is = var_means key v is

  symbol_means : (key : List ℕ) (place : Place) (o : Option SymbolTree) → first_symbol source.project.symbols key ≡ o
      → Means source act (symbol_where o place) (symbol_or_none source o)
  symbol_means key place None is = tt
  symbol_means key place (Some s) is = symbol_has source act s.ty s.at (found_all source.project.symbols key s symbols is)

  name_means : (key : List ℕ) (place : Place) → Means source act (thing_of_name scope key place) (name_begins source act key)
  name_means key place = valued (quoted_value act.block key) refl
    where
      blocked : (o : Option BlockTree) → first_block source.project.blocks key ≡ o
          → Means source act (thing_of_block o (symbol_where (first_symbol source.project.symbols key) place))
          (block_or source o (symbol_or_none source (first_symbol source.project.symbols key)))
      blocked None is = symbol_means key place (first_symbol source.project.symbols key) refl
      blocked (Some x) is = block_means key x is

      valued : (o : Option Ty) → quoted_value act.block key ≡ o
          → Means source act
          (thing_of_value o (thing_of_block (first_block source.project.blocks key) (symbol_where (first_symbol source.project.symbols key) place)))
          (value_or source act o
          (block_or source (first_block source.project.blocks key) (symbol_or_none source (first_symbol source.project.symbols key))))
      valued None is = blocked (first_block source.project.blocks key) refl
      valued (Some ty) is = value_means ty (quoted_is act.block key ty is)

  area_means : (area : Area) (bits byte n : ℕ) → not (is_address bits byte n) ≡ false
      → Means source act (cond (is_address bits byte n) (part (plain (type_of_bits bits))) untold)
      (at (address_spot source (type_of_bits bits) area bits byte n))
  area_means area bits byte n right = lead (is_address bits byte n) right
    where
      lead : (b : Bool) → not b ≡ false → Means source act (cond b (part (plain (type_of_bits bits))) untold)
          (at (address_spot source (type_of_bits bits) area bits byte n))
      lead true e = bits_have source act area bits byte n
      lead false e = absurd (true≢false e)

  -- what an operand begins with is what it means
  pub root_means : (root : Root) (place : Place) → is_wrong_root root ≡ false
      → Means source act (thing_of_root scope root place) (root_begins source act root)
  root_means (Local name hash o_place) place right = word_means name.key hash o_place
  root_means (Named name) place right = name_means name.key place
  root_means (InArea area bits byte n) place right = area_means area bits byte n right
