-- A block that a call runs is at work: a function block in the instance that the call names.
use Rattle.std.proofs.Common.{◌≡◌, inl, inr, ℕ, zero, suc, List, [], ◌∷◌, ◌++◌, map, Bool, true, false, cond, ◌&&◌, Option, Some, None, Contains, refl, sym, ap, subst, ◌∙◌, arith}
use Rattle.std.specs.Prelude.{⊤, ◌⊎◌, is_some, option_and_then, bytes_eq}
use Rattle.std.proofs.lemmas.Bool.{false≢true}
use Rattle.std.proofs.lemmas.Option.{none-some}
use Rattle.std.proofs.lemmas.Slice.Eq.{bytes_eq-Decides}
use Rattle.pv_word.specs.declared.types.Ty.{Ty}
use Rattle.pv_place.specs.declared.place.Place.{Place}
use Rattle.pv_types.specs.declared.name.Name.{Name}
use Rattle.pv_types.specs.declared.declaration.Section.{Section}
use Rattle.pv_types.specs.declared.declaration.Section.TheVariants.{Input, Output, InOut, Static, Temp, Const}
use Rattle.pv_types.specs.Tree.{TypeTree, plain, array, structure, named, unread, VarTree, var}
use Rattle.pv_types.specs.View.{section_of, declared_type_of, start_of}
use Rattle.pv_tree.specs.declared.block.BlockKind.{BlockKind}
use Rattle.pv_tree.specs.declared.block.BlockKind.TheVariants.{Fb, Fc, Ob, Db, Udt}
use Rattle.pv_tree.specs.Tree.{PlacedName, CallPlain, BlockTree}
use Rattle.pv_types.specs.Leaves.{start_value}
use Rattle.pv_tree.specs.Scopes.{ProjectTree, Scope, block_where, is_type, first_symbol, is_fb, is_fc, is_stl, is_const, is_of_instance, first_block, first_var, has_key, own_value, type_named, value_key}
use Rattle.pv_tree.specs.Things.{part, quoted_value}
use Rattle.pv_tree.specs.Callees.{How, as_statement, as_value, by_call, by_uc, is_by_stl, CallSite, is_word, Called, a_variable, block_called, no_callee, undeclared, called_where, called_block, called_name, Callee, runs, not_declared, not_callable, unknown, may_be_instance, function_runs, instance_runs, instance_of, variable_runs, block_runs, one_name_runs, data_block_runs, second_name_runs, first_name_runs, callee_of}
use Rattle.pv_tree.specs.Interfaces.{IsLater}
use Rattle.pv_tree.specs.Rules.{KeepsRules, doubled_name}
use Rattle.pv_tree.proofs.ForCallers.{type_looked_up, run_block_in}
use Rattle.pv_mean.specs.Layout.{Laid, laid_among, is_db, held_by, data_type, is_brief_in}
use Rattle.pv_mean.specs.Cells.{entry_cells}
use Rattle.pv_mean.specs.Sources.{Source, data_block_first}
use Rattle.pv_mean.specs.Chains.{RunsSuch}
use Rattle.pv_mean.specs.Spots.{brief, fixed, nowhere}
use Rattle.pv_mean.specs.Activations.{Activation, scope_in, value_number, Begins, in_visible, at, visible_where, brief_where, variable_begins, block_begins, variable_or, value_or, block_or, symbol_or_none, word_begins, name_begins, first_visible}
use Rattle.pv_mean.specs.Calls.{called_begins, instance_first}
use Rattle.pv_laws_types.specs.Typed.{types_of_cells, visible_types, StandAt, HasTable, IsAtWork, SymbolsSuit, ValuesAreFunctions}
use Rattle.pv_laws_types.proofs.CellTypes.{types_among, named_unfolds}
use Rattle.pv_laws_types.proofs.Standing.{IsLaid}
use Rattle.pv_laws_types.proofs.Tables.{Shows, instance_cells_types, data_laid_out, found_in, block_named}
use Rattle.pv_laws_types.proofs.Locating.{Means}
use Rattle.pv_laws_types.proofs.Rooted.{instance_both}
use Rattle.std.specs.List.{AllByRecursion}

same_some : {X : Type 0} (x y : X) → Some x ≡ Some y → x ≡ y
same_some x y e = cc

-- ---- blocks of one name

contains_more : {X : Type 0} (x y : X) (xs : List X) → Contains xs y → Contains (x ∷ xs) y
contains_more x y xs (k, lt, e) = (suc k, omega (arith, lt), e)

placed_at : (blocks : List BlockTree) (y : BlockTree) → Contains blocks y
    → (front : List PlacedName) × (back : List PlacedName) × (map (λ b. (b.name, b.place)) blocks ≡ front ++ (y.name, y.place) ∷ back)
placed_at [] y (k, lt, e) = absurd (omega (arith, lt))
placed_at (z ∷ more) y (zero, lt, e) = ([], map (λ b. (b.name, b.place)) more, ap (λ b. (b.name, b.place) ∷ map (λ c. (c.name, c.place)) more) e)
placed_at (z ∷ more) y (suc k, lt, e) =
    let w = placed_at more y (k, omega (arith, lt), e) in ((z.name, z.place) ∷ w.0, w.1, ap (λ l. (z.name, z.place) ∷ l) w.2)

-- the first of a name is the block, or the name is doubled
same_block : (blocks : List BlockTree) (key : List ℕ) (x y : BlockTree) → first_block blocks key ≡ Some x → Contains blocks y
    → key ≡ y.name.key → (x ≡ y) ⊎ IsLater (map (λ b. (b.name, b.place)) blocks) y.place
same_block [] key x y is c e = absurd (none-some x is)
same_block (z ∷ more) key x y is (zero, lt, f) e =
    inl (same_some x y (sym is ∙ ap (λ b. cond b (Some z) (first_block more key))
    ((bytes_eq-Decides key z.name.key).1 (e ∙ ap (λ (b : BlockTree). b.name.key) (sym f))) ∙ ap Some f))
same_block (z ∷ more) key x y is (suc k, lt, f) e =
    lead (bytes_eq key z.name.key) refl is (λ g. same_block more key x y g (k, omega (arith, lt), f) e)
  where
    later : IsLater (map (λ b. (b.name, b.place)) more) y.place → IsLater (map (λ b. (b.name, b.place)) (z ∷ more)) y.place
    later w = record {
      front = (z.name, z.place) ∷ w.front;
      later = w.later;
      back = w.back;
      split = ap (λ l. (z.name, z.place) ∷ l) w.split;
      is_before = contains_more z.name.key w.later.0.key (map (λ n. n.0.key) w.front) w.is_before;
      is_at = w.is_at;
    }

    doubled : key ≡ z.name.key → IsLater (map (λ b. (b.name, b.place)) (z ∷ more)) y.place
    doubled g =
        let w = placed_at more y (k, omega (arith, lt), f) in record {
          front = (z.name, z.place) ∷ w.0;
          later = (y.name, y.place);
          back = w.1;
          split = ap (λ l. (z.name, z.place) ∷ l) w.2;
          is_before = (0, omega arith, sym g ∙ e);
          is_at = refl;
        }

    lead : (same : Bool) → bytes_eq key z.name.key ≡ same → cond same (Some z) (first_block more key) ≡ Some x
        → (first_block more key ≡ Some x → (x ≡ y) ⊎ IsLater (map (λ b. (b.name, b.place)) more) y.place)
        → (x ≡ y) ⊎ IsLater (map (λ b. (b.name, b.place)) (z ∷ more)) y.place
    lead true s g below = inr (doubled ((bytes_eq-Decides key z.name.key).0 s))
    lead false s g below = elim (below g) [ inl same ↦ inl same | inr w ↦ inr (later w) ]

one_block : (project : ProjectTree) → KeepsRules project → (key : List ℕ) (x y : BlockTree) → first_block project.blocks key ≡ Some x
    → Contains project.blocks y → key ≡ y.name.key → x ≡ y
one_block project keeps key x y is c e = elim (same_block project.blocks key x y is c e) [
  | inl same ↦ same
  | inr later ↦ absurd (keeps doubled_name y.place (inl later))
]

-- a type of a name is the first block of it
type_first : (project : ProjectTree) (key : List ℕ) (x : BlockTree) → type_named project key ≡ Some x → first_block project.blocks key ≡ Some x
type_first project key x e = lead (first_block project.blocks key) e
  where
    by : (t : Bool) (b : BlockTree) → cond t (Some b) None ≡ Some x → Some b ≡ Some x
    by true b f = f
    by false b f = absurd (none-some x f)

    lead : (o : Option BlockTree) → option_and_then (block_where (λ b. is_type b.kind)) o ≡ Some x → o ≡ Some x
    lead None f = absurd (none-some x f)
    lead (Some b) f = by (is_type b.kind) b f

-- ---- what a call runs

callee_when : (P : BlockTree → Type 0) (c : Bool) (x y : Callee) → (c ≡ true → RunsSuch P x) → RunsSuch P y → RunsSuch P (cond c x y)
callee_when P true x y f u = f refl
callee_when P false x y f u = u

refused : (P : BlockTree → Type 0) (c : Callee) (place : Place) → RunsSuch P (elim c [
  | runs b ↦ not_callable place
  | not_declared p ↦ not_callable place
  | not_callable p ↦ not_callable place
  | unknown ↦ unknown
])
refused P (runs b) place = tt
refused P (not_declared p) place = tt
refused P (not_callable p) place = tt
refused P unknown place = tt

instance_such : (P : BlockTree → Type 0) (how : How) (b : BlockTree) (place : Place) → P b → RunsSuch P (instance_runs how b place)
instance_such P as_statement b place p = callee_when P (is_fb b.kind) (runs b) (not_callable place) (λ e. p) tt
instance_such P as_value b place p = tt
instance_such P by_call b place p = callee_when P (is_fb b.kind) (runs b) (not_callable place) (λ e. p) tt
instance_such P by_uc b place p = tt

function_such : (P : BlockTree → Type 0) (how : How) (b : BlockTree) (place : Place) → P b → RunsSuch P (function_runs how b place)
function_such P as_statement b place p = p
function_such P as_value b place p = callee_when P (is_some b.value) (runs b) (not_callable place) (λ e. p) tt
function_such P by_call b place p = p
function_such P by_uc b place p = p

module _ (shows : Shows) (source : Source) (table : HasTable source) (keeps : KeepsRules source.project) (symbols : SymbolsSuit source.project)
    (functions : ValuesAreFunctions source.project) (act : Activation) (work : IsAtWork source act) where
  abbrev scope : Scope
  scope = scope_in source act

  -- a function block that works on what begins there
  abbrev Works : Begins → BlockTree → Type 0
  Works begin x = is_fb x.kind ≡ true
      → StandAt (types_of_cells (entry_cells source.project x)) (visible_types source) (first_visible begin)

  -- a part of the type among the visible cells
  record VisibleAs (ty : TypeTree) (begin : Begins) : Type 0 where
    laid : Laid
    is : begin ≡ in_visible laid
    lies : IsLaid source.project (visible_types source) ty laid

  instance_works : (name : Name) (p : Place) (begin : Begins) (x : BlockTree) → VisibleAs (named name p) begin
      → type_named source.project name.key ≡ Some x → Works begin x
  instance_works name p begin x v is fb =
      subst (λ b. StandAt (types_of_cells (entry_cells source.project x)) (visible_types source) (first_visible b)) (sym v.is)
      (subst (λ l. StandAt l (visible_types source) v.laid.first)
      (named_unfolds source.project name.key x.vars v.lies.known.within (type_looked_up source.project name.key x is)
      ∙ sym (instance_cells_types source.project x ∙ ap (λ b. cond b (types_among source.project is_of_instance x.vars) []) fb)) v.lies.stands)

  typed_such : (how : How) (name : Name) (p : Place) (begin : Begins) (place : Place) → VisibleAs (named name p) begin
      → RunsSuch (Works begin) (instance_of scope how name.key place)
  typed_such how name p begin place v = lead (type_named source.project name.key) refl
    where
      lead : (o : Option BlockTree) → type_named source.project name.key ≡ o
          → RunsSuch (Works begin) (elim o [ None ↦ unknown | Some b ↦ instance_runs how b place ])
      lead None e = tt
      lead (Some b) e = instance_such (Works begin) how b place (instance_works name p begin b v e)

  variable_such : (how : How) (ty : TypeTree) (begin : Begins) (place : Place) → VisibleAs ty begin
      → RunsSuch (Works begin) (variable_runs scope how ty place)
  variable_such how (plain ty) begin place v = tt
  variable_such how (array low high of p) begin place v = tt
  variable_such how (structure vars) begin place v = tt
  variable_such how (named name p) begin place v = typed_such how name p begin place v
  variable_such how unread begin place v = tt

  -- what a called name means begins there
  abbrev CalledAt : Called → Begins → Type 0
  CalledAt (a_variable v) begin = may_be_instance act.block v ≡ true → VisibleAs (declared_type_of v) begin
  CalledAt (block_called x) begin = (is_db x.kind ≡ true → VisibleAs (data_type x) begin)
      × (first_block source.project.blocks x.name.key ≡ Some x)
  CalledAt no_callee begin = ⊤
  CalledAt undeclared begin = ⊤

  data_such : (how : How) (x : BlockTree) (kind : BlockKind) → x.kind ≡ kind → (begin : Begins) (place : Place)
      → (is_db x.kind ≡ true → VisibleAs (data_type x) begin) → RunsSuch (Works begin) (block_runs scope how kind x place)
  data_such how x Fb e begin place v = tt
  data_such how x Fc e begin place v =
      function_such (Works begin) how x place (λ fb. absurd (false≢true (ap is_fb (sym e) ∙ fb)))
  data_such how x Ob e begin place v = tt
  data_such how x (Db None) e begin place v = tt
  data_such how x (Db (Some of)) e begin place v =
      callee_when (Works begin) (is_by_stl how) (not_callable place) (instance_of scope how of.0.key place) (λ s. tt)
      (typed_such how of.0 of.1 begin place (subst (λ k. VisibleAs (held_by k x.vars) begin) e (v (ap is_db e))))
  data_such how x Udt e begin place v = tt

  one_such : (how : How) (c : Called) (begin : Begins) (place : Place) → CalledAt c begin
      → RunsSuch (Works begin) (one_name_runs scope how c place)
  one_such how (a_variable v) begin place h =
      callee_when (Works begin) (may_be_instance act.block v) (variable_runs scope how (declared_type_of v) place) _
      (λ e. variable_such how (declared_type_of v) begin place (h e))
      (refused (Works begin) (variable_runs scope how (declared_type_of v) place) place)
  one_such how (block_called x) begin place h = data_such how x x.kind refl begin place h.0
  one_such how no_callee begin place h = tt
  one_such how undeclared begin place h = tt

  -- the second of two names
  second_such : (how : How) (fb x : BlockTree) (kind : BlockKind) → x.kind ≡ kind → (begin : Begins) (first place : Place)
      → first_block source.project.blocks fb.name.key ≡ Some fb → (is_db x.kind ≡ true → VisibleAs (data_type x) begin)
      → RunsSuch (Works begin) (data_block_runs scope how fb first kind place)
  second_such how fb x Fb e begin first place own v = tt
  second_such how fb x Fc e begin first place own v = tt
  second_such how fb x Ob e begin first place own v = tt
  second_such how fb x (Db None) e begin first place own v = tt
  second_such how fb x (Db (Some of)) e begin first place own v = lead (type_named source.project of.0.key) refl
    where
      lies : VisibleAs (named of.0 of.1) begin
      lies = subst (λ k. VisibleAs (held_by k x.vars) begin) e (v (ap is_db e))

      by : (b : BlockTree) → type_named source.project of.0.key ≡ Some b → has_key b.name.key fb.name ≡ true → Works begin fb
      by b is same = subst (Works begin)
          (sym (one_block source.project keeps fb.name.key fb b own (found_in source.project.blocks of.0.key b (type_first source.project of.0.key b is))
          (sym ((bytes_eq-Decides b.name.key fb.name.key).0 same)))) (instance_works of.0 of.1 begin b lies is)

      lead : (o : Option BlockTree) → type_named source.project of.0.key ≡ o → RunsSuch (Works begin) (elim o [
        | None ↦ unknown
        | Some b ↦ cond (has_key b.name.key fb.name) (instance_runs how fb first) (not_callable place)
      ])
      lead None i = tt
      lead (Some b) i = callee_when (Works begin) (has_key b.name.key fb.name) (instance_runs how fb first) (not_callable place)
          (λ same. instance_such (Works begin) how fb first (by b i same)) tt
  second_such how fb x Udt e begin first place own v = tt

  -- ---- what names begin

  visible_as : (ty : TypeTree) (o : Option Laid) → Means source act (part ty) (visible_where o) → VisibleAs ty (visible_where o)
  visible_as (plain ty) None h = absurd h
  visible_as (array low high of p) None h = absurd h
  visible_as (structure vars) None h = absurd h
  visible_as (named name p) None h = absurd h
  visible_as unread None h = absurd h
  visible_as ty (Some laid) h = record { laid = laid; is = refl; lies = h }

  instance_at : (key : List ℕ) (v : VarTree) → first_var act.block.vars key ≡ Some v → is_of_instance (section_of v) ≡ true
      → is_fb act.block.kind ≡ true → VisibleAs (declared_type_of v) (variable_begins source act key v)
  instance_at key v is inst fb = subst (VisibleAs (declared_type_of v)) (sym (lead (section_of v) inst))
      (visible_as (declared_type_of v) (laid_among source.project is_of_instance act.block.vars key act.first)
      (instance_both shows source table keeps symbols act work key v is fb inst))
    where
      X : Begins
      X = at (fixed (start_value (start_of v)))

      Y : Begins
      Y = brief_where (laid_among source.project (is_brief_in act.block) act.block.vars key 0)

      Z : Begins
      Z = visible_where (laid_among source.project is_of_instance act.block.vars key act.first)

      of_fb : cond (cond (is_fb act.block.kind) false true) Y Z ≡ Z
      of_fb = ap (λ b. cond (cond b false true) Y Z) fb

      lead : (s : Section) → is_of_instance s ≡ true → cond (is_const s) X (cond (is_brief_in act.block s) Y Z) ≡ Z
      lead Input h = of_fb
      lead Output h = of_fb
      lead InOut h = of_fb
      lead Static h = of_fb
      lead Temp h = absurd (false≢true h)
      lead Const h = absurd (false≢true h)

  variable_at : (key : List ℕ) (v : VarTree) → first_var act.block.vars key ≡ Some v → may_be_instance act.block v ≡ true
      → VisibleAs (declared_type_of v) (variable_begins source act key v)
  variable_at key (var name Input ty start p) is may = instance_at key (var name Input ty start p) is refl may
  variable_at key (var name Output ty start p) is may = instance_at key (var name Output ty start p) is refl may
  variable_at key (var name InOut ty start p) is may = instance_at key (var name InOut ty start p) is refl may
  variable_at key (var name Static ty start p) is may = instance_at key (var name Static ty start p) is refl may
  variable_at key (var name Temp ty start p) is may = absurd (false≢true may)
  variable_at key (var name Const ty start p) is may = absurd (false≢true may)

  own_first : (key : List ℕ) (x : BlockTree) → first_block source.project.blocks key ≡ Some x
      → first_block source.project.blocks x.name.key ≡ Some x
  own_first key x is = subst (λ k. first_block source.project.blocks k ≡ Some x) (block_named source.project.blocks key x is) is

  block_at : (key : List ℕ) (x : BlockTree) → first_block source.project.blocks key ≡ Some x
      → CalledAt (block_called x) (block_begins source x)
  block_at key x is = (
    λ db. record {
      laid = record { ty = data_type x; first = data_block_first source x.name.key };
      is = ap (λ k. cond k (in_visible (record { ty = data_type x; first = data_block_first source x.name.key })) (at nowhere)) db;
      lies = data_laid_out shows source table keeps key x is db;
    },
    own_first key x is,
  )

  not_both : (k : BlockKind) → is_db k ≡ true → is_fc k ≡ true → ⊥
  not_both Fb d f = false≢true d
  not_both Fc d f = false≢true d
  not_both Ob d f = false≢true d
  not_both (Db of) d f = false≢true f
  not_both Udt d f = false≢true d

  all_at : (blocks : List BlockTree) (y : BlockTree) → AllByRecursion (λ b. is_some b.value ≡ true → is_fc b.kind ≡ true) blocks
      → Contains blocks y → is_some y.value ≡ true → is_fc y.kind ≡ true
  all_at [] y a (k, lt, e) = absurd (omega (arith, lt))
  all_at (z ∷ more) y a (zero, lt, e) = subst (λ (b : BlockTree). is_some b.value ≡ true → is_fc b.kind ≡ true) e a.0
  all_at (z ∷ more) y a (suc k, lt, e) = all_at more y a.1 (k, omega (arith, lt), e)

  -- a name that is a function's value in SCL names that function, which is no data block
  value_no_data : (key : List ℕ) (ty : Ty) (x : BlockTree) → is_stl act.block.body ≡ false → own_value act.block key false ≡ Some ty
      → first_block source.project.blocks key ≡ Some x → is_db x.kind ≡ true → ⊥
  value_no_data key ty x scl is found db = lead (has_key key act.block.name) refl
      (sym (ap (λ b. cond b (cond (bytes_eq key value_key) act.block.value None) (cond (has_key key act.block.name) act.block.value None)) scl) ∙ is)
    where
      lead : (same : Bool) → has_key key act.block.name ≡ same → cond same act.block.value None ≡ Some ty → ⊥
      lead false s f = none-some ty f
      lead true s f = not_both act.block.kind
          (ap (λ (b : BlockTree). is_db b.kind) (sym (one_block source.project keeps key x act.block found work.block
          ((bytes_eq-Decides key act.block.name.key).0 s))) ∙ db)
          (all_at source.project.blocks act.block functions work.block (ap is_some f))

  after_value : (key : List ℕ) (ty : Ty) (begin : Begins) (other : Called) → is_stl act.block.body ≡ false
      → own_value act.block key false ≡ Some ty → CalledAt other begin → (o : Option BlockTree)
      → first_block source.project.blocks key ≡ o → CalledAt (called_block o other) begin
  after_value key ty begin other scl is rest None found = rest
  after_value key ty begin other scl is rest (Some x) found = (λ db. absurd (value_no_data key ty x scl is found db), own_first key x found)

  word_at : (key : List ℕ) (hash : Bool) → CalledAt (called_where (first_var act.block.vars key)
      (cond (is_stl act.block.body && is_some (own_value act.block key hash)) no_callee
      (cond hash undeclared (called_block (first_block source.project.blocks key) undeclared)))) (word_begins source act key hash)
  word_at key hash = by_var (first_var act.block.vars key) refl
    where
      by_block : (o : Option BlockTree) → first_block source.project.blocks key ≡ o
          → CalledAt (called_block o undeclared) (block_or source o (at nowhere))
      by_block None is = tt
      by_block (Some x) is = block_at key x is

      by_hash : (h : Bool) → CalledAt (cond h undeclared (called_block (first_block source.project.blocks key) undeclared))
          (cond h (at nowhere) (block_or source (first_block source.project.blocks key) (at nowhere)))
      by_hash true = tt
      by_hash false = by_block (first_block source.project.blocks key) refl

      none_own : (s : Bool) → CalledAt (cond (s && false) no_callee
          (cond hash undeclared (called_block (first_block source.project.blocks key) undeclared)))
          (cond hash (at nowhere) (block_or source (first_block source.project.blocks key) (at nowhere)))
      none_own true = by_hash hash
      none_own false = by_hash hash

      some_own : (ty : Ty) (s : Bool) → is_stl act.block.body ≡ s → (h : Bool) → own_value act.block key h ≡ Some ty
          → CalledAt (cond (s && true) no_callee (cond h undeclared (called_block (first_block source.project.blocks key) undeclared)))
          (at (brief ty (value_number source act.block)))
      some_own ty true i h e = tt
      some_own ty false i true e = tt
      some_own ty false i false e =
          after_value key ty (at (brief ty (value_number source act.block))) undeclared i e tt (first_block source.project.blocks key) refl

      by_value : (o : Option Ty) → own_value act.block key hash ≡ o
          → CalledAt (cond (is_stl act.block.body && is_some o) no_callee
          (cond hash undeclared (called_block (first_block source.project.blocks key) undeclared)))
          (value_or source act o (cond hash (at nowhere) (block_or source (first_block source.project.blocks key) (at nowhere))))
      by_value None e = none_own (is_stl act.block.body)
      by_value (Some ty) e = some_own ty (is_stl act.block.body) refl hash e

      by_var : (o : Option VarTree) → first_var act.block.vars key ≡ o
          → CalledAt (called_where o (cond (is_stl act.block.body && is_some (own_value act.block key hash)) no_callee
          (cond hash undeclared (called_block (first_block source.project.blocks key) undeclared))))
          (variable_or source act key o (value_or source act (own_value act.block key hash)
          (cond hash (at nowhere) (block_or source (first_block source.project.blocks key) (at nowhere)))))
      by_var None is = by_value (own_value act.block key hash) refl
      by_var (Some v) is = variable_at key v is

  -- what can't be called
  neither : (b : Bool) (begin : Begins) → CalledAt (cond b no_callee undeclared) begin
  neither true begin = tt
  neither false begin = tt

  name_at : (key : List ℕ) (hash : Bool) → CalledAt (cond hash (cond (is_some (first_var act.block.vars key)) no_callee undeclared)
      (called_block (first_block source.project.blocks key)
      (cond (is_some (first_symbol source.project.symbols key)) no_callee undeclared))) (name_begins source act key)
  name_at key true = neither (is_some (first_var act.block.vars key)) (name_begins source act key)
  name_at key false = by_value (quoted_value act.block key) refl
    where
      alone : Called
      alone = cond (is_some (first_symbol source.project.symbols key)) no_callee undeclared

      by_block : (o : Option BlockTree) → first_block source.project.blocks key ≡ o
          → CalledAt (called_block o alone) (block_or source o (symbol_or_none source (first_symbol source.project.symbols key)))
      by_block None is = neither (is_some (first_symbol source.project.symbols key))
          (symbol_or_none source (first_symbol source.project.symbols key))
      by_block (Some x) is = block_at key x is

      by_value : (o : Option Ty) → quoted_value act.block key ≡ o → CalledAt (called_block (first_block source.project.blocks key) alone)
          (value_or source act o
          (block_or source (first_block source.project.blocks key) (symbol_or_none source (first_symbol source.project.symbols key))))
      by_value None e = by_block (first_block source.project.blocks key) refl
      by_value (Some ty) e = by_language (is_stl act.block.body) refl e
        where
          by_language : (s : Bool) → is_stl act.block.body ≡ s → cond s None (own_value act.block key false) ≡ Some ty
              → CalledAt (called_block (first_block source.project.blocks key) alone) (at (brief ty (value_number source act.block)))
          by_language true i f = absurd (none-some ty f)
          by_language false i f = after_value key ty (at (brief ty (value_number source act.block))) alone i f
              (neither (is_some (first_symbol source.project.symbols key)) (at (brief ty (value_number source act.block))))
              (first_block source.project.blocks key) refl

  called_at : (name : Name) (hash : Bool) → CalledAt (called_name scope name hash) (called_begins source act name hash)
  called_at name hash = lead (is_word name)
    where
      lead : (w : Bool) → CalledAt
          (cond w (called_where (first_var act.block.vars name.key)
          (cond (is_stl act.block.body && is_some (own_value act.block name.key hash)) no_callee
          (cond hash undeclared (called_block (first_block source.project.blocks name.key) undeclared))))
          (cond hash (cond (is_some (first_var act.block.vars name.key)) no_callee undeclared)
          (called_block (first_block source.project.blocks name.key)
          (cond (is_some (first_symbol source.project.symbols name.key)) no_callee undeclared))))
          (cond w (word_begins source act name.key hash) (name_begins source act name.key))
      lead true = word_at name.key hash
      lead false = name_at name.key hash

  -- ---- calls

  first_such : (how : How) (c d : Called) (before begin : Begins) (place second_place : Place) → CalledAt c before → CalledAt d begin
      → RunsSuch (Works begin) (first_name_runs scope how c place d second_place)
  first_such how (a_variable v) d before begin place second_place h i = tt
  first_such how (block_called fb) d before begin place second_place h i =
      callee_when (Works begin) (is_fb fb.kind) (second_name_runs scope how fb place d second_place) (not_callable place) (λ e. by d i) tt
    where
      by : (x : Called) → CalledAt x begin → RunsSuch (Works begin) (second_name_runs scope how fb place x second_place)
      by (a_variable v) j = tt
      by (block_called x) j = second_such how fb x x.kind refl begin place second_place h.1 j.0
      by no_callee j = tt
      by undeclared j = tt
  first_such how no_callee d before begin place second_place h i = tt
  first_such how undeclared d before begin place second_place h i = tt

  called_works : (how : How) (call : CallPlain) (base : Option PlacedName) → RunsSuch (Works (elim base [
    | None ↦ called_begins source act call.name call.hash
    | Some second ↦ called_begins source act second.0 false
  ])) (elim base [
    | None ↦ one_name_runs scope how (called_name scope call.name call.hash) call.name_place
    | Some second ↦ first_name_runs scope how (called_name scope call.name call.hash) call.name_place (called_name scope second.0 false) second.1
  ])
  called_works how call None =
      one_such how (called_name scope call.name call.hash) (called_begins source act call.name call.hash) call.name_place
      (called_at call.name call.hash)
  called_works how call (Some second) =
      first_such how (called_name scope call.name call.hash) (called_name scope second.0 false) (called_begins source act call.name call.hash)
      (called_begins source act second.0 false) call.name_place second.1 (called_at call.name call.hash) (called_at second.0 false)

  pub called_at_work : (site : CallSite) (b : BlockTree) → callee_of scope site ≡ runs b
      → IsAtWork source (record { block = b; first = instance_first source act site.call })
  called_at_work site b e = record {
    block = run_block_in scope site b e;
    instance = λ fb. subst (RunsSuch (Works (elim site.call.base [
      | None ↦ called_begins source act site.call.name site.call.hash
      | Some second ↦ called_begins source act second.0 false
    ]))) e (called_works site.how site.call site.call.base) fb;
  }
