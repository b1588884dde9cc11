-- Where operands begin, told apart from the activation, and that it lies among the block's cells.
use Rattle.std.proofs.Common.{◌≡◌, ◌≤◌, ◌<◌, ℕ, ◌+◌, ◌-◌, ◌*◌, List, [], ◌∷◌, ◌++◌, length, Bool as Truth, true, false, not, Option, Some, None, refl, sym, ap, subst, ◌∙◌, arith}
use Rattle.std.specs.Prelude.{⊤, bytes_eq, nat_lt, is_some, if◌then◌else◌}
use Rattle.std.proofs.lemmas.Bool.{true≢false}
use Rattle.std.proofs.lemmas.List.{length-append, length-drop, length-map}
use Rattle.std.proofs.lemmas.Option.{none-some, same_Some}
use Rattle.pv_word.specs.declared.types.Ty.{Ty}
use Rattle.pv_types.specs.declared.declaration.Section.{Section}
use Rattle.pv_types.specs.Tree.{VarTree, var}
use Rattle.pv_types.specs.View.{section_of, start_of}
use Rattle.pv_types.specs.Leaves.{start_value}
use Rattle.pv_tree.specs.declared.expr.Root.{Root}
use Rattle.pv_tree.specs.declared.expr.Root.TheVariants.{Local, Named, Area as InArea}
use Rattle.pv_tree.specs.Tree.{BlockTree}
use Rattle.pv_tree.specs.Rules.{KeepsRules}
use Rattle.pv_tree.specs.Scopes.{SymbolTree, ProjectTree, is_fb, is_const, is_of_instance, is_stl, first_block, first_var, first_symbol, has_key, value_key, own_value}
use Rattle.pv_tree.specs.Things.{type_of_bits, quoted_value}
use Rattle.pv_mean.specs.Layout.{Laid, size_in, size_among, laid_among, is_temp, is_brief_in, entry_size, is_db, data_type, data_first}
use Rattle.pv_mean.specs.Sources.{Source, data_block_first}
use Rattle.pv_mean.specs.Frames.{visible_cells, visible_len}
use Rattle.pv_mean.specs.Spots.{brief, fixed, nowhere}
use Rattle.pv_mean.specs.Activations.{Activation, Begins, in_visible, in_brief, at, value_number, address_spot, symbol_at, root_begins}
use Rattle.pv_sizes.specs.Checks.{is_brief_variable, is_brief_word, is_brief_root}
use Rattle.pv_flow.specs.Terms.{Valuation}
use Rattle.pv_resolve.specs.Begins.{begins_further}
use Rattle.pv_variables.specs.Correct.{NamesArePlaced}
use Rattle.pv_variables.specs.Origins.{Origin, in_instance, in_table, in_activation, at_spot, origin_at, laid_where, placed, placed_variable, placed_block, placed_symbol, placed_word, placed_name, placed_variable_or, placed_value_or, placed_block_or}
use Rattle.pv_variables.specs.Variables.{is_bound_in, shared_count, behind, own_first, brief_among}
use Rattle.pv_laws_types.specs.Typed.{HasTable, visible_types, StandAt}
use Rattle.pv_laws_types.proofs.ForCallers.{Shows, types_in, types_counted, AreKnown, IsKnown, data_laid_out}
use Rattle.pv_laws_lower.proofs.Rooms.{laid_bounds, room_begins}
use Rattle.pv_laws_lower.proofs.Regions.{IsVariable, SpotLies, Lies}
use Rattle.pv_laws_lower.proofs.Walked.{begun}

none_more : (n : ℕ) → 0 + n ≡ n
none_more n = omega arith

no_further : (b : Begins) → begins_further 0 b ≡ b
no_further (in_visible l) = ap (λ (n : ℕ). in_visible (record { ty = l.ty; first = n })) (none_more l.first)
no_further (in_brief l) = ap (λ (n : ℕ). in_brief (record { ty = l.ty; first = n })) (none_more l.first)
no_further (at spot) = refl

-- an operand begins where its name does
pub root_there : NamesArePlaced → (source : Source) (act : Activation) (w : Valuation) (root : Root)
    → begun w act.first (record { origin = placed source act.block root; moves = [] }) ≡ root_begins source act root
root_there names source act w root =
    no_further (origin_at act.first (placed source act.block root)) ∙ names source act.block act.first root

-- ---- variables of brief cells

lt_told : (a b : ℕ) → a < b → nat_lt a b ≡ true
lt_told a b lt = grind (arith, lt)

not_lt_told : (a b : ℕ) → b ≤ a → nat_lt a b ≡ false
not_lt_told a b le = grind (arith, le)

-- those of one declared variable follow one another
follows_among : (project : ProjectTree) (block : BlockTree) (vars : List VarTree) (key : List ℕ) (first d i bound own : ℕ) (l : Laid)
    → laid_among project (is_brief_in block) vars key first ≡ Some l → AreKnown project vars → l.first ≡ first + d → i < size_in project l.ty
    → brief_among project block vars (d + i) bound own ≡ brief_among project block vars d bound own + i * 2
follows_among project block [] key first d i bound own l is known at_d lt = absurd (none-some l is)
follows_among project block (var name section ty start place ∷ more) key first d i bound own l is known at_d lt =
    lead (is_brief_in block section) (bytes_eq key name.key) is
    (λ n e b o f g. follows_among project block more key n e i b o l f known.1 g lt)
    (λ f. laid_bounds project (is_brief_in block) more key (first + size_in project ty) l known.1 f)
  where
    s : ℕ
    s = size_in project ty

    bound_here : Truth
    bound_here = is_bound_in block section

    base : ℕ
    base = if bound_here then bound else own

    doubled : (b x y : ℕ) → b + 2 * (x + y) ≡ b + 2 * x + y * 2
    doubled b x y = omega arith

    less : (x y : ℕ) → s ≤ x → x + y - s ≡ x - s + y
    less x y le = omega (arith, le)

    here : (j : ℕ) (t : Truth) → ℕ
    here j t = if t then base + 2 * j
        else brief_among project block more (j - s) (behind bound_here bound s) (behind (not bound_here) own s)

    lead : (b c : Truth)
        → (if b then (if c then Some (record { ty = ty; first = first }) else laid_among project (is_brief_in block) more key (first + s))
        else laid_among project (is_brief_in block) more key first) ≡ Some l
        → ((n e b o : ℕ) → laid_among project (is_brief_in block) more key n ≡ Some l → l.first ≡ n + e
        → brief_among project block more (e + i) b o ≡ brief_among project block more e b o + i * 2)
        → (laid_among project (is_brief_in block) more key (first + s) ≡ Some l
        → (first + s ≤ l.first) × (l.first + size_in project l.ty ≤ first + s + size_among project (is_brief_in block) more) × IsKnown project l.ty)
        → (if b then here (d + i) (nat_lt (d + i) s) else brief_among project block more (d + i) bound own)
        ≡ (if b then here d (nat_lt d s) else brief_among project block more d bound own) + i * 2
    lead true true f rest low =
        let at_first = ap (λ (x : Laid). x.first) (same_Some (record { ty = ty; first = first }) l f) in
        let as_wide = ap (λ (x : Laid). size_in project x.ty) (same_Some (record { ty = ty; first = first }) l f) in
        let inside = lt_told (d + i) s (omega (arith, at_d, at_first, as_wide, lt)) in
        let begins = lt_told d s (omega (arith, at_d, at_first, as_wide, lt)) in
        ap (here (d + i)) inside ∙ doubled base d i ∙ ap (λ (n : ℕ). n + i * 2) (sym (ap (here d) begins))
    lead true false f rest low =
        let le = (low f).0 in
        let past = not_lt_told (d + i) s (omega (arith, at_d, le)) in
        let begins = not_lt_told d s (omega (arith, at_d, le)) in
        ap (here (d + i)) past
        ∙ ap (λ (n : ℕ). brief_among project block more n (behind bound_here bound s) (behind (not bound_here) own s)) (less d i (omega (arith, at_d, le)))
        ∙ rest (first + s) (d - s) (behind bound_here bound s) (behind (not bound_here) own s) f (omega (arith, at_d, le))
        ∙ ap (λ (n : ℕ). n + i * 2) (sym (ap (here d) begins))
    lead false c f rest low = rest first d bound own f at_d

pub variable_follows : (source : Source) (block : BlockTree) (key : List ℕ) (l : Laid) → AreKnown source.project block.vars
    → laid_among source.project (is_brief_in block) block.vars key 0 ≡ Some l
    → IsVariable source block l.first (size_in source.project l.ty)
variable_follows source block key l known is = record {
  within = (let b = (laid_bounds source.project (is_brief_in block) block.vars key 0 l known is).1 in omega (arith, b));
  follows = λ i lt. follows_among source.project block block.vars key 0 l.first i 0 (own_first source block) l is known (omega arith) lt;
}

-- ---- data blocks

first_on : (project : ProjectTree) (blocks : List BlockTree) (key : List ℕ) (first : ℕ) → first ≤ data_first project blocks key first
first_on project [] key first = omega arith
first_on project (b ∷ more) key first =
    lead (is_db b.kind) (bytes_eq key b.name.key) (first_on project more key (first + size_in project (data_type b)))
    (first_on project more key first)
  where
    lead : (x y : Truth) → first + size_in project (data_type b) ≤ data_first project more key (first + size_in project (data_type b))
        → first ≤ data_first project more key first
        → first ≤ (if x then (if y then first else data_first project more key (first + size_in project (data_type b)))
        else data_first project more key first)
    lead true true p q = omega arith
    lead true false p q = omega (arith, p)
    lead false y p q = q

stand_end : (types all : List Ty) (n : ℕ) → StandAt types all n → n + length types ≤ length all
stand_end types all n s =
    let c = ap length s.is in
    let d = length-append s.front (types ++ s.back) in
    let e = length-append types s.back in
    let f = s.at in omega (arith, c, d, e, f)

pub visible_counted : (source : Source) → length (visible_types source) ≡ visible_len source.cells
visible_counted source = length-map (visible_cells source.cells) (λ c. c.ty)

-- the shared cells are those behind the entry's
pub shared_counted : (source : Source) → entry_size source.project source.entry ≤ visible_len source.cells
    → entry_size source.project source.entry + shared_count source ≡ visible_len source.cells
shared_counted source le =
    let e = length-drop (entry_size source.project source.entry) (visible_cells source.cells) in omega (arith, e, le)

-- ---- names

value_there : (block : BlockTree) (key : List ℕ) (hash : Truth) (ty : Ty) → own_value block key hash ≡ Some ty → block.value ≡ Some ty
value_there block key hash ty e = lead (is_stl block.body) hash e
  where
    pick : (c : Truth) (x : Option Ty) → (if c then x else None) ≡ Some ty → x ≡ Some ty
    pick true x f = f
    pick false x f = absurd (none-some ty f)

    lead : (t h : Truth) → (if t then (if bytes_eq key value_key then block.value else None)
        else (if h then None else (if has_key key block.name then block.value else None))) ≡ Some ty → block.value ≡ Some ty
    lead true h f = pick (bytes_eq key value_key) block.value f
    lead false true f = absurd (none-some ty f)
    lead false false f = pick (has_key key block.name) block.value f

quoted_there : (block : BlockTree) (key : List ℕ) (ty : Ty) → quoted_value block key ≡ Some ty → block.value ≡ Some ty
quoted_there block key ty e = lead (is_stl block.body) e
  where
    lead : (t : Truth) → (if t then None else own_value block key false) ≡ Some ty → block.value ≡ Some ty
    lead true f = absurd (none-some ty f)
    lead false f = value_there block key false ty f

not_brief_fb : (block : BlockTree) (s : Section) → is_const s ≡ false → is_brief_in block s ≡ false → is_fb block.kind ≡ true
not_brief_fb block s c e = lead (is_fb block.kind) e
  where
    lead : (f : Truth) → (if f then is_temp s else not (is_const s)) ≡ false → f ≡ true
    lead true x = refl
    lead false x = absurd (true≢false (sym (ap not c) ∙ x))

module _ (asks : Type 0) (shows : Shows) (source : Source) (block : BlockTree) (table : HasTable source) (rules : KeepsRules source.project)
    (known : AreKnown source.project block.vars) where
  abbrev LiesThere : Origin → Type 0
  LiesThere o = Lies asks source block o []

  brief_there : asks → (key : List ℕ) (o : Option Laid) → laid_among source.project (is_brief_in block) block.vars key 0 ≡ o
      → LiesThere (laid_where in_activation o)
  brief_there ask key None is = tt
  brief_there ask key (Some l) is = (
    record {
      first = l.first;
      count = size_in source.project l.ty;
      room = room_begins source.project l l.first (size_in source.project l.ty) (omega arith) (omega arith);
      variable = variable_follows source block key l known is;
      asked = ask;
    },
    (laid_bounds source.project (is_brief_in block) block.vars key 0 l known is).2,
  )

  instance_there : (key : List ℕ) (o : Option Laid) → is_fb block.kind ≡ true → laid_among source.project is_of_instance block.vars key 0 ≡ o
      → LiesThere (laid_where in_instance o)
  instance_there key None fb is = tt
  instance_there key (Some l) fb is =
      let b = laid_bounds source.project is_of_instance block.vars key 0 l known is in (
        room_begins source.project l 0 (entry_size source.project block) (omega arith)
            (subst (λ (n : ℕ). l.first + size_in source.project l.ty ≤ 0 + n)
            (sym (ap (λ c. if c then size_among source.project is_of_instance block.vars else 0) fb)) b.1),
        b.2,
      )

  variable_there : (key : List ℕ) (v : VarTree) → (is_brief_in block (section_of v) ≡ true → asks)
      → LiesThere (placed_variable source block key v)
  variable_there key v ask = by (is_const (section_of v)) refl (is_brief_in block (section_of v)) refl
    where
      by : (c : Truth) → is_const (section_of v) ≡ c → (b : Truth) → is_brief_in block (section_of v) ≡ b
          → LiesThere (if c then at_spot (fixed (start_value (start_of v)))
          else (if b then laid_where in_activation (laid_among source.project (is_brief_in block) block.vars key 0)
          else laid_where in_instance (laid_among source.project is_of_instance block.vars key 0)))
      by true c b e = tt
      by false c true e = brief_there (ask e) key (laid_among source.project (is_brief_in block) block.vars key 0) refl
      by false c false e =
          instance_there key (laid_among source.project is_of_instance block.vars key 0) (not_brief_fb block (section_of v) c e) refl

  value_lies_there : asks → (ty : Ty) → block.value ≡ Some ty → LiesThere (at_spot (brief ty (value_number source block)))
  value_lies_there ask ty is =
      let e = ap {B = ℕ} (λ (o : Option Ty). if is_some o then 1 else 0) is in (refl, omega (arith, e), ask)

  block_there : (key : List ℕ) (b : BlockTree) → first_block source.project.blocks key ≡ Some b → LiesThere (placed_block source b)
  block_there key b is = by (is_db b.kind) refl
    where
      by : (d : Truth) → is_db b.kind ≡ d
          → LiesThere (if d then in_table (record { ty = data_type b; first = data_block_first source b.name.key }) else at_spot nowhere)
      by true e =
          let laid = data_laid_out shows source table rules key b is e in
          let low = first_on source.project source.project.blocks b.name.key (entry_size source.project source.entry) in
          let high = stand_end (types_in source.project (data_type b)) (visible_types source) (data_block_first source b.name.key) laid.stands in
          let size = types_counted source.project (data_type b) in
          let all = visible_counted source in
          let shared = shared_counted source (omega (arith, low, high, all)) in (
            room_begins source.project (record { ty = data_type b; first = data_block_first source b.name.key })
                (entry_size source.project source.entry) (shared_count source) low (omega (arith, high, size, all, shared)),
            laid.known,
          )
      by false e = tt

  word_there : (key : List ℕ) (hash : Truth) → (is_brief_word block key hash ≡ true → asks) → LiesThere (placed_word source block key hash)
  word_there key hash ask = variable (first_var block.vars key) ask
    where
      blocked : (o : Option BlockTree) → first_block source.project.blocks key ≡ o
          → LiesThere (placed_block_or source o (at_spot nowhere))
      blocked None is = tt
      blocked (Some b) is = block_there key b is

      hashed : (h : Truth)
          → LiesThere (if h then at_spot nowhere else placed_block_or source (first_block source.project.blocks key) (at_spot nowhere))
      hashed true = tt
      hashed false = blocked (first_block source.project.blocks key) refl

      valued : (o : Option Ty) → own_value block key hash ≡ o → (is_some o ≡ true → asks)
          → LiesThere (placed_value_or source block o
          (if hash then at_spot nowhere else placed_block_or source (first_block source.project.blocks key) (at_spot nowhere)))
      valued None is a = hashed hash
      valued (Some ty) is a = value_lies_there (a refl) ty (value_there block key hash ty is)

      variable : (o : Option VarTree) → (is_brief_variable block o (is_some (own_value block key hash)) ≡ true → asks)
          → LiesThere (placed_variable_or source block key o
          (placed_value_or source block (own_value block key hash)
          (if hash then at_spot nowhere else placed_block_or source (first_block source.project.blocks key) (at_spot nowhere))))
      variable None a = valued (own_value block key hash) refl a
      variable (Some v) a = variable_there key v a

  -- symbols that are addresses lie there
  module _ (symbols : (key : List ℕ) (s : SymbolTree) → first_symbol source.project.symbols key ≡ Some s
      → SpotLies asks source block (symbol_at source s.ty s.at) []) where
    symbol_there : (key : List ℕ) (o : Option SymbolTree) → first_symbol source.project.symbols key ≡ o → LiesThere (placed_symbol source o)
    symbol_there key None is = tt
    symbol_there key (Some s) is = symbols key s is

    name_there : (key : List ℕ) → (is_some (quoted_value block key) ≡ true → asks) → LiesThere (placed_name source block key)
    name_there key ask = valued (quoted_value block key) refl ask
      where
        blocked : (o : Option BlockTree) → first_block source.project.blocks key ≡ o
            → LiesThere (placed_block_or source o (placed_symbol source (first_symbol source.project.symbols key)))
        blocked None is = symbol_there key (first_symbol source.project.symbols key) refl
        blocked (Some b) is = block_there key b is

        valued : (o : Option Ty) → quoted_value block key ≡ o → (is_some o ≡ true → asks)
            → LiesThere (placed_value_or source block o
            (placed_block_or source (first_block source.project.blocks key) (placed_symbol source (first_symbol source.project.symbols key))))
        valued None is a = blocked (first_block source.project.blocks key) refl
        valued (Some ty) is a = value_lies_there (a refl) ty (quoted_there block key ty is)

    -- an address itself
    abbrev pub AddressLies : Root → Type 0
    AddressLies (InArea area bits byte n) = SpotLies asks source block (address_spot source (type_of_bits bits) area bits byte n) []
    AddressLies (Local name hash place) = ⊤
    AddressLies (Named name) = ⊤

    pub root_lies : (root : Root) → AddressLies root → (is_brief_root block root ≡ true → asks)
        → Lies asks source block (placed source block root) []
    root_lies (Local name hash place) h ask = word_there name.key hash ask
    root_lies (Named name) h ask = name_there name.key ask
    root_lies (InArea area bits byte n) h ask = h
