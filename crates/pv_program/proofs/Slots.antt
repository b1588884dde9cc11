-- Parameters have slots, and instances begin among the cells of the table.
use Rattle.std.proofs.Common.{◌≡◌, ◌⊎◌, inl, inr, ℕ, zero, suc, ◌≤◌, List, [], ◌∷◌, ◌++◌, map, Bool, true, false, cond, Option, Some, None, option_map, Contains, refl, sym, ap, ◌∙◌, arith}
use Rattle.std.specs.Prelude.{bytes_eq, if◌then◌else◌}
use Rattle.std.proofs.lemmas.Slice.Eq.{bytes_eq-Decides}
use Rattle.pv_place.specs.declared.place.Place.{Place}
use Rattle.pv_types.specs.declared.name.Name.{Name}
use Rattle.pv_types.specs.Tree.{VarTree}
use Rattle.pv_types.specs.View.{name_of, place_of, section_of, start_of}
use Rattle.pv_types.specs.Leaves.{start_value}
use Rattle.pv_tree.specs.Tree.{PlacedName, BlockTree}
use Rattle.pv_tree.specs.Scopes.{ProjectTree, first_var, is_of_instance, own_value}
use Rattle.pv_tree.specs.Interfaces.{IsLater, names_of_vars}
use Rattle.pv_tree.specs.Rules.{KeepsRules, doubled_name}
use Rattle.pv_mean.specs.declared.count.TheConstants.{BEYOND}
use Rattle.pv_mean.specs.Counts.{capped}
use Rattle.pv_mean.specs.Layout.{Laid, laid_among, is_brief_in, size_among}
use Rattle.pv_mean.specs.Sized.{sized_project}
use Rattle.pv_mean.specs.Sources.{Source}
use Rattle.pv_mean.specs.Spots.{nowhere, fixed}
use Rattle.pv_mean.specs.Activations.{Begins, in_visible, in_brief, at, visible_where, brief_where, variable_or, value_or, word_begins, name_begins}
use Rattle.pv_mean.specs.Calls.{called_begins}
use Rattle.pv_tree.specs.Callees.{is_word}
use Rattle.pv_tree.specs.declared.expr.Root.TheVariants.{Local, Named}
use Rattle.pv_eval.specs.declared.node.Spot.{Spot}
use Rattle.pv_eval.specs.declared.node.Spot.TheVariants.{Visible as VisibleSpot, Brief as BriefSpot, Bit, Bytes, Fixed, Nowhere}
use Rattle.pv_eval.specs.Operands.{spot_of}
use Rattle.pv_eval.specs.Means.{activation}
use Rattle.pv_resolve.specs.declared.context.Context.{Context}
use Rattle.pv_resolve.specs.Contexts.{IsContext, block_in}
use Rattle.pv_resolve.specs.declared.begin.Begin.{Begin}
use Rattle.pv_resolve.specs.declared.begin.Begin.TheVariants.{In, At}
use Rattle.pv_resolve.specs.declared.begin.Where.TheVariants.{Own, Visible, Brief}
use Rattle.pv_resolve.specs.Begins.{further, begin_at}
use Rattle.pv_resolve.specs.Rooms.{HasRoom, BeginsRoomy}
use Rattle.pv_resolve.specs.Laying.{laid_tree}
use Rattle.pv_resolve.proofs.ForCallers.{laid-shifted, root_roomy}
use Rattle.pv_program.specs.Led.{HasSlot, IsVariable}

-- ---- where a parameter begins

spot_none : (s : Spot) → spot_of s ≡ nowhere → s ≡ Nowhere
spot_none (VisibleSpot n) e = cc
spot_none (BriefSpot ty n) e = cc
spot_none (Bit n b) e = cc
spot_none (Bytes ty n count) e = cc
spot_none (Fixed v) e = cc
spot_none Nowhere e = refl

none_slotted : (b : Begin) → begin_at b 0 ≡ at nowhere → HasSlot b
none_slotted (In Own l) e = tt
none_slotted (In Visible l) e = cc
none_slotted (In Brief l) e = tt
none_slotted (At s) e = spot_none s (let f : spot_of s ≡ nowhere = cc in f)

brief_slotted : (b : Begin) (l : Laid) → begin_at b 0 ≡ in_brief l → HasSlot b
brief_slotted (In Own x) l e = tt
brief_slotted (In Visible x) l e = cc
brief_slotted (In Brief x) l e = tt
brief_slotted (At s) l e = cc

-- an instance begins further on where its block's does
own_slotted : (b : Begin) (l : Laid) → begin_at b 0 ≡ in_visible l → begin_at b 1 ≡ in_visible (further 1 l) → HasSlot b
own_slotted (In Own x) l e f = tt
own_slotted (In Visible x) l e f =
    let here : laid_tree x ≡ l = cc in
    let there : laid_tree x ≡ further 1 l = cc in
    let same = ap (λ (y : Laid). y.first) (sym here ∙ there) in
    absurd (omega (arith, same))
own_slotted (In Brief x) l e f = tt
own_slotted (At s) l e f = cc

in_brief_slotted : (b : Begin) (o : Option Laid) → begin_at b 0 ≡ brief_where o → HasSlot b
in_brief_slotted b None e = none_slotted b e
in_brief_slotted b (Some l) e = brief_slotted b l e

in_own_slotted : (b : Begin) (o p : Option Laid) → p ≡ option_map (further 1) o → begin_at b 0 ≡ visible_where o → begin_at b 1 ≡ visible_where p
    → HasSlot b
in_own_slotted b None p is e f = none_slotted b e
in_own_slotted b (Some l) p is e f = own_slotted b l e (f ∙ ap visible_where is)

abbrev among : (source : Source) (block : BlockTree) → List ℕ → Bool → ℕ → Begins
among source block key brief first =
    if brief then brief_where (laid_among source.project (is_brief_in block) block.vars key 0)
    else visible_where (laid_among source.project is_of_instance block.vars key first)

among_slotted : (source : Source) (block : BlockTree) (key : List ℕ) (brief : Bool) (b : Begin)
    → ((first : ℕ) → begin_at b first ≡ among source block key brief first) → HasSlot b
among_slotted source block key true b f =
    in_brief_slotted b (laid_among source.project (is_brief_in block) block.vars key 0) (f 0)
among_slotted source block key false b f =
    in_own_slotted b (laid_among source.project is_of_instance block.vars key 0) (laid_among source.project is_of_instance block.vars key 1)
    (laid-shifted source.project is_of_instance block.vars key 1 0) (f 0) (f 1)

word_among : (source : Source) (block : BlockTree) (name : Name) (v : VarTree) → IsVariable block name v → (first : ℕ)
    → word_begins source (activation block first) name.key true ≡ among source block name.key (is_brief_in block (section_of v)) first
word_among source block name v is first =
    ap (λ o. variable_or source (activation block first) name.key o
    (value_or source (activation block first) (own_value block name.key true) (at nowhere))) is.found
    ∙ ap (λ t. if t then at (fixed (start_value (start_of v)))
    else among source block name.key (is_brief_in block (section_of v)) first) is.varies

pub parameter_slotted : (source : Source) (block : BlockTree) (name : Name) (v : VarTree) → IsVariable block name v → (b : Begin)
    → ((first : ℕ) → begin_at b first ≡ word_begins source (activation block first) name.key true) → HasSlot b
parameter_slotted source block name v is b f =
    among_slotted source block name.key (is_brief_in block (section_of v)) b (λ first. f first ∙ word_among source block name v is first)

-- ---- the first variable of a name

contains_more : {X : Type 0} (x y : X) (xs : List X) → Contains xs y → Contains (x ∷ xs) y
contains_more x y xs (k, lt, e) = (suc k, omega (arith, lt), e)

placed_at : (vars : List VarTree) (v : VarTree) → Contains vars v
    → (front : List PlacedName) × (back : List PlacedName) × (names_of_vars vars ≡ front ++ (name_of v, place_of v) ∷ back)
placed_at [] v (k, lt, e) = absurd (omega (arith, lt))
placed_at (x ∷ more) v (zero, lt, e) = ([], names_of_vars more, ap (λ y. (name_of y, place_of y) ∷ names_of_vars more) e)
placed_at (x ∷ more) v (suc k, lt, e) =
    let w = placed_at more v (k, omega (arith, lt), e) in
    ((name_of x, place_of x) ∷ w.0, w.1, ap (λ l. (name_of x, place_of x) ∷ l) w.2)

first_or_later : (vars : List VarTree) (v : VarTree) → Contains vars v
    → (first_var vars (name_of v).key ≡ Some v) ⊎ IsLater (names_of_vars vars) (place_of v)
first_or_later [] v (k, lt, e) = absurd (omega (arith, lt))
first_or_later (x ∷ more) v (zero, lt, e) =
    inl (ap (λ b. cond b (Some x) (first_var more (name_of v).key))
    ((bytes_eq-Decides (name_of v).key (name_of x).key).1 (ap (λ (y : VarTree). (name_of y).key) (sym e))) ∙ ap Some e)
first_or_later (x ∷ more) v (suc k, lt, e) =
    lead (bytes_eq (name_of v).key (name_of x).key) refl (first_or_later more v (k, omega (arith, lt), e))
  where
    later : IsLater (names_of_vars more) (place_of v) → IsLater (names_of_vars (x ∷ more)) (place_of v)
    later w = record {
      front = (name_of x, place_of x) ∷ w.front;
      later = w.later;
      back = w.back;
      split = ap (λ l. (name_of x, place_of x) ∷ l) w.split;
      is_before = contains_more (name_of x).key w.later.0.key (map (λ n. n.0.key) w.front) w.is_before;
      is_at = w.is_at;
    }

    doubled : (name_of v).key ≡ (name_of x).key → IsLater (names_of_vars (x ∷ more)) (place_of v)
    doubled g =
        let w = placed_at more v (k, omega (arith, lt), e) in record {
          front = (name_of x, place_of x) ∷ w.0;
          later = (name_of v, place_of v);
          back = w.1;
          split = ap (λ l. (name_of x, place_of x) ∷ l) w.2;
          is_before = (0, omega arith, sym g);
          is_at = refl;
        }

    lead : (same : Bool) → bytes_eq (name_of v).key (name_of x).key ≡ same
        → (first_var more (name_of v).key ≡ Some v) ⊎ IsLater (names_of_vars more) (place_of v)
        → (cond same (Some x) (first_var more (name_of v).key) ≡ Some v) ⊎ IsLater (names_of_vars (x ∷ more)) (place_of v)
    lead true s below = inr (doubled ((bytes_eq-Decides (name_of v).key (name_of x).key).0 s))
    lead false s (inl is) = inl is
    lead false s (inr w) = inr (later w)

-- by the rules it is the only one
pub var_first : (project : ProjectTree) → KeepsRules project → (block : BlockTree) → Contains project.blocks block → (v : VarTree)
    → Contains block.vars v → first_var block.vars (name_of v).key ≡ Some v
var_first project keeps block c v d = elim (first_or_later block.vars v d) [
  | inl is ↦ is
  | inr later ↦ absurd (keeps doubled_name (place_of v) (inr (c.0, block, c.1, c.2, inl later)))
]

-- ---- numbers of cells

pub value_beyond : (c : Context) (source : Source) (n : ℕ) (seen : BlockTree) → IsContext c source → HasRoom source (block_in c) → seen ≡ block_in c
    → n ≡ capped (size_among (sized_project c.sizes.now) (is_brief_in seen) seen.vars) → BEYOND ≤ n → ⊥
value_beyond c source n seen is h same e far =
    let near = h.brief in
    let all : size_among (sized_project c.sizes.now) (is_brief_in seen) seen.vars
    ≡ size_among source.project (is_brief_in (block_in c)) (block_in c).vars =
    ap (λ p. size_among p (is_brief_in seen) seen.vars) is.sizes
    ∙ ap (λ (b : BlockTree). size_among source.project (is_brief_in b) b.vars) same in
    omega (arith, e, far, near, all)

-- where a called name begins lies within what a table may have
pub called_roomy : (source : Source) (block : BlockTree) → HasRoom source block → (name : Name) (hash : Bool) (place : Place)
    → BeginsRoomy source.project 0 (called_begins source (activation block 0) name hash)
called_roomy source block h name hash place = lead (is_word name)
  where
    lead : (word : Bool) → BeginsRoomy source.project 0
        (if word then word_begins source (activation block 0) name.key hash else name_begins source (activation block 0) name.key)
    lead true = root_roomy source block h (Local name hash place)
    lead false = root_roomy source block h (Named name)
