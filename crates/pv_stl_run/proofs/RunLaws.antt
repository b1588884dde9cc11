-- Runs of bodies by what is left of them: arriving, leading ahead and back, and ends.
use Rattle.std.proofs.Common.{◌≡◌, ℕ, zero, suc, ◌<◌, List, [], ◌∷◌, drop, Bool, true, false, Option, Some, None, arith, ap, sym, refl, ◌∙◌}
use Rattle.std.specs.Prelude.{slice_get}
use Rattle.pv_place.specs.declared.place.Place.{Place}
use Rattle.pv_place.specs.declared.trap.TrapKind.{TrapKind}
use Rattle.pv_tree.specs.Tree.{PlacedName, InstrTree}
use Rattle.pv_mean.specs.Sources.{Source}
use Rattle.pv_mean.specs.Frames.{Frame}
use Rattle.pv_mean.specs.Endings.{Ended, ended, trapped, over, and_end}
use Rattle.pv_mean.specs.Activations.{Activation}
use Rattle.pv_mean.specs.Statements.{Calls}
use Rattle.pv_mean.specs.Registers.{Working}
use Rattle.pv_mean.specs.Instructions.{Next, onward, at_label, left, Effect}
use Rattle.pv_mean.specs.InstructionRuns.{here, label, is_named, is_jumped_to, again, turns, arrives, run_instructions}
use Rattle.pv_stl_run.specs.declared.turns.Turn.{Turn}
use Rattle.pv_stl_run.specs.Going.{rest_of, behind_turn, resumed, place_where, range_by, range_of}

-- ---- arriving

plain_here : (source : Source) (l : Option PlacedName) (range : List InstrTree) (body : Effect) (w : Working)
    → range_by range l ≡ None → arrives source l range body w ≡ body w
plain_here source None range body w e = refl
plain_here source (Some n) range body w e = plain_by (is_jumped_to n.0.key range) e where
  plain_by : (b : Bool) → place_where n.1 b ≡ None
      → elim b [ true ↦ turns body n source.bound w | false ↦ body w ] ≡ body w
  plain_by true h = absurd (cc)
  plain_by false h = refl

-- at what begins no range
pub arrives_plainly : (source : Source) (calls : Calls) (act : Activation) (tail : List InstrTree) (w : Working)
    → range_of tail ≡ None → run_instructions source calls act tail here w ≡ rest_of source calls act tail w
arrives_plainly source calls act [] w e = refl
arrives_plainly source calls act (i ∷ more) w e =
    plain_here source i.label (i ∷ more) (λ v. rest_of source calls act (i ∷ more) v) w e

-- a label that begins a range, with its place
record Begins (source : Source) (l : Option PlacedName) (range : List InstrTree) (body : Effect) (w : Working) (place : Place) : Type 0 where
  pub name : PlacedName
  pub is : l ≡ Some name
  pub at : name.1 ≡ place
  pub turns : arrives source l range body w ≡ turns body name source.bound w

range_here : (source : Source) (l : Option PlacedName) (range : List InstrTree) (body : Effect) (w : Working) (place : Place)
    → range_by range l ≡ Some place → Begins source l range body w place
range_here source None range body w place e = absurd (cc)
range_here source (Some n) range body w place e =
    let r = begins_by (is_jumped_to n.0.key range) e in
    record { name = n; is = refl; at = r.0; turns = r.1 } where
      begins_by : (b : Bool) → place_where n.1 b ≡ Some place
          → (n.1 ≡ place) × (elim b [ true ↦ turns body n source.bound w | false ↦ body w ] ≡ turns body n source.bound w)
      begins_by true h = (cc, refl)
      begins_by false h = absurd (cc)

-- at what begins one, with the bound 0
pub arrives_over : (source : Source) (calls : Calls) (act : Activation) (tail : List InstrTree) (w : Working) (place : Place)
    → range_of tail ≡ Some place → source.bound ≡ 0 → run_instructions source calls act tail here w ≡ over place
arrives_over source calls act [] w place e b = absurd (cc)
arrives_over source calls act (i ∷ more) w place e b =
    let r = range_here source i.label (i ∷ more) (λ v. rest_of source calls act (i ∷ more) v) w place e in
    r.turns ∙ ap (λ k. turns (λ v. rest_of source calls act (i ∷ more) v) r.name k w) b ∙ ap over r.at

-- the turns that are left behind a first one
behind_labelled : (source : Source) (calls : Calls) (act : Activation) (i : InstrTree) (more : List InstrTree) (l : PlacedName) (n : ℕ)
    (next : Next) → i.label ≡ Some l
    → behind_turn source calls act (i ∷ more) n next
    ≡ again (λ v. turns (λ x. rest_of source calls act (i ∷ more) x) l n v) l next
behind_labelled source calls act i more l n next e = ap (λ (o : Option PlacedName). elim o [
  | None ↦ ended next
  | Some m ↦ again (λ v. turns (λ x. rest_of source calls act (i ∷ more) x) m n v) m next
]) e

-- one turn of a range, and the others behind it
pub one_turn : (source : Source) (calls : Calls) (act : Activation) (i : InstrTree) (more : List InstrTree) (l : PlacedName) (n : ℕ)
    (w : Working) → i.label ≡ Some l
    → turns (λ x. rest_of source calls act (i ∷ more) x) l (suc n) w
    ≡ and_end (rest_of source calls act (i ∷ more) w) (λ next. behind_turn source calls act (i ∷ more) n next)
one_turn source calls act i more l n w e = sym (same_then (rest_of source calls act (i ∷ more) w)) where
  same_then : (x : Ended Next) → and_end x (λ next. behind_turn source calls act (i ∷ more) n next)
      ≡ and_end x (λ next. again (λ v. turns (λ y. rest_of source calls act (i ∷ more) y) l n v) l next)
  same_then (ended next) = behind_labelled source calls act i more l n next e
  same_then (trapped kind place) = refl
  same_then (over place) = refl

pub arrives_range : (source : Source) (calls : Calls) (act : Activation) (tail : List InstrTree) (w : Working) (place : Place) (n : ℕ)
    → range_of tail ≡ Some place → source.bound ≡ suc n
    → run_instructions source calls act tail here w
    ≡ and_end (rest_of source calls act tail w) (λ next. behind_turn source calls act tail n next)
arrives_range source calls act [] w place n e b = absurd (cc)
arrives_range source calls act (i ∷ more) w place n e b =
    let r = range_here source i.label (i ∷ more) (λ v. rest_of source calls act (i ∷ more) v) w place e in
    r.turns ∙ ap (λ k. turns (λ v. rest_of source calls act (i ∷ more) v) r.name k w) b ∙ one_turn source calls act i more r.name n w r.is

-- ---- ahead

-- the first instruction of the name is sought, so many behind
pub sought : (source : Source) (calls : Calls) (act : Activation) (key : List ℕ) (n : ℕ) (tail : List InstrTree) (goal : InstrTree) (w : Working)
    → ((m : ℕ) (i : InstrTree) → m < n → slice_get tail m ≡ Some i → is_named key i.label ≡ false)
    → slice_get tail n ≡ Some goal → is_named key goal.label ≡ true
    → run_instructions source calls act tail (label key) w ≡ run_instructions source calls act (drop n tail) here w
sought source calls act key zero [] goal w none at named = absurd (cc)
sought source calls act key (suc n) [] goal w none at named = absurd (cc)
sought source calls act key zero (i ∷ more) goal w none at named =
    let same : i ≡ goal = cc in
    let e : is_named key i.label ≡ true = ap (λ x. is_named key x.label) same ∙ named in
    ap (λ (b : Bool). elim b [
      | true ↦ run_instructions source calls act (i ∷ more) here w
      | false ↦ run_instructions source calls act more (label key) w
    ]) e
sought source calls act key (suc n) (i ∷ more) goal w none at named =
    ap (λ (b : Bool). elim b [
      | true ↦ run_instructions source calls act (i ∷ more) here w
      | false ↦ run_instructions source calls act more (label key) w
    ]) (none 0 i (omega arith) refl)
    ∙ sought source calls act key n more goal w (λ m x lt is. none (suc m) x (omega arith) is) at named

-- ---- back

-- no instruction has the name
pub not_found : (source : Source) (calls : Calls) (act : Activation) (key : List ℕ) (tail : List InstrTree) (w : Working)
    → ((m : ℕ) (i : InstrTree) → slice_get tail m ≡ Some i → is_named key i.label ≡ false)
    → run_instructions source calls act tail (label key) w ≡ ended (at_label key w)
not_found source calls act key [] w none = refl
not_found source calls act key (i ∷ more) w none =
    ap (λ (b : Bool). elim b [
      | true ↦ run_instructions source calls act (i ∷ more) here w
      | false ↦ run_instructions source calls act more (label key) w
    ]) (none 0 i refl)
    ∙ not_found source calls act key more w (λ m x is. none (suc m) x is)

-- a range with another label is left
again_other : (turn : Effect) (key : List ℕ) (l : PlacedName) (w : Working) → is_named key (Some l) ≡ false
    → again turn l (at_label key w) ≡ ended (at_label key w)
again_other turn key l w e = ap (λ (b : Bool). elim b [ true ↦ turn w | false ↦ ended (at_label key w) ]) e

again_own : (turn : Effect) (key : List ℕ) (l : PlacedName) (w : Working) → is_named key (Some l) ≡ true
    → again turn l (at_label key w) ≡ turn w
again_own turn key l w e = ap (λ (b : Bool). elim b [ true ↦ turn w | false ↦ ended (at_label key w) ]) e

behind_other_label : (source : Source) (calls : Calls) (act : Activation) (i : InstrTree) (more : List InstrTree) (key : List ℕ) (n : ℕ) (w : Working)
    (l : Option PlacedName) → is_named key l ≡ false
    → elim l [ None ↦ ended (at_label key w) | Some m ↦ again (λ v. turns (λ x. rest_of source calls act (i ∷ more) x) m n v) m (at_label key w) ]
    ≡ ended (at_label key w)
behind_other_label source calls act i more key n w None e = refl
behind_other_label source calls act i more key n w (Some m) e =
    again_other (λ v. turns (λ x. rest_of source calls act (i ∷ more) x) m n v) key m w e

pub behind_other : (source : Source) (calls : Calls) (act : Activation) (tail : List InstrTree) (key : List ℕ) (n : ℕ) (w : Working)
    → ((i : InstrTree) → slice_get tail 0 ≡ Some i → is_named key i.label ≡ false)
    → behind_turn source calls act tail n (at_label key w) ≡ ended (at_label key w)
behind_other source calls act [] key n w none = refl
behind_other source calls act (i ∷ more) key n w none = behind_other_label source calls act i more key n w i.label (none i refl)

record Owns (source : Source) (calls : Calls) (act : Activation) (i : InstrTree) (more : List InstrTree) (key : List ℕ) (n : ℕ)
    (w : Working) (l : Option PlacedName) : Type 0 where
  pub name : PlacedName
  pub is : l ≡ Some name
  pub turns : elim l [ None ↦ ended (at_label key w) | Some k ↦ again (λ v. turns (λ x. rest_of source calls act (i ∷ more) x) k n v) k (at_label key w) ]
      ≡ turns (λ x. rest_of source calls act (i ∷ more) x) name n w

own_label : (source : Source) (calls : Calls) (act : Activation) (i : InstrTree) (more : List InstrTree) (key : List ℕ) (n : ℕ) (w : Working)
    (l : Option PlacedName) → is_named key l ≡ true → Owns source calls act i more key n w l
own_label source calls act i more key n w None e = absurd (cc)
own_label source calls act i more key n w (Some m) e =
    record { name = m; is = refl; turns = again_own (λ v. turns (λ x. rest_of source calls act (i ∷ more) x) m n v) key m w e }

-- back at the label of the range: one more turn
pub behind_own : (source : Source) (calls : Calls) (act : Activation) (i : InstrTree) (more : List InstrTree) (key : List ℕ) (n : ℕ) (w : Working)
    → is_named key i.label ≡ true
    → behind_turn source calls act (i ∷ more) (suc n) (at_label key w)
    ≡ and_end (rest_of source calls act (i ∷ more) w) (λ next. behind_turn source calls act (i ∷ more) n next)
behind_own source calls act i more key n w e =
    let r = own_label source calls act i more key (suc n) w i.label e in
    r.turns ∙ one_turn source calls act i more r.name n w r.is

-- with no turn left it is over there
pub behind_over : (source : Source) (calls : Calls) (act : Activation) (i : InstrTree) (more : List InstrTree) (key : List ℕ) (place : Place)
    (w : Working) → is_named key i.label ≡ true → range_of (i ∷ more) ≡ Some place
    → behind_turn source calls act (i ∷ more) 0 (at_label key w) ≡ over place
behind_over source calls act i more key place w e range =
    let r = own_label source calls act i more key 0 w i.label e in
    let s = range_here source i.label (i ∷ more) (λ v. rest_of source calls act (i ∷ more) v) w place range in
    let both : Some r.name ≡ Some s.name = sym r.is ∙ s.is in
    let same : r.name ≡ s.name = cc in
    r.turns ∙ ap (λ (m : PlacedName). over m.1) same ∙ ap over s.at

-- ---- ends

-- what ends in none of the ways that a range goes on from
pub resumed_trap : (source : Source) (calls : Calls) (act : Activation) (all : List InstrTree) (ts : List Turn) (kind : TrapKind) (place : Place)
    → resumed source calls act all ts (trapped kind place) ≡ trapped kind place
resumed_trap source calls act all [] kind place = refl
resumed_trap source calls act all (t ∷ ts) kind place = resumed_trap source calls act all ts kind place

pub resumed_over : (source : Source) (calls : Calls) (act : Activation) (all : List InstrTree) (ts : List Turn) (place : Place)
    → resumed source calls act all ts (over place) ≡ over place
resumed_over source calls act all [] place = refl
resumed_over source calls act all (t ∷ ts) place = resumed_over source calls act all ts place

behind_left : (source : Source) (calls : Calls) (act : Activation) (tail : List InstrTree) (n : ℕ) (frame : Frame)
    → behind_turn source calls act tail n (left frame) ≡ ended (left frame)
behind_left source calls act [] n frame = refl
behind_left source calls act (i ∷ more) n frame = by_label i.label where
  by_label : (l : Option PlacedName)
      → elim l [ None ↦ ended (left frame) | Some m ↦ again (λ v. turns (λ x. rest_of source calls act (i ∷ more) x) m n v) m (left frame) ]
      ≡ ended (left frame)
  by_label None = refl
  by_label (Some m) = refl

pub resumed_left : (source : Source) (calls : Calls) (act : Activation) (all : List InstrTree) (ts : List Turn) (frame : Frame)
    → resumed source calls act all ts (ended (left frame)) ≡ ended (left frame)
resumed_left source calls act all [] frame = refl
resumed_left source calls act all (t ∷ ts) frame =
    ap (resumed source calls act all ts) (behind_left source calls act (drop t.at all) t.left frame)
    ∙ resumed_left source calls act all ts frame

behind_onward : (source : Source) (calls : Calls) (act : Activation) (tail : List InstrTree) (n : ℕ) (w : Working)
    → behind_turn source calls act tail n (onward w) ≡ ended (onward w)
behind_onward source calls act [] n w = refl
behind_onward source calls act (i ∷ more) n w = by_label i.label where
  by_label : (l : Option PlacedName)
      → elim l [ None ↦ ended (onward w) | Some m ↦ again (λ v. turns (λ x. rest_of source calls act (i ∷ more) x) m n v) m (onward w) ]
      ≡ ended (onward w)
  by_label None = refl
  by_label (Some m) = refl

pub resumed_onward : (source : Source) (calls : Calls) (act : Activation) (all : List InstrTree) (ts : List Turn) (w : Working)
    → resumed source calls act all ts (ended (onward w)) ≡ ended (onward w)
resumed_onward source calls act all [] w = refl
resumed_onward source calls act all (t ∷ ts) w =
    ap (resumed source calls act all ts) (behind_onward source calls act (drop t.at all) t.left w)
    ∙ resumed_onward source calls act all ts w
