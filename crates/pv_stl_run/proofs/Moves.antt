-- The moves of a body: arriving at a position, and going back to one.
use Rattle.std.proofs.Common.{◌≡◌, ◌≢◌, ℕ, zero, suc, ◌+◌, ◌*◌, ◌<◌, ◌≤◌, List, [], ◌∷◌, length, drop, Bool, true, false, Option, Some, None, inl, inr, arith, ap, sym, subst, refl, ◌∙◌}
use Rattle.std.proofs.Math.ListN.{set}
use Rattle.std.proofs.lemmas.Option.{slice_get_within, slice_get_past}
use Rattle.std.proofs.lemmas.Bool.{cases_eq, eqb-true, eqb-false}
use Rattle.std.specs.Prelude.{slice_get, nat_eq}
use Rattle.pv_place.specs.declared.place.Place.{Place}
use Rattle.pv_tree.specs.Tree.{InstrTree}
use Rattle.pv_mean.specs.Sources.{Source}
use Rattle.pv_mean.specs.Endings.{ended, over, and_end}
use Rattle.pv_mean.specs.Activations.{Activation}
use Rattle.pv_mean.specs.Statements.{Calls}
use Rattle.pv_mean.specs.Registers.{Working}
use Rattle.pv_mean.specs.Instructions.{at_label}
use Rattle.pv_mean.specs.InstructionRuns.{here, is_named, run_instructions}
use Rattle.pv_stl_run.specs.declared.instr.Instr.{Instr}
use Rattle.pv_stl_run.specs.declared.turns.Turn.{Turn}
use Rattle.pv_stl_run.specs.Going.{turn_at, entered_of, rest_of, behind_turn, resumed, range_at, range_of, HasRanges, IsBack, left_to, Entered, Nested, ranges_in, most_from, most_in, most_behind}
use Rattle.pv_stl_run.proofs.RunLaws.{arrives_plainly, arrives_over, arrives_range, behind_other, behind_own, behind_over, resumed_over}
use Rattle.pv_stl_run.proofs.TurnLaws.{drop_at, drop_past, get_dropped, get_below, get_own, entered_one, range_entered, ranges_next, ranges_all, ranges_more}

-- the instruction of the tree at a position of the code
pub tree_beside : (code : List Instr) (all : List InstrTree) (k : ℕ) (c : Instr) → length code ≡ length all → slice_get code k ≡ Some c
    → (i : InstrTree) × (slice_get all k ≡ Some i)
tree_beside code all k c same e = found all k (let lt : k < length code = slice_get_within code k c e in omega arith) where
  found : {A : Type 0} (xs : List A) (n : ℕ) → n < length xs → (x : A) × (slice_get xs n ≡ Some x)
  found [] n lt = absurd (omega arith)
  found (x ∷ xs) zero lt = (x, refl)
  found (x ∷ xs) (suc n) lt = found xs n (omega arith)

pub tree_at : (code : List Instr) (all : List InstrTree) (k : ℕ) (c : Instr) → HasRanges code all → slice_get code k ≡ Some c
    → (i : InstrTree) × (slice_get all k ≡ Some i)
tree_at code all k c h e = tree_beside code all k c h.same e

none_past : {A : Type 0} (xs : List A) (k : ℕ) → slice_get xs k ≡ None → length xs ≤ k
none_past [] k e = omega arith
none_past (x ∷ xs) zero e = absurd (cc)
none_past (x ∷ xs) (suc k) e = omega (arith, none_past xs k e)

pub tree_past : (code : List Instr) (all : List InstrTree) (k : ℕ) → HasRanges code all → slice_get code k ≡ None → drop k all ≡ []
tree_past code all k h e = drop_past all k (slice_get_past all k (omega (arith, none_past code k e, h.same)))

-- ---- arriving

pub arrived_past : (source : Source) (calls : Calls) (act : Activation) (all : List InstrTree) (w : Working) (code : List Instr) (at : ℕ)
    (ts : List Turn) → HasRanges code all → slice_get code at ≡ None
    → resumed source calls act all ts (rest_of source calls act (drop at all) w)
    ≡ resumed source calls act all ts (run_instructions source calls act (drop at all) here w)
arrived_past source calls act all w code at ts h e = ap (λ (x : List InstrTree). resumed source calls act all ts (rest_of source calls act x w)) (tree_past code all at h e)
    ∙ sym (ap (λ (x : List InstrTree). resumed source calls act all ts (run_instructions source calls act x here w)) (tree_past code all at h e))

pub arrived_plain : (source : Source) (calls : Calls) (act : Activation) (all : List InstrTree) (w : Working) (code : List Instr) (at : ℕ) (c : Instr)
    (ts : List Turn) → HasRanges code all → slice_get code at ≡ Some c → c.range ≡ None
    → resumed source calls act all ts (rest_of source calls act (drop at all) w)
    ≡ resumed source calls act all ts (run_instructions source calls act (drop at all) here w)
arrived_plain source calls act all w code at c ts h e r =
    sym (ap (resumed source calls act all ts) (arrives_plainly source calls act (drop at all) w (sym (h.each at c e) ∙ r)))

pub arrived_over : (source : Source) (calls : Calls) (act : Activation) (all : List InstrTree) (w : Working) (code : List Instr) (at : ℕ) (c : Instr)
    (place : Place) (ts : List Turn) → HasRanges code all → slice_get code at ≡ Some c → c.range ≡ Some place → source.bound ≡ 0
    → over place ≡ resumed source calls act all ts (run_instructions source calls act (drop at all) here w)
arrived_over source calls act all w code at c place ts h e r b =
    sym (ap (resumed source calls act all ts) (arrives_over source calls act (drop at all) w place (sym (h.each at c e) ∙ r) b)
    ∙ resumed_over source calls act all ts place)

pub arrived_in : (source : Source) (calls : Calls) (act : Activation) (all : List InstrTree) (w : Working) (code : List Instr) (at : ℕ) (c : Instr)
    (place : Place) (old new : List Turn) (entered m n : ℕ) (t : Turn)
    → HasRanges code all → slice_get code at ≡ Some c → c.range ≡ Some place → source.bound ≡ suc n
    → entered < length old → new ≡ set old entered t → t.at ≡ at → t.left ≡ n → m ≡ suc entered
    → resumed source calls act all (entered_of new m) (rest_of source calls act (drop at all) w)
    ≡ resumed source calls act all (entered_of old entered) (run_instructions source calls act (drop at all) here w)
arrived_in source calls act all w code at c place old new entered m n t h e r b lt is at_is left_is count =
    ap (λ k. resumed source calls act all (entered_of new k) (rest_of source calls act (drop at all) w)) count
    ∙ ap (λ (xs : List Turn). resumed source calls act all (entered_of xs (suc entered)) (rest_of source calls act (drop at all) w)) is
    ∙ ap (λ ts. resumed source calls act all ts (rest_of source calls act (drop at all) w)) (entered_one old entered t lt)
    ∙ ap (λ k. resumed source calls act all (entered_of old entered) (and_end (rest_of source calls act (drop at all) w)
    (λ next. behind_turn source calls act (drop k all) t.left next))) at_is
    ∙ ap (λ k. resumed source calls act all (entered_of old entered) (and_end (rest_of source calls act (drop at all) w)
    (λ next. behind_turn source calls act (drop at all) k next))) left_is
    ∙ sym (ap (resumed source calls act all (entered_of old entered))
    (arrives_range source calls act (drop at all) w place n (sym (h.each at c e) ∙ r) b))

-- there is room for one more
pub has_room : (code : List Instr) (old : List Turn) (entered at : ℕ) (c : Instr) (place : Place) → slice_get code at ≡ Some c
    → c.range ≡ Some place → Nested code old entered at → ranges_in code ≤ length old → entered < length old
has_room code old entered at c place e r nested room =
    omega (arith, ranges_next code at c place e r, ranges_all code (suc at), nested.few, room)

pub nested_in : (code : List Instr) (old new : List Turn) (entered at m : ℕ) (c : Instr) (place : Place) (t : Turn)
    → slice_get code at ≡ Some c → c.range ≡ Some place → Nested code old entered at → entered < length old
    → new ≡ set old entered t → t.at ≡ at → m ≡ suc entered → Nested code new m (suc at)
nested_in code old new entered at m c place t e r nested lt is at_is count =
    subst (λ (xs : List Turn). Nested code xs m (suc at)) (sym is) (subst (λ k. Nested code (set old entered t) k (suc at)) (sym count) (record {
      few = omega (arith, ranges_next code at c place e r, nested.few);
      each = λ d below. by_place d (nested_below d) below;
    })) where
      nested_below : (d : ℕ) → d < entered → Entered code d (turn_at (slice_get (set old entered t) d)).at
      nested_below d lower = subst (λ (o : Option Turn). Entered code d (turn_at o).at) (sym (get_below old entered d t lower)) (nested.each d lower)

      own : Entered code entered at
      own = record {
        begin = c;
        is = e;
        label = place;
        range = r;
        few = omega (arith, ranges_next code at c place e r, nested.few);
      }

      by_place : (d : ℕ) → (d < entered → Entered code d (turn_at (slice_get (set old entered t) d)).at) → d < suc entered
          → Entered code d (turn_at (slice_get (set old entered t) d)).at
      by_place d low below = elim (cases_eq d entered) [
        | inl same ↦ subst (λ k. Entered code k (turn_at (slice_get (set old entered t) k)).at) (sym same)
            (subst (λ (o : Option Turn). Entered code entered (turn_at o).at) (sym (get_own old entered t lt))
            (subst (λ k. Entered code entered k) (sym at_is) own))
        | inr other ↦ low (omega arith)
      ]

-- ---- back

-- a turn that another position has is left
left_by : (at : ℕ) (old : List Turn) (n : ℕ) (b : Bool) → nat_eq (turn_at (slice_get old n)).at at ≡ b
    → left_to at old (suc n) ≡ elim b [ true ↦ suc n | false ↦ left_to at old n ]
left_by at old n b e = ap (λ (x : Bool). elim x [ true ↦ suc n | false ↦ left_to at old n ]) e

pub left_few : (at : ℕ) (old : List Turn) (n : ℕ) → left_to at old n ≤ n
left_few at old zero = omega arith
left_few at old (suc n) = few_by (nat_eq (turn_at (slice_get old n)).at at) (left_few at old n) where
  few_by : (b : Bool) → left_to at old n ≤ n → elim b [ true ↦ suc n | false ↦ left_to at old n ] ≤ suc n
  few_by true h = omega arith
  few_by false h = omega arith

-- the last turn that is left is the position's
pub left_own : (at : ℕ) (old : List Turn) (n m : ℕ) → left_to at old n ≡ suc m → (turn_at (slice_get old m)).at ≡ at
left_own at old zero m e = absurd (omega arith)
left_own at old (suc n) m e = own_by (nat_eq (turn_at (slice_get old n)).at at) refl (λ h. left_own at old n m h) where
  own_by : (b : Bool) → nat_eq (turn_at (slice_get old n)).at at ≡ b → (left_to at old n ≡ suc m → (turn_at (slice_get old m)).at ≡ at)
      → (turn_at (slice_get old m)).at ≡ at
  own_by true h before =
      let same : suc n ≡ suc m = sym (left_by at old n true h) ∙ e in
      let k : m ≡ n = omega arith in
      ap (λ j. (turn_at (slice_get old j)).at) k ∙ eqb-true _ _ h
  own_by false h before = before (sym (left_by at old n false h) ∙ e)

-- a list whose first is none is the first of what was dropped
first_named : (all : List InstrTree) (k to : ℕ) (key : List ℕ) (at : ℕ) → IsBack all k key to → at ≢ to
    → (i : InstrTree) → slice_get (drop at all) 0 ≡ Some i → is_named key i.label ≡ false
first_named all k to key at back other i e =
    back.others at i other (sym (get_dropped all at 0 at (omega arith)) ∙ e)

pub left_resumed : (source : Source) (calls : Calls) (act : Activation) (all : List InstrTree) (k at : ℕ) (key : List ℕ) (w : Working)
    (old : List Turn) (n : ℕ) → IsBack all k key at
    → resumed source calls act all (entered_of old n) (ended (at_label key w))
    ≡ resumed source calls act all (entered_of old (left_to at old n)) (ended (at_label key w))
left_resumed source calls act all k at key w old zero back = refl
left_resumed source calls act all k at key w old (suc n) back = by_turn (nat_eq (turn_at (slice_get old n)).at at) refl
    (left_resumed source calls act all k at key w old n back) where
      by_turn : (b : Bool) → nat_eq (turn_at (slice_get old n)).at at ≡ b
          → resumed source calls act all (entered_of old n) (ended (at_label key w))
          ≡ resumed source calls act all (entered_of old (left_to at old n)) (ended (at_label key w))
          → resumed source calls act all (entered_of old (suc n)) (ended (at_label key w))
          ≡ resumed source calls act all (entered_of old (left_to at old (suc n))) (ended (at_label key w))
      by_turn true h before = ap (λ m. resumed source calls act all (entered_of old m) (ended (at_label key w))) (sym (left_by at old n true h))
      by_turn false h before =
          let t = turn_at (slice_get old n) in
          ap (resumed source calls act all (entered_of old n)) (behind_other source calls act (drop t.at all) key t.left w
          (first_named all k at key t.at back (λ same. eqb-false _ _ h same)))
          ∙ before
          ∙ ap (λ m. resumed source calls act all (entered_of old m) (ended (at_label key w))) (sym (left_by at old n false h))

-- where none is left the block ends at the label
pub returned_none : (source : Source) (calls : Calls) (act : Activation) (all : List InstrTree) (k at : ℕ) (key : List ℕ) (w : Working)
    (old : List Turn) (entered n : ℕ) → IsBack all k key at → n ≡ left_to at old entered → n ≡ 0
    → ended (at_label key w) ≡ resumed source calls act all (entered_of old entered) (ended (at_label key w))
returned_none source calls act all k at key w old entered n back is none =
    sym (left_resumed source calls act all k at key w old entered back
    ∙ ap (λ m. resumed source calls act all (entered_of old m) (ended (at_label key w))) (sym is ∙ none))

-- the turn of the label, and the instruction there
record Gone (code : List Instr) (all : List InstrTree) (at : ℕ) (key : List ℕ) : Type 0 where
  pub begin : Instr
  pub is : slice_get code at ≡ Some begin
  pub place : Place
  pub range : begin.range ≡ Some place
  pub goal : InstrTree
  pub front : drop at all ≡ goal ∷ drop (suc at) all
  pub named : is_named key goal.label ≡ true

gone : (code : List Instr) (all : List InstrTree) (k at : ℕ) (key : List ℕ) (old : List Turn) (entered m limit : ℕ)
    → HasRanges code all → Nested code old entered limit → IsBack all k key at → left_to at old entered ≡ suc m
    → Gone code all at key
gone code all k at key old entered m limit h nested back e =
    let own : (turn_at (slice_get old m)).at ≡ at = left_own at old entered m e in
    let few : m < entered = omega (arith, left_few at old entered) in
    let its : Entered code m at = subst (λ j. Entered code m j) own (nested.each m few) in
    let found = tree_at code all at its.begin h its.is in
    record {
      begin = its.begin;
      is = its.is;
      place = its.label;
      range = its.range;
      goal = found.0;
      front = drop_at all at found.0 found.1;
      named = back.named found.0 found.1;
    }

back_to : (source : Source) (calls : Calls) (act : Activation) (all : List InstrTree) (k at : ℕ) (key : List ℕ) (w : Working)
    (old : List Turn) (entered m left : ℕ) → IsBack all k key at → left_to at old entered ≡ suc m → (turn_at (slice_get old m)).left ≡ left
    → resumed source calls act all (entered_of old entered) (ended (at_label key w))
    ≡ resumed source calls act all (entered_of old m) (behind_turn source calls act (drop at all) left (at_label key w))
back_to source calls act all k at key w old entered m left back e l =
    left_resumed source calls act all k at key w old entered back
    ∙ ap (λ j. resumed source calls act all (entered_of old j) (ended (at_label key w))) e
    ∙ ap (λ j. resumed source calls act all (entered_of old m) (behind_turn source calls act (drop j all) (turn_at (slice_get old m)).left (at_label key w)))
    (left_own at old entered m e)
    ∙ ap (λ j. resumed source calls act all (entered_of old m) (behind_turn source calls act (drop at all) j (at_label key w))) l

pub returned_over : (source : Source) (calls : Calls) (act : Activation) (all : List InstrTree) (k at : ℕ) (key : List ℕ) (w : Working)
    (code : List Instr) (old : List Turn) (entered m limit : ℕ) (c : Instr) (place : Place)
    → HasRanges code all → Nested code old entered limit → IsBack all k key at → left_to at old entered ≡ suc m
    → (turn_at (slice_get old m)).left ≡ 0 → slice_get code at ≡ Some c → c.range ≡ Some place
    → over place ≡ resumed source calls act all (entered_of old entered) (ended (at_label key w))
returned_over source calls act all k at key w code old entered m limit c place h nested back e l is range =
    let g = gone code all k at key old entered m limit h nested back e in
    sym (back_to source calls act all k at key w old entered m 0 back e l
    ∙ ap (λ (x : List InstrTree). resumed source calls act all (entered_of old m) (behind_turn source calls act x 0 (at_label key w))) g.front
    ∙ ap (resumed source calls act all (entered_of old m)) (behind_over source calls act g.goal (drop (suc at) all) key place w g.named
    (ap range_of (sym g.front) ∙ sym (h.each at c is) ∙ range))
    ∙ resumed_over source calls act all (entered_of old m) place)

-- a range without a turn is begun there, so its label has a place
pub returned_placed : (code : List Instr) (all : List InstrTree) (k at : ℕ) (key : List ℕ) (old : List Turn) (entered m limit : ℕ)
    → HasRanges code all → Nested code old entered limit → IsBack all k key at → left_to at old entered ≡ suc m
    → (c : Instr) × (slice_get code at ≡ Some c) × (place : Place) × (c.range ≡ Some place)
returned_placed code all k at key old entered m limit h nested back e =
    let g = gone code all k at key old entered m limit h nested back e in (g.begin, g.is, g.place, g.range)

pub returned_turn : (source : Source) (calls : Calls) (act : Activation) (all : List InstrTree) (k at : ℕ) (key : List ℕ) (w : Working)
    (code : List Instr) (old new : List Turn) (entered m n left limit : ℕ) (t : Turn)
    → HasRanges code all → Nested code old entered limit → IsBack all k key at → left_to at old entered ≡ suc m
    → (turn_at (slice_get old m)).left ≡ suc left → m < length old → new ≡ set old m t → t.at ≡ at → t.left ≡ left → n ≡ suc m
    → resumed source calls act all (entered_of new n) (rest_of source calls act (drop at all) w)
    ≡ resumed source calls act all (entered_of old entered) (ended (at_label key w))
returned_turn source calls act all k at key w code old new entered m n left limit t h nested back e l lt is at_is left_is count =
    let g = gone code all k at key old entered m limit h nested back e in
    ap (λ j. resumed source calls act all (entered_of new j) (rest_of source calls act (drop at all) w)) count
    ∙ ap (λ (xs : List Turn). resumed source calls act all (entered_of xs (suc m)) (rest_of source calls act (drop at all) w)) is
    ∙ ap (λ ts. resumed source calls act all ts (rest_of source calls act (drop at all) w)) (entered_one old m t lt)
    ∙ ap (λ j. resumed source calls act all (entered_of old m) (and_end (rest_of source calls act (drop at all) w)
    (λ next. behind_turn source calls act (drop j all) t.left next))) at_is
    ∙ ap (λ j. resumed source calls act all (entered_of old m) (and_end (rest_of source calls act (drop at all) w)
    (λ next. behind_turn source calls act (drop at all) j next))) left_is
    ∙ ap (λ (x : List InstrTree). resumed source calls act all (entered_of old m) (and_end (rest_of source calls act x w)
    (λ next. behind_turn source calls act x left next))) g.front
    ∙ sym (back_to source calls act all k at key w old entered m (suc left) back e l
    ∙ ap (λ (x : List InstrTree). resumed source calls act all (entered_of old m) (behind_turn source calls act x (suc left) (at_label key w))) g.front
    ∙ ap (resumed source calls act all (entered_of old m)) (behind_own source calls act g.goal (drop (suc at) all) key left w g.named))

pub nested_back : (code : List Instr) (old new : List Turn) (at entered m n limit : ℕ) (t : Turn)
    → Nested code old entered limit → left_to at old entered ≡ suc m → m < length old → new ≡ set old m t → t.at ≡ at → n ≡ suc m
    → Nested code new n (suc at)
nested_back code old new at entered m n limit t nested e lt is at_is count =
    let own : Entered code m at = subst (λ j. Entered code m j) (left_own at old entered m e) (nested.each m (omega (arith, left_few at old entered))) in
    subst (λ (xs : List Turn). Nested code xs n (suc at)) (sym is) (subst (λ j. Nested code (set old m t) j (suc at)) (sym count) (record {
      few = omega (arith, own.few);
      each = λ d below. by_place d own below;
    })) where
      by_place : (d : ℕ) → Entered code m at → d < suc m → Entered code d (turn_at (slice_get (set old m t) d)).at
      by_place d own below = elim (cases_eq d m) [
        | inl same ↦ subst (λ j. Entered code j (turn_at (slice_get (set old m t) j)).at) (sym same)
            (subst (λ (o : Option Turn). Entered code m (turn_at o).at) (sym (get_own old m t lt)) (subst (λ j. Entered code m j) (sym at_is) own))
        | inr other ↦ let low : d < m = omega arith in
            subst (λ (o : Option Turn). Entered code d (turn_at o).at) (sym (get_below old m d t low))
            (nested.each d (omega (arith, left_few at old entered)))
      ]

-- ---- how much is left

pub most_in_arrived : (bound n : ℕ) (code : List Instr) (old new : List Turn) (entered at m : ℕ) (c : Instr) (place : Place) (t : Turn)
    → slice_get code at ≡ Some c → c.range ≡ Some place → bound ≡ suc n → entered < length old → new ≡ set old entered t → t.at ≡ at
    → t.left ≡ n → m ≡ suc entered
    → most_from bound (drop at code) + most_in bound code (entered_of new m)
    ≤ most_behind bound (drop at code) + most_in bound code (entered_of old entered)
most_in_arrived bound n code old new entered at m c place t e r b lt is at_is left_is count =
    let p : most_in bound code (entered_of new m) ≡ n * most_from bound (drop at code) + most_in bound code (entered_of old entered) =
    ap (λ j. most_in bound code (entered_of new j)) count
    ∙ ap (λ (xs : List Turn). most_in bound code (entered_of xs (suc entered))) is
    ∙ ap (most_in bound code) (entered_one old entered t lt)
    ∙ ap (λ j. t.left * most_from bound (drop j code) + most_in bound code (entered_of old entered)) at_is
    ∙ ap (λ j. j * most_from bound (drop at code) + most_in bound code (entered_of old entered)) left_is in
    omega (arith, p, range_entered bound n code at c place (most_in bound code (entered_of old entered)) e r b)

in_fewer : (bound : ℕ) (code : List Instr) (old : List Turn) (n m : ℕ) → m ≤ n
    → most_in bound code (entered_of old m) ≤ most_in bound code (entered_of old n)
in_fewer bound code old zero m h = let z : m ≡ 0 = omega arith in omega (arith, ap (λ j. most_in bound code (entered_of old j)) z)
in_fewer bound code old (suc n) m h = elim (cases_eq m (suc n)) [
  | inl same ↦ omega (arith, ap (λ j. most_in bound code (entered_of old j)) same)
  | inr other ↦ omega (
    arith,
    in_fewer bound code old n m (omega arith),
    more (turn_at (slice_get old n)).left
        (most_from bound (drop (turn_at (slice_get old n)).at code)) (most_in bound code (entered_of old n)),
  )
] where
  more : (a b c : ℕ) → c ≤ a * b + c
  more a b c = omega arith

pub most_in_returned : (bound left : ℕ) (code : List Instr) (old new : List Turn) (entered at m n : ℕ) (t : Turn)
    → left_to at old entered ≡ suc m → (turn_at (slice_get old m)).left ≡ suc left → m < length old → new ≡ set old m t → t.at ≡ at
    → t.left ≡ left → n ≡ suc m
    → most_from bound (drop at code) + most_in bound code (entered_of new n) ≤ most_in bound code (entered_of old entered)
most_in_returned bound left code old new entered at m n t e l lt is at_is left_is count =
    let p : most_in bound code (entered_of new n) ≡ left * most_from bound (drop at code) + most_in bound code (entered_of old m) =
    ap (λ j. most_in bound code (entered_of new j)) count
    ∙ ap (λ (xs : List Turn). most_in bound code (entered_of xs (suc m))) is
    ∙ ap (most_in bound code) (entered_one old m t lt)
    ∙ ap (λ j. t.left * most_from bound (drop j code) + most_in bound code (entered_of old m)) at_is
    ∙ ap (λ j. j * most_from bound (drop at code) + most_in bound code (entered_of old m)) left_is in
    let q : most_in bound code (entered_of old (suc m)) ≡ suc left * most_from bound (drop at code) + most_in bound code (entered_of old m) =
    ap (λ j. (turn_at (slice_get old m)).left * most_from bound (drop j code) + most_in bound code (entered_of old m)) (left_own at old entered m e)
    ∙ ap (λ j. j * most_from bound (drop at code) + most_in bound code (entered_of old m)) l in
    let f : suc m ≤ entered = omega (arith, left_few at old entered) in
    omega (arith, p, q, in_fewer bound code old entered (suc m) f)

-- ---- for the moves of the code

pub nested_on : (code : List Instr) (old : List Turn) (entered j k : ℕ) → Nested code old entered j → j ≤ k → Nested code old entered k
nested_on code old entered j k nested le = record { few = omega (arith, nested.few, ranges_more code j k le); each = nested.each }

pub arrived_none : (source : Source) (calls : Calls) (act : Activation) (all : List InstrTree) (w : Working) (code : List Instr) (at : ℕ)
    (ts : List Turn) → HasRanges code all → None ≡ range_at code at
    → resumed source calls act all ts (rest_of source calls act (drop at all) w)
    ≡ resumed source calls act all ts (run_instructions source calls act (drop at all) here w)
arrived_none source calls act all w code at ts h e = by_found (slice_get code at) refl e where
  by_found : (o : Option Instr) → slice_get code at ≡ o → ◌≡◌ {A = Option Place} None (elim o [ None ↦ None | Some c ↦ c.range ])
      → resumed source calls act all ts (rest_of source calls act (drop at all) w)
      ≡ resumed source calls act all ts (run_instructions source calls act (drop at all) here w)
  by_found None is none = arrived_past source calls act all w code at ts h is
  by_found (Some c) is none = arrived_plain source calls act all w code at c ts h is (sym none)
