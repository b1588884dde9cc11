-- Single steps do what the run of instructions from one on does: down the instructions, and at each label over the turns that are left.
-- Where a stretch hands on a jump, its label stands before the stretch: one that was passed over has a range that the stretch doesn't
-- come back into, since it can't be entered elsewhere than at its label.
use Rattle.std.proofs.Common.{◌≡◌, ◌⊎◌, inl, inr, ℕ, zero, suc, ◌+◌, ◌<◌, ◌≤◌, List, [], ◌∷◌, drop, Bool, true, false, cond, ◌&&◌, Option, Some, None, refl, sym, ap, subst, ◌∙◌, arith}
use Rattle.std.specs.Prelude.{⊤, slice_get, IsSomeAnd}
use Rattle.std.proofs.lemmas.Bool.{true≢false, false≢true, eq-eqb, ne_eqb, lt-ltb, le-ltb, le-leb, lt-leb}
use Rattle.std.proofs.lemmas.Option.{none-some}
use Rattle.pv_place.specs.declared.place.Place.{Place}
use Rattle.pv_tree.specs.Tree.{PlacedName, InstrTree}
use Rattle.pv_tree.specs.InstructionGroups.{label_of_jump}
use Rattle.pv_tree.specs.Rules.Jumps.{Jumps, Enters}
use Rattle.pv_mean.specs.Sources.{Source}
use Rattle.pv_mean.specs.Frames.{Frame}
use Rattle.pv_mean.specs.Endings.{Ended, ended, trapped, over, and_end}
use Rattle.pv_mean.specs.Activations.{Activation}
use Rattle.pv_mean.specs.Statements.{Calls}
use Rattle.pv_mean.specs.Registers.{Working, fresh}
use Rattle.pv_mean.specs.Instructions.{Next, onward, at_label, left, Effect, step}
use Rattle.pv_mean.specs.InstructionRuns.{Sought, here, label, is_named, is_jumped_to, again, turns, arrives, follow, run_instructions, frame_left, run_stl}
use Rattle.pv_laws_steps.specs.Machine.{State, goes, stops, place_of_label, jumps_from, range_label, comes_from_inside, turn_of, with_turn, arrival, moved_by, moved, single, Runs, ending, going, first_state}
use Rattle.pv_laws_steps.proofs.Jumping.{LeadsToLabel, step_leads}
use Rattle.pv_laws_steps.proofs.Labels.{same_some, got_at, next_drop, none_at, none_behind, named_is, is_so_named, Labelled, place_labelled, place_first, jumps_there, LastJump, last_jump, none_farther}

-- ---- steps one after another

data Leads (source : Source) (calls : Calls) (act : Activation) (instructions : List InstrTree) : State → State → Type 0 where
  none : {s : State} → Leads source calls act instructions s s
  by : {s t u : State} → single source calls act instructions s ≡ goes t → Leads source calls act instructions t u
      → Leads source calls act instructions s u

leads_then : {source : Source} {calls : Calls} {act : Activation} {instructions : List InstrTree} {s t u : State}
    → Leads source calls act instructions s t → Leads source calls act instructions t u → Leads source calls act instructions s u
leads_then none l = l
leads_then (by e k) l = by e (leads_then k l)

-- the step of a jump, from where a stretch hands it on: its label stands before instruction k, what was counted of the labels before is
-- as it was, and the stretch hasn't come back into a range that it had left
record HandsOn (source : Source) (calls : Calls) (act : Activation) (instructions : List InstrTree) (k lower : ℕ) (s : State)
    (counted : ℕ → ℕ) (key : List ℕ) (w : Working) : Type 0 where
  stop : State
  leads : Leads source calls act instructions s stop
  goal : ℕ
  after : ℕ → ℕ
  is : place_of_label key instructions ≡ Some goal
  below : goal < k
  steps : single source calls act instructions stop
      ≡ goes (record { from = Some stop.next; next = goal; working = w; turns = after })
  same : (j : ℕ) → j < k → after j ≡ counted j
  jumps : jumps_from instructions stop.next key ≡ true
  from : lower ≤ stop.next
  apart : (f : ℕ) (other : List ℕ) → f < k → place_of_label other instructions ≡ Some f → jumps_from instructions s.next other ≡ false
      → jumps_from instructions stop.next other ≡ false

-- the steps from a state end so
record Stops (source : Source) (calls : Calls) (act : Activation) (instructions : List InstrTree) (s : State) (end : Ended Frame) : Type 0 where
  stop : State
  leads : Leads source calls act instructions s stop
  steps : single source calls act instructions stop ≡ stops end

-- they come to the end of the instructions
record Passes (source : Source) (calls : Calls) (act : Activation) (instructions : List InstrTree) (s : State) (w : Working) : Type 0 where
  stop : State
  leads : Leads source calls act instructions s stop
  behind : slice_get instructions stop.next ≡ None
  works : stop.working ≡ w

-- from a state the steps do what a stretch of instructions does
abbrev Does : Source → Calls → Activation → List InstrTree → ℕ → ℕ → State → (ℕ → ℕ) → Ended Next → Type 0
Does source calls act instructions k lower s counted (ended (onward w)) = Passes source calls act instructions s w
Does source calls act instructions k lower s counted (ended (at_label key w)) =
    HandsOn source calls act instructions k lower s counted key w
Does source calls act instructions k lower s counted (ended (left frame)) = Stops source calls act instructions s (ended frame)
Does source calls act instructions k lower s counted (trapped kind place) = Stops source calls act instructions s (trapped kind place)
Does source calls act instructions k lower s counted (over place) = Stops source calls act instructions s (over place)

order : (a b : ℕ) → (a < b) ⊎ (b ≤ a)
order a zero = inr (omega arith)
order zero (suc b) = inl (omega arith)
order (suc a) (suc b) = elim (order a b) [ inl l ↦ inl (omega (arith, l)) | inr l ↦ inr (omega (arith, l)) ]

fewer : (a b : ℕ) → a < suc b → (a ≡ b → ⊥) → a < b
fewer a b lt never = elim (order a b) [ inl l ↦ l | inr l ↦ absurd (never (omega (arith, lt, l))) ]

-- where a step comes from, if it comes from before
abbrev FromBefore : Option ℕ → ℕ → Type 0
FromBefore None n = ⊤
FromBefore (Some a) n = a < n

-- it comes from a jump before instruction k to this label
record JumpsFrom (instructions : List InstrTree) (k : ℕ) (s : State) (key : List ℕ) : Type 0 where
  number : ℕ
  it : InstrTree
  before : number < k
  there : slice_get instructions number ≡ Some it
  jumps : is_named key (label_of_jump it) ≡ true
  from : s.from ≡ Some number

module _ (source : Source) (calls : Calls) (act : Activation) (I : List InstrTree)
    (there : (j : ℕ) (i : InstrTree) (l : PlacedName) → slice_get I j ≡ Some i → label_of_jump i ≡ Some l → place_of_label l.0.key I ≡ None → ⊥)
    (once : (m k : ℕ) (a b : InstrTree) (l n : PlacedName) → m < k → slice_get I m ≡ Some a → a.label ≡ Some l → slice_get I k ≡ Some b
    → b.label ≡ Some n → l.0.key ≡ n.0.key → ⊥)
    (entered : (at : Place) → Enters I at → ⊥) where
  abbrev run : List InstrTree → Sought → Effect
  run rest at w = run_instructions source calls act rest at w

  abbrev body : InstrTree → List InstrTree → Effect
  body i rest w = and_end (step source calls act i w) (λ next. follow (λ at x. run rest at x) next)

  -- ---- stretches

  prefixed : (k lower least : ℕ) (s t : State) (counted before : ℕ → ℕ) → Leads source calls act I s t → least ≤ lower
      → ((j : ℕ) → j < k → counted j ≡ before j)
      → ((f : ℕ) (other : List ℕ) → f < k → place_of_label other I ≡ Some f → jumps_from I s.next other ≡ false
      → jumps_from I t.next other ≡ false)
      → (r : Ended Next) → Does source calls act I k lower t counted r → Does source calls act I k least s before r
  prefixed k lower least s t counted before l le same apart (ended (onward w)) d =
      record { stop = d.stop; leads = leads_then l d.leads; behind = d.behind; works = d.works }
  prefixed k lower least s t counted before l le same apart (ended (at_label key w)) d = record {
    stop = d.stop;
    leads = leads_then l d.leads;
    goal = d.goal;
    after = d.after;
    is = d.is;
    below = d.below;
    steps = d.steps;
    same = λ j lt. d.same j lt ∙ same j lt;
    jumps = d.jumps;
    from = (let f = d.from in omega (arith, f, le));
    apart = λ f other lt is none_here. d.apart f other lt is (apart f other lt is none_here);
  }
  prefixed k lower least s t counted before l le same apart (ended (left frame)) d =
      record { stop = d.stop; leads = leads_then l d.leads; steps = d.steps }
  prefixed k lower least s t counted before l le same apart (trapped kind place) d =
      record { stop = d.stop; leads = leads_then l d.leads; steps = d.steps }
  prefixed k lower least s t counted before l le same apart (over place) d =
      record { stop = d.stop; leads = leads_then l d.leads; steps = d.steps }

  -- what is handed on isn't for instruction k
  narrowed : (k lower least : ℕ) (s : State) (counted : ℕ → ℕ) → least ≤ lower → (r : Ended Next)
      → ((key : List ℕ) (w : Working) (h : HandsOn source calls act I (suc k) lower s counted key w) → h.goal ≡ k → ⊥)
      → Does source calls act I (suc k) lower s counted r → Does source calls act I k least s counted r
  narrowed k lower least s counted le (ended (onward w)) never d = d
  narrowed k lower least s counted le (ended (at_label key w)) never d = record {
    stop = d.stop;
    leads = d.leads;
    goal = d.goal;
    after = d.after;
    is = d.is;
    below = fewer d.goal k d.below (never key w d);
    steps = d.steps;
    same = λ j lt. d.same j (omega (arith, lt));
    jumps = d.jumps;
    from = (let f = d.from in omega (arith, f, le));
    apart = λ f other lt is none_here. d.apart f other (omega (arith, lt)) is none_here;
  }
  narrowed k lower least s counted le (ended (left frame)) never d = d
  narrowed k lower least s counted le (trapped kind place) never d = d
  narrowed k lower least s counted le (over place) never d = d

  -- ---- one step

  stepped : (s : State) (i : InstrTree) (counted : ℕ → ℕ) → slice_get I s.next ≡ Some i
      → arrival source I s (range_label I s.next i) ≡ ended counted
      → single source calls act I s ≡ moved_by (step source calls act i s.working) (λ next. moved I s.next counted next)
  stepped s i counted got arrived =
      ap (λ o. elim o [
        | None ↦ stops (ended s.working.frame)
        | Some x ↦ moved_by (arrival source I s (range_label I s.next x))
            (λ t. moved_by (step source calls act x s.working) (λ next. moved I s.next t next))
      ]) got
      ∙ ap (λ a. moved_by a (λ t. moved_by (step source calls act i s.working) (λ next. moved I s.next t next))) arrived

  -- a label that no instruction from here on has is handed on
  not_found : (rest : List InstrTree) (k : ℕ) (key : List ℕ) (w : Working) → drop k I ≡ rest
      → ((j : ℕ) (i : InstrTree) → k ≤ j → slice_get I j ≡ Some i → is_named key i.label ≡ true → ⊥)
      → run rest (label key) w ≡ ended (at_label key w)
  not_found [] k key w is never = refl
  not_found (i ∷ rest) k key w is never =
      lead (is_named key i.label) refl
      (not_found rest (suc k) key w (next_drop I k i rest is) (λ j x le got named. never j x (omega (arith, le)) got named))
    where
      lead : (b : Bool) → is_named key i.label ≡ b → run rest (label key) w ≡ ended (at_label key w)
          → elim b [
            | true ↦ arrives source i.label (i ∷ rest) (body i rest) w
            | false ↦ run rest (label key) w
          ] ≡ ended (at_label key w)
      lead true named below = absurd (never k i (omega arith) (got_at I k i rest is) named)
      lead false named below = below

  -- what stretches from one instruction on do
  abbrev HereDoes : ℕ → List InstrTree → Type 0
  HereDoes k rest = (s : State) → s.next ≡ k → FromBefore s.from k → Does source calls act I k k s s.turns (run rest here s.working)

  abbrev LabelDoes : ℕ → List InstrTree → Type 0
  LabelDoes k rest = (s : State) (key : List ℕ) (b : ℕ) → place_of_label key I ≡ Some b → k ≤ b → s.next ≡ b → JumpsFrom I k s key
      → Does source calls act I k k s s.turns (run rest (label key) s.working)

  -- ---- an instruction that was arrived at, and what is behind it

  body_does : (k : ℕ) (i : InstrTree) (rest : List InstrTree) → drop k I ≡ i ∷ rest → HereDoes (suc k) rest → LabelDoes (suc k) rest
      → (s : State) → s.next ≡ k → (counted : ℕ → ℕ) → arrival source I s (range_label I s.next i) ≡ ended counted
      → Does source calls act I (suc k) k s counted (body i rest s.working)
  body_does k i rest is from_here from_label s at counted arrived =
      lead (step source calls act i s.working) refl (step_leads source calls act i s.working)
    where
      got : slice_get I s.next ≡ Some i
      got = ap (slice_get I) at ∙ got_at I k i rest is

      to : (r : Ended Next) → step source calls act i s.working ≡ r → single source calls act I s ≡ moved_by r (λ next. moved I s.next counted next)
      to r e = stepped s i counted got arrived ∙ ap (λ x. moved_by x (λ next. moved I s.next counted next)) e

      at_k : s.next ≤ k
      at_k = omega (arith, at)

      behind_it : Working → State
      behind_it w = record { from = Some s.next; next = suc s.next; working = w; turns = counted }

      jumped : (key : List ℕ) (w : Working) (l : PlacedName) → label_of_jump i ≡ Some l → key ≡ l.0.key
          → step source calls act i s.working ≡ ended (at_label key w) → (o : Option ℕ) → place_of_label key I ≡ o
          → Does source calls act I (suc k) k s counted (run rest (label key) w)
      jumped key w l has same e None p = absurd (there s.next i l got has (ap (λ x. place_of_label x I) (sym same) ∙ p))
      jumped key w l has same e (Some m) p = split (order m (suc k))
        where
          t : State
          t = record { from = Some s.next; next = m; working = w; turns = counted }

          goes_on : single source calls act I s ≡ goes t
          goes_on = to (ended (at_label key w)) e
              ∙ ap (λ o. elim o [
                | None ↦ stops (ended w.frame)
                | Some n ↦ goes (record { from = Some s.next; next = n; working = w; turns = counted })
              ]) p

          named : is_named key (label_of_jump i) ≡ true
          named = ap (is_named key) has ∙ is_so_named key l same

          none_behind_it : m < suc k → (j : ℕ) (x : InstrTree) → suc k ≤ j → slice_get I j ≡ Some x → is_named key x.label ≡ true → ⊥
          none_behind_it lt j x le got_x named_x =
              let w = place_labelled I key m p in
              second w x.label refl named_x
            where
              second : Labelled I key m → (o : Option PlacedName) → x.label ≡ o → is_named key o ≡ true → ⊥
              second w None h f = false≢true f
              second w (Some n) h f =
                  once m j w.it x w.label n (omega (arith, lt, le)) w.there w.has got_x h (sym w.is ∙ named_is key n f)

          split : ((m < suc k) ⊎ (suc k ≤ m)) → Does source calls act I (suc k) k s counted (run rest (label key) w)
          split (inl lt) =
              subst (Does source calls act I (suc k) k s counted)
              (sym (not_found rest (suc k) key w (next_drop I k i rest is) (none_behind_it lt))) (record {
                stop = s;
                leads = none;
                goal = m;
                after = counted;
                is = p;
                below = lt;
                steps = goes_on;
                same = λ j l. refl;
                jumps = jumps_there I key s.next s.next i (omega arith) got named;
                from = omega (arith, at);
                apart = λ f other l q n. n;
              })
          split (inr le) =
              prefixed (suc k) (suc k) k s t counted counted (by goes_on none) (omega arith) (λ j l. refl)
              (λ f other l q n. none_farther I other s.next m (omega (arith, at, le)) n) (run rest (label key) w)
              (from_label t key m p le refl (record {
                number = s.next;
                it = i;
                before = omega (arith, at);
                there = got;
                jumps = named;
                from = refl;
              }))

      lead : (r : Ended Next) → step source calls act i s.working ≡ r → LeadsToLabel i r
          → Does source calls act I (suc k) k s counted (and_end r (λ next. follow (λ at x. run rest at x) next))
      lead (ended (onward w)) e l =
          prefixed (suc k) (suc k) k s (behind_it w) counted counted (by (to (ended (onward w)) e) none) (omega arith) (λ j l. refl)
          (λ f other l q n. none_farther I other s.next (suc s.next) (omega arith) n) (run rest here w)
          (from_here (behind_it w) (ap suc at) (omega (arith, at)))
      lead (ended (at_label key w)) e l = jumped key w l.0 l.1 l.2 e (place_of_label key I) refl
      lead (ended (left frame)) e l = record { stop = s; leads = none; steps = to (ended (left frame)) e }
      lead (trapped kind place) e l = record { stop = s; leads = none; steps = to (trapped kind place) e }
      lead (over place) e l = record { stop = s; leads = none; steps = to (over place) e }

  -- ---- turns

  range_is : (s : State) (i : InstrTree) (l : PlacedName) (b : Bool) → i.label ≡ Some l → jumps_from I s.next l.0.key ≡ b
      → range_label I s.next i ≡ cond b (Some l) None
  range_is s i l b has jumps =
      ap (λ o. elim o [
        | None ↦ None
        | Some x ↦ cond (jumps_from I s.next x.0.key) (Some x) None
      ]) has
      ∙ ap (λ x. cond x (Some l) None) jumps

  -- the instruction that a label's place is has the label
  label_at : (k : ℕ) (i : InstrTree) (key : List ℕ) → slice_get I k ≡ Some i → place_of_label key I ≡ Some k
      → (l : PlacedName) × (i.label ≡ Some l) × (key ≡ l.0.key)
  label_at k i key got is =
      let w = place_labelled I key k is in
      (w.label, ap (λ (x : InstrTree). x.label) (same_some i w.it (sym got ∙ w.there)) ∙ w.has, w.is)

  -- a place of this name is the one of the label, which stands once
  same_place : (k m : ℕ) (i : InstrTree) (l : PlacedName) (key : List ℕ) → slice_get I k ≡ Some i → i.label ≡ Some l → key ≡ l.0.key
      → place_of_label key I ≡ Some m → m ≡ k
  same_place k m i l key got has same is =
      let w = place_labelled I key m is in
      let le = place_first I key m k i is got (ap (is_named key) has ∙ is_so_named key l same) in
      lead w (order m k) le
    where
      lead : Labelled I key m → ((m < k) ⊎ (k ≤ m)) → m ≤ k → m ≡ k
      lead w (inl lt) le = absurd (once m k w.it i w.label l lt w.there w.has got has (sym w.is ∙ same))
      lead w (inr ge) le = omega (arith, ge, le)

  turns_do : (n k : ℕ) (i : InstrTree) (rest : List InstrTree) (l : PlacedName) → drop k I ≡ i ∷ rest → HereDoes (suc k) rest
      → LabelDoes (suc k) rest → i.label ≡ Some l → jumps_from I k l.0.key ≡ true → (s : State) → s.next ≡ k
      → turn_of I s l + n ≡ suc source.bound
      → Does source calls act I k k s s.turns (turns (body i rest) l n s.working)
  turns_do zero k i rest l is from_here from_label has range s at remain =
      record { stop = s; leads = none; steps = beyond }
    where
      got : slice_get I s.next ≡ Some i
      got = ap (slice_get I) at ∙ got_at I k i rest is

      arrived : arrival source I s (range_label I s.next i) ≡ over l.1
      arrived = ap (arrival source I s) (range_is s i l true has (ap (λ n. jumps_from I n l.0.key) at ∙ range))
          ∙ ap (λ b. cond b (over l.1) (ended (with_turn s.turns s.next (turn_of I s l))))
          (lt-ltb source.bound (turn_of I s l) (omega (arith, remain)))

      beyond : single source calls act I s ≡ stops (over l.1)
      beyond = ap (λ o. elim o [
        | None ↦ stops (ended s.working.frame)
        | Some x ↦ moved_by (arrival source I s (range_label I s.next x))
            (λ t. moved_by (step source calls act x s.working) (λ next. moved I s.next t next))
      ]) got
          ∙ ap (λ a. moved_by a (λ t. moved_by (step source calls act i s.working) (λ next. moved I s.next t next))) arrived
  turns_do (suc n) k i rest l is from_here from_label has range s at remain =
      lead (λ t p q. turns_do n k i rest l is from_here from_label has range t p q) (body i rest s.working)
      (body_does k i rest is from_here from_label s at counted arrived)
    where
      got : slice_get I s.next ≡ Some i
      got = ap (slice_get I) at ∙ got_at I k i rest is

      counted : ℕ → ℕ
      counted = with_turn s.turns s.next (turn_of I s l)

      arrived : arrival source I s (range_label I s.next i) ≡ ended counted
      arrived = ap (arrival source I s) (range_is s i l true has (ap (λ n. jumps_from I n l.0.key) at ∙ range))
          ∙ ap (λ b. cond b (over l.1) (ended counted)) (le-ltb source.bound (turn_of I s l) (omega (arith, remain)))

      counted_before : (j : ℕ) → j < k → counted j ≡ s.turns j
      counted_before j lt = ap (λ b. cond b (turn_of I s l) (s.turns j)) (ne_eqb j s.next (λ e. omega (arith, e, lt, at)))

      counted_here : (m : ℕ) → m ≡ k → counted m ≡ turn_of I s l
      counted_here m e = ap (λ b. cond b (turn_of I s l) (s.turns m)) (eq-eqb m s.next (omega (arith, e, at)))

      Again : Type 0
      Again = (t : State) → t.next ≡ k → turn_of I t l + n ≡ suc source.bound
          → Does source calls act I k k t t.turns (turns (body i rest) l n t.working)

      handed : Again → (key : List ℕ) (w : Working) → HandsOn source calls act I (suc k) k s counted key w → (b : Bool)
          → is_named key (Some l) ≡ b
          → Does source calls act I k k s s.turns (elim b [
            | true ↦ turns (body i rest) l n w
            | false ↦ ended (at_label key w)
          ])
      handed below key w h true named =
          prefixed k k k s t h.after s.turns (leads_then h.leads (by h.steps none)) (omega arith)
          (λ j lt. h.same j (omega (arith, lt)) ∙ counted_before j lt)
          (λ f other lt p q. ap (λ m. jumps_from I m other) (place ∙ sym at) ∙ q) (turns (body i rest) l n w)
          (below t place next_turn)
        where
          t : State
          t = record { from = Some h.stop.next; next = h.goal; working = w; turns = h.after }

          same : key ≡ l.0.key
          same = named_is key l named

          place : h.goal ≡ k
          place = same_place k h.goal i l key (got_at I k i rest is) has same h.is

          inside : comes_from_inside I h.goal l (Some h.stop.next) ≡ true
          inside = ap (λ b. b && jumps_from I h.stop.next l.0.key) (le-leb h.goal h.stop.next (let f = h.from in omega (arith, place, f)))
              ∙ (ap (λ x. jumps_from I h.stop.next x) (sym same) ∙ h.jumps)

          next_is : turn_of I t l ≡ suc (turn_of I s l)
          next_is = ap (λ b. cond b (suc (h.after h.goal)) 1) inside
              ∙ ap suc (h.same h.goal (omega (arith, place)) ∙ counted_here h.goal place)

          next_turn : turn_of I t l + n ≡ suc source.bound
          next_turn = let e = next_is in omega (arith, e, remain)
      handed below key w h false named = record {
        stop = h.stop;
        leads = h.leads;
        goal = h.goal;
        after = h.after;
        is = h.is;
        below = fewer h.goal k h.below (λ e. other_label (h.is ∙ ap Some e));
        steps = h.steps;
        same = λ j lt. h.same j (omega (arith, lt)) ∙ counted_before j lt;
        jumps = h.jumps;
        from = h.from;
        apart = λ f other lt p q. h.apart f other (omega (arith, lt)) p q;
      }
        where
          other_label : place_of_label key I ≡ Some k → ⊥
          other_label p =
              let w = label_at k i key (got_at I k i rest is) p in
              true≢false (sym (is_so_named key l (w.2 ∙ ap (λ (x : PlacedName). x.0.key) (same_some w.0 l (sym w.1 ∙ has)))) ∙ named)

      lead : Again → (r : Ended Next) → Does source calls act I (suc k) k s counted r
          → Does source calls act I k k s s.turns (and_end r (λ next. again (λ v. turns (body i rest) l n v) l next))
      lead below (ended (onward w)) d = d
      lead below (ended (at_label key w)) d = handed below key w d (is_named key (Some l)) refl
      lead below (ended (left frame)) d = d
      lead below (trapped kind place) d = d
      lead below (over place) d = d

  -- ---- instructions from one on

  arrives_do : (k : ℕ) (i : InstrTree) (rest : List InstrTree) → drop k I ≡ i ∷ rest → HereDoes (suc k) rest → LabelDoes (suc k) rest
      → (s : State) → s.next ≡ k → FromBefore s.from k
      → Does source calls act I k k s s.turns (arrives source i.label (i ∷ rest) (body i rest) s.working)
  arrives_do k i rest is from_here from_label s at before = by_label i.label refl
    where
      got : slice_get I k ≡ Some i
      got = got_at I k i rest is

      plain : arrival source I s (range_label I s.next i) ≡ ended s.turns
          → ((key : List ℕ) (w : Working) (h : HandsOn source calls act I (suc k) k s s.turns key w) → h.goal ≡ k → ⊥)
          → Does source calls act I k k s s.turns (body i rest s.working)
      plain arrived never = narrowed k k k s s.turns (omega arith) (body i rest s.working) never
          (body_does k i rest is from_here from_label s at s.turns arrived)

      outside : (o : Option ℕ) (l : PlacedName) → FromBefore o k → comes_from_inside I s.next l o ≡ false
      outside None l f = refl
      outside (Some a) l f = ap (λ b. b && jumps_from I a l.0.key) (lt-leb s.next a (omega (arith, f, at)))

      by_range : (l : PlacedName) → i.label ≡ Some l → (b : Bool) → is_jumped_to l.0.key (i ∷ rest) ≡ b
          → Does source calls act I k k s s.turns (elim b [
            | true ↦ turns (body i rest) l source.bound s.working
            | false ↦ body i rest s.working
          ])
      by_range l has true range =
          turns_do source.bound k i rest l is from_here from_label has (ap (is_jumped_to l.0.key) is ∙ range) s at
          (let e = ap (λ b. cond b (suc (s.turns s.next)) 1) (outside s.from l before) in first_turn e)
        where
          first_turn : turn_of I s l ≡ 1 → turn_of I s l + source.bound ≡ suc source.bound
          first_turn e = omega (arith, e)
      by_range l has false range = plain
          (ap (arrival source I s) (range_is s i l false has (ap (λ n. jumps_from I n l.0.key) at ∙ (ap (is_jumped_to l.0.key) is ∙ range))))
          none_back
        where
          none_back : (key : List ℕ) (w : Working) (h : HandsOn source calls act I (suc k) k s s.turns key w) → h.goal ≡ k → ⊥
          none_back key w h e =
              let x = label_at k i key got (h.is ∙ ap Some e) in
              let same = x.2 ∙ ap (λ (y : PlacedName). y.0.key) (same_some x.0 l (sym x.1 ∙ has)) in
              true≢false (sym (ap (λ y. jumps_from I h.stop.next y) (sym same) ∙ h.jumps)
              ∙ none_farther I l.0.key k h.stop.next h.from (ap (is_jumped_to l.0.key) is ∙ range))

      by_label : (o : Option PlacedName) → i.label ≡ o
          → Does source calls act I k k s s.turns (arrives source o (i ∷ rest) (body i rest) s.working)
      by_label None has = plain
          (ap (arrival source I s) (ap (λ o. elim o [
            | None ↦ None
            | Some x ↦ cond (jumps_from I s.next x.0.key) (Some x) None
          ]) has))
          (λ key w h e. none_there key (h.is ∙ ap Some e))
        where
          none_there : (key : List ℕ) → place_of_label key I ≡ Some k → ⊥
          none_there key p = let x = label_at k i key got p in none-some x.0 (sym has ∙ x.1)
      by_label (Some l) has = by_range l has (is_jumped_to l.0.key (i ∷ rest)) refl

  -- ---- a label that is passed over

  -- the jumps of the rules
  target_of : (o : Option PlacedName) (key : List ℕ) → is_named key o ≡ true → (target : PlacedName) × (o ≡ Some target) × (key ≡ target.0.key)
  target_of None key f = absurd (false≢true f)
  target_of (Some target) key f = (target, refl, named_is key target f)

  first_label : (m : ℕ) (key : List ℕ) → place_of_label key I ≡ Some m → (target : PlacedName) → key ≡ target.0.key → (n : ℕ) → n < m
      → (o : Option InstrTree) → slice_get I n ≡ o → IsSomeAnd o (λ g. IsSomeAnd g.label (λ l. l.0.key ≡ target.0.key)) → ⊥
  first_label m key is target same n lt None g w = w
  first_label m key is target same n lt (Some y) g w = by_label y.label refl w
    where
      by_label : (o : Option PlacedName) → y.label ≡ o → IsSomeAnd o (λ l. l.0.key ≡ target.0.key) → ⊥
      by_label None h v = v
      by_label (Some l) h v =
          let le = place_first I key m n y is g (ap (is_named key) h ∙ is_so_named key l (same ∙ sym v)) in omega (arith, le, lt)

  abbrev jumps_to : (j m : ℕ) (x : InstrTree) (key : List ℕ) → slice_get I j ≡ Some x → is_named key (label_of_jump x) ≡ true
      → place_of_label key I ≡ Some m → Jumps I j m
  jumps_to j m x key got named is =
      let t = target_of (label_of_jump x) key named in
      let w = place_labelled I key m is in record {
        jump = x;
        goal = w.it;
        target = t.0;
        label = w.label;
        is_jump = got;
        is_goal = w.there;
        has_target = t.1;
        has_label = w.has;
        same = sym t.2 ∙ w.is;
        is_first = λ n lt. first_label m key is t.0 t.2 n lt (slice_get I n) refl;
      }

  -- behind a label that was passed over no stretch jumps to it
  passed_over : (k : ℕ) (s : State) (key other : List ℕ) (b : ℕ) → place_of_label other I ≡ Some k → place_of_label key I ≡ Some b → k < b
      → s.next ≡ b → JumpsFrom I k s key → jumps_from I s.next other ≡ false
  passed_over k s key other b is goal lt at j = lead (jumps_from I s.next other) refl
    where
      later : LastJump I other s.next → ⊥
      later w = entered j.it.place (record {
        first = k;
        last = w.last;
        range = record {
          back = (let f = w.from in omega (arith, f, lt, at));
          jumps = jumps_to w.last k w.it other w.there w.jumps is;
          none_later = λ n less v. none_behind_it n less v;
        };
        from = j.number;
        to = b;
        jumps = jumps_to j.number b j.it key j.there j.jumps goal;
        outside = inl j.before;
        inside = lt;
        within = (let f = w.from in omega (arith, f, at));
        is_at = refl;
      })
        where
          none_behind_it : (n : ℕ) → w.last < n → Jumps I n k → ⊥
          none_behind_it n less v =
              let x = label_at k v.goal other v.is_goal is in
              let same = x.2 ∙ ap (λ (y : PlacedName). y.0.key) (same_some x.0 v.label (sym x.1 ∙ v.has_label)) in
              true≢false (sym (jumps_there I other (suc w.last) n v.jump (omega (arith, less)) v.is_jump
              (ap (is_named other) v.has_target ∙ is_so_named other v.target (same ∙ sym v.same))) ∙ w.none_later)

      lead : (x : Bool) → jumps_from I s.next other ≡ x → jumps_from I s.next other ≡ false
      lead false e = e
      lead true e = absurd (later (last_jump I other s.next e))

  -- ---- all instructions

  label_does : (k : ℕ) (i : InstrTree) (rest : List InstrTree) → drop k I ≡ i ∷ rest → HereDoes (suc k) rest → LabelDoes (suc k) rest
      → LabelDoes k (i ∷ rest)
  label_does k i rest is from_here from_label s key b goal le at j = lead (is_named key i.label) refl
    where
      got : slice_get I k ≡ Some i
      got = got_at I k i rest is

      before : (o : Option ℕ) → o ≡ Some j.number → FromBefore o k
      before None e = absurd (none-some j.number e)
      before (Some a) e = let same = same_some a j.number e in let lt = j.before in omega (arith, same, lt)

      lead : (n : Bool) → is_named key i.label ≡ n → Does source calls act I k k s s.turns (elim n [
        | true ↦ arrives source i.label (i ∷ rest) (body i rest) s.working
        | false ↦ run rest (label key) s.working
      ])
      lead true n =
          let ge = place_first I key b k i goal got n in
          arrives_do k i rest is from_here from_label s (omega (arith, ge, le, at)) (before s.from j.from)
      lead false n = narrowed k (suc k) k s s.turns (omega arith) (run rest (label key) s.working) no_return
          (from_label s key b goal (behind (order b (suc k))) at (record {
            number = j.number;
            it = j.it;
            before = (let lt = j.before in omega (arith, lt));
            there = j.there;
            jumps = j.jumps;
            from = j.from;
          }))
        where
          same_label : b ≡ k → ⊥
          same_label e =
              let x = label_at k i key got (goal ∙ ap Some e) in
              true≢false (sym (ap (is_named key) x.1 ∙ is_so_named key x.0 x.2) ∙ n)

          behind : ((b < suc k) ⊎ (suc k ≤ b)) → suc k ≤ b
          behind (inl lt) = absurd (same_label (omega (arith, lt, le)))
          behind (inr ge) = ge

          no_return : (other : List ℕ) (w : Working) (h : HandsOn source calls act I (suc k) (suc k) s s.turns other w) → h.goal ≡ k → ⊥
          no_return other w h e =
              let place = h.is ∙ ap Some e in
              let ge = behind (order b (suc k)) in
              true≢false (sym h.jumps ∙ h.apart k other (omega arith) place
              (passed_over k s key other b place goal (omega (arith, ge)) at j))

  mutual
    does_here : (rest : List InstrTree) (k : ℕ) → drop k I ≡ rest → HereDoes k rest
    does_here [] k is s at before =
        record { stop = s; leads = none; behind = ap (slice_get I) at ∙ none_at I k is; works = refl }
    does_here (i ∷ rest) k is s at before =
        arrives_do k i rest is (does_here rest (suc k) (next_drop I k i rest is)) (does_label rest (suc k) (next_drop I k i rest is)) s at before

    does_label : (rest : List InstrTree) (k : ℕ) → drop k I ≡ rest → LabelDoes k rest
    does_label [] k is s key b goal le at j =
        let w = place_labelled I key b goal in absurd (none_behind I k b w.it is le w.there)
    does_label (i ∷ rest) k is s key b goal le at j =
        label_does k i rest is (does_here rest (suc k) (next_drop I k i rest is)) (does_label rest (suc k) (next_drop I k i rest is)) s key b goal
        le at j

  -- ---- the whole run

  listed : (s u : State) (end : Ended Frame) → Leads source calls act I s u → single source calls act I u ≡ stops end
      → (states : List State) × Runs source calls act I s states end
  listed s u end none e = (s ∷ [], ending e)
  listed s u end (by {t = t} f l) e = let w = listed t u end l e in (s ∷ w.0, going f w.1)

  pub whole_run : (frame : Frame) → (states : List State) × Runs source calls act I (first_state frame) states (run_stl source calls act I frame)
  whole_run frame =
      lead (run I here (record { registers = fresh; frame = frame })) (does_here I 0 refl (first_state frame) refl tt)
    where
      s : State
      s = first_state frame

      lead : (r : Ended Next) → Does source calls act I 0 0 s s.turns r
          → (states : List State) × Runs source calls act I s states (and_end r (λ next. ended (frame_left next)))
      lead (ended (onward w)) d = listed s d.stop (ended w.frame) d.leads
          (ap (λ o. elim o [
            | None ↦ stops (ended d.stop.working.frame)
            | Some x ↦ moved_by (arrival source I d.stop (range_label I d.stop.next x))
                (λ t. moved_by (step source calls act x d.stop.working) (λ next. moved I d.stop.next t next))
          ]) d.behind
          ∙ ap (λ x. stops (ended x.frame)) d.works)
      lead (ended (at_label key w)) d = let lt = d.below in absurd (omega (arith, lt))
      lead (ended (left f)) d = listed s d.stop (ended f) d.leads d.steps
      lead (trapped kind place) d = listed s d.stop (trapped kind place) d.leads d.steps
      lead (over place) d = listed s d.stop (over place) d.leads d.steps
