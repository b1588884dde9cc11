-- A flow that is laid out acts as one edge: by induction on the flow, inside it on the turns that are left. One statement serves all of
-- its endings; what a part does at its own exits is led on to those of the whole.
use Rattle.std.proofs.Common.{◌≡◌, ℕ, zero, suc, ◌+◌, ◌<◌, inl, inr, List, [], slice_get, true, false, Some, None, refl, ap, ◌∙◌, arith}
use Rattle.pv_place.specs.declared.place.Place.{Place}
use Rattle.pv_flow.specs.Terms.{Term, Valuation}
use Rattle.pv_flow.specs.Automata.{Set, Loop, holds}
use Rattle.pv_flow.specs.Runs.{Outcome, done_with, trapped, gone_over, Counts, at, entry_count, moved}
use Rattle.pv_flow.specs.Calls.{running}
use Rattle.pv_layout.specs.Spots.{Check, way, Act, Enter, failing}
use Rattle.pv_layout.specs.Flows.{Leaving, by_exit, by_continue, by_return, Flow, act, enter, leave, then_, if_, choice, while_, for_, repeat_, calls_in, Ending, normal, at_exit, at_continue, at_return, by_trap, by_over, go_on, after_call, ending_by, Setting, seen_in, assigned_by, repeat_turns, flow}
use Rattle.pv_layout.specs.Layout.{width, loops_in, Exits, exit_by, before, in_loop, bare, Text}
use Rattle.pv_layout.specs.SpotRuns.{along, back_to, Reaches, arrived}
use Rattle.pv_layout.specs.Correct.{AreFresh, IsFlowAt, on_to, after}
use Rattle.pv_layout.proofs.Lists.{some_at}
use Rattle.pv_layout.proofs.Turns.{IsRegion, IsFrom, holds_from, from_start, from_moved, fresh_entered, fresh_part}
use Rattle.pv_layout.proofs.Laying.{some_width}
use Rattle.pv_layout.proofs.FlowParts.{own_of, region_of, first_of, second_of, chosen_of, one_of, other_of, while_body, for_body, for_step, repeat_body, repeat_test}
use Rattle.pv_layout.proofs.Rounds.{reach_then, reach_to, one_step, checked_reaches, tested_reaches, own_stays, same_after, TestLoop, test_reaches, RepeatLoop, repeat_reaches}

-- what is to be shown of a flow
abbrev pub Acts : Setting → Text → Flow → Type 0
Acts s text f = (a i j : ℕ) (to : Exits) (counts : Counts) (w : Valuation) → IsFlowAt text f a i j to
    → AreFresh text.loops i (i + loops_in f) a counts
    → Reaches s text (after text.loops a counts to (flow s j f w)) (running (at a counts) w)

-- ---- one spot

act_acts : (s : Setting) (text : Text) (checks : List Check) (sets : List Set) → Acts s text (act checks sets)
act_acts s text checks sets a i j to counts w is fresh =
    one_step s text (after text.loops a counts to (flow s j (act checks sets) w)) a counts w (Act checks (way to.next sets None)) is.spots.0
    (checked_reaches s text a counts to (failing (seen_in s w) checks) w (λ v. normal (assigned_by s sets v))
    (along s text.loops a counts (way to.next sets None) w) (arrived refl))

call_leads : (loops : List Loop) (a : ℕ) (counts : Counts) (to : Exits) (out : Outcome)
    → back_to loops a to.next counts out ≡ after loops a counts to (after_call out)
call_leads loops a counts to (done_with w) = refl
call_leads loops a counts to (trapped kind place) = refl
call_leads loops a counts to (gone_over place) = refl

enter_acts : (s : Setting) (text : Text) (block instance : ℕ) (place : Place) → Acts s text (enter block instance place)
enter_acts s text block instance place a i j to counts w is fresh =
    one_step s text (after text.loops a counts to (after_call (s.called j block instance w))) a counts w
    (Enter block instance place to.next) is.spots.0
    (arrived (ap (λ (n : ℕ). back_to text.loops a to.next counts (s.called n block instance w)) is.calls
    ∙ call_leads text.loops a counts to (s.called j block instance w)))

leaves : (s : Setting) (text : Text) (which : Leaving) (a : ℕ) (counts : Counts) (to : Exits) (w : Valuation)
    → along s text.loops a counts (way (exit_by which to) [] None) w ≡ after text.loops a counts to (ending_by which w)
leaves s text by_exit a counts to w = refl
leaves s text by_continue a counts to w = refl
leaves s text by_return a counts to w = refl

leave_acts : (s : Setting) (text : Text) (which : Leaving) → Acts s text (leave which)
leave_acts s text which a i j to counts w is fresh =
    one_step s text (after text.loops a counts to (ending_by which w)) a counts w (Act [] (way (exit_by which to) [] None)) is.spots.0
    (arrived (leaves s text which a counts to w))

-- ---- parts

-- a part that lies in the region of the whole, and is come to from its first location
part_acts : (s : Setting) (text : Text) (f : Flow) → Acts s text f
    → (i j k a b : ℕ) (counts : Counts) (to : Exits) (m n : ℕ) (w : Valuation)
    → IsRegion text.loops i j a b → a < b → a < m → m < b → IsFlowAt text f m k n to
    → ((y : ℕ) (others : Counts) → IsFrom text.loops i j a counts y others → (e : Ending)
    → after text.loops y others to e ≡ after text.loops a counts to e)
    → Reaches s text (after text.loops a counts to (flow s n f w)) (running (at m (moved text.loops a m counts)) w)
part_acts s text f go i j k a b counts to m n w region some past room is same = reach_to s text
    (after text.loops m (moved text.loops a m counts) to (flow s n f w)) (after text.loops a counts to (flow s n f w))
    (running (at m (moved text.loops a m counts)) w)
    (same m (moved text.loops a m counts)
    (from_moved text.loops i j a b counts a m counts region.nest some (omega (arith, past)) room (from_start text.loops i j a counts))
    (flow s n f w))
    (go m k n to (moved text.loops a m counts) w is
    (fresh_entered text.loops k (k + loops_in f) m (m + width f) a m counts (own_of text.loops f m k is.loops) (inl past)))

-- the first part's ending, led on
then_leads : (s : Setting) (text : Text) (a m : ℕ) (counts : Counts) (to : Exits) (e : Ending) (next : Valuation → Ending)
    → ((v : Valuation) → Reaches s text (after text.loops a counts to (next v)) (on_to text.loops a counts m v))
    → Reaches s text (after text.loops a counts to (go_on e next)) (after text.loops a counts (before m to) e)
then_leads s text a m counts to (normal v) next go = go v
then_leads s text a m counts to (at_exit v) next go = arrived refl
then_leads s text a m counts to (at_continue v) next go = arrived refl
then_leads s text a m counts to (at_return v) next go = arrived refl
then_leads s text a m counts to (by_trap kind place) next go = arrived refl
then_leads s text a m counts to (by_over place) next go = arrived refl

then_acts : (s : Setting) (text : Text) (f g : Flow) → Acts s text f → Acts s text g → Acts s text (then_ f g)
then_acts s text f g one other a i j to counts w is fresh = reach_then s text
    (after text.loops a counts to (go_on (flow s j f w) (λ v. flow s (j + calls_in f) g v)))
    (after text.loops a counts (before (a + width f) to) (flow s j f w)) (running (at a counts) w)
    (one a i j (before (a + width f) to) counts w (first_of text f g a i j to is)
    (fresh_part text.loops i (i + (loops_in f + loops_in g)) i (i + loops_in f) a counts (omega arith) (omega arith) fresh))
    (then_leads s text a (a + width f) counts to (flow s j f w) (λ v. flow s (j + calls_in f) g v)
    (λ v. part_acts s text g other i (i + (loops_in f + loops_in g)) (i + loops_in f) a (a + (width f + width g)) counts to (a + width f)
    (j + calls_in f) v
    (region_of text (then_ f g) a i j to is) (let low = some_width f in omega (arith, low)) (let low = some_width f in omega (arith, low))
    (let low = some_width g in omega (arith, low)) (second_of text f g a i j to is)
    (λ y others from e. same_after text.loops i (i + (loops_in f + loops_in g)) a (a + (width f + width g)) counts y others to
    (region_of text (then_ f g) a i j to is) is.exits from e)))

if_acts : (s : Setting) (text : Text) (checks : List Check) (c : Term) (f : Flow) → Acts s text f → Acts s text (if_ checks c f)
if_acts s text checks c f one a i j to counts w is fresh =
    tested_reaches s text a counts to a counts w checks c (way (suc a) [] None) (way to.next [] None) (λ v. flow s j f v)
    (λ v. normal v) is.spots.0
    (part_acts s text f one i (i + loops_in f) i a (a + suc (width f)) counts to (suc a) j w
    (region_of text (if_ checks c f) a i j to is) (omega arith) (omega arith) (let low = some_width f in omega (arith, low))
    (chosen_of text checks c f a i j to is)
    (λ y others from e. same_after text.loops i (i + loops_in f) a (a + suc (width f)) counts y others to
    (region_of text (if_ checks c f) a i j to is) is.exits from e))
    (arrived refl)

choice_acts : (s : Setting) (text : Text) (checks : List Check) (c : Term) (f g : Flow) → Acts s text f → Acts s text g
    → Acts s text (choice checks c f g)
choice_acts s text checks c f g one other a i j to counts w is fresh =
    tested_reaches s text a counts to a counts w checks c (way (suc a) [] None) (way (suc a + width f) [] None) (λ v. flow s j f v)
    (λ v. flow s (j + calls_in f) g v) is.spots.0
    (part_acts s text f one i (i + (loops_in f + loops_in g)) i a (a + suc (width f + width g)) counts to (suc a) j w
    (region_of text (choice checks c f g) a i j to is) (omega arith) (omega arith) (let low = some_width f in omega (arith, low))
    (one_of text checks c f g a i j to is)
    (λ y others from e. same_after text.loops i (i + (loops_in f + loops_in g)) a (a + suc (width f + width g)) counts y others to
    (region_of text (choice checks c f g) a i j to is) is.exits from e))
    (part_acts s text g other i (i + (loops_in f + loops_in g)) (i + loops_in f) a (a + suc (width f + width g)) counts to (suc a + width f)
    (j + calls_in f) w
    (region_of text (choice checks c f g) a i j to is) (omega arith) (omega arith) (let low = some_width g in omega (arith, low))
    (other_of text checks c f g a i j to is)
    (λ y others from e. same_after text.loops i (i + (loops_in f + loops_in g)) a (a + suc (width f + width g)) counts y others to
    (region_of text (choice checks c f g) a i j to is) is.exits from e))

-- ---- loops

-- the count with which loop i is entered
entry_is : (text : Text) (i j a : ℕ) (counts : Counts) (loop : Loop) → slice_get text.loops i ≡ Some loop → i < j → holds loop a ≡ true
    → AreFresh text.loops i j a counts → counts i ≡ entry_count loop
entry_is text i j a counts loop stands lt held fresh =
    some_at (λ (other : Loop). holds other a ≡ true → counts i ≡ entry_count other) (slice_get text.loops i) loop stands
    (fresh i (omega arith) lt) held

while_loop : (s : Setting) (text : Text) (checks : List Check) (c : Term) (f : Flow) (place : Place) → Acts s text f
    → (a i j : ℕ) (to : Exits) (counts : Counts) → IsFlowAt text (while_ checks c f place) a i j to
    → TestLoop s text i (i + suc (loops_in f)) a (a + suc (width f)) counts to checks c (λ v. flow s j f v) [] place
while_loop s text checks c f place go a i j to counts is = record {
  loop = bare a (a + width f) false place;
  stands = is.loops.0;
  over = refl;
  test = is.spots.0;
  region = region_of text (while_ checks c f place) a i j to is;
  exits = is.exits;
  numbered = omega arith;
  room = let low = some_width f in omega (arith, low);
  held = λ x low high. holds_from (bare a (a + width f) false place) x low (omega (arith, high));
  last = a;
  low = omega arith;
  high = omega arith;
  turns = λ cs v fresh. go (suc a) (suc i) j (in_loop a to) cs v (while_body text checks c f place a i j to is)
      (fresh_part text.loops (suc i) (i + suc (loops_in f)) (suc i) (suc i + loops_in f) (suc a) cs (omega arith) (omega arith) fresh);
  fresh = λ cs. fresh_part text.loops (suc i) (suc i + loops_in f) (suc i) (i + suc (loops_in f)) (suc a) (moved text.loops a (suc a) cs)
      (omega arith) (omega arith)
      (fresh_entered text.loops (suc i) (suc i + loops_in f) (suc a) (suc a + width f) a (suc a) cs
      (own_of text.loops f (suc a) (suc i) is.loops.1) (inl (omega arith)));
  back = λ cs. cs;
  goes_back = λ end cs v h. h;
  back_from = λ cs from. from;
  back_count = λ cs. refl;
}

for_loop : (s : Setting) (text : Text) (checks : List Check) (c : Term) (f : Flow) (sets : List Set) (place : Place) → Acts s text f
    → (a i j : ℕ) (to : Exits) (counts : Counts) → IsFlowAt text (for_ checks c f sets place) a i j to
    → TestLoop s text i (i + suc (loops_in f)) a (a + suc (width f + 1)) counts to checks c (λ v. flow s j f v) sets place
for_loop s text checks c f sets place go a i j to counts is = record {
  loop = bare a (suc (a + width f)) false place;
  stands = is.loops.0;
  over = refl;
  test = is.spots.0;
  region = region_of text (for_ checks c f sets place) a i j to is;
  exits = is.exits;
  numbered = omega arith;
  room = omega arith;
  held = λ x low high. holds_from (bare a (suc (a + width f)) false place) x low (omega (arith, high));
  last = suc a + width f;
  low = omega arith;
  high = omega arith;
  turns = λ cs v fresh. go (suc a) (suc i) j (in_loop (suc a + width f) to) cs v (for_body text checks c f sets place a i j to is)
      (fresh_part text.loops (suc i) (i + suc (loops_in f)) (suc i) (suc i + loops_in f) (suc a) cs (omega arith) (omega arith) fresh);
  fresh = λ cs. fresh_part text.loops (suc i) (suc i + loops_in f) (suc i) (i + suc (loops_in f)) (suc a) (moved text.loops a (suc a) cs)
      (omega arith) (omega arith)
      (fresh_entered text.loops (suc i) (suc i + loops_in f) (suc a) (suc a + width f) a (suc a) cs
      (own_of text.loops f (suc a) (suc i) is.loops.1) (inl (omega arith)));
  back = λ cs. moved text.loops (suc a + width f) a cs;
  goes_back = λ end cs v h. one_step s text end (suc a + width f) cs v (Act [] (way a sets None))
      (for_step text checks c f sets place a i j to is) h;
  back_from = λ cs from. from_moved text.loops i (i + suc (loops_in f)) a (a + suc (width f + 1)) counts (suc a + width f) a cs is.nest
      (omega arith) (omega arith) (omega arith) from;
  back_count = λ cs. own_stays text.loops i (suc a + width f) a cs (bare a (suc (a + width f)) false place) is.loops.0
      (holds_from (bare a (suc (a + width f)) false place) (suc a + width f) (omega arith) (omega arith))
      (holds_from (bare a (suc (a + width f)) false place) a (omega arith) (omega arith));
}

repeat_loop : (s : Setting) (text : Text) (f : Flow) (checks : List Check) (c : Term) (place : Place) → Acts s text f
    → (a i j : ℕ) (to : Exits) (counts : Counts) → IsFlowAt text (repeat_ f checks c place) a i j to
    → RepeatLoop s text i (i + suc (loops_in f)) a (a + (width f + 1)) counts to checks c (λ v. flow s j f v) place
repeat_loop s text f checks c place go a i j to counts is = record {
  loop = bare a (a + width f) true place;
  stands = is.loops.0;
  over = refl;
  last = a + width f;
  test = repeat_test text f checks c place a i j to is;
  region = region_of text (repeat_ f checks c place) a i j to is;
  exits = is.exits;
  numbered = omega arith;
  low = omega arith;
  high = omega arith;
  held = λ x low high. holds_from (bare a (a + width f) true place) x low (omega (arith, high));
  turns = λ cs v fresh. go a (suc i) j (in_loop (a + width f) to) cs v (repeat_body text f checks c place a i j to is)
      (fresh_part text.loops (suc i) (i + suc (loops_in f)) (suc i) (suc i + loops_in f) a cs (omega arith) (omega arith) fresh);
  fresh = λ cs. fresh_part text.loops (suc i) (suc i + loops_in f) (suc i) (i + suc (loops_in f)) a (moved text.loops (a + width f) a cs)
      (omega arith) (omega arith)
      (fresh_entered text.loops (suc i) (suc i + loops_in f) a (a + width f) (a + width f) a cs
      (own_of text.loops f a (suc i) is.loops.1) (inr (omega arith)));
}

while_acts : (s : Setting) (text : Text) (checks : List Check) (c : Term) (f : Flow) (place : Place) → Acts s text f
    → Acts s text (while_ checks c f place)
while_acts s text checks c f place go a i j to counts w is fresh =
    test_reaches s text i (i + suc (loops_in f)) a (a + suc (width f)) counts to checks c (λ v. flow s j f v) [] place
    (while_loop s text checks c f place go a i j to counts is) s.bound counts w (from_start text.loops i (i + suc (loops_in f)) a counts)
    (let entry : counts i ≡ 0 = entry_is text i (i + suc (loops_in f)) a counts (bare a (a + width f) false place) is.loops.0 (omega arith)
    (holds_from (bare a (a + width f) false place) a (omega arith) (omega arith)) fresh in omega (arith, entry))

for_acts : (s : Setting) (text : Text) (checks : List Check) (c : Term) (f : Flow) (sets : List Set) (place : Place) → Acts s text f
    → Acts s text (for_ checks c f sets place)
for_acts s text checks c f sets place go a i j to counts w is fresh =
    test_reaches s text i (i + suc (loops_in f)) a (a + suc (width f + 1)) counts to checks c (λ v. flow s j f v) sets place
    (for_loop s text checks c f sets place go a i j to counts is) s.bound counts w (from_start text.loops i (i + suc (loops_in f)) a counts)
    (let entry : counts i ≡ 0 = entry_is text i (i + suc (loops_in f)) a counts (bare a (suc (a + width f)) false place) is.loops.0
    (omega arith)
    (holds_from (bare a (suc (a + width f)) false place) a (omega arith) (omega arith)) fresh in omega (arith, entry))

-- a bound of which one turn is taken off
repeat_bound : (s : Setting) (text : Text) (f : Flow) (checks : List Check) (c : Term) (place : Place) → Acts s text f
    → (a i j : ℕ) (to : Exits) (counts : Counts) (w : Valuation) → IsFlowAt text (repeat_ f checks c place) a i j to
    → AreFresh text.loops i (i + suc (loops_in f)) a counts → (n : ℕ) → 0 < n → n ≡ s.bound
    → Reaches s text (after text.loops a counts to (repeat_turns s checks c (λ v. flow s j f v) place n w)) (running (at a counts) w)
repeat_bound s text f checks c place go a i j to counts w is fresh zero lt same = absurd (omega (arith, lt))
repeat_bound s text f checks c place go a i j to counts w is fresh (suc n) lt same =
    repeat_reaches s text i (i + suc (loops_in f)) a (a + (width f + 1)) counts to checks c (λ v. flow s j f v) place
    (repeat_loop s text f checks c place go a i j to counts is) n counts w (from_start text.loops i (i + suc (loops_in f)) a counts)
    (let entry : counts i ≡ 1 = entry_is text i (i + suc (loops_in f)) a counts (bare a (a + width f) true place) is.loops.0 (omega arith)
    (holds_from (bare a (a + width f) true place) a (omega arith) (omega arith)) fresh in omega (arith, entry, same))
    (fresh_part text.loops i (i + suc (loops_in f)) (suc i) (i + suc (loops_in f)) a counts (omega arith) (omega arith) fresh)

repeat_acts : (s : Setting) (text : Text) → 0 < s.bound → (f : Flow) (checks : List Check) (c : Term) (place : Place) → Acts s text f
    → Acts s text (repeat_ f checks c place)
repeat_acts s text some f checks c place go a i j to counts w is fresh =
    repeat_bound s text f checks c place go a i j to counts w is fresh s.bound some refl

-- ---- all flows

pub flow_acts : (s : Setting) (text : Text) → 0 < s.bound → (f : Flow) → Acts s text f
flow_acts s text some (act checks sets) = act_acts s text checks sets
flow_acts s text some (enter block instance place) = enter_acts s text block instance place
flow_acts s text some (leave which) = leave_acts s text which
flow_acts s text some (then_ f g) = then_acts s text f g (flow_acts s text some f) (flow_acts s text some g)
flow_acts s text some (if_ checks c f) = if_acts s text checks c f (flow_acts s text some f)
flow_acts s text some (choice checks c f g) = choice_acts s text checks c f g (flow_acts s text some f) (flow_acts s text some g)
flow_acts s text some (while_ checks c f place) = while_acts s text checks c f place (flow_acts s text some f)
flow_acts s text some (for_ checks c f sets place) = for_acts s text checks c f sets place (flow_acts s text some f)
flow_acts s text some (repeat_ f checks c place) = repeat_acts s text some f checks c place (flow_acts s text some f)
