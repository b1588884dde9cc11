-- Turns of loops over spots, by the turns that are left, whatever a turn does: its endings are led on as a flow's are, so these lemmas are
-- on endings and on no flow. A run of a region leaves it as one edge from the region's first location would.
use Rattle.std.proofs.Common.{◌≡◌, ℕ, zero, suc, ◌+◌, ◌<◌, ◌≤◌, List, [], slice_get, Bool, true, false, nat_le, Option, Some, None, refl, sym, subst, ap, ◌∙◌, arith}
use Rattle.std.proofs.lemmas.Bool.{le-leb, lt-leb}
use Rattle.pv_place.specs.declared.place.Place.{Place}
use Rattle.pv_flow.specs.Terms.{Term, Valuation}
use Rattle.pv_flow.specs.Automata.{Set, Loop, holds}
use Rattle.pv_flow.specs.Runs.{gone_over, Counts, at, past, entry_count, moved}
use Rattle.pv_flow.specs.Calls.{Stage, running, finished}
use Rattle.pv_layout.specs.Spots.{Check, Way, way, Spot, Branch, is_on, failing}
use Rattle.pv_layout.specs.Flows.{Ending, normal, at_exit, at_continue, at_return, by_trap, by_over, after_turn, Setting, seen_in, assigned_by, clear_or, tested, test_turns, repeat_turns}
use Rattle.pv_layout.specs.Layout.{Exits, in_loop, Text}
use Rattle.pv_layout.specs.SpotRuns.{calls_before, one_more, turn_to, along, unless, step_of, stepped, Reaches, arrived, further}
use Rattle.pv_layout.specs.Correct.{AreOutside, AreFresh, on_to, after}
use Rattle.pv_layout.proofs.Turns.{kept_both, moved_at, IsRegion, IsFrom, from_moved, own_count, from_turned, left_from, fresh_turned}

-- ---- steps

pub reach_then : (s : Setting) (text : Text) (end middle from : Stage) → Reaches s text middle from → Reaches s text end middle
    → Reaches s text end from
reach_then s text end middle (running (at l counts) w) (arrived e) h = subst (λ (stage : Stage). Reaches s text end stage) (sym e) h
reach_then s text end middle (running (at l counts) w) (further g) h = further
    (reach_then s text end middle (stepped s text l counts w) g h)
reach_then s text end middle (running (past place) w) (arrived e) h = subst (λ (stage : Stage). Reaches s text end stage) (sym e) h
reach_then s text end middle (finished out) (arrived e) h = subst (λ (stage : Stage). Reaches s text end stage) (sym e) h

-- from another name of a stage
pub reach_from : (s : Setting) (text : Text) (end from other : Stage) → other ≡ from → Reaches s text end from → Reaches s text end other
reach_from s text end from other e h = subst (λ (stage : Stage). Reaches s text end stage) (sym e) h

-- and to one
pub reach_to : (s : Setting) (text : Text) (end other from : Stage) → end ≡ other → Reaches s text end from → Reaches s text other from
reach_to s text end other from e h = subst (λ (stage : Stage). Reaches s text stage from) e h

pub one_step : (s : Setting) (text : Text) (end : Stage) (l : ℕ) (counts : Counts) (w : Valuation) (spot : Spot)
    → slice_get text.spots l ≡ Some spot
    → Reaches s text end (step_of s text.loops (calls_before text.spots l) l counts w (Some spot))
    → Reaches s text end (running (at l counts) w)
one_step s text end l counts w spot e h =
    further (subst (λ (o : Option Spot). Reaches s text end (step_of s text.loops (calls_before text.spots l) l counts w o)) (sym e) h)

pub checked_reaches : (s : Setting) (text : Text) (a : ℕ) (counts : Counts) (to : Exits) (o : Option Check) (w : Valuation)
    (ending : Valuation → Ending) (next : Stage) → Reaches s text (after text.loops a counts to (ending w)) next
    → Reaches s text (after text.loops a counts to (clear_or o w ending)) (unless o next)
checked_reaches s text a counts to None w ending next h = h
checked_reaches s text a counts to (Some check) w ending next h = arrived refl

-- a test at location l, in a region that begins at a
pub tested_reaches : (s : Setting) (text : Text) (a : ℕ) (counts : Counts) (to : Exits) (l : ℕ) (others : Counts) (w : Valuation)
    (checks : List Check) (c : Term) (first second : Way) (one other : Valuation → Ending)
    → slice_get text.spots l ≡ Some (Branch checks c first second)
    → Reaches s text (after text.loops a counts to (one w)) (along s text.loops l others first w)
    → Reaches s text (after text.loops a counts to (other w)) (along s text.loops l others second w)
    → Reaches s text (after text.loops a counts to (tested s checks c w one other)) (running (at l others) w)
tested_reaches s text a counts to l others w checks c first second one other stands h g =
    one_step s text (after text.loops a counts to (tested s checks c w one other)) l others w (Branch checks c first second) stands
    (checked_reaches s text a counts to (failing (seen_in s w) checks) w
    (λ v. elim (is_on (seen_in s v) c) [ true ↦ one v | false ↦ other v ])
    (elim (is_on (seen_in s w) c) [ true ↦ along s text.loops l others first w | false ↦ along s text.loops l others second w ])
    (by (is_on (seen_in s w) c)))
  where
    by : (b : Bool) → Reaches s text (after text.loops a counts to (elim b [ true ↦ one w | false ↦ other w ]))
        (elim b [ true ↦ along s text.loops l others first w | false ↦ along s text.loops l others second w ])
    by true = h
    by false = g

-- ---- turns

turn_over : (n i to : ℕ) (counts others : Counts) (w : Valuation) (o : Option Loop) (loop : Loop) → o ≡ Some loop
    → nat_le n (counts i) ≡ true
    → turn_to n i to counts others w o ≡ finished (gone_over loop.place)
turn_over n i to counts others w o loop e le = ap (λ (o : Option Loop). turn_to n i to counts others w o) e
    ∙ ap (λ (b : Bool). elim b [ true ↦ finished (gone_over loop.place) | false ↦ running (at to (one_more i others)) w ]) le

turn_on : (n i to : ℕ) (counts others : Counts) (w : Valuation) (o : Option Loop) (loop : Loop) → o ≡ Some loop
    → nat_le n (counts i) ≡ false
    → turn_to n i to counts others w o ≡ running (at to (one_more i others)) w
turn_on n i to counts others w o loop e gt = ap (λ (o : Option Loop). turn_to n i to counts others w o) e
    ∙ ap (λ (b : Bool). elim b [ true ↦ finished (gone_over loop.place) | false ↦ running (at to (one_more i others)) w ]) gt

-- within a loop its own count stays
pub own_stays : (loops : List Loop) (i x y : ℕ) (counts : Counts) (loop : Loop) → slice_get loops i ≡ Some loop → holds loop x ≡ true
    → holds loop y ≡ true → moved loops x y counts i ≡ counts i
own_stays loops i x y counts loop e from to =
    moved_at loops x y counts i loop e ∙ kept_both (holds loop y) (holds loop x) (counts i) (entry_count loop) to from

-- what leaves a region from location y leaves it as from its first one
pub same_after : (loops : List Loop) (i j a b : ℕ) (counts : Counts) (y : ℕ) (others : Counts) (to : Exits) → IsRegion loops i j a b
    → AreOutside a b to → IsFrom loops i j a counts y others → (e : Ending) → after loops y others to e ≡ after loops a counts to e
same_after loops i j a b counts y others to region out from (normal w) =
    ap (λ (cs : Counts). running (at to.next cs) w) (left_from loops i j a b counts y to.next others region out.next from)
same_after loops i j a b counts y others to region out from (at_exit w) =
    ap (λ (cs : Counts). running (at to.on_exit cs) w) (left_from loops i j a b counts y to.on_exit others region out.on_exit from)
same_after loops i j a b counts y others to region out from (at_continue w) =
    ap (λ (cs : Counts). running (at to.on_continue cs) w)
    (left_from loops i j a b counts y to.on_continue others region out.on_continue from)
same_after loops i j a b counts y others to region out from (at_return w) =
    ap (λ (cs : Counts). running (at to.on_return cs) w) (left_from loops i j a b counts y to.on_return others region out.on_return from)
same_after loops i j a b counts y others to region out from (by_trap kind place) = refl
same_after loops i j a b counts y others to region out from (by_over place) = refl

-- a turn that began at location y: where it goes on, or is continued, it comes to location l
turn_reaches : (s : Setting) (text : Text) (i j a b : ℕ) (counts : Counts) (y : ℕ) (others : Counts) (l : ℕ) (to : Exits)
    → IsRegion text.loops i j a b → AreOutside a b to → IsFrom text.loops i j a counts y others → (e : Ending) (next : Valuation → Ending)
    → ((v : Valuation) → Reaches s text (after text.loops a counts to (next v)) (on_to text.loops y others l v))
    → Reaches s text (after text.loops a counts to (after_turn e next)) (after text.loops y others (in_loop l to) e)
turn_reaches s text i j a b counts y others l to region out from (normal v) next go = go v
turn_reaches s text i j a b counts y others l to region out from (at_exit v) next go =
    arrived (ap (λ (cs : Counts). running (at to.next cs) v) (left_from text.loops i j a b counts y to.next others region out.next from))
turn_reaches s text i j a b counts y others l to region out from (at_continue v) next go = go v
turn_reaches s text i j a b counts y others l to region out from (at_return v) next go =
    arrived (ap (λ (cs : Counts). running (at to.on_return cs) v)
    (left_from text.loops i j a b counts y to.on_return others region out.on_return from))
turn_reaches s text i j a b counts y others l to region out from (by_trap kind place) next go = arrived refl
turn_reaches s text i j a b counts y others l to region out from (by_over place) next go = arrived refl

-- ---- a loop with the test before its turns

-- loop i, in a region that a run entered with these counts. A turn begins after the test, and comes to the last location; from there it
-- comes back to the test, with these sets.
pub record TestLoop (s : Setting) (text : Text) (i j a b : ℕ) (counts : Counts) (to : Exits) (checks : List Check) (c : Term)
    (body : Valuation → Ending) (sets : List Set) (place : Place) : Type 0 where
  pub loop : Loop
  pub stands : slice_get text.loops i ≡ Some loop
  pub over : loop.place ≡ place
  pub test : slice_get text.spots a ≡ Some (Branch checks c (way (suc a) [] (Some i)) (way to.next [] None))
  pub region : IsRegion text.loops i j a b
  pub exits : AreOutside a b to
  pub numbered : i < j
  pub room : suc a < b
  pub held : (x : ℕ) → a ≤ x → x < b → holds loop x ≡ true
  pub last : ℕ
  pub low : a ≤ last
  pub high : last < b
  pub turns : (cs : Counts) (v : Valuation) → AreFresh text.loops (suc i) j (suc a) cs
      → Reaches s text (after text.loops (suc a) cs (in_loop last to) (body v)) (running (at (suc a) cs) v)
  pub fresh : (cs : Counts) → AreFresh text.loops (suc i) j (suc a) (moved text.loops a (suc a) cs)
  pub back : Counts → Counts
  pub goes_back : (end : Stage) (cs : Counts) (v : Valuation) → Reaches s text end (running (at a (back cs)) (assigned_by s sets v))
      → Reaches s text end (running (at last cs) v)
  pub back_from : (cs : Counts) → IsFrom text.loops i j a counts last cs → IsFrom text.loops i j a counts a (back cs)
  pub back_count : (cs : Counts) → back cs i ≡ cs i

pub test_reaches : (s : Setting) (text : Text) (i j a b : ℕ) (counts : Counts) (to : Exits) (checks : List Check) (c : Term)
    (body : Valuation → Ending) (sets : List Set) (place : Place) → TestLoop s text i j a b counts to checks c body sets place
    → (n : ℕ) (others : Counts) (w : Valuation) → IsFrom text.loops i j a counts a others → others i + n ≡ s.bound
    → Reaches s text (after text.loops a counts to (test_turns s checks c body sets place n w)) (running (at a others) w)
test_reaches s text i j a b counts to checks c body sets place r zero others w from count =
    tested_reaches s text a counts to a others w checks c (way (suc a) [] (Some i)) (way to.next [] None) (λ v. by_over place)
    (λ v. normal v) r.test
    (arrived (turn_over s.bound i (suc a) others (moved text.loops a (suc a) others) w (slice_get text.loops i) r.loop r.stands
    (le-leb s.bound (others i) (omega (arith, count))) ∙ ap (λ (p : Place). finished (gone_over p)) r.over))
    (arrived (ap (λ (cs : Counts). running (at to.next cs) w)
    (left_from text.loops i j a b counts a to.next others r.region r.exits.next from)))
test_reaches s text i j a b counts to checks c body sets place r (suc n) others w from count =
    tested_reaches s text a counts to a others w checks c (way (suc a) [] (Some i)) (way to.next [] None)
    (λ v. after_turn (body v) (λ u. test_turns s checks c body sets place n (assigned_by s sets u))) (λ v. normal v) r.test
    (turn (λ cs v here number. test_reaches s text i j a b counts to checks c body sets place r n cs v here number))
    (arrived (ap (λ (cs : Counts). running (at to.next cs) w)
    (left_from text.loops i j a b counts a to.next others r.region r.exits.next from)))
  where
    inside : Counts
    inside = one_more i (moved text.loops a (suc a) others)

    entered : IsFrom text.loops i j a counts (suc a) inside
    entered = from_turned text.loops i j a counts (suc a) (moved text.loops a (suc a) others) i (omega arith) r.numbered
        (from_moved text.loops i j a b counts a (suc a) others r.region.nest (let room = r.room in omega (arith, room))
        (omega arith) r.room from)

    come : IsFrom text.loops i j a counts r.last (moved text.loops (suc a) r.last inside)
    come = from_moved text.loops i j a b counts (suc a) r.last inside r.region.nest
        (let room = r.room in omega (arith, room)) r.low r.high entered

    counted : r.back (moved text.loops (suc a) r.last inside) i + n ≡ s.bound
    counted =
        let one : r.back (moved text.loops (suc a) r.last inside) i ≡ moved text.loops (suc a) r.last inside i =
        r.back_count (moved text.loops (suc a) r.last inside) in
        let two : moved text.loops (suc a) r.last inside i ≡ inside i =
        own_stays text.loops i (suc a) r.last inside r.loop r.stands (r.held (suc a) (omega arith) r.room) (r.held r.last r.low r.high) in
        let three : inside i ≡ suc (moved text.loops a (suc a) others i) = own_count i (moved text.loops a (suc a) others) in
        let four : moved text.loops a (suc a) others i ≡ others i =
        own_stays text.loops i a (suc a) others r.loop r.stands (r.held a (omega arith) (let room = r.room in omega (arith, room)))
        (r.held (suc a) (omega arith) r.room) in
        omega (arith, one, two, three, four, count)

    turn : ((cs : Counts) (v : Valuation) → IsFrom text.loops i j a counts a cs → cs i + n ≡ s.bound
        → Reaches s text (after text.loops a counts to (test_turns s checks c body sets place n v)) (running (at a cs) v))
        → Reaches s text
        (after text.loops a counts to (after_turn (body w) (λ u. test_turns s checks c body sets place n (assigned_by s sets u))))
        (along s text.loops a others (way (suc a) [] (Some i)) w)
    turn go = reach_from s text
        (after text.loops a counts to (after_turn (body w) (λ u. test_turns s checks c body sets place n (assigned_by s sets u))))
        (running (at (suc a) inside) w) (along s text.loops a others (way (suc a) [] (Some i)) w)
        (turn_on s.bound i (suc a) others (moved text.loops a (suc a) others) w (slice_get text.loops i) r.loop r.stands
        (lt-leb s.bound (others i) (omega (arith, count))))
        (reach_then s text
        (after text.loops a counts to (after_turn (body w) (λ u. test_turns s checks c body sets place n (assigned_by s sets u))))
        (after text.loops (suc a) inside (in_loop r.last to) (body w)) (running (at (suc a) inside) w)
        (r.turns inside w (fresh_turned text.loops (suc i) j (suc a) i (moved text.loops a (suc a) others) (omega arith) (r.fresh others)))
        (turn_reaches s text i j a b counts (suc a) inside r.last to r.region r.exits entered (body w)
        (λ u. test_turns s checks c body sets place n (assigned_by s sets u))
        (λ v. r.goes_back (after text.loops a counts to (test_turns s checks c body sets place n (assigned_by s sets v)))
        (moved text.loops (suc a) r.last inside) v
        (go (r.back (moved text.loops (suc a) r.last inside)) (assigned_by s sets v)
        (r.back_from (moved text.loops (suc a) r.last inside) come) counted))))

-- ---- a loop with the test after its turns

-- its last location has the test
pub record RepeatLoop (s : Setting) (text : Text) (i j a b : ℕ) (counts : Counts) (to : Exits) (checks : List Check) (c : Term)
    (body : Valuation → Ending) (place : Place) : Type 0 where
  pub loop : Loop
  pub stands : slice_get text.loops i ≡ Some loop
  pub over : loop.place ≡ place
  pub last : ℕ
  pub test : slice_get text.spots last ≡ Some (Branch checks c (way to.next [] None) (way a [] (Some i)))
  pub region : IsRegion text.loops i j a b
  pub exits : AreOutside a b to
  pub numbered : i < j
  pub low : a ≤ last
  pub high : last < b
  pub held : (x : ℕ) → a ≤ x → x < b → holds loop x ≡ true
  pub turns : (cs : Counts) (v : Valuation) → AreFresh text.loops (suc i) j a cs
      → Reaches s text (after text.loops a cs (in_loop last to) (body v)) (running (at a cs) v)
  pub fresh : (cs : Counts) → AreFresh text.loops (suc i) j a (moved text.loops last a cs)

-- its test, where the turns that are left go on so
back_reaches : (s : Setting) (text : Text) (i j a b : ℕ) (counts : Counts) (to : Exits) (checks : List Check) (c : Term)
    (body : Valuation → Ending) (place : Place) (r : RepeatLoop s text i j a b counts to checks c body place) (n : ℕ) (others : Counts)
    (v : Valuation)
    → IsFrom text.loops i j a counts a others
    → Reaches s text (after text.loops a counts to (repeat_turns s checks c body place n v))
    (along s text.loops r.last (moved text.loops a r.last others) (way a [] (Some i)) v)
    → Reaches s text (after text.loops a counts to (tested s checks c v (λ u. normal u) (λ u. repeat_turns s checks c body place n u)))
    (on_to text.loops a others r.last v)
back_reaches s text i j a b counts to checks c body place r n others v from go =
    tested_reaches s text a counts to r.last (moved text.loops a r.last others) v checks c (way to.next [] None) (way a [] (Some i))
    (λ u. normal u) (λ u. repeat_turns s checks c body place n u) r.test
    (arrived (ap (λ (cs : Counts). running (at to.next cs) v)
    (left_from text.loops i j a b counts r.last to.next (moved text.loops a r.last others) r.region r.exits.next
    (from_moved text.loops i j a b counts a r.last others r.region.nest
    (let low = r.low in let high = r.high in omega (arith, low, high)) r.low r.high from))))
    go

-- a turn and the test after it
repeat_round : (s : Setting) (text : Text) (i j a b : ℕ) (counts : Counts) (to : Exits) (checks : List Check) (c : Term)
    (body : Valuation → Ending) (place : Place) (r : RepeatLoop s text i j a b counts to checks c body place) (n : ℕ) (others : Counts)
    (w : Valuation)
    → IsFrom text.loops i j a counts a others → AreFresh text.loops (suc i) j a others
    → ((v : Valuation) → Reaches s text (after text.loops a counts to (repeat_turns s checks c body place n v))
    (along s text.loops r.last (moved text.loops a r.last others) (way a [] (Some i)) v))
    → Reaches s text (after text.loops a counts to (repeat_turns s checks c body place (suc n) w)) (running (at a others) w)
repeat_round s text i j a b counts to checks c body place r n others w from fresh go = reach_then s text
    (after text.loops a counts to (repeat_turns s checks c body place (suc n) w))
    (after text.loops a others (in_loop r.last to) (body w)) (running (at a others) w) (r.turns others w fresh)
    (turn_reaches s text i j a b counts a others r.last to r.region r.exits from (body w)
    (λ v. tested s checks c v (λ u. normal u) (λ u. repeat_turns s checks c body place n u))
    (λ v. back_reaches s text i j a b counts to checks c body place r n others v from (go v)))

pub repeat_reaches : (s : Setting) (text : Text) (i j a b : ℕ) (counts : Counts) (to : Exits) (checks : List Check) (c : Term)
    (body : Valuation → Ending) (place : Place) → RepeatLoop s text i j a b counts to checks c body place
    → (n : ℕ) (others : Counts) (w : Valuation) → IsFrom text.loops i j a counts a others → others i + n ≡ s.bound
    → AreFresh text.loops (suc i) j a others
    → Reaches s text (after text.loops a counts to (repeat_turns s checks c body place (suc n) w)) (running (at a others) w)
repeat_reaches s text i j a b counts to checks c body place r zero others w from count fresh =
    repeat_round s text i j a b counts to checks c body place r zero others w from fresh
    (λ v. arrived (turn_over s.bound i a (moved text.loops a r.last others) (moved text.loops r.last a (moved text.loops a r.last others)) v
    (slice_get text.loops i) r.loop r.stands (le-leb s.bound (moved text.loops a r.last others i) (omega (arith, count, number)))
    ∙ ap (λ (p : Place). finished (gone_over p)) r.over))
  where
    number : moved text.loops a r.last others i ≡ others i
    number = own_stays text.loops i a r.last others r.loop r.stands
        (r.held a (omega arith) (let low = r.low in let high = r.high in omega (arith, low, high))) (r.held r.last r.low r.high)
repeat_reaches s text i j a b counts to checks c body place r (suc n) others w from count fresh =
    repeat_round s text i j a b counts to checks c body place r (suc n) others w from fresh
    (λ v. reach_from s text (after text.loops a counts to (repeat_turns s checks c body place (suc n) v)) (running (at a again) v)
    (along s text.loops r.last (moved text.loops a r.last others) (way a [] (Some i)) v)
    (turn_on s.bound i a (moved text.loops a r.last others) (moved text.loops r.last a (moved text.loops a r.last others)) v
    (slice_get text.loops i) r.loop r.stands (lt-leb s.bound (moved text.loops a r.last others i) (omega (arith, count, number))))
    (repeat_reaches s text i j a b counts to checks c body place r n again v come counted
    (fresh_turned text.loops (suc i) j a i (moved text.loops r.last a (moved text.loops a r.last others)) (omega arith)
    (r.fresh (moved text.loops a r.last others)))))
  where
    some : a < b
    some = let low = r.low in let high = r.high in omega (arith, low, high)

    number : moved text.loops a r.last others i ≡ others i
    number = own_stays text.loops i a r.last others r.loop r.stands (r.held a (omega arith) some) (r.held r.last r.low r.high)

    again : Counts
    again = one_more i (moved text.loops r.last a (moved text.loops a r.last others))

    come : IsFrom text.loops i j a counts a again
    come = from_turned text.loops i j a counts a (moved text.loops r.last a (moved text.loops a r.last others)) i (omega arith) r.numbered
        (from_moved text.loops i j a b counts r.last a (moved text.loops a r.last others) r.region.nest some (omega arith) some
        (from_moved text.loops i j a b counts a r.last others r.region.nest some r.low r.high from))

    counted : again i + n ≡ s.bound
    counted =
        let one : again i ≡ suc (moved text.loops r.last a (moved text.loops a r.last others) i) =
        own_count i (moved text.loops r.last a (moved text.loops a r.last others)) in
        let two : moved text.loops r.last a (moved text.loops a r.last others) i ≡ moved text.loops a r.last others i =
        own_stays text.loops i r.last a (moved text.loops a r.last others) r.loop r.stands (r.held r.last r.low r.high)
        (r.held a (omega arith) some) in
        let three = number in
        omega (arith, one, two, three, count)
