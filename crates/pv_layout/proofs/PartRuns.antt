-- Edges by number come to what the spots come to: step by step, each by the edge of the check that fails or of the way, or by the call.
use Rattle.std.proofs.Common.{◌≡◌, ℕ, zero, suc, ◌+◌, ◌<◌, ◌≤◌, List, [], ◌∷◌, ◌++◌, length, slice_get, Bool, true, false, not, nat_le, Option, Some, None, refl, sym, subst, ap, ◌∙◌, arith}
use Rattle.std.proofs.lemmas.Bool.{false≢true}
use Rattle.std.proofs.lemmas.Option.{none-some}
use Rattle.pv_flow.specs.Terms.{Term, Valuation}
use Rattle.pv_flow.specs.Automata.{Edge, CallEdge, Loop, Parts}
use Rattle.pv_flow.specs.Runs.{End, done_with, trapped, gone_over, Outcome, Spot as State, at, past, Counts, Way as Taken, taken, way_of, ways_by, ended, moved}
use Rattle.pv_flow.specs.Calls.{Blocks, Work, Stage, running, finished, returned, numbered, call_from, call_of, ComesTo, stays, ends, goes, calls}
use Rattle.pv_layout.specs.Spots.{Check, Way, Spot, Act, Branch, Enter, checks_of, is_on, failing, true_term, both, negated, none_of, check_edges, way_edge, way_edges, edges_at}
use Rattle.pv_layout.specs.Flows.{Setting, assigned_by}
use Rattle.pv_layout.specs.Layout.{Text, Head, parts_of, edges_of, calls_of, turned_loops, marks_of, no_marks, way_marks, traps_of, traps_at}
use Rattle.pv_layout.specs.SpotRuns.{calls_before, one_more, turn_to, led_by, along, unless, back_to, step_of, stepped, Reaches, arrived, further}
use Rattle.pv_layout.specs.Sound.{LeadsWithin, LeadWithin}
use Rattle.pv_layout.specs.Correct.{IsLaid, IsCall, AreCalls}
use Rattle.pv_layout.proofs.Lists.{some_at}
use Rattle.pv_layout.proofs.Guards.{IsBit, true_is, on_negated, beside}
use Rattle.pv_layout.proofs.Marks.{same_moved, led_stage, led_marked}
use Rattle.pv_layout.proofs.Edges.{ways_here, EdgesAt, edges_there, take_step, clear_takes, trap_edge, FailTakes, fails_takes}
use Rattle.pv_layout.proofs.Ends.{at_done, no_end, at_trap, check_trap, laid_index, call_by, call_there, edge_of, call_stands}

-- ---- stages

-- what a stage comes to
abbrev pub Goal : Blocks → ℕ → Work → Outcome → Stage → Type 0
Goal blocks n k out (running x w) = ComesTo blocks n k (running x w) out
Goal blocks n k out (finished end) = end ≡ out

-- the same of locations up to a limit
abbrev pub Comes : Blocks → ℕ → Work → Outcome → ℕ → Stage → Type 0
Comes blocks n k out limit (running (at l counts) w) = l ≤ limit → ComesTo blocks n k (running (at l counts) w) out
Comes blocks n k out limit (running (past place) w) = gone_over place ≡ out
Comes blocks n k out limit (finished end) = end ≡ out

goal_led : (blocks : Blocks) (n : ℕ) (k : Work) (out : Outcome) (x : State) (w : Valuation) (stage : Stage) → led_stage x w ≡ stage
    → Goal blocks n k out stage → ComesTo blocks n k (running x w) out
goal_led blocks n k out (at l counts) w stage e h = subst (λ (s : Stage). Goal blocks n k out s) (sym e) h
goal_led blocks n k out (past place) w stage e h =
    ends (ap (λ (o : Outcome). Some o) (subst (λ (s : Stage). Goal blocks n k out s) (sym e) h))

-- along a way to a location within the limit
goal_along : (blocks : Blocks) (n : ℕ) (k : Work) (out : Outcome) (limit : ℕ) (loops : List Loop) (l to : ℕ) (counts : Counts)
    (v : Valuation)
    (turn : Option ℕ) → to ≤ limit → Comes blocks n k out limit (led_by n loops l to counts v turn)
    → Goal blocks n k out (led_by n loops l to counts v turn)
goal_along blocks n k out limit loops l to counts v None le h = h le
goal_along blocks n k out limit loops l to counts v (Some i) le h = by (slice_get loops i) h
  where
    over : (loop : Loop) (b : Bool) (stage : Stage) → (Comes blocks n k out limit stage → Goal blocks n k out stage)
        → Comes blocks n k out limit (elim b [ true ↦ finished (gone_over loop.place) | false ↦ stage ])
        → Goal blocks n k out (elim b [ true ↦ finished (gone_over loop.place) | false ↦ stage ])
    over loop true stage go h = h
    over loop false stage go h = go h

    by : (o : Option Loop) → Comes blocks n k out limit (turn_to n i to counts (moved loops l to counts) v o)
        → Goal blocks n k out (turn_to n i to counts (moved loops l to counts) v o)
    by None h = h le
    by (Some loop) h = over loop (nat_le n (counts i)) (running (at to (one_more i (moved loops l to counts))) v) (λ g. g le) h

-- ---- marks of a spot's edges

check_mark : (checks : List Check) (more : List (Option ℕ)) (q : ℕ) (check : Check) → slice_get checks q ≡ Some check
    → slice_get (no_marks checks ++ more) q ≡ Some None
check_mark [] more q check here = absurd (none-some check here)
check_mark (first ∷ checks) more zero check here = refl
check_mark (first ∷ checks) more (suc q) check here = check_mark checks more q check here

way_mark : (checks : List Check) (more : List (Option ℕ)) (q : ℕ) (mark : Option ℕ) → slice_get more q ≡ Some mark
    → slice_get (no_marks checks ++ more) (length checks + q) ≡ Some mark
way_mark [] more q mark here = subst (λ (n : ℕ). slice_get more n ≡ Some mark) (omega arith) here
way_mark (check ∷ checks) more q mark here =
    let passed : suc (length checks + q) ≡ suc (length checks) + q = omega arith in
    subst (λ (n : ℕ). slice_get (None ∷ (no_marks checks ++ more)) n ≡ Some mark) passed (way_mark checks more q mark here)

-- ---- a step

-- the parts of a layout at work
abbrev pub laid_work : Head → Text → (ℕ → ℕ) → ℕ → Work
laid_work head text place free = record { parts = parts_of head text; place = place; free = free }

abbrev the_loops : Text → List Loop
the_loops text = turned_loops (marks_of text.spots) 0 text.loops

-- by the way that is taken
step_goes : (blocks : Blocks) (n : ℕ) (head : Head) (text : Text) (place : ℕ → ℕ) (free : ℕ) (out : Outcome) (l : ℕ) (counts : Counts)
    (w : Valuation)
    (e : ℕ) (edge : Edge) (mark : Option ℕ) (stage : Stage) → l < length text.spots
    → call_of (parts_of head text) (at l counts) ≡ None
    → taken (λ x. w (place x)) (ways_by (the_loops text) n l counts 0 (parts_of head text).edges)
    ≡ Some (way_of (the_loops text) n l counts e edge)
    → slice_get (marks_of text.spots) e ≡ Some mark
    → led_by n text.loops l edge.to counts
    (assigned_by (record { place = place; called = λ j b i v. done_with v; bound = n }) edge.sets w) mark ≡ stage
    → Goal blocks n (laid_work head text place free) out stage
    → ComesTo blocks n (laid_work head text place free) (running (at l counts) w) out
step_goes blocks n head text place free out l counts w e edge mark stage lt no_call takes marked same h =
    goes (way_of (the_loops text) n l counts e edge) (no_end head text l lt) no_call takes
    (goal_led blocks n (laid_work head text place free) out (way_of (the_loops text) n l counts e edge).to
    (assigned_by (record { place = place; called = λ j b i v. done_with v; bound = n }) edge.sets w) stage
    (led_marked (marks_of text.spots) text.loops n e l edge.to counts
    (assigned_by (record { place = place; called = λ j b i v. done_with v; bound = n }) edge.sets w) mark marked ∙ same) h)

-- the spot at a location, with its edges among all
record AtSpot (text : Text) (n : ℕ) (counts : Counts) (l : ℕ) (spot : Spot) : Type 0 where
  edge : ℕ
  trap : ℕ
  ways : ways_by (the_loops text) n l counts 0 (edges_of (length text.spots) 0 0 text.spots)
      ≡ ways_by (the_loops text) n l counts edge (edges_at (length text.spots) trap l spot)
  marks : IsLaid (marks_of text.spots) edge (no_marks (checks_of spot) ++ way_marks spot)
  traps : IsLaid (traps_of (length text.spots) 0 text.spots) trap (traps_at (length text.spots) trap (checks_of spot))

at_spot : (text : Text) (n : ℕ) (counts : Counts) (l : ℕ) (spot : Spot)
    → EdgesAt (the_loops text) n counts (length text.spots) text.spots 0 0 0 l spot → AtSpot text n counts l spot
at_spot text n counts l spot h = record {
  edge = h.edge;
  trap = h.trap;
  ways = h.ways ∙ (ap (λ (m : ℕ). ways_by (the_loops text) n l counts m (edges_at (length text.spots) (0 + h.trap) l spot)) same_edge
      ∙ ap (λ (m : ℕ). ways_by (the_loops text) n l counts h.edge (edges_at (length text.spots) m l spot)) same_trap);
  marks = h.marks;
  traps = subst (λ (m : ℕ). IsLaid (traps_of (length text.spots) 0 text.spots) h.trap (traps_at (length text.spots) m (checks_of spot)))
      same_trap h.traps;
}
  where
    same_edge : 0 + h.edge ≡ h.edge
    same_edge = omega arith

    same_trap : 0 + h.trap ≡ h.trap
    same_trap = omega arith

spot_there : (text : Text) (n : ℕ) (counts : Counts) (l : ℕ) (spot : Spot) → slice_get text.spots l ≡ Some spot
    → AtSpot text n counts l spot
spot_there text n counts l spot stands = at_spot text n counts l spot
    (subst (λ (m : ℕ). EdgesAt (the_loops text) n counts (length text.spots) text.spots 0 0 0 m spot) (omega arith)
    (edges_there (the_loops text) n counts (length text.spots) text.spots 0 0 0 l spot stands))

-- a check fails
fail_comes : (blocks : Blocks) (n : ℕ) (head : Head) (text : Text) (place : ℕ → ℕ) (free : ℕ) (out : Outcome) (l : ℕ) (counts : Counts)
    (w : Valuation)
    (spot : Spot) (check : Check) → l < length text.spots → call_of (parts_of head text) (at l counts) ≡ None → AtSpot text n counts l spot
    → failing (λ x. w (place x)) (checks_of spot) ≡ Some check → trapped check.kind check.place ≡ out
    → ComesTo blocks n (laid_work head text place free) (running (at l counts) w) out
fail_comes blocks n head text place free out l counts w spot check lt no_call there fails same =
    step_goes blocks n head text place free out l counts w (there.edge + f.number)
    (trap_edge (length text.spots) l (there.trap + f.number) f.guard) None
    (running (at (length text.spots + suc (there.trap + f.number))
    (moved text.loops l (length text.spots + suc (there.trap + f.number)) counts)) w)
    lt no_call (ap (λ (ways : List (Taken State)). taken (λ x. w (place x)) ways) there.ways ∙ f.takes)
    (laid_index (marks_of text.spots) there.edge (no_marks (checks_of spot) ++ way_marks spot) f.number None there.marks
    (check_mark (checks_of spot) (way_marks spot) f.number check f.stands))
    refl
    (ends (ap (λ (o : Option End). ended o w)
    (at_trap head text (there.trap + f.number)
    (record { location = length text.spots + suc (there.trap + f.number); kind = check.kind; place = check.place })
    (laid_index (traps_of (length text.spots) 0 text.spots) there.trap (traps_at (length text.spots) there.trap (checks_of spot)) f.number
    (record { location = length text.spots + suc (there.trap + f.number); kind = check.kind; place = check.place }) there.traps
    (check_trap (length text.spots) there.trap (checks_of spot) f.number check f.stands)))
    ∙ ap (λ (o : Outcome). Some o) same))
  where
    f : FailTakes (λ x. w (place x)) (the_loops text) n l counts (length text.spots) there.trap there.edge (checks_of spot) check
        (check_edges (length text.spots) there.trap l true_term (checks_of spot) ++ way_edges l (none_of true_term (checks_of spot)) spot)
    f = fails_takes (λ x. w (place x)) (the_loops text) n l counts (length text.spots) there.trap there.edge true_term
        (checks_of spot) check
        (way_edges l (none_of true_term (checks_of spot)) spot) (true_is (λ x. w (place x))) fails

-- no check fails: the way of this number after the checks, if it is taken
way_comes : (blocks : Blocks) (n : ℕ) (head : Head) (text : Text) (place : ℕ → ℕ) (free : ℕ) (out : Outcome) (l : ℕ) (counts : Counts)
    (w : Valuation)
    (spot : Spot) (q : ℕ) (guard : Term) (on : Way) → l < length text.spots → call_of (parts_of head text) (at l counts) ≡ None
    → AtSpot text n counts l spot → failing (λ x. w (place x)) (checks_of spot) ≡ None → slice_get (way_marks spot) q ≡ Some on.turn
    → ((m : ℕ) → IsBit (λ x. w (place x)) (none_of true_term (checks_of spot)) true
    → taken (λ x. w (place x)) (ways_by (the_loops text) n l counts m (way_edges l (none_of true_term (checks_of spot)) spot))
    ≡ Some (way_of (the_loops text) n l counts (m + q) (way_edge l guard on)))
    → on.to ≤ length text.spots
    → Comes blocks n (laid_work head text place free) out (length text.spots)
    (along (record { place = place; called = λ j b i v. done_with v; bound = n }) text.loops l counts on w)
    → ComesTo blocks n (laid_work head text place free) (running (at l counts) w) out
way_comes blocks n head text place free out l counts w spot q guard on lt no_call there clear marked takes le h =
    step_goes blocks n head text place free out l counts w (there.edge + (length (checks_of spot) + q)) (way_edge l guard on) on.turn
    (along (record { place = place; called = λ j b i v. done_with v; bound = n }) text.loops l counts on w) lt no_call
    (ap (λ (ways : List (Taken State)). taken (λ x. w (place x)) ways) there.ways
    ∙ (left.1 ∙ (takes (there.edge + length (checks_of spot)) left.0
    ∙ ap (λ (m : ℕ). Some (way_of (the_loops text) n l counts m (way_edge l guard on))) (omega arith))))
    (laid_index (marks_of text.spots) there.edge (no_marks (checks_of spot) ++ way_marks spot)
    (length (checks_of spot) + q) on.turn there.marks
    (way_mark (checks_of spot) (way_marks spot) q on.turn marked))
    refl
    (goal_along blocks n (laid_work head text place free) out (length text.spots) text.loops l on.to counts
    (assigned_by (record { place = place; called = λ j b i v. done_with v; bound = n }) on.sets w) on.turn le h)
  where
    left : IsBit (λ x. w (place x)) (none_of true_term (checks_of spot)) true
        × (taken (λ x. w (place x)) (ways_by (the_loops text) n l counts there.edge
        (check_edges (length text.spots) there.trap l true_term (checks_of spot) ++ way_edges l (none_of true_term (checks_of spot)) spot))
        ≡ taken (λ x. w (place x)) (ways_by (the_loops text) n l counts (there.edge + length (checks_of spot))
        (way_edges l (none_of true_term (checks_of spot)) spot)))
    left = clear_takes (λ x. w (place x)) (the_loops text) n l counts (length text.spots) there.trap there.edge true_term (checks_of spot)
        (λ last. way_edges l last spot) (true_is (λ x. w (place x))) clear

-- which way is taken
act_takes : (v : Valuation) (loops : List Loop) (n l : ℕ) (counts : Counts) (last : Term) (checks : List Check) (on : Way) (m : ℕ)
    → IsBit v last true
    → taken v (ways_by loops n l counts m (way_edges l last (Act checks on))) ≡ Some (way_of loops n l counts (m + 0) (way_edge l last on))
act_takes v loops n l counts last checks on m is = ap (λ (ways : List (Taken State)). taken v ways)
    (ways_here loops n l counts m (way_edge l last on) [] refl)
    ∙ (take_step v (way_of loops n l counts m (way_edge l last on)) [] true is.held
    ∙ ap (λ (k : ℕ). Some (way_of loops n l counts k (way_edge l last on))) (omega arith))

first_takes : (v : Valuation) (loops : List Loop) (n l : ℕ) (counts : Counts) (last c : Term) (checks : List Check) (one other : Way)
    (m : ℕ)
    → is_on v c ≡ true → IsBit v last true
    → taken v (ways_by loops n l counts m (way_edges l last (Branch checks c one other)))
    ≡ Some (way_of loops n l counts (m + 0) (way_edge l (both c last) one))
first_takes v loops n l counts last c checks one other m on is = ap (λ (ways : List (Taken State)). taken v ways)
    (ways_here loops n l counts m (way_edge l (both c last) one) (way_edge l (both (negated c) last) other ∷ []) refl)
    ∙ (take_step v (way_of loops n l counts m (way_edge l (both c last) one))
    (ways_by loops n l counts (suc m) (way_edge l (both (negated c) last) other ∷ [])) true (beside v c last is ∙ on)
    ∙ ap (λ (k : ℕ). Some (way_of loops n l counts k (way_edge l (both c last) one))) (omega arith))

second_takes : (v : Valuation) (loops : List Loop) (n l : ℕ) (counts : Counts) (last c : Term) (checks : List Check) (one other : Way)
    (m : ℕ)
    → is_on v c ≡ false → IsBit v last true
    → taken v (ways_by loops n l counts m (way_edges l last (Branch checks c one other)))
    ≡ Some (way_of loops n l counts (m + 1) (way_edge l (both (negated c) last) other))
second_takes v loops n l counts last c checks one other m off is = ap (λ (ways : List (Taken State)). taken v ways)
    (ways_here loops n l counts m (way_edge l (both c last) one) (way_edge l (both (negated c) last) other ∷ []) refl)
    ∙ (take_step v (way_of loops n l counts m (way_edge l (both c last) one))
    (ways_by loops n l counts (suc m) (way_edge l (both (negated c) last) other ∷ [])) false (beside v c last is ∙ off)
    ∙ (ap (λ (ways : List (Taken State)). taken v ways)
    (ways_here loops n l counts (suc m) (way_edge l (both (negated c) last) other) [] refl)
    ∙ (take_step v (way_of loops n l counts (suc m) (way_edge l (both (negated c) last) other)) [] true
    (beside v (negated c) last is ∙ (on_negated v c ∙ ap (λ (b : Bool). not b) off))
    ∙ ap (λ (k : ℕ). Some (way_of loops n l counts k (way_edge l (both (negated c) last) other))) (omega arith))))

-- ---- a spot

after_call : (blocks : Blocks) (n : ℕ) (k : Work) (out : Outcome) (limit : ℕ) (marks : List (Option ℕ)) (loops : List Loop) (l to : ℕ)
    (counts : Counts) (call : CallEdge) → call.to ≡ to → to ≤ limit → (middle : Outcome)
    → Comes blocks n k out limit (back_to loops l to counts middle)
    → k.parts.loops ≡ turned_loops marks 0 loops
    → ComesTo blocks n k (returned k.parts.loops call (at l counts) middle) out
after_call blocks n k out limit marks loops l to counts call same le (done_with v) h all =
    subst (λ (m : ℕ). ComesTo blocks n k (running (at m (moved k.parts.loops l m counts)) v) out) (sym same)
    (subst (λ (cs : Counts). ComesTo blocks n k (running (at to cs) v) out)
    (sym (ap (λ (ls : List Loop). moved ls l to counts) all ∙ same_moved marks loops l to counts)) (h le))
after_call blocks n k out limit marks loops l to counts call same le (trapped kind place) h all = stays h
after_call blocks n k out limit marks loops l to counts call same le (gone_over place) h all = stays h

-- the setting and the work that see the same variables
abbrev the_setting : (ℕ → ℕ) → (ℕ → ℕ → ℕ → Valuation → Outcome) → ℕ → Setting
the_setting place called n = record { place = place; called = called; bound = n }

spot_comes : (blocks : Blocks) (n : ℕ) (head : Head) (text : Text) (place : ℕ → ℕ) (free : ℕ) (called : ℕ → ℕ → ℕ → Valuation → Outcome)
    (out : Outcome) (l : ℕ) (counts : Counts) (w : Valuation) (spot : Spot) → slice_get text.spots l ≡ Some spot → l < length text.spots
    → LeadsWithin (length text.spots) spot → AreCalls blocks (laid_work head text place free) (the_setting place called n)
    → AtSpot text n counts l spot → call_of (parts_of head text) (at l counts) ≡ call_by l (calls_before text.spots l) spot
    → Comes blocks n (laid_work head text place free) out (length text.spots)
    (step_of (the_setting place called n) text.loops (calls_before text.spots l) l counts w (Some spot))
    → ComesTo blocks n (laid_work head text place free) (running (at l counts) w) out
spot_comes blocks n head text place free called out l counts w (Act checks on) stands lt leads are there call h =
    by (failing (λ x. w (place x)) checks) refl h
  where
    by : (o : Option Check) → failing (λ x. w (place x)) checks ≡ o
        → Comes blocks n (laid_work head text place free) out (length text.spots)
        (unless o (along (the_setting place called n) text.loops l counts on w))
        → ComesTo blocks n (laid_work head text place free) (running (at l counts) w) out
    by (Some check) fails g = fail_comes blocks n head text place free out l counts w (Act checks on) check lt call there fails g
    by None clear g = way_comes blocks n head text place free out l counts w (Act checks on) 0
        (none_of true_term checks) on lt call there clear refl
        (λ m is. act_takes (λ x. w (place x)) (the_loops text) n l counts (none_of true_term checks) checks on m is) leads g
spot_comes blocks n head text place free called out l counts w (Branch checks c one other) stands lt leads are there call h =
    by (failing (λ x. w (place x)) checks) refl (is_on (λ x. w (place x)) c) refl h
  where
    by : (o : Option Check) → failing (λ x. w (place x)) checks ≡ o → (b : Bool) → is_on (λ x. w (place x)) c ≡ b
        → Comes blocks n (laid_work head text place free) out (length text.spots) (unless o (elim b [
          | true ↦ along (the_setting place called n) text.loops l counts one w
          | false ↦ along (the_setting place called n) text.loops l counts other w
        ]))
        → ComesTo blocks n (laid_work head text place free) (running (at l counts) w) out
    by (Some check) fails b on g =
        fail_comes blocks n head text place free out l counts w (Branch checks c one other) check lt call there fails g
    by None clear true on g = way_comes blocks n head text place free out l counts w (Branch checks c one other) 0
        (both c (none_of true_term checks)) one lt call there clear refl
        (λ m is. first_takes (λ x. w (place x)) (the_loops text) n l counts (none_of true_term checks) c checks one other m on is) leads.0 g
    by None clear false off g = way_comes blocks n head text place free out l counts w (Branch checks c one other) 1
        (both (negated c) (none_of true_term checks)) other lt call there clear refl
        (λ m is. second_takes (λ x. w (place x)) (the_loops text) n l counts
        (none_of true_term checks) c checks one other m off is) leads.1 g
spot_comes blocks n head text place free called out l counts w (Enter block instance spot_place to) stands lt leads are there call h =
    calls (numbered j edge) is.parts (called j block instance w) (no_end head text l lt) call is.stands (is.comes w)
    (after_call blocks n (laid_work head text place free) out (length text.spots)
    (marks_of text.spots) text.loops l to counts edge refl leads
    (called j block instance w) h refl)
  where
    j : ℕ
    j = calls_before text.spots l

    edge : CallEdge
    edge = edge_of l to block instance spot_place

    number : slice_get (parts_of head text).calls j ≡ Some edge
    number = call_stands 0 l text.spots block instance spot_place to stands
        ∙ (let same : 0 + l ≡ l = omega arith in ap (λ (m : ℕ). Some (edge_of m to block instance spot_place)) same)

    is : IsCall blocks (laid_work head text place free) (the_setting place called n) j edge
    is = some_at (IsCall blocks (laid_work head text place free) (the_setting place called n) j)
        (slice_get (parts_of head text).calls j) edge number (are j)

-- ---- runs

abbrev is_finished : Stage → Bool
is_finished (running x w) = false
is_finished (finished out) = true

abbrev end_in : Outcome → Stage → Outcome
end_in other (running x w) = other
end_in other (finished out) = out

pub is_below : {X : Type 0} (xs : List X) (i : ℕ) (x : X) → slice_get xs i ≡ Some x → i < length xs
is_below [] i x here = absurd (none-some x here)
is_below (y ∷ xs) zero x here = omega arith
is_below (y ∷ xs) (suc i) x here = let lt = is_below xs i x here in omega (arith, lt)

pub past_all : {X : Type 0} (xs : List X) (i : ℕ) → slice_get xs i ≡ None → length xs ≤ i
past_all [] i here = omega arith
past_all (y ∷ xs) zero here = absurd (none-some y (sym here))
past_all (y ∷ xs) (suc i) here = let le = past_all xs i here in omega (arith, le)

step_comes : (blocks : Blocks) (n : ℕ) (head : Head) (text : Text) (place : ℕ → ℕ) (free : ℕ) (called : ℕ → ℕ → ℕ → Valuation → Outcome)
    (out : Outcome) (l : ℕ) (counts : Counts) (w : Valuation) → LeadWithin text
    → AreCalls blocks (laid_work head text place free) (the_setting place called n) → l ≤ length text.spots
    → Comes blocks n (laid_work head text place free) out (length text.spots) (stepped (the_setting place called n) text l counts w)
    → ComesTo blocks n (laid_work head text place free) (running (at l counts) w) out
step_comes blocks n head text place free called out l counts w leads are le h = by (slice_get text.spots l) refl h
  where
    by : (o : Option Spot) → slice_get text.spots l ≡ o
        → Comes blocks n (laid_work head text place free) out (length text.spots)
        (step_of (the_setting place called n) text.loops (calls_before text.spots l) l counts w o)
        → ComesTo blocks n (laid_work head text place free) (running (at l counts) w) out
    by None none g = let far = past_all text.spots l none in
        ends (ap (λ (o : Option End). ended o w) (at_done head text l (omega (arith, far, le))) ∙ ap (λ (o : Outcome). Some o) g)
    by (Some spot) some g = spot_comes blocks n head text place free called out l counts w spot some
        (is_below text.spots l spot some)
        (some_at (LeadsWithin (length text.spots)) (slice_get text.spots l) spot some (leads l)) are
        (spot_there text n counts l spot some)
        (subst (λ (m : ℕ). call_from m 0 (calls_of 0 text.spots) ≡ call_by m (calls_before text.spots l) spot) (omega arith)
        (call_there 0 0 l text.spots spot some
        ∙ (let same : 0 + calls_before text.spots l ≡ calls_before text.spots l = omega arith in ap (λ (j : ℕ). call_by
        (0 + l) j spot) same))) g

run_comes : (blocks : Blocks) (n : ℕ) (head : Head) (text : Text) (place : ℕ → ℕ) (free : ℕ) (called : ℕ → ℕ → ℕ → Valuation → Outcome)
    (out : Outcome) → LeadWithin text → AreCalls blocks (laid_work head text place free) (the_setting place called n) → (stage : Stage)
    → Reaches (the_setting place called n) text (finished out) stage
    → Comes blocks n (laid_work head text place free) out (length text.spots) stage
run_comes blocks n head text place free called out leads are (running (at l counts) w) (arrived e) = absurd (false≢true (ap is_finished e))
run_comes blocks n head text place free called out leads are (running (at l counts) w) (further g) =
    λ le. step_comes blocks n head text place free called out l counts w leads are le
    (run_comes blocks n head text place free called out leads are (stepped (the_setting place called n) text l counts w) g)
run_comes blocks n head text place free called out leads are (running (past there) w) (arrived e) = absurd (false≢true (ap is_finished e))
run_comes blocks n head text place free called out leads are (finished end) (arrived e) = ap (end_in out) e

abbrev RunsAs : Blocks → Head → Text → Work → Setting → Type 0
RunsAs blocks head text k s = (l : ℕ) (counts : Counts) (w : Valuation) (out : Outcome) → l ≤ length text.spots → AreCalls blocks k s
    → Reaches s text (finished out) (running (at l counts) w) → ComesTo blocks s.bound k (running (at l counts) w) out

pub parts_run : (blocks : Blocks) (k : Work) (s : Setting) (head : Head) (text : Text) → k.parts ≡ parts_of head text → s.place ≡ k.place
    → LeadWithin text → RunsAs blocks head text k s
parts_run blocks k s head text parts place leads =
    subst (λ (p : Parts). RunsAs blocks head text (record { parts = p; place = k.place; free = k.free }) s) (sym parts)
    (subst (λ (pl : ℕ → ℕ). RunsAs blocks head text (laid_work head text k.place k.free)
    (record { place = pl; called = s.called; bound = s.bound }))
    (sym place)
    (λ l counts w out le are reaches. run_comes blocks s.bound head text k.place k.free s.called out leads are
    (running (at l counts) w) reaches le))
