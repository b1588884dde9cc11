-- The machine of an automaton with call edges is one, and without call edges that of the automaton with its loop bound.
use Rattle.std.proofs.Common.{◌≡◌, ℕ, suc, ◌<◌, ℤ, List, [], ◌∷◌, length, Option, Some, None, refl, sym, subst, ap, ◌∙◌, arith}
use Rattle.std.proofs.lemmas.List.Elements.{recursion_from_All}
use Rattle.std.proofs.lemmas.Option.{none-some}
use Rattle.pv_place.specs.Ranges.{Range, AreWithin}
use Rattle.pv_machine.specs.Machines.{Machine, Values, IsState, IsInput}
use Rattle.pv_machine.specs.Same.{IsSame}
use Rattle.pv_flow.specs.Terms.{Valuation, value_of}
use Rattle.pv_flow.specs.Automata.{Set, CallEdge, Parts, HasValues}
use Rattle.pv_flow.specs.Faults.{IsFaultless}
use Rattle.pv_flow.specs.WellMade.{IsVariable, IsWellMade}
use Rattle.pv_flow.specs.Runs.{Outcome, Way, put, set_over, assigned, taken, ended, ended_or, run, Spot, at, past, exit_of, ways_of, control_of, first_spot, copies}
use Rattle.pv_flow.specs.Calls.{Blocks, block_at, Work, entry_work, call_from, call_of, seen, set_through, assigned_in, Stage, running, finished, ComesTo, stays, ends, goes, calls, EndsAs}
use Rattle.pv_flow.specs.Fitting.{AreFitting, IsSound, AreSound}
use Rattle.pv_flow.specs.Machines.{state_ranges, input_ranges, begin_at, outcome_or_over, step_of, fails_with, IsInlined, inlined_machine}
use Rattle.pv_flow.specs.CallMachines.{IsMachineWithCalls}
use Rattle.pv_flow.proofs.Steps.{one_end}
use Rattle.pv_flow.proofs.ClosedWalks.{at_some}
use Rattle.pv_flow.proofs.Lawful.{begins_typed}
use Rattle.pv_flow.proofs.RunEnds.{run_ends}
use Rattle.pv_flow.proofs.CallRuns.{calls_end}

within_of : (a b : List Range) (values : List ℤ) → a ≡ b → AreWithin a values → AreWithin b values
within_of a b values e h = subst (λ (r : List Range). AreWithin r values) e h

begin_typed : (p : Parts) (s i : List ℤ) → IsWellMade p → AreWithin (state_ranges p.vars) s → AreWithin (input_ranges p.vars) i → HasValues p (begin_at p s i)
begin_typed p s i made state input = begins_typed p.vars (recursion_from_All IsVariable p.vars made.vars) s i state input

pub one_machine_with_calls : (blocks : Blocks) (n b : ℕ) (p : Parts) (m other : Machine) → AreFitting blocks → AreSound blocks → 0 < n
    → block_at blocks b ≡ Some p → IsMachineWithCalls blocks n p m → IsMachineWithCalls blocks n p other → IsSame m other
one_machine_with_calls blocks n b p m other fit sound some there h g = record {
  state = h.state ∙ sym g.state;
  input = h.input ∙ sym g.input;
  params = h.params ∙ sym g.params;
  start = λ ps are. h.start ps are ∙ sym (g.start ps (within_of m.params other.params ps (h.params ∙ sym g.params) are));
  step = λ s i state input. let it = run_of s i state input in
      h.step s i it.0 state input it.1 ∙ sym (g.step s i it.0 (other_state s state) (other_input i input) it.1);
  fails = λ s i state input. let it = run_of s i state input in
      h.fails s i it.0 state input it.1 ∙ sym (g.fails s i it.0 (other_state s state) (other_input i input) it.1);
}
  where
    made : IsWellMade p
    made = (at_some IsSound (block_at blocks b) p there (sound b)).well_made

    other_state : (s : Values) → IsState m s → IsState other s
    other_state s is = within_of m.state other.state s (h.state ∙ sym g.state) is

    other_input : (i : Values) → IsInput m i → IsInput other i
    other_input i is = within_of m.input other.input i (h.input ∙ sym g.input) is

    run_of : (s i : Values) → IsState m s → IsInput m i → (out : Outcome) × EndsAs blocks n p (begin_at p s i) out
    run_of s i state input = calls_end blocks n b p (begin_at p s i) fit sound some there
        (begin_typed p s i made (within_of m.state (state_ranges p.vars) s h.state state) (within_of m.input (input_ranges p.vars) i h.input input))

-- ---- without call edges

own_places : (old : Valuation) (sets : List Set) (w : Valuation) → set_through (λ x. x) old sets w ≡ set_over old sets w
own_places old [] w = refl
own_places old (set ∷ sets) w = own_places old sets (put w set.variable (value_of old set.value))

no_call : (l j : ℕ) (edges : List CallEdge) → length edges ≡ 0 → call_from l j edges ≡ None
no_call l j [] e = refl
no_call l j (call ∷ edges) e = absurd (omega (arith, e))

calls_none : (p : Parts) (x : Spot) → length p.calls ≡ 0 → call_of p x ≡ None
calls_none p (at l counts) e = no_call l 0 p.calls e
calls_none p (past place) e = refl

-- a run of the entry that comes to this outcome is one of the automaton with so many steps
abbrev EndsFlat : Parts → ℕ → Stage → Outcome → Type 0
EndsFlat p n (running x w) out = (steps : ℕ) × (run (control_of p n) steps x w ≡ Some out)
EndsFlat p n (finished end) out = end ≡ out

flat : (blocks : Blocks) (n : ℕ) (p : Parts) (k : Work) (s : Stage) (out : Outcome) → length p.calls ≡ 0 → k ≡ entry_work p
    → ComesTo blocks n k s out → EndsFlat p n s out
flat blocks n p k (finished end) out none is (stays e) = e
flat blocks n p k (running x w) out none is (ends e) = (0, subst (λ (k : Work). ended (exit_of k.parts x) w ≡ Some out) is e)
flat blocks n p k (running x w) out none is (goes way exit no_call takes after) =
    let rest = flat blocks n p k (running way.to (assigned_in k way.sets w)) out none is after in
    let then : Way Spot → Option Outcome = λ way. run (control_of p n) rest.0 way.to (assigned way.sets w) in
    let ends_not : exit_of p x ≡ None = subst (λ (k : Work). exit_of k.parts x ≡ None) is exit in
    let first : taken w (ways_of p n x) ≡ Some way = subst (λ (k : Work). taken (seen k w) (ways_of k.parts n x) ≡ Some way) is takes in
    let left : assigned_in k way.sets w ≡ assigned way.sets w = ap (λ (k : Work). assigned_in k way.sets w) is ∙ own_places w way.sets w in (
      suc rest.0,
      ap (λ (end : Option _). ended_or end (taken w (ways_of p n x)) w then) ends_not
          ∙ ap (λ (t : Option (Way Spot)). ended_or None t w then) first
          ∙ ap (λ (u : Valuation). run (control_of p n) rest.0 way.to u) (sym left) ∙ rest.1,
    )
flat blocks n p k (running x w) out none is (calls c q middle exit call block inside after) =
    absurd (none-some c (sym (calls_none p x none) ∙ subst (λ (k : Work). call_of k.parts x ≡ Some c) is call))

flat_scan : (blocks : Blocks) (n : ℕ) (p : Parts) (w : Valuation) (out : Outcome) → IsFaultless p → IsWellMade p → IsInlined p n → HasValues p w
    → EndsAs blocks n p w out → outcome_or_over (run (control_of p n) (copies n p.loops p.locations) (first_spot p) w) ≡ out
flat_scan blocks n p w out f made inlined have h =
    by (run (control_of p n) (copies n p.loops p.locations) (first_spot p) w) refl (flat blocks n p (entry_work p) (running (first_spot p) w) out inlined.0 refl h)
  where
    by : (o : Option Outcome) → run (control_of p n) (copies n p.loops p.locations) (first_spot p) w ≡ o
        → (steps : ℕ) × (run (control_of p n) steps (first_spot p) w ≡ Some out) → outcome_or_over o ≡ out
    by None e it = absurd (run_ends p n w f made inlined have e)
    by (Some end) e it = one_end (control_of p n) (copies n p.loops p.locations) it.0 (first_spot p) w end out e it.1

pub inlined_machine_with_calls : (blocks : Blocks) (n : ℕ) (p : Parts) → IsFaultless p → IsWellMade p → IsInlined p n
    → IsMachineWithCalls blocks n p (inlined_machine p n)
inlined_machine_with_calls blocks n p f made inlined = record {
  state = refl;
  input = refl;
  params = refl;
  start = λ ps are. refl;
  step = λ s i out state input h. ap (λ (end : Outcome). step_of p None s (begin_at p s i) end)
      (flat_scan blocks n p (begin_at p s i) out f made inlined (begin_typed p s i made state input) h);
  fails = λ s i out state input h. ap (λ (end : Outcome). fails_with None (length p.vars) (begin_at p s i) end)
      (flat_scan blocks n p (begin_at p s i) out f made inlined (begin_typed p s i made state input) h);
}
