-- The machine of the automaton with copies is that of the entry with calls: runs with calls are its runs, which end within its steps.
use Rattle.std.proofs.Common.{◌≡◌, ◌≢◌, ℕ, ℤ, List, length, Option, Some, None, refl, sym, subst, ap, ◌∙◌}
use Rattle.std.proofs.lemmas.List.Elements.{recursion_from_All}
use Rattle.pv_place.specs.Ranges.{AreWithin}
use Rattle.pv_machine.specs.Machines as m
use Rattle.pv_flow.specs.Terms.{Valuation}
use Rattle.pv_flow.specs.Automata.{Parts}
use Rattle.pv_flow.specs.Faults.{IsFaultless}
use Rattle.pv_flow.specs.WellMade.{IsVariable, IsWellMade}
use Rattle.pv_flow.specs.Runs.{Outcome, done_with, trapped, gone_over, run, control_of, first_spot, copies}
use Rattle.pv_flow.specs.Calls.{Blocks, EndsAs}
use Rattle.pv_flow.specs.Machines.{state_ranges, input_ranges, begin_at, fails_with, outcome_or_over, scan_from, step_of}
use Rattle.pv_flow.specs.Correct.{Ends}
use Rattle.pv_flow.proofs.ForCallers.{begins_typed, one_end, run_ends}
use Rattle.pv_call_copies.specs.Inlined.{inlined}
use Rattle.pv_call_copies.specs.Correct.{KeepsVariables, InlinedHasTheMachine}
use Rattle.pv_call_copies.proofs.Variables.{variables_stay}
use Rattle.pv_call_copies.proofs.Made.{inlined_is_well_made}
use Rattle.pv_call_copies.proofs.Copying.{calls_are_copies}

steps_alike : (blocks : Blocks) (p : Parts) (state : List ℤ) (begin : Valuation) (out : Outcome)
    → step_of (inlined blocks p) None state begin out ≡ step_of p None state begin out
steps_alike blocks p state begin (done_with end) =
    ap (λ (values : List ℤ). m.done values) ((variables_stay blocks p).left state end)
steps_alike blocks p state begin (trapped kind place) = refl
steps_alike blocks p state begin (gone_over place) = refl

fails_alike : (n k : ℕ) (begin other : Valuation) (out : Outcome) → fails_with None n begin out ≡ fails_with None k other out
fails_alike n k begin other (done_with end) = refl
fails_alike n k begin other (trapped kind place) = refl
fails_alike n k begin other (gone_over place) = refl

-- a run that ends within some steps ends so within those of the machine
scan_is : (p : Parts) (n steps : ℕ) (w : Valuation) (out : Outcome)
    → run (control_of p n) (copies n p.loops p.locations) (first_spot p) w ≢ None → Ends p n steps w out
    → scan_from p n (copies n p.loops p.locations) w ≡ out
scan_is p n steps w out some e = by (run (control_of p n) (copies n p.loops p.locations) (first_spot p) w) refl
  where
    by : (o : Option Outcome) → run (control_of p n) (copies n p.loops p.locations) (first_spot p) w ≡ o
        → scan_from p n (copies n p.loops p.locations) w ≡ out
    by None h = absurd (some h)
    by (Some other) h = ap (λ (o : Option Outcome). outcome_or_over o) h
        ∙ one_end (control_of p n) (copies n p.loops p.locations) steps (first_spot p) w other out h e

pub inlined_has_the_machine : InlinedHasTheMachine
inlined_has_the_machine blocks n b p fit sound lt at = record {
  state = stay.state;
  input = stay.input;
  params = stay.params;
  start = λ params are. stay.start params;
  step = λ s i out is_state is_input h.
      ap (λ (o : Outcome). step_of whole None s (begin_at whole s i) o) (scan s i out is_state is_input h)
      ∙ (steps_alike blocks p s (begin_at whole s i) out
      ∙ ap (λ (w : Valuation). step_of p None s w out) (stay.begin s i));
  fails = λ s i out is_state is_input h.
      ap (λ (o : Outcome). fails_with None (length whole.vars) (begin_at whole s i) o) (scan s i out is_state is_input h)
      ∙ fails_alike (length whole.vars) (length p.vars) (begin_at whole s i) (begin_at p s i) out;
}
  where
    whole : Parts
    whole = inlined blocks p

    stay : KeepsVariables blocks p
    stay = variables_stay blocks p

    is : IsFaultless whole × IsWellMade whole
    is = inlined_is_well_made blocks b p fit sound at

    scan : (s i : List ℤ) (out : Outcome) → AreWithin (state_ranges whole.vars) s → AreWithin (input_ranges whole.vars) i
        → EndsAs blocks n p (begin_at p s i) out → scan_from whole n (copies n whole.loops whole.locations) (begin_at whole s i) ≡ out
    scan s i out is_state is_input h =
        let found : (steps : ℕ) × Ends whole n steps (begin_at p s i) out = calls_are_copies blocks n b p (begin_at p s i) out fit sound at h in
        scan_is whole n found.0 (begin_at whole s i) out
        (run_ends whole n (begin_at whole s i) is.0 is.1 (refl, lt)
        (begins_typed whole.vars (recursion_from_All IsVariable whole.vars is.1.vars) s i is_state is_input))
        (subst (λ (w : Valuation). Ends whole n found.0 w out) (sym (stay.begin s i)) found.1)
