-- The machine of the automaton of the copies is that of the automaton: both runs end within their steps, and so alike.
use Rattle.std.proofs.Common.{◌≡◌, ℕ, ℤ, List, length, Option, Some, None, refl, sym, ap, ◌∙◌}
use Rattle.std.proofs.lemmas.List.Elements.{recursion_from_All}
use Rattle.pv_machine.specs.Machines.{IsState, IsInput}
use Rattle.pv_flow.specs.Terms.{Valuation}
use Rattle.pv_flow.specs.Automata.{Parts, HasValues}
use Rattle.pv_flow.specs.Faults.{IsFaultless}
use Rattle.pv_flow.specs.WellMade.{IsVariable, IsWellMade}
use Rattle.pv_flow.specs.Runs.{Outcome, run, control_of, first_spot, copies}
use Rattle.pv_flow.specs.Machines.{begin_at, outcome_or_over, scan_from, step_of, fails_with, inlined_machine, IsInlined}
use Rattle.pv_flow.proofs.ForCallers.{begins_typed, one_end, run_ends, acyclic_ends}
use Rattle.pv_copies.specs.Unrolled.{unrolled}
use Rattle.pv_copies.specs.Correct.{SameMachine}
use Rattle.pv_copies.proofs.Turning.{loops_are_copies}
use Rattle.pv_copies.proofs.Numbers.{copies_are_numbers}
use Rattle.pv_copies.proofs.Counting.{numbers_lead_forward}
use Rattle.pv_copies.proofs.Made.{unrolled_is_well_made}
use Rattle.pv_copies.proofs.Machine.{step_alike}

scans_alike : (p : Parts) (n : ℕ) (begin : Valuation) → IsFaultless p → IsWellMade p → IsInlined p n → HasValues p begin
    → scan_from (unrolled p n) 1 (unrolled p n).locations begin ≡ scan_from p n (copies n p.loops p.locations) begin
scans_alike p n begin f w is are =
    by (run (control_of p n) (copies n p.loops p.locations) (first_spot p) begin) refl
    (run (control_of (unrolled p n) 1) (unrolled p n).locations (first_spot (unrolled p n)) begin) refl
  where
    made : IsFaultless (unrolled p n) × IsWellMade (unrolled p n)
    made = unrolled_is_well_made p n f w is.1 is.0

    equal : run (control_of p n) (unrolled p n).locations (first_spot p) begin
        ≡ run (control_of (unrolled p n) 1) (unrolled p n).locations (first_spot (unrolled p n)) begin
    equal = loops_are_copies p n f w (unrolled p n).locations begin ∙ copies_are_numbers p n (unrolled p n).locations begin f w is.1

    by : (a : Option Outcome) → run (control_of p n) (copies n p.loops p.locations) (first_spot p) begin ≡ a
        → (b : Option Outcome) → run (control_of (unrolled p n) 1) (unrolled p n).locations (first_spot (unrolled p n)) begin ≡ b
        → outcome_or_over (run (control_of (unrolled p n) 1) (unrolled p n).locations (first_spot (unrolled p n)) begin)
        ≡ outcome_or_over (run (control_of p n) (copies n p.loops p.locations) (first_spot p) begin)
    by None e b g = absurd (run_ends p n begin f w is are e)
    by (Some a) e None g = absurd (acyclic_ends (unrolled p n) begin made.0 made.1 (numbers_lead_forward p n f w is.1) are g)
    by (Some a) e (Some b) g = ap (λ (out : Option Outcome). outcome_or_over out) g
        ∙ sym (one_end (control_of p n) (copies n p.loops p.locations) (unrolled p n).locations (first_spot p) begin a b e (equal ∙ g))
        ∙ sym (ap (λ (out : Option Outcome). outcome_or_over out) e)

pub same_machine : SameMachine
same_machine p n f w is = record {
  state = refl;
  input = refl;
  params = refl;
  start = λ values are. refl;
  step = λ state input in_state in_input. step_alike p n state (begin_at p state input)
      (scan_from (unrolled p n) 1 (unrolled p n).locations (begin_at p state input))
      ∙ ap (λ (out : Outcome). step_of p None state (begin_at p state input) out) (alike state input in_state in_input);
  fails = λ state input in_state in_input. ap (λ (out : Outcome). fails_with None (length p.vars) (begin_at p state input) out)
      (alike state input in_state in_input);
}
  where
    alike : (state input : List ℤ) → IsState (inlined_machine p n) state → IsInput (inlined_machine p n) input
        → scan_from (unrolled p n) 1 (unrolled p n).locations (begin_at p state input)
        ≡ scan_from p n (copies n p.loops p.locations) (begin_at p state input)
    alike state input in_state in_input = scans_alike p n (begin_at p state input) f w is
        (begins_typed p.vars (recursion_from_All IsVariable p.vars w.vars) state input in_state in_input)
