-- The automaton of the copies has the machine of the automaton, with as many steps.
use Rattle.std.proofs.Common.{◌≡◌, ℕ, ◌<◌, ℤ, List, length, Option, None, refl, ap, ◌∙◌, sym}
use Rattle.pv_flow.specs.Terms.{Valuation}
use Rattle.pv_flow.specs.Automata.{Parts}
use Rattle.pv_flow.specs.Faults.{IsFaultless}
use Rattle.pv_flow.specs.WellMade.{IsWellMade}
use Rattle.pv_flow.specs.Runs.{Outcome, done_with, trapped, gone_over}
use Rattle.pv_flow.specs.Machines.{begin_at, outcome_or_over, fails_with, scan_from, step_of}
use Rattle.pv_copies.specs.Unrolled.{unrolled}
use Rattle.pv_copies.specs.Correct.{UnrolledHasTheMachine}
use Rattle.pv_copies.proofs.Turning.{loops_are_copies}
use Rattle.pv_copies.proofs.Numbers.{copies_are_numbers}

pub step_alike : (p : Parts) (n : ℕ) (state : List ℤ) (begin : Valuation) (out : Outcome)
    → step_of (unrolled p n) None state begin out ≡ step_of p None state begin out
step_alike p n state begin (done_with end) = refl
step_alike p n state begin (trapped kind place) = refl
step_alike p n state begin (gone_over place) = refl

scan_alike : (p : Parts) (n steps : ℕ) (begin : Valuation) → IsFaultless p → IsWellMade p → 0 < n
    → scan_from (unrolled p n) 1 steps begin ≡ scan_from p n steps begin
scan_alike p n steps begin f w some =
    ap (λ (out : Option Outcome). outcome_or_over out) (sym (loops_are_copies p n f w steps begin ∙ copies_are_numbers p n steps begin f w some))

pub unrolled_has_the_machine : UnrolledHasTheMachine
unrolled_has_the_machine p n steps f w some = record {
  state = refl;
  input = refl;
  params = refl;
  start = λ values are. refl;
  step = λ state input is in_range. step_alike p n state (begin_at p state input) (scan_from (unrolled p n) 1 steps (begin_at p state input))
      ∙ ap (λ (out : Outcome). step_of p None state (begin_at p state input) out) (scan_alike p n steps (begin_at p state input) f w some);
  fails = λ state input is in_range. ap (λ (out : Outcome). fails_with None (length p.vars) (begin_at p state input) out)
      (scan_alike p n steps (begin_at p state input) f w some);
}
