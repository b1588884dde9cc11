-- A whole block as a flow: nothing lies beside it, so its layout comes to what its flow ends as, without a premise but a loop bound.
use Rattle.std.proofs.Common.{◌≡◌, ◌+◌, ◌<◌, inl, inr, List, [], ◌∷◌, slice_get, true, false, Option, IfSome, refl, sym, subst, ap, ◌∙◌, arith}
use Rattle.std.proofs.lemmas.Option.{slice_get_past}
use Rattle.pv_flow.specs.Terms.{Valuation}
use Rattle.pv_flow.specs.Automata.{Loop, holds}
use Rattle.pv_flow.specs.Runs.{done_with, Counts, at, entry_count, kept_in, entered, moved}
use Rattle.pv_flow.specs.Calls.{running, finished}
use Rattle.pv_layout.specs.Spots.{Spot}
use Rattle.pv_layout.specs.Flows.{Flow, Ending, normal, at_exit, at_continue, at_return, by_trap, by_over, Setting, flow, outcome_of_ending}
use Rattle.pv_layout.specs.Layout.{width, loops_in, to_done, spots_of, loops_of, text_of}
use Rattle.pv_layout.specs.SpotRuns.{calls_before, step_of, Reaches, arrived, further}
use Rattle.pv_layout.specs.Correct.{IsLaid, HoldsAlike, OthersNest, AreFresh, IsFlowAt, after}
use Rattle.pv_layout.proofs.Lists.{for_some}
use Rattle.pv_layout.proofs.Turns.{kept_new}
use Rattle.pv_layout.proofs.Laying.{length_spots, length_loops, none_before}
use Rattle.pv_layout.proofs.Edges.{laid_ahead}
use Rattle.pv_layout.proofs.Rounds.{reach_then}
use Rattle.pv_layout.proofs.FlowRuns.{flow_acts}

pub laid_all : {X : Type 0} (xs : List X) → IsLaid xs 0 xs
laid_all [] = tt
laid_all (x ∷ xs) = (refl, laid_ahead x xs 0 xs (laid_all xs))

no_others : (f : Flow) → OthersNest (loops_of f 0) 0 (0 + loops_in f) 0 (0 + width f)
no_others f k (inl lt) = absurd (omega (arith, lt))
no_others f k (inr le) = subst (λ (o : Option Loop). IfSome o (HoldsAlike 0 (0 + width f)))
    (sym (slice_get_past (loops_of f 0) k (let h = length_loops f 0 in omega (arith, le, h)))) tt

pub whole_at : (f : Flow) → IsFlowAt (text_of f) f 0 0 0 (to_done (width f))
whole_at f = record {
  spots = laid_all (spots_of f 0 0 (to_done (width f)));
  loops = laid_all (loops_of f 0);
  nest = no_others f;
  exits = record { next = inr (omega arith); on_exit = inr (omega arith); on_continue = inr (omega arith); on_return = inr (omega arith) };
  calls = none_before (spots_of f 0 0 (to_done (width f)));
}

pub whole_fresh : (f : Flow) → AreFresh (loops_of f 0) 0 (0 + loops_in f) 0 (entered (loops_of f 0) 0)
whole_fresh f k low high = for_some (λ (loop : Loop). holds loop 0 ≡ true → entered (loops_of f 0) 0 k ≡ entry_count loop)
    (slice_get (loops_of f 0) k)
    (λ loop e held. ap (λ (o : Option Loop). kept_in o (λ other. false) 0 0) e
    ∙ kept_new (holds loop 0) false 0 (entry_count loop) held refl)

-- after all spots it is done
done_after : (s : Setting) (f : Flow) (counts : Counts) (w : Valuation)
    → Reaches s (text_of f) (finished (done_with w)) (running (at (width f) counts) w)
done_after s f counts w = further (subst (λ (o : Option Spot). Reaches s (text_of f) (finished (done_with w))
    (step_of s (loops_of f 0) (calls_before (spots_of f 0 0 (to_done (width f))) (width f)) (width f) counts w o))
    (sym (slice_get_past (spots_of f 0 0 (to_done (width f))) (width f)
    (let h = length_spots f 0 0 (to_done (width f)) in omega (arith, h))))
    (arrived refl))

ending_reaches : (s : Setting) (f : Flow) (counts : Counts) (e : Ending)
    → Reaches s (text_of f) (finished (outcome_of_ending e)) (after (loops_of f 0) 0 counts (to_done (width f)) e)
ending_reaches s f counts (normal w) = done_after s f (moved (loops_of f 0) 0 (width f) counts) w
ending_reaches s f counts (at_exit w) = done_after s f (moved (loops_of f 0) 0 (width f) counts) w
ending_reaches s f counts (at_continue w) = done_after s f (moved (loops_of f 0) 0 (width f) counts) w
ending_reaches s f counts (at_return w) = done_after s f (moved (loops_of f 0) 0 (width f) counts) w
ending_reaches s f counts (by_trap kind place) = arrived refl
ending_reaches s f counts (by_over place) = arrived refl

pub whole_reaches : (s : Setting) (f : Flow) (w : Valuation) → 0 < s.bound
    → Reaches s (text_of f) (finished (outcome_of_ending (flow s 0 f w))) (running (at 0 (entered (loops_of f 0) 0)) w)
whole_reaches s f w some = reach_then s (text_of f) (finished (outcome_of_ending (flow s 0 f w)))
    (after (loops_of f 0) 0 (entered (loops_of f 0) 0) (to_done (width f)) (flow s 0 f w)) (running (at 0 (entered (loops_of f 0) 0)) w)
    (flow_acts s (text_of f) some f 0 0 0 (to_done (width f)) (entered (loops_of f 0) 0) w (whole_at f) (whole_fresh f))
    (ending_reaches s f (entered (loops_of f 0) 0) (flow s 0 f w))
