-- What was got or stopped, as the code has it and as the definitions do.
use Rattle.std.proofs.Common.{◌≡◌, ℤ, Bool, Some, None, refl, sym, ap}
use Rattle.pv_mean.specs.Frames.{Frame}
use Rattle.pv_mean.specs.Endings.{Tried, got, trap, Value, Ended, ended, trapped, over, Ending, normal, by_trap, by_over, end_of, and_end, when_got}
use Rattle.pv_mean.specs.Values.{is_true}
use Rattle.pv_mean.specs.Statements.{after_turn}
use Rattle.pv_run.specs.declared.stop.Stop.{Stop}
use Rattle.pv_run.specs.declared.stop.Stop.TheVariants as stop
use Rattle.pv_run.specs.declared.stop.Flow.{Flow}
use Rattle.pv_run.specs.declared.stop.Flow.TheVariants as flow
use Rattle.pv_run.specs.Ends.{stop_ending, stop_end, flow_ending, behind_turn}

abbrev pub ended_value : {A : Type 0} → A → Ended A → A
ended_value d (ended a) = a
ended_value d (trapped kind place) = d
ended_value d (over place) = d

-- as it would be the ending of statements
abbrev pub ending_from : {A : Type 0} → Ending → Ended A → Ending
ending_from d (ended a) = d
ending_from d (trapped kind place) = by_trap kind place
ending_from d (over place) = by_over place

-- ---- what was got

pub got_by : {A : Type 0} (t : Tried A) (a : A) → ended a ≡ end_of t → t ≡ got a
got_by (got b) a p = ap got (sym (ap (ended_value a) p))
got_by (trap kind place) a p = absurd (cc)

pub goes_on_by : {A : Type 0} (t : Tried A) (a : A) → ended a ≡ end_of t → (next : A → Ending) → when_got t next ≡ next a
goes_on_by t a p next = ap (λ x. when_got x next) (got_by t a p)

pub stops_by : {A : Type 0} (t : Tried A) (s : Stop) → stop_end s ≡ end_of t → (next : A → Ending) → when_got t next ≡ stop_ending s
stops_by (got a) (stop.Trap u) p next = absurd (cc)
stops_by (got a) (stop.Over place) p next = absurd (cc)
stops_by (trap kind place) (stop.Trap u) p next = ap (ending_from (by_over place)) (sym p)
stops_by (trap kind place) (stop.Over at) p next = absurd (cc)

-- ---- conditions

abbrev pub tested : Value → Ended Bool
tested t = and_end (end_of t) (λ v. ended (is_true v))

pub true_by : (t : Value) (b : Bool) → tested t ≡ ended b → (next : Bool → Ending) → when_got t (λ v. next (is_true v)) ≡ next b
true_by (got v) b p next = ap next (ap (ended_value b) p)
true_by (trap kind place) b p next = absurd (cc)

pub untested : (t : Value) (s : Stop) → tested t ≡ stop_end s → (next : ℤ → Ending) → when_got t next ≡ stop_ending s
untested (got v) (stop.Trap u) p next = absurd (cc)
untested (got v) (stop.Over place) p next = absurd (cc)
untested (trap kind place) (stop.Trap u) p next = ap (ending_from (by_over place)) p
untested (trap kind place) (stop.Over at) p next = absurd (cc)

-- ---- turns

pub turned : (f : Flow) (frame : Frame) (next : Frame → Ending) → behind_turn f ≡ None → after_turn (flow_ending f frame) next ≡ next frame
turned flow.Normal frame next p = refl
turned flow.Exit frame next p = absurd (cc)
turned flow.Continue frame next p = refl
turned flow.Return frame next p = absurd (cc)

pub left : (f e : Flow) (frame : Frame) (next : Frame → Ending) → behind_turn f ≡ Some e
    → after_turn (flow_ending f frame) next ≡ flow_ending e frame
left flow.Normal e frame next p = absurd (cc)
left flow.Exit e frame next p = ap (λ o. elim o [
  | None ↦ normal frame
  | Some x ↦ flow_ending x frame
]) p
left flow.Continue e frame next p = absurd (cc)
left flow.Return e frame next p = ap (λ o. elim o [
  | None ↦ normal frame
  | Some x ↦ flow_ending x frame
]) p

pub stopped : (s : Stop) (next : Frame → Ending) → after_turn (stop_ending s) next ≡ stop_ending s
stopped (stop.Trap t) next = refl
stopped (stop.Over place) next = refl
