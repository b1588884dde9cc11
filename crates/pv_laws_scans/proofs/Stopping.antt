-- Where what can trap stops, and what follows for what goes on with it.
use Rattle.std.proofs.Common.{Bool, true, false}
use Rattle.std.specs.Prelude.{⊤}
use Rattle.pv_place.specs.declared.place.Place.{Place}
use Rattle.pv_mean.specs.Frames.{Frame}
use Rattle.pv_mean.specs.Endings.{Tried, got, trap, and_then, Ended, ended, trapped, over, and_end, end_of, Ending, normal, at_exit, at_continue, at_return, by_trap, by_over, go_on, when_got, when_ended, body_end}
use Rattle.pv_mean.specs.Statements.{after_turn}
use Rattle.pv_laws_scans.specs.Places.{StopsIn}

abbrev pub TrapsIn : {A : Type 0} → (Place → Type 0) → Tried A → Type 0
TrapsIn P (got a) = ⊤
TrapsIn P (trap kind place) = P place

abbrev pub EndsIn : (Place → Type 0) → Ending → Type 0
EndsIn P (normal frame) = ⊤
EndsIn P (at_exit frame) = ⊤
EndsIn P (at_continue frame) = ⊤
EndsIn P (at_return frame) = ⊤
EndsIn P (by_trap kind place) = P place
EndsIn P (by_over place) = P place

-- ---- in more places

pub traps_wider : {A : Type 0} (P Q : Place → Type 0) (t : Tried A) → ((p : Place) → P p → Q p) → TrapsIn P t → TrapsIn Q t
traps_wider P Q (got a) f is = tt
traps_wider P Q (trap kind place) f is = f place is

pub ends_wider : (P Q : Place → Type 0) (e : Ending) → ((p : Place) → P p → Q p) → EndsIn P e → EndsIn Q e
ends_wider P Q (normal frame) f is = tt
ends_wider P Q (at_exit frame) f is = tt
ends_wider P Q (at_continue frame) f is = tt
ends_wider P Q (at_return frame) f is = tt
ends_wider P Q (by_trap kind place) f is = f place is
ends_wider P Q (by_over place) f is = f place is

pub stops_wider : {A : Type 0} (P Q : Place → Type 0) (e : Ended A) → ((p : Place) → P p → Q p) → StopsIn P e → StopsIn Q e
stops_wider P Q (ended a) f is = tt
stops_wider P Q (trapped kind place) f is = f place is
stops_wider P Q (over place) f is = f place is

-- ---- one behind the other

pub traps_then : {A B : Type 0} (P : Place → Type 0) (t : Tried A) (next : A → Tried B) → TrapsIn P t → ((a : A) → TrapsIn P (next a))
    → TrapsIn P (and_then t next)
traps_then P (got a) next is more = more a
traps_then P (trap kind place) next is more = is

pub stops_then : {A B : Type 0} (P : Place → Type 0) (e : Ended A) (next : A → Ended B) → StopsIn P e → ((a : A) → StopsIn P (next a))
    → StopsIn P (and_end e next)
stops_then P (ended a) next is more = more a
stops_then P (trapped kind place) next is more = is
stops_then P (over place) next is more = is

pub stops_tried : {A : Type 0} (P : Place → Type 0) (t : Tried A) → TrapsIn P t → StopsIn P (end_of t)
stops_tried P (got a) is = tt
stops_tried P (trap kind place) is = is

pub ends_got : {A : Type 0} (P : Place → Type 0) (t : Tried A) (next : A → Ending) → TrapsIn P t → ((a : A) → EndsIn P (next a))
    → EndsIn P (when_got t next)
ends_got P (got a) next is more = more a
ends_got P (trap kind place) next is more = is

pub ends_ended : {A : Type 0} (P : Place → Type 0) (e : Ended A) (next : A → Ending) → StopsIn P e → ((a : A) → EndsIn P (next a))
    → EndsIn P (when_ended e next)
ends_ended P (ended a) next is more = more a
ends_ended P (trapped kind place) next is more = is
ends_ended P (over place) next is more = is

pub ends_on : (P : Place → Type 0) (e : Ending) (next : Frame → Ending) → EndsIn P e → ((f : Frame) → EndsIn P (next f)) → EndsIn P (go_on e next)
ends_on P (normal frame) next is more = more frame
ends_on P (at_exit frame) next is more = tt
ends_on P (at_continue frame) next is more = tt
ends_on P (at_return frame) next is more = tt
ends_on P (by_trap kind place) next is more = is
ends_on P (by_over place) next is more = is

pub ends_turn : (P : Place → Type 0) (e : Ending) (next : Frame → Ending) → EndsIn P e → ((f : Frame) → EndsIn P (next f)) → EndsIn P (after_turn e next)
ends_turn P (normal frame) next is more = more frame
ends_turn P (at_exit frame) next is more = tt
ends_turn P (at_continue frame) next is more = more frame
ends_turn P (at_return frame) next is more = tt
ends_turn P (by_trap kind place) next is more = is
ends_turn P (by_over place) next is more = is

pub stops_body : (P : Place → Type 0) (e : Ending) → EndsIn P e → StopsIn P (body_end e)
stops_body P (normal frame) is = tt
stops_body P (at_exit frame) is = tt
stops_body P (at_continue frame) is = tt
stops_body P (at_return frame) is = tt
stops_body P (by_trap kind place) is = is
stops_body P (by_over place) is = is

-- ---- one of two

pub ends_either : (P : Place → Type 0) (b : Bool) (s t : Ending) → EndsIn P s → EndsIn P t → EndsIn P (elim b [ true ↦ s | false ↦ t ])
ends_either P true s t is are = is
ends_either P false s t is are = are
