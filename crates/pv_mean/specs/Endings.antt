-- How parts of a scan end. What gives something gives it or traps: a kind and a place. What runs ends, traps, or goes over the
-- bound of a loop at a place. The first trap decides: what would come behind it doesn't.
use Rattle.std.specs.Prelude.{ℤ}
use Rattle.pv_place.specs.declared.place.Place.{Place}
use Rattle.pv_place.specs.declared.trap.TrapKind.{TrapKind}
use Rattle.pv_mean.specs.Frames.{Frame}

pub data Tried (A : Type 0) : Type 0 where
  got : A → Tried A
  trap : TrapKind → Place → Tried A

-- the value of an expression
abbrev pub Value : Type 0
Value = Tried ℤ

-- goes on with what was got
abbrev pub and_then : {A B : Type 0} → Tried A → (A → Tried B) → Tried B
and_then (got a) next = next a
and_then (trap kind place) next = trap kind place

-- how a block's run and a call end
pub data Ended (A : Type 0) : Type 0 where
  ended : A → Ended A
  trapped : TrapKind → Place → Ended A
  over : Place → Ended A

abbrev pub end_of : {A : Type 0} → Tried A → Ended A
end_of (got a) = ended a
end_of (trap kind place) = trapped kind place

abbrev pub and_end : {A B : Type 0} → Ended A → (A → Ended B) → Ended B
and_end (ended a) next = next a
and_end (trapped kind place) next = trapped kind place
and_end (over place) next = over place

-- how a list of statements ends: behind its last one; at EXIT, CONTINUE or RETURN; by a trap; or where an entry into a loop would
-- take one turn too many
pub data Ending : Type 0 where
  normal : Frame → Ending
  at_exit : Frame → Ending
  at_continue : Frame → Ending
  at_return : Frame → Ending
  by_trap : TrapKind → Place → Ending
  by_over : Place → Ending

-- goes on where the statements before ended normally
abbrev pub go_on : Ending → (Frame → Ending) → Ending
go_on (normal frame) next = next frame
go_on (at_exit frame) next = at_exit frame
go_on (at_continue frame) next = at_continue frame
go_on (at_return frame) next = at_return frame
go_on (by_trap kind place) next = by_trap kind place
go_on (by_over place) next = by_over place

-- goes on with what was got, or what ended
abbrev pub when_got : {A : Type 0} → Tried A → (A → Ending) → Ending
when_got (got a) next = next a
when_got (trap kind place) next = by_trap kind place

abbrev pub when_ended : {A : Type 0} → Ended A → (A → Ending) → Ending
when_ended (ended a) next = next a
when_ended (trapped kind place) next = by_trap kind place
when_ended (over place) next = by_over place

-- a block's body ends at its last statement or at RETURN; EXIT and CONTINUE outside a loop break a rule
abbrev pub body_end : Ending → Ended Frame
body_end (normal frame) = ended frame
body_end (at_exit frame) = ended frame
body_end (at_continue frame) = ended frame
body_end (at_return frame) = ended frame
body_end (by_trap kind place) = trapped kind place
body_end (by_over place) = over place
