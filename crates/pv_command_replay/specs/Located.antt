-- Where the places of an end lie: each in one of these sources.
use Rattle.std.specs.Prelude.{⊤, List, Some, None}
use Rattle.std.proofs.Props.{props}
use Rattle.pv_place.specs.declared.place.Place.{Place}
use Rattle.pv_command_load.specs.Positions.{FileText, LiesAmong}
use Rattle.pv_command_replay.specs.declared.end.Cause.{Cause}
use Rattle.pv_command_replay.specs.declared.end.Cause.TheVariants as cause
use Rattle.pv_command_replay.specs.declared.end.End.{End}
use Rattle.pv_command_replay.specs.declared.end.End.TheVariants.{Kept, Broken, Over, Reached, NotReached}

abbrev pub CauseLies : List FileText → Cause → Type 0
CauseLies texts cause.Pattern = ⊤
CauseLies texts (cause.Trap kind place) = LiesAmong texts place

abbrev pub EndLies : List FileText → End → Type 0
EndLies texts (Kept n) = ⊤
EndLies texts (Broken n by) = CauseLies texts by
EndLies texts (Over n place) = LiesAmong texts place
EndLies texts (Reached n) = ⊤
EndLies texts (NotReached n None) = ⊤
EndLies texts (NotReached n (Some trap)) = LiesAmong texts trap.1

-- ---- a fact that a struct may keep has one proof at most

LiesAmong-prop : (texts : List FileText) (place : Place) → IsProp (LiesAmong texts place)
LiesAmong-prop texts place = hlevel props

CauseLies-prop : (texts : List FileText) (by : Cause) → IsProp (CauseLies texts by)
CauseLies-prop texts cause.Pattern = hlevel props
CauseLies-prop texts (cause.Trap kind place) = LiesAmong-prop texts place

pub EndLies-prop : (texts : List FileText) (end : End) → IsProp (EndLies texts end)
EndLies-prop texts (Kept n) = hlevel props
EndLies-prop texts (Broken n by) = CauseLies-prop texts by
EndLies-prop texts (Over n place) = LiesAmong-prop texts place
EndLies-prop texts (Reached n) = hlevel props
EndLies-prop texts (NotReached n None) = hlevel props
EndLies-prop texts (NotReached n (Some trap)) = LiesAmong-prop texts trap.1
