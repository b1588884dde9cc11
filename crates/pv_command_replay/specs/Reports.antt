-- The report of a replay, and the status that goes with it.
use Rattle.std.specs.Prelude.{ℕ, List, ◌++◌, codes, decimal, Some, None}
use Rattle.pv_place.specs.declared.place.Place.{Place}
use Rattle.pv_place.specs.declared.trap.TrapKind.{TrapKind}
use Rattle.pv_case.specs.declared.case.PatternKind.{PatternKind}
use Rattle.pv_report.specs.Words.{trap_word, head_text}
use Rattle.pv_command_load.specs.Positions.{FileText, place_text}
use Rattle.pv_command_replay.specs.declared.end.Cause.{Cause}
use Rattle.pv_command_replay.specs.declared.end.Cause.TheVariants.{Pattern, Trap}
use Rattle.pv_command_replay.specs.declared.end.End.{End}
use Rattle.pv_command_replay.specs.declared.end.End.TheVariants.{Kept, Broken, Over, Reached, NotReached}

-- 0 where the requirement holds or its goal is reached, 1 where it doesn't or isn't, 2 over a loop's bound
abbrev pub end_status : End → ℕ
end_status (Kept n) = 0
end_status (Broken n by) = 1
end_status (Over n place) = 2
end_status (Reached n) = 0
end_status (NotReached n trap) = 1

-- ---- lines

-- what a trap is, and where
abbrev pub trap_text : List FileText → TrapKind → Place → List ℕ
trap_text texts kind place =
    codes "trap " ++ (trap_word kind ++ (codes " " ++ place_text texts place))

abbrev pub cause_text : List FileText → Cause → List ℕ
cause_text texts Pattern = codes "pattern"
cause_text texts (Trap kind place) = trap_text texts kind place

-- how it ended
abbrev pub end_text : List FileText → End → List ℕ
end_text texts (Kept n) = codes "replay kept\nscans " ++ (decimal n ++ codes "\n")
end_text texts (Broken n by) =
    codes "replay broken\nscan " ++ (decimal n ++ (codes "\ncause " ++ (cause_text texts by ++ codes "\n")))
end_text texts (Over n place) =
    codes "replay over\nscan " ++ (decimal n ++ (codes "\nover " ++ (place_text texts place ++ codes "\n")))
end_text texts (Reached n) = codes "replay reached\nscan " ++ (decimal n ++ codes "\n")
end_text texts (NotReached n None) =
    codes "replay not reached\nscans " ++ (decimal n ++ codes "\n")
end_text texts (NotReached n (Some trap)) =
    codes "replay not reached\nscans " ++ (decimal n ++ (codes "\n" ++ (trap_text texts trap.0 trap.1
    ++ codes "\n")))

-- the report of a case of this name, whose requirement is of this kind, over these sources
abbrev pub report_text : List ℕ → PatternKind → List FileText → End → List ℕ
report_text name kind texts end = head_text name kind ++ end_text texts end
