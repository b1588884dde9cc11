-- Scans of runs, statuses and reports, found by hand.
use Rattle.std.proofs.Common.{◌≡◌, codes, refl, List, [], ◌∷◌, pos, Some, None}
use Rattle.std.specs.Fmt.{digits}
use Rattle.pv_place.specs.declared.place.Place.{Place}
use Rattle.pv_place.specs.declared.trap.TrapKind.TheVariants.{DivideByZero, Index}
use Rattle.pv_case.specs.declared.case.PatternKind.TheVariants.{Invariant, Between, Reach}
use Rattle.pv_mean.specs.Endings.{ended, trapped, over}
use Rattle.pv_mean.specs.Scans.{Scan, ScanEnd}
use Rattle.pv_command_load.specs.Positions.{FileText}
use Rattle.pv_stretch.specs.Scans.{done_in, last_trap}
use Rattle.pv_command_replay.specs.declared.end.Cause.TheVariants.{Pattern, Trap}
use Rattle.pv_command_replay.specs.declared.end.End.TheVariants.{Kept, Broken, Over, Reached, NotReached}
use Rattle.pv_command_replay.specs.Reports.{report_text}
use Rattle.pv_command_replay.specs.Traces.{trace_line}

-- ---- scans

abbrev so : ScanEnd → Scan
so end = record { beginning = []; end = end }

abbrev there : Place
there = record { file = 0; offset = 6 }

abbrev done : Scan
done = so (ended (pos 1 ∷ []))

-- a scan that traps is none that is done
trapping : done_in (done ∷ done ∷ so (trapped Index there) ∷ []) ≡ 2
trapping = refl

trap_told : last_trap (done ∷ done ∷ so (trapped Index there) ∷ []) ≡ Some (Index, there)
trap_told = refl

no_trap : last_trap (done ∷ done ∷ []) ≡ None
no_trap = refl

no_scan : last_trap [] ≡ None
no_scan = refl

none_over : last_trap (so (over there) ∷ []) ≡ None
none_over = refl

-- ---- reports

abbrev texts : List FileText
texts = record { file = codes "a.scl"; bytes = codes "BEGIN\nq := a DIV b;" } ∷ []

kept : report_text (codes "t") Invariant texts (Kept 0)
    ≡ codes "PLCV 1\ncase t\npattern invariant\nreplay kept\nscans 0\n"
unfolding digits
kept = refl

by_pattern : report_text (codes "t") Between texts (Broken 2 Pattern)
    ≡ codes "PLCV 1\ncase t\npattern between\nreplay broken\nscan 2\ncause pattern\n"
unfolding digits
by_pattern = refl

by_trap : report_text (codes "t") Invariant texts (Broken 1 (Trap DivideByZero (record { file = 0; offset = 13 })))
    ≡ codes "PLCV 1\ncase t\npattern invariant\nreplay broken\nscan 1\ncause trap DivideByZero a.scl:2:8\n"
unfolding digits
by_trap = refl

by_loop : report_text (codes "t") Reach texts (Over 10 there)
    ≡ codes "PLCV 1\ncase t\npattern reach\nreplay over\nscan 10\nover a.scl:2:1\n"
unfolding digits
by_loop = refl

goal : report_text (codes "t") Reach texts (Reached 1)
    ≡ codes "PLCV 1\ncase t\npattern reach\nreplay reached\nscan 1\n"
unfolding digits
goal = refl

no_goal : report_text (codes "t") Reach texts (NotReached 1 None)
    ≡ codes "PLCV 1\ncase t\npattern reach\nreplay not reached\nscans 1\n"
unfolding digits
no_goal = refl

no_goal_by_trap : report_text (codes "t") Reach texts (NotReached 0 (Some (Index, there)))
    ≡ codes "PLCV 1\ncase t\npattern reach\nreplay not reached\nscans 0\ntrap Index a.scl:2:1\n"
unfolding digits
no_goal_by_trap = refl

bad_line : trace_line 4 ≡ codes "plcv: trace: line 4\n"
unfolding digits
bad_line = refl
