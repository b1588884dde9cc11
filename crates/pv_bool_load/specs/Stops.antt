-- Why a command stops at what it works on, by the code's types: what each means, its status and its text.
use Rattle.std.specs.Prelude.{ℕ, List, Option, Some, None, string_bytes}
use Rattle.pv_edge.specs.Files.{FileMap}
use Rattle.pv_command_load.specs.Refusals.{form_line}
use Rattle.pv_command_load.specs.Stops.{subject_status, subject_unread, subject_text}
use Rattle.pv_bool_load.specs.declared.stop.FirstStop.{FirstStop}
use Rattle.pv_bool_load.specs.declared.stop.FirstStop.TheVariants as first_stop
use Rattle.pv_bool_load.specs.Refusals.{case_form, source_form, RefusesFirst, StopsAsAny}

-- what it stops at is at fault, and all before is as it should be; nothing is said of want of memory
abbrev pub StopsFirst : Option FileMap → List ℕ → FirstStop → Type 0
StopsFirst told file (first_stop.Subject stop) = StopsAsAny told file stop
StopsFirst told file (first_stop.CaseForm name) =
    RefusesFirst told file (case_form (string_bytes name))
StopsFirst told file (first_stop.SourceForm name) =
    RefusesFirst told file (source_form (string_bytes name))
StopsFirst told file first_stop.NoMemory = Unit {0}

abbrev pub first_stop_status : FirstStop → ℕ
first_stop_status (first_stop.Subject stop) = subject_status stop
first_stop_status (first_stop.CaseForm file) = 4
first_stop_status (first_stop.SourceForm file) = 3
first_stop_status first_stop.NoMemory = 9

-- the file that is told as one that can't be read
abbrev pub first_stop_unread : FirstStop → Option (List ℕ)
first_stop_unread (first_stop.Subject stop) = subject_unread stop
first_stop_unread (first_stop.CaseForm file) = None
first_stop_unread (first_stop.SourceForm file) = None
first_stop_unread first_stop.NoMemory = None

-- what is printed, none where memory ends
abbrev pub first_stop_text : FirstStop → Option (List ℕ)
first_stop_text (first_stop.Subject stop) = subject_text stop
first_stop_text (first_stop.CaseForm file) = Some (form_line (string_bytes file))
first_stop_text (first_stop.SourceForm file) = Some (form_line (string_bytes file))
first_stop_text first_stop.NoMemory = None
