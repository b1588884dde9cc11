-- A run of the program, seen from outside, and what it came to.
use Rattle.std.specs.Prelude.{◌≡◌, ◌≢◌, ◌⊎◌, ℕ, List, [], Option, Some, Result, unwrap_or}
use Rattle.pv_edge.specs.Files.{FileMap}
use Rattle.pv_edge.specs.Sink.{Takes, TakesLess, Offered, StopsOffering}
use Rattle.pv_edge.specs.declared.outside.SinkFault.{SinkFault}
use Rattle.pv_edge.specs.declared.outside.SinkFault.TheVariants.{Failed, NoMemory}
use Rattle.pv_command_show.specs.Handed.{Counts, IsUnread, AsksReplay, SaysReplay}
use Rattle.pv_command_check.specs.Refusals.{AsksCheck}
use Rattle.pv_command_check.specs.Checks.{SaysCheck, check_status}
use Rattle.pv_command_check.specs.Files.{LeavesFiles, CountsWrites}
use Rattle.pv_command_recheck.specs.Refusals.{AsksRecheck}
use Rattle.pv_command_recheck.specs.Rechecks.{SaysRecheck}
use Rattle.pv_command_show.specs.Shows.{SaysShow}
use Rattle.pv_top.specs.declared.outcome.Outcome.{Outcome}
use Rattle.pv_top.specs.declared.outcome.Outcome.TheVariants.{NoCommand, Check, Replay, Recheck, Show}
use Rattle.pv_top.specs.Words.{IsCommand, IsCheck, IsRecheck, IsReplay, IsShow}
use Rattle.pv_top.specs.Outcomes.{status_of, unread_of, text_of, silent_status, kept_by}

-- its words and its status; what the files are told to hold, what the sink has taken, what is kept, and the counts of faults, before and
-- after; the name of the last read that failed, behind it; and the sink itself, before and after
pub record Call (S : Type 0) : Type 0 where
  pub words : List (List ℕ)
  pub status : ℕ
  pub told : Option FileMap
  pub told_after : Option FileMap
  pub reads : ℕ
  pub reads_after : ℕ
  pub unread_after : Option (List ℕ)
  pub writes : ℕ
  pub writes_after : ℕ
  pub sink : ℕ
  pub sink_after : ℕ
  pub taken : Option (List ℕ)
  pub taken_after : Option (List ℕ)
  pub kept : List ℕ
  pub kept_after : List ℕ
  pub out : S
  pub out_after : S

-- ---- the outcome

-- what the words came to is so
abbrev pub Says : Option FileMap → List (List ℕ) → Outcome → Type 0
Says told words NoCommand = IsCommand words → ⊥
Says told words (Check result) = (case_file : List ℕ) × IsCheck words case_file × SaysCheck told case_file result
Says told words (Replay result) =
    (case_file : List ℕ) × (file : List ℕ) × IsReplay words case_file file × SaysReplay told case_file file result
Says told words (Recheck result) =
    (case_file : List ℕ) × (file : List ℕ) × IsRecheck words case_file file × SaysRecheck told case_file file result
Says told words (Show result) =
    (case_file : List ℕ) × (file : List ℕ) × IsShow words case_file file × SaysShow told case_file file result

-- the words are those of a command that asks for this file, all before it being as it should be
abbrev pub Asks : Option FileMap → List (List ℕ) → List ℕ → Type 0
Asks told words asked =
    ((case_file : List ℕ) × IsCheck words case_file × AsksCheck told case_file asked)
    ⊎ ((case_file : List ℕ) × (file : List ℕ)
    × (((IsReplay words case_file file ⊎ IsShow words case_file file) × AsksReplay told case_file file asked)
    ⊎ (IsRecheck words case_file file × AsksRecheck told case_file file asked)))

-- what becomes of the files: a check alone writes one
abbrev pub Leaves : List (List ℕ) → Outcome → Option FileMap → Option FileMap → Type 0
Leaves words NoCommand old new = new ≡ old
Leaves words (Check result) old new = (case_file : List ℕ) → IsCheck words case_file → LeavesFiles case_file result old new
Leaves words (Replay result) old new = new ≡ old
Leaves words (Recheck result) old new = new ≡ old
Leaves words (Show result) old new = new ≡ old

-- what becomes of the count of failed writes
abbrev pub LeavesWrites : Outcome → ℕ → ℕ → Type 0
LeavesWrites NoCommand before after = after ≡ before
LeavesWrites (Check result) before after = CountsWrites (check_status result) before after
LeavesWrites (Replay result) before after = after ≡ before
LeavesWrites (Recheck result) before after = after ≡ before
LeavesWrites (Show result) before after = after ≡ before

-- ---- where its text goes

-- the outcome's text went to the sink: all of it behind what was there, with the outcome's status, and then what there is to keep is kept;
-- or, with status 7 or 9, less than all of it; or no text was offered
pub data Delivers (outcome : Outcome) (status : ℕ) (taken taken_after : Option (List ℕ)) (kept kept_after : List ℕ) : Type 0 where
  whole : (text : List ℕ) → text_of outcome ≡ Some text → status ≡ status_of outcome → Takes text taken taken_after
      → kept_after ≡ kept_by outcome kept → Delivers outcome status taken taken_after kept kept_after
  part : (text : List ℕ) → text_of outcome ≡ Some text → (status ≡ 7) ⊎ (status ≡ 9) → TakesLess text taken taken_after
      → kept_after ≡ kept → Delivers outcome status taken taken_after kept kept_after
  silent : status ≡ silent_status (status_of outcome) → taken_after ≡ taken → kept_after ≡ kept
      → Delivers outcome status taken taken_after kept kept_after

abbrev pub fault_status : SinkFault → ℕ
fault_status Failed = 7
fault_status NoMemory = 9

-- each call of the sink offers all of the outcome's text that the calls before it left: until nothing is left; or up to one that fails or
-- takes nothing, which gives the status; or no text was offered, and the sink isn't called
pub data Offers {S : Type 0} (call : List ℕ → Result ℕ SinkFault → S → S → Type 0) (outcome : Outcome) (status : ℕ) (old new : S) : Type 0 where
  to_end : (text : List ℕ) → text_of outcome ≡ Some text → status ≡ status_of outcome → Offered call text old [] new
      → Offers call outcome status old new
  stopped : (text : List ℕ) (fault : SinkFault) → text_of outcome ≡ Some text → status ≡ fault_status fault
      → StopsOffering call text old fault new → Offers call outcome status old new
  no_call : status ≡ silent_status (status_of outcome) → new ≡ old → Offers call outcome status old new

-- the words came to an outcome that is so, whose text is offered and delivered. Whatever the status is then, the count of failed reads
-- rises where the outcome is that a file can't be read, stays but there and where memory ends, and never falls, and that file is the one
-- of the last read that failed; that of failed writes rises where the outcome is that a certificate can't be written, and stays but there
pub record Answers {S : Type 0} (sink_call : List ℕ → Result ℕ SinkFault → S → S → Type 0) (call : Call S) : Type 0 where
  pub outcome : Outcome
  pub says : Says call.told call.words outcome
  pub leaves : Leaves call.words outcome call.told call.told_after
  pub counted : Counts (status_of outcome) call.reads call.reads_after
  pub named : IsUnread (unread_of outcome) call.unread_after
  pub written : LeavesWrites outcome call.writes call.writes_after
  pub offers : Offers sink_call outcome call.status call.out call.out_after
  pub delivers : Delivers outcome call.status call.taken call.taken_after call.kept call.kept_after

-- ---- words on calls

-- the status is none of a read fault, a write fault and want of memory
pub record IsSettled (status : ℕ) : Type 0 where
  pub readable : status ≢ 6
  pub written : status ≢ 7
  pub roomy : status ≢ 9

-- the text stands behind what the sink had taken, as far as the sink tells
abbrev pub IsTakenIn : {S : Type 0} → Call S → List ℕ → Type 0
IsTakenIn call text = Takes text call.taken call.taken_after

-- these bytes are what is kept after the call, or what was kept before it where none are given
abbrev pub IsKeptIn : {S : Type 0} → Call S → Option (List ℕ) → Type 0
IsKeptIn call bytes = call.kept_after ≡ unwrap_or bytes call.kept
