-- What the promises of a run exclude.
use Rattle.std.specs.Prelude.{◌≡◌, ◌≢◌, ◌<◌, ℕ, List, [], Result}
use Rattle.pv_edge.specs.Faults.{last_count}
use Rattle.pv_edge.specs.declared.outside.SinkFault.{SinkFault}
use Rattle.pv_top.specs.Words.{IsCommand, IsCheck}
use Rattle.pv_top.specs.Calls.{Call}
use Rattle.pv_top.specs.Promises.{Promises}

-- no count of faults rose, and none stands at its end
pub record NothingFailed {S : Type 0} (call : Call S) : Type 0 where
  pub reads : call.reads_after ≡ call.reads
  pub reads_left : call.reads < last_count
  pub writes : call.writes_after ≡ call.writes
  pub writes_left : call.writes < last_count
  pub sink : call.sink_after ≡ call.sink
  pub sink_left : call.sink < last_count

-- without words the status is 5 where nothing failed and memory didn't end: no other status answers each run
abbrev pub NoWordsAreRefused : {S : Type 0} → (List ℕ → Result ℕ SinkFault → S → S → Type 0) → Type 0
NoWordsAreRefused {S} sink_call = (call : Call S) → Promises sink_call call → call.words ≡ [] → NothingFailed call → call.status ≢ 9
    → call.status ≡ 5

-- the words of a command never have that status
abbrev pub CommandsAreNotRefused : {S : Type 0} → (List ℕ → Result ℕ SinkFault → S → S → Type 0) → Type 0
CommandsAreNotRefused {S} sink_call = (call : Call S) → Promises sink_call call → IsCommand call.words → call.status ≢ 5

-- where a report or a certificate can't be written whole, what was kept stays
abbrev pub FaultsKeepNothing : {S : Type 0} → (List ℕ → Result ℕ SinkFault → S → S → Type 0) → Type 0
FaultsKeepNothing {S} sink_call = (call : Call S) (case_file : List ℕ) → Promises sink_call call → IsCheck call.words case_file
    → call.status ≡ 7 → call.kept_after ≡ call.kept
