-- What becomes of the lines of what is told, and of what is kept. Private clauses cite this.
use Rattle.std.specs.Prelude.{◌≡◌, ℕ, List, [], Bool, true, false, Option, Some, None, Result, MatchResult}
use Rattle.pv_edge.specs.Sink.{Takes, TakesLess, Offered, StopsOffering}
use Rattle.pv_edge.specs.declared.outside.SinkFault.{SinkFault}
use Rattle.pv_top.specs.declared.outcome.Told.{Told}
use Rattle.pv_top.specs.declared.printing.Printed.{Printed}
use Rattle.pv_top.specs.Outcomes.{silent_status}
use Rattle.pv_top.specs.Calls.{fault_status}

-- the sink before and behind, with what it tells as taken
pub record Sinks (S : Type 0) : Type 0 where
  pub old : S
  pub new : S
  pub taken : Option (List ℕ)
  pub taken_after : Option (List ℕ)

-- all of the lines were offered and taken, with the status that goes with them; or a call of the sink stopped it
pub data PrintsLines {S : Type 0} (call : List ℕ → Result ℕ SinkFault → S → S → Type 0) (status : ℕ) (lines : List ℕ) (printed : Printed)
    (sinks : Sinks S) : Type 0 where
  to_end : printed.whole ≡ true → printed.status ≡ status → Offered call lines sinks.old [] sinks.new
      → Takes lines sinks.taken sinks.taken_after → PrintsLines call status lines printed sinks
  stopped : (fault : SinkFault) → printed.whole ≡ false → printed.status ≡ fault_status fault
      → StopsOffering call lines sinks.old fault sinks.new → TakesLess lines sinks.taken sinks.taken_after
      → PrintsLines call status lines printed sinks

-- there were no lines, and the sink wasn't called
pub record PrintsNone {S : Type 0} (status : ℕ) (printed : Printed) (sinks : Sinks S) : Type 0 where
  pub part : printed.whole ≡ false
  pub silent : printed.status ≡ silent_status status
  pub idle : sinks.new ≡ sinks.old
  pub same : sinks.taken_after ≡ sinks.taken

abbrev pub Prints : {S : Type 0} → (List ℕ → Result ℕ SinkFault → S → S → Type 0) → Told → Printed → Sinks S → Type 0
Prints call told printed sinks = MatchResult told.text
    (λ lines. PrintsLines call told.status lines.items printed sinks)
    (λ error. PrintsNone told.status printed sinks)

-- what is kept where all lines were taken, or not
abbrev pub kept_if : Bool → Option (List ℕ) → List ℕ → List ℕ
kept_if true (Some evidence) kept = evidence
kept_if true None kept = kept
kept_if false keep kept = kept
