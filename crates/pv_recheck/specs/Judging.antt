-- What the steps of a check find, and the answer that it comes to. No public clause cites this.
use Rattle.std.specs.Prelude.{◌≡◌, ℕ, List, [], ◌∷◌, Result, Ok, Err, ◌⊎◌}
use Rattle.pv_gate.specs.declared.fault.GateFault.{GateFault}
use Rattle.pv_gate.specs.declared.fault.GateFault.TheVariants as gates
use Rattle.pv_bool.specs.Tree.{ProgramTree}
use Rattle.pv_log.specs.declared.line.Line as line
use Rattle.pv_log.specs.Follows.{Follows, fault_of, LacksEmpty, FailsFirst}
use Rattle.pv_cert.specs.declared.proof.Query.TheVariants.{Step}
use Rattle.pv_cert.specs.declared.proof.Proof.{Proof}
use Rattle.pv_recheck.specs.declared.fault.Kind.TheVariants as kind
use Rattle.pv_recheck.specs.declared.fault.RecheckFault.{RecheckFault}
use Rattle.pv_recheck.specs.declared.fault.RecheckFault.TheVariants as fault
use Rattle.pv_recheck.specs.declared.stop.LogStop.{LogStop}
use Rattle.pv_recheck.specs.declared.stop.LogStop.TheVariants.{TooManyGates, Line, NoEmpty, NoMemory}
use Rattle.pv_recheck.specs.declared.stop.ProofStop.{ProofStop}
use Rattle.pv_recheck.specs.declared.stop.ProofStop.TheVariants.{Log, WrongQuery}
use Rattle.pv_recheck.specs.Validity.{step_formula, RefutesStep}
use Rattle.pv_recheck.specs.Faults.{BeginsWithStep, number_of_log_line, LineFails, LogLacksEmpty, HasSecondAt}
use Rattle.pv_recheck.specs.Answers.{HasTooManyGates}

-- the circuit has no more gates than the limit
abbrev pub HasFewGates : ℕ → ProgramTree → Type 0
HasFewGates limit program = HasTooManyGates limit program → ⊥

-- why there is no formula
abbrev pub HasNoFormula : ℕ → ProgramTree → GateFault → Type 0
HasNoFormula limit program gates.Limit = HasTooManyGates limit program
HasNoFormula limit program gates.NoMemory = Unit {0}

-- what a log shows
abbrev pub JudgesLog : ℕ → ProgramTree → List line.Line → Result (Unit {0}) LogStop → Type 0
JudgesLog limit program log (Ok done) = HasFewGates limit program × RefutesStep program log
JudgesLog limit program log (Err TooManyGates) = HasTooManyGates limit program
JudgesLog limit program log (Err (Line at fault)) =
    HasFewGates limit program × (n : ℕ) × (at ≡ number_of_log_line n)
    × FailsFirst (fault_of (step_formula program).variables) (step_formula program).clauses log n fault
JudgesLog limit program log (Err NoEmpty) =
    HasFewGates limit program × LacksEmpty (Follows (step_formula program).variables) (step_formula program).clauses log
JudgesLog limit program log (Err NoMemory) = Unit {0}

-- what proofs show
abbrev pub JudgesProofs : ℕ → ProgramTree → List Proof → Result (Unit {0}) ProofStop → Type 0
JudgesProofs limit program proofs (Ok done) =
    HasFewGates limit program × (p : Proof) × (proofs ≡ p ∷ []) × (p.query ≡ Step 0) × RefutesStep program p.log
JudgesProofs limit program proofs (Err (Log TooManyGates)) = HasTooManyGates limit program × BeginsWithStep proofs
JudgesProofs limit program proofs (Err (Log (Line at fault))) = HasFewGates limit program × LineFails program proofs at fault
JudgesProofs limit program proofs (Err (Log NoEmpty)) = HasFewGates limit program × LogLacksEmpty program proofs
JudgesProofs limit program proofs (Err (Log NoMemory)) = Unit {0}
JudgesProofs limit program proofs (Err (WrongQuery at)) =
    ((BeginsWithStep proofs → ⊥) × (at ≡ 3)) ⊎ (HasFewGates limit program × HasSecondAt program proofs at)

-- the answer of a check whose proofs were judged so
abbrev pub answer_of : Result (Unit {0}) ProofStop → Result (Unit {0}) RecheckFault
answer_of (Ok done) = Ok done
answer_of (Err (Log TooManyGates)) = Err fault.TooManyGates
answer_of (Err (Log (Line at why))) = Err (fault.Fault at (kind.Line why))
answer_of (Err (Log NoEmpty)) = Err (fault.Fault 5 kind.NoEmpty)
answer_of (Err (Log NoMemory)) = Err fault.NoMemory
answer_of (Err (WrongQuery at)) = Err (fault.Fault at kind.WrongQuery)
