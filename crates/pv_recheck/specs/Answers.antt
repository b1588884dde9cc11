-- What a check of a certificate answers, case by case. Want of memory aside, no two of the cases hold of one certificate.
use Rattle.std.specs.Prelude.{◌≡◌, ℕ, ◌<◌, List, ◌⊎◌, Result, Ok, Err}
use Rattle.pv_bool.specs.Tree.{ProgramTree}
use Rattle.pv_gate.specs.Node.{gate_count}
use Rattle.pv_cert.specs.declared.certificate.Certificate.{Certificate}
use Rattle.pv_cert.specs.CertificateText.{IsTextOf}
use Rattle.pv_step.specs.Circuits.{circuit_of}
use Rattle.pv_recheck.specs.declared.fault.Kind.{Kind}
use Rattle.pv_recheck.specs.declared.fault.Kind.TheVariants.{NotACertificate}
use Rattle.pv_recheck.specs.declared.fault.RecheckFault.{RecheckFault}
use Rattle.pv_recheck.specs.declared.fault.RecheckFault.TheVariants.{Unbuilt, TooManyGates, Fault, NoMemory}
use Rattle.pv_recheck.specs.Form.{IsUnbuilt}
use Rattle.pv_recheck.specs.Validity.{IsValid}
use Rattle.pv_recheck.specs.Faults.{BeginsWithStep, IsFaultAt}

-- the step circuit has more gates than the limit
abbrev pub HasTooManyGates : ℕ → ProgramTree → Type 0
HasTooManyGates limit program = limit < gate_count (circuit_of program).nodes

-- the fault stands before the first log, for which the circuit is made: it is the grammar's or the first query's
abbrev pub IsBeforeLog : ℕ → Kind → Type 0
IsBeforeLog at kind = (kind ≡ NotACertificate) ⊎ (at ≡ 3)

-- the bytes are a certificate's text whose first query is step(0), so that its log comes next
abbrev pub ComesToLog : List ℕ → Type 0
ComesToLog bytes = (c : Certificate) × IsTextOf bytes c × BeginsWithStep c.proofs

-- the answer under this limit on gates
abbrev pub Answers : ℕ → ProgramTree → List ℕ → Result (Unit {0}) RecheckFault → Type 0
Answers limit program bytes (Ok done) = IsValid program bytes × (HasTooManyGates limit program → ⊥)
Answers limit program bytes (Err Unbuilt) = IsUnbuilt bytes
Answers limit program bytes (Err TooManyGates) = (IsUnbuilt bytes → ⊥) × HasTooManyGates limit program × ComesToLog bytes
Answers limit program bytes (Err (Fault at kind)) =
    (IsUnbuilt bytes → ⊥) × IsFaultAt program bytes at kind × (HasTooManyGates limit program → IsBeforeLog at kind)
Answers limit program bytes (Err NoMemory) = Unit {0}

-- the answer is this one, unless memory ran out
abbrev pub IsUnlessNoMemory : Result (Unit {0}) RecheckFault → Result (Unit {0}) RecheckFault → Type 0
IsUnlessNoMemory result answer = (result ≡ answer) ⊎ (result ≡ Err NoMemory)
