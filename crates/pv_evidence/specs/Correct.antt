-- What evidence says: a decision of a case as a certificate.
use Rattle.std.specs.Prelude.{◌≡◌, ℕ, ◌≤◌, List, Option}
use Rattle.pv_machine.specs.Queries.{MeetsBase, MeetsStep}
use Rattle.pv_claims.specs.declared.trace.Ending.{Ending}
use Rattle.pv_cert.specs.declared.proof.Proof.{Proof}
use Rattle.pv_cert.specs.declared.certificate.Certificate.{Certificate}
use Rattle.pv_cert.specs.CertificateText.{IsWritable}
use Rattle.pv_kind.specs.declared.decision.Limits.{Limits}
use Rattle.pv_kind.specs.declared.decision.End.{End}
use Rattle.pv_kind.specs.Refinements.{Stage}
use Rattle.pv_kind.specs.Oracles.{Encoding}
use Rattle.pv_kind.specs.Decisions.{Decides, IsUnspent, IsProvedBy, IsFailedBy}
use Rattle.pv_valid.specs.Cases.{Case}
use Rattle.pv_valid.specs.Validity.{ending_in, IsRight}
use Rattle.pv_valid.specs.Deciding.{certificate_of}

-- the certificate is that of a decision, whose trace ends so: it is right, and can be written
pub record IsEvidence (case : Case) (e : Encoding) (first : Stage) (limits : Limits) (c : Certificate) (told : Option Ending) : Type 0 where
  pub proofs : List Proof
  pub end : End
  pub last : Stage
  pub decides : Decides case.machine e first last limits proofs end
  pub certificate : c ≡ certificate_of case proofs end
  pub ending : told ≡ ending_in case c.trace
  pub right : IsRight case c
  pub writable : IsWritable c
  -- where no limit is spent, what can be shown up to the depth is shown
  pub proves : (k : ℕ) → IsUnspent end → k ≤ limits.depth → ((j : ℕ) → 1 ≤ j → j ≤ k → MeetsBase case.machine j → ⊥)
      → (MeetsStep case.machine k → ⊥) → IsProvedBy k end
  pub finds : (n : ℕ) → IsUnspent end → n ≤ limits.depth → MeetsBase case.machine n → IsFailedBy n end
