-- The certificate that is made of a decision, and the oracles whose decisions are those of a case.
use Rattle.std.specs.Prelude.{◌≡◌, ℕ, ◌+◌, Bool, true, false, List, [], Option, Some, None}
use Rattle.pv_log.specs.declared.line.Line.{Line}
use Rattle.pv_claims.specs.declared.claim.Claim.{Claim}
use Rattle.pv_claims.specs.declared.claim.Claim.TheVariants as claim
use Rattle.pv_claims.specs.declared.trace.Ending.{Ending}
use Rattle.pv_claims.specs.declared.trace.Ending.TheVariants as ending
use Rattle.pv_claims.specs.declared.trace.Trace.{Trace}
use Rattle.pv_claims.specs.TracePart.{IsRun, IsStretch}
use Rattle.pv_cert.specs.declared.proof.Query.{Query}
use Rattle.pv_cert.specs.declared.proof.Query.TheVariants.{Base, Step}
use Rattle.pv_cert.specs.declared.proof.Proof.{Proof}
use Rattle.pv_cert.specs.declared.certificate.Certificate.{Certificate}
use Rattle.pv_cert.specs.CertificateText.{no_reduction}
use Rattle.pv_kind.specs.declared.decision.Limits.{Limits}
use Rattle.pv_kind.specs.declared.decision.End.{End}
use Rattle.pv_kind.specs.declared.decision.End.TheVariants.{Proved, Failed, Depth, SpentLemmas, SpentRegion}
use Rattle.pv_kind.specs.Refinements.{Stage}
use Rattle.pv_kind.specs.Oracles.{Encoding}
use Rattle.pv_valid.specs.Cases.{Case}
use Rattle.pv_valid.specs.Validity.{Replays, ending_in}

-- ---- certificates of ends

abbrev pub proved_claim : Bool → ℕ → Claim
proved_claim false k = claim.Satisfied k
proved_claim true k = claim.Unreachable k

-- what a run's last scan shows, where a goal is asked for and where none is
abbrev pub failed_claim : Bool → Option Ending → ℕ → Claim
failed_claim false None n = claim.Violated n
failed_claim true None n = claim.Reached n
failed_claim false (Some ending.Pattern) n = claim.Violated n
failed_claim true (Some ending.Pattern) n = claim.Reached n
failed_claim false (Some (ending.Trap kind place)) n = claim.Trapped n
failed_claim true (Some (ending.Trap kind place)) n = claim.Reached n
failed_claim false (Some (ending.Over place)) n = claim.Loop n
failed_claim true (Some (ending.Over place)) n = claim.Loop n

abbrev pub claiming : Claim → Option Trace → Option Line → List Proof → Certificate
claiming said trace next proofs = record { claim = said; trace = trace; proofs = proofs; next = next }

abbrev pub certificate_of : Case → List Proof → End → Certificate
certificate_of case proofs (Proved k) = claiming (proved_claim case.facts.goal k) None None proofs
certificate_of case proofs (Failed n trace) =
    claiming (failed_claim case.facts.goal (ending_in case (Some trace)) n) (Some trace) None proofs
certificate_of case proofs (Depth trace) = claiming (claim.Depth case.facts.depth) (Some trace) None proofs
certificate_of case proofs SpentLemmas = claiming (claim.Lemmas case.facts.lemmas) None None proofs
certificate_of case proofs (SpentRegion need next) = claiming (claim.Region need) None next proofs

-- ---- oracles

-- a trace that replays, of a run of n scans or of k + 1 from an image, and whose last scan fails in any way
abbrev pub ShowsQuery : Case → Query → Trace → Type 0
ShowsQuery case (Base n) t = Replays case (claim.Depth n) t × IsRun n t
ShowsQuery case (Step k) t = Replays case (claim.Depth k) t × IsStretch (k + 1) t

-- the oracle makes nothing smaller, has this case's clauses, and its traces are those that the case replays
pub record IsOracleOf (case : Case) (e : Encoding) (first : Stage) (limits : Limits) : Type 0 where
  pub chain : first.chain ≡ no_reduction
  pub abstracted : first.abstracted ≡ []
  pub variables : (q : Query) → e.variables no_reduction q ≡ (case.formula q).variables
  pub clauses : (q : Query) → e.clauses no_reduction q ≡ (case.formula q).clauses
  pub fits : case.passes ≡ false
  pub shows : (q : Query) (t : Trace) → e.shows q t → ShowsQuery case q t
  pub depth : limits.depth ≡ case.facts.depth
  pub lemmas : limits.lemmas ≡ case.facts.lemmas
  pub words : limits.words ≡ case.facts.words

-- The same of an oracle whose circuit may pass the limit on gates: it passes it exactly where the case's does.
pub record IsOracleFor (case : Case) (e : Encoding) (first : Stage) (limits : Limits) : Type 0 where
  pub chain : first.chain ≡ no_reduction
  pub abstracted : first.abstracted ≡ []
  pub variables : (q : Query) → e.variables no_reduction q ≡ (case.formula q).variables
  pub clauses : (q : Query) → e.clauses no_reduction q ≡ (case.formula q).clauses
  pub passes : e.passes no_reduction ≡ case.passes
  pub shows : (q : Query) (t : Trace) → e.shows q t → ShowsQuery case q t
  pub depth : limits.depth ≡ case.facts.depth
  pub lemmas : limits.lemmas ≡ case.facts.lemmas
  pub words : limits.words ≡ case.facts.words
