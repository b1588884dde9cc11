-- The parts of a certificate, as they are read. No clause of other crates cites these.
use Rattle.std.specs.Prelude.{◌≡◌, ℕ, Bool, List, ◌∷◌, ◌++◌, length, map, codes, Option, Result, Ok, Err}
use Rattle.std.specs.List.{flat_map, AllByRecursion}
use Rattle.pv_log.specs.declared.line.Line.{Line}
use Rattle.pv_log.specs.LineText.{line_text}
use Rattle.pv_claims.specs.declared.claim.Claim.{Claim}
use Rattle.pv_claims.specs.declared.stop.Stop.{Stop}
use Rattle.pv_claims.specs.declared.stop.Stop.TheVariants as stop
use Rattle.pv_claims.specs.declared.fault.CertFault.{CertFault}
use Rattle.pv_claims.specs.declared.fault.CertFault.TheVariants.{NotACertificate, NoMemory}
use Rattle.pv_claims.specs.TracePart.{trace_lines}
use Rattle.pv_cert.specs.declared.proof.Query.{Query}
use Rattle.pv_cert.specs.declared.proof.Proof.{Proof}
use Rattle.pv_cert.specs.declared.certificate.Certificate.{Certificate}
use Rattle.pv_cert.specs.ChainText.{chain_line}
use Rattle.pv_cert.specs.CertificateText.{query_line, log_line, proof_lines, asks_next, tail_lines, QueryFits, HasProofText, HasNext, HasCertificateText, IsTextOf, FailsAt}

-- a proof of this query that has a text
pub record IsProofOf (asked : Query) (p : Proof) : Type 0 where
  pub is : p.query ≡ asked
  pub has : HasProofText p

-- its lines behind that of the query
abbrev pub lines_behind_query : Proof → List (List ℕ)
lines_behind_query p = chain_line p.chain ∷ log_line (length p.log) ∷ map line_text p.log

-- the text goes on with no line of a query
abbrev pub IsNoQuery : List ℕ → Type 0
IsNoQuery text = (query : Query) (after : List ℕ) → QueryFits query → text ≡ query_line query ++ 10 ∷ after → ⊥

-- the text goes on with no line `end`
abbrev pub IsNoEnd : List ℕ → Stop → Type 0
IsNoEnd text (stop.Left left) = (left ≡ length text) × ((after : List ℕ) → text ≡ codes "end\n" ++ after → ⊥)
IsNoEnd text stop.NoMemory = ⊥

-- proofs, and what stands behind them
abbrev pub Body : Type 0
Body = List Proof × Option Line

abbrev pub HasBody : Bool → Body → Type 0
HasBody asked b = AllByRecursion HasProofText b.0 × HasNext asked b.1

abbrev pub body_lines : Bool → Body → List (List ℕ)
body_lines asked b = flat_map proof_lines b.0 ++ tail_lines asked b.1

-- a certificate with this claim that has a text
pub record HasClaim (claimed : Claim) (c : Certificate) : Type 0 where
  pub is : c.claim ≡ claimed
  pub has : HasCertificateText c

-- its lines behind the head
abbrev pub lines_behind_head : Certificate → List (List ℕ)
lines_behind_head c = trace_lines c.trace ++ (flat_map proof_lines c.proofs ++ tail_lines (asks_next c.claim) c.next)

-- where the reading of the whole stops: with so many bytes left the text fails
abbrev pub StopsWith : List ℕ → Stop → Type 0
StopsWith bytes (stop.Left left) = (line : ℕ) × (fails : FailsAt bytes line) × (left ≡ length fails.rest)
StopsWith bytes stop.NoMemory = Unit {0}

-- what reading gives, unless memory runs out
abbrev pub Reads : List ℕ → Result Certificate CertFault → Type 0
Reads bytes (Ok c) = IsTextOf bytes c
Reads bytes (Err (NotACertificate line)) = FailsAt bytes line
Reads bytes (Err NoMemory) = Unit {0}
