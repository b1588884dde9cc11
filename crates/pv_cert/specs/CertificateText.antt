-- The text of a certificate, and which bytes begin one.
use Rattle.std.specs.Prelude.{◌≡◌, ℕ, ◌+◌, ◌^◌, ◌<◌, Bool, true, false, List, [], ◌∷◌, ◌++◌, length, map, codes, ◌⊎◌, Option, Some, None, Result, Err}
use Rattle.std.specs.List.{flat_map, AllByRecursion}
use Rattle.std.specs.Fmt.{decimal}
use Rattle.pv_log.specs.declared.line.Line.{Line}
use Rattle.pv_log.specs.LineText.{line_text, HasText, IsWritable as IsWritableLine}
use Rattle.pv_claims.specs.declared.claim.Claim.{Claim}
use Rattle.pv_claims.specs.declared.claim.Claim.TheVariants.{Satisfied, Unreachable, Violated, Trapped, Reached, Depth, Loop, Lemmas, Region}
use Rattle.pv_claims.specs.declared.fault.CertFault.{CertFault}
use Rattle.pv_claims.specs.declared.fault.CertFault.TheVariants.{NoMemory}
use Rattle.pv_claims.specs.Lines.{text_of_lines, NoFeed}
use Rattle.pv_claims.specs.Heads.{head_lines, ClaimFits}
use Rattle.pv_claims.specs.TracePart.{trace_form, HasForm, HasTrace, trace_lines}
use Rattle.pv_cert.specs.ChainText.{chain_line, HasChainText}
use Rattle.pv_cert.specs.declared.proof.Query.{Query}
use Rattle.pv_cert.specs.declared.proof.Query.TheVariants.{Base, Step}
use Rattle.pv_cert.specs.declared.proof.Chain.{Chain}
use Rattle.pv_cert.specs.declared.proof.Proof.{Proof}
use Rattle.pv_cert.specs.declared.certificate.Certificate.{Certificate}

-- ---- the lines

-- the line of a query
abbrev pub query_line : Query → List ℕ
query_line (Base k) = codes "query base " ++ decimal k
query_line (Step k) = codes "query step " ++ decimal k

-- the line that says how many lines a log has
abbrev pub log_line : ℕ → List ℕ
log_line n = codes "log " ++ decimal n

-- the lines of a proof: its query, its chain, and the log behind its number of lines
abbrev pub proof_lines : Proof → List (List ℕ)
proof_lines p = query_line p.query ∷ chain_line p.chain ∷ log_line (length p.log) ∷ map line_text p.log

-- whether a certificate says which lemma comes next: that of a region does
abbrev pub asks_next : Claim → Bool
asks_next (Satisfied k) = false
asks_next (Unreachable k) = false
asks_next (Violated n) = false
asks_next (Trapped n) = false
asks_next (Reached n) = false
asks_next (Depth k) = false
asks_next (Loop n) = false
asks_next (Lemmas b) = false
asks_next (Region x) = true

-- the lines of the next lemma, where it is asked for
abbrev pub next_lines : Bool → Option Line → List (List ℕ)
next_lines false next = []
next_lines true None = codes "next none" ∷ []
next_lines true (Some line) = codes "next" ∷ line_text line ∷ []

-- the lines behind the proofs
abbrev pub tail_lines : Bool → Option Line → List (List ℕ)
tail_lines asked next = next_lines asked next ++ codes "end" ∷ []

-- the lines of a certificate: its head, the trace part, the proofs, and what stands behind them
abbrev pub certificate_lines : Certificate → List (List ℕ)
certificate_lines c =
    head_lines c.claim ++ (trace_lines c.trace ++ (flat_map proof_lines c.proofs ++ tail_lines (asks_next c.claim) c.next))

-- the one text of a certificate
abbrev pub certificate_text : Certificate → List ℕ
certificate_text c = text_of_lines (certificate_lines c)

-- the certificate of 'satisfied' with k = 0 that has these proofs
abbrev pub satisfied_by : List Proof → Certificate
satisfied_by proofs = record { claim = Satisfied 0; trace = None; proofs = proofs; next = None }

-- no reduction
abbrev pub no_reduction : Chain
no_reduction = record { constants = false; havoc = []; cone = false }

-- ---- which certificates have a text

-- the number of scans has 32 bits
abbrev pub QueryFits : Query → Type 0
QueryFits (Base k) = k < 2 ^ 32
QueryFits (Step k) = k < 2 ^ 32

-- a proof that has a text
pub record HasProofText (p : Proof) : Type 0 where
  pub query : QueryFits p.query
  pub chain : HasChainText p.chain
  pub few : length p.log < 2 ^ 32
  pub lines : AllByRecursion HasText p.log

-- a next lemma, or none, is said where it is asked for alone
abbrev pub HasNext : Bool → Option Line → Type 0
HasNext false next = next ≡ None
HasNext true None = Unit {0}
HasNext true (Some line) = HasText line

-- a certificate that has a text
pub record HasCertificateText (c : Certificate) : Type 0 where
  pub claim : ClaimFits c.claim
  pub has_trace : HasTrace (trace_form c.claim) c.trace
  pub has_next : HasNext (asks_next c.claim) c.next
  pub proofs : AllByRecursion HasProofText c.proofs

-- the bytes are the text of this certificate
pub record IsTextOf (bytes : List ℕ) (c : Certificate) : Type 0 where
  pub valid : HasCertificateText c
  pub text : bytes ≡ certificate_text c

-- ---- where no certificate goes on

-- the text of some certificate begins so
pub record BeginsOne (front : List ℕ) : Type 0 where
  pub certificate : Certificate
  pub rest : List ℕ
  pub is_text : IsTextOf (front ++ rest) certificate

-- The bytes are no certificate's text, and this line, from 1, is the first with which none begins so: the lines
-- before it begin one, and with the next whole line, if there is one, they don't.
pub record FailsAt (bytes : List ℕ) (line : ℕ) : Type 0 where
  pub before : List (List ℕ)
  pub rest : List ℕ
  pub split : bytes ≡ text_of_lines before ++ rest
  pub whole : AllByRecursion NoFeed before
  pub number : line ≡ length before + 1
  pub begins : BeginsOne (text_of_lines before)
  pub stuck : (next after : List ℕ) → NoFeed next → rest ≡ next ++ 10 ∷ after → BeginsOne (text_of_lines before ++ (next ++ 10 ∷ [])) → ⊥
  pub none : (c : Certificate) → IsTextOf bytes c → ⊥

-- ---- which certificates can be written

-- a proof that can be written
pub record IsWritableProof (p : Proof) : Type 0 where
  pub chain : HasChainText p.chain
  pub lines : AllByRecursion IsWritableLine p.log

abbrev pub IsWritableNext : Bool → Option Line → Type 0
IsWritableNext false next = next ≡ None
IsWritableNext true None = Unit {0}
IsWritableNext true (Some line) = IsWritableLine line

-- a certificate that can be written
pub record IsWritable (c : Certificate) : Type 0 where
  pub trace : HasForm (trace_form c.claim) c.trace
  pub next : IsWritableNext (asks_next c.claim) c.next
  pub proofs : AllByRecursion IsWritableProof c.proofs

-- the answer is this one, unless memory ran out
abbrev pub IsUnlessNoMemory : Result Certificate CertFault → Result Certificate CertFault → Type 0
IsUnlessNoMemory result answer = (result ≡ answer) ⊎ (result ≡ Err NoMemory)
