-- What is reported of a certificate whose trace ends so.
use Rattle.std.specs.Prelude.{List, [], ◌∷◌, reverse, Option, Some, None}
use Rattle.pv_claims.specs.declared.claim.Claim.{Claim}
use Rattle.pv_claims.specs.declared.claim.Claim.TheVariants.{Satisfied, Unreachable, Violated, Trapped, Reached, Depth, Loop, Lemmas, Region}
use Rattle.pv_claims.specs.declared.trace.Ending.{Ending}
use Rattle.pv_cert.specs.declared.proof.Query.{Query}
use Rattle.pv_cert.specs.declared.proof.Proof.{Proof}
use Rattle.pv_cert.specs.declared.certificate.Certificate.{Certificate}
use Rattle.pv_report.specs.declared.verdict.Verdict.{Verdict}

abbrev pub first_query : List Proof → Option Query
first_query [] = None
first_query (proof ∷ proofs) = Some proof.query

-- the query of the last proof
abbrev pub last_query : List Proof → Option Query
last_query proofs = first_query (reverse proofs)

-- how the trace ends: that a claimed scan breaks the pattern or reaches the goal is said by the claim
abbrev pub shown_ending : Claim → Option Ending → Option Ending
shown_ending (Satisfied k) told = None
shown_ending (Unreachable k) told = None
shown_ending (Violated n) told = None
shown_ending (Trapped n) told = told
shown_ending (Reached n) told = None
shown_ending (Depth k) told = told
shown_ending (Loop n) told = told
shown_ending (Lemmas b) told = None
shown_ending (Region x) told = None

-- the query at which a limit was spent
abbrev pub shown_query : Claim → List Proof → Option Query
shown_query (Satisfied k) proofs = None
shown_query (Unreachable k) proofs = None
shown_query (Violated n) proofs = None
shown_query (Trapped n) proofs = None
shown_query (Reached n) proofs = None
shown_query (Depth k) proofs = None
shown_query (Loop n) proofs = None
shown_query (Lemmas b) proofs = last_query proofs
shown_query (Region x) proofs = last_query proofs

abbrev pub reported : Certificate → Option Ending → Verdict
reported c told = record {
  claim = c.claim;
  trace = c.trace;
  ending = shown_ending c.claim told;
  query = shown_query c.claim c.proofs;
}
