-- Which certificates are valid for a case.
use Rattle.std.specs.Prelude.{◌≡◌, ℕ, ◌+◌, ◌*◌, true, false, List, [], ◌∷◌, ◌++◌, map, length, Option, Some, None, nat_lt, if◌then◌else◌}
use Rattle.std.specs.Prelude.{ℤ}
use Rattle.std.specs.List.{AllByRecursion}
use Rattle.pv_cnf.specs.Clause.{Cnf}
use Rattle.pv_log.specs.declared.line.Line.{Line}
use Rattle.pv_log.specs.Follows.{Follows, IsAccepted}
use Rattle.pv_solver.specs.Costs.{clause_cost, line_cost, past}
use Rattle.pv_solver.specs.Lemmas.{IsLemma, AreLemmas}
use Rattle.pv_claims.specs.declared.claim.Claim.{Claim}
use Rattle.pv_claims.specs.declared.claim.Claim.TheVariants.{Satisfied, Unreachable, Violated, Trapped, Reached, Depth, Loop, Lemmas, Region}
use Rattle.pv_claims.specs.declared.trace.Ending.{Ending}
use Rattle.pv_claims.specs.declared.trace.Trace.{Trace}
use Rattle.pv_cert.specs.declared.proof.Query.{Query}
use Rattle.pv_cert.specs.declared.proof.Proof.{Proof}
use Rattle.pv_cert.specs.declared.certificate.Certificate.{Certificate}
use Rattle.pv_cert.specs.CertificateText.{no_reduction, IsTextOf}
use Rattle.pv_kind.specs.Decisions.{bases, bases_before, IsWithin}
use Rattle.pv_valid.specs.declared.fault.Verdict.{Verdict}
use Rattle.pv_valid.specs.Cases.{Case, AreBetween, MayFollow}
use Rattle.pv_valid.specs.Shown.{FailsAtLastAs, last_ending}
use Rattle.pv_valid.specs.Claims.{Belongs, ends_as, expected}

-- ---- traces

-- the scans' values are in range
abbrev pub AreInputs : Case → List (List ℤ) → Type 0
AreInputs case inputs = AllByRecursion (AreBetween case.facts.input) inputs

-- a run with these parameters, or what goes on from this image and mark
abbrev pub BeginsIn : Case → Option (List ℤ) → Trace → Type 0
BeginsIn case None t = AreBetween case.facts.params t.params
BeginsIn case (Some image) t = AreBetween case.facts.image image × MayFollow case.facts t.prev

abbrev pub first_state : Case → Option (List ℤ) → Trace → List ℤ
first_state case None t = case.machine.start t.params
first_state case (Some image) t = case.state_at image t.prev

-- every value is in range, each scan but the last is done and doesn't fail, and the last fails as the claim says
pub record Replays (case : Case) (claim : Claim) (t : Trace) : Type 0 where
  pub begins : BeginsIn case t.image t
  pub inputs : AreInputs case t.inputs
  pub fails : FailsAtLastAs case.machine (λ told. ends_as claim told ≡ true) (first_state case t.image t) t.inputs

abbrev pub ReplaysIn : Case → Claim → Option Trace → Type 0
ReplaysIn case claim None = Unit {0}
ReplaysIn case claim (Some t) = Replays case claim t

-- ---- proofs

-- no machine is made smaller yet
pub record Refutes (case : Case) (p : Proof) : Type 0 where
  pub chain : p.chain ≡ no_reduction
  pub fits : case.passes ≡ false
  pub log : IsAccepted (Follows (case.formula p.query).variables) (case.formula p.query).clauses p.log

-- proofs of these queries, in this order
pub record AreProofs (case : Case) (queries : List Query) (proofs : List Proof) : Type 0 where
  pub in_order : map (λ (p : Proof). p.query) proofs ≡ queries
  pub refute : AllByRecursion (Refutes case) proofs

-- a log for which a limit was spent says this of its formula
pub record Spends (case : Case) (Says : Cnf → List Line → Type 0) (p : Proof) : Type 0 where
  pub within : IsWithin case.facts.depth p.query
  pub chain : p.chain ≡ no_reduction
  pub fits : case.passes ≡ false
  pub lemmas : AreLemmas (case.formula p.query).variables (case.formula p.query).clauses p.log
  pub says : Says (case.formula p.query) p.log

-- the last proof is of the query for which a limit was spent, and those before it refute the base queries that come before that
pub record AreSpent (case : Case) (Says : Cnf → List Line → Type 0) (proofs : List Proof) : Type 0 where
  pub front : List Proof
  pub named : Proof
  pub split : proofs ≡ front ++ named ∷ []
  pub earlier : AreProofs case (bases (bases_before named.query)) front
  pub spends : Spends case Says named

-- ---- words

-- the first of the running sums past so many words: of a sum so far, and of those after it
abbrev pub first_past : ℕ → ℕ → List ℕ → Option ℕ
first_past words sum [] = past words sum
first_past words sum (cost ∷ costs) = if nat_lt words sum then Some sum else first_past words (sum + cost) costs

-- the lines of a log, and the lemma that comes next, if there is one
abbrev pub with_next : List Line → Option Line → List Line
with_next log None = log
with_next log (Some next) = log ++ next ∷ []

-- two for each variable, then what each clause takes, and then each line
abbrev pub first_sum_past : ℕ → Cnf → List Line → ℕ → Option ℕ
first_sum_past words f lines used = first_past words used (map clause_cost f.clauses ++ map line_cost lines)

abbrev pub IsNextLemma : Cnf → List Line → Option Line → Type 0
IsNextLemma f log None = Unit {0}
IsNextLemma f log (Some next) = IsLemma f.variables (f.clauses ++ map (λ line. line.lits) log) next

-- so many lemmas
abbrev pub HasBudget : ℕ → Cnf → List Line → Type 0
HasBudget budget f log = length log ≡ budget

-- the first sum past the words is this, and the next line is one more lemma
pub record HasNeed (words need : ℕ) (next : Option Line) (f : Cnf) (log : List Line) : Type 0 where
  pub sum : first_sum_past words f (with_next log next) (2 * f.variables) ≡ Some need
  pub lemma : IsNextLemma f log next

-- ---- certificates

abbrev pub ProofsBelong : Case → Claim → Option Line → List Proof → Type 0
ProofsBelong case (Satisfied k) next proofs = AreProofs case (expected (Satisfied k)) proofs
ProofsBelong case (Unreachable k) next proofs = AreProofs case (expected (Unreachable k)) proofs
ProofsBelong case (Violated n) next proofs = AreProofs case (expected (Violated n)) proofs
ProofsBelong case (Trapped n) next proofs = AreProofs case (expected (Trapped n)) proofs
ProofsBelong case (Reached n) next proofs = AreProofs case (expected (Reached n)) proofs
ProofsBelong case (Depth k) next proofs = AreProofs case (expected (Depth k)) proofs
ProofsBelong case (Loop n) next proofs = AreProofs case (expected (Loop n)) proofs
ProofsBelong case (Lemmas b) next proofs = AreSpent case (HasBudget b) proofs
ProofsBelong case (Region x) next proofs = AreSpent case (HasNeed case.facts.words x next) proofs

-- the claim belongs to the case, its trace replays as it says, and its proofs are those that belong to it
pub record IsRight (case : Case) (c : Certificate) : Type 0 where
  pub belongs : Belongs case.facts c.claim
  pub replays : ReplaysIn case c.claim c.trace
  pub proofs : ProofsBelong case c.claim c.next c.proofs

-- how the last scan of a trace ends
abbrev pub ending_in : Case → Option Trace → Option Ending
ending_in case None = None
ending_in case (Some t) = last_ending case.machine (first_state case t.image t) t.inputs

-- the verdict of a certificate: what it claims, and how its trace ends
abbrev pub verdict_of : Case → Certificate → Verdict
verdict_of case c = record { claim = c.claim; ending = ending_in case c.trace }

-- the bytes are a certificate's text, and that is right and has this verdict
pub record IsValid (case : Case) (bytes : List ℕ) (verdict : Verdict) : Type 0 where
  pub certificate : Certificate
  pub is_text : IsTextOf bytes certificate
  pub is_right : IsRight case certificate
  pub says : verdict ≡ verdict_of case certificate
