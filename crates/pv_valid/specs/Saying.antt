-- What a valid certificate says, verdict by verdict: of the machine alone, whoever wrote it.
use Rattle.std.specs.Prelude.{◌≡◌, ℕ, ◌+◌, ◌<◌, ◌≤◌, ℤ, true, false, List, length, Some, None}
use Rattle.std.specs.List.{AllByRecursion}
use Rattle.pv_log.specs.declared.line.Line.{Line}
use Rattle.pv_solver.specs.Lemmas.{AreLemmas}
use Rattle.pv_machine.specs.Machines.{Machine, AreParams, IsInput, IsState}
use Rattle.pv_machine.specs.Queries.{MeetsBase}
use Rattle.pv_claims.specs.declared.claim.Claim.{Claim}
use Rattle.pv_claims.specs.declared.claim.Claim.TheVariants.{Satisfied, Unreachable, Violated, Trapped, Reached, Depth, Loop, Lemmas, Region}
use Rattle.pv_claims.specs.declared.trace.Trace.{Trace}
use Rattle.pv_cert.specs.declared.proof.Query.{Query}
use Rattle.pv_cert.specs.declared.certificate.Certificate.{Certificate}
use Rattle.pv_kind.specs.Decisions.{bases_before, IsWithin}
use Rattle.pv_valid.specs.Cases.{Case}
use Rattle.pv_valid.specs.Shown.{FailsAtLastAs}
use Rattle.pv_valid.specs.Claims.{ends_as}
use Rattle.pv_valid.specs.Validity.{HasBudget, HasNeed}

-- no run fails
abbrev pub NeverFails : Machine → Type 0
NeverFails m = (n : ℕ) → MeetsBase m n → ⊥

-- no run fails at one of its first scans, up to this one
abbrev pub NoneFailsTo : Machine → ℕ → Type 0
NoneFailsTo m n = (j : ℕ) → j ≤ n → MeetsBase m j → ⊥

-- the trace is that of a run of n scans, each but the last is good, and the last fails and ends as the claim says
pub record ShowsRun (case : Case) (claim : Claim) (n : ℕ) (t : Trace) : Type 0 where
  pub image : t.image ≡ None
  pub are_params : AreParams case.machine t.params
  pub are_inputs : AllByRecursion (IsInput case.machine) t.inputs
  pub count : length t.inputs ≡ n
  pub fails : FailsAtLastAs case.machine (λ told. ends_as claim told ≡ true) (case.machine.start t.params) t.inputs

-- the trace is that of k good scans from an image that is a state, and of one more, which fails
pub record ShowsStretch (case : Case) (claim : Claim) (k : ℕ) (t : Trace) : Type 0 where
  pub values : List ℤ
  pub image : t.image ≡ Some values
  pub is_state : IsState case.machine (case.state_at values t.prev)
  pub are_inputs : AllByRecursion (IsInput case.machine) t.inputs
  pub count : length t.inputs ≡ k + 1
  pub fails : FailsAtLastAs case.machine (λ told. ends_as claim told ≡ true) (case.state_at values t.prev) t.inputs

-- a run fails at scan n and ends so, and none fails before
pub record IsShown (case : Case) (c : Certificate) (n : ℕ) : Type 0 where
  pub trace : Trace
  pub is : c.trace ≡ Some trace
  pub shows : ShowsRun case c.claim n trace
  pub earliest : (j : ℕ) → j < n → MeetsBase case.machine j → ⊥

-- from some state k scans are good and the next one fails, and no run fails up to scan k
pub record IsDepth (case : Case) (c : Certificate) (k : ℕ) : Type 0 where
  pub is_depth : k ≡ case.facts.depth
  pub trace : Trace
  pub is : c.trace ≡ Some trace
  pub shows : ShowsStretch case c.claim k trace
  pub earlier : NoneFailsTo case.machine k

-- a query up to the depth, before which no run fails, and lemmas of its formula of which this is so
pub record IsSpentFor (case : Case) (IsSo : Query → List Line → Type 0) : Type 0 where
  pub query : Query
  pub log : List Line
  pub within : IsWithin case.facts.depth query
  pub earlier : NoneFailsTo case.machine (bases_before query)
  pub lemmas : AreLemmas (case.formula query).variables (case.formula query).clauses log
  pub is_so : IsSo query log

-- what a certificate says
abbrev pub Says : Case → Certificate → Claim → Type 0
Says case c (Satisfied k) = (case.facts.goal ≡ false) × NeverFails case.machine
Says case c (Unreachable k) = (case.facts.goal ≡ true) × NeverFails case.machine
Says case c (Violated n) = (case.facts.goal ≡ false) × IsShown case c n
Says case c (Trapped n) = (case.facts.goal ≡ false) × IsShown case c n
Says case c (Reached n) = (case.facts.goal ≡ true) × IsShown case c n
Says case c (Depth k) = IsDepth case c k
Says case c (Loop n) = IsShown case c n
Says case c (Lemmas b) = (b ≡ case.facts.lemmas) × IsSpentFor case (λ q log. HasBudget b (case.formula q) log)
Says case c (Region x) = IsSpentFor case (λ q log. HasNeed case.facts.words x c.next (case.formula q) log)
