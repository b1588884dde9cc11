-- What a check says of a verdict, written out by the runs of the source and the queries of its machine. No definition is cited that stands
-- between these and the command, so one of those that became weaker no longer gives what is said here.
use Rattle.std.specs.Prelude.{◌≡◌, ◌⊎◌, ℕ, ◌+◌, ◌*◌, ◌^◌, ◌<◌, ◌≤◌, List, length, Option, Some}
use Rattle.std.specs.List.{AllByRecursion}
use Rattle.pv_place.specs.declared.place.Place.{Place}
use Rattle.pv_place.specs.declared.trap.TrapKind.{TrapKind}
use Rattle.pv_place.specs.Ranges.{AreWithin}
use Rattle.pv_edge.specs.Files.{FileMap}
use Rattle.pv_machine.specs.Queries.{MeetsBase, MeetsStep}
use Rattle.pv_mean.specs.Frames.{Input, Params, input_ranges, param_ranges}
use Rattle.pv_mean.specs.Runs.{run}
use Rattle.pv_pattern.specs.Failing.{Cause, pattern, trap, over, NoneFails, FailsFirst}
use Rattle.pv_pattern.specs.Sources.{machine_of}
use Rattle.pv_solver.specs.Costs.{words_of}
use Rattle.pv_claims.specs.declared.claim.Claim.{Claim}
use Rattle.pv_claims.specs.declared.claim.Claim.TheVariants.{Satisfied, Unreachable, Violated, Trapped, Reached, Depth, Loop, Lemmas, Region}
use Rattle.pv_claims.specs.declared.trace.Trace.{Trace}
use Rattle.pv_cert.specs.declared.proof.Query.{Query}
use Rattle.pv_cert.specs.declared.proof.Query.TheVariants.{Base, Step}
use Rattle.pv_cert.specs.declared.certificate.Certificate.{Certificate}
use Rattle.pv_cert.specs.CertificateText.{IsTextOf}
use Rattle.pv_evidence.specs.Reported.{last_query}
use Rattle.pv_command_check.specs.Handed.{SubjectData, source_in, ReadsFirst, case_in}
use Rattle.pv_command_check.specs.declared.check.Checked.{Checked}

-- ---- a run

-- its parameters and inputs are within the ranges of their cells
abbrev pub Runs : SubjectData → Params → List Input → Type 0
Runs s params inputs =
    AreWithin (param_ranges (source_in s).cells) params × AllByRecursion (AreWithin (input_ranges (source_in s).cells)) inputs

-- the first of its scans that fails is its n-th, and this is why
abbrev pub Fails : SubjectData → Params → List Input → ℕ → Cause → Type 0
Fails s params inputs n cause = FailsFirst (source_in s) s.pattern (run (source_in s) params inputs) n cause

-- ---- the scan that fails

-- so does the last scan of the run by the certificate's trace, and no run fails at a scan before
pub record ShowsFirst (s : SubjectData) (c : Certificate) (n : ℕ) (cause : Cause) : Type 0 where
  pub trace : Trace
  pub is : c.trace ≡ Some trace
  pub runs : Runs s trace.params trace.inputs
  pub scans : length trace.inputs ≡ n
  pub fails : Fails s trace.params trace.inputs n cause
  pub earlier : (params : Params) (inputs : List Input) → Runs s params inputs → length inputs < n
      → NoneFails (source_in s) s.pattern (run (source_in s) params inputs)

abbrev pub ShownBy : SubjectData → Certificate → Claim → Type 0
ShownBy s c (Satisfied k) = Unit {0}
ShownBy s c (Unreachable k) = Unit {0}
ShownBy s c (Violated n) = ShowsFirst s c n pattern
ShownBy s c (Trapped n) = (kind : TrapKind) × (place : Place) × ShowsFirst s c n (trap kind place)
ShownBy s c (Reached n) = ShowsFirst s c n pattern
ShownBy s c (Depth k) = Unit {0}
ShownBy s c (Loop n) = (place : Place) × ShowsFirst s c n (over place)
ShownBy s c (Lemmas b) = Unit {0}
ShownBy s c (Region x) = Unit {0}

-- ---- the step queries

abbrev pub IsMet : SubjectData → ℕ → Type 0
IsMet s k = MeetsStep (machine_of (source_in s) s.pattern) k

-- each of a number below this is met
abbrev pub AreMetBelow : SubjectData → ℕ → Type 0
AreMetBelow s n = (j : ℕ) → j < n → IsMet s j

-- where a limit was spent, each below the query that is named
pub record AreMetBefore (s : SubjectData) (c : Certificate) : Type 0 where
  pub base : (n : ℕ) → last_query c.proofs ≡ Some (Base n) → AreMetBelow s n
  pub step : (k : ℕ) → last_query c.proofs ≡ Some (Step k) → AreMetBelow s k

-- a proved claim has the least number that isn't met
abbrev pub OrderedBy : SubjectData → Certificate → Claim → Type 0
OrderedBy s c (Satisfied k) = AreMetBelow s k × (IsMet s k → ⊥)
OrderedBy s c (Unreachable k) = AreMetBelow s k × (IsMet s k → ⊥)
OrderedBy s c (Violated n) = AreMetBelow s n
OrderedBy s c (Trapped n) = AreMetBelow s n
OrderedBy s c (Reached n) = AreMetBelow s n
OrderedBy s c (Depth k) = AreMetBelow s k
OrderedBy s c (Loop n) = AreMetBelow s n
OrderedBy s c (Lemmas b) = AreMetBefore s c
OrderedBy s c (Region x) = AreMetBefore s c

-- ---- what is decided

abbrev pub IsUnspent : Claim → Type 0
IsUnspent claim = ((b : ℕ) → claim ≡ Lemmas b → ⊥) × ((x : ℕ) → claim ≡ Region x → ⊥)

-- where no limit is spent: what k-induction closes up to the depth is proved, and a run's scan up to it that fails is found, unless one goes
-- over the bound no later; where one is, it is less than this
pub record DecidesAll (s : SubjectData) (c : Certificate) (claim : Claim) : Type 0 where
  pub proves : (k : ℕ) → IsUnspent claim → k ≤ s.given.case.limits.depth
      → ((j : ℕ) → 1 ≤ j → j ≤ k → MeetsBase (machine_of (source_in s) s.pattern) j → ⊥) → (IsMet s k → ⊥)
      → (j : ℕ) × (j ≤ k) × ((claim ≡ Satisfied j) ⊎ (claim ≡ Unreachable j))
  pub finds : (n : ℕ) (cause : Cause) (params : Params) (inputs : List Input) → IsUnspent claim → n ≤ s.given.case.limits.depth
      → Runs s params inputs → Fails s params inputs n cause
      → ((j : ℕ) (place : Place) (others : Params) (taken : List Input) → j ≤ n → Runs s others taken → Fails s others taken j (over place) → ⊥)
      → (j : ℕ) × (j ≤ n) × ((claim ≡ Violated j) ⊎ ((claim ≡ Trapped j) ⊎ (claim ≡ Reached j)))
  pub lemmas : (q : Query) (b : ℕ) → last_query c.proofs ≡ Some q → claim ≡ Lemmas b → b < 3 ^ ((case_in s).formula q).variables
  pub words : (q : Query) (x : ℕ) → last_query c.proofs ≡ Some q → claim ≡ Region x
      → s.given.case.limits.region_words < words_of ((case_in s).formula q).variables ((case_in s).formula q).clauses
      + 3 ^ ((case_in s).formula q).variables * (2 * ((case_in s).formula q).variables + 5)

-- ---- a check

-- the certificate that is kept, on what the files hold, says this of the claim
pub record HasSaid (SaysSo : SubjectData → Certificate → Claim → Type 0) (told : Option FileMap) (file : List ℕ) (r : Checked) : Type 0 where
  pub subject : SubjectData
  pub certificate : Certificate
  pub reads : ReadsFirst told file subject
  pub is_text : IsTextOf r.certificate certificate
  pub says : SaysSo subject certificate r.claim
