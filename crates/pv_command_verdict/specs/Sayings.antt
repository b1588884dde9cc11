-- What a verdict says of what is run, by the runs of the source alone.
use Rattle.std.specs.Prelude.{◌≡◌, ℕ, ◌+◌, ◌<◌, ◌≤◌, true, false, List, length, Option, Some}
use Rattle.std.specs.List.{AllByRecursion}
use Rattle.pv_place.specs.declared.place.Place.{Place}
use Rattle.pv_place.specs.declared.trap.TrapKind.{TrapKind}
use Rattle.pv_place.specs.Ranges.{AreWithin}
use Rattle.pv_machine.specs.Queries.{MeetsStep}
use Rattle.pv_mean.specs.Sources.{Source}
use Rattle.pv_mean.specs.Frames.{Image, Input, Params, input_ranges, param_ranges}
use Rattle.pv_mean.specs.Runs.{run, run_from}
use Rattle.pv_pattern.specs.Patterns.{Pattern, asks_for_goal}
use Rattle.pv_pattern.specs.Failing.{Cause, pattern, trap, over, NoneFails, FailsFirst, FailsFirstFrom}
use Rattle.pv_pattern.specs.Sources.{looks_back, machine_of, IsSatisfied}
use Rattle.pv_case.specs.declared.case.Limits.{Limits}
use Rattle.pv_claims.specs.declared.claim.Claim.{Claim}
use Rattle.pv_claims.specs.declared.claim.Claim.TheVariants.{Satisfied, Unreachable, Violated, Trapped, Reached, Depth, Loop, Lemmas, Region}
use Rattle.pv_claims.specs.declared.trace.Ending.{Ending}
use Rattle.pv_claims.specs.declared.trace.Ending.TheVariants as ending
use Rattle.pv_claims.specs.declared.trace.Trace.{Trace}
use Rattle.pv_stretch.specs.Correct.{cause_of}
use Rattle.pv_cert.specs.declared.proof.Query.{Query}
use Rattle.pv_cert.specs.declared.proof.Query.TheVariants.{Base, Step}
use Rattle.pv_cert.specs.declared.certificate.Certificate.{Certificate}
use Rattle.pv_kind.specs.Decisions.{bases_before, steps_before, IsWithin}
use Rattle.pv_lift.specs.Traces.{FitsRun, FitsStretch}
use Rattle.pv_evidence.specs.Reported.{last_query}

-- ---- runs

-- no run fails at a scan before its n-th
abbrev pub NoneFailsBefore : Source → Pattern → ℕ → Type 0
NoneFailsBefore source p n = (params : Params) (inputs : List Input)
    → AreWithin (param_ranges source.cells) params → AllByRecursion (AreWithin (input_ranges source.cells)) inputs
    → length inputs < n → NoneFails source p (run source params inputs)

-- the run with the trace's parameters and inputs fails first at scan n, its last, and by this; no run fails before
pub record FailsBy (source : Source) (p : Pattern) (n : ℕ) (cause : Cause) (t : Option Trace) : Type 0 where
  pub trace : Trace
  pub is : t ≡ Some trace
  pub fits : FitsRun source.cells n trace
  pub fails : FailsFirst source p (run source trace.params trace.inputs) n cause
  pub earlier : NoneFailsBefore source p n

-- from the trace's image, behind its mark, k scans are done and don't fail, and the next one, the last, fails and ends so; no run fails at
-- one of its first k scans
pub record GoesOnBy (source : Source) (p : Pattern) (k : ℕ) (told : Option Ending) (t : Option Trace) : Type 0 where
  pub trace : Trace
  pub is : t ≡ Some trace
  pub image : Image
  pub fits : FitsStretch source.cells (looks_back p) (k + 1) trace image
  pub last : Ending
  pub is_last : told ≡ Some last
  pub fails : FailsFirstFrom source p trace.prev (run_from source image trace.inputs) (k + 1) (cause_of last)
  pub earlier : NoneFailsBefore source p (k + 1)

-- the query at which a limit was spent is the last proof's, one of those up to the depth, and no run fails at a scan that a base query before
-- it asks about
pub record StopsAt (source : Source) (p : Pattern) (limits : Limits) (c : Certificate) : Type 0 where
  pub query : Query
  pub named : last_query c.proofs ≡ Some query
  pub within : IsWithin limits.depth query
  pub earlier : NoneFailsBefore source p (bases_before query + 1)

-- ---- verdicts

-- k-induction closes by this number: from whatever state, reached or not, k scans that are done and don't fail are followed by none that fails
abbrev pub ClosesAt : Source → Pattern → ℕ → Type 0
ClosesAt source p k = MeetsStep (machine_of source p) k → ⊥

-- What a certificate says whose trace ends so. Satisfied: each scan of each run is done, within the loop's bound, and keeps the requirement.
-- Unreachable: no run reaches the goal, and none goes over the bound; some may trap. Of both, k-induction closes by the claim's number. A
-- claim of a scan, of the run that is printed: that scan fails so, and none before it in any run.
abbrev pub SaysOfSource : Source → Pattern → Limits → Certificate → Option Ending → Claim → Type 0
SaysOfSource source p limits c told (Satisfied k) =
    (asks_for_goal p ≡ false) × (k ≤ limits.depth) × ClosesAt source p k × IsSatisfied source p
SaysOfSource source p limits c told (Unreachable k) =
    (asks_for_goal p ≡ true) × (k ≤ limits.depth) × ClosesAt source p k × IsSatisfied source p
SaysOfSource source p limits c told (Violated n) =
    (asks_for_goal p ≡ false) × (n ≤ limits.depth) × FailsBy source p n pattern c.trace
SaysOfSource source p limits c told (Trapped n) = (asks_for_goal p ≡ false) × (n ≤ limits.depth)
    × (kind : TrapKind) × (place : Place) × (told ≡ Some (ending.Trap kind place)) × FailsBy source p n (trap kind place) c.trace
SaysOfSource source p limits c told (Reached n) =
    (asks_for_goal p ≡ true) × (n ≤ limits.depth) × FailsBy source p n pattern c.trace
SaysOfSource source p limits c told (Loop n) = (n ≤ limits.depth)
    × (place : Place) × (told ≡ Some (ending.Over place)) × FailsBy source p n (over place) c.trace
SaysOfSource source p limits c told (Depth k) = (k ≡ limits.depth) × GoesOnBy source p k told c.trace
SaysOfSource source p limits c told (Lemmas b) = (b ≡ limits.lemmas) × StopsAt source p limits c
SaysOfSource source p limits c told (Region x) = (limits.region_words < x) × StopsAt source p limits c

-- ---- what is said besides of a verdict that was decided, not read: that no step query before the last one closes

-- the query that was asked last
abbrev pub asked_last : Certificate → Claim → Option Query
asked_last c (Satisfied k) = Some (Step k)
asked_last c (Unreachable k) = Some (Step k)
asked_last c (Violated n) = Some (Base n)
asked_last c (Trapped n) = Some (Base n)
asked_last c (Reached n) = Some (Base n)
asked_last c (Depth k) = Some (Step k)
asked_last c (Loop n) = Some (Base n)
asked_last c (Lemmas b) = last_query c.proofs
asked_last c (Region x) = last_query c.proofs

-- the source's machine meets each step query that comes before it
abbrev pub MeetsEarlierSteps : Source → Pattern → Query → Type 0
MeetsEarlierSteps source p q = (j : ℕ) → j < steps_before q → MeetsStep (machine_of source p) j

-- so is each before the query that was asked last: as k-induction closes by the number of a proved claim, that is the least one
pub record IsInOrder (source : Source) (p : Pattern) (c : Certificate) : Type 0 where
  pub query : Query
  pub asked : asked_last c c.claim ≡ Some query
  pub met : MeetsEarlierSteps source p query
