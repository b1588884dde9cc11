-- When a decision comes to one of the verdicts that decide, when no limit is spent, and how words are.
use Rattle.std.specs.Prelude.{◌≡◌, ℕ, ◌+◌, ◌*◌, ◌^◌, ◌<◌, ◌≤◌, List, [], ◌∷◌, ◌++◌, Some}
use Rattle.std.specs.List.{AllByRecursion}
use Rattle.pv_place.specs.declared.place.Place.{Place}
use Rattle.pv_place.specs.Ranges.{AreWithin}
use Rattle.pv_cnf.specs.Clause.{Cnf}
use Rattle.pv_log.specs.Propagation.{LeadsToFalse}
use Rattle.pv_machine.specs.Queries.{MeetsBase, MeetsStep}
use Rattle.pv_solver.specs.Answers.{Problem}
use Rattle.pv_solver.specs.Costs.{words_of}
use Rattle.pv_mean.specs.Sources.{Source}
use Rattle.pv_mean.specs.Frames.{Input, Params, input_ranges, param_ranges}
use Rattle.pv_mean.specs.Runs.{run}
use Rattle.pv_pattern.specs.Patterns.{Pattern}
use Rattle.pv_pattern.specs.Failing.{Cause, over, FailsFirst}
use Rattle.pv_pattern.specs.Sources.{machine_of}
use Rattle.pv_case.specs.declared.case.Limits.{Limits}
use Rattle.pv_claims.specs.declared.claim.Claim.{Claim}
use Rattle.pv_claims.specs.declared.claim.Claim.TheVariants.{Satisfied, Unreachable, Violated, Trapped, Reached, Depth, Loop, Lemmas, Region}
use Rattle.pv_cert.specs.declared.proof.Query.{Query}
use Rattle.pv_cert.specs.declared.proof.Proof.{Proof}
use Rattle.pv_cert.specs.declared.certificate.Certificate.{Certificate}
use Rattle.pv_kind.specs.Decisions.{problem_of, SpendsWords}
use Rattle.pv_evidence.specs.Reported.{last_query}
use Rattle.pv_bool_load.specs.Handed.{SubjectData, source_in}
use Rattle.pv_command_verdict.specs.Cases.{limits_by, case_in}

-- ---- claims

-- lemmas or words were spent
abbrev pub IsSpent : Claim → Type 0
IsSpent (Satisfied k) = ⊥
IsSpent (Unreachable k) = ⊥
IsSpent (Violated n) = ⊥
IsSpent (Trapped n) = ⊥
IsSpent (Reached n) = ⊥
IsSpent (Depth k) = ⊥
IsSpent (Loop n) = ⊥
IsSpent (Lemmas b) = Unit {0}
IsSpent (Region x) = Unit {0}

-- no run fails, or the goal can't be reached, by a number up to this
abbrev pub IsProvedBy : ℕ → Claim → Type 0
IsProvedBy k (Satisfied j) = j ≤ k
IsProvedBy k (Unreachable j) = j ≤ k
IsProvedBy k (Violated n) = ⊥
IsProvedBy k (Trapped n) = ⊥
IsProvedBy k (Reached n) = ⊥
IsProvedBy k (Depth j) = ⊥
IsProvedBy k (Loop n) = ⊥
IsProvedBy k (Lemmas b) = ⊥
IsProvedBy k (Region x) = ⊥

-- a scan up to this one shows that the requirement doesn't hold, or that the goal is reached
abbrev pub IsShownBy : ℕ → Claim → Type 0
IsShownBy n (Satisfied k) = ⊥
IsShownBy n (Unreachable k) = ⊥
IsShownBy n (Violated j) = j ≤ n
IsShownBy n (Trapped j) = j ≤ n
IsShownBy n (Reached j) = j ≤ n
IsShownBy n (Depth k) = ⊥
IsShownBy n (Loop j) = ⊥
IsShownBy n (Lemmas b) = ⊥
IsShownBy n (Region x) = ⊥

-- ---- what closes a decision

-- k-induction closes by this number
pub record ClosesBy (source : Source) (p : Pattern) (k : ℕ) : Type 0 where
  pub base : (j : ℕ) → 1 ≤ j → j ≤ k → MeetsBase (machine_of source p) j → ⊥
  pub step : MeetsStep (machine_of source p) k → ⊥

-- some run's scan of this number is the first in it that fails, and by this
pub record SomeFailsAt (source : Source) (p : Pattern) (n : ℕ) (cause : Cause) : Type 0 where
  pub params : Params
  pub inputs : List Input
  pub are_params : AreWithin (param_ranges source.cells) params
  pub are_inputs : AllByRecursion (AreWithin (input_ranges source.cells)) inputs
  pub fails : FailsFirst source p (run source params inputs) n cause

-- no run goes over the bound at this scan or before
abbrev pub NoneGoesOver : Source → Pattern → ℕ → Type 0
NoneGoesOver source p n = (j : ℕ) (place : Place) → j ≤ n → SomeFailsAt source p j (over place) → ⊥

-- ---- limits that are spent

-- fewer lemmas than three to the number of the formula's variables, and fewer words than the formula takes and so many times five and twice
-- the variables; where the formula's words fit, no propagation over its clauses makes one of them false
pub record SpendsOf (limits : Limits) (f : Cnf) (claim : Claim) : Type 0 where
  pub lemmas : (b : ℕ) → claim ≡ Lemmas b → b < 3 ^ f.variables
  pub words : (x : ℕ) → claim ≡ Region x
      → limits.region_words < words_of f.variables f.clauses + 3 ^ f.variables * (2 * f.variables + 5)
  pub propagates : IsSpent claim → words_of f.variables f.clauses ≤ limits.region_words
      → (hints : List ℕ) → LeadsToFalse f.clauses [] hints → ⊥

-- a query's formula, within the case's limits
abbrev pub problem_in : SubjectData → Query → Problem
problem_in s q = problem_of (limits_by s.given.case.limits) ((case_in s).formula q).variables ((case_in s).formula q).clauses

-- ---- all of it

-- Where no limit is spent, what k-induction closes up to the depth is closed, and a run that fails at a scan up to it is found, unless one
-- goes over the bound no later. Where the words are, the query's log and its next lemma say by what: the variables and clauses alone didn't
-- fit, and then there is no line and no next lemma; or they and the log's lines did, and the next lemma didn't.
pub record IsComplete (s : SubjectData) (c : Certificate) : Type 0 where
  pub closes : (k : ℕ) → (IsSpent c.claim → ⊥) → k ≤ s.given.case.limits.depth → ClosesBy (source_in s) s.pattern k
      → IsProvedBy k c.claim
  pub finds : (n : ℕ) (cause : Cause) → (IsSpent c.claim → ⊥) → n ≤ s.given.case.limits.depth
      → SomeFailsAt (source_in s) s.pattern n cause → NoneGoesOver (source_in s) s.pattern n → IsShownBy n c.claim
  pub spends : (q : Query) → IsSpent c.claim → last_query c.proofs ≡ Some q
      → SpendsOf s.given.case.limits ((case_in s).formula q) c.claim
  pub lacks : (front : List Proof) (last : Proof) (x : ℕ) → c.claim ≡ Region x → c.proofs ≡ front ++ last ∷ []
      → SpendsWords (problem_in s last.query) last.log x c.next
