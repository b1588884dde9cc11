-- How the last scan of a trace ends, and that it ends as the claim says which is made of it.
use Rattle.std.proofs.Common.{◌≡◌, ℕ, Bool, true, false, List, [], ◌∷◌, refl, ap, ◌∙◌, Option, Some, None}
use Rattle.std.specs.List.{AllByRecursion}
use Rattle.pv_machine.specs.Machines.{Machine, Values, Step, done, trap, over, IsState, IsInput}
use Rattle.pv_claims.specs.declared.trace.Ending.{Ending}
use Rattle.pv_claims.specs.declared.trace.Ending.TheVariants as ending
use Rattle.pv_valid.specs.declared.facts.Facts.{Facts}
use Rattle.pv_valid.specs.Cases.{Case, IsSound, IsTrapped}
use Rattle.pv_valid.specs.Shown.{ending_of, left_by, FailsAtLastAs, last_ending}
use Rattle.pv_valid.specs.Claims.{IsScan, Belongs, ends_as, is_trap}
use Rattle.pv_valid.specs.Deciding.{failed_claim}

abbrev goes_on : Machine → List Values → Option Values → Option Ending
goes_on m inputs o = elim o as (λ _. Option Ending) [ None ↦ None | Some t ↦ last_ending m t inputs ]

-- the last ending of scans of which the first is done
pub behind-done : (m : Machine) (s i j t : Values) (inputs : List Values) → m.step s i ≡ done t
    → last_ending m s (i ∷ j ∷ inputs) ≡ last_ending m t (j ∷ inputs)
behind-done m s i j t inputs e = ap (λ (step : Step). goes_on m (j ∷ inputs) (left_by step)) e

trapped-step : (step : Step) → is_trap (ending_of step) ≡ true → IsTrapped step
trapped-step (done t) e = absurd cc
trapped-step (trap k place) e = tt
trapped-step (over place) e = absurd cc

-- the scans end so, with no trap where a goal is asked for
pub record Told (case : Case) (s : Values) (inputs : List Values) : Type 1 where
  pub told : Ending
  pub last : last_ending case.machine s inputs ≡ Some told
  pub no_trap : case.facts.goal ≡ true → is_trap told ≡ true → ⊥
  pub as_told : (Q : Ending → Type 0) → Q told → FailsAtLastAs case.machine Q s inputs

pub told-of : (case : Case) → IsSound case → (P : Ending → Type 0) (inputs : List Values) (s : Values) → IsState case.machine s
    → AllByRecursion (IsInput case.machine) inputs → FailsAtLastAs case.machine P s inputs → Told case s inputs
told-of case sound P [] s state are fails = absurd fails
told-of case sound P (i ∷ []) s state are fails = record {
  told = ending_of (case.machine.step s i);
  last = refl;
  no_trap = λ goal e. sound.traps goal s i state are.0 fails.0 (trapped-step (case.machine.step s i) e);
  as_told = λ Q q. (fails.0, q);
}
told-of case sound P (i ∷ j ∷ inputs) s state are fails =
    let next = sound.lawful.steps s i fails.0 state are.0 fails.1.done in
    let rest = told-of case sound P (j ∷ inputs) fails.0 next are.1 fails.2 in
    record {
      told = rest.told;
      last = behind-done case.machine s i j fails.0 inputs fails.1.done ∙ rest.last;
      no_trap = rest.no_trap;
      as_told = λ Q q. (fails.0, fails.1, rest.as_told Q q);
    }

-- the claim of a run that fails belongs to the case, and its last scan ends as the claim says
pub failed-belongs : (facts : Facts) (goal : Bool) (told : Ending) (n : ℕ) → facts.goal ≡ goal → IsScan facts.depth n
    → (goal ≡ true → is_trap told ≡ true → ⊥)
    → Belongs facts (failed_claim goal (Some told) n) × (ends_as (failed_claim goal (Some told) n) told ≡ true)
failed-belongs facts false ending.Pattern n is scan none = ((is, scan), refl)
failed-belongs facts true ending.Pattern n is scan none = ((is, scan), refl)
failed-belongs facts false (ending.Trap k place) n is scan none = ((is, scan), refl)
failed-belongs facts true (ending.Trap k place) n is scan none = absurd (none refl refl)
failed-belongs facts false (ending.Over place) n is scan none = (scan, refl)
failed-belongs facts true (ending.Over place) n is scan none = (scan, refl)
