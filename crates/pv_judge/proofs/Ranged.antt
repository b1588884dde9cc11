-- How many inputs are in range, and what a stretch of these tells of the last scan.
use Rattle.std.proofs.Common.{◌≡◌, ℕ, zero, suc, ◌+◌, ◌<◌, ◌≤◌, Bool, true, false, cond, eqb, List, [], ◌∷◌, length, take, drop, get_or, refl, ap, sym, ◌∙◌, Option, Some, None, Result, Ok, Err, arith}
use Rattle.std.specs.Prelude.{◌&&◌}
use Rattle.std.specs.List.{AllByRecursion}
use Rattle.std.proofs.lemmas.Bool.{and_parts, eqb-true}
use Rattle.std.proofs.lemmas.List.{drop_all}
use Rattle.pv_machine.specs.Machines.{Machine, Values}
use Rattle.pv_claims.specs.declared.claim.Claim.{Claim}
use Rattle.pv_claims.specs.declared.trace.Ending.{Ending}
use Rattle.pv_stretch.specs.declared.ends.StretchEnd.{StretchEnd}
use Rattle.pv_stretch.specs.declared.ends.StretchEnd.TheVariants.{Fails, Stopped}
use Rattle.pv_valid.specs.declared.fault.Kind.TheVariants as kind
use Rattle.pv_valid.specs.declared.fault.Fault.{Fault}
use Rattle.pv_valid.specs.declared.fault.Fault.TheVariants.{Line}
use Rattle.pv_valid.specs.Cases.{Case, Bounds, AreBetween}
use Rattle.pv_valid.specs.Shown.{IsStretch, last_ending}
use Rattle.pv_valid.specs.Claims.{ends_as}
use Rattle.pv_valid.specs.Walk.{are_between}
use Rattle.pv_valid.proofs.ForCallers.{between-are, behind-done}
use Rattle.pv_judge.specs.Steps.{in_range, scans_found, FindsEnd, FindsFrom}
use Rattle.pv_judge.proofs.Scans.{found-is}
use Rattle.pv_judge.proofs.Finds.{drop-here}

-- ---- how many are in range

module _ (ranges : List Bounds) where
  pub ranged-more : (inputs : List Values) (n : ℕ) (i : Values) → n < length inputs → i ≡ get_or inputs n i → are_between ranges i ≡ true
      → n + in_range ranges (drop n inputs) ≡ n + 1 + in_range ranges (drop (n + 1) inputs)
  ranged-more inputs n i lt is within =
      let here : in_range ranges (drop n inputs) ≡ suc (in_range ranges (drop (n + 1) inputs)) =
      ap (in_range ranges) (drop-here inputs n i lt is) ∙ ap (λ (b : Bool). cond b (suc (in_range ranges (drop (n + 1) inputs))) 0) within in
      omega (arith, here)

  pub ranged-stop : (inputs : List Values) (n : ℕ) (i : Values) → n < length inputs → i ≡ get_or inputs n i → are_between ranges i ≡ false
      → n + in_range ranges (drop n inputs) ≡ n
  ranged-stop inputs n i lt is out =
      let here : in_range ranges (drop n inputs) ≡ 0 =
      ap (in_range ranges) (drop-here inputs n i lt is) ∙ ap (λ (b : Bool). cond b (suc (in_range ranges (drop (n + 1) inputs))) 0) out in
      omega (arith, here)

  pub ranged-all : (inputs : List Values) (n : ℕ) → length inputs ≤ n → n + in_range ranges (drop n inputs) ≡ n
  ranged-all inputs n le = (let here : in_range ranges (drop n inputs) ≡ 0 = ap (in_range ranges) (drop_all n inputs le) in omega (arith, here))

  most-cond : (b : Bool) (n count : ℕ) → n ≤ count → cond b (suc n) 0 ≤ suc count
  most-cond true n count le = omega (arith, le)
  most-cond false n count le = omega arith

  pub ranged-most : (inputs : List Values) → in_range ranges inputs ≤ length inputs
  ranged-most [] = omega arith
  ranged-most (i ∷ inputs) = most-cond (are_between ranges i) (in_range ranges inputs) (length inputs) (ranged-most inputs)

  -- those are
  pub all-ranged : (inputs : List Values) → AllByRecursion (AreBetween ranges) (take (in_range ranges inputs) inputs)
  all-ranged [] = tt
  all-ranged (i ∷ inputs) = by-first (are_between ranges i) refl (all-ranged inputs)
    where
      by-first : (b : Bool) → are_between ranges i ≡ b → AllByRecursion (AreBetween ranges) (take (in_range ranges inputs) inputs)
          → AllByRecursion (AreBetween ranges) (take (cond b (suc (in_range ranges inputs)) 0) (i ∷ inputs))
      by-first true within rest = (between-are ranges i within, rest)
      by-first false out rest = tt

-- ---- the last scan

pub few-good : (m : Machine) (inputs : List Values) (s : Values) (good : ℕ) (end : Option StretchEnd) → IsStretch m s inputs good end
    → good ≤ length inputs
few-good m [] s zero None is = omega arith
few-good m [] s zero (Some end) is = absurd is
few-good m [] s (suc good) end is = absurd is
few-good m (i ∷ inputs) s zero end is = omega arith
few-good m (i ∷ inputs) s (suc good) end is = (let le = few-good m inputs is.0 good end is.2 in omega (arith, le))

pub last-told : (m : Machine) (inputs : List Values) (s : Values) (ranged good : ℕ) (told : Ending)
    → IsStretch m s (take ranged inputs) good (Some (Fails told)) → suc good ≡ length inputs → last_ending m s inputs ≡ Some told
last-told m [] s zero zero told is count = absurd is
last-told m [] s zero (suc good) told is count = absurd is
last-told m [] s (suc ranged) zero told is count = absurd is
last-told m [] s (suc ranged) (suc good) told is count = absurd is
last-told m (i ∷ inputs) s zero zero told is count = absurd is
last-told m (i ∷ inputs) s zero (suc good) told is count = absurd is
last-told m (i ∷ []) s (suc ranged) zero told is count = ap (λ (x : Ending). Some x) (sym is.1)
last-told m (i ∷ j ∷ inputs) s (suc ranged) zero told is count = absurd (omega (arith, count))
last-told m (i ∷ []) s (suc ranged) (suc good) told is count = absurd (omega (arith, count))
last-told m (i ∷ j ∷ inputs) s (suc ranged) (suc good) told is count =
    behind-done m s i j is.0 inputs is.1.done ∙ last-told m (j ∷ inputs) is.0 ranged good told is.2 (omega (arith, count))

-- ---- what is found

-- the last scan fails, and it is the one that shows the claim
fails-last : (b : Bool) (fault : Fault) → cond b None (Some fault) ≡ None → b ≡ true
fails-last true fault e = refl
fails-last false fault e = absurd cc

found-last : (ends : Ending → Bool) (at count ranged good : ℕ) (told : Ending)
    → scans_found ends at count ranged good (Some (Fails told)) ≡ None → suc good ≡ count
found-last ends at count ranged good told e =
    eqb-true (suc good) count (and_parts (eqb (suc good) count) (ends told)
    (fails-last (eqb (suc good) count && ends told) (Line (at + good) kind.TraceDiffers) e)).0

module _ (case : Case) (claim : Claim) (at : ℕ) (s : Values) (inputs : List Values) (good : ℕ) where
  abbrev ranged : ℕ
  ranged = in_range case.facts.input inputs

  abbrev found : Option StretchEnd → Option Fault
  found end = scans_found (ends_as claim) at (length inputs) ranged good end

  pub found-from : (end : Option StretchEnd) (r : Result Ending Fault) → IsStretch case.machine s (take ranged inputs) good end
      → FindsEnd (found end) end r → FindsFrom case claim at s inputs r
  found-from end (Err fault) is finds = found-is (ends_as claim) case inputs at s good end is ∙ finds
  found-from None (Ok told) is finds = (let e = finds.1 in absurd cc)
  found-from (Some (Stopped trap place)) (Ok told) is finds = (let e = finds.1 in absurd cc)
  found-from (Some (Fails other)) (Ok told) is finds =
      let e = finds.1 in
      let same : other ≡ told = cc in (
        found-is (ends_as claim) case inputs at s good (Some (Fails other)) is ∙ finds.0,
        last-told case.machine inputs s ranged good other is (found-last (ends_as claim) at (length inputs) ranged good other finds.0)
            ∙ ap (λ (x : Ending). Some x) same,
      )
