-- A stretch of the scans whose values are in range tells what is wrong first with all of them.
use Rattle.std.proofs.Common.{◌≡◌, ℕ, zero, suc, ◌+◌, ◌-◌, ◌≤◌, Bool, true, false, cond, eqb, List, [], ◌∷◌, length, take, refl, ap, sym, ◌∙◌, Option, Some, None, arith}
use Rattle.std.specs.Prelude.{◌&&◌, nat_lt}
use Rattle.std.proofs.lemmas.Bool.{lt-ltb, ne_eqb}
use Rattle.pv_machine.specs.Machines.{Values, Step}
use Rattle.pv_machine.specs.Queries.{IsGoodScan}
use Rattle.pv_claims.specs.declared.claim.Claim.{Claim}
use Rattle.pv_claims.specs.declared.claim.Claim.TheVariants.{Satisfied, Unreachable, Violated, Trapped, Reached, Depth, Loop, Lemmas, Region}
use Rattle.pv_claims.specs.declared.trace.Ending.{Ending}
use Rattle.pv_claims.specs.declared.trace.Trace.{Trace}
use Rattle.pv_claims.specs.TracePart.{trace_form, HasForm}
use Rattle.pv_stretch.specs.declared.ends.StretchEnd.{StretchEnd}
use Rattle.pv_stretch.specs.declared.ends.StretchEnd.TheVariants.{Fails, Stopped}
use Rattle.pv_valid.specs.declared.fault.Kind.{Kind}
use Rattle.pv_valid.specs.declared.fault.Kind.TheVariants as kind
use Rattle.pv_valid.specs.declared.fault.Fault.{Fault}
use Rattle.pv_valid.specs.declared.fault.Fault.TheVariants.{Line}
use Rattle.pv_valid.specs.Cases.{Case, IsSound}
use Rattle.pv_valid.specs.Shown.{ending_of, left_by, IsStretch, EndsStretch}
use Rattle.pv_valid.specs.Claims.{Belongs}
use Rattle.pv_valid.specs.Walk.{or_else, unless, are_between, good_left, scans_fault}
use Rattle.pv_judge.specs.Steps.{HasFewScans, in_range, scans_found}
use Rattle.pv_judge.proofs.Compares.{lt-suc, eq-suc}

-- ---- how many scans a trace has

no-trace : (trace : Option Trace) → trace ≡ None → HasFewScans trace
no-trace None e = tt
no-trace (Some t) e = absurd cc

module _ (case : Case) (sound : IsSound case) where
  few-run : (n : ℕ) (trace : Option Trace) → n ≤ case.facts.depth → HasForm (trace_form (Loop n)) trace → HasFewScans trace
  few-run n None within form = absurd form
  few-run n (Some t) within form = (let count = form.scans in let depth = sound.depth in omega (arith, count, within, depth))

  few-stretch : (k : ℕ) (trace : Option Trace) → k ≡ case.facts.depth → HasForm (trace_form (Depth k)) trace → HasFewScans trace
  few-stretch k None is form = absurd form
  few-stretch k (Some t) is form = (let count = form.scans in let depth = sound.depth in omega (arith, count, is, depth))

  pub few-scans : (claim : Claim) (trace : Option Trace) → Belongs case.facts claim → HasForm (trace_form claim) trace → HasFewScans trace
  few-scans (Satisfied k) trace belongs form = no-trace trace form
  few-scans (Unreachable k) trace belongs form = no-trace trace form
  few-scans (Violated n) trace belongs form = few-run n trace belongs.1.1 form
  few-scans (Trapped n) trace belongs form = few-run n trace belongs.1.1 form
  few-scans (Reached n) trace belongs form = few-run n trace belongs.1.1 form
  few-scans (Depth k) trace belongs form = few-stretch k trace belongs form
  few-scans (Loop n) trace belongs form = few-run n trace belongs.1 form
  few-scans (Lemmas b) trace belongs form = no-trace trace form
  few-scans (Region x) trace belongs form = no-trace trace form

-- ---- one scan more

module _ (ends : Ending → Bool) where
  line-is : (at place : ℕ) (why : Kind) → at ≡ place → ◌≡◌ {A = Option Fault} (Some (Line at why)) (Some (Line place why))
  line-is at place why e = ap (λ (n : ℕ). Some (Line n why)) e

  choose : (b : Bool) (x y z w : Option Fault) → x ≡ z → y ≡ w → cond b x y ≡ cond b z w
  choose true x y z w e f = e
  choose false x y z w e f = f

  -- what the scans after a good one show, they show with it
  more : (at count ranged good : ℕ) (end : Option StretchEnd) → 1 ≤ count
      → scans_found ends (suc at) count ranged good end ≡ scans_found ends at (suc count) (suc ranged) (suc good) end
  more at count ranged good None some =
      choose (nat_lt ranged count) (Some (Line (suc at + ranged) kind.WrongQuery)) (Some (Line (suc at + (count - 1)) kind.TraceDiffers))
      (Some (Line (at + suc ranged) kind.WrongQuery)) (Some (Line (at + (suc count - 1)) kind.TraceDiffers))
      (line-is (suc at + ranged) (at + suc ranged) kind.WrongQuery (omega arith))
      (line-is (suc at + (count - 1)) (at + (suc count - 1)) kind.TraceDiffers (omega (arith, some)))
      ∙ ap (λ (b : Bool). cond b (Some (Line (at + suc ranged) kind.WrongQuery)) (Some (Line (at + (suc count - 1)) kind.TraceDiffers)))
      (sym (lt-suc ranged count))
  more at count ranged good (Some (Stopped trap place)) some = line-is (suc at + good) (at + suc good) kind.TraceDiffers (omega arith)
  more at count ranged good (Some (Fails told)) some =
      choose (eqb (suc good) count && ends told) None (Some (Line (suc at + good) kind.TraceDiffers)) None
      (Some (Line (at + suc good) kind.TraceDiffers)) refl (line-is (suc at + good) (at + suc good) kind.TraceDiffers (omega arith))
      ∙ ap (λ (b : Bool). cond (b && ends told) None (Some (Line (at + suc good) kind.TraceDiffers))) (sym (eq-suc (suc good) count))

  -- ---- the first scan

  module _ (case : Case) where
    abbrev ranged_in : List Values → ℕ
    ranged_in inputs = in_range case.facts.input inputs

    -- the first scan's values aren't in range: no scan was tried
    first-out : (at : ℕ) (s i : Values) (inputs : List Values) → are_between case.facts.input i ≡ false
        → scans_fault case ends at s (i ∷ inputs) ≡ Some (Line at kind.WrongQuery)
    first-out at s i [] out =
        ap (λ (b : Bool). or_else (unless b at kind.WrongQuery)
        (unless (case.machine.fails s i && ends (ending_of (case.machine.step s i))) at kind.TraceDiffers)) out
    first-out at s i (j ∷ inputs) out =
        ap (λ (b : Bool). or_else (unless b at kind.WrongQuery) (elim (good_left case.machine s i) as (λ _. Option Fault) [
          | None ↦ Some (Line at kind.TraceDiffers)
          | Some t ↦ scans_fault case ends (suc at) t (j ∷ inputs)
        ])) out

    abbrev going : ℕ → List Values → Option Values → Option Fault
    going at inputs o = elim o as (λ _. Option Fault) [
      | None ↦ Some (Line at kind.TraceDiffers)
      | Some t ↦ scans_fault case ends (suc at) t inputs
    ]

    abbrev last_part : ℕ → Values → Values → Option Fault
    last_part at s i = unless (case.machine.fails s i && ends (ending_of (case.machine.step s i))) at kind.TraceDiffers

    -- the first scan's values are in range
    in-one : (at : ℕ) (s i : Values) → are_between case.facts.input i ≡ true → scans_fault case ends at s (i ∷ []) ≡ last_part at s i
    in-one at s i within = ap (λ (b : Bool). or_else (unless b at kind.WrongQuery) (last_part at s i)) within

    in-more : (at : ℕ) (s i j : Values) (inputs : List Values) → are_between case.facts.input i ≡ true
        → scans_fault case ends at s (i ∷ j ∷ inputs) ≡ going at (j ∷ inputs) (good_left case.machine s i)
    in-more at s i j inputs within =
        ap (λ (b : Bool). or_else (unless b at kind.WrongQuery) (going at (j ∷ inputs) (good_left case.machine s i))) within

    -- what a stretch without scans tells
    none-tried : (n at : ℕ) (s : Values) (good : ℕ) (end : Option StretchEnd) → IsStretch case.machine s [] good end
        → scans_found ends at (suc n) 0 good end ≡ Some (Line at kind.WrongQuery)
    none-tried n at s zero None is =
        ap (λ (b : Bool). cond b (Some (Line (at + 0) kind.WrongQuery)) (Some (Line (at + (suc n - 1)) kind.TraceDiffers)))
        (lt-ltb 0 (suc n) (omega arith))
        ∙ line-is (at + 0) at kind.WrongQuery (omega arith)
    none-tried n at s zero (Some end) is = absurd is
    none-tried n at s (suc good) end is = absurd is

    unless-cond : (b : Bool) (at : ℕ) → unless b at kind.TraceDiffers ≡ cond b None (Some (Line (at + 0) kind.TraceDiffers))
    unless-cond true at = refl
    unless-cond false at = line-is at (at + 0) kind.TraceDiffers (omega arith)

    differs-here : (at : ℕ) → ◌≡◌ {A = Option Fault} (Some (Line at kind.TraceDiffers)) (Some (Line (at + 0) kind.TraceDiffers))
    differs-here at = line-is at (at + 0) kind.TraceDiffers (omega arith)

    -- a scan that doesn't fail is none that the claim says
    keeps-last : (at : ℕ) (s i : Values) → case.machine.fails s i ≡ false → last_part at s i ≡ Some (Line at kind.TraceDiffers)
    keeps-last at s i keeps = ap (λ (b : Bool). unless (b && ends (ending_of (case.machine.step s i))) at kind.TraceDiffers) keeps

    -- the first scan ends the stretch
    first-ends : (inputs : List Values) (at : ℕ) (s i : Values) (ranged : ℕ) (end : StretchEnd)
        → are_between case.facts.input i ≡ true → EndsStretch case.machine s i end
        → scans_fault case ends at s (i ∷ inputs) ≡ scans_found ends at (suc (length inputs)) ranged 0 (Some end)
    first-ends [] at s i ranged (Fails told) within is =
        in-one at s i within
        ∙ (ap (λ (b : Bool). unless (b && ends (ending_of (case.machine.step s i))) at kind.TraceDiffers) is.0
        ∙ (ap (λ (x : Ending). unless (ends x) at kind.TraceDiffers) (sym is.1) ∙ unless-cond (ends told) at))
    first-ends (j ∷ inputs) at s i ranged (Fails told) within is =
        in-more at s i j inputs within
        ∙ (ap (λ (b : Bool). going at (j ∷ inputs) (cond b None (left_by (case.machine.step s i)))) is.0 ∙ (differs-here at
        ∙ ap (λ (b : Bool). cond (b && ends told) None (Some (Line (at + 0) kind.TraceDiffers)))
        (sym (ne_eqb 1 (suc (suc (length inputs))) (λ e. absurd (omega (arith, e)))))))
    first-ends [] at s i ranged (Stopped trap place) within is = in-one at s i within ∙ (keeps-last at s i is.0 ∙ differs-here at)
    first-ends (j ∷ inputs) at s i ranged (Stopped trap place) within is =
        in-more at s i j inputs within
        ∙ (ap (λ (b : Bool). going at (j ∷ inputs) (cond b None (left_by (case.machine.step s i)))) is.0
        ∙ (ap (λ (x : Step). going at (j ∷ inputs) (left_by x)) is.1 ∙ differs-here at))

    -- what is told of the scans after a good one
    abbrev Behind : List Values → ℕ → Values → ℕ → Option StretchEnd → Type 0
    Behind inputs at t good end = scans_fault case ends at t inputs ≡ scans_found ends at (length inputs) (ranged_in inputs) good end

    -- the first scan is good, and these are after it
    first-good : (inputs : List Values) (at : ℕ) (s i t : Values) (good : ℕ) (end : Option StretchEnd)
        → are_between case.facts.input i ≡ true → IsGoodScan case.machine s i t
        → IsStretch case.machine t (take (ranged_in inputs) inputs) good end → Behind inputs (suc at) t good end
        → scans_fault case ends at s (i ∷ inputs) ≡ scans_found ends at (suc (length inputs)) (suc (ranged_in inputs)) (suc good) end
    first-good [] at s i t zero None within scan is behind =
        in-one at s i within ∙ (keeps-last at s i scan.keeps ∙ line-is at (at + (1 - 1)) kind.TraceDiffers (omega arith))
    first-good [] at s i t zero (Some end) within scan is behind = absurd is
    first-good [] at s i t (suc good) end within scan is behind = absurd is
    first-good (j ∷ inputs) at s i t good end within scan is behind =
        in-more at s i j inputs within
        ∙ (ap (λ (b : Bool). going at (j ∷ inputs) (cond b None (left_by (case.machine.step s i)))) scan.keeps
        ∙ (ap (λ (x : Step). going at (j ∷ inputs) (left_by x)) scan.done
        ∙ (behind ∙ more at (suc (length inputs)) (ranged_in (j ∷ inputs)) good end (omega arith))))

    by-range : (inputs : List Values) (at : ℕ) (s i : Values) (good : ℕ) (end : Option StretchEnd) (b : Bool)
        → are_between case.facts.input i ≡ b
        → ((t : Values) (later : ℕ) → IsStretch case.machine t (take (ranged_in inputs) inputs) later end → Behind inputs (suc at) t later end)
        → IsStretch case.machine s (take (cond b (suc (ranged_in inputs)) 0) (i ∷ inputs)) good end
        → scans_fault case ends at s (i ∷ inputs)
        ≡ scans_found ends at (suc (length inputs)) (cond b (suc (ranged_in inputs)) 0) good end
    by-range inputs at s i good end false out behind is =
        first-out at s i inputs out ∙ sym (none-tried (length inputs) at s good end is)
    by-range inputs at s i zero None true within behind is = absurd is
    by-range inputs at s i zero (Some end) true within behind is = first-ends inputs at s i (suc (ranged_in inputs)) end within is
    by-range inputs at s i (suc good) end true within behind is =
        first-good inputs at s i is.0 good end within is.1 is.2 (behind is.0 good is.2)

    -- the stretch of the scans before the first whose values aren't in range
    pub found-is : (inputs : List Values) (at : ℕ) (s : Values) (good : ℕ) (end : Option StretchEnd)
        → IsStretch case.machine s (take (ranged_in inputs) inputs) good end
        → scans_fault case ends at s inputs ≡ scans_found ends at (length inputs) (ranged_in inputs) good end
    found-is [] at s zero None is = line-is at (at + (0 - 1)) kind.TraceDiffers (omega arith)
    found-is [] at s zero (Some end) is = absurd is
    found-is [] at s (suc good) end is = absurd is
    found-is (i ∷ inputs) at s good end is =
        by-range inputs at s i good end (are_between case.facts.input i) refl (λ t later. found-is inputs (suc at) t later end) is
