-- The stretch that replays a trace tells how its last scan ends.
use Rattle.std.proofs.Common.{◌≡◌, ℕ, zero, suc, Bool, true, false, List, [], ◌∷◌, ap, sym, subst, ◌∙◌, Option, Some, None, ℤ}
use Rattle.pv_machine.specs.Machines.{Machine, Values, Step, done, trap}
use Rattle.pv_claims.specs.declared.trace.Ending.{Ending}
use Rattle.pv_claims.specs.declared.trace.Trace.{Trace}
use Rattle.pv_stretch.specs.declared.ends.StretchEnd.{StretchEnd}
use Rattle.pv_stretch.specs.declared.ends.StretchEnd.TheVariants.{Fails, Stopped}
use Rattle.pv_stretch.specs.declared.ends.StretchStart.{StretchStart}
use Rattle.pv_stretch.specs.declared.ends.StretchStart.TheVariants as from
use Rattle.pv_valid.specs.Cases.{Case, AreBetween, MayFollow}
use Rattle.pv_valid.specs.Shown.{ending_of, FailsAtLastAs, last_ending, EndsStretch, IsStretch}
use Rattle.pv_valid.specs.Starts.{IsStart, state_from}
use Rattle.pv_valid.specs.Validity.{BeginsIn, first_state}
use Rattle.pv_valid.proofs.ForCallers.{behind-done}
use Rattle.pv_evidence.specs.Endings.{told_by, BeginsAt}

one-done : (t u : Values) → ◌≡◌ {A = Step} (done t) (done u) → t ≡ u
one-done t u e = cc

ended : (m : Machine) (s i : Values) (end : StretchEnd) → EndsStretch m s i end → told_by (Some end) ≡ last_ending m s (i ∷ [])
ended m s i (Fails told) is = ap (λ (x : Ending). Some x) is.1
ended m s i (Stopped kind place) is = ap (λ (step : Step). Some (ending_of step)) (sym is.1)

good-ends-not : (m : Machine) (s i t : Values) (end : StretchEnd) → m.step s i ≡ done t → m.fails s i ≡ false → EndsStretch m s i end → ⊥
good-ends-not m s i t (Fails told) done_ keeps is = (let bad : false ≡ true = sym keeps ∙ is.0 in absurd cc)
good-ends-not m s i t (Stopped kind place) done_ keeps is =
    (let bad : ◌≡◌ {A = Step} (done t) (trap kind place) = sym done_ ∙ is.1 in absurd cc)

-- where each scan but the last is good and the last fails, the stretch goes as far as the last
pub stretch-tells : (m : Machine) (P : Ending → Type 0) (inputs : List Values) (s : Values) (good : ℕ) (end : Option StretchEnd)
    → FailsAtLastAs m P s inputs → IsStretch m s inputs good end → told_by end ≡ last_ending m s inputs
stretch-tells m P [] s good end fails is = absurd fails
stretch-tells m P (i ∷ []) s zero None fails is = absurd is
stretch-tells m P (i ∷ []) s zero (Some end) fails is = ended m s i end is
stretch-tells m P (i ∷ []) s (suc good) end fails is = (let bad : false ≡ true = sym is.1.keeps ∙ fails.0 in absurd cc)
stretch-tells m P (i ∷ j ∷ inputs) s zero None fails is = absurd is
stretch-tells m P (i ∷ j ∷ inputs) s zero (Some end) fails is = absurd (good-ends-not m s i fails.0 end fails.1.done fails.1.keeps is)
stretch-tells m P (i ∷ j ∷ inputs) s (suc good) end fails is =
    let same : is.0 ≡ fails.0 = one-done is.0 fails.0 (sym is.1.done ∙ fails.1.done) in
    let rest = subst (λ (t : Values). IsStretch m t (j ∷ inputs) good end) same is.2 in
    stretch-tells m P (j ∷ inputs) fails.0 good end fails.2 rest ∙ sym (behind-done m s i j fails.0 inputs fails.1.done)

-- ---- where it begins

module _ (case : Case) (t : Trace) where
  pub start-is : (image : Option (List ℤ)) (start : StretchStart) → BeginsAt t image start → BeginsIn case image t → IsStart case start
  start-is None (from.Params params) at begins = subst (λ (v : List ℤ). AreBetween case.facts.params v) (sym at) begins
  start-is None (from.Image values prev) at begins = absurd at
  start-is (Some image) (from.Params params) at begins = absurd at
  start-is (Some image) (from.Image values prev) at begins = (
    subst (λ (v : List ℤ). AreBetween case.facts.image v) (sym at.0) begins.0,
    subst (λ (mark : Option Bool). MayFollow case.facts mark) (sym at.1) begins.1,
  )

  pub state-is : (image : Option (List ℤ)) (start : StretchStart) → BeginsAt t image start → state_from case start ≡ first_state case image t
  state-is None (from.Params params) at = ap case.machine.start at
  state-is None (from.Image values prev) at = absurd at
  state-is (Some image) (from.Params params) at = absurd at
  state-is (Some image) (from.Image values prev) at =
      ap (λ (v : List ℤ). case.state_at v prev) at.0 ∙ ap (case.state_at image) at.1
