-- How the last scan of a run ends: of machines that are the same, and of the source's own.
use Rattle.std.proofs.Common.{◌≡◌, suc, Bool, List, [], ◌∷◌, length, Option, Some, None, refl, ap, sym, subst, ◌∙◌}
use Rattle.std.specs.List.{AllByRecursion}
use Rattle.std.proofs.lemmas.List.{length-map}
use Rattle.pv_place.specs.Ranges.{Range, AreWithin}
use Rattle.pv_machine.specs.Machines.{Machine, Values, Step, IsLawful, IsState, IsInput}
use Rattle.pv_machine.specs.Queries.{FailsAtLast}
use Rattle.pv_machine.specs.Same.{IsSame}
use Rattle.pv_machine.specs.Joining.{same_back}
use Rattle.pv_mean.specs.Sources.{Source}
use Rattle.pv_mean.specs.Frames.{Image, Input, Params, image_len, image_ranges, range_of_cell, stored_cells}
use Rattle.pv_mean.specs.Runs.{start, run, run_from}
use Rattle.pv_mean.proofs.ForCallers.{length-start_image}
use Rattle.pv_pattern.specs.Patterns.{Pattern}
use Rattle.pv_pattern.specs.Failing.{Cause, FailsFirst, FailsFirstFrom, pattern, trap, over}
use Rattle.pv_pattern.specs.Sources.{state_of, machine_of}
use Rattle.pv_pattern.proofs.ForCallers.{fails_first}
use Rattle.pv_claims.specs.declared.trace.Ending.{Ending}
use Rattle.pv_stretch.specs.Stretches.{ending_of as ending_by}
use Rattle.pv_stretch.specs.Correct.{cause_of}
use Rattle.pv_valid.specs.Shown.{ending_of, FailsAtLastAs, last_ending}
use Rattle.pv_valid.proofs.ForCallers.{behind-done}
use Rattle.pv_command_verdict.proofs.Endings.{ends_last}

-- ---- one machine

-- the scans fail at their last, and this is how it ends
pub record EndsAs (m : Machine) (EndsSo : Ending → Type 0) (s : Values) (inputs : List Values) : Type 0 where
  pub told : Ending
  pub last : last_ending m s inputs ≡ Some told
  pub so : EndsSo told
  pub fails : FailsAtLastAs m (λ other. other ≡ told) s inputs

pub ends_as : (m : Machine) (EndsSo : Ending → Type 0) (s : Values) (inputs : List Values) → FailsAtLastAs m EndsSo s inputs
    → EndsAs m EndsSo s inputs
ends_as m EndsSo s [] f = absurd f
ends_as m EndsSo s (i ∷ []) f = record { told = ending_of (m.step s i); last = refl; so = f.1; fails = (f.0, refl) }
ends_as m EndsSo s (i ∷ j ∷ inputs) f =
    let later = ends_as m EndsSo f.0 (j ∷ inputs) f.2 in
    record {
      told = later.told;
      last = behind-done m s i j f.0 inputs (f.1).done ∙ later.last;
      so = later.so;
      fails = (f.0, f.1, later.fails);
    }

pub as_any : (m : Machine) (EndsSo : Ending → Type 0) (s : Values) (inputs : List Values) → FailsAtLastAs m EndsSo s inputs
    → FailsAtLast m s inputs
as_any m EndsSo s [] f = f
as_any m EndsSo s (i ∷ []) f = f.0
as_any m EndsSo s (i ∷ j ∷ inputs) f = (f.0, f.1, as_any m EndsSo f.0 (j ∷ inputs) f.2)

-- ---- two machines that are the same

as_too : (m n : Machine) (EndsSo : Ending → Type 0) (s : Values) (inputs : List Values) → IsLawful m → IsSame m n → IsState m s
    → AllByRecursion (IsInput m) inputs → FailsAtLastAs m EndsSo s inputs → FailsAtLastAs n EndsSo s inputs
as_too m n EndsSo s [] law same is all f = f
as_too m n EndsSo s (i ∷ []) law same is all f =
    (sym (same.fails s i is all.0) ∙ f.0, subst (λ (x : Step). EndsSo (ending_of x)) (same.step s i is all.0) f.1)
as_too m n EndsSo s (i ∷ j ∷ inputs) law same is all f = (
  f.0,
  record { done = sym (same.step s i is all.0) ∙ (f.1).done; keeps = sym (same.fails s i is all.0) ∙ (f.1).keeps },
  as_too m n EndsSo f.0 (j ∷ inputs) law same (law.steps s i f.0 is all.0 (f.1).done) all.1 f.2,
)

-- ---- the source's own machine

cause_back : (cause : Cause) → cause_of (ending_by cause) ≡ cause
cause_back pattern = refl
cause_back (trap kind place) = refl
cause_back (over place) = refl

same_some : (a b : Ending) → Some a ≡ Some b → a ≡ b
same_some a b e = cc

within_length : (rs : List Range) (vs : Values) → AreWithin rs vs → length vs ≡ length rs
within_length [] [] h = refl
within_length [] (v ∷ vs) h = absurd h
within_length (r ∷ rs) [] h = absurd h
within_length (r ∷ rs) (v ∷ vs) h = ap suc (within_length rs vs h.1)

pub image_fits : (source : Source) (image : Image) → AreWithin (image_ranges source.cells) image → length image ≡ image_len source.cells
image_fits source image within =
    within_length (image_ranges source.cells) image within ∙ length-map (stored_cells source.cells) range_of_cell

-- from an image behind a mark the last scan is the first that fails, and it ends as its machine tells
pub first_by : (source : Source) (p : Pattern) (prev : Option Bool) (image : Image) (inputs : List Input) (told : Ending)
    → length image ≡ image_len source.cells
    → FailsAtLastAs (machine_of source p) (λ other. other ≡ told) (state_of p image prev) inputs
    → FailsFirstFrom source p prev (run_from source image inputs) (length inputs) (cause_of told)
first_by source p prev image inputs told fits f =
    let own = machine_of source p in
    let state = state_of p image prev in
    let first = fails_first source p prev image inputs fits (as_any own (λ other. other ≡ told) state inputs f) in
    let here = ends_as own (λ other. other ≡ told) state inputs f in
    let there = ends_last source p prev image inputs (length inputs) first.0 fits refl first.1 in
    let one : ending_by first.0 ≡ here.told = same_some (ending_by first.0) here.told (sym there ∙ here.last) in
    let cause : first.0 ≡ cause_of told = sym (cause_back first.0) ∙ ap cause_of (one ∙ here.so) in
    subst (λ (c : Cause). FailsFirstFrom source p prev (run_from source image inputs) (length inputs) c) cause first.1

module _ (source : Source) (p : Pattern) (m : Machine) (law : IsLawful m) (same : IsSame (machine_of source p) m) where
  back_again : IsSame m (machine_of source p)
  back_again = same_back (machine_of source p) m same

  -- the same, of a machine that does the same
  pub first_from : (prev : Option Bool) (image : Image) (inputs : List Input) (EndsSo : Ending → Type 0)
      → length image ≡ image_len source.cells → IsState m (state_of p image prev) → AllByRecursion (IsInput m) inputs
      → (f : FailsAtLastAs m EndsSo (state_of p image prev) inputs)
      → FailsFirstFrom source p prev (run_from source image inputs) (length inputs)
      (cause_of (ends_as m EndsSo (state_of p image prev) inputs f).told)
  first_from prev image inputs EndsSo fits is all f =
      let here = ends_as m EndsSo (state_of p image prev) inputs f in
      first_by source p prev image inputs here.told fits
      (as_too m (machine_of source p) (λ other. other ≡ here.told) (state_of p image prev) inputs law back_again is all here.fails)

  pub first_of_run : (params : Params) (inputs : List Input) (EndsSo : Ending → Type 0)
      → AreWithin m.params params → AllByRecursion (IsInput m) inputs
      → (f : FailsAtLastAs m EndsSo (m.start params) inputs)
      → FailsFirst source p (run source params inputs) (length inputs) (cause_of (ends_as m EndsSo (m.start params) inputs f).told)
  first_of_run params inputs EndsSo are all f =
      let here = ends_as m EndsSo (m.start params) inputs f in
      let own = machine_of source p in
      let over = as_too m own (λ other. other ≡ here.told) (m.start params) inputs law back_again (law.starts params are) all here.fails in
      let own_start : own.start params ≡ m.start params =
      same.start params (subst (λ (rs : List Range). AreWithin rs params) (sym same.params) are) in
      first_by source p None (start source params) inputs here.told (length-start_image source.cells params)
      (subst (λ (s : Values). FailsAtLastAs own (λ other. other ≡ here.told) s inputs) (sym own_start) over)
