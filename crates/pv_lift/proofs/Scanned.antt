-- A stretch of a source's scans is one of the machine that is the same. The source is known to be there, but not which it is, so a
-- stretch of a machine is said by an equation first.
use Rattle.std.proofs.Common.{◌≡◌, ℕ, ◌+◌, suc, Bool, true, false, List, [], ◌∷◌, length, Option, Some, None, is_some, refl, sym, ◌∙◌, ap, subst, arith}
use Rattle.std.specs.List.{AllByRecursion}
use Rattle.std.proofs.Math.Logic.{∥∥₁_elim}
use Rattle.std.proofs.Props.{props}
use Rattle.std.proofs.lemmas.List.{length-map}
use Rattle.pv_place.specs.declared.place.Place.{Place}
use Rattle.pv_place.specs.declared.trap.TrapKind.{TrapKind}
use Rattle.pv_place.specs.Ranges.{Range, AreWithin}
use Rattle.pv_machine.specs.Machines.{Machine, Values, Step, done, trap, over, IsState, IsInput, AreParams, IsLawful}
use Rattle.pv_machine.specs.Same.{IsSame}
use Rattle.pv_mean.specs.declared.cell.Cell.{Cell}
use Rattle.pv_mean.specs.Sources.{Source}
use Rattle.pv_mean.specs.Frames.{Image, Input, image_len, image_ranges, input_ranges, stored_cells, range_of_cell}
use Rattle.pv_mean.specs.Endings.{ended, trapped, over as over_end}
use Rattle.pv_mean.specs.Scans.{Visible, ScanEnd, scan, next_image}
use Rattle.pv_mean.specs.Runs.{after, run_from}
use Rattle.pv_mean.proofs.ForCallers.{length-image_after, length-start_image}
use Rattle.pv_pattern.specs.Patterns.{Pattern, judge, mark, asks_for_goal}
use Rattle.pv_pattern.specs.declared.pattern.Pattern.{Pattern as Found}
use Rattle.pv_pattern.specs.Failing.{Cause, pattern, trap as trap_cause, is_failure, ends_by}
use Rattle.pv_pattern.specs.Found.{IsPatternOf}
use Rattle.pv_pattern.specs.Sources.{state_of, step_of, machine_of}
use Rattle.pv_replay.specs.declared.replay.Replay.{Replay}
use Rattle.pv_replay.specs.Replays.{IsReplayOf, cells_of}
use Rattle.pv_stretch.specs.declared.ends.Stretch.{Stretch}
use Rattle.pv_stretch.specs.declared.ends.StretchStart.{StretchStart}
use Rattle.pv_stretch.specs.declared.ends.StretchStart.TheVariants as from
use Rattle.pv_stretch.specs.declared.ends.StretchEnd.{StretchEnd}
use Rattle.pv_stretch.specs.declared.ends.StretchEnd.TheVariants.{Fails, Stopped}
use Rattle.pv_stretch.specs.Stretches.{image_at, mark_at, HasValues, fails_or, last_or, one_more, stretch_of}
use Rattle.pv_stretch.proofs.ForCallers.{step_is, fails_is}
use Rattle.pv_stretch.specs.Judged.{is_goal}
use Rattle.pv_circuit.specs.declared.start.Start.{Start}
use Rattle.pv_circuit.specs.Circuits.{Circuit}
use Rattle.pv_kind.specs.declared.decision.Limits.{Limits}
use Rattle.pv_valid.specs.declared.facts.Facts.{Facts}
use Rattle.pv_valid.specs.Cases.{Case, AreBetween, IsSound}
use Rattle.pv_valid.specs.Shown.{ending_of, IsStretch}
use Rattle.pv_valid.specs.Starts.{IsStart, state_from}
use Rattle.pv_valid.specs.Validity.{AreInputs}
use Rattle.pv_lift.specs.Lifts.{looks_back_of, IsLifted}
use Rattle.pv_lift.specs.Traces.{state_with}
use Rattle.pv_lift.specs.Sound.{looks_same}
use Rattle.pv_lift.specs.Facts.{facts_of}
use Rattle.pv_lift.specs.Cases.{case_of}
use Rattle.pv_lift.specs.CaseSound.{ranges_are}
use Rattle.pv_lift.proofs.Images.{within-length}

-- ---- the stretch of a machine, if no scan goes over without failing

abbrev more_of : Option Stretch → Option Stretch
more_of None = None
more_of (Some later) = Some (one_more later)

abbrev ends_with : StretchEnd → Option Stretch
ends_with end = Some (record { good = 0; ending = Some end })

-- by whether the scan fails, and by its step
abbrev stretch_by : Bool → Step → (Values → Option Stretch) → Option Stretch
stretch_by true s rest = ends_with (Fails (ending_of s))
stretch_by false (done t) rest = more_of (rest t)
stretch_by false (trap kind place) rest = ends_with (Stopped kind place)
stretch_by false (over place) rest = None

pub stretch_in : Machine → Values → List Values → Option Stretch
stretch_in m s [] = Some (record { good = 0; ending = None })
stretch_in m s (i ∷ inputs) = stretch_by (m.fails s i) (m.step s i) (λ t. stretch_in m t inputs)

-- ---- it is a stretch

abbrev or_this : Stretch → Option Stretch → Stretch
or_this a None = a
or_this a (Some x) = x

some-is : (a b : Stretch) → ◌≡◌ {A = Option Stretch} (Some a) (Some b) → a ≡ b
some-is a b e = ap (λ (o : Option Stretch). or_this a o) e

module _ (m : Machine) where
  abbrev on : Values → List Values → Stretch → Type 0
  on s inputs st = IsStretch m s inputs st.good st.ending

  one-more : (s i t : Values) (inputs : List Values) (later st : Stretch) → m.fails s i ≡ false → m.step s i ≡ done t → st ≡ one_more later
      → on t inputs later → on s (i ∷ inputs) st
  one-more s i t inputs later st good step is l =
      let e : suc later.good ≡ later.good + 1 = omega arith in
      subst (λ (x : Stretch). IsStretch m s (i ∷ inputs) x.good x.ending) (sym is)
      (subst (λ (n : ℕ). IsStretch m s (i ∷ inputs) n later.ending) e (t, record { done = step; keeps = good }, l))

  by-step : (s i : Values) (inputs : List Values) (st : Stretch)
      → ((t : Values) (x : Stretch) → Some x ≡ stretch_in m t inputs → on t inputs x)
      → (b : Bool) (step : Step) → m.fails s i ≡ b → m.step s i ≡ step → Some st ≡ stretch_by b step (λ t. stretch_in m t inputs)
      → on s (i ∷ inputs) st
  by-step s i inputs st rest true step fails at e =
      let is = some-is st (record { good = 0; ending = Some (Fails (ending_of step)) }) e in
      subst (λ (x : Stretch). IsStretch m s (i ∷ inputs) x.good x.ending) (sym is) (fails, ap ending_of (sym at))
  by-step s i inputs st rest false (done t) fails at e = by-rest (stretch_in m t inputs) refl e
    where
      by-rest : (o : Option Stretch) → stretch_in m t inputs ≡ o → Some st ≡ more_of o → on s (i ∷ inputs) st
      by-rest None is f = absurd (let no : ◌≡◌ {A = Option Stretch} (Some st) None = f in cc)
      by-rest (Some later) is f = one-more s i t inputs later st fails at (some-is st (one_more later) f) (rest t later (sym is))
  by-step s i inputs st rest false (trap kind place) fails at e =
      let is = some-is st (record { good = 0; ending = Some (Stopped kind place) }) e in
      subst (λ (x : Stretch). IsStretch m s (i ∷ inputs) x.good x.ending) (sym is) (fails, at)
  by-step s i inputs st rest false (over place) fails at e = absurd (let no : ◌≡◌ {A = Option Stretch} (Some st) None = e in cc)

  pub in-is : (inputs : List Values) (s : Values) (st : Stretch) → Some st ≡ stretch_in m s inputs → IsStretch m s inputs st.good st.ending
  unfolding stretch_in
  in-is [] s st e =
      subst (λ (x : Stretch). IsStretch m s [] x.good x.ending) (sym (some-is st (record { good = 0; ending = None }) e)) tt
  in-is (i ∷ inputs) s st e =
      by-step s i inputs st (λ t x more. in-is inputs t x more) (m.fails s i) (m.step s i) refl refl e

-- ---- the source's scans are it

-- why a scan fails that is done, and one that traps
abbrev failing_by : Bool → Option Cause
failing_by b = elim b [ true ↦ Some pattern | false ↦ None ]

abbrev trapping_by : TrapKind → Place → Bool → Option Cause
trapping_by kind place b = elim b [ true ↦ None | false ↦ Some (trap_cause kind place) ]

module _ (source : Source) (p : Pattern) (m : Machine) (law : IsLawful m) (same : IsSame (machine_of source p) m) where
  abbrev own : Machine
  own = machine_of source p

  abbrev Fits : Image → Type 0
  Fits image = length image ≡ image_len source.cells

  -- one scan, by how it ends
  one-scan : (s i : Values) (prev : Option Bool) (begin : Visible) (end : ScanEnd) (inputs : List Input) → m.step s i ≡ step_of source p begin end
      → ((next : Image) (left : Bool) → Fits next → m.step s i ≡ done (state_of p next (Some left))
      → Some (stretch_of source p (Some left) (run_from source next inputs)) ≡ stretch_in m (state_of p next (Some left)) inputs)
      → Some (stretch_of source p prev (record { beginning = begin; end = end } ∷ after source begin end (λ next. run_from source next inputs)))
      ≡ stretch_by (is_some (ends_by source p prev begin end)) (step_of source p begin end) (λ t. stretch_in m t inputs)
  one-scan s i prev begin (ended values) inputs at rest = by-judged (is_failure p (judge source p prev begin values))
    where
      by-judged : (b : Bool) → Some (last_or (fails_or (failing_by b) None) (stretch_of source p (Some (mark source p values)) (run_from source (next_image source begin values) inputs)))
          ≡ stretch_by (is_some (failing_by b)) (step_of source p begin (ended values)) (λ t. stretch_in m t inputs)
      by-judged true = refl
      by-judged false = ap more_of (rest (next_image source begin values) (mark source p values) (length-image_after source.cells begin values) at)
  one-scan s i prev begin (trapped kind place) inputs at rest = by-goal (asks_for_goal p)
    where
      by-goal : (b : Bool) → Some (last_or (fails_or (trapping_by kind place b) (Some (Stopped kind place))) (stretch_of source p None []))
          ≡ stretch_by (is_some (trapping_by kind place b)) (trap kind place) (λ t. stretch_in m t inputs)
      by-goal true = refl
      by-goal false = refl
  one-scan s i prev begin (over_end place) inputs at rest = refl

  pub told-in : (inputs : List Input) (image : Image) (prev : Option Bool) → Fits image → IsState m (state_of p image prev)
      → AllByRecursion (IsInput m) inputs
      → Some (stretch_of source p prev (run_from source image inputs)) ≡ stretch_in m (state_of p image prev) inputs
  unfolding stretch_in
  told-in [] image prev fits is are = refl
  told-in (i ∷ inputs) image prev fits is are =
      let s : Values = state_of p image prev in
      let begin : Visible = (scan source image i).beginning in
      let end : ScanEnd = (scan source image i).end in
      let on_own : IsState own s = subst (λ (rs : List Range). AreWithin rs s) (sym same.state) is in
      let by_own : IsInput own i = subst (λ (rs : List Range). AreWithin rs i) (sym same.input) are.0 in
      let step : m.step s i ≡ step_of source p begin end = sym (same.step s i on_own by_own) ∙ step_is source p image prev i fits in
      let fails : m.fails s i ≡ is_some (ends_by source p prev begin end) = sym (same.fails s i on_own by_own) ∙ fails_is source p image prev i fits in
      one-scan s i prev begin end inputs step
      (λ next left fits_next at. told-in inputs next (Some left) fits_next (law.steps s i (state_of p next (Some left)) is are.0 at) are.1)
      ∙ sym (ap (λ (b : Bool). stretch_by b (m.step s i) (λ t. stretch_in m t inputs)) fails
      ∙ ap (λ (st : Step). stretch_by (is_some (ends_by source p prev begin end)) st (λ t. stretch_in m t inputs)) step)

-- ---- from where a case's stretch begins

module _ (m : Machine) (c : Circuit) (begins : List Start) (replay : Replay) (found : Found) (facts : Facts) (lifted : ∥ IsLifted m replay found ∥₁)
    (sound : IsSound (case_of m c begins facts)) (limits : Limits)
    (known : facts ≡ facts_of (cells_of replay) (is_goal found) (looks_back_of found) limits) where
  abbrev case : Case
  case = case_of m c begins facts

  are-params : (params : Values) → AreBetween facts.params params → AreParams m params
  are-params params between = subst (λ (rs : List Range). AreWithin rs params) sound.params between

  inputs-are : (inputs : List Values) → AreInputs case inputs → AllByRecursion (IsInput m) inputs
  inputs-are inputs are = subst (λ (rs : List Range). AllByRecursion (AreWithin rs) inputs) sound.input are

  is-state : (at : StretchStart) → IsStart case at → IsState m (state_from case at)
  is-state (from.Params params) start_is = sound.lawful.starts params.now (are-params params.now start_is)
  is-state (from.Image image prev) start_is = sound.states image.now prev start_is.0 start_is.1

  module _ (is : IsLifted m replay found) where
    image-within : (image : Image) → AreBetween facts.image image → AreWithin (image_ranges is.source.cells) image
    image-within image between =
        subst (λ (cs : List Cell). AreWithin (image_ranges cs) image) (sym is.is_replay.cells)
        (subst (λ (rs : List Range). AreWithin rs image)
        (ranges_are facts.image (image_ranges (cells_of replay)) (ap (λ (f : Facts). f.image) known)) between)

    has-values : (at : StretchStart) → IsStart case at → HasValues is.source at
    has-values (from.Params params) start_is =
        subst (λ (rs : List Range). AreWithin rs params.now) (sym is.same.params) (are-params params.now start_is)
    has-values (from.Image image prev) start_is = image-within image.now start_is.0

    fits : (at : StretchStart) → IsStart case at → length (image_at is.source at) ≡ image_len is.source.cells
    fits (from.Params params) start_is = length-start_image is.source.cells params.now
    fits (from.Image image prev) start_is =
        within-length (image_ranges is.source.cells) image.now (image-within image.now start_is.0)
        ∙ length-map (stored_cells is.source.cells) range_of_cell

    same-state : (at : StretchStart) → IsStart case at → state_from case at ≡ state_of is.said (image_at is.source at) (mark_at at)
    same-state (from.Params params) start_is = sym (is.same.start params.now (has-values (from.Params params) start_is))
    same-state (from.Image image prev) start_is =
        ap (λ (b : Bool). state_with b image.now prev)
        (ap (λ (f : Facts). f.looks_back) known ∙ looks_same is.source found is.said is.is_pattern)

    told : (at : StretchStart) (inputs : List Values) (st : Stretch) → IsStart case at → AreInputs case inputs
        → st ≡ stretch_of is.source is.said (mark_at at) (run_from is.source (image_at is.source at) inputs)
        → Some st ≡ stretch_in m (state_from case at) inputs
    told at inputs st start_is are e =
        let state = same-state at start_is in
        ap (λ (x : Stretch). Some x) e
        ∙ (told-in is.source is.said m sound.lawful is.same inputs (image_at is.source at) (mark_at at) (fits at start_is)
        (subst (λ (s : Values). IsState m s) state (is-state at start_is)) (inputs-are inputs are)
        ∙ ap (λ (s : Values). stretch_in m s inputs) (sym state))

  -- what a replay tells of the source is a stretch of the machine
  pub stretch-is : (at : StretchStart) (inputs : List Values) (st : Stretch)
      → ((source : Source) (p : Pattern) → IsReplayOf source replay → IsPatternOf source found p → HasValues source at
      → AllByRecursion (AreWithin (input_ranges source.cells)) inputs
      → st ≡ stretch_of source p (mark_at at) (run_from source (image_at source at) inputs))
      → IsStart case at → AreInputs case inputs → IsStretch m (state_from case at) inputs st.good st.ending
  stretch-is at inputs st e start_is are =
      in-is m inputs (state_from case at) st (∥∥₁_elim lifted (hlevel props) (λ is.
      told is at inputs st start_is are (e is.source is.said is.is_replay is.is_pattern (has-values is at start_is)
      (subst (λ (rs : List Range). AllByRecursion (AreWithin rs) inputs) (sym is.same.input) (inputs-are inputs are)))))

-- ---- a replay that stays one of its source

pub lifted-on : (m : Machine) (before after_it : Replay) (found : Found) → ((source : Source) → IsReplayOf source before → IsReplayOf source after_it)
    → ∥ IsLifted m before found ∥₁ → ∥ IsLifted m after_it found ∥₁
lifted-on m before after_it found stays h = ∥∥₁_elim h (hlevel props) (λ is. ∣ record {
  source = is.source;
  said = is.said;
  is_replay = stays is.source is.is_replay;
  is_pattern = is.is_pattern;
  same = is.same;
} ∣₁)
