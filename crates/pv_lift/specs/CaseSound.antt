-- That a lift is a case: its ranges are the machine's, and its formulas hold exactly where the machine meets the queries.
use Rattle.std.proofs.Common.{◌≡◌, ◌↔◌, ℕ, ◌≤◌, Bool, true, false, List, [], ◌∷◌, map, Option, Some, None, is_some, refl, sym, ap, subst, ◌∙◌}
use Rattle.std.proofs.Math.Logic.{∥∥₁_elim}
use Rattle.std.proofs.Props.{props}
use Rattle.pv_place.specs.declared.place.Place.{Place}
use Rattle.pv_place.specs.declared.trap.TrapKind.{TrapKind}
use Rattle.pv_place.specs.Ranges.{Range, AreWithin}
use Rattle.pv_cnf.specs.Clause.{Holds}
use Rattle.pv_machine.specs.Machines.{Machine, Values, IsState, IsInput}
use Rattle.pv_mean.specs.Sources.{Source}
use Rattle.pv_mean.specs.Frames.{Image, image_ranges, input_ranges, param_ranges}
use Rattle.pv_mean.specs.Endings.{ended, trapped, over as over_end}
use Rattle.pv_mean.specs.Scans.{Visible, ScanEnd, scan}
use Rattle.pv_pattern.specs.declared.pattern.Pattern.{Pattern}
use Rattle.pv_pattern.specs.Patterns as patterns
use Rattle.pv_pattern.specs.Patterns.{asks_for_goal}
use Rattle.pv_pattern.specs.Failing.{Cause, trap, ends_by}
use Rattle.pv_pattern.specs.Found.{IsPatternOf, is_invariant, is_forbidden, is_implication, is_within, is_between, is_reach}
use Rattle.pv_pattern.specs.Sources.{image_in, prev_in, step_of}
use Rattle.pv_replay.specs.declared.replay.Replay.{Replay}
use Rattle.pv_replay.specs.Replays.{cells_of}
use Rattle.pv_cert.specs.declared.proof.Query.{Query}
use Rattle.pv_cert.specs.declared.proof.Query.TheVariants.{Base, Step as StepQuery}
use Rattle.pv_circuit.specs.declared.start.Start.{Start}
use Rattle.pv_circuit.specs.Circuits.{Circuit, IsCircuit}
use Rattle.pv_circuit.specs.Steps.{Form, Steps}
use Rattle.pv_frames.specs.Queries.{query_clauses}
use Rattle.pv_laws_frames.proofs.ForCallers.{base-stands, step-stands, base-satisfied, step-satisfied}
use Rattle.pv_stretch.specs.Judged.{is_goal}
use Rattle.pv_kind.specs.declared.decision.Limits.{Limits}
use Rattle.pv_kind.specs.declared.told.TheConstants.{LAST_QUERY}
use Rattle.pv_kind.specs.Oracles.{IsAsked, Meets}
use Rattle.pv_queries.specs.Lawful.{lawful_by_circuits}
use Rattle.pv_valid.specs.declared.facts.Facts.{Facts}
use Rattle.pv_valid.specs.Cases as cases
use Rattle.pv_valid.specs.Cases.{range_between, Bounds, IsTrapped, IsSound}
use Rattle.pv_lift.specs.Traces.{MayFollow, state_with}
use Rattle.pv_lift.specs.Lifts.{looks_back_of, IsLifted}
use Rattle.pv_lift.specs.Facts.{bounds_of, facts_of}
use Rattle.pv_lift.specs.Cases.{case_of}
use Rattle.pv_lift.specs.Sound.{HasRanges, ranges_kept, states_are}

-- ---- ranges

ranges_back : (rs : List Range) → map range_between (map bounds_of rs) ≡ rs
ranges_back [] = refl
ranges_back (r ∷ rs) = ap (λ (qs : List Range). r ∷ qs) (ranges_back rs)

pub ranges_are : (bounds : List Bounds) (rs : List Range) → bounds ≡ map bounds_of rs → map range_between bounds ≡ rs
ranges_are bounds rs e = ap (λ (bs : List Bounds). map range_between bs) e ∙ ranges_back rs

may : (facts : Facts) (back : Bool) (prev : Option Bool) → facts.looks_back ≡ back → cases.MayFollow facts prev → MayFollow back prev
may facts back None e h = h
may facts back (Some mark) e h = sym e ∙ h

-- ---- traps of a goal

pub goal_same : (source : Source) (found : Pattern) (said : patterns.Pattern) → IsPatternOf source found said → is_goal found ≡ asks_for_goal said
goal_same source found said (is_invariant a) = refl
goal_same source found said (is_forbidden a) = refl
goal_same source found said (is_implication a b) = refl
goal_same source found said (is_within a b) = refl
goal_same source found said (is_between a b c) = refl
goal_same source found said (is_reach a) = refl

abbrev IsFalse : Bool → Type 0
IsFalse true = ⊥
IsFalse false = Unit {0}

abbrev unless_goal : TrapKind → Place → Bool → Option Cause
unless_goal kind place asks = elim asks [ true ↦ None | false ↦ Some (trap kind place) ]

no_trap : (source : Source) (p : patterns.Pattern) (prev : Option Bool) (begin : Visible) (e : ScanEnd) → asks_for_goal p ≡ true
    → is_some (ends_by source p prev begin e) ≡ true → IsTrapped (step_of source p begin e) → ⊥
no_trap source p prev begin (ended end) goal fails is = is
no_trap source p prev begin (trapped kind place) goal fails is =
    subst IsFalse (ap (λ (asks : Bool). is_some (unless_goal kind place asks)) (sym goal) ∙ fails) tt
no_trap source p prev begin (over_end place) goal fails is = is

-- ---- all of it

module _ (m : Machine) (form : Form) (start : List Start) (c : Circuit) (replay : Replay) (pattern : Pattern) (facts : Facts)
    (lifted : ∥ IsLifted m replay pattern ∥₁) (is : IsCircuit c) (steps : Steps m form start c)
    (limits : Limits) (known : facts ≡ facts_of (cells_of replay) (is_goal pattern) (looks_back_of pattern) limits) where
  of_cells : {T : Type 0} (part : Facts → T) → part facts ≡ part (facts_of (cells_of replay) (is_goal pattern) (looks_back_of pattern) limits)
  of_cells part = ap part known

  has : HasRanges m (cells_of replay) (looks_back_of pattern)
  has = ranges_kept m replay pattern lifted

  states : (image : Image) (prev : Option Bool) → AreWithin (map range_between facts.image) image → cases.MayFollow facts prev
      → IsState m (state_with facts.looks_back image prev)
  states image prev within follows =
      subst (λ (back : Bool). IsState m (state_with back image prev)) (sym (of_cells (λ (f : Facts). f.looks_back)))
      (states_are m (cells_of replay) (looks_back_of pattern) has image prev
      (subst (λ (rs : List Range). AreWithin rs image) (ranges_are facts.image (image_ranges (cells_of replay)) (of_cells (λ (f : Facts). f.image))) within)
      (may facts (looks_back_of pattern) prev (of_cells (λ (f : Facts). f.looks_back)) follows))

  traps : facts.goal ≡ true → (s i : Values) → IsState m s → IsInput m i → m.fails s i ≡ true → IsTrapped (m.step s i) → ⊥
  traps goal s i state input fails stops = ∥∥₁_elim lifted (hlevel props) (λ is.
      let on = subst (λ (rs : List Range). AreWithin rs s) (sym is.same.state) state in
      let by = subst (λ (rs : List Range). AreWithin rs i) (sym is.same.input) input in
      no_trap is.source is.said (prev_in is.source s) (scan is.source (image_in is.source s) i).beginning
      (scan is.source (image_in is.source s) i).end
      (sym (goal_same is.source pattern is.said is.is_pattern) ∙ (sym (of_cells (λ (f : Facts). f.goal)) ∙ goal))
      (is.same.fails s i on by ∙ fails)
      (subst IsTrapped (sym (is.same.step s i on by)) stops))

  met : (q : Query) → IsAsked q → Meets m q ↔ ((values : ℕ → Bool) × Holds values (query_clauses c start q))
  met (Base k) asked = (
    λ b. let some = base-satisfied m form start c k is steps b in (some.values, some.holds),
    λ h. (base-stands m form start c k h.0 is steps asked h.1).meets,
  )
  met (StepQuery k) asked = (
    λ b. let some = step-satisfied m form start c k is steps b in (some.values, some.holds),
    λ h. (step-stands m form start c k h.0 is steps asked h.1).meets,
  )

  pub case_is_sound : facts.depth ≤ LAST_QUERY → IsSound (case_of m c start facts)
  case_is_sound depth = record {
    lawful = lawful_by_circuits m form start c is steps;
    params = ranges_are facts.params (param_ranges (cells_of replay)) (of_cells (λ (f : Facts). f.params)) ∙ sym has.params;
    input = ranges_are facts.input (input_ranges (cells_of replay)) (of_cells (λ (f : Facts). f.input)) ∙ sym has.input;
    states = states;
    traps = traps;
    depth = depth;
    met = met;
  }
