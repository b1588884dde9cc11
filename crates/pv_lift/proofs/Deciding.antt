-- What the ends of a decision over a machine say of the source whose machine is the same.
use Rattle.std.proofs.Common.{◌≡◌, ℕ, ◌-◌, ◌≤◌, List, length, None, sym, ◌∙◌, subst, arith}
use Rattle.std.specs.List.{AllByRecursion}
use Rattle.std.proofs.lemmas.List.{length-map}
use Rattle.pv_place.specs.Ranges.{Range, AreWithin}
use Rattle.pv_machine.specs.Machines.{Machine, Values, IsInput, AreParams, IsLawful}
use Rattle.pv_machine.specs.Queries.{MeetsBase, FailsAtLast, NoneFails as MachineNoneFails}
use Rattle.pv_machine.specs.Same.{IsSame}
use Rattle.pv_machine.specs.Joining.{same_back}
use Rattle.pv_machine.proofs.ForCallers.{lawful_too, same_base}
use Rattle.pv_mean.specs.Sources.{Source}
use Rattle.pv_mean.specs.Frames.{Input, Params, stored_cells, image_len, image_ranges, input_ranges, param_ranges, range_of_cell}
use Rattle.pv_mean.specs.Runs.{start, run}
use Rattle.pv_mean.proofs.ForCallers.{length-start_image}
use Rattle.pv_pattern.specs.Patterns.{Pattern}
use Rattle.pv_pattern.specs.Failing.{NoneFails, FailsFirst}
use Rattle.pv_pattern.specs.Sources.{looks_back, state_of, machine_of, IsSatisfied}
use Rattle.pv_pattern.proofs.ForCallers.{runs_from, fails_first}
use Rattle.pv_cert.specs.declared.proof.Proof.{Proof}
use Rattle.pv_cert.specs.declared.proof.Query.TheVariants.{Base, Step}
use Rattle.pv_claims.specs.declared.trace.Trace.{Trace}
use Rattle.pv_circuit.specs.declared.start.Start.{Start}
use Rattle.pv_circuit.specs.Circuits.{Circuit}
use Rattle.pv_stretch.proofs.ForCallers.{from_image}
use Rattle.pv_kind.specs.declared.decision.End.{End}
use Rattle.pv_kind.specs.declared.decision.End.TheVariants.{Proved, Failed, Depth, SpentLemmas, SpentRegion}
use Rattle.pv_kind.specs.declared.decision.Limits.{Limits}
use Rattle.pv_kind.specs.Refinements.{Stage}
use Rattle.pv_kind.specs.Decisions.{Decides}
use Rattle.pv_lift.specs.Decided.{FailsBy, GoesOnBy, SaysOf}
use Rattle.pv_lift.specs.Stages.{encoding_of}
use Rattle.pv_lift.specs.Sound.{HasRanges, states_are}
use Rattle.pv_lift.specs.Traces.{Shows, state_with}
use Rattle.pv_lift.proofs.Images.{within-length}
use Rattle.pv_lift.proofs.Failing.{fails_too}

module _ (source : Source) (p : Pattern) (m : Machine) (law : IsLawful m) (same : IsSame (machine_of source p) m) where
  abbrev own : Machine
  own = machine_of source p

  back_again : IsSame m own
  back_again = same_back own m same

  own_law : IsLawful own
  own_law = lawful_too m own law back_again

  has : HasRanges m source.cells (looks_back p)
  has = record { state = sym same.state; input = sym same.input; params = sym same.params }

  inputs_in : (inputs : List Input) → AllByRecursion (AreWithin (input_ranges source.cells)) inputs → AllByRecursion (IsInput m) inputs
  inputs_in inputs are = subst (λ (rs : List Range). AllByRecursion (AreWithin rs) inputs) same.input are

  -- where base is met for no number up to n, no run fails at one of its first n scans
  abbrev Early : Type 0
  Early = (n : ℕ) → ((j : ℕ) → 1 ≤ j → j ≤ n → MeetsBase own j → ⊥)
      → (params : Values) (inputs : List Values) → AreParams own params → AllByRecursion (IsInput own) inputs → length inputs ≤ n
      → MachineNoneFails own (own.start params) inputs

  none_to : Early → (n : ℕ) → ((j : ℕ) → 1 ≤ j → j ≤ n → MeetsBase m j → ⊥)
      → (params : Params) (inputs : List Input) → AreWithin (param_ranges source.cells) params
      → AllByRecursion (AreWithin (input_ranges source.cells)) inputs → length inputs ≤ n → NoneFails source p (run source params inputs)
  none_to early n refuted params inputs are all few =
      runs_from source p None (start source params) inputs (length-start_image source.cells params)
      (early n (λ j one le base. refuted j one le ((same_base own m j own_law same).0 base)) params inputs are all few)

  fails_by : (n : ℕ) (t : Trace) → Early → ((j : ℕ) → 1 ≤ j → j ≤ n - 1 → MeetsBase m j → ⊥) → Shows m source.cells (looks_back p) (Base n) t → FailsBy source p n t
  fails_by n t early refuted shows =
      let in_m : AreParams m t.params = subst (λ (rs : List Range). AreWithin rs t.params) same.params shows.0.params in
      let of_m : FailsAtLast own (m.start t.params) t.inputs =
      fails_too m own law back_again (m.start t.params) (law.starts t.params in_m) t.inputs (inputs_in t.inputs shows.0.inputs) shows.1 in
      let fails : FailsAtLast own (own.start t.params) t.inputs =
      subst (λ (s : Values). FailsAtLast own s t.inputs) (sym (same.start t.params shows.0.params)) of_m in
      let first = fails_first source p None (start source t.params) t.inputs (length-start_image source.cells t.params) fails in
      record {
        fits = shows.0;
        cause = first.0;
        fails = subst (λ (k : ℕ). FailsFirst source p (run source t.params t.inputs) k first.0) shows.0.form.scans first.1;
        earlier = λ params inputs are all few. none_to early (n - 1) refuted params inputs are all (omega (arith, few));
      }

  goes_on : (k : ℕ) (t : Trace) → Early → ((j : ℕ) → 1 ≤ j → j ≤ k → MeetsBase m j → ⊥) → Shows m source.cells (looks_back p) (Step k) t → GoesOnBy source p k t
  goes_on k t early refuted shows =
      let is_state = states_are m source.cells (looks_back p) has shows.0 t.prev shows.1.values shows.1.mark in
      let fails : FailsAtLast own (state_of p shows.0 t.prev) t.inputs =
      fails_too m own law back_again (state_with (looks_back p) shows.0 t.prev) is_state t.inputs (inputs_in t.inputs shows.1.inputs) shows.2 in
      let long : length shows.0 ≡ image_len source.cells =
      within-length (image_ranges source.cells) shows.0 shows.1.values ∙ length-map (stored_cells source.cells) range_of_cell in
      record {
        image = shows.0;
        fits = shows.1;
        fails = (from_image source p shows.0 t.prev t.inputs long).0 fails;
        earlier = none_to early k refuted;
      }

  pub says : Early → (((n : ℕ) → MeetsBase own n → ⊥) → IsSatisfied source p)
      → (c : Circuit) (start : List Start) (first last : Stage) (limits : Limits) (proofs : List Proof) (end : End)
      → Decides m (encoding_of m c start source.cells (looks_back p)) first last limits proofs end → SaysOf source p limits end
  says early satisfied c start first last limits proofs (Proved k) d =
      (d.within, satisfied (λ n base. d.holds n ((same_base own m n own_law same).0 base)))
  says early satisfied c start first last limits proofs (Failed n t) d = (d.within.1, fails_by n t early d.turn.refuted d.shown)
  says early satisfied c start first last limits proofs (Depth t) d = goes_on limits.depth t early d.turn.refuted d.shown
  says early satisfied c start first last limits proofs SpentLemmas d = tt
  says early satisfied c start first last limits proofs (SpentRegion need next) d = tt
