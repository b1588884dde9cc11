-- What files hold of the form is a case by which certificates are judged: its Boolean program does what is run, by its circuit.
use Rattle.std.proofs.Common.{◌≡◌, ◌↔◌, ℕ, ◌≤◌, Bool, List, [], ◌∷◌, map, Option, Some, None, refl, sym, ap, subst, ◌∙◌}
use Rattle.pv_place.specs.Ranges.{Range, AreWithin}
use Rattle.pv_cnf.specs.Clause.{Holds}
use Rattle.pv_machine.specs.Machines.{Machine, Values, IsState, IsLawful}
use Rattle.pv_machine.specs.Same.{IsSame}
use Rattle.pv_machine.proofs.ForCallers.{lawful_too}
use Rattle.pv_mean.specs.Sources.{Source}
use Rattle.pv_mean.specs.Frames.{Image, image_ranges, input_ranges, param_ranges}
use Rattle.pv_pattern.specs.Patterns.{Pattern, asks_for_goal}
use Rattle.pv_pattern.specs.Sources.{looks_back, machine_of}
use Rattle.pv_case.specs.declared.case.Limits.{Limits}
use Rattle.pv_cert.specs.declared.proof.Query.{Query}
use Rattle.pv_cert.specs.declared.proof.Query.TheVariants.{Base, Step}
use Rattle.pv_circuit.specs.declared.start.Start.{Start}
use Rattle.pv_circuit.specs.Circuits.{Circuit, IsCircuit}
use Rattle.pv_circuit.specs.Steps.{Form, Steps}
use Rattle.pv_frames.specs.Queries.{query_clauses}
use Rattle.pv_laws_frames.proofs.ForCallers.{base-stands, step-stands, base-satisfied, step-satisfied}
use Rattle.pv_kind.specs.declared.told.TheConstants.{LAST_QUERY}
use Rattle.pv_kind.specs.Oracles.{IsAsked, Meets}
use Rattle.pv_valid.specs.declared.facts.Facts.{Facts}
use Rattle.pv_valid.specs.Cases as cases
use Rattle.pv_valid.specs.Cases.{Case, range_between, IsTrapped, IsSound}
use Rattle.pv_lift.specs.Traces.{MayFollow, state_with}
use Rattle.pv_lift.specs.Facts.{bounds_of, facts_of}
use Rattle.pv_lift.specs.Cases.{case_of}
use Rattle.pv_lift.specs.Sound.{HasRanges, states_are}
use Rattle.pv_command_verdict.specs.Cases.{limits_by}

pub back_to : (rs : List Range) → map range_between (map bounds_of rs) ≡ rs
back_to [] = refl
back_to (r ∷ rs) = ap (λ (qs : List Range). r ∷ qs) (back_to rs)

pub has_ranges : (source : Source) (p : Pattern) (m : Machine) → IsSame (machine_of source p) m → HasRanges m source.cells (looks_back p)
has_ranges source p m same = record { state = sym same.state; input = sym same.input; params = sym same.params }

-- no step traps
abbrev pub NeverTraps : Machine → Type 0
NeverTraps m = (s i : Values) → IsTrapped (m.step s i) → ⊥

module _ (source : Source) (p : Pattern) (limits : Limits) (m : Machine) (form : Form) (c : Circuit) (start : List Start)
    (law : IsLawful (machine_of source p)) (same : IsSame (machine_of source p) m) (is : IsCircuit c) (steps : Steps m form start c) where
  abbrev facts : Facts
  facts = facts_of source.cells (asks_for_goal p) (looks_back p) (limits_by limits)

  may : (prev : Option Bool) → cases.MayFollow facts prev → MayFollow (looks_back p) prev
  may None h = tt
  may (Some mark) h = h

  states : (image : Image) (prev : Option Bool) → AreWithin (map range_between facts.image) image → cases.MayFollow facts prev
      → IsState m (state_with (looks_back p) image prev)
  states image prev within follows =
      states_are m source.cells (looks_back p) (has_ranges source p m same) image prev
      (subst (λ (rs : List Range). AreWithin rs image) (back_to (image_ranges source.cells)) within) (may prev follows)

  met : (q : Query) → IsAsked q → Meets m q ↔ ((values : ℕ → Bool) × Holds values (query_clauses c start q))
  met (Base k) asked = (
    λ b. let some = base-satisfied m form start c k is steps b in (some.values, some.holds),
    λ h. (base-stands m form start c k h.0 is steps asked h.1).meets,
  )
  met (Step k) asked = (
    λ b. let some = step-satisfied m form start c k is steps b in (some.values, some.holds),
    λ h. (step-stands m form start c k h.0 is steps asked h.1).meets,
  )

  pub is_sound : NeverTraps m → limits.depth ≤ LAST_QUERY → IsSound (case_of m c start facts)
  is_sound never most = record {
    lawful = lawful_too (machine_of source p) m law same;
    params = back_to (param_ranges source.cells) ∙ same.params;
    input = back_to (input_ranges source.cells) ∙ same.input;
    states = states;
    traps = λ goal s i on by fails. never s i;
    depth = most;
    met = met;
  }
