-- That a lift keeps the laws of an oracle.
use Rattle.std.specs.Prelude.{◌≡◌, ℤ, Bool, true, false, List, [], ◌∷◌, ◌++◌, Option, Some, None}
use Rattle.std.specs.List.{AllByRecursion}
use Rattle.std.proofs.Common.{refl, sym, subst, ◌∙◌, ap, arith}
use Rattle.std.proofs.Math.Logic.{∥∥₁_elim}
use Rattle.std.proofs.Props.{props}
use Rattle.pv_word.specs.declared.types.Ty.TheVariants.{Bool as BoolTy}
use Rattle.pv_place.specs.Ranges.{Range, range_of, IsWithin, AreWithin}
use Rattle.pv_machine.specs.Machines.{Machine, Values, IsState, IsInput}
use Rattle.pv_machine.proofs.ForCallers.{step_of_reachable}
use Rattle.pv_mean.specs.declared.cell.Cell.{Cell}
use Rattle.pv_mean.specs.Sources.{Source}
use Rattle.pv_mean.specs.Values.{number_of}
use Rattle.pv_mean.specs.Frames.{Image, image_ranges, input_ranges, param_ranges}
use Rattle.pv_pattern.specs.declared.pattern.Pattern.{Pattern}
use Rattle.pv_pattern.specs.Sources.{ranges_by, bits_by, looks_back}
use Rattle.pv_pattern.specs.Patterns as patterns
use Rattle.pv_pattern.specs.Found.{IsPatternOf, is_invariant, is_forbidden, is_implication, is_within, is_between, is_reach}
use Rattle.pv_replay.specs.declared.replay.Replay.{Replay}
use Rattle.pv_replay.specs.Replays.{cells_of}
use Rattle.pv_cert.specs.declared.proof.Query.{Query}
use Rattle.pv_cert.specs.declared.proof.Query.TheVariants.{Base, Step}
use Rattle.pv_cert.specs.declared.proof.Chain.{Chain}
use Rattle.pv_claims.specs.declared.trace.Trace.{Trace}
use Rattle.pv_circuit.specs.declared.start.Start.{Start}
use Rattle.pv_circuit.specs.Circuits.{Circuit, IsCircuit}
use Rattle.pv_circuit.specs.Steps.{Form, Steps}
use Rattle.pv_laws_frames.proofs.ForCallers.{base-satisfied, step-satisfied}
use Rattle.pv_kind.specs.Oracles.{Meets, IsSound}
use Rattle.pv_queries.specs.Lawful.{lawful_by_circuits}
use Rattle.pv_lift.specs.Traces.{Shows, MayFollow, state_with}
use Rattle.pv_lift.specs.Lifts.{looks_back_of, IsLifted}
use Rattle.pv_lift.specs.Stages.{encoding_of}

-- ---- ranges of the machine are those of the cells

pub record HasRanges (m : Machine) (cells : List Cell) (back : Bool) : Type 0 where
  pub state : m.state ≡ image_ranges cells ++ ranges_by back
  pub input : m.input ≡ input_ranges cells
  pub params : m.params ≡ param_ranges cells

-- the two ways to tell whether a pattern looks back are the same
pub looks_same : (source : Source) (found : Pattern) (said : patterns.Pattern) → IsPatternOf source found said → looks_back_of found ≡ looks_back said
looks_same source found said (is_invariant a) = refl
looks_same source found said (is_forbidden a) = refl
looks_same source found said (is_implication a b) = refl
looks_same source found said (is_within a b) = refl
looks_same source found said (is_between a b c) = refl
looks_same source found said (is_reach a) = refl

has_ranges : (m : Machine) (replay : Replay) (pattern : Pattern) (is : IsLifted m replay pattern) → HasRanges m (cells_of replay) (looks_back_of pattern)
has_ranges m replay pattern is =
    let cells = is.is_replay.cells in
    let back = looks_same is.source pattern is.said is.is_pattern in
    record {
      state = sym is.same.state
          ∙ (ap (λ (cs : List Cell). image_ranges cs ++ ranges_by (looks_back is.said)) cells
          ∙ ap (λ (b : Bool). image_ranges (cells_of replay) ++ ranges_by b) (sym back));
      input = sym is.same.input ∙ ap input_ranges cells;
      params = sym is.same.params ∙ ap param_ranges cells;
    }

pub ranges_kept : (m : Machine) (replay : Replay) (pattern : Pattern) → ∥ IsLifted m replay pattern ∥₁ → HasRanges m (cells_of replay) (looks_back_of pattern)
ranges_kept m replay pattern h = record {
  state = ∥∥₁_elim h (hlevel props) (λ is. (has_ranges m replay pattern is).state);
  input = ∥∥₁_elim h (hlevel props) (λ is. (has_ranges m replay pattern is).input);
  params = ∥∥₁_elim h (hlevel props) (λ is. (has_ranges m replay pattern is).params);
}

-- ---- the laws

inputs_of : (m : Machine) (ranges : List Range) (inputs : List Values) → m.input ≡ ranges → AllByRecursion (AreWithin ranges) inputs → AllByRecursion (IsInput m) inputs
inputs_of m ranges inputs e are = subst (λ (rs : List Range). AllByRecursion (AreWithin rs) inputs) (sym e) are

-- an image in range is a state with each mark
bit_within : (b : Bool) → IsWithin (range_of BoolTy) (number_of b)
bit_within true = record { from = omega arith; to = omega arith }
bit_within false = record { from = omega arith; to = omega arith }

bits_within : (back : Bool) (prev : Option Bool) → AreWithin (ranges_by back) (bits_by back prev)
bits_within true None = (bit_within false, (bit_within false, tt))
bits_within true (Some was) = (bit_within true, (bit_within was, tt))
bits_within false prev = tt

within_both : (rs qs : List Range) (vs ws : List ℤ) → AreWithin rs vs → AreWithin qs ws → AreWithin (rs ++ qs) (vs ++ ws)
within_both [] qs [] ws h k = k
within_both [] qs (v ∷ vs) ws h k = absurd h
within_both (r ∷ rs) qs [] ws h k = absurd h
within_both (r ∷ rs) qs (v ∷ vs) ws h k = (h.0, within_both rs qs vs ws h.1 k)

pub states_are : (m : Machine) (cells : List Cell) (back : Bool) → HasRanges m cells back → (image : Image) (prev : Option Bool)
    → AreWithin (image_ranges cells) image → MayFollow back prev → IsState m (state_with back image prev)
states_are m cells back has image prev within may =
    subst (λ (rs : List Range). AreWithin rs (state_with back image prev)) (sym has.state)
    (within_both (image_ranges cells) (ranges_by back) image (bits_by back prev) within (bits_within back prev))

met : (m : Machine) (cells : List Cell) (back : Bool) → HasRanges m cells back → (q : Query) (t : Trace) → Shows m cells back q t → Meets m q
met m cells back has (Base k) t shows = record {
  params = t.params;
  inputs = t.inputs;
  are_params = subst (λ (rs : List Range). AreWithin rs t.params) (sym has.params) shows.0.params;
  are_inputs = inputs_of m (input_ranges cells) t.inputs has.input shows.0.inputs;
  count = shows.0.form.scans;
  fails = shows.1;
}
met m cells back has (Step k) t shows = record {
  state = state_with back shows.0 t.prev;
  inputs = t.inputs;
  is_state = states_are m cells back has shows.0 t.prev shows.1.values shows.1.mark;
  are_inputs = inputs_of m (input_ranges cells) t.inputs has.input shows.1.inputs;
  count = shows.1.form.scans;
  fails = shows.2;
}

pub sound_of : (m : Machine) (form : Form) (start : List Start) (c : Circuit) (replay : Replay) (pattern : Pattern) → ∥ IsLifted m replay pattern ∥₁
    → IsCircuit c → Steps m form start c → (chain : Chain) (ready : Query → Type 0)
    → IsSound m (encoding_of m c start (cells_of replay) (looks_back_of pattern)) chain ready
sound_of m form start c replay pattern lifted is steps chain ready = record {
  shown = met m (cells_of replay) (looks_back_of pattern) (ranges_kept m replay pattern lifted);
  base = λ k asked at refuted b. let some = base-satisfied m form start c k is steps b in refuted some.values some.holds;
  step = λ k asked at refuted b.
      let some = step-satisfied m form start c k is steps (step_of_reachable m k (lawful_by_circuits m form start c is steps) b) in
      refuted some.values some.holds;
}
