-- What is told of a run of numbers that meets a query: its trace fits the cells, and shows the query.
use Rattle.std.proofs.Common.{◌≡◌, ℕ, ◌≤◌, Bool, true, List, ◌++◌, length, drop, None, refl, sym, ◌∙◌, ap, subst, arith, length-append, length-take-le}
use Rattle.std.specs.List.{AllByRecursion}
use Rattle.std.proofs.Math.Logic.{∥∥₁_elim}
use Rattle.std.proofs.Props.{props}
use Rattle.std.proofs.lemmas.List.{length-map}
use Rattle.pv_place.specs.Ranges.{Range, AreWithin}
use Rattle.pv_machine.specs.Machines.{Machine, Values, IsState, IsInput, AreParams, IsLawful}
use Rattle.pv_machine.specs.Queries.{FailsAtLast}
use Rattle.pv_machine.specs.Same.{IsSame}
use Rattle.pv_machine.specs.Joining.{same_back}
use Rattle.pv_machine.proofs.ForCallers.{lawful_too}
use Rattle.pv_mean.specs.declared.cell.Cell.{Cell}
use Rattle.pv_mean.specs.Frames.{stored_cells, image_len, image_ranges, input_ranges, param_ranges, range_of_cell, start_image}
use Rattle.pv_pattern.specs.declared.pattern.Pattern.{Pattern}
use Rattle.pv_pattern.specs.Sources.{ranges_by, bits_by, looks_back, image_in, prev_in, state_of, machine_of}
use Rattle.pv_replay.specs.declared.replay.Replay.{Replay}
use Rattle.pv_replay.specs.Replays.{cells_of}
use Rattle.pv_cert.specs.declared.proof.Query.{Query}
use Rattle.pv_cert.specs.declared.proof.Query.TheVariants.{Base, Step}
use Rattle.pv_stretch.proofs.ForCallers.{from_image, from_state}
use Rattle.pv_queries.specs.declared.numbers.NumberRun.{NumberRun}
use Rattle.pv_word.specs.declared.types.Ty.{Ty}
use Rattle.pv_cnf.specs.Clause.{Holds}
use Rattle.pv_circuit.specs.declared.start.Start.{Start}
use Rattle.pv_circuit.specs.Circuits.{Circuit, IsCircuit}
use Rattle.pv_circuit.specs.Steps.{Form, Steps}
use Rattle.pv_claims.specs.declared.trace.Trace.{Trace}
use Rattle.pv_frames.specs.Queries as frames
use Rattle.pv_frames.specs.Queries.{query_clauses}
use Rattle.pv_frames.specs.Runs.{run_of}
use Rattle.pv_kind.specs.Oracles as kind
use Rattle.pv_queries.specs.Lawful.{lawful_by_circuits}
use Rattle.pv_queries.specs.Numbers.{form_with, numbers_of}
use Rattle.pv_queries.proofs.ForCallers.{numbers-meet, state-types}
use Rattle.pv_queries.specs.Meeting.{MeetsBy}
use Rattle.pv_lift.specs.Traces.{state_with, image_of, mark_of, free_in, MayFollow, Shows, trace_of}
use Rattle.pv_lift.specs.Lifts.{looks_back_of, IsLifted}
use Rattle.pv_lift.specs.Sound.{HasRanges, ranges_kept, states_are, looks_same}
use Rattle.pv_lift.proofs.Images.{within-length, within-front, within-rest, mark-may, free-start, params-long}
use Rattle.pv_lift.proofs.Failing.{fails_at_last, is_told, told_is, fails_too}

-- ---- a state by its parts

module _ (m : Machine) (cells : List Cell) (back : Bool) (has : HasRanges m cells back) (state : Values) (is : IsState m state) where
  whole : AreWithin (image_ranges cells ++ ranges_by back) state
  whole = subst (λ (rs : List Range). AreWithin rs state) has.state is

  images : length (image_ranges cells) ≡ image_len cells
  images = length-map (stored_cells cells) range_of_cell

  pub image_within : AreWithin (image_ranges cells) (image_of cells state)
  image_within = within-front (image_ranges cells) (ranges_by back) state (image_len cells) images whole

  pub mark_may : MayFollow back (mark_of cells state)
  mark_may = mark-may back (drop (image_len cells) state) (within-rest (image_ranges cells) (ranges_by back) state (image_len cells) images whole)

  pub image_fits : image_len cells ≤ length state
  image_fits =
      let long = within-length (image_ranges cells ++ ranges_by back) state whole in
      let parts = length-append (image_ranges cells) (ranges_by back) in
      let first = images in
      omega (arith, long, parts, first)

  -- it is a state with that mark, too, whatever the bit of no mark was
  pub state_again : IsState m (state_with back (image_of cells state) (mark_of cells state))
  state_again = states_are m cells back has (image_of cells state) (mark_of cells state) image_within mark_may

-- ---- over the source's own machine

module _ (m : Machine) (law : IsLawful m) (replay : Replay) (pattern : Pattern) (is : IsLifted m replay pattern) where
  abbrev own : Machine
  own = machine_of is.source is.said

  own_ranges : HasRanges own is.source.cells (looks_back is.said)
  own_ranges = record { state = refl; input = refl; params = refl }

  back_again : IsSame m own
  back_again = same_back own m is.same

  own_law : IsLawful own
  own_law = lawful_too m own law back_again

  pub alike : (state : Values) (inputs : List Values) → IsState m state → AllByRecursion (IsInput m) inputs → FailsAtLast m state inputs
      → FailsAtLast m (state_with (looks_back_of pattern) (image_of (cells_of replay) state) (mark_of (cells_of replay) state)) inputs
  alike state inputs is_state are f =
      let cells = is.source.cells in
      let back = looks_back is.said in
      let in_own : IsState own state = subst (λ (rs : List Range). AreWithin rs state) (sym is.same.state) is_state in
      let are_own : AllByRecursion (IsInput own) inputs = subst (λ (rs : List Range). AllByRecursion (AreWithin rs) inputs) (sym is.same.input) are in
      let image = image_in is.source state in
      let prev = prev_in is.source state in
      let fits : length image ≡ image_len cells = length-take-le (image_len cells) state (image_fits own cells back own_ranges state in_own) in
      let one : FailsAtLast own state inputs = fails_too m own law back_again state is_state inputs are f in
      let last = (from_state is.source is.said state inputs in_own).0 one in
      let two : FailsAtLast own (state_of is.said image prev) inputs = (from_image is.source is.said image prev inputs fits).1 last in
      let three : FailsAtLast m (state_with back (image_of cells state) (mark_of cells state)) inputs =
      fails_too own m own_law is.same (state_with back (image_of cells state) (mark_of cells state)) (state_again own cells back own_ranges state in_own) inputs are_own two in
      subst (λ (b : Bool). FailsAtLast m (state_with b (image_of (cells_of replay) state) (mark_of (cells_of replay) state)) inputs)
      (sym (looks_same is.source pattern is.said is.is_pattern))
      (subst (λ (cs : List Cell). FailsAtLast m (state_with back (image_of cs state) (mark_of cs state)) inputs) is.is_replay.cells three)

  pub params_are : (params : Values) → AreParams m params → free_in (cells_of replay) (m.start params) ≡ params
  params_are params are =
      let in_own : AreParams own params = subst (λ (rs : List Range). AreWithin rs params) (sym is.same.params) are in
      let within : AreWithin (param_ranges (cells_of replay)) params =
      subst (λ (cs : List Cell). AreWithin (param_ranges cs) params) is.is_replay.cells in_own in
      ap (free_in (cells_of replay)) (sym (is.same.start params in_own))
      ∙ (ap (λ (cs : List Cell). free_in (cells_of replay) (start_image cs params ++ bits_by (looks_back is.said) None)) is.is_replay.cells
      ∙ free-start (cells_of replay) params (bits_by (looks_back is.said) None) (params-long (cells_of replay) params within))

-- ---- what is told

module _ (m : Machine) (law : IsLawful m) (replay : Replay) (pattern : Pattern) (lifted : ∥ IsLifted m replay pattern ∥₁) where
  has : HasRanges m (cells_of replay) (looks_back_of pattern)
  has = ranges_kept m replay pattern lifted

  inputs_within : (inputs : List Values) → AllByRecursion (IsInput m) inputs → AllByRecursion (AreWithin (input_ranges (cells_of replay))) inputs
  inputs_within inputs are = subst (λ (rs : List Range). AllByRecursion (AreWithin rs) inputs) has.input are

  pub shows_by : (q : Query) (run : NumberRun) → MeetsBy m q run → Shows m (cells_of replay) (looks_back_of pattern) q (trace_of (cells_of replay) q run)
  shows_by (Base k) run meets =
      let params = meets.0.params in
      let same : free_in (cells_of replay) run.state ≡ params =
      ap (free_in (cells_of replay)) meets.0.is ∙ ∥∥₁_elim lifted (hlevel props) (λ is. params_are m law replay pattern is params meets.0.are_params) in (
        record {
          form = record { image = refl; prev = refl; scans = meets.1.count };
          params = subst (λ (ps : Values). AreWithin (param_ranges (cells_of replay)) ps) (sym same)
              (subst (λ (rs : List Range). AreWithin rs params) has.params meets.0.are_params);
          inputs = inputs_within run.inputs meets.1.are_inputs;
        },
        subst (λ (s : Values). FailsAtLast m s run.inputs) (meets.0.is ∙ ap m.start (sym same)) meets.1.fails,
      )
  shows_by (Step k) run meets =
      let image = image_of (cells_of replay) run.state in
      let told : fails_at_last m (state_with (looks_back_of pattern) image (mark_of (cells_of replay) run.state)) run.inputs ≡ true =
      ∥∥₁_elim lifted (hlevel props) (λ is. is_told m (state_with (looks_back_of pattern) image (mark_of (cells_of replay) run.state)) run.inputs
      (alike m law replay pattern is run.state run.inputs meets.0 meets.1.are_inputs meets.1.fails)) in (
        image,
        record {
          form = record { image = (image, refl); params = refl; scans = meets.1.count };
          is_image = refl;
          values = image_within m (cells_of replay) (looks_back_of pattern) has run.state meets.0;
          mark = mark_may m (cells_of replay) (looks_back_of pattern) has run.state meets.0;
          inputs = inputs_within run.inputs meets.1.are_inputs;
        },
        told_is m (state_with (looks_back_of pattern) image (mark_of (cells_of replay) run.state)) run.inputs told,
      )

  -- states with so many values have an image
  pub image_room : (n : ℕ) → n ≡ length m.state → image_len (cells_of replay) ≤ n
  image_room n long =
      let parts = length-append (image_ranges (cells_of replay)) (ranges_by (looks_back_of pattern)) in
      let images = length-map (stored_cells (cells_of replay)) range_of_cell in
      let whole : length m.state ≡ length (image_ranges (cells_of replay) ++ ranges_by (looks_back_of pattern)) = ap (λ (rs : List Range). length rs) has.state in
      omega (arith, long, parts, images, whole)

-- ---- of values that make a query's formula hold

pub asked_in : (q : Query) → kind.IsAsked q → frames.IsAsked q
asked_in (Base k) asked = asked
asked_in (Step k) asked = asked

pub told_is_shown : (m : Machine) (form : Form) (start : List Start) (c : Circuit) (replay : Replay) (pattern : Pattern) → IsCircuit c → Steps m form start c
    → ∥ IsLifted m replay pattern ∥₁ → (q : Query) (values : ℕ → Bool) → kind.IsAsked q → Holds values (query_clauses c start q)
    → (state input : List Ty) → state ≡ form.state → input ≡ form.input → (t : Trace)
    → t ≡ trace_of (cells_of replay) q (numbers_of (form_with state input) (run_of c start q values))
    → Shows m (cells_of replay) (looks_back_of pattern) q t
told_is_shown m form start c replay pattern is steps lifted q values asked holds state input is_state is_input t e =
    let cells = cells_of replay in
    let run = run_of c start q values in
    let same : t ≡ trace_of cells q (numbers_of form run) = e
    ∙ (ap (λ (s : List Ty). trace_of cells q (numbers_of (form_with s input) run)) is_state
    ∙ ap (λ (i : List Ty). trace_of cells q (numbers_of (form_with form.state i) run)) is_input) in
    subst (λ (x : Trace). Shows m cells (looks_back_of pattern) q x) (sym same)
    (shows_by m (lawful_by_circuits m form start c is steps) replay pattern lifted q (numbers_of form run)
    (numbers-meet m form start c q values is steps (asked_in q asked) holds))

-- the values of a state have types, as many as there are ranges
pub state_room : (m : Machine) (form : Form) (start : List Start) (c : Circuit) (replay : Replay) (pattern : Pattern) → IsCircuit c → Steps m form start c
    → ∥ IsLifted m replay pattern ∥₁ → (state : List Ty) → state ≡ form.state → image_len (cells_of replay) ≤ length state
state_room m form start c replay pattern is steps lifted state is_state =
    image_room m (lawful_by_circuits m form start c is steps) replay pattern lifted (length state)
    (ap (λ (ts : List Ty). length ts) is_state ∙ state-types m form start c steps)
