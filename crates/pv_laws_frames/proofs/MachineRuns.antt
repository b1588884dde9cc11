-- Runs of a circuit's bits and runs of the machine whose steps it does, scan by scan.
use Rattle.std.proofs.Common.{◌≡◌, ℕ, Bool, true, List, [], ◌∷◌, length, refl, sym, ◌∙◌, ap, subst, arith}
use Rattle.std.specs.List.{AllByRecursion, AllZip}
use Rattle.std.proofs.lemmas.List.{length-map}
use Rattle.pv_gate.specs.Value.{value_of}
use Rattle.pv_machine.specs.Machines.{Machine, Values, IsState, IsInput}
use Rattle.pv_machine.specs.Queries as machine
use Rattle.pv_machine.specs.Queries.{IsGoodScan, MeetsBase, MeetsStep}
use Rattle.pv_cnf.specs.Clause.{Holds}
use Rattle.pv_cert.specs.declared.proof.Query.TheVariants.{Base, Step}
use Rattle.pv_circuit.specs.declared.start.Start.{Start}
use Rattle.pv_circuit.specs.declared.start.Start.TheVariants.{Fixed, Begins, Free}
use Rattle.pv_circuit.specs.Circuits.{Circuit, IsCircuit, values_of}
use Rattle.pv_circuit.specs.Starts.{MayBe, MayBegin, AreState, AreStart, next_of}
use Rattle.pv_circuit.specs.Steps.{Form, widths, Denote, Denotes, IsScan, Steps}
use Rattle.pv_frames.specs.Queries.{IsAsked, query_clauses}
use Rattle.pv_frames.specs.Runs as frames
use Rattle.pv_frames.specs.Runs.{BitRun, BeginsWith, run_of, HasValues}
use Rattle.pv_frames.proofs.ForCallers.{run-meets, run-holds}
use Rattle.pv_laws_frames.specs.Standing.{StandsForBase, StandsForStep, IsSatisfied}
use Rattle.pv_laws_frames.proofs.Denoting.{denoted, denote-same}

-- ---- bits of states

pub are-state : (start : List Start) (bits : List Bool) → AreStart start bits → AreState start bits
are-state [] [] h = tt
are-state [] (b ∷ bits) h = h
are-state (s ∷ start) [] h = h
are-state (s ∷ start) (b ∷ bits) h = (by s h.0, are-state start bits h.1)
  where
    by : (s : Start) → MayBegin s b → MayBe s b
    by (Fixed x) e = e
    by (Begins x) e = tt
    by Free e = tt

-- behind a scan they are those of a state
pub state-behind : (start : List Start) (before end : List Bool) → AreState start before → length end ≡ length start → AreState start (next_of start before end)
state-behind [] before end h long = tt
state-behind (s ∷ start) [] end h long = h
state-behind (s ∷ start) (x ∷ before) [] h long = absurd (omega (arith, long))
state-behind (s ∷ start) (x ∷ before) (y ∷ end) h long = by s h.0 (state-behind start before end h.1 (omega (arith, long)))
  where
    by : (s : Start) → MayBe s x → AreState start (next_of start before end) → AreState (s ∷ start) (next_of (s ∷ start) (x ∷ before) (y ∷ end))
    by (Fixed b) e more = (e, more)
    by (Begins b) e more = (tt, more)
    by Free e more = (tt, more)

-- ---- from bits to the machine

-- a run of the machine from this state, whose inputs have these bits
record Numbers (m : Machine) (form : Form) (s : Values) (inputs : List (List Bool)) : Type 0 where
  values : List Values
  are : AllByRecursion (IsInput m) values
  denote : AllZip (Denote form.input) inputs values
  count : length values ≡ length inputs
  fails : machine.FailsAtLast m s values

fails-behind : (m : Machine) (s i t : Values) → IsGoodScan m s i t → (is : List Values) → machine.FailsAtLast m t is → machine.FailsAtLast m s (i ∷ is)
fails-behind m s i t good [] h = absurd h
fails-behind m s i t good (j ∷ is) h = (t, good, h)

-- a scan of bits as one of the machine
record OneScan (m : Machine) (form : Form) (start : List Start) (c : Circuit) (s : Values) (bits input : List Bool) (scan : BeginsWith c bits input) : Type 0 where
  value : Values
  is_input : IsInput m value
  denote : Denote form.input input value
  does : IsScan m form start c scan.inputs s value

one-scan : (m : Machine) (form : Form) (start : List Start) (c : Circuit) → Steps m form start c → (s : Values) (bits input : List Bool) → Denote form.state bits s → AreState start bits
    → (scan : BeginsWith c bits input) → OneScan m form start c s bits input scan
one-scan m form start c steps s bits input den are scan =
    let long : length input ≡ widths form.input =
    sym (ap (λ (bs : List Bool). length bs) scan.input_is) ∙ (length-map c.input (value_of scan.inputs c.nodes) ∙ steps.bits.input) in
    let found = denoted form.input input long in
    let is_input = steps.ranges.input input found.0 found.1 in
    let d : Denotes form c s found.0 = record {
      inputs = scan.inputs;
      state = subst (λ (bs : List Bool). Denote form.state bs s) (sym scan.state_is) den;
      input = subst (λ (bs : List Bool). Denote form.input bs found.0) (sym scan.input_is) found.1;
    } in
    record {
      value = found.0;
      is_input = is_input;
      denote = found.1;
      does = steps.scan s found.0 ((steps.ranges.state bits s den).1 are) is_input d;
    }

numbers : (m : Machine) (form : Form) (start : List Start) (c : Circuit) → IsCircuit c → Steps m form start c → (s : Values) (bits : List Bool) → Denote form.state bits s → AreState start bits
    → (inputs : List (List Bool)) → frames.FailsAtLast c start bits inputs → Numbers m form s inputs
numbers m form start c is steps s bits den are [] h = absurd h
numbers m form start c is steps s bits den are (i ∷ []) h =
    let one = one-scan m form start c steps s bits i den are h.0 in
    record {
      values = one.value ∷ [];
      are = (one.is_input, tt);
      denote = (one.denote, tt);
      count = refl;
      fails = one.does.fail.0 h.1;
    }
numbers m form start c is steps s bits den are (i ∷ k ∷ inputs) h =
    let scan = h.0 in
    let one = one-scan m form start c steps s bits i den are scan in
    let good = one.does.ok.0 h.1 in
    let next : Denote form.state (next_of start bits (values_of scan.inputs c.nodes c.state_out)) good.0 =
    subst (λ (bs : List Bool). Denote form.state (next_of start bs (values_of scan.inputs c.nodes c.state_out)) good.0) scan.state_is
    (one.does.next good.0 good.1.done) in
    let long : length (values_of scan.inputs c.nodes c.state_out) ≡ length start =
    length-map c.state_out (value_of scan.inputs c.nodes) ∙ (is.same_state ∙ sym steps.bits.starts) in
    let more = numbers m form start c is steps good.0 (next_of start bits (values_of scan.inputs c.nodes c.state_out)) next
    (state-behind start bits (values_of scan.inputs c.nodes c.state_out) are long) (k ∷ inputs) h.2 in
    record {
      values = one.value ∷ more.values;
      are = (one.is_input, more.are);
      denote = (one.denote, more.denote);
      count = omega (arith, more.count);
      fails = fails-behind m s one.value good.0 good.1 more.values more.fails;
    }

pub base-stands : (m : Machine) (form : Form) (start : List Start) (c : Circuit) (k : ℕ) (values : ℕ → Bool) → IsCircuit c → Steps m form start c → IsAsked (Base k)
    → Holds values (query_clauses c start (Base k)) → StandsForBase m form k (run_of c start (Base k) values)
base-stands m form start c k values is steps asks holds =
    let meets = run-meets c start (Base k) values is steps.bits.starts asks holds in
    let begin = steps.starts.all (run_of c start (Base k) values).state meets.0 in
    let found = numbers m form start c is steps (m.start begin.0) (run_of c start (Base k) values).state begin.2
    (are-state start (run_of c start (Base k) values).state meets.0) (run_of c start (Base k) values).inputs meets.2 in
    record {
      meets = record {
        params = begin.0;
        inputs = found.values;
        are_params = begin.1;
        are_inputs = found.are;
        count = found.count ∙ meets.1;
        fails = found.fails;
      };
      state = begin.2;
      inputs = found.denote;
    }

pub step-stands : (m : Machine) (form : Form) (start : List Start) (c : Circuit) (k : ℕ) (values : ℕ → Bool) → IsCircuit c → Steps m form start c → IsAsked (Step k)
    → Holds values (query_clauses c start (Step k)) → StandsForStep m form k (run_of c start (Step k) values)
step-stands m form start c k values is steps asks holds =
    let meets = run-meets c start (Step k) values is steps.bits.starts asks holds in
    let long : length (run_of c start (Step k) values).state ≡ widths form.state =
    length-map c.state_in _ ∙ steps.bits.state in
    let found_state = denoted form.state (run_of c start (Step k) values).state long in
    let found = numbers m form start c is steps found_state.0 (run_of c start (Step k) values).state found_state.1 meets.0 (run_of c start (Step k) values).inputs meets.2 in
    record {
      meets = record {
        state = found_state.0;
        inputs = found.values;
        is_state = (steps.ranges.state (run_of c start (Step k) values).state found_state.0 found_state.1).1 meets.0;
        are_inputs = found.are;
        count = found.count ∙ meets.1;
        fails = found.fails;
      };
      state = found_state.1;
      inputs = found.denote;
    }

-- ---- from the machine to bits

-- a run of bits from these, as long as a run of the machine
record Bits (start : List Start) (c : Circuit) (bits : List Bool) (count : ℕ) : Type 0 where
  inputs : List (List Bool)
  long : length inputs ≡ count
  fails : frames.FailsAtLast c start bits inputs

bits-behind : (c : Circuit) (start : List Start) (s i : List Bool) (scan : BeginsWith c s i) → value_of scan.inputs c.nodes c.ok ≡ true → (inputs : List (List Bool))
    → frames.FailsAtLast c start (next_of start s (values_of scan.inputs c.nodes c.state_out)) inputs → frames.FailsAtLast c start s (i ∷ inputs)
bits-behind c start s i scan ok [] h = absurd h
bits-behind c start s i scan ok (j ∷ inputs) h = (scan, ok, h)

bits-of : (m : Machine) (form : Form) (start : List Start) (c : Circuit) → IsCircuit c → Steps m form start c → (s : Values) (bits : List Bool) → Denote form.state bits s → IsState m s
    → (values : List Values) → AllByRecursion (IsInput m) values → machine.FailsAtLast m s values → Bits start c bits (length values)
bits-of m form start c is steps s bits den state [] all h = absurd h
bits-of m form start c is steps s bits den state (i ∷ []) all h =
    let d = steps.every s i state all.0 in
    let scan : BeginsWith c bits (values_of d.inputs c.nodes c.input) = record {
      inputs = d.inputs;
      state_is = denote-same form.state (values_of d.inputs c.nodes c.state_in) bits s d.state den;
      input_is = refl;
    } in
    record {
      inputs = values_of d.inputs c.nodes c.input ∷ [];
      long = refl;
      fails = (scan, (steps.scan s i state all.0 d).fail.1 h);
    }
bits-of m form start c is steps s bits den state (i ∷ j ∷ values) all h =
    let d = steps.every s i state all.0 in
    let does = steps.scan s i state all.0 d in
    let same = denote-same form.state (values_of d.inputs c.nodes c.state_in) bits s d.state den in
    let scan : BeginsWith c bits (values_of d.inputs c.nodes c.input) = record {
      inputs = d.inputs;
      state_is = same;
      input_is = refl;
    } in
    let next : Denote form.state (next_of start bits (values_of d.inputs c.nodes c.state_out)) h.0 =
    subst (λ (bs : List Bool). Denote form.state (next_of start bs (values_of d.inputs c.nodes c.state_out)) h.0) same (does.next h.0 h.1.done) in
    let long : length (values_of d.inputs c.nodes c.state_out) ≡ length start =
    length-map c.state_out (value_of d.inputs c.nodes) ∙ (is.same_state ∙ sym steps.bits.starts) in
    let behind = state-behind start bits (values_of d.inputs c.nodes c.state_out) ((steps.ranges.state bits s den).0 state) long in
    let more = bits-of m form start c is steps h.0 (next_of start bits (values_of d.inputs c.nodes c.state_out)) next
    ((steps.ranges.state (next_of start bits (values_of d.inputs c.nodes c.state_out)) h.0 next).1 behind) (j ∷ values) all.1 h.2 in
    record {
      inputs = values_of d.inputs c.nodes c.input ∷ more.inputs;
      long = omega (arith, more.long);
      fails = bits-behind c start bits (values_of d.inputs c.nodes c.input) scan (does.ok.1 (h.0, h.1)) more.inputs more.fails;
    }

pub base-satisfied : (m : Machine) (form : Form) (start : List Start) (c : Circuit) (k : ℕ) → IsCircuit c → Steps m form start c → MeetsBase m k
    → IsSatisfied (query_clauses c start (Base k))
base-satisfied m form start c k is steps meets =
    let begin = steps.starts.each meets.params meets.are_params in
    let state = (steps.ranges.state begin.0 (m.start meets.params) begin.2).1 (are-state start begin.0 begin.1) in
    let run = bits-of m form start c is steps (m.start meets.params) begin.0 begin.2 state meets.inputs meets.are_inputs meets.fails in
    let has = run-holds c start (Base k) (record { state = begin.0; inputs = run.inputs }) is (begin.1, run.long ∙ meets.count, run.fails) in
    record { values = has.values; holds = has.holds }

pub step-satisfied : (m : Machine) (form : Form) (start : List Start) (c : Circuit) (k : ℕ) → IsCircuit c → Steps m form start c → MeetsStep m k
    → IsSatisfied (query_clauses c start (Step k))
step-satisfied m form start c k is steps meets =
    let some = first-bits meets.inputs meets.are_inputs meets.fails in
    let run = bits-of m form start c is steps meets.state some.0 some.1 meets.is_state meets.inputs meets.are_inputs meets.fails in
    let has = run-holds c start (Step k) (record { state = some.0; inputs = run.inputs }) is
    ((steps.ranges.state some.0 meets.state some.1).0 meets.is_state, run.long ∙ meets.count, run.fails) in
    record { values = has.values; holds = has.holds }
  where
    -- the state's bits, by the first input
    first-bits : (values : List Values) → AllByRecursion (IsInput m) values → machine.FailsAtLast m meets.state values → (bits : List Bool) × Denote form.state bits meets.state
    first-bits [] all h = absurd h
    first-bits (i ∷ values) all h =
        let d = steps.every meets.state i meets.is_state all.0 in
        (values_of d.inputs c.nodes c.state_in, d.state)
