-- A program's circuit does the steps of its machine.
use Rattle.std.proofs.Common.{◌≡◌, Bool, true, false, not, [], ◌∷◌, length, map, refl, sym, ◌∙◌, ap, subst, arith}
use Rattle.std.proofs.lemmas.List.{length-map}
use Rattle.pv_gate.specs.Value.{value_of}
use Rattle.pv_machine.specs.Machines.{Values, done, IsState, IsInput}
use Rattle.pv_circuit.specs.declared.start.Start.TheVariants.{Begins}
use Rattle.pv_circuit.specs.Circuits.{values_of}
use Rattle.pv_circuit.specs.Starts.{AreState, AreStart, next_of}
use Rattle.pv_circuit.specs.Steps.{Denote, HasForm, HasRanges, HasStarts, IsScan, Denotes, Steps}
use Rattle.pv_bool.specs.Tree.{ProgramTree, IsProgram}
use Rattle.pv_bool.specs.Scans.{Bits, state_len, input_len, start, next_state, keeps}
use Rattle.pv_bool.specs.Machine.{bit_of, bits_of, numbers_of, machine_of}
use Rattle.pv_bool.proofs.ForCallers.{length-start, length-next_state, length-within, numbers_within, bits_of-numbers_of, numbers_of-bits_of}
use Rattle.pv_step.specs.Circuits.{circuit_of}
use Rattle.pv_step.specs.Correct.{state_before, input_before}
use Rattle.pv_step.specs.Steps.{form_of, starts_of}
use Rattle.pv_step.proofs.ScanLaws.{does_the_scan, have_lengths, stand_for}
use Rattle.pv_step.proofs.Denoting.{widths-bools, denote-numbers, denote-back, denote-count}

-- ---- bits that runs begin with, and that scans change

pub begin-state : (begins bits : Bits) → length bits ≡ length begins → AreState (map (λ b. Begins b) begins) bits
begin-state [] [] long = tt
begin-state [] (x ∷ bits) long = absurd (omega (arith, long))
begin-state (b ∷ begins) [] long = absurd (omega (arith, long))
begin-state (b ∷ begins) (x ∷ bits) long = (tt, begin-state begins bits (omega (arith, long)))

begin-start : (begins : Bits) → AreStart (map (λ b. Begins b) begins) begins
begin-start [] = tt
begin-start (b ∷ begins) = (refl, begin-start begins)

begin-same : (begins bits : Bits) → AreStart (map (λ b. Begins b) begins) bits → bits ≡ begins
begin-same [] [] h = refl
begin-same [] (x ∷ bits) h = absurd h
begin-same (b ∷ begins) [] h = absurd h
begin-same (b ∷ begins) (x ∷ bits) h = ap (λ (y : Bool). y ∷ bits) h.0 ∙ ap (λ (ys : Bits). b ∷ ys) (begin-same begins bits h.1)

begin-next : (begins before end : Bits) → length before ≡ length begins → length end ≡ length begins → next_of (map (λ b. Begins b) begins) before end ≡ end
begin-next [] before [] p q = refl
begin-next [] before (y ∷ end) p q = absurd (omega (arith, q))
begin-next (b ∷ begins) [] end p q = absurd (omega (arith, p))
begin-next (b ∷ begins) (x ∷ before) [] p q = absurd (omega (arith, q))
begin-next (b ∷ begins) (x ∷ before) (y ∷ end) p q = ap (λ (ys : Bits). y ∷ ys) (begin-next begins before end (omega (arith, p)) (omega (arith, q)))

same_done : (s t : Values) → done s ≡ done t → s ≡ t
same_done s t e = cc

not-true : (b : Bool) → not b ≡ false → b ≡ true
not-true true e = refl
not-true false e = sym e

true-not : (b : Bool) → b ≡ true → not b ≡ false
true-not b e = ap not e

-- ---- the parts

starts-count : (program : ProgramTree) → length (starts_of program) ≡ state_len program.bits
starts-count program = length-map (start program.bits) (λ b. Begins b) ∙ length-start program.bits

ranges : (program : ProgramTree) → HasRanges (machine_of program) (form_of program) (starts_of program)
ranges program = record {
  state = λ bits s den.
      let long = denote-count (state_len program.bits) bits s den in
      let same = denote-back (state_len program.bits) bits s den in (
        λ is. begin-state (start program.bits) bits (long ∙ sym (length-start program.bits)),
        λ are. subst (IsState (machine_of program)) (sym same) (numbers_within (state_len program.bits) bits long),
      );
  input = λ bits i den.
      subst (IsInput (machine_of program)) (sym (denote-back (input_len program.bits) bits i den))
      (numbers_within (input_len program.bits) bits (denote-count (input_len program.bits) bits i den));
}

starts : (program : ProgramTree) → HasStarts (machine_of program) (form_of program) (starts_of program)
starts program = record {
  each = λ p are. (
    start program.bits,
    begin-start (start program.bits),
    denote-numbers (state_len program.bits) (start program.bits) (length-start program.bits),
  );
  all = λ bits are. (
    [],
    tt,
    subst (λ (bs : Bits). Denote (form_of program).state bs (numbers_of (start program.bits))) (sym (begin-same (start program.bits) bits are))
        (denote-numbers (state_len program.bits) (start program.bits) (length-start program.bits)),
  );
}

form : (program : ProgramTree) → IsProgram program → HasForm (form_of program) (starts_of program) (circuit_of program)
form program is =
    let long = have_lengths program (λ n. false) in
    let state : length (circuit_of program).state_in ≡ state_len program.bits =
    sym (length-map (circuit_of program).state_in (value_of (λ n. false) (circuit_of program).nodes)) ∙ long.state in
    let input : length (circuit_of program).input ≡ input_len program.bits =
    sym (length-map (circuit_of program).input (value_of (λ n. false) (circuit_of program).nodes)) ∙ long.input in
    record {
      starts = starts-count program ∙ sym state;
      state = state ∙ sym (widths-bools (state_len program.bits));
      input = input ∙ sym (widths-bools (input_len program.bits));
    }

scan : (program : ProgramTree) → IsProgram program → (s i : Values) → (d : Denotes (form_of program) (circuit_of program) s i)
    → IsScan (machine_of program) (form_of program) (starts_of program) (circuit_of program) d.inputs s i
scan program is s i d = record {
  ok = (
    λ h. (
      numbers_of (next_state program (bits_of s) (bits_of i)),
      record { done = refl; keeps = true-not (keeps program (bits_of s) (bits_of i)) (sym ok ∙ h) },
    ),
    λ h. ok ∙ not-true (keeps program (bits_of s) (bits_of i)) h.1.keeps,
  );
  fail = (λ h. sym fail ∙ h, λ h. fail ∙ h);
  next = λ t e.
      let same : next_of (starts_of program) state (values_of d.inputs (circuit_of program).nodes (circuit_of program).state_out) ≡ next_state program (bits_of s) (bits_of i) =
      begin-next (start program.bits) state (values_of d.inputs (circuit_of program).nodes (circuit_of program).state_out)
      ((have_lengths program d.inputs).state ∙ sym (length-start program.bits)) (long-out ∙ sym (length-start program.bits)) ∙ out in
      subst (λ (bs : Bits). Denote (form_of program).state bs t) (sym same)
      (subst (Denote (form_of program).state (next_state program (bits_of s) (bits_of i)))
      (same_done (numbers_of (next_state program (bits_of s) (bits_of i))) t e)
      (denote-numbers (state_len program.bits) (next_state program (bits_of s) (bits_of i)) (length-next_state program (bits_of s) (bits_of i))));
}
  where
    state : Bits
    state = state_before program d.inputs

    input : Bits
    input = input_before program d.inputs

    state_is : state_before program d.inputs ≡ bits_of s
    state_is = sym (ap bits_of (denote-back (state_len program.bits) (state_before program d.inputs) s d.state) ∙ bits_of-numbers_of (state_before program d.inputs))

    input_is : input_before program d.inputs ≡ bits_of i
    input_is = sym (ap bits_of (denote-back (input_len program.bits) (input_before program d.inputs) i d.input) ∙ bits_of-numbers_of (input_before program d.inputs))

    kept : keeps program (state_before program d.inputs) (input_before program d.inputs) ≡ keeps program (bits_of s) (bits_of i)
    kept = ap (λ (x : Bits). keeps program x (input_before program d.inputs)) state_is ∙ ap (λ (y : Bits). keeps program (bits_of s) y) input_is

    ok : value_of d.inputs (circuit_of program).nodes (circuit_of program).ok ≡ keeps program (bits_of s) (bits_of i)
    ok = (does_the_scan program d.inputs is).ok ∙ kept

    fail : value_of d.inputs (circuit_of program).nodes (circuit_of program).fail ≡ not (keeps program (bits_of s) (bits_of i))
    fail = (does_the_scan program d.inputs is).fail ∙ ap not kept

    out : values_of d.inputs (circuit_of program).nodes (circuit_of program).state_out ≡ next_state program (bits_of s) (bits_of i)
    out = (does_the_scan program d.inputs is).state_out
        ∙ (ap (λ (x : Bits). next_state program x (input_before program d.inputs)) state_is ∙ ap (λ (y : Bits). next_state program (bits_of s) y) input_is)

    long-out : length (values_of d.inputs (circuit_of program).nodes (circuit_of program).state_out) ≡ state_len program.bits
    long-out = ap (λ (bs : Bits). length bs) out ∙ length-next_state program (bits_of s) (bits_of i)

every : (program : ProgramTree) → IsProgram program → (s i : Values) → IsState (machine_of program) s → IsInput (machine_of program) i
    → Denotes (form_of program) (circuit_of program) s i
every program is s i state input =
    let long_s : length (bits_of s) ≡ state_len program.bits = length-map s bit_of ∙ length-within (state_len program.bits) s state in
    let long_i : length (bits_of i) ≡ input_len program.bits = length-map i bit_of ∙ length-within (input_len program.bits) i input in
    let stand = stand_for program (bits_of s) (bits_of i) long_s long_i in
    record {
      inputs = stand.inputs;
      state = subst (λ (bs : Bits). Denote (form_of program).state bs s) (sym stand.state)
          (subst (Denote (form_of program).state (bits_of s)) (numbers_of-bits_of (state_len program.bits) s state)
          (denote-numbers (state_len program.bits) (bits_of s) long_s));
      input = subst (λ (bs : Bits). Denote (form_of program).input bs i) (sym stand.input)
          (subst (Denote (form_of program).input (bits_of i)) (numbers_of-bits_of (input_len program.bits) i input)
          (denote-numbers (input_len program.bits) (bits_of i) long_i));
    }

pub does_the_steps : (program : ProgramTree) → IsProgram program → Steps (machine_of program) (form_of program) (starts_of program) (circuit_of program)
does_the_steps program is = record {
  bits = form program is;
  ranges = ranges program;
  starts = starts program;
  scan = λ s i state input d. scan program is s i d;
  every = every program is;
}

-- there is a start for each bit of the state
pub long-starts : (program : ProgramTree) → IsProgram program → length (starts_of program) ≡ length (circuit_of program).state_in
long-starts program is = (form program is).starts
