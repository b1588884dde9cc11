-- That the circuit does the steps of the machine.
use Rattle.std.proofs.Common.{◌≡◌, ℕ, zero, suc, ◌+◌, ◌-◌, ◌*◌, ◌/◌, ◌%◌, ◌<◌, ◌≤◌, ◌^◌, ℤ, pos, negsuc, Bool, true, false, not, cond, List, [], ◌∷◌, ◌++◌, length, map, take, drop, take-append-drop, refl, sym, ◌∙◌, ap, subst, arith, lit<}
use Rattle.std.specs.Prelude.{nat_eq, replicate}
use Rattle.std.specs.Ordering.{int_eq}
use Rattle.std.proofs.Math.Seq.{take-append_seam, drop-append_seam}
use Rattle.std.proofs.lemmas.List.{append-nil, length-append, length-map}
use Rattle.std.proofs.lemmas.List.Elements.{All-nil}
use Rattle.pv_word.specs.declared.types.Ty.{Ty}
use Rattle.pv_word.specs.declared.types.Ty.TheVariants as ty
use Rattle.pv_word.specs.Types.{width_of, pattern_of}
use Rattle.pv_word.proofs.ForCallers.{double, pattern-lt}
use Rattle.pv_gate.specs.Value.{value_of}
use Rattle.pv_bits.specs.Words.{number_of_bit, number_of}
use Rattle.pv_place.specs.Ranges.{IsWithin, AreWithin, range_of}
use Rattle.pv_machine.specs.Machines.{Values, done, IsState, IsInput, AreParams}
use Rattle.pv_circuit.specs.declared.start.Start.{Start}
use Rattle.pv_circuit.specs.declared.start.Start.TheVariants.{Fixed, Begins, Free}
use Rattle.pv_circuit.specs.Circuits.{IsCircuit, values_of}
use Rattle.pv_circuit.specs.Starts.{AreState, AreStart, is_moved, next_of}
use Rattle.pv_circuit.specs.Steps.{widths, AreBitsOf, Denote, HasForm, HasRanges, HasStarts, IsScan, Denotes, Steps}
use Rattle.pv_bool.specs.Tree.{IsProgram}
use Rattle.pv_bool.specs.Scans.{Bits, first, keeps}
use Rattle.pv_bool.proofs.ForCallers.{state_of-begin}
use Rattle.pv_step.specs.Circuits.{circuit_of}
use Rattle.pv_step.specs.Correct.{state_before, input_before}
use Rattle.pv_step.proofs.ForCallers.{is_circuit, does_the_scan, have_lengths, stand_for}
use Rattle.pv_queries.specs.Numbers.{value_of_bits, values_of_bits}
use Rattle.pv_queries.proofs.ForCallers.{some-values, one-values}
use Rattle.pv_rows_queries.specs.Words.{is_set, words_form, words_machine, word_begins, words_starts, words_program}

-- ---- the program

words_own : IsProgram words_program
words_own = record { body = All-nil _; holds = lit< tt }

pub words_kept : IsCircuit (circuit_of words_program)
words_kept = is_circuit words_program words_own

-- ---- bits of values

abbrev bits_of : ℕ → ℕ → Bits
bits_of zero n = []
bits_of (suc k) n = nat_eq (n % 2) 1 ∷ bits_of k (n / 2)

length-bits : (k n : ℕ) → length (bits_of k n) ≡ k
length-bits zero n = refl
length-bits (suc k) n = ap suc (length-bits k (n / 2))

number-bit : (n : ℕ) → n < 2 → number_of_bit (nat_eq n 1) ≡ n
number-bit zero lt = refl
number-bit (suc zero) lt = refl
number-bit (suc (suc n)) lt = absurd (omega (arith, lt))

number-bits : (k n : ℕ) → n < 2 ^ k → number_of (bits_of k n) ≡ n
number-bits zero n lt = omega (arith, lt)
number-bits (suc k) n lt =
    let e : suc k - 1 ≡ k = omega arith in
    let twice : 2 ^ suc k ≡ 2 * 2 ^ k = subst (λ (m : ℕ). 2 ^ suc k ≡ 2 * 2 ^ m) e (double (suc k) (omega arith)) in
    let rest = number-bits k (n / 2) (omega (arith, lt, twice)) in
    let one = number-bit (n % 2) (omega arith) in
    omega (arith, rest, one)

value_bits : (t : Ty) (v : ℤ) → IsWithin (range_of t) v → AreBitsOf t (bits_of (width_of t) (pattern_of t v)) v
value_bits t v is = record {
  width = length-bits (width_of t) (pattern_of t v);
  in_range = record { from = is.from; to = is.to };
  pattern = number-bits (width_of t) (pattern_of t v) (pattern-lt (width_of t) v);
}

abbrev bits_of_values : List Ty → Values → Bits
bits_of_values [] vs = []
bits_of_values (t ∷ tys) [] = []
bits_of_values (t ∷ tys) (v ∷ vs) = bits_of (width_of t) (pattern_of t v) ++ bits_of_values tys vs

denote_more : (t : Ty) (tys : List Ty) (xs ys : Bits) (v : ℤ) (vs : Values) → length xs ≡ width_of t → AreBitsOf t xs v → Denote tys ys vs
    → Denote (t ∷ tys) (xs ++ ys) (v ∷ vs)
denote_more t tys xs ys v vs long is rest = (
  subst (λ (bs : Bits). AreBitsOf t bs v) (sym (ap (λ (n : ℕ). take n (xs ++ ys)) (sym long) ∙ take-append_seam xs ys)) is,
  subst (λ (bs : Bits). Denote tys bs vs) (sym (ap (λ (n : ℕ). drop n (xs ++ ys)) (sym long) ∙ drop-append_seam xs ys)) rest,
)

denote_values : (tys : List Ty) (vs : Values) → AreWithin (map range_of tys) vs → Denote tys (bits_of_values tys vs) vs
denote_values [] [] are = refl
denote_values [] (v ∷ vs) are = absurd are
denote_values (t ∷ tys) [] are = absurd are
denote_values (t ∷ tys) (v ∷ vs) are =
    denote_more t tys (bits_of (width_of t) (pattern_of t v)) (bits_of_values tys vs) v vs (length-bits (width_of t) (pattern_of t v))
    (value_bits t v are.0) (denote_values tys vs are.1)

-- values that are denoted lie in their types, and have as many bits
within : (tys : List Ty) (bits : Bits) (vs : Values) → Denote tys bits vs → AreWithin (map range_of tys) vs
within [] bits [] den = tt
within [] bits (v ∷ vs) den = absurd den
within (t ∷ tys) bits [] den = absurd den
within (t ∷ tys) bits (v ∷ vs) den =
    (record { from = den.0.in_range.from; to = den.0.in_range.to }, within tys (drop (width_of t) bits) vs den.1)

long : (tys : List Ty) (bits : Bits) (vs : Values) → Denote tys bits vs → length bits ≡ widths tys
long [] bits [] den = ap (λ (bs : Bits). length bs) den
long [] bits (v ∷ vs) den = absurd den
long (t ∷ tys) bits [] den = absurd den
long (t ∷ tys) bits (v ∷ vs) den =
    let rest = long tys (drop (width_of t) bits) vs den.1 in
    sym (ap (λ (bs : Bits). length bs) (take-append-drop (width_of t) bits))
    ∙ (length-append (take (width_of t) bits) (drop (width_of t) bits) ∙ omega (arith, den.0.width, rest))

-- ---- how they begin

free-state : (n : ℕ) (bits : Bits) → length bits ≡ n → AreState (replicate n Free) bits
free-state zero [] e = tt
free-state zero (x ∷ bits) e = absurd (omega (arith, e))
free-state (suc n) [] e = absurd (omega (arith, e))
free-state (suc n) (x ∷ bits) e = (tt, free-state n bits (omega (arith, e)))

any-state : (begins : Bits) (n : ℕ) (bits : Bits) → length bits ≡ length begins + n → AreState (map (λ b. Begins b) begins ++ replicate n Free) bits
any-state [] n bits e = free-state n bits (omega (arith, e))
any-state (b ∷ begins) n [] e = absurd (omega (arith, e))
any-state (b ∷ begins) n (x ∷ bits) e = (tt, any-state begins n bits (omega (arith, e)))

free-start : (n : ℕ) (bits : Bits) → length bits ≡ n → AreStart (replicate n Free) bits
free-start zero [] e = tt
free-start zero (x ∷ bits) e = absurd (omega (arith, e))
free-start (suc n) [] e = absurd (omega (arith, e))
free-start (suc n) (x ∷ bits) e = (tt, free-start n bits (omega (arith, e)))

this-start : (begins : Bits) (n : ℕ) (bits : Bits) → length bits ≡ n → AreStart (map (λ b. Begins b) begins ++ replicate n Free) (begins ++ bits)
this-start [] n bits e = free-start n bits e
this-start (b ∷ begins) n bits e = (refl, this-start begins n bits e)

free-long : (n : ℕ) (bits : Bits) → AreStart (replicate n Free) bits → length bits ≡ n
free-long zero [] are = refl
free-long zero (x ∷ bits) are = absurd are
free-long (suc n) [] are = absurd are
free-long (suc n) (x ∷ bits) are = ap suc (free-long n bits are.1)

start-long : (begins : Bits) (n : ℕ) (bits : Bits) → AreStart (map (λ b. Begins b) begins ++ replicate n Free) bits → length bits ≡ length begins + n
start-long [] n bits are = let rest = free-long n bits are in omega (arith, rest)
start-long (b ∷ begins) n [] are = absurd are
start-long (b ∷ begins) n (x ∷ bits) are = let rest = start-long begins n bits are.1 in omega (arith, rest)

start-front : (begins : Bits) (n : ℕ) (bits : Bits) → AreStart (map (λ b. Begins b) begins ++ replicate n Free) bits → take (length begins) bits ≡ begins
start-front [] n bits are = refl
start-front (b ∷ begins) n [] are = absurd are
start-front (b ∷ begins) n (x ∷ bits) are =
    ap (λ (y : Bool). y ∷ take (length begins) bits) are.0 ∙ ap (λ (ys : Bits). b ∷ ys) (start-front begins n bits are.1)

same-next : (starts : List Start) (bits : Bits) → length bits ≡ length starts → next_of starts bits bits ≡ bits
same-next [] [] e = refl
same-next [] (x ∷ bits) e = absurd (omega (arith, e))
same-next (s ∷ starts) [] e = absurd (omega (arith, e))
same-next (s ∷ starts) (x ∷ bits) e = ap (λ (y : Bool). y ∷ next_of starts bits bits) (kept s)
    ∙ ap (λ (ys : Bits). x ∷ ys) (same-next starts bits (omega (arith, e)))
  where
    kept : (s : Start) → cond (is_moved s) x x ≡ x
    kept (Fixed b) = refl
    kept (Begins b) = refl
    kept Free = refl

-- ---- the parts

begins_as : value_of_bits ty.Int word_begins ≡ negsuc 32767
unfolding Rattle.pv_word.specs.Wrap.wrap_at
begins_as = refl

ranges : HasRanges words_machine words_form words_starts
ranges = record {
  state = λ bits s den. (
    λ is. any-state word_begins 16 bits (long words_form.state bits s den),
    λ are. within words_form.state bits s den,
  );
  input = λ bits i den. within words_form.input bits i den;
}

starts : HasStarts words_machine words_form words_starts
starts = record { each = begun; all = beginning }
  where
    begins-denote : AreBitsOf ty.Int word_begins (negsuc 32767)
    begins-denote = subst (λ (v : ℤ). AreBitsOf ty.Int word_begins v) begins_as (some-values (ty.Int ∷ []) word_begins refl).0

    begun : (p : Values) → AreParams words_machine p → (bits : Bits) × AreStart words_starts bits × Denote words_form.state bits (words_machine.start p)
    begun [] are = absurd are
    begun (v ∷ []) are =
        let param : Bits = bits_of 16 (pattern_of ty.Int v) in (
          word_begins ++ param,
          this-start word_begins 16 param (length-bits 16 (pattern_of ty.Int v)),
          denote_more ty.Int (ty.Int ∷ []) word_begins param (negsuc 32767) (v ∷ []) refl begins-denote
              (subst (λ (bs : Bits). Denote (ty.Int ∷ []) bs (v ∷ [])) (append-nil param)
              (denote_values (ty.Int ∷ []) (v ∷ []) (are.0, tt))),
        )
    begun (v ∷ w ∷ rest) are = absurd are.1

    beginning : (bits : Bits) → AreStart words_starts bits → (p : Values) × AreParams words_machine p × Denote words_form.state bits (words_machine.start p)
    beginning bits are =
        let den = some-values words_form.state bits (start-long word_begins 16 bits are) in
        let front : value_of_bits ty.Int (take 16 bits) ≡ negsuc 32767 = ap (value_of_bits ty.Int) (start-front word_begins 16 bits are) ∙ begins_as in
        let param : ℤ = value_of_bits ty.Int (take 16 (drop 16 bits)) in (
          param ∷ [],
          (within words_form.state bits (values_of_bits words_form.state bits) den).1,
          subst (λ (v : ℤ). Denote words_form.state bits (v ∷ param ∷ [])) front den,
        )

bits : HasForm words_form words_starts (circuit_of words_program)
bits =
    let have = have_lengths words_program (λ n. false) in
    let state : length (circuit_of words_program).state_in ≡ 32 =
    sym (length-map (circuit_of words_program).state_in (value_of (λ n. false) (circuit_of words_program).nodes)) ∙ have.state in
    let input : length (circuit_of words_program).input ≡ 17 =
    sym (length-map (circuit_of words_program).input (value_of (λ n. false) (circuit_of words_program).nodes)) ∙ have.input in
    record { starts = sym state; state = state; input = input }

-- ---- a scan

bit-set : (b : Bool) (v : ℤ) → v ≡ value_of_bits ty.Bool (b ∷ []) → int_eq v (pos 1) ≡ b
unfolding Rattle.pv_word.specs.Wrap.wrap_at
bit-set true v e = ap (λ (w : ℤ). int_eq w (pos 1)) e
bit-set false v e = ap (λ (w : ℤ). int_eq w (pos 1)) e

first-set : (bits : Bits) (i : Values) → Denote words_form.input bits i → first bits ≡ is_set i
first-set bits [] den = absurd den
first-set [] (v ∷ rest) den = absurd (omega (arith, den.0.width))
first-set (b ∷ bits) (v ∷ rest) den = sym (bit-set b v (one-value v den.0))
  where
    head_of : Values → ℤ
    head_of [] = pos 0
    head_of (w ∷ rest) = w

    one-value : (v : ℤ) → AreBitsOf ty.Bool (b ∷ []) v → v ≡ value_of_bits ty.Bool (b ∷ [])
    one-value v are = ap head_of (one-values (ty.Bool ∷ []) (b ∷ []) (v ∷ []) (are, refl))

not-not : (b : Bool) → not (not b) ≡ b
not-not true = refl
not-not false = refl

scan : (s i : Values) (d : Denotes words_form (circuit_of words_program) s i)
    → IsScan words_machine words_form words_starts (circuit_of words_program) d.inputs s i
scan s i d = record {
  ok = (λ h. (s, record { done = refl; keeps = set-not (sym ok ∙ h) }), λ h. ok ∙ ap not h.1.keeps);
  fail = (λ h. sym fail ∙ h, λ h. fail ∙ h);
  next = λ t e. subst (λ (bs : Bits). Denote words_form.state bs t) (sym behind) (subst (Denote words_form.state before) (same_done s t e) d.state);
}
  where
    before : Bits
    before = state_before words_program d.inputs

    keeps_is : keeps words_program (state_before words_program d.inputs) (input_before words_program d.inputs) ≡ not (is_set i)
    keeps_is = ap not (first-set (input_before words_program d.inputs) i d.input)

    ok : value_of d.inputs (circuit_of words_program).nodes (circuit_of words_program).ok ≡ not (is_set i)
    ok = (does_the_scan words_program d.inputs words_own).ok ∙ keeps_is

    fail : value_of d.inputs (circuit_of words_program).nodes (circuit_of words_program).fail ≡ is_set i
    fail = (does_the_scan words_program d.inputs words_own).fail ∙ (ap not keeps_is ∙ not-not (is_set i))

    set-not : not (is_set i) ≡ true → is_set i ≡ false
    set-not e = sym (not-not (is_set i)) ∙ ap not e

    out : values_of d.inputs (circuit_of words_program).nodes (circuit_of words_program).state_out ≡ state_before words_program d.inputs
    out = (does_the_scan words_program d.inputs words_own).state_out
        ∙ state_of-begin words_program.bits (state_before words_program d.inputs) (input_before words_program d.inputs)
        (have_lengths words_program d.inputs).state

    behind : next_of words_starts (state_before words_program d.inputs) (values_of d.inputs (circuit_of words_program).nodes (circuit_of words_program).state_out)
        ≡ state_before words_program d.inputs
    behind = ap (next_of words_starts (state_before words_program d.inputs)) out
        ∙ same-next words_starts (state_before words_program d.inputs) (have_lengths words_program d.inputs).state

    same_done : (s t : Values) → done s ≡ done t → s ≡ t
    same_done s t e = cc

every : (s i : Values) → IsState words_machine s → IsInput words_machine i → Denotes words_form (circuit_of words_program) s i
every s i state input =
    let den_s = denote_values words_form.state s state in
    let den_i = denote_values words_form.input i input in
    let stand = stand_for words_program (bits_of_values words_form.state s) (bits_of_values words_form.input i)
    (long words_form.state (bits_of_values words_form.state s) s den_s) (long words_form.input (bits_of_values words_form.input i) i den_i) in
    record {
      inputs = stand.inputs;
      state = subst (λ (bs : Bits). Denote words_form.state bs s) (sym stand.state) den_s;
      input = subst (λ (bs : Bits). Denote words_form.input bs i) (sym stand.input) den_i;
    }

pub words_steps : Steps words_machine words_form words_starts (circuit_of words_program)
words_steps = record {
  bits = bits;
  ranges = ranges;
  starts = starts;
  scan = λ s i state input d. scan s i d;
  every = every;
}
