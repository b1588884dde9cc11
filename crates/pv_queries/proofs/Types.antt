-- As many types as ranges: a machine's states and inputs have a value for each.
use Rattle.std.proofs.Common.{◌≡◌, ℕ, zero, suc, Bool, false, List, [], ◌∷◌, length, drop, refl, sym, ◌∙◌, ap}
use Rattle.pv_word.specs.declared.types.Ty.{Ty}
use Rattle.pv_word.specs.Types.{width_of}
use Rattle.pv_place.specs.Ranges.{Range, AreWithin}
use Rattle.pv_machine.specs.Machines.{Machine, Values}
use Rattle.pv_circuit.specs.declared.start.Start.{Start}
use Rattle.pv_circuit.specs.declared.start.Start.TheVariants.{Fixed, Begins, Free}
use Rattle.pv_circuit.specs.Circuits.{Circuit}
use Rattle.pv_circuit.specs.Starts.{AreState}
use Rattle.pv_circuit.specs.Steps.{Form, widths, Steps}
use Rattle.pv_queries.specs.Numbers.{values_of_bits}
use Rattle.pv_queries.proofs.Reading.{some-values}

within-length : (rs : List Range) (vs : Values) → AreWithin rs vs → length vs ≡ length rs
within-length [] [] h = refl
within-length [] (v ∷ vs) h = absurd h
within-length (r ∷ rs) [] h = absurd h
within-length (r ∷ rs) (v ∷ vs) h = ap suc (within-length rs vs h.1)

pub values-long : (tys : List Ty) (bits : List Bool) → length (values_of_bits tys bits) ≡ length tys
values-long [] bits = refl
values-long (t ∷ tys) bits = ap suc (values-long tys (drop (width_of t) bits))

-- bits of a state
abbrev bit_of : Start → Bool
bit_of (Fixed b) = b
bit_of (Begins b) = b
bit_of Free = false

abbrev bits_in : List Start → List Bool
bits_in [] = []
bits_in (s ∷ start) = bit_of s ∷ bits_in start

bits-are : (start : List Start) → AreState start (bits_in start)
bits-are [] = tt
bits-are (Fixed b ∷ start) = (refl, bits-are start)
bits-are (Begins b ∷ start) = (tt, bits-are start)
bits-are (Free ∷ start) = (tt, bits-are start)

bits-long : (start : List Start) → length (bits_in start) ≡ length start
bits-long [] = refl
bits-long (s ∷ start) = ap suc (bits-long start)

abbrev falses : ℕ → List Bool
falses zero = []
falses (suc n) = false ∷ falses n

falses-long : (n : ℕ) → length (falses n) ≡ n
falses-long zero = refl
falses-long (suc n) = ap suc (falses-long n)

pub state-types : (m : Machine) (form : Form) (start : List Start) (c : Circuit) → Steps m form start c → length form.state ≡ length m.state
state-types m form start c steps =
    let bits = bits_in start in
    let long : length bits ≡ widths form.state = bits-long start ∙ (steps.bits.starts ∙ steps.bits.state) in
    let is = (steps.ranges.state bits (values_of_bits form.state bits) (some-values form.state bits long)).1 (bits-are start) in
    sym (values-long form.state bits) ∙ within-length m.state (values_of_bits form.state bits) is

pub input-types : (m : Machine) (form : Form) (start : List Start) (c : Circuit) → Steps m form start c → length form.input ≡ length m.input
input-types m form start c steps =
    let bits = falses (widths form.input) in
    let long : length bits ≡ widths form.input = falses-long (widths form.input) in
    let is = steps.ranges.input bits (values_of_bits form.input bits) (some-values form.input bits long) in
    sym (values-long form.input bits) ∙ within-length m.input (values_of_bits form.input bits) is
