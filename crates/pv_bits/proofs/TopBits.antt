-- The highest bit of a word and those below it.
use Rattle.std.proofs.Common.{◌≡◌, ℕ, ◌+◌, ◌-◌, ◌*◌, ◌<◌, ◌≤◌, ◌^◌, Bool, false, List, [], ◌∷◌, ◌++◌, length, length-take-le, take, suc, zero, get_or, sym, ◌∙◌, ap, subst, arith}
use Rattle.std.specs.Prelude.{pos}
use Rattle.std.specs.List.{AllZip}
use Rattle.std.proofs.lemmas.List.{take_more, take_all}
use Rattle.pv_gate.specs.declared.netlist.Node.{Node}
use Rattle.pv_gate.specs.Building.{Has, Have}
use Rattle.pv_gate.proofs.ForCallers.{length-have}
use Rattle.pv_bits.specs.Circuits.{Word, top, below_top}
use Rattle.pv_bits.specs.Words.{number_of_bit, number_of}
use Rattle.pv_bits.proofs.Bits.{Bits, weight, weight-power, number-below, number-append}
use Rattle.pv_bits.proofs.Values.{have_front}

all_get : (inputs : ℕ → Bool) (nodes : List Node) (ls : Word) (vs : Bits) (i : ℕ) → i < length ls → AllZip (Has inputs nodes) ls vs → Has inputs nodes (get_or ls i (pos 0)) (get_or vs i false)
all_get inputs nodes [] vs i lt h = absurd (omega arith)
all_get inputs nodes (l ∷ ls) [] i lt h = absurd h
all_get inputs nodes (l ∷ ls) (v ∷ vs) zero lt h = h.0
all_get inputs nodes (l ∷ ls) (v ∷ vs) (suc i) lt h = all_get inputs nodes ls vs i (omega arith) h.1

abbrev pub top_bit : Bits → Bool
top_bit vs = get_or vs (length vs - 1) false

abbrev pub low_bits : Bits → Bits
low_bits vs = take (length vs - 1) vs

pub has_top : {inputs : ℕ → Bool} {nodes : List Node} {ls : Word} {vs : Bits} → 1 ≤ length ls → Have inputs nodes ls vs → Has inputs nodes (top ls) (top_bit vs)
has_top {inputs} {nodes} {ls} {vs} lt h =
    let at : Has inputs nodes (top ls) (get_or vs (length ls - 1) false) = all_get inputs nodes ls vs (length ls - 1) (omega arith) h.each in
    subst (λ n. Has inputs nodes (top ls) (get_or vs (n - 1) false)) (length-have h) at

pub have_low : {inputs : ℕ → Bool} {nodes : List Node} {ls : Word} {vs : Bits} → Have inputs nodes ls vs → Have inputs nodes (below_top ls) (low_bits vs)
have_low {inputs} {nodes} {ls} {vs} h = subst (λ n. Have inputs nodes (below_top ls) (take (n - 1) vs)) (length-have h) (have_front (length ls - 1) h)

pub length-low : (vs : Bits) → length (low_bits vs) ≡ length vs - 1
length-low vs = length-take-le (length vs - 1) vs (omega arith)

-- the number is that of the lower bits and the highest one
pub number-top : (vs : Bits) → 1 ≤ length vs → number_of vs ≡ number_of (low_bits vs) + 2 ^ (length vs - 1) * number_of_bit (top_bit vs)
number-top vs lt =
    let i = length vs - 1 in
    let next : i + 1 ≡ length vs = omega arith in
    let split : vs ≡ low_bits vs ++ top_bit vs ∷ [] = sym (take_all (i + 1) vs (omega arith)) ∙ take_more vs i false (omega arith) in
    let p : weight (low_bits vs) ≡ 2 ^ i = weight-power (low_bits vs) ∙ ap (λ n. 2 ^ n) (length-low vs) in
    ap number_of split ∙ (number-append (low_bits vs) (top_bit vs ∷ []) ∙ (ap (λ m. number_of (low_bits vs) + m * (number_of_bit (top_bit vs) + 2 * 0)) p ∙ omega arith))

pub low-below : (vs : Bits) → number_of (low_bits vs) < 2 ^ (length vs - 1)
low-below vs = subst (λ n. number_of (low_bits vs) < n) (weight-power (low_bits vs) ∙ ap (λ n. 2 ^ n) (length-low vs)) (number-below (low_bits vs))
