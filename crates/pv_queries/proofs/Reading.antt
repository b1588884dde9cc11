-- Bits as numbers: bit by bit, value by value, scan by scan.
use Rattle.std.proofs.Common.{◌≡◌, ℕ, ◌+◌, ◌-◌, ◌*◌, ◌<◌, ◌≤◌, ◌^◌, ℤ, Bool, true, false, List, [], ◌∷◌, ◌++◌, length, map, take, drop, refl, sym, ◌∙◌, ap, arith, lit≤, length-drop, length-take-le, append_assoc}
use Rattle.std.specs.Prelude.{slice_index_or}
use Rattle.std.specs.List.{AllZip}
use Rattle.std.proofs.Math.Pow.{pow_mono}
use Rattle.std.proofs.lemmas.List.{drop_more, drop-drop}
use Rattle.pv_word.specs.declared.types.Ty.{Ty}
use Rattle.pv_word.specs.declared.types.Ty.TheVariants as ty
use Rattle.pv_word.specs.Types.{width_of, is_signed_of}
use Rattle.pv_word.proofs.ForCallers.{wide, in_range-pattern_same}
use Rattle.pv_bits.specs.Words.{number_of_bit, number_of}
use Rattle.pv_machine.specs.Machines.{Values}
use Rattle.pv_circuit.specs.Steps.{widths, AreBitsOf, Denote}
use Rattle.pv_laws_frames.proofs.ForCallers.{number-few, bits-denote}
use Rattle.pv_queries.specs.Numbers.{value_of_bits, values_of_bits}

-- ---- bit by bit, from the last

pub number-more : (bits : List Bool) (n : ℕ) (d : Bool) → n < length bits
    → number_of (drop n bits) ≡ number_of_bit (slice_index_or bits n d) + 2 * number_of (drop (n + 1) bits)
number-more bits n d lt = ap number_of (drop_more bits n d lt)

pub bit-one : (b : Bool) → number_of_bit b ≤ 1
bit-one true = lit≤ tt
bit-one false = lit≤ tt

pub number-small : (bits : List Bool) → length bits ≤ 32 → number_of bits < 2 ^ 32
number-small bits le = let few = number-few bits in let more = pow_mono {i = length bits} {j = 32} le in omega (arith, few, more)

pub width-small : (t : Ty) → width_of t ≤ 32
width-small ty.Bool = lit≤ tt
width-small ty.Byte = lit≤ tt
width-small ty.Word = lit≤ tt
width-small ty.Dword = lit≤ tt
width-small ty.Int = lit≤ tt
width-small ty.Dint = lit≤ tt
width-small ty.Time = lit≤ tt

-- ---- value by value

pub values-more : (tys : List Ty) (bits : List Bool) (k at : ℕ) (d : Ty) → k < length tys
    → values_of_bits (drop k tys) (drop at bits)
    ≡ value_of_bits (slice_index_or tys k d) (take (width_of (slice_index_or tys k d)) (drop at bits))
    ∷ values_of_bits (drop (k + 1) tys) (drop (at + width_of (slice_index_or tys k d)) bits)
values-more tys bits k at d lt =
    let t : Ty = slice_index_or tys k d in
    ap (λ (ts : List Ty). values_of_bits ts (drop at bits)) (drop_more tys k d lt)
    ∙ ap (λ (bs : List Bool). value_of_bits t (take (width_of t) (drop at bits)) ∷ values_of_bits (drop (k + 1) tys) bs) (drop-drop (width_of t) at bits)

pub widths-more : (tys : List Ty) (k : ℕ) (d : Ty) → k < length tys
    → widths (drop k tys) ≡ width_of (slice_index_or tys k d) + widths (drop (k + 1) tys)
widths-more tys k d lt = ap widths (drop_more tys k d lt)

pub value-pushed : (tys : List Ty) (bits : List Bool) (k at w : ℕ) (d : Ty) (value : ℤ) (values new : List ℤ) → k < length tys
    → w ≡ width_of (slice_index_or tys k d) → value ≡ value_of_bits (slice_index_or tys k d) (take (at + w - at) (drop at bits))
    → new ≡ values ++ value ∷ [] → values ++ values_of_bits (drop k tys) (drop at bits) ≡ values_of_bits tys bits
    → new ++ values_of_bits (drop (k + 1) tys) (drop (at + w) bits) ≡ values_of_bits tys bits
value-pushed tys bits k at w d value values new lt width is pushed all =
    let t : Ty = slice_index_or tys k d in
    let rest : List ℤ = values_of_bits (drop (k + 1) tys) (drop (at + w) bits) in
    let whole : at + w - at ≡ width_of t = omega (arith, width) in
    let same : value ≡ value_of_bits t (take (width_of t) (drop at bits)) = is ∙ ap (λ (n : ℕ). value_of_bits t (take n (drop at bits))) whole in
    let later : rest ≡ values_of_bits (drop (k + 1) tys) (drop (at + width_of t) bits) =
    ap (λ (n : ℕ). values_of_bits (drop (k + 1) tys) (drop (at + n) bits)) width in
    let both : value ∷ rest ≡ values_of_bits (drop k tys) (drop at bits) =
    ap (λ (v : ℤ). v ∷ rest) same ∙ (ap (λ (vs : List ℤ). value_of_bits t (take (width_of t) (drop at bits)) ∷ vs) later ∙ sym (values-more tys bits k at d lt)) in
    ap (λ (vs : List ℤ). vs ++ rest) pushed ∙ (append_assoc values (value ∷ []) rest ∙ (ap (λ (vs : List ℤ). values ++ vs) both ∙ all))

-- ---- as they are denoted

pub some-values : (tys : List Ty) (bits : List Bool) → length bits ≡ widths tys → Denote tys bits (values_of_bits tys bits)
some-values [] [] long = refl
some-values [] (b ∷ bits) long = absurd (omega (arith, long))
some-values (t ∷ tys) bits long =
    let front : length (take (width_of t) bits) ≡ width_of t = length-take-le (width_of t) bits (omega (arith, long)) in
    let behind : length (drop (width_of t) bits) ≡ widths tys = omega (arith, long, length-drop (width_of t) bits) in
    (bits-denote t (take (width_of t) bits) front, some-values tys (drop (width_of t) bits) behind)

one-value : (t : Ty) (bits : List Bool) (v : ℤ) → AreBitsOf t bits v → v ≡ value_of_bits t bits
one-value t bits v are =
    let is = bits-denote t bits are.width in
    in_range-pattern_same (is_signed_of t) (wide t) are.in_range is.in_range (sym are.pattern ∙ is.pattern)

pub one-values : (tys : List Ty) (bits : List Bool) (vs : List ℤ) → Denote tys bits vs → vs ≡ values_of_bits tys bits
one-values [] bits [] den = refl
one-values [] bits (v ∷ vs) den = absurd den
one-values (t ∷ tys) bits [] den = absurd den
one-values (t ∷ tys) bits (v ∷ vs) den =
    ap (λ (x : ℤ). x ∷ vs) (one-value t (take (width_of t) bits) v den.0)
    ∙ ap (λ (xs : List ℤ). value_of_bits t (take (width_of t) bits) ∷ xs) (one-values tys (drop (width_of t) bits) vs den.1)

-- ---- scan by scan

pub scans-denoted : (tys : List Ty) (scans : List (List Bool)) (inputs : List Values) → AllZip (Denote tys) scans inputs → inputs ≡ map (values_of_bits tys) scans
scans-denoted tys [] [] are = refl
scans-denoted tys [] (i ∷ inputs) are = absurd are
scans-denoted tys (bits ∷ scans) [] are = absurd are
scans-denoted tys (bits ∷ scans) (i ∷ inputs) are =
    ap (λ (x : Values). x ∷ inputs) (one-values tys bits i are.0)
    ∙ ap (λ (xs : List Values). values_of_bits tys bits ∷ xs) (scans-denoted tys scans inputs are.1)
