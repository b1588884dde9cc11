-- The words of a division have the quotient and the remainder of the values.
use Rattle.std.proofs.Common.{◌≡◌, ℕ, ◌+◌, ◌*◌, ◌/◌, ◌%◌, ◌<◌, ◌^◌, Bool, false, List, length, suc, zero, refl, sym, ◌∙◌, ap, subst, arith}
use Rattle.std.specs.Prelude.{ℤ, pos, negsuc, neg_ℤ, ◌-ℤ◌}
use Rattle.std.proofs.lemmas.Int.{ints}
use Rattle.std.proofs.lemmas.Nat.{div-add-mod'}
use Rattle.std.proofs.Math.Nat.{mod-eq_of_lt, div-eq_of_lt-le}
use Rattle.pv_gate.specs.declared.netlist.Node.{Node}
use Rattle.pv_gate.specs.Netlist.{IsNetlist}
use Rattle.pv_gate.specs.Building.{Have, Makes}
use Rattle.pv_gate.proofs.ForCallers.{length-have, makes_as}
use Rattle.pv_word.specs.declared.types.Ty.{Ty}
use Rattle.pv_word.specs.Range.{IsInRange}
use Rattle.pv_word.specs.Wrap.{IsCongruent}
use Rattle.pv_word.specs.Bits.{pattern_at}
use Rattle.pv_word.specs.Types.{width_of, is_signed_of, wrap_of, pattern_of}
use Rattle.pv_word.proofs.ForCallers.{congruent-refl, congruent-difference, congruent-from_parts, congruent-trans, wide, wrap-congruent, wrap-congruent_same, pattern-not_negative}
use Rattle.pv_bits.specs.Circuits.{Word, divide_unsigned}
use Rattle.pv_word.specs.Quotients.{by_zero, quotient_of, remainder_of}
use Rattle.pv_bits.specs.Words.{number_of, IsWord, Divides}
use Rattle.pv_bits.proofs.Bits.{Bits, weight-power, number-below}
use Rattle.pv_bits.proofs.WordLaws.{word_of_congruent, bits-width, bits-same}
use Rattle.pv_bits.proofs.Division.{Division, makes_divide_unsigned}

-- ---- whole numbers from 0

pub quotient_is : (a b q r : ℕ) → a ≡ q * b + r → r < b → a / b ≡ q
quotient_is a b q r e lt = div-eq_of_lt-le {k = q} b (omega arith) (omega arith)

pub remainder_is : (a b q r : ℕ) → a ≡ q * b + r → r < b → a % b ≡ r
remainder_is a b q r e lt = omega (arith, div-add-mod' a b, ap (λ n. n * b) (quotient_is a b q r e lt))

-- bits as the word of their number
pub number_word : (ty : Ty) {inputs : ℕ → Bool} {nodes : List Node} {w : Word} (bits : Bits) → Have inputs nodes w bits → length bits ≡ width_of ty → IsWord ty inputs nodes w (wrap_of ty (pos (number_of bits)))
number_word ty bits have is =
    let small : number_of bits < 2 ^ width_of ty = subst (λ m. number_of bits < m) (weight-power bits ∙ ap (λ k. 2 ^ k) is) (number-below bits) in
    word_of_congruent ty bits (number_of bits) (pos (number_of bits)) have is (sym (mod-eq_of_lt small)) (congruent-refl (2 ^ width_of ty) _)

pub word_as : {ty : Ty} {inputs : ℕ → Bool} {nodes : List Node} {w : Word} {v u : ℤ} → v ≡ u → IsWord ty inputs nodes w v → IsWord ty inputs nodes w u
word_as {ty} {inputs} {nodes} {w} {v} {u} e h = subst (λ z. IsWord ty inputs nodes w z) e h

pub minus_one : (ty : Ty) (n : ℕ) → n + 1 ≡ 2 ^ width_of ty → wrap_of ty (pos n) ≡ wrap_of ty (negsuc 0)
minus_one ty n e =
    wrap-congruent_same (is_signed_of ty) (wide ty) (congruent-from_parts (2 ^ width_of ty) 0 1 (pos n) (negsuc 0) (omega arith))

pub plus_one : (ty : Ty) (n : ℕ) → n + 1 ≡ 2 ^ width_of ty → wrap_of ty (pos 0 -ℤ wrap_of ty (pos n)) ≡ wrap_of ty (pos 1)
plus_one ty n e =
    let m = 2 ^ width_of ty in
    let c : IsCongruent m (wrap_of ty (pos n)) (negsuc 0) = congruent-trans (wrap-congruent (width_of ty) (is_signed_of ty) (pos n) (wide ty)) (congruent-from_parts m 0 1 (pos n) (negsuc 0) (omega arith)) in
    wrap-congruent_same (is_signed_of ty) (wide ty) (congruent-difference (congruent-refl m (pos 0)) c)

pub negated : (ty : Ty) (n : ℕ) → wrap_of ty (pos 0 -ℤ wrap_of ty (pos n)) ≡ wrap_of ty (neg_ℤ (pos n))
negated ty n =
    let m = 2 ^ width_of ty in
    let e : pos 0 -ℤ pos n ≡ neg_ℤ (pos n) = omega (arith, ints) in
    wrap-congruent_same (is_signed_of ty) (wide ty) (congruent-difference (congruent-refl m (pos 0)) (wrap-congruent (width_of ty) (is_signed_of ty) (pos n) (wide ty)))
    ∙ ap (wrap_of ty) e

-- ---- from 0

pattern_from : (w k : ℕ) → 0 < w → IsInRange w false (pos k) → pattern_at w (pos k) ≡ k
pattern_from w k p h = omega (arith, ints, pattern-not_negative w false (pos k) p h h.from)

unsigned_quotient : (ty : Ty) (v u : ℤ) (q r : ℕ) → is_signed_of ty ≡ false → IsInRange (width_of ty) false v → IsInRange (width_of ty) false u → pattern_of ty v ≡ q * pattern_of ty u + r → (0 < pattern_of ty u → r < pattern_of ty u) → (pattern_of ty u ≡ 0 → q + 1 ≡ 2 ^ width_of ty) → wrap_of ty (pos q) ≡ quotient_of ty v u
unsigned_quotient ty (negsuc a) u q r s h k e small ones = absurd (omega (arith, ints, h.from))
unsigned_quotient ty (pos a) (negsuc b) q r s h k e small ones = absurd (omega (arith, ints, k.from))
unsigned_quotient ty (pos a) (pos zero) q r s h k e small ones =
    minus_one ty q (ones (pattern_from (width_of ty) 0 (wide ty) k)) ∙ ap (λ t. wrap_of ty (by_zero t (pos a))) (sym s)
unsigned_quotient ty (pos a) (pos (suc b)) q r s h k e small ones =
    let x = pattern_from (width_of ty) a (wide ty) h in
    let y = pattern_from (width_of ty) (suc b) (wide ty) k in
    let f : a ≡ q * suc b + r = sym x ∙ (e ∙ ap (λ n. q * n + r) y) in
    ap (λ n. wrap_of ty (pos n)) (sym (quotient_is a (suc b) q r f (subst (λ n. r < n) y (small (omega arith)))))

unsigned_remainder : (ty : Ty) (v u : ℤ) (q r : ℕ) {inputs : ℕ → Bool} {nodes : List Node} {w : Word} (bits : Bits) → IsInRange (width_of ty) false v → IsInRange (width_of ty) false u → IsInRange (width_of ty) (is_signed_of ty) v → number_of bits ≡ r → pattern_of ty v ≡ q * pattern_of ty u + r → (0 < pattern_of ty u → r < pattern_of ty u) → Have inputs nodes w bits → length bits ≡ width_of ty → IsWord ty inputs nodes w (remainder_of ty v u)
unsigned_remainder ty (negsuc a) u q r bits h k i is e small have long = absurd (omega (arith, ints, h.from))
unsigned_remainder ty (pos a) (negsuc b) q r bits h k i is e small have long = absurd (omega (arith, ints, k.from))
unsigned_remainder ty (pos a) (pos zero) q r bits h k i is e small have long =
    let none : pattern_of ty (pos 0) ≡ 0 = pattern_from (width_of ty) 0 (wide ty) k in
    record {
      bits = bits;
      have = have;
      width = length-have have ∙ long;
      in_range = i;
      pattern = is ∙ sym (e ∙ (ap (λ n. q * n + r) none ∙ omega arith));
    }
unsigned_remainder ty (pos a) (pos (suc b)) q r bits h k i is e small have long =
    let x = pattern_from (width_of ty) a (wide ty) h in
    let y = pattern_from (width_of ty) (suc b) (wide ty) k in
    let f : a ≡ q * suc b + r = sym x ∙ (e ∙ ap (λ n. q * n + r) y) in
    word_as (ap (λ n. wrap_of ty (pos n)) (is ∙ sym (remainder_is a (suc b) q r f (subst (λ n. r < n) y (small (omega arith)))))) (number_word ty bits have long)

pub divide_unsigned_words : {ty : Ty} {inputs : ℕ → Bool} {nodes : List Node} {a b : Word} {v u : ℤ} → is_signed_of ty ≡ false → IsNetlist nodes → IsWord ty inputs nodes a v → IsWord ty inputs nodes b u → Makes nodes (λ ms o. Divides ty v u inputs ms o) (divide_unsigned a b)
divide_unsigned_words {ty} {inputs} {nodes} {a} {b} {v} {u} s net p q =
    let h = subst (λ t. IsInRange (width_of ty) t v) s p.in_range in
    let k = subst (λ t. IsInRange (width_of ty) t u) s q.in_range in
    makes_as (λ ms o (d : Division inputs p.bits q.bits ms o).
    let e : pattern_of ty v ≡ number_of d.quotient_bits * pattern_of ty u + number_of d.remainder_bits = sym p.pattern ∙ (d.equation ∙ ap (λ n. number_of d.quotient_bits * n + number_of d.remainder_bits) q.pattern) in
    let small : 0 < pattern_of ty u → number_of d.remainder_bits < pattern_of ty u = λ lt. let r = d.small (omega (arith, q.pattern)) in omega (arith, q.pattern) in
    record {
      quotient_word = word_as (unsigned_quotient ty v u (number_of d.quotient_bits) (number_of d.remainder_bits) s h k e small (λ z. d.ones (q.pattern ∙ z) ∙ ap (λ n. 2 ^ n) (bits-width p)))
          (number_word ty d.quotient_bits d.quotient (d.quotient_width ∙ bits-width p));
      remainder_word = unsigned_remainder ty v u (number_of d.quotient_bits) (number_of d.remainder_bits) d.remainder_bits h k p.in_range refl e small d.remainder (d.remainder_width ∙ bits-width p);
    })
    (makes_divide_unsigned (bits-same p q) net p.have q.have)
