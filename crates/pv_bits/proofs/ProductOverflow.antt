-- Overflow of a product: over 32 bits it is a number of 16 exactly where its lower half stands for it.
use Rattle.std.proofs.Common.{◌≡◌, ℕ, ◌+◌, ◌-◌, ◌*◌, ◌/◌, ◌<◌, ◌≤◌, ◌^◌, Bool, true, false, not, List, ◌++◌, length, length-append, length-drop, length-take-le, take, drop, replicate, suc, zero, refl, sym, ◌∙◌, ap, subst, arith}
use Rattle.std.specs.Prelude.{ℤ, pos, negsuc, ◌*ℤ◌}
use Rattle.std.specs.List.{fold}
use Rattle.std.proofs.lemmas.Int.{ints}
use Rattle.std.proofs.lemmas.List.{length-replicate}
use Rattle.std.proofs.lemmas.Nat.{mul-le}
use Rattle.pv_gate.specs.declared.netlist.Node.{Node}
use Rattle.pv_gate.specs.Netlist.{IsNetlist}
use Rattle.pv_gate.specs.Building.{pairs, Has, Have, Makes}
use Rattle.pv_gate.proofs.ForCallers.{has_not, have_append, have_cons, have_none, length-have, makes_as, makes_done, makes_then}
use Rattle.pv_word.specs.declared.types.Ty.TheVariants.{Int, Dint}
use Rattle.pv_word.specs.Range.{IsInRange}
use Rattle.pv_word.specs.Bits.{pattern_at}
use Rattle.pv_word.specs.Types.{wrap_of, InRange}
use Rattle.pv_word.proofs.ForCallers.{wide, wrap-own, pattern-not_negative, pattern-negative}
use Rattle.pv_bits.specs.Circuits.{Word, top, from_half, product_overflow}
use Rattle.pv_bits.specs.Words.{number_of_bit, number_of, IsWord, Decides, Past}
use Rattle.pv_bits.proofs.Bits.{Bits, weight, weight-power, number-append, number-below, number-cut, equal_step, equal-true, equal-from}
use Rattle.pv_bits.proofs.TopBits.{top_bit, low_bits, has_top, number-top, low-below}
use Rattle.pv_bits.proofs.Values.{have_front, makes_equal}
use Rattle.pv_bits.proofs.WordLaws.{bits-width, product_words}
use Rattle.pv_bits.proofs.SumOverflow.{decides_by}

-- ---- the lower half

-- 16 bits, with the highest in each place above
abbrev spread : Bits → Bits
spread zs = take 16 zs ++ replicate 16 (top_bit (take 16 zs))

have_copies : {inputs : ℕ → Bool} {nodes : List Node} {l : ℤ} {t : Bool} (n : ℕ) → Has inputs nodes l t → Have inputs nodes (replicate n l) (replicate n t)
have_copies zero h = have_none
have_copies (suc n) h = have_cons h (have_copies n h)

half_of : (n : ℕ) → n ≡ 32 → n / 2 ≡ 16
half_of n e = ap (λ k. k / 2) e

have_half : {inputs : ℕ → Bool} {nodes : List Node} {ls : Word} {zs : Bits} → length ls ≡ 32 → Have inputs nodes ls zs → Have inputs nodes (from_half ls) (spread zs)
have_half {inputs} {nodes} {ls} {zs} e h =
    let front = have_front 16 h in
    let long : length (take 16 ls) ≡ 16 = length-take-le 16 ls (omega (arith, e)) in
    let high = has_top (omega (arith, long)) front in
    let at : Have inputs nodes (take 16 ls ++ replicate 16 (top (take 16 ls))) (spread zs) = have_append front (have_copies 16 high) in
    let P : ℕ → Type 0 = λ n. Have inputs nodes (take (n / 2) ls ++ replicate (n - n / 2) (top (take (n / 2) ls))) (spread zs) in
    subst P (sym e) at

number-copies : (t : Bool) → number_of (replicate 16 t) ≡ 65535 * number_of_bit t
number-copies true = refl
number-copies false = refl

-- the number of 32 bits, and of what their lower half stands for
record Halves (zs : Bits) : Type 0 where
  low : ℕ
  high : ℕ
  low_small : low < 32768
  high_small : high < 65536
  whole : number_of zs ≡ low + 32768 * number_of_bit (top_bit (take 16 zs)) + 65536 * high
  half : number_of (spread zs) ≡ low + 32768 * number_of_bit (top_bit (take 16 zs)) + 65536 * (65535 * number_of_bit (top_bit (take 16 zs)))

halves : (zs : Bits) → length zs ≡ 32 → Halves zs
halves zs e =
    let xs = take 16 zs in
    let ys = drop 16 zs in
    let t = top_bit xs in
    let long : length xs ≡ 16 = length-take-le 16 zs (omega (arith, e)) in
    let rest : length ys ≡ 16 = length-drop 16 zs ∙ ap (λ n. n - 16) e in
    let power : 2 ^ (length xs - 1) ≡ 32768 = ap (λ n. 2 ^ (n - 1)) long in
    let heavy : weight xs ≡ 65536 = weight-power xs ∙ ap (λ n. 2 ^ n) long in
    let lower : number_of xs ≡ number_of (low_bits xs) + 32768 * number_of_bit t = number-top xs (omega (arith, long)) ∙ ap (λ n. number_of (low_bits xs) + n * number_of_bit t) power in
    record {
      low = number_of (low_bits xs);
      high = number_of ys;
      low_small = subst (λ n. number_of (low_bits xs) < n) power (low-below xs);
      high_small = subst (λ n. number_of ys < n) (weight-power ys ∙ ap (λ n. 2 ^ n) rest) (number-below ys);
      whole = number-cut 16 zs (omega (arith, e)) ∙ ap (λ n. n + 65536 * number_of ys) lower;
      half = number-append xs (replicate 16 t) ∙ (ap (λ n. n + weight xs * number_of (replicate 16 t)) lower ∙ (ap (λ n. number_of (low_bits xs) + 32768 * number_of_bit t + n * number_of (replicate 16 t)) heavy ∙ ap (λ n. number_of (low_bits xs) + 32768 * number_of_bit t + 65536 * n) (number-copies t)));
    }

-- ---- numbers of 16 bits among those of 32

fits : (t : Bool) (i k : ℕ) (z : ℤ) → i < 32768 → k < 65536 → i + 32768 * number_of_bit t + 65536 * k ≡ pattern_at 32 z → IsInRange 32 true z → k ≡ 65535 * number_of_bit t → IsInRange 16 true z
fits true i k (pos n) p q e h is = absurd (omega (arith, ints, e, is, h.to, pattern-not_negative 32 true (pos n) (omega arith) h (omega (arith, ints))))
fits false i k (pos n) p q e h is = record {
  from = omega (arith, ints);
  to = omega (arith, ints, e, is, p, pattern-not_negative 32 true (pos n) (omega arith) h (omega (arith, ints)));
}
fits true i k (negsuc n) p q e h is = record {
  from = omega (arith, ints, e, is, p, pattern-negative 32 true (negsuc n) (omega arith) h (omega (arith, ints)));
  to = omega (arith, ints);
}
fits false i k (negsuc n) p q e h is = absurd (omega (arith, ints, e, is, p, h.from, pattern-negative 32 true (negsuc n) (omega arith) h (omega (arith, ints))))

stands : (t : Bool) (i k : ℕ) (z : ℤ) → i < 32768 → k < 65536 → i + 32768 * number_of_bit t + 65536 * k ≡ pattern_at 32 z → IsInRange 32 true z → IsInRange 16 true z → k ≡ 65535 * number_of_bit t
stands true i k (pos n) p q e h in_ = absurd (omega (arith, ints, e, in_.to, pattern-not_negative 32 true (pos n) (omega arith) h (omega (arith, ints))))
stands false i k (pos n) p q e h in_ = omega (arith, ints, e, in_.to, pattern-not_negative 32 true (pos n) (omega arith) h (omega (arith, ints)))
stands true i k (negsuc n) p q e h in_ = omega (arith, ints, e, p, q, in_.from, pattern-negative 32 true (negsuc n) (omega arith) h (omega (arith, ints)))
stands false i k (negsuc n) p q e h in_ = absurd (omega (arith, ints, e, p, q, in_.from, pattern-negative 32 true (negsuc n) (omega arith) h (omega (arith, ints))))

-- the product of two numbers of 16 bits is one of 32
small_product : (v u : ℤ) → IsInRange 16 true v → IsInRange 16 true u → IsInRange 32 true (v *ℤ u)
small_product (pos a) (pos b) h k =
    let le : a * b ≤ 32768 * 32768 = mul-le a b 32768 32768 (omega (arith, ints, h.to)) (omega (arith, ints, k.to)) in
    record { from = omega (arith, ints, le); to = omega (arith, ints, le) }
small_product (pos a) (negsuc b) h k =
    let le : a * suc b ≤ 32768 * 32768 = mul-le a (suc b) 32768 32768 (omega (arith, ints, h.to)) (omega (arith, ints, k.from)) in
    record { from = omega (arith, ints, le); to = omega (arith, ints, le) }
small_product (negsuc a) (pos b) h k =
    let le : suc a * b ≤ 32768 * 32768 = mul-le (suc a) b 32768 32768 (omega (arith, ints, h.from)) (omega (arith, ints, k.to)) in
    record { from = omega (arith, ints, le); to = omega (arith, ints, le) }
small_product (negsuc a) (negsuc b) h k =
    let le : suc a * suc b ≤ 32768 * 32768 = mul-le (suc a) (suc b) 32768 32768 (omega (arith, ints, h.from)) (omega (arith, ints, k.from)) in
    record { from = omega (arith, ints, le); to = omega (arith, ints, le) }

-- ---- the circuit

not_true : (f : Bool) → not f ≡ true → f ≡ true → ⊥
not_true f p q = absurd (omega (arith, ap number_of_bit (sym p ∙ ap not q)))

not_false : (f : Bool) → not f ≡ false → f ≡ true
not_false true p = refl
not_false false p = absurd (omega (arith, ap number_of_bit p))

pub product_overflow_words : {inputs : ℕ → Bool} {nodes : List Node} {a b : Word} {v u : ℤ} → IsNetlist nodes → IsWord Dint inputs nodes a v → IsWord Dint inputs nodes b u → Makes nodes (λ ms l. Decides inputs ms l (Past Int (wrap_of Dint (v *ℤ u)))) (product_overflow a b)
unfolding product_overflow
product_overflow_words {inputs} {nodes} {a} {b} {v} {u} net p q =
    let z = wrap_of Dint (v *ℤ u) in
    makes_then (product_words net p q) (λ n1 product o1 e1 (k : IsWord Dint inputs n1 product z).
    let c = halves k.bits (bits-width k) in
    let t = top_bit (take 16 k.bits) in
    let f = fold equal_step true (pairs k.bits (spread k.bits)) in
    let half = have_half k.width k.have in
    let same : length k.bits ≡ length (spread k.bits) = sym (length-have k.have) ∙ (k.width ∙ (sym (half_long k.bits (bits-width k)))) in
    let e : c.low + 32768 * number_of_bit t + 65536 * c.high ≡ pattern_at 32 z = sym c.whole ∙ k.pattern in
    let to : f ≡ true → IsInRange 16 true z = λ g. fits t c.low c.high z c.low_small c.high_small e k.in_range (omega (arith, c.whole, c.half, (equal-true true k.bits (spread k.bits) same g).1)) in
    let from : IsInRange 16 true z → f ≡ true = λ g. let is = stands t c.low c.high z c.low_small c.high_small e k.in_range g in equal-from true k.bits (spread k.bits) same refl (c.whole ∙ (ap (λ n. c.low + 32768 * number_of_bit t + 65536 * n) is ∙ sym c.half)) in
    makes_then (makes_equal o1 k.have half) (λ n2 l o2 e2 (h : Has inputs n2 l f).
    makes_done _ o2 (decides_by (not f) (has_not h) (λ g r. not_true f g (from r)) (λ g r. r (to (not_false f g))))))
  where
    half_long : (zs : Bits) → length zs ≡ 32 → length (spread zs) ≡ 32
    half_long zs e = length-append (take 16 zs) (replicate 16 (top_bit (take 16 zs))) ∙ (ap (λ n. n + length (replicate 16 (top_bit (take 16 zs)))) (length-take-le 16 zs (omega (arith, e))) ∙ ap (λ n. 16 + n) (length-replicate 16 (top_bit (take 16 zs))))

pub int_product_overflow_words : {inputs : ℕ → Bool} {nodes : List Node} {a b : Word} {v u : ℤ} → IsNetlist nodes → IsWord Dint inputs nodes a v → IsWord Dint inputs nodes b u → Makes nodes (λ ms l. InRange Int v → InRange Int u → Decides inputs ms l (Past Int (v *ℤ u))) (product_overflow a b)
int_product_overflow_words {inputs} {nodes} {a} {b} {v} {u} net p q =
    makes_as (λ ms l (d : Decides inputs ms l (Past Int (wrap_of Dint (v *ℤ u)))) (h : InRange Int v) (k : InRange Int u).
    let own : wrap_of Dint (v *ℤ u) ≡ v *ℤ u = wrap-own (wide Dint) (small_product v u h k) in
    subst (λ z. Decides inputs ms l (Past Int z)) own d) (product_overflow_words net p q)
