-- Overflow: over words with one bit more a sum or a difference is exact, so that its highest bits say whether it is a value of the type.
use Rattle.std.proofs.Common.{◌≡◌, ℕ, ◌+◌, ◌-◌, ◌*◌, ◌%◌, ◌<◌, ◌^◌, Bool, true, false, not, List, [], ◌∷◌, ◌++◌, length, length-append, map, refl, sym, ◌∙◌, ap, subst, arith}
use Rattle.std.specs.Prelude.{ℤ, pos, negsuc, neg_ℤ, ◌+ℤ◌, ◌-ℤ◌, ◌<ℤ◌, ◌≤ℤ◌}
use Rattle.std.proofs.lemmas.Int.{ints}
use Rattle.std.proofs.lemmas.Nat.{pow_pos, pow-add}
use Rattle.std.proofs.Math.Nat.{mod-eq_of_lt}
use Rattle.pv_gate.specs.declared.netlist.Node.{Node}
use Rattle.pv_gate.specs.Value.{exclusive_or}
use Rattle.pv_gate.specs.Netlist.{IsNetlist}
use Rattle.pv_gate.specs.Building.{Has, Have, Makes}
use Rattle.pv_gate.proofs.ForCallers.{has_false, have_push, length-have, makes_as, makes_done, makes_then, makes_xor}
use Rattle.pv_word.specs.declared.types.Ty.{Ty}
use Rattle.pv_word.specs.Range.{IsInRange}
use Rattle.pv_word.specs.Wrap.{IsCongruent}
use Rattle.pv_word.specs.Bits.{pattern_at}
use Rattle.pv_word.specs.Types.{width_of, is_signed_of}
use Rattle.pv_word.proofs.ForCallers.{congruent-sum, congruent-difference, congruent-trans, congruent-from_parts, wide, double, pattern-pos, pattern-congruent, pattern-congruent_same, pattern-not_negative, pattern-negative}
use Rattle.pv_bits.specs.Circuits.{Word, wider, past, sum_overflow, difference_overflow}
use Rattle.pv_bits.specs.Words.{number_of_bit, number_of, IsWord, Decides, Past}
use Rattle.pv_bits.proofs.Bits.{Bits, weight, weight-power, number-append, number-nots, sum_bits, length-sum_bits, sum_bits-mod}
use Rattle.pv_bits.proofs.TopBits.{top_bit, low_bits, has_top, have_low, length-low, number-top, low-below}
use Rattle.pv_bits.proofs.Values.{makes_adder, makes_subtract}
use Rattle.pv_bits.proofs.WordLaws.{bits-width, length-nots}
use Rattle.pv_bits.proofs.SignedDivision.{IsSign, sign_of}

pub decides_by : {inputs : ℕ → Bool} {nodes : List Node} {l : ℤ} {P : Type 0} (f : Bool) → Has inputs nodes l f → (f ≡ true → P) → (f ≡ false → P → ⊥) → Decides inputs nodes l P
decides_by true h yes_ no_ = record { truth = true; has = h; is = (yes_, λ _. refl) }
decides_by false h yes_ no_ = record { truth = false; has = h; is = (yes_, λ p. absurd (no_ refl p)) }

-- ---- one bit more

twice : (w : ℕ) → 2 ^ (w + 1) ≡ 2 * 2 ^ w
twice w = pow-add 2 w 1 ∙ omega arith

below_next : (w : ℕ) → 2 ^ (w + 1 - 1) ≡ 2 ^ w
below_next w =
    let e : w + 1 - 1 ≡ w = omega arith in
    ap (λ n. 2 ^ n) e

next_range : (w : ℕ) (v : ℤ) → neg_ℤ (pos (2 ^ w)) ≤ℤ v → v <ℤ pos (2 ^ w) → IsInRange (w + 1) true v
next_range w v low high = record {
  from = omega (arith, ints, low, below_next w);
  to = omega (arith, ints, high, below_next w);
}

-- what the bit above a word is
abbrev pub above : Bool → Bits → Bool
above true xs = top_bit xs
above false xs = false

number-wider : (xs : Bits) (t : Bool) (w : ℕ) → length xs ≡ w → number_of (xs ++ t ∷ []) ≡ number_of xs + 2 ^ w * number_of_bit t
number-wider xs t w e = number-append xs (t ∷ []) ∙ (ap (λ m. number_of xs + m * (number_of_bit t + 2 * 0)) (weight-power xs ∙ ap (λ n. 2 ^ n) e) ∙ omega arith)

-- the bits are those of the same value, with one more
wider_at : (s t : Bool) (w : ℕ) (v : ℤ) (n : ℕ) → 0 < w → IsInRange w s v → n ≡ pattern_at w v → (s ≡ true → IsSign t v) → (s ≡ false → t ≡ false) → n + 2 ^ w * number_of_bit t ≡ pattern_at (w + 1) v
wider_at true true w (pos k) n p h e f g = absurd (omega (arith, ap number_of_bit (f refl)))
wider_at true false w (pos k) n p h e f g =
    let is = pattern-not_negative w true (pos k) p h (omega (arith, ints)) in
    let small : k < 2 ^ (w + 1) = omega (arith, ints, h.to, twice w, double w p) in
    omega (arith, ints, is, e, pattern-pos (w + 1) k, mod-eq_of_lt small)
wider_at true true w (negsuc k) n p h e f g =
    let is = pattern-negative w true (negsuc k) p h (omega (arith, ints)) in
    let next = pattern-negative (w + 1) true (negsuc k) (omega arith) (next_range w (negsuc k) (omega (arith, ints, h.from, double w p)) (omega (arith, ints))) (omega (arith, ints)) in
    omega (arith, ints, is, next, e, twice w)
wider_at true false w (negsuc k) n p h e f g = absurd (omega (arith, ap number_of_bit (f refl)))
wider_at false true w v n p h e f g = absurd (omega (arith, ap number_of_bit (g refl)))
wider_at false false w (pos k) n p h e f g =
    let is = pattern-not_negative w false (pos k) p h (omega (arith, ints)) in
    let small : k < 2 ^ (w + 1) = omega (arith, ints, h.to, twice w) in
    omega (arith, ints, is, e, pattern-pos (w + 1) k, mod-eq_of_lt small)
wider_at false false w (negsuc k) n p h e f g = absurd (omega (arith, ints, h.from))

-- a word with one bit more, and the number that it is
record Wider (s : Bool) (w : ℕ) (inputs : ℕ → Bool) (nodes : List Node) (a : Word) (v : ℤ) : Type 0 where
  bits : Bits
  have : Have inputs nodes (wider s a) bits
  width : length bits ≡ w + 1
  number : number_of bits ≡ pattern_at (w + 1) v

wider_bits : {ty : Ty} {inputs : ℕ → Bool} {nodes : List Node} {a : Word} {v : ℤ} (s : Bool) → is_signed_of ty ≡ s → IsNetlist nodes → IsWord ty inputs nodes a v → Wider s (width_of ty) inputs nodes a v
wider_bits {ty} {inputs} {nodes} {a} {v} true is net p =
    let w = width_of ty in
    let t = top_bit p.bits in
    record {
      bits = p.bits ++ t ∷ [];
      have = have_push p.have (has_top (omega (arith, wide ty, p.width)) p.have);
      width = length-append p.bits (t ∷ []) ∙ ap (λ n. n + 1) (bits-width p);
      number = number-wider p.bits t w (bits-width p) ∙ wider_at true t w v (number_of p.bits) (wide ty) (subst (λ s. IsInRange w s v) is p.in_range) p.pattern (λ _. sign_of is p) (λ e. absurd (omega (arith, ap number_of_bit e)));
    }
wider_bits {ty} {inputs} {nodes} {a} {v} false is net p =
    let w = width_of ty in
    record {
      bits = p.bits ++ false ∷ [];
      have = have_push p.have (has_false net);
      width = length-append p.bits (false ∷ []) ∙ ap (λ n. n + 1) (bits-width p);
      number = number-wider p.bits false w (bits-width p) ∙ wider_at false false w v (number_of p.bits) (wide ty) (subst (λ s. IsInRange w s v) is p.in_range) p.pattern (λ e. absurd (omega (arith, ap number_of_bit e))) (λ _. refl);
    }

-- ---- the result is exact

wide_sum : (w : ℕ) (xs ys : Bits) (v u : ℤ) → length xs ≡ w → length ys ≡ w → number_of xs ≡ pattern_at w v → number_of ys ≡ pattern_at w u → number_of (sum_bits false xs ys) ≡ pattern_at w (v +ℤ u)
wide_sum w xs ys v u e f p q =
    let n = number_of xs + number_of ys + 0 in
    let is : pattern_at w v + pattern_at w u ≡ n = omega (arith, p, q) in
    let c : IsCongruent (2 ^ w) (pos n) (v +ℤ u) = subst (λ k. IsCongruent (2 ^ w) (pos k) (v +ℤ u)) is (congruent-sum (pattern-congruent w v) (pattern-congruent w u)) in
    sum_bits-mod false xs ys (e ∙ sym f) ∙ (ap (λ k. n % 2 ^ k) e ∙ (sym (pattern-pos w n) ∙ pattern-congruent_same w c))

wide_difference : (w : ℕ) (xs ys : Bits) (v u : ℤ) → length xs ≡ w → length ys ≡ w → number_of xs ≡ pattern_at w v → number_of ys ≡ pattern_at w u → number_of (sum_bits true xs (map not ys)) ≡ pattern_at w (v -ℤ u)
wide_difference w xs ys v u e f p q =
    let nots = map not ys in
    let n = number_of xs + number_of nots + 1 in
    let x = pattern_at w v in
    let y = pattern_at w u in
    let weight_is : weight ys ≡ 2 ^ w = weight-power ys ∙ ap (λ k. 2 ^ k) f in
    let is : n + y ≡ x + 2 ^ w = omega (arith, p, q, number-nots ys, weight_is) in
    let near : IsCongruent (2 ^ w) (pos n) (pos x -ℤ pos y) = congruent-from_parts (2 ^ w) 0 1 (pos n) (pos x -ℤ pos y) (omega (arith, ints, is)) in
    let c : IsCongruent (2 ^ w) (pos n) (v -ℤ u) = congruent-trans near (congruent-difference (pattern-congruent w v) (pattern-congruent w u)) in
    sum_bits-mod true xs nots (e ∙ (sym f ∙ sym (length-nots ys))) ∙ (ap (λ k. n % 2 ^ k) e ∙ (sym (pattern-pos w n) ∙ pattern-congruent_same w c))

-- ---- what the highest bits say

-- signed: the two highest bits differ exactly past the range
past_signed : (s t : Bool) (w l : ℕ) (z : ℤ) → 0 < w → l < 2 ^ (w - 1) → l + 2 ^ (w - 1) * number_of_bit s + 2 ^ w * number_of_bit t ≡ pattern_at (w + 1) z → IsInRange (w + 1) true z → exclusive_or s t ≡ true → IsInRange w true z → ⊥
past_signed true true w l z p small e h t k = absurd (omega (arith, ap number_of_bit t))
past_signed false false w l z p small e h t k = absurd (omega (arith, ap number_of_bit t))
past_signed true false w l (pos n) p small e h t k = omega (arith, ints, e, k.to, pattern-not_negative (w + 1) true (pos n) (omega arith) h (omega (arith, ints)))
past_signed true false w l (negsuc n) p small e h t k = omega (arith, ints, e, k.from, twice w, double w p, pattern-negative (w + 1) true (negsuc n) (omega arith) h (omega (arith, ints)))
past_signed false true w l (pos n) p small e h t k = omega (arith, ints, e, k.to, double w p, pattern-not_negative (w + 1) true (pos n) (omega arith) h (omega (arith, ints)))
past_signed false true w l (negsuc n) p small e h t k = omega (arith, ints, e, k.from, small, twice w, double w p, pattern-negative (w + 1) true (negsuc n) (omega arith) h (omega (arith, ints)))

within_signed : (s t : Bool) (w l : ℕ) (z : ℤ) → 0 < w → l < 2 ^ (w - 1) → l + 2 ^ (w - 1) * number_of_bit s + 2 ^ w * number_of_bit t ≡ pattern_at (w + 1) z → IsInRange (w + 1) true z → exclusive_or s t ≡ false → IsInRange w true z
within_signed true false w l z p small e h t = absurd (omega (arith, ap number_of_bit t))
within_signed false true w l z p small e h t = absurd (omega (arith, ap number_of_bit t))
within_signed true true w l (pos n) p small e h t = absurd (omega (arith, ints, e, h.to, below_next w, double w p, pow_pos (w - 1), pattern-not_negative (w + 1) true (pos n) (omega arith) h (omega (arith, ints))))
within_signed true true w l (negsuc n) p small e h t =
    let is = pattern-negative (w + 1) true (negsuc n) (omega arith) h (omega (arith, ints)) in
    record { from = omega (arith, ints, e, is, twice w, double w p); to = omega (arith, ints, pow_pos (w - 1)) }
within_signed false false w l (pos n) p small e h t =
    let is = pattern-not_negative (w + 1) true (pos n) (omega arith) h (omega (arith, ints)) in
    record { from = omega (arith, ints); to = omega (arith, ints, e, is, small) }
within_signed false false w l (negsuc n) p small e h t =
    absurd (omega (arith, ints, e, small, h.from, below_next w, twice w, double w p, pow_pos (w - 1), pattern-negative (w + 1) true (negsuc n) (omega arith) h (omega (arith, ints))))

-- from 0: the highest bit is 1 exactly past the range
past_unsigned : (t : Bool) (w l : ℕ) (z : ℤ) → l < 2 ^ w → l + 2 ^ w * number_of_bit t ≡ pattern_at (w + 1) z → neg_ℤ (pos (2 ^ w)) ≤ℤ z → z <ℤ pos (2 ^ (w + 1)) → t ≡ true → IsInRange w false z → ⊥
past_unsigned true w l (pos n) small e low high t k =
    let is : n < 2 ^ (w + 1) = omega (arith, ints, high) in
    omega (arith, ints, e, k.to, pattern-pos (w + 1) n, mod-eq_of_lt is)
past_unsigned true w l (negsuc n) small e low high t k = omega (arith, ints, k.from)
past_unsigned false w l z small e low high t k = absurd (omega (arith, ap number_of_bit t))

within_unsigned : (t : Bool) (w l : ℕ) (z : ℤ) → l < 2 ^ w → l + 2 ^ w * number_of_bit t ≡ pattern_at (w + 1) z → neg_ℤ (pos (2 ^ w)) ≤ℤ z → z <ℤ pos (2 ^ (w + 1)) → t ≡ false → IsInRange w false z
within_unsigned true w l z small e low high t = absurd (omega (arith, ap number_of_bit t))
within_unsigned false w l (pos n) small e low high t =
    let is : n < 2 ^ (w + 1) = omega (arith, ints, high) in
    record { from = omega (arith, ints); to = omega (arith, ints, e, small, pattern-pos (w + 1) n, mod-eq_of_lt is) }
within_unsigned false w l (negsuc n) small e low high t =
    let is = pattern-negative (w + 1) true (negsuc n) (omega arith) (next_range w (negsuc n) low (omega (arith, ints))) (omega (arith, ints)) in
    absurd (omega (arith, ints, e, small, is, low, twice w))

-- ---- the circuits

-- a result with one bit more
makes_past : (ty : Ty) {inputs : ℕ → Bool} {nodes : List Node} {r : Word} {bits : Bits} (s : Bool) (z : ℤ) → is_signed_of ty ≡ s → IsNetlist nodes → Have inputs nodes r bits → length bits ≡ width_of ty + 1 → number_of bits ≡ pattern_at (width_of ty + 1) z → (s ≡ true → IsInRange (width_of ty + 1) true z) → neg_ℤ (pos (2 ^ width_of ty)) ≤ℤ z → z <ℤ pos (2 ^ (width_of ty + 1)) → Makes nodes (λ ms l. Decides inputs ms l (Past ty z)) (past s r)
unfolding past
makes_past ty {inputs} {nodes} {r} {bits} true z is net h width number signed low high =
    let w = width_of ty in
    let lows = low_bits bits in
    let s = top_bit lows in
    let t = top_bit bits in
    let lw : length lows ≡ w = length-low bits ∙ (ap (λ n. n - 1) width ∙ omega arith) in
    let at : 2 ^ (length bits - 1) ≡ 2 ^ w = ap (λ n. 2 ^ (n - 1)) width ∙ below_next w in
    let at_low : 2 ^ (length lows - 1) ≡ 2 ^ (w - 1) = ap (λ n. 2 ^ (n - 1)) lw in
    let l = number_of (low_bits lows) in
    let small : l < 2 ^ (w - 1) = subst (λ n. l < n) at_low (low-below lows) in
    let first : number_of bits ≡ number_of lows + 2 ^ w * number_of_bit t = number-top bits (omega (arith, width)) ∙ ap (λ n. number_of lows + n * number_of_bit t) at in
    let second : number_of lows ≡ l + 2 ^ (w - 1) * number_of_bit s = number-top lows (omega (arith, lw, wide ty)) ∙ ap (λ n. l + n * number_of_bit s) at_low in
    let e : l + 2 ^ (w - 1) * number_of_bit s + 2 ^ w * number_of_bit t ≡ pattern_at (w + 1) z = ap (λ n. n + 2 ^ w * number_of_bit t) (sym second) ∙ (sym first ∙ number) in
    makes_as (λ ms x (k : Has inputs ms x (exclusive_or s t)). decides_by (exclusive_or s t) k
    (λ f g. past_signed s t w l z (wide ty) small e (signed refl) f (subst (λ b. IsInRange w b z) is g))
    (λ f g. g (subst (λ b. IsInRange w b z) (sym is) (within_signed s t w l z (wide ty) small e (signed refl) f))))
    (makes_xor net (has_top (omega (arith, length-have (have_low h), lw, wide ty)) (have_low h)) (has_top (omega (arith, length-have h, width)) h))
makes_past ty {inputs} {nodes} {r} {bits} false z is net h width number signed low high =
    let w = width_of ty in
    let t = top_bit bits in
    let at : 2 ^ (length bits - 1) ≡ 2 ^ w = ap (λ n. 2 ^ (n - 1)) width ∙ below_next w in
    let l = number_of (low_bits bits) in
    let small : l < 2 ^ w = subst (λ n. l < n) at (low-below bits) in
    let e : l + 2 ^ w * number_of_bit t ≡ pattern_at (w + 1) z = ap (λ n. l + n * number_of_bit t) (sym at) ∙ (sym (number-top bits (omega (arith, width))) ∙ number) in
    makes_done _ net (decides_by t (has_top (omega (arith, length-have h, width)) h)
    (λ f g. past_unsigned t w l z small e low high f (subst (λ b. IsInRange w b z) is g))
    (λ f g. g (subst (λ b. IsInRange w b z) (sym is) (within_unsigned t w l z small e low high f))))

-- how far the sum and the difference of two values reach
record Near (w : ℕ) (s : Bool) (z : ℤ) : Type 0 where
  signed : s ≡ true → IsInRange (w + 1) true z
  low : neg_ℤ (pos (2 ^ w)) ≤ℤ z
  high : z <ℤ pos (2 ^ (w + 1))

near_sum : (w : ℕ) (s : Bool) (v u : ℤ) → 0 < w → IsInRange w s v → IsInRange w s u → Near w s (v +ℤ u)
near_sum w true v u p h k =
    let low : neg_ℤ (pos (2 ^ w)) ≤ℤ (v +ℤ u) = omega (arith, ints, h.from, k.from, double w p) in
    let high : (v +ℤ u) <ℤ pos (2 ^ w) = omega (arith, ints, h.to, k.to, double w p) in
    record { signed = λ _. next_range w (v +ℤ u) low high; low = low; high = omega (arith, ints, high, twice w) }
near_sum w false v u p h k = record {
  signed = λ e. absurd (omega (arith, ap number_of_bit e));
  low = omega (arith, ints, h.from, k.from);
  high = omega (arith, ints, h.to, k.to, twice w);
}

near_difference : (w : ℕ) (s : Bool) (v u : ℤ) → 0 < w → IsInRange w s v → IsInRange w s u → Near w s (v -ℤ u)
near_difference w true v u p h k =
    let low : neg_ℤ (pos (2 ^ w)) ≤ℤ (v -ℤ u) = omega (arith, ints, h.from, k.to, double w p) in
    let high : (v -ℤ u) <ℤ pos (2 ^ w) = omega (arith, ints, h.to, k.from, double w p) in
    record { signed = λ _. next_range w (v -ℤ u) low high; low = low; high = omega (arith, ints, high, twice w) }
near_difference w false v u p h k = record {
  signed = λ e. absurd (omega (arith, ap number_of_bit e));
  low = omega (arith, ints, h.from, k.to);
  high = omega (arith, ints, h.to, k.from, twice w);
}

sum_overflow_at : {ty : Ty} {inputs : ℕ → Bool} {nodes : List Node} {a b : Word} {v u : ℤ} (s : Bool) → is_signed_of ty ≡ s → IsNetlist nodes → IsWord ty inputs nodes a v → IsWord ty inputs nodes b u → Makes nodes (λ ms l. Decides inputs ms l (Past ty (v +ℤ u))) (sum_overflow s a b)
unfolding sum_overflow
sum_overflow_at {ty} {inputs} {nodes} {a} {b} {v} {u} s is net p q =
    let w = width_of ty in
    let x = wider_bits s is net p in
    let y = wider_bits s is net q in
    let near = near_sum w s v u (wide ty) (subst (λ t. IsInRange w t v) is p.in_range) (subst (λ t. IsInRange w t u) is q.in_range) in
    makes_then (makes_adder net x.have y.have (has_false net)) (λ ms sum order up h.
    makes_past ty s (v +ℤ u) is order h (length-sum_bits false x.bits y.bits (x.width ∙ sym y.width) ∙ x.width)
    (wide_sum (w + 1) x.bits y.bits v u x.width y.width x.number y.number) near.signed near.low near.high)

pub sum_overflow_words : {ty : Ty} {inputs : ℕ → Bool} {nodes : List Node} {a b : Word} {v u : ℤ} → IsNetlist nodes → IsWord ty inputs nodes a v → IsWord ty inputs nodes b u → Makes nodes (λ ms l. Decides inputs ms l (Past ty (v +ℤ u))) (sum_overflow (is_signed_of ty) a b)
sum_overflow_words {ty} net p q = sum_overflow_at (is_signed_of ty) refl net p q

difference_overflow_at : {ty : Ty} {inputs : ℕ → Bool} {nodes : List Node} {a b : Word} {v u : ℤ} (s : Bool) → is_signed_of ty ≡ s → IsNetlist nodes → IsWord ty inputs nodes a v → IsWord ty inputs nodes b u → Makes nodes (λ ms l. Decides inputs ms l (Past ty (v -ℤ u))) (difference_overflow s a b)
unfolding difference_overflow
difference_overflow_at {ty} {inputs} {nodes} {a} {b} {v} {u} s is net p q =
    let w = width_of ty in
    let x = wider_bits s is net p in
    let y = wider_bits s is net q in
    let near = near_difference w s v u (wide ty) (subst (λ t. IsInRange w t v) is p.in_range) (subst (λ t. IsInRange w t u) is q.in_range) in
    makes_then (makes_subtract net x.have y.have) (λ ms difference order up h.
    makes_past ty s (v -ℤ u) is order h (length-sum_bits true x.bits (map not y.bits) (x.width ∙ (sym y.width ∙ sym (length-nots y.bits))) ∙ x.width)
    (wide_difference (w + 1) x.bits y.bits v u x.width y.width x.number y.number) near.signed near.low near.high)

pub difference_overflow_words : {ty : Ty} {inputs : ℕ → Bool} {nodes : List Node} {a b : Word} {v u : ℤ} → IsNetlist nodes → IsWord ty inputs nodes a v → IsWord ty inputs nodes b u → Makes nodes (λ ms l. Decides inputs ms l (Past ty (v -ℤ u))) (difference_overflow (is_signed_of ty) a b)
difference_overflow_words {ty} net p q = difference_overflow_at (is_signed_of ty) refl net p q
