-- The division of signed words: magnitudes, and the signs put back.
use Rattle.std.proofs.Common.{◌≡◌, ℕ, ◌+◌, ◌-◌, ◌*◌, ◌<◌, ◌^◌, Bool, true, false, not, List, length, replicate, suc, zero, refl, sym, ◌∙◌, ap, subst, arith}
use Rattle.std.specs.Prelude.{ℤ, pos, negsuc, neg_ℤ, ◌-ℤ◌, unsigned_abs, if◌then◌else◌}
use Rattle.std.proofs.lemmas.Int.{ints}
use Rattle.std.proofs.lemmas.List.{length-replicate}
use Rattle.std.proofs.lemmas.Nat.{pow_pos}
use Rattle.std.proofs.Math.Nat.{mod-eq_of_lt}
use Rattle.pv_gate.specs.declared.netlist.Node.{Node}
use Rattle.pv_gate.specs.Value.{exclusive_or}
use Rattle.pv_gate.specs.Netlist.{IsNetlist}
use Rattle.pv_gate.specs.Building.{Building, and_then, Has, Makes}
use Rattle.pv_gate.proofs.ForCallers.{has_more, makes_done, makes_then, makes_xor}
use Rattle.pv_word.specs.declared.types.Ty.{Ty}
use Rattle.pv_word.specs.Range.{IsInRange}
use Rattle.pv_word.specs.Bits.{pattern_at}
use Rattle.pv_word.specs.Types.{width_of, is_signed_of, wrap_of, pattern_of}
use Rattle.pv_word.proofs.ForCallers.{wide, double, zero-in_range, wrap-own, pattern-pos, pattern-wrap, pattern-not_negative, pattern-negative}
use Rattle.pv_bits.specs.Circuits.{Word, falses, top, negate, negate_if, divide_magnitudes, put_back, divide_signed, divide}
use Rattle.pv_word.specs.Quotients.{by_zero, quotient_of, remainder_of}
use Rattle.pv_bits.specs.Words.{number_of_bit, number_of, IsWord, Divides}
use Rattle.pv_bits.proofs.Bits.{number-falses}
use Rattle.pv_bits.proofs.Values.{have_falses}
use Rattle.pv_bits.proofs.TopBits.{top_bit, low_bits, has_top, number-top, low-below}
use Rattle.pv_bits.proofs.WordLaws.{word_more, bits-width, bits-same, select_words, difference_words}
use Rattle.pv_bits.proofs.Division.{Division, makes_divide_unsigned}
use Rattle.pv_bits.proofs.DivisionLaws.{quotient_is, remainder_is, number_word, word_as, minus_one, plus_one, negated, divide_unsigned_words}

-- ---- negation

zero_word : {inputs : ℕ → Bool} {nodes : List Node} (ty : Ty) (n : ℕ) → n ≡ width_of ty → IsNetlist nodes → IsWord ty inputs nodes (falses n) (pos 0)
zero_word ty n is net = record {
  bits = replicate n false;
  have = have_falses n net;
  width = length-replicate n _ ∙ is;
  in_range = zero-in_range (width_of ty) (is_signed_of ty) (wide ty);
  pattern = number-falses n ∙ (sym (mod-eq_of_lt (pow_pos (width_of ty))) ∙ sym (pattern-pos (width_of ty) 0));
}

-- the value, or what is left of its negation
abbrev pub negated_if : Ty → Bool → ℤ → ℤ
negated_if ty z v = if z then wrap_of ty (pos 0 -ℤ v) else v

negate_if_words : {ty : Ty} {inputs : ℕ → Bool} {nodes : List Node} {s : ℤ} {z : Bool} {a : Word} {v : ℤ} → IsNetlist nodes → Has inputs nodes s z → IsWord ty inputs nodes a v → Makes nodes (λ ms w. IsWord ty inputs ms w (negated_if ty z v)) (negate_if s a)
unfolding negate_if negate
negate_if_words {ty} {inputs} {nodes} {s} {z} {a} {v} net h p =
    makes_then (difference_words net (zero_word ty (length a) p.width net) p) (λ ms minus order up k. select_words order (has_more up h) k (word_more up p))

-- ---- signs

-- the bit is 1 where the value is negative
abbrev pub IsSign : Bool → ℤ → Type 0
IsSign z (pos n) = z ≡ false
IsSign z (negsuc n) = z ≡ true

sign_at : (w : ℕ) (v : ℤ) (n : ℕ) (t : Bool) → 0 < w → IsInRange w true v → n < 2 ^ (w - 1) → n + 2 ^ (w - 1) * number_of_bit t ≡ pattern_at w v → IsSign t v
sign_at w (pos k) n true p h small e = absurd (omega (arith, ints, h.to, pattern-not_negative w true (pos k) p h (omega (arith, ints))))
sign_at w (pos k) n false p h small e = refl
sign_at w (negsuc k) n true p h small e = refl
sign_at w (negsuc k) n false p h small e = absurd (omega (arith, ints, h.from, double w p, pattern-negative w true (negsuc k) p h (omega (arith, ints))))

pub sign_of : {ty : Ty} {inputs : ℕ → Bool} {nodes : List Node} {a : Word} {v : ℤ} → is_signed_of ty ≡ true → (p : IsWord ty inputs nodes a v) → IsSign (top_bit p.bits) v
sign_of {ty} {inputs} {nodes} {a} {v} s p =
    let w = width_of ty in
    let i = number_of (low_bits p.bits) in
    let at = ap (λ n. 2 ^ (n - 1)) (bits-width p) in
    let small : i < 2 ^ (w - 1) = subst (λ n. i < n) at (low-below p.bits) in
    let e : number_of p.bits ≡ i + 2 ^ (w - 1) * number_of_bit (top_bit p.bits) = number-top p.bits (omega (arith, wide ty, bits-width p)) ∙ ap (λ n. i + n * number_of_bit (top_bit p.bits)) at in
    sign_at w v i (top_bit p.bits) (wide ty) (subst (λ t. IsInRange w t v) s p.in_range) small (sym e ∙ p.pattern)

-- the magnitude's pattern is the number without its sign
magnitude : (ty : Ty) (z : Bool) (v : ℤ) → is_signed_of ty ≡ true → IsInRange (width_of ty) true v → IsSign z v → pattern_of ty (negated_if ty z v) ≡ unsigned_abs v
magnitude ty true (pos k) s h is = absurd (omega (arith, ap number_of_bit is))
magnitude ty false (pos k) s h is = omega (arith, ints, pattern-not_negative (width_of ty) true (pos k) (wide ty) h (omega (arith, ints)))
magnitude ty true (negsuc k) s h is =
    let w = width_of ty in
    let e : pos 0 -ℤ negsuc k ≡ pos (suc k) = omega (arith, ints) in
    let small : suc k < 2 ^ w = omega (arith, ints, h.from, double w (wide ty), pow_pos (w - 1)) in
    pattern-wrap w (is_signed_of ty) (pos 0 -ℤ negsuc k) (wide ty) ∙ (ap (pattern_at w) e ∙ (pattern-pos w (suc k) ∙ mod-eq_of_lt small))
magnitude ty false (negsuc k) s h is = absurd (omega (arith, ap number_of_bit is))

-- ---- the signs put back

same_sign : (ty : Ty) (z : Bool) (n : ℕ) → z ≡ false → negated_if ty z (wrap_of ty (pos n)) ≡ wrap_of ty (pos n)
same_sign ty z n e = ap (λ t. negated_if ty t (wrap_of ty (pos n))) e

other_sign : (ty : Ty) (z : Bool) (n : ℕ) → z ≡ true → negated_if ty z (wrap_of ty (pos n)) ≡ wrap_of ty (neg_ℤ (pos n))
other_sign ty z n e = ap (λ t. negated_if ty t (wrap_of ty (pos n))) e ∙ negated ty n

quotient_back : (ty : Ty) (x y : Bool) (v u : ℤ) (q r : ℕ) → is_signed_of ty ≡ true → IsSign x v → IsSign y u → unsigned_abs v ≡ q * unsigned_abs u + r → (0 < unsigned_abs u → r < unsigned_abs u) → (unsigned_abs u ≡ 0 → q + 1 ≡ 2 ^ width_of ty) → negated_if ty (exclusive_or x y) (wrap_of ty (pos q)) ≡ quotient_of ty v u
quotient_back ty x y (pos a) (pos zero) q r s f g e small ones =
    same_sign ty (exclusive_or x y) q (ap (λ t. exclusive_or t y) f ∙ g) ∙ (minus_one ty q (ones refl) ∙ ap (λ t. wrap_of ty (by_zero t (pos a))) (sym s))
quotient_back ty x y (negsuc a) (pos zero) q r s f g e small ones =
    ap (λ t. negated_if ty t (wrap_of ty (pos q))) (ap (λ t. exclusive_or t y) f ∙ ap not g)
    ∙ (plus_one ty q (ones refl) ∙ ap (λ t. wrap_of ty (by_zero t (negsuc a))) (sym s))
quotient_back ty x y (pos a) (pos (suc b)) q r s f g e small ones =
    same_sign ty (exclusive_or x y) q (ap (λ t. exclusive_or t y) f ∙ g) ∙ ap (λ n. wrap_of ty (pos n)) (sym (quotient_is a (suc b) q r e (small (omega arith))))
quotient_back ty x y (negsuc a) (pos (suc b)) q r s f g e small ones =
    other_sign ty (exclusive_or x y) q (ap (λ t. exclusive_or t y) f ∙ ap not g) ∙ ap (λ n. wrap_of ty (neg_ℤ (pos n))) (sym (quotient_is (suc a) (suc b) q r e (small (omega arith))))
quotient_back ty x y (pos a) (negsuc b) q r s f g e small ones =
    other_sign ty (exclusive_or x y) q (ap (λ t. exclusive_or t y) f ∙ g) ∙ ap (λ n. wrap_of ty (neg_ℤ (pos n))) (sym (quotient_is a (suc b) q r e (small (omega arith))))
quotient_back ty x y (negsuc a) (negsuc b) q r s f g e small ones =
    same_sign ty (exclusive_or x y) q (ap (λ t. exclusive_or t y) f ∙ ap not g) ∙ ap (λ n. wrap_of ty (pos n)) (sym (quotient_is (suc a) (suc b) q r e (small (omega arith))))

remainder_back : (ty : Ty) (x : Bool) (v u : ℤ) (q r : ℕ) → IsInRange (width_of ty) (is_signed_of ty) v → IsSign x v → unsigned_abs v ≡ q * unsigned_abs u + r → (0 < unsigned_abs u → r < unsigned_abs u) → negated_if ty x (wrap_of ty (pos r)) ≡ remainder_of ty v u
remainder_back ty x (pos a) (pos zero) q r h f e small =
    let is : r ≡ a = omega arith in
    same_sign ty x r f ∙ (ap (λ n. wrap_of ty (pos n)) is ∙ wrap-own (wide ty) h)
remainder_back ty x (negsuc a) (pos zero) q r h f e small =
    let is : r ≡ suc a = omega arith in
    other_sign ty x r f ∙ (ap (λ n. wrap_of ty (neg_ℤ (pos n))) is ∙ wrap-own (wide ty) h)
remainder_back ty x (pos a) (pos (suc b)) q r h f e small =
    same_sign ty x r f ∙ ap (λ n. wrap_of ty (pos n)) (sym (remainder_is a (suc b) q r e (small (omega arith))))
remainder_back ty x (negsuc a) (pos (suc b)) q r h f e small =
    other_sign ty x r f ∙ ap (λ n. wrap_of ty (neg_ℤ (pos n))) (sym (remainder_is (suc a) (suc b) q r e (small (omega arith))))
remainder_back ty x (pos a) (negsuc b) q r h f e small =
    same_sign ty x r f ∙ ap (λ n. wrap_of ty (pos n)) (sym (remainder_is a (suc b) q r e (small (omega arith))))
remainder_back ty x (negsuc a) (negsuc b) q r h f e small =
    other_sign ty x r f ∙ ap (λ n. wrap_of ty (neg_ℤ (pos n))) (sym (remainder_is (suc a) (suc b) q r e (small (omega arith))))

-- ---- the circuit

-- one building behind another, and a third behind both
makes_both : {A B C : Type 0} {nodes : List Node} {P : List Node → C → Type 0} (f : Building A) (k : A → Building B) (h : B → Building C) → Makes nodes P (and_then f (λ x. and_then (k x) h)) → Makes nodes P (and_then (and_then f k) h)
unfolding and_then
makes_both f k h m = record { netlist = m.netlist; extends = m.extends; out = m.out }

divide_signed_words : {ty : Ty} {inputs : ℕ → Bool} {nodes : List Node} {a b : Word} {v u : ℤ} → is_signed_of ty ≡ true → IsNetlist nodes → IsWord ty inputs nodes a v → IsWord ty inputs nodes b u → Makes nodes (λ ms o. Divides ty v u inputs ms o) (divide_signed a b)
unfolding divide_signed divide_magnitudes put_back
divide_signed_words {ty} {inputs} {nodes} {a} {b} {v} {u} s net p q =
    let x = top_bit p.bits in
    let y = top_bit q.bits in
    let xs = sign_of s p in
    let ys = sign_of s q in
    let sx : Has inputs nodes (top a) x = has_top (omega (arith, wide ty, p.width)) p.have in
    let sy : Has inputs nodes (top b) y = has_top (omega (arith, wide ty, q.width)) q.have in
    makes_both _ _ _ (makes_then (negate_if_words net sx p) (λ n1 dividend o1 e1 m.
    makes_both _ _ _ (makes_then (negate_if_words o1 (has_more e1 sy) (word_more e1 q)) (λ n2 divisor o2 e2 k.
    let mm = word_more e2 m in
    makes_then (makes_divide_unsigned (bits-same mm k) o2 mm.have k.have) (λ n3 d o3 e3 (h : Division inputs mm.bits k.bits n3 d).
    let up = λ (l : ℤ) (t : Bool) (g : Has inputs nodes l t). has_more e3 (has_more e2 (has_more e1 g)) in
    let pm : number_of mm.bits ≡ unsigned_abs v = mm.pattern ∙ magnitude ty x v s (subst (λ t. IsInRange (width_of ty) t v) s p.in_range) xs in
    let qm : number_of k.bits ≡ unsigned_abs u = k.pattern ∙ magnitude ty y u s (subst (λ t. IsInRange (width_of ty) t u) s q.in_range) ys in
    let e : unsigned_abs v ≡ number_of h.quotient_bits * unsigned_abs u + number_of h.remainder_bits = sym pm ∙ (h.equation ∙ ap (λ n. number_of h.quotient_bits * n + number_of h.remainder_bits) qm) in
    let small : 0 < unsigned_abs u → number_of h.remainder_bits < unsigned_abs u = λ lt. let r = h.small (omega (arith, qm)) in omega (arith, qm) in
    let ones : unsigned_abs u ≡ 0 → number_of h.quotient_bits + 1 ≡ 2 ^ width_of ty = λ z. h.ones (qm ∙ z) ∙ ap (λ n. 2 ^ n) (bits-width mm) in
    let qw = number_word ty h.quotient_bits h.quotient (h.quotient_width ∙ bits-width mm) in
    let rw_ = number_word ty h.remainder_bits h.remainder (h.remainder_width ∙ bits-width mm) in
    makes_then (makes_xor o3 (up (top a) x sx) (up (top b) y sy)) (λ n4 differ o4 e4 t.
    makes_then (negate_if_words o4 t (word_more e4 qw)) (λ n5 quotient_ o5 e5 f.
    makes_then (negate_if_words o5 (has_more e5 (has_more e4 (up (top a) x sx))) (word_more e5 (word_more e4 rw_))) (λ n6 remainder_ o6 e6 g.
    makes_done _ o6 (record {
      quotient_word = word_as (quotient_back ty x y v u (number_of h.quotient_bits) (number_of h.remainder_bits) s xs ys e small ones) (word_more e6 f);
      remainder_word = word_as (remainder_back ty x v u (number_of h.quotient_bits) (number_of h.remainder_bits) p.in_range xs e small) g;
    })))))))))

divide_at : {ty : Ty} {inputs : ℕ → Bool} {nodes : List Node} {a b : Word} {v u : ℤ} (s : Bool) → is_signed_of ty ≡ s → IsNetlist nodes → IsWord ty inputs nodes a v → IsWord ty inputs nodes b u → Makes nodes (λ ms o. Divides ty v u inputs ms o) (divide s a b)
unfolding divide
divide_at true s net p q = divide_signed_words s net p q
divide_at false s net p q = divide_unsigned_words s net p q

pub divide_words : {ty : Ty} {inputs : ℕ → Bool} {nodes : List Node} {a b : Word} {v u : ℤ} → IsNetlist nodes → IsWord ty inputs nodes a v → IsWord ty inputs nodes b u → Makes nodes (λ ms o. Divides ty v u inputs ms o) (divide (is_signed_of ty) a b)
divide_words {ty} net p q = divide_at (is_signed_of ty) refl net p q
