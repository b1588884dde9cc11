-- The words that the circuits make are those of the operations on values.
use Rattle.std.proofs.Common.{◌≡◌, ℕ, ◌+◌, ◌-◌, ◌*◌, ◌/◌, ◌%◌, ◌<◌, ◌≤◌, ◌^◌, Bool, true, false, not, cond, List, [], ◌∷◌, length, map, replicate, suc, refl, sym, ◌∙◌, ap, subst, arith}
use Rattle.std.specs.Prelude.{ℤ, pos, negsuc, neg_ℤ, ◌+ℤ◌, ◌-ℤ◌, ◌*ℤ◌, ◌<ℤ◌, ◌≤ℤ◌, if◌then◌else◌}
use Rattle.std.specs.List.{fold}
use Rattle.std.proofs.lemmas.Bool.{false≢true}
use Rattle.std.proofs.lemmas.Int.{ints}
use Rattle.std.proofs.lemmas.List.{length-replicate}
use Rattle.std.proofs.Math.Nat.{div-le_self, mod-eq_of_lt}
use Rattle.pv_gate.specs.declared.netlist.Node.{Node}
use Rattle.pv_gate.specs.Netlist.{IsNetlist, Extends}
use Rattle.pv_gate.specs.Building.{pairs, Has, Have, Makes}
use Rattle.pv_gate.proofs.ForCallers.{has_more, have_more, has_not, length-have, makes_then, makes_as}
use Rattle.pv_word.specs.declared.types.Ty.{Ty}
use Rattle.pv_word.specs.Range.{IsInRange}
use Rattle.pv_word.specs.Wrap.{IsCongruent}
use Rattle.pv_word.specs.Bits.{pattern_at}
use Rattle.pv_word.specs.Types.{width_of, is_signed_of, wrap_of, pattern_of, shl_of, shr_of}
use Rattle.pv_word.proofs.ForCallers.{congruent-refl, congruent-sum, congruent-difference, congruent-product, congruent-trans, congruent-from_parts, wide, wrap-in_range, double, pattern-lt, pattern-pos, pattern-wrap, pattern-congruent, pattern-congruent_same, in_range-pattern_same, pattern-not_negative, pattern-negative}
use Rattle.pv_bits.specs.Circuits.{Word, top, equal, less_signed, less, select, adder, subtract, shifted, multiply}
use Rattle.pv_bits.specs.Words.{number_of_bit, number_of, IsWord, Decides}
use Rattle.pv_bits.proofs.Bits.{Bits, weight, weight-power, equal_step, equal-true, equal-from, less_step, less-true, less-false, select_step, select-true, select-false, sum_bits, length-sum_bits, sum_bits-mod, number-nots, number-falses, bits_left, bits_right, length-left, length-right, number-left, number-right, multiply_step, multiply-width, multiply-mod}
use Rattle.pv_bits.proofs.TopBits.{top_bit, low_bits, has_top, have_low, length-low, number-top, low-below}
use Rattle.pv_bits.proofs.Values.{have_left, have_right, makes_equal, makes_less_bit, makes_less_unsigned, makes_select, makes_adder, makes_subtract, makes_multiply}

pub word_more : {ty : Ty} {inputs : ℕ → Bool} {old new : List Node} {w : Word} {v : ℤ} → Extends old new → IsWord ty inputs old w v → IsWord ty inputs new w v
word_more e h = record { bits = h.bits; have = have_more e h.have; width = h.width; in_range = h.in_range; pattern = h.pattern }

pub bits-width : {ty : Ty} {inputs : ℕ → Bool} {nodes : List Node} {w : Word} {v : ℤ} (h : IsWord ty inputs nodes w v) → length h.bits ≡ width_of ty
bits-width h = sym (length-have h.have) ∙ h.width

pub bits-same : {ty : Ty} {inputs : ℕ → Bool} {nodes : List Node} {a b : Word} {v u : ℤ} (p : IsWord ty inputs nodes a v) (q : IsWord ty inputs nodes b u) → length p.bits ≡ length q.bits
bits-same p q = bits-width p ∙ sym (bits-width q)

-- the bits of a number that is congruent to a value's, as a word
pub word_of_congruent : (ty : Ty) {inputs : ℕ → Bool} {nodes : List Node} {w : Word} (bits : Bits) (n : ℕ) (z : ℤ) → Have inputs nodes w bits → length bits ≡ width_of ty → number_of bits ≡ n % 2 ^ width_of ty → IsCongruent (2 ^ width_of ty) (pos n) z → IsWord ty inputs nodes w (wrap_of ty z)
word_of_congruent ty bits n z have wide_enough e c = record {
  bits = bits;
  have = have;
  width = length-have have ∙ wide_enough;
  in_range = wrap-in_range (width_of ty) (is_signed_of ty) z (wide ty);
  pattern = e ∙ (sym (pattern-pos (width_of ty) n) ∙ (pattern-congruent_same (width_of ty) c ∙ sym (pattern-wrap (width_of ty) (is_signed_of ty) z (wide ty))));
}

-- ---- equal

pub equal_words : {ty : Ty} {inputs : ℕ → Bool} {nodes : List Node} {a b : Word} {v u : ℤ} → IsNetlist nodes → IsWord ty inputs nodes a v → IsWord ty inputs nodes b u → Makes nodes (λ ms l. Decides inputs ms l (v ≡ u)) (equal a b)
equal_words {ty} {inputs} {nodes} {a} {b} {v} {u} net p q =
    makes_as (λ ms l (h : Has inputs ms l (fold equal_step true (pairs p.bits q.bits))). record {
      truth = fold equal_step true (pairs p.bits q.bits);
      has = h;
      is = (
        λ t. in_range-pattern_same (is_signed_of ty) (wide ty) p.in_range q.in_range (sym p.pattern ∙ ((equal-true true p.bits q.bits (bits-same p q) t).1 ∙ q.pattern)),
        λ e. equal-from true p.bits q.bits (bits-same p q) refl (p.pattern ∙ (ap (pattern_of ty) e ∙ sym q.pattern)),
      );
    })
    (makes_equal net p.have q.have)

-- ---- select

select-bits : (z : Bool) (xs ys : Bits) → length xs ≡ length ys → fold (select_step z) [] (pairs xs ys) ≡ cond z xs ys
select-bits true xs ys same = select-true [] xs ys same
select-bits false xs ys same = select-false [] xs ys same

chosen : {ty : Ty} {inputs : ℕ → Bool} {nodes ms : List Node} {a b w : Word} {v u : ℤ} (z : Bool) (p : IsWord ty inputs nodes a v) (q : IsWord ty inputs nodes b u) → Have inputs ms w (fold (select_step z) [] (pairs p.bits q.bits)) → IsWord ty inputs ms w (if z then v else u)
chosen {ty} {inputs} {nodes} {ms} {a} {b} {w} true p q h =
    let k = subst (λ vs. Have inputs ms w vs) (select-bits true p.bits q.bits (bits-same p q)) h in
    record { bits = p.bits; have = k; width = length-have k ∙ bits-width p; in_range = p.in_range; pattern = p.pattern }
chosen {ty} {inputs} {nodes} {ms} {a} {b} {w} false p q h =
    let k = subst (λ vs. Have inputs ms w vs) (select-bits false p.bits q.bits (bits-same p q)) h in
    record { bits = q.bits; have = k; width = length-have k ∙ bits-width q; in_range = q.in_range; pattern = q.pattern }

pub select_words : {ty : Ty} {inputs : ℕ → Bool} {nodes : List Node} {s : ℤ} {z : Bool} {a b : Word} {v u : ℤ} → IsNetlist nodes → Has inputs nodes s z → IsWord ty inputs nodes a v → IsWord ty inputs nodes b u → Makes nodes (λ ms w. IsWord ty inputs ms w (if z then v else u)) (select s a b)
select_words {ty} {inputs} {nodes} {s} {z} net h p q =
    makes_as (λ ms w (k : Have inputs ms w (fold (select_step z) [] (pairs p.bits q.bits))). chosen z p q k) (makes_select net h p.have q.have)

-- ---- sums and differences

pub sum_words : {ty : Ty} {inputs : ℕ → Bool} {nodes : List Node} {a b : Word} {c : ℤ} {v u : ℤ} {z : Bool} → IsNetlist nodes → IsWord ty inputs nodes a v → IsWord ty inputs nodes b u → Has inputs nodes c z → Makes nodes (λ ms w. IsWord ty inputs ms w (wrap_of ty (v +ℤ u +ℤ pos (number_of_bit z)))) (adder a b c)
sum_words {ty} {inputs} {nodes} {a} {b} {c} {v} {u} {z} net p q r =
    let w = width_of ty in
    let n = number_of p.bits + number_of q.bits + number_of_bit z in
    let e : number_of (sum_bits z p.bits q.bits) ≡ n % 2 ^ w = sum_bits-mod z p.bits q.bits (bits-same p q) ∙ ap (λ k. n % 2 ^ k) (bits-width p) in
    let f : n ≡ pattern_of ty v + pattern_of ty u + number_of_bit z = omega (arith, p.pattern, q.pattern) in
    let g : IsCongruent (2 ^ w) (pos (pattern_of ty v + pattern_of ty u + number_of_bit z)) (v +ℤ u +ℤ pos (number_of_bit z)) =
    congruent-sum (congruent-sum (pattern-congruent w v) (pattern-congruent w u)) (congruent-refl (2 ^ w) (pos (number_of_bit z))) in
    makes_as (λ ms l (h : Have inputs ms l (sum_bits z p.bits q.bits)).
    word_of_congruent ty (sum_bits z p.bits q.bits) n _ h (length-sum_bits z p.bits q.bits (bits-same p q) ∙ bits-width p) e
    (subst (λ k. IsCongruent (2 ^ w) (pos k) (v +ℤ u +ℤ pos (number_of_bit z))) (sym f) g))
    (makes_adder net p.have q.have r)

pub length-nots : (xs : Bits) → length (map not xs) ≡ length xs
length-nots [] = refl
length-nots (x ∷ xs) = ap suc (length-nots xs)

pub difference_words : {ty : Ty} {inputs : ℕ → Bool} {nodes : List Node} {a b : Word} {v u : ℤ} → IsNetlist nodes → IsWord ty inputs nodes a v → IsWord ty inputs nodes b u → Makes nodes (λ ms w. IsWord ty inputs ms w (wrap_of ty (v -ℤ u))) (subtract a b)
difference_words {ty} {inputs} {nodes} {a} {b} {v} {u} net p q =
    let w = width_of ty in
    let x = pattern_of ty v in
    let y = pattern_of ty u in
    let nots = map not q.bits in
    let same : length p.bits ≡ length nots = bits-same p q ∙ sym (length-nots q.bits) in
    let n = number_of p.bits + number_of nots + 1 in
    let e : number_of (sum_bits true p.bits nots) ≡ n % 2 ^ w = sum_bits-mod true p.bits nots same ∙ ap (λ k. n % 2 ^ k) (bits-width p) in
    let weight_is : weight q.bits ≡ 2 ^ w = weight-power q.bits ∙ ap (λ k. 2 ^ k) (bits-width q) in
    let f : n + y ≡ x + 2 ^ w = omega (arith, p.pattern, q.pattern, number-nots q.bits, weight_is) in
    let near : IsCongruent (2 ^ w) (pos n) (pos x -ℤ pos y) = congruent-from_parts (2 ^ w) 0 1 (pos n) (pos x -ℤ pos y) (omega (arith, ints, f)) in
    let g : IsCongruent (2 ^ w) (pos x -ℤ pos y) (v -ℤ u) = congruent-difference (pattern-congruent w v) (pattern-congruent w u) in
    makes_as (λ ms l (h : Have inputs ms l (sum_bits true p.bits nots)).
    word_of_congruent ty (sum_bits true p.bits nots) n _ h (length-sum_bits true p.bits nots same ∙ bits-width p) e (congruent-trans near g))
    (makes_subtract net p.have q.have)

-- ---- less, from 0

unsigned_value : (w : ℕ) (v : ℤ) → 0 < w → IsInRange w false v → pos (pattern_at w v) ≡ v
unsigned_value w v p h = pattern-not_negative w false v p h h.from

less_not_true : (f : Bool) → f ≡ false → f ≡ true → ⊥
less_not_true f p q = false≢true (sym p ∙ q)

-- ---- less, signed

-- with its highest bit complemented the pattern is the value, moved up by 2 to the power of the width, less 1
signed_number : (w : ℕ) (v : ℤ) (n : ℕ) (t : Bool) → 0 < w → IsInRange w true v → n < 2 ^ (w - 1) → n + 2 ^ (w - 1) * number_of_bit t ≡ pattern_at w v → pos (n + 2 ^ (w - 1) * number_of_bit (not t)) ≡ v +ℤ pos (2 ^ (w - 1))
signed_number w (pos k) n true p h small e = absurd (omega (arith, ints, h.to, pattern-not_negative w true (pos k) p h (omega (arith, ints))))
signed_number w (pos k) n false p h small e = omega (arith, ints, pattern-not_negative w true (pos k) p h (omega (arith, ints)))
signed_number w (negsuc k) n true p h small e = omega (arith, ints, double w p, pattern-negative w true (negsuc k) p h (omega (arith, ints)))
signed_number w (negsuc k) n false p h small e = absurd (omega (arith, ints, h.from, double w p, pattern-negative w true (negsuc k) p h (omega (arith, ints))))

top_true : (f x y : Bool) (n m k : ℕ) → n < k → m < k → (f ≡ true → n < m) → less_step f (x, y) ≡ true → n + k * number_of_bit x < m + k * number_of_bit y
top_true f true true n m k p q h t = let lt = h t in omega arith
top_true f true false n m k p q h t = cc
top_true f false true n m k p q h t = omega arith
top_true f false false n m k p q h t = let lt = h t in omega arith

top_false : (f x y : Bool) (n m k : ℕ) → n < k → m < k → (f ≡ false → m ≤ n) → less_step f (x, y) ≡ false → m + k * number_of_bit y ≤ n + k * number_of_bit x
top_false f true true n m k p q h t = let le = h t in omega arith
top_false f true false n m k p q h t = omega arith
top_false f false true n m k p q h t = cc
top_false f false false n m k p q h t = let le = h t in omega arith

-- ---- less, either way

decides_less : {inputs : ℕ → Bool} {nodes : List Node} {l : ℤ} {v u : ℤ} (f : Bool) → Has inputs nodes l f → (f ≡ true → v <ℤ u) → (f ≡ false → u ≤ℤ v) → Decides inputs nodes l (v <ℤ u)
decides_less {inputs} {nodes} {l} {v} {u} true h yes_ no_ = record { truth = true; has = h; is = (yes_, λ _. refl) }
decides_less {inputs} {nodes} {l} {v} {u} false h yes_ no_ = record {
  truth = false;
  has = h;
  is = (yes_, λ lt. let le = no_ refl in absurd (omega (arith, ints)));
}

less_at : {ty : Ty} {inputs : ℕ → Bool} {nodes : List Node} {a b : Word} {v u : ℤ} (s : Bool) → is_signed_of ty ≡ s → IsNetlist nodes → IsWord ty inputs nodes a v → IsWord ty inputs nodes b u → Makes nodes (λ ms l. Decides inputs ms l (v <ℤ u)) (less s a b)
unfolding less less_signed
less_at {ty} {inputs} {nodes} {a} {b} {v} {u} false is net p q =
    let w = width_of ty in
    let f = fold less_step false (pairs p.bits q.bits) in
    let x = unsigned_value w v (wide ty) (subst (λ t. IsInRange w t v) is p.in_range) in
    let y = unsigned_value w u (wide ty) (subst (λ t. IsInRange w t u) is q.in_range) in
    makes_as (λ ms l (h : Has inputs ms l f). decides_less f h
    (λ t. let lt = less-true false p.bits q.bits (bits-same p q) t in omega (arith, ints, x, y, p.pattern, q.pattern))
    (λ t. let le = less-false false p.bits q.bits (bits-same p q) t in omega (arith, ints, x, y, p.pattern, q.pattern)))
    (makes_less_unsigned net p.have q.have)
less_at {ty} {inputs} {nodes} {a} {b} {v} {u} true is net p q =
    let w = width_of ty in
    let k = 2 ^ (w - 1) in
    let f = fold less_step false (pairs (low_bits p.bits) (low_bits q.bits)) in
    let i = number_of (low_bits p.bits) in
    let j = number_of (low_bits q.bits) in
    let pw = ap (λ n. 2 ^ (n - 1)) (bits-width p) in
    let qw = ap (λ n. 2 ^ (n - 1)) (bits-width q) in
    let il : i < k = subst (λ n. i < n) pw (low-below p.bits) in
    let jl : j < k = subst (λ n. j < n) qw (low-below q.bits) in
    let same : length (low_bits p.bits) ≡ length (low_bits q.bits) = length-low p.bits ∙ (ap (λ n. n - 1) (bits-same p q) ∙ sym (length-low q.bits)) in
    let pn : number_of p.bits ≡ i + k * number_of_bit (top_bit p.bits) = number-top p.bits (omega (arith, wide ty, bits-width p)) ∙ ap (λ n. i + n * number_of_bit (top_bit p.bits)) pw in
    let qn : number_of q.bits ≡ j + k * number_of_bit (top_bit q.bits) = number-top q.bits (omega (arith, wide ty, bits-width q)) ∙ ap (λ n. j + n * number_of_bit (top_bit q.bits)) qw in
    let x = signed_number w v i (top_bit p.bits) (wide ty) (subst (λ t. IsInRange w t v) is p.in_range) il (sym pn ∙ p.pattern) in
    let y = signed_number w u j (top_bit q.bits) (wide ty) (subst (λ t. IsInRange w t u) is q.in_range) jl (sym qn ∙ q.pattern) in
    makes_then (makes_less_unsigned net (have_low p.have) (have_low q.have))
    (λ ms so_far order up h.
    makes_as (λ ns l (r : Has inputs ns l (less_step f (not (top_bit p.bits), not (top_bit q.bits)))). decides_less (less_step f (not (top_bit p.bits), not (top_bit q.bits))) r
    (λ t. let lt = top_true f (not (top_bit p.bits)) (not (top_bit q.bits)) i j k il jl (λ e. omega (arith, less-true false (low_bits p.bits) (low_bits q.bits) same e)) t in omega (arith, ints, x, y))
    (λ t. let le = top_false f (not (top_bit p.bits)) (not (top_bit q.bits)) i j k il jl (λ e. omega (arith, less-false false (low_bits p.bits) (low_bits q.bits) same e)) t in omega (arith, ints, x, y)))
    (makes_less_bit inputs ms so_far f (neg_ℤ (top a), neg_ℤ (top b)) (not (top_bit p.bits), not (top_bit q.bits)) order h
    (has_not (has_more up (has_top (omega (arith, wide ty, p.width)) p.have)), has_not (has_more up (has_top (omega (arith, wide ty, q.width)) q.have)))))

pub less_words : {ty : Ty} {inputs : ℕ → Bool} {nodes : List Node} {a b : Word} {v u : ℤ} → IsNetlist nodes → IsWord ty inputs nodes a v → IsWord ty inputs nodes b u → Makes nodes (λ ms l. Decides inputs ms l (v <ℤ u)) (less (is_signed_of ty) a b)
less_words {ty} net p q = less_at (is_signed_of ty) refl net p q

-- ---- products

pub product_words : {ty : Ty} {inputs : ℕ → Bool} {nodes : List Node} {a b : Word} {v u : ℤ} → IsNetlist nodes → IsWord ty inputs nodes a v → IsWord ty inputs nodes b u → Makes nodes (λ ms w. IsWord ty inputs ms w (wrap_of ty (v *ℤ u))) (multiply a b)
product_words {ty} {inputs} {nodes} {a} {b} {v} {u} net p q =
    let w = width_of ty in
    let zeros = replicate (length a) false in
    let n = number_of p.bits * number_of q.bits in
    let same : length zeros ≡ length p.bits = length-replicate (length a) false ∙ length-have p.have in
    let e : number_of (fold multiply_step (zeros, p.bits) q.bits).0 ≡ n % 2 ^ w =
    multiply-mod zeros p.bits q.bits same ∙ (ap (λ k. (k + n) % 2 ^ length p.bits) (number-falses (length a)) ∙ (ap (λ k. k % 2 ^ length p.bits) (omega arith) ∙ ap (λ k. n % 2 ^ k) (bits-width p))) in
    let g : IsCongruent (2 ^ w) (pos (pattern_of ty v * pattern_of ty u)) (v *ℤ u) = congruent-product (pattern-congruent w v) (pattern-congruent w u) in
    let f : n ≡ pattern_of ty v * pattern_of ty u = ap (λ k. k * number_of q.bits) p.pattern ∙ ap (λ k. pattern_of ty v * k) q.pattern in
    makes_as (λ ms l (h : Have inputs ms l (fold multiply_step (zeros, p.bits) q.bits).0).
    word_of_congruent ty (fold multiply_step (zeros, p.bits) q.bits).0 n _ h (multiply-width zeros p.bits q.bits same ∙ (same ∙ bits-width p)) e
    (subst (λ k. IsCongruent (2 ^ w) (pos k) (v *ℤ u)) (sym f) g))
    (makes_multiply net p.have q.have)

-- ---- shifts

pub left_words : {ty : Ty} {inputs : ℕ → Bool} {nodes : List Node} {a : Word} {v : ℤ} (n : ℕ) → IsNetlist nodes → IsWord ty inputs nodes a v → IsWord ty inputs nodes (shifted true a n) (shl_of ty v n)
left_words {ty} {inputs} {nodes} {a} {v} n net p =
    let w = width_of ty in
    let e : number_of (bits_left p.bits n) ≡ (pattern_of ty v * 2 ^ n) % 2 ^ w =
    number-left p.bits n ∙ (ap (λ k. (k * 2 ^ n) % 2 ^ length p.bits) p.pattern ∙ ap (λ k. (pattern_of ty v * 2 ^ n) % 2 ^ k) (bits-width p)) in
    word_of_congruent ty (bits_left p.bits n) (pattern_of ty v * 2 ^ n) _ (have_left n net p.have) (length-left p.bits n ∙ bits-width p) e (congruent-refl (2 ^ w) _)

pub right_words : {ty : Ty} {inputs : ℕ → Bool} {nodes : List Node} {a : Word} {v : ℤ} (n : ℕ) → IsNetlist nodes → IsWord ty inputs nodes a v → IsWord ty inputs nodes (shifted false a n) (shr_of ty v n)
right_words {ty} {inputs} {nodes} {a} {v} n net p =
    let w = width_of ty in
    let m = pattern_of ty v / 2 ^ n in
    let small : m < 2 ^ w = omega (arith, div-le_self (pattern_of ty v) (2 ^ n), pattern-lt w v) in
    let e : number_of (bits_right p.bits n) ≡ m % 2 ^ w = number-right p.bits n ∙ (ap (λ k. k / 2 ^ n) p.pattern ∙ sym (mod-eq_of_lt small)) in
    word_of_congruent ty (bits_right p.bits n) m _ (have_right n net p.have) (length-right p.bits n ∙ bits-width p) e (congruent-refl (2 ^ w) _)
