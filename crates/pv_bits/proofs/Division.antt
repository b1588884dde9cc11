-- The division of numbers from 0, bit by bit from the highest one on.
use Rattle.std.proofs.Common.{◌≡◌, ℕ, ◌+◌, ◌-◌, ◌*◌, ◌<◌, ◌≤◌, ◌^◌, Bool, true, false, not, List, [], ◌∷◌, ◌++◌, length, length-append, map, suc, refl, sym, ◌∙◌, ap, subst, arith, replicate}
use Rattle.std.specs.Prelude.{ℤ, reverse}
use Rattle.std.specs.List.{fold, AllZip}
use Rattle.std.proofs.Math.Nat.{pow-le-pow_right}
use Rattle.std.proofs.lemmas.List.{reverse-append, length-replicate, length-reverse}
use Rattle.pv_gate.specs.declared.netlist.Node.{Node}
use Rattle.pv_gate.specs.Node.{false_literal}
use Rattle.pv_gate.specs.Netlist.{IsNetlist}
use Rattle.pv_gate.specs.Building.{pairs, Has, Have, Makes}
use Rattle.pv_gate.proofs.ForCallers.{has_more, have_more, has_not, has_false, have_none, have_cons, have_append, length-have, makes_done, makes_then, makes_each}
use Rattle.pv_bits.specs.Circuits.{Word, falses, taken, divide_step, divide_bit, divide_unsigned}
use Rattle.pv_bits.specs.Words.{number_of_bit, number_of}
use Rattle.pv_bits.proofs.Bits.{Bits, weight, weight-power, weight-same, number-below, number-append, number-falses, less_step, less-true, less-false, select_step, select-true, select-false, sum_bits, carry_out, length-sum_bits, sum_bits-number, number-nots}
use Rattle.pv_bits.proofs.Values.{have_falses, makes_less_unsigned, makes_subtract, makes_select}
use Rattle.pv_bits.proofs.TopBits.{top_bit, low_bits, have_low, length-low, number-top}

-- ---- one bit of the quotient

abbrev pub taken_bits : Bool → Bits → Bits
taken_bits x left = x ∷ low_bits left

abbrev pub is_below : Bits → Bits → Bool
is_below wide t = fold less_step false (pairs t wide)

abbrev pub next_bits : Bool → Bits → Bits → Bits
next_bits f wide t = fold (select_step (not f)) [] (pairs (sum_bits true t (map not wide)) t)

abbrev pub divide_change : Bits → Bits × Bits → Bool → Bits × Bits
divide_change wide s x = (not (is_below wide (taken_bits x s.1)) ∷ s.0, next_bits (is_below wide (taken_bits x s.1)) wide (taken_bits x s.1))

length-nots : (xs : Bits) → length (map not xs) ≡ length xs
length-nots [] = refl
length-nots (x ∷ xs) = ap suc (length-nots xs)

by_carry : (c : Bool) (r m t b : ℕ) → r + m * number_of_bit c + b ≡ t + m → r < m → b ≤ t → r + b ≡ t
by_carry true r m t b e small le = omega arith
by_carry false r m t b e small le = absurd (omega arith)

difference : (wide t : Bits) → length t ≡ length wide → number_of wide ≤ number_of t → number_of (sum_bits true t (map not wide)) + number_of wide ≡ number_of t
difference wide t same le =
    let nots = map not wide in
    let long : length t ≡ length nots = same ∙ sym (length-nots wide) in
    let r = sum_bits true t nots in
    let small : number_of r < weight t = omega (arith, number-below r, weight-same r t (length-sum_bits true t nots long)) in
    by_carry (carry_out true t nots) (number_of r) (weight t) (number_of t) (number_of wide)
    (omega (arith, sum_bits-number true t nots long, number-nots wide, weight-same t wide same)) small le

next-kept : (wide t : Bits) → length t ≡ length wide → next_bits true wide t ≡ t
next-kept wide t same = select-false [] (sum_bits true t (map not wide)) t (length-sum_bits true t (map not wide) (same ∙ sym (length-nots wide)))

next-taken : (wide t : Bits) → length t ≡ length wide → next_bits false wide t ≡ sum_bits true t (map not wide)
next-taken wide t same = select-true [] (sum_bits true t (map not wide)) t (length-sum_bits true t (map not wide) (same ∙ sym (length-nots wide)))

-- ---- all bits

-- after the highest i bits of the dividend, which are the number a, by a divisor b of w bits
pub record Divided (b w i a : ℕ) (quotient left : Bits) : Type 0 where
  pub count : length quotient ≡ i
  pub width : length left ≡ w + 1
  pub below : a < weight quotient
  pub equation : a ≡ number_of quotient * b + number_of left
  pub small : 0 < b → number_of left < b
  pub ones : b ≡ 0 → number_of quotient + 1 ≡ weight quotient

low_is : (t : Bool) (low m n : ℕ) → n ≡ low + m * number_of_bit t → n < m → low ≡ n
low_is true low m n e lt = absurd (omega arith)
low_is false low m n e lt = omega arith

low-number : (w a : ℕ) (b i : ℕ) (quotient left : Bits) → Divided b w i a quotient left → i ≤ w → number_of (low_bits left) ≡ number_of left
low-number w a b i quotient left d le =
    let at : length left - 1 ≡ w = omega (arith, d.width) in
    let top : number_of left ≡ number_of (low_bits left) + 2 ^ w * number_of_bit (top_bit left) =
    number-top left (omega (arith, d.width)) ∙ ap (λ k. number_of (low_bits left) + 2 ^ k * number_of_bit (top_bit left)) at in
    let power : weight quotient ≡ 2 ^ i = weight-power quotient ∙ ap (λ k. 2 ^ k) d.count in
    let more : 2 ^ i ≤ 2 ^ w = pow-le-pow_right (omega arith) le in
    low_is (top_bit left) (number_of (low_bits left)) (2 ^ w) (number_of left) top (omega (arith, d.below, d.equation))

step_number : (f : Bool) (wide t quotient : Bits) (b w i a n x : ℕ) → length t ≡ length wide → length wide ≡ w + 1 → number_of wide ≡ b → x < 2 → number_of t ≡ x + 2 * n → (f ≡ true → number_of t < number_of wide) → (f ≡ false → number_of wide ≤ number_of t) → length quotient ≡ i → a < weight quotient → a ≡ number_of quotient * b + n → (0 < b → n < b) → (b ≡ 0 → number_of quotient + 1 ≡ weight quotient) → Divided b w (i + 1) (x + 2 * a) (not f ∷ quotient) (next_bits f wide t)
step_number true wide t quotient b w i a n x same wide_is is bit t_is yes_ no_ count below e small ones =
    let next = next-kept wide t same in
    let lt = yes_ refl in
    let twice = ap (λ k. 2 * k) e in
    record {
      count = omega (arith, count);
      width = ap length next ∙ (same ∙ wide_is);
      below = omega arith;
      equation = omega (arith, twice, t_is, ap number_of next);
      small = λ p. omega (arith, ap number_of next);
      ones = λ z. absurd (omega arith);
    }
step_number false wide t quotient b w i a n x same wide_is is bit t_is yes_ no_ count below e small ones =
    let next = next-taken wide t same in
    let le = no_ refl in
    let twice = ap (λ k. 2 * k) e in
    let d = difference wide t same le in
    record {
      count = omega (arith, count);
      width = ap length next ∙ (length-sum_bits true t (map not wide) (same ∙ sym (length-nots wide)) ∙ (same ∙ wide_is));
      below = omega arith;
      equation = omega (arith, twice, t_is, d, is, ap number_of next);
      small = λ p. let s = small p in omega (arith, t_is, d, is, ap number_of next);
      ones = λ z. let o = ones z in omega arith;
    }

bit_below : (x : Bool) → number_of_bit x < 2
bit_below true = omega arith
bit_below false = omega arith

pub divided_next : (wide : Bits) (b w i a : ℕ) (quotient left : Bits) (x : Bool) → length wide ≡ w + 1 → number_of wide ≡ b → i < w → Divided b w i a quotient left → Divided b w (i + 1) (number_of_bit x + 2 * a) (divide_change wide (quotient, left) x).0 (divide_change wide (quotient, left) x).1
divided_next wide b w i a quotient left x wide_is is lt d =
    let t = taken_bits x left in
    let low = low-number w a b i quotient left d (omega arith) in
    let same : length t ≡ length wide = omega (arith, length-low left, d.width) in
    step_number (is_below wide t) wide t quotient b w i a (number_of left) (number_of_bit x) same wide_is is (bit_below x) (omega (arith, low))
    (λ e. omega (arith, less-true false t wide same e)) (λ e. omega (arith, less-false false t wide same e)) d.count d.below d.equation d.small d.ones

-- the number with these bits, the highest first, behind the number a
abbrev pub onto : ℕ → Bits → ℕ
onto a [] = a
onto a (x ∷ xs) = onto (number_of_bit x + 2 * a) xs

onto-last : (a : ℕ) (xs : Bits) (y : Bool) → onto a (xs ++ y ∷ []) ≡ number_of_bit y + 2 * onto a xs
onto-last a [] y = refl
onto-last a (x ∷ xs) y = onto-last (number_of_bit x + 2 * a) xs y

pub onto-reverse : (xs : Bits) → onto 0 (reverse xs) ≡ number_of xs
onto-reverse [] = refl
onto-reverse (x ∷ xs) = ap (onto 0) (reverse-append (x ∷ []) xs) ∙ (onto-last 0 (reverse xs) x ∙ ap (λ n. number_of_bit x + 2 * n) (onto-reverse xs))

pub divided_all : (wide : Bits) (b w i a : ℕ) (quotient left rest : Bits) → length wide ≡ w + 1 → number_of wide ≡ b → i + length rest ≡ w → Divided b w i a quotient left → Divided b w w (onto a rest) (fold (divide_change wide) (quotient, left) rest).0 (fold (divide_change wide) (quotient, left) rest).1
divided_all wide b w i a quotient left [] wide_is is all d =
    let e : i ≡ w = omega arith in
    subst (λ k. Divided b w k a quotient left) e d
divided_all wide b w i a quotient left (x ∷ rest) wide_is is all d =
    let s = divide_change wide (quotient, left) x in
    divided_all wide b w (i + 1) (number_of_bit x + 2 * a) s.0 s.1 rest wide_is is (omega arith) (divided_next wide b w i a quotient left x wide_is is (omega arith) d)

-- ---- the circuit

record Steps (inputs : ℕ → Bool) (wide t : Bits) (nodes : List Node) (o : ℤ × Word) : Type 0 where
  bit : Has inputs nodes o.0 (not (is_below wide t))
  left : Have inputs nodes o.1 (next_bits (is_below wide t) wide t)

makes_divide_step : {inputs : ℕ → Bool} {nodes : List Node} {w : Word} (left : Word) (bit : ℤ) {ws t : Bits} → IsNetlist nodes → Have inputs nodes w ws → Have inputs nodes (taken bit left) t → Makes nodes (λ ms o. Steps inputs ws t ms o) (divide_step w left bit)
unfolding divide_step
makes_divide_step left bit net p q =
    makes_then (makes_less_unsigned net q p) (λ n1 below o1 e1 h.
    makes_then (makes_subtract o1 (have_more e1 q) (have_more e1 p)) (λ n2 difference o2 e2 d.
    makes_then (makes_select o2 (has_not (has_more e2 h)) d (have_more e2 (have_more e1 q))) (λ n3 next o3 e3 k.
    makes_done _ o3 (record { bit = has_not (has_more e3 (has_more e2 h)); left = k }))))

record Quotients (inputs : ℕ → Bool) (w : Word) (ws : Bits) (nodes : List Node) (s : Word × Word) (v : Bits × Bits) : Type 0 where
  wide : Have inputs nodes w ws
  quotient : Have inputs nodes s.0 v.0
  left : Have inputs nodes s.1 v.1

makes_divide_bit : (inputs : ℕ → Bool) (w : Word) (ws : Bits) (ns : List Node) (s : Word × Word) (v : Bits × Bits) (bit : ℤ) (x : Bool) → IsNetlist ns → Quotients inputs w ws ns s v → Has inputs ns bit x → Makes ns (λ ms t. Quotients inputs w ws ms t (divide_change ws v x)) (divide_bit w s bit)
unfolding divide_bit
makes_divide_bit inputs w ws ns s v bit x net h k =
    makes_then (makes_divide_step s.1 bit net h.wide (have_cons k (have_low h.left))) (λ ms o order up t.
    makes_done _ order (record { wide = have_more up h.wide; quotient = have_cons t.bit (have_more up h.quotient); left = t.left }))

all_turned : (inputs : ℕ → Bool) (nodes : List Node) (ls : Word) (vs : Bits) → AllZip (Has inputs nodes) ls vs → Have inputs nodes (reverse ls) (reverse vs)
all_turned inputs nodes [] [] h = have_none
all_turned inputs nodes [] (v ∷ vs) h = absurd h
all_turned inputs nodes (l ∷ ls) [] h = absurd h
all_turned inputs nodes (l ∷ ls) (v ∷ vs) h =
    let both : Have inputs nodes (reverse ls ++ l ∷ []) (reverse vs ++ v ∷ []) = have_append (all_turned inputs nodes ls vs h.1) (have_cons h.0 have_none) in
    let at : Have inputs nodes (reverse (l ∷ ls)) (reverse vs ++ v ∷ []) = subst (λ ks. Have inputs nodes ks (reverse vs ++ v ∷ [])) (sym (reverse-append (l ∷ []) ls)) both in
    subst (λ us. Have inputs nodes (reverse (l ∷ ls)) us) (sym (reverse-append (v ∷ []) vs)) at

-- quotient and remainder of two numbers from 0
pub record Division (inputs : ℕ → Bool) (xs ys : Bits) (nodes : List Node) (o : Word × Word) : Type 0 where
  pub quotient_bits : Bits
  pub remainder_bits : Bits
  pub quotient : Have inputs nodes o.0 quotient_bits
  pub remainder : Have inputs nodes o.1 remainder_bits
  pub quotient_width : length quotient_bits ≡ length xs
  pub remainder_width : length remainder_bits ≡ length xs
  pub equation : number_of xs ≡ number_of quotient_bits * number_of ys + number_of remainder_bits
  pub small : 0 < number_of ys → number_of remainder_bits < number_of ys
  pub ones : number_of ys ≡ 0 → number_of quotient_bits + 1 ≡ 2 ^ length xs

pub makes_divide_unsigned : {inputs : ℕ → Bool} {nodes : List Node} {a b : Word} {xs ys : Bits} → length xs ≡ length ys → IsNetlist nodes → Have inputs nodes a xs → Have inputs nodes b ys → Makes nodes (λ ms o. Division inputs xs ys ms o) (divide_unsigned a b)
unfolding divide_unsigned
makes_divide_unsigned {inputs} {nodes} {a} {b} {xs} {ys} same net p q =
    let w = length xs in
    let wide = ys ++ false ∷ [] in
    let zeros = replicate (length a + 1) false in
    let long : length wide ≡ w + 1 = omega (arith, length-append ys (false ∷ [])) in
    let number : number_of wide ≡ number_of ys = number-append ys (false ∷ []) ∙ omega arith in
    let begin : Divided (number_of ys) w 0 0 [] zeros = record {
      count = refl;
      width = length-replicate (length a + 1) false ∙ omega (arith, length-have p);
      below = omega arith;
      equation = omega (arith, number-falses (length a + 1));
      small = λ lt. omega (arith, number-falses (length a + 1));
      ones = λ z. refl;
    } in
    let end = divided_all wide (number_of ys) w 0 0 [] zeros (reverse xs) long number (omega (arith, length-reverse xs)) begin in
    let result = fold (divide_change wide) ([], zeros) (reverse xs) in
    let all : onto 0 (reverse xs) ≡ number_of xs = onto-reverse xs in
    let low = low-number w (onto 0 (reverse xs)) (number_of ys) w result.0 result.1 end (omega arith) in
    makes_then (makes_each (λ ns s v. Quotients inputs (b ++ false_literal ∷ []) wide ns s v) (λ ns l v. Has inputs ns l v) (divide_bit (b ++ false_literal ∷ [])) (divide_change wide) (λ ns ms l v up t. has_more up t)
    (λ ns s v l y order k t. makes_divide_bit inputs (b ++ false_literal ∷ []) wide ns s v l y order k t) nodes ([], falses (length a + 1)) ([], zeros) (reverse a) (reverse xs) net
    (record { wide = have_append q (have_cons (has_false net) have_none); quotient = have_none; left = have_falses (length a + 1) net }) (all_turned inputs nodes a xs p.each).each)
    (λ ms s order up k. makes_done _ order (record {
      quotient_bits = result.0;
      remainder_bits = low_bits result.1;
      quotient = k.quotient;
      remainder = have_low k.left;
      quotient_width = end.count;
      remainder_width = length-low result.1 ∙ omega (arith, end.width);
      equation = omega (arith, end.equation, all, low);
      small = λ lt. let s = end.small lt in omega (arith, low);
      ones = λ z. end.ones z ∙ (weight-power result.0 ∙ ap (λ k. 2 ^ k) end.count);
    }))
