-- What the circuits compute on bits, and which numbers the bits are.
use Rattle.std.proofs.Common.{◌≡◌, ℕ, ◌+◌, ◌-◌, ◌*◌, ◌/◌, ◌%◌, ◌<◌, ◌≤◌, ◌^◌, suc, Bool, true, false, not, ◌&&◌, cond, List, [], ◌∷◌, ◌++◌, zero, length, length-append, length-take-le, length-drop, take-append-drop, map, take, drop, replicate, subst, refl, sym, ◌∙◌, ap, arith, inl, inr, append_assoc, append-nil}
use Rattle.std.specs.Prelude.{min}
use Rattle.std.specs.List.{fold}
use Rattle.std.proofs.Math.Nat.{mul-add-mod_self_left, add-mul-mod_self_right, mod-eq_of_lt, mul_comm, mul-lt-mul_of_pos_left, div-eq_of_lt, div-eq_of_lt-le, pow-le-pow_right}
use Rattle.std.proofs.lemmas.List.{length-replicate}
use Rattle.std.proofs.lemmas.Nat.{pow-add, pow_pos, div-add-mod'}
use Rattle.std.proofs.lemmas.Bool.{cases_lt}
use Rattle.pv_gate.specs.Value.{exclusive_or}
use Rattle.pv_gate.specs.Building.{pairs}
use Rattle.pv_bits.specs.Words.{number_of_bit, number_of}

abbrev pub Bits : Type 0
Bits = List Bool

-- 2 to the power of the number of bits
abbrev pub weight : Bits → ℕ
weight [] = 1
weight (b ∷ bs) = 2 * weight bs

pub weight-power : (bs : Bits) → weight bs ≡ 2 ^ length bs
weight-power [] = refl
weight-power (b ∷ bs) =
    let e : suc (length bs) ≡ 1 + length bs = omega arith in
    ap (λ n. 2 * n) (weight-power bs) ∙ sym (ap (λ n. 2 ^ n) e ∙ pow-add 2 1 (length bs))

pub number-below : (bs : Bits) → number_of bs < weight bs
number-below [] = omega arith
number-below (true ∷ bs) = omega (arith, number-below bs)
number-below (false ∷ bs) = omega (arith, number-below bs)

pub weight-same : (xs ys : Bits) → length xs ≡ length ys → weight xs ≡ weight ys
weight-same xs ys e = weight-power xs ∙ (ap (λ n. 2 ^ n) e ∙ sym (weight-power ys))

pub number-append : (xs ys : Bits) → number_of (xs ++ ys) ≡ number_of xs + weight xs * number_of ys
number-append [] ys = omega arith
number-append (x ∷ xs) ys = omega (arith, ap (λ n. 2 * n) (number-append xs ys))

-- ---- equal

abbrev pub equal_step : Bool → Bool × Bool → Bool
equal_step e p = e && not (exclusive_or p.0 p.1)

equal_step-true : (e x y : Bool) → equal_step e (x, y) ≡ true → (e ≡ true) × (number_of_bit x ≡ number_of_bit y)
equal_step-true true true true h = (refl, refl)
equal_step-true true true false h = cc
equal_step-true true false true h = cc
equal_step-true true false false h = (refl, refl)
equal_step-true false x y h = cc

equal_step-from : (x y : Bool) (n m : ℕ) → number_of_bit x + 2 * n ≡ number_of_bit y + 2 * m → (equal_step true (x, y) ≡ true) × (n ≡ m)
equal_step-from true true n m h = (refl, omega arith)
equal_step-from true false n m h = absurd (omega arith)
equal_step-from false true n m h = absurd (omega arith)
equal_step-from false false n m h = (refl, omega arith)

pub equal-true : (e : Bool) (xs ys : Bits) → length xs ≡ length ys → fold equal_step e (pairs xs ys) ≡ true → (e ≡ true) × (number_of xs ≡ number_of ys)
equal-true e [] [] same h = (h, refl)
equal-true e [] (y ∷ ys) same h = absurd (omega arith)
equal-true e (x ∷ xs) [] same h = absurd (omega arith)
equal-true e (x ∷ xs) (y ∷ ys) same h =
    let p = equal-true (equal_step e (x, y)) xs ys (omega arith) h in
    let q = equal_step-true e x y p.0 in
    (q.0, omega (arith, p.1, q.1))

pub equal-from : (e : Bool) (xs ys : Bits) → length xs ≡ length ys → e ≡ true → number_of xs ≡ number_of ys → fold equal_step e (pairs xs ys) ≡ true
equal-from e [] [] same is h = is
equal-from e [] (y ∷ ys) same is h = absurd (omega arith)
equal-from e (x ∷ xs) [] same is h = absurd (omega arith)
equal-from e (x ∷ xs) (y ∷ ys) same is h =
    let p = equal_step-from x y (number_of xs) (number_of ys) h in
    equal-from (equal_step e (x, y)) xs ys (omega arith) (ap (λ t. t && not (exclusive_or x y)) is ∙ p.0) p.1

-- ---- less

abbrev pub less_step : Bool → Bool × Bool → Bool
less_step l p = cond (exclusive_or p.0 p.1) p.1 l

less_step-below : (l x y : Bool) (n m : ℕ) → n < m + number_of_bit (less_step l (x, y)) → number_of_bit x + 2 * n < number_of_bit y + 2 * m + number_of_bit l
less_step-below true true true n m h = omega arith
less_step-below true true false n m h = omega arith
less_step-below true false true n m h = omega arith
less_step-below true false false n m h = omega arith
less_step-below false true true n m h = omega arith
less_step-below false true false n m h = omega arith
less_step-below false false true n m h = omega arith
less_step-below false false false n m h = omega arith

less_step-above : (l x y : Bool) (n m : ℕ) → m + number_of_bit (less_step l (x, y)) ≤ n → number_of_bit y + 2 * m + number_of_bit l ≤ number_of_bit x + 2 * n
less_step-above true true true n m h = omega arith
less_step-above true true false n m h = omega arith
less_step-above true false true n m h = omega arith
less_step-above true false false n m h = omega arith
less_step-above false true true n m h = omega arith
less_step-above false true false n m h = omega arith
less_step-above false false true n m h = omega arith
less_step-above false false false n m h = omega arith

end_below : (l : Bool) → l ≡ true → 0 < 0 + number_of_bit l
end_below true h = omega arith
end_below false h = cc

end_above : (l : Bool) → l ≡ false → 0 + number_of_bit l ≤ 0
end_above true h = cc
end_above false h = omega arith

pub less-true : (l : Bool) (xs ys : Bits) → length xs ≡ length ys → fold less_step l (pairs xs ys) ≡ true → number_of xs < number_of ys + number_of_bit l
less-true l [] [] same h = end_below l h
less-true l [] (y ∷ ys) same h = absurd (omega arith)
less-true l (x ∷ xs) [] same h = absurd (omega arith)
less-true l (x ∷ xs) (y ∷ ys) same h = less_step-below l x y (number_of xs) (number_of ys) (less-true (less_step l (x, y)) xs ys (omega arith) h)

pub less-false : (l : Bool) (xs ys : Bits) → length xs ≡ length ys → fold less_step l (pairs xs ys) ≡ false → number_of ys + number_of_bit l ≤ number_of xs
less-false l [] [] same h = end_above l h
less-false l [] (y ∷ ys) same h = absurd (omega arith)
less-false l (x ∷ xs) [] same h = absurd (omega arith)
less-false l (x ∷ xs) (y ∷ ys) same h = less_step-above l x y (number_of xs) (number_of ys) (less-false (less_step l (x, y)) xs ys (omega arith) h)

-- ---- select

abbrev pub select_step : Bool → Bits → Bool × Bool → Bits
select_step s so_far p = so_far ++ cond s p.0 p.1 ∷ []

pub select-true : (so_far xs ys : Bits) → length xs ≡ length ys → fold (select_step true) so_far (pairs xs ys) ≡ so_far ++ xs
select-true so_far [] [] same = sym (append-nil so_far)
select-true so_far [] (y ∷ ys) same = absurd (omega arith)
select-true so_far (x ∷ xs) [] same = absurd (omega arith)
select-true so_far (x ∷ xs) (y ∷ ys) same = select-true (so_far ++ x ∷ []) xs ys (omega arith) ∙ append_assoc so_far (x ∷ []) xs

pub select-false : (so_far xs ys : Bits) → length xs ≡ length ys → fold (select_step false) so_far (pairs xs ys) ≡ so_far ++ ys
select-false so_far [] [] same = sym (append-nil so_far)
select-false so_far [] (y ∷ ys) same = absurd (omega arith)
select-false so_far (x ∷ xs) [] same = absurd (omega arith)
select-false so_far (x ∷ xs) (y ∷ ys) same = select-false (so_far ++ y ∷ []) xs ys (omega arith) ∙ append_assoc so_far (y ∷ []) ys

-- ---- sums

abbrev pub sum_bit : Bool → Bool → Bool → Bool
sum_bit x y z = exclusive_or (exclusive_or x y) z

abbrev pub carry_bit : Bool → Bool → Bool → Bool
carry_bit x y z = not (not (x && y) && not (exclusive_or x y && z))

abbrev pub adder_step : Bits × Bool → Bool × Bool → Bits × Bool
adder_step s p = (s.0 ++ sum_bit p.0 p.1 s.1 ∷ [], carry_bit p.0 p.1 s.1)

-- the bits of the sum, and the carry out of it
abbrev pub sum_bits : Bool → Bits → Bits → Bits
sum_bits z [] ys = []
sum_bits z (x ∷ xs) [] = []
sum_bits z (x ∷ xs) (y ∷ ys) = sum_bit x y z ∷ sum_bits (carry_bit x y z) xs ys

abbrev pub carry_out : Bool → Bits → Bits → Bool
carry_out z [] ys = z
carry_out z (x ∷ xs) [] = z
carry_out z (x ∷ xs) (y ∷ ys) = carry_out (carry_bit x y z) xs ys

pub adder-bits : (ss : Bits) (z : Bool) (xs ys : Bits) → (fold adder_step (ss, z) (pairs xs ys)).0 ≡ ss ++ sum_bits z xs ys
adder-bits ss z [] ys = sym (append-nil ss)
adder-bits ss z (x ∷ xs) [] = sym (append-nil ss)
adder-bits ss z (x ∷ xs) (y ∷ ys) = adder-bits (ss ++ sum_bit x y z ∷ []) (carry_bit x y z) xs ys ∙ append_assoc ss (sum_bit x y z ∷ []) (sum_bits (carry_bit x y z) xs ys)

full_adder-number : (x y z : Bool) → number_of_bit (sum_bit x y z) + 2 * number_of_bit (carry_bit x y z) ≡ number_of_bit x + number_of_bit y + number_of_bit z
full_adder-number true true true = refl
full_adder-number true true false = refl
full_adder-number true false true = refl
full_adder-number true false false = refl
full_adder-number false true true = refl
full_adder-number false true false = refl
full_adder-number false false true = refl
full_adder-number false false false = refl

pub length-sum_bits : (z : Bool) (xs ys : Bits) → length xs ≡ length ys → length (sum_bits z xs ys) ≡ length xs
length-sum_bits z [] ys same = refl
length-sum_bits z (x ∷ xs) [] same = absurd (omega arith)
length-sum_bits z (x ∷ xs) (y ∷ ys) same = ap suc (length-sum_bits (carry_bit x y z) xs ys (omega arith))

pub sum_bits-number : (z : Bool) (xs ys : Bits) → length xs ≡ length ys → number_of (sum_bits z xs ys) + weight xs * number_of_bit (carry_out z xs ys) ≡ number_of xs + number_of ys + number_of_bit z
sum_bits-number z [] [] same = omega arith
sum_bits-number z [] (y ∷ ys) same = absurd (omega arith)
sum_bits-number z (x ∷ xs) [] same = absurd (omega arith)
sum_bits-number z (x ∷ xs) (y ∷ ys) same =
    let c = carry_bit x y z in
    let later : number_of (sum_bits c xs ys) + weight xs * number_of_bit (carry_out c xs ys) ≡ number_of xs + number_of ys + number_of_bit c = sum_bits-number c xs ys (omega arith) in
    let twice = ap (λ n. 2 * n) later in
    let here = full_adder-number x y z in
    omega (arith, twice, here)

-- the sum modulo 2 to the power of the width
pub sum_bits-mod : (z : Bool) (xs ys : Bits) → length xs ≡ length ys → number_of (sum_bits z xs ys) ≡ (number_of xs + number_of ys + number_of_bit z) % 2 ^ length xs
sum_bits-mod z xs ys same =
    let r = number_of (sum_bits z xs ys) in
    let m = weight xs in
    let small : r < m = omega (arith, number-below (sum_bits z xs ys), weight-same (sum_bits z xs ys) xs (length-sum_bits z xs ys same)) in
    let whole : m * number_of_bit (carry_out z xs ys) + r ≡ number_of xs + number_of ys + number_of_bit z = omega (arith, sum_bits-number z xs ys same) in
    sym (mod-eq_of_lt small) ∙ (sym (mul-add-mod_self_left m (number_of_bit (carry_out z xs ys)) r)
    ∙ (ap (λ n. n % m) whole ∙ ap (λ k. (number_of xs + number_of ys + number_of_bit z) % k) (weight-power xs)))

-- ---- differences

pub number-nots : (xs : Bits) → number_of (map not xs) + number_of xs + 1 ≡ weight xs
number-nots [] = refl
number-nots (true ∷ xs) = omega (arith, number-nots xs)
number-nots (false ∷ xs) = omega (arith, number-nots xs)

-- ---- shifts

pub number-falses : (n : ℕ) → number_of (replicate n false) ≡ 0
number-falses zero = refl
number-falses (suc n) = omega (arith, number-falses n)

abbrev pub bits_left : Bits → ℕ → Bits
bits_left xs n = replicate (min n (length xs)) false ++ take (length xs - min n (length xs)) xs

abbrev pub bits_right : Bits → ℕ → Bits
bits_right xs n = drop (min n (length xs)) xs ++ replicate (min n (length xs)) false

-- the lower bits and the higher ones
pub number-cut : (i : ℕ) (xs : Bits) → i ≤ length xs → number_of xs ≡ number_of (take i xs) + 2 ^ i * number_of (drop i xs)
number-cut i xs le =
    let e : weight (take i xs) ≡ 2 ^ i = weight-power (take i xs) ∙ ap (λ n. 2 ^ n) (length-take-le i xs le) in
    ap number_of (sym (take-append-drop i xs)) ∙ (number-append (take i xs) (drop i xs) ∙ ap (λ m. number_of (take i xs) + m * number_of (drop i xs)) e)

pub length-left : (xs : Bits) (n : ℕ) → length (bits_left xs n) ≡ length xs
length-left xs n =
    omega (arith, length-append (replicate (min n (length xs)) false) (take (length xs - min n (length xs)) xs), length-replicate (min n (length xs)) false, length-take-le (length xs - min n (length xs)) xs (omega arith))

pub length-right : (xs : Bits) (n : ℕ) → length (bits_right xs n) ≡ length xs
length-right xs n =
    omega (arith, length-append (drop (min n (length xs)) xs) (replicate (min n (length xs)) false), length-replicate (min n (length xs)) false, length-drop (min n (length xs)) xs)

left_within : (xs : Bits) (n : ℕ) → n ≤ length xs → number_of (replicate n false ++ take (length xs - n) xs) ≡ (number_of xs * 2 ^ n) % 2 ^ length xs
left_within xs n le =
    let i = length xs - n in
    let low = number_of (take i xs) in
    let high = number_of (drop i xs) in
    let split : i + n ≡ length xs = omega arith in
    let power : 2 ^ length xs ≡ 2 ^ i * 2 ^ n = ap (λ k. 2 ^ k) (sym split) ∙ pow-add 2 i n in
    let front : weight (replicate n false) ≡ 2 ^ n = weight-power (replicate n false) ∙ ap (λ k. 2 ^ k) (length-replicate n false) in
    let made : number_of (replicate n false ++ take i xs) ≡ 2 ^ n * low =
    number-append (replicate n false) (take i xs) ∙ (ap (λ z. z + weight (replicate n false) * low) (number-falses n) ∙ (ap (λ m. 0 + m * low) front ∙ omega arith)) in
    let below : low < 2 ^ i = subst (λ m. low < m) (weight-power (take i xs) ∙ ap (λ k. 2 ^ k) (length-take-le i xs (omega arith))) (number-below (take i xs)) in
    let small : 2 ^ n * low < 2 ^ length xs = subst (λ m. 2 ^ n * low < m) (sym power) (subst (λ m. 2 ^ n * low < m) (mul_comm (2 ^ n) (2 ^ i)) (mul-lt-mul_of_pos_left below (pow_pos n))) in
    let whole : number_of xs * 2 ^ n ≡ 2 ^ n * low + high * 2 ^ length xs =
    ap (λ k. k * 2 ^ n) (number-cut i xs (omega arith)) ∙ (omega arith ∙ ap (λ m. 2 ^ n * low + high * m) (sym power)) in
    made ∙ (sym (mod-eq_of_lt small) ∙ (sym (add-mul-mod_self_right (2 ^ n * low) high (2 ^ length xs)) ∙ ap (λ k. k % 2 ^ length xs) (sym whole)))

pub number-left : (xs : Bits) (n : ℕ) → number_of (bits_left xs n) ≡ (number_of xs * 2 ^ n) % 2 ^ length xs
number-left xs n =
    elim (cases_lt (length xs) n) [
      | inl far ↦
          let w = length xs in
          let all : min n w ≡ w = omega arith in
          let none : w - w ≡ 0 = omega arith in
          let split : (n - w) + w ≡ n = omega arith in
          let power : 2 ^ n ≡ 2 ^ (n - w) * 2 ^ w = ap (λ k. 2 ^ k) (sym split) ∙ pow-add 2 (n - w) w in
          let times : number_of xs * 2 ^ n ≡ 0 + number_of xs * 2 ^ (n - w) * 2 ^ w = ap (λ k. number_of xs * k) power ∙ omega arith in
          ap (λ k. number_of (replicate k false ++ take (w - k) xs)) all
          ∙ (ap (λ k. number_of (replicate w false ++ take k xs)) none ∙ (ap number_of (append-nil (replicate w false)) ∙ (number-falses w
          ∙ (sym (mod-eq_of_lt (pow_pos w)) ∙ (sym (add-mul-mod_self_right 0 (number_of xs * 2 ^ (n - w)) (2 ^ w)) ∙ ap (λ k. k % 2 ^ w) (sym times))))))
      | inr near ↦
          let all : min n (length xs) ≡ n = omega arith in
          ap (λ k. number_of (replicate k false ++ take (length xs - k) xs)) all ∙ left_within xs n near
    ]

right_within : (xs : Bits) (n k : ℕ) → n ≤ length xs → number_of (drop n xs ++ replicate k false) ≡ number_of xs / 2 ^ n
right_within xs n k le =
    let low = number_of (take n xs) in
    let high = number_of (drop n xs) in
    let below : low < 2 ^ n = subst (λ m. low < m) (weight-power (take n xs) ∙ ap (λ k. 2 ^ k) (length-take-le n xs le)) (number-below (take n xs)) in
    let cut : number_of xs ≡ low + 2 ^ n * high = number-cut n xs le in
    number-append (drop n xs) (replicate k false) ∙ (ap (λ z. high + weight (drop n xs) * z) (number-falses k)
    ∙ (omega arith ∙ sym (div-eq_of_lt-le {k = high} (2 ^ n) (omega arith) (omega arith))))

pub number-right : (xs : Bits) (n : ℕ) → number_of (bits_right xs n) ≡ number_of xs / 2 ^ n
number-right xs n =
    elim (cases_lt (length xs) n) [
      | inl far ↦
          let w = length xs in
          let all : min n w ≡ w = omega arith in
          let small : number_of xs < 2 ^ w = subst (λ m. number_of xs < m) (weight-power xs) (number-below xs) in
          let more : 2 ^ w ≤ 2 ^ n = pow-le-pow_right (omega arith) (omega arith) in
          ap (λ k. number_of (drop k xs ++ replicate k false)) all
          ∙ (right_within xs w w (omega arith) ∙ (div-eq_of_lt small ∙ sym (div-eq_of_lt {n = number_of xs} {m = 2 ^ n} (omega arith))))
      | inr near ↦
          let all : min n (length xs) ≡ n = omega arith in
          ap (λ k. number_of (drop k xs ++ replicate k false)) all ∙ right_within xs n n near
    ]

-- ---- products

abbrev pub and_step : Bool → Bits → Bool → Bits
and_step y so_far x = so_far ++ (x && y) ∷ []

abbrev pub masked : Bool → Bits → Bits
masked y xs = map (λ x. x && y) xs

pub and-bits : (y : Bool) (so_far xs : Bits) → fold (and_step y) so_far xs ≡ so_far ++ masked y xs
and-bits y so_far [] = sym (append-nil so_far)
and-bits y so_far (x ∷ xs) = and-bits y (so_far ++ (x && y) ∷ []) xs ∙ append_assoc so_far ((x && y) ∷ []) (masked y xs)

pub length-masked : (y : Bool) (xs : Bits) → length (masked y xs) ≡ length xs
length-masked y [] = refl
length-masked y (x ∷ xs) = ap suc (length-masked y xs)

pub number-masked : (y : Bool) (xs : Bits) → number_of (masked y xs) ≡ number_of xs * number_of_bit y
number-masked y [] = omega arith
number-masked true (true ∷ xs) = omega (arith, number-masked true xs)
number-masked true (false ∷ xs) = omega (arith, number-masked true xs)
number-masked false (true ∷ xs) = omega (arith, number-masked false xs)
number-masked false (false ∷ xs) = omega (arith, number-masked false xs)

abbrev pub multiply_step : Bits × Bits → Bool → Bits × Bits
multiply_step s y = (sum_bits false s.0 (masked y s.1), bits_left s.1 1)

mod_parts : (a b c m : ℕ) → (a % m + b % m * c) % m ≡ (a + b * c) % m
mod_parts a b c m =
    let p = div-add-mod' a m in
    let q = ap (λ n. n * c) (div-add-mod' b m) in
    let e : a + b * c ≡ a % m + b % m * c + (a / m + b / m * c) * m = omega (arith, p, q) in
    sym (ap (λ n. n % m) e ∙ add-mul-mod_self_right (a % m + b % m * c) (a / m + b / m * c) m)

pub multiply-width : (ss pp : Bits) (ys : Bits) → length ss ≡ length pp → length (fold multiply_step (ss, pp) ys).0 ≡ length ss
multiply-width ss pp [] same = refl
multiply-width ss pp (y ∷ ys) same =
    let s = length-sum_bits false ss (masked y pp) (same ∙ sym (length-masked y pp)) in
    multiply-width (sum_bits false ss (masked y pp)) (bits_left pp 1) ys (s ∙ (same ∙ sym (length-left pp 1))) ∙ s

-- the product modulo 2 to the power of the width
pub multiply-mod : (ss pp ys : Bits) → length ss ≡ length pp → number_of (fold multiply_step (ss, pp) ys).0 ≡ (number_of ss + number_of pp * number_of ys) % 2 ^ length pp
multiply-mod ss pp [] same =
    let small : number_of ss < 2 ^ length pp = subst (λ m. number_of ss < m) (weight-power ss ∙ ap (λ k. 2 ^ k) same) (number-below ss) in
    let plain : number_of ss + number_of pp * 0 ≡ number_of ss = omega arith in
    sym (ap (λ n. n % 2 ^ length pp) plain ∙ mod-eq_of_lt small)
multiply-mod ss pp (y ∷ ys) same =
    let m = 2 ^ length pp in
    let sums = sum_bits false ss (masked y pp) in
    let wide : length ss ≡ length (masked y pp) = same ∙ sym (length-masked y pp) in
    let s : number_of sums ≡ (number_of ss + number_of pp * number_of_bit y + 0) % m = sum_bits-mod false ss (masked y pp) wide ∙ (ap (λ k. (number_of ss + k + 0) % 2 ^ length ss) (number-masked y pp) ∙ ap (λ k. (number_of ss + number_of pp * number_of_bit y + 0) % 2 ^ k) same) in
    let p : number_of (bits_left pp 1) ≡ (number_of pp * 2) % m = number-left pp 1 in
    let n = number_of ys in
    let whole : number_of ss + number_of pp * number_of_bit y + 0 + number_of pp * 2 * n ≡ number_of ss + number_of pp * (number_of_bit y + 2 * n) = omega arith in
    multiply-mod sums (bits_left pp 1) ys (length-sum_bits false ss (masked y pp) wide ∙ (same ∙ sym (length-left pp 1)))
    ∙ (ap (λ k. (number_of sums + number_of (bits_left pp 1) * n) % 2 ^ k) (length-left pp 1)
    ∙ (ap (λ k. (k + number_of (bits_left pp 1) * n) % m) s ∙ (ap (λ k. ((number_of ss + number_of pp * number_of_bit y + 0) % m + k * n) % m) p
    ∙ (mod_parts (number_of ss + number_of pp * number_of_bit y + 0) (number_of pp * 2) n m ∙ ap (λ k. k % m) whole))))
