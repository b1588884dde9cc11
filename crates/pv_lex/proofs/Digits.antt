-- The value of digits, byte by byte.
use Rattle.std.proofs.Common.{◌≡◌, ℕ, ◌+◌, ◌*◌, ◌^◌, ◌<◌, ◌≤◌, length, get_or, drop, nat_lt, Bool, true, false, cond, inl, inr, List, [], ◌∷◌, refl, ap, sym, ◌∙◌, arith, drop-cons, add-one, lit<}
use Rattle.std.specs.Prelude.{◌&&◌, ◌||◌, ◌==◌}
use Rattle.std.specs.Char.{is_ascii_digit}
use Rattle.std.proofs.Math.Nat.{le-mul_of_pos_right}
use Rattle.std.proofs.Math.ListN.{drop_of_length-le}
use Rattle.std.proofs.lemmas.Bool.{cases_Bool, lt-ltb}
use Rattle.std.proofs.lemmas.Bool.Decides.{nat_tests}
use Rattle.pv_lex.specs.declared.class.Class.TheVariants as c
use Rattle.pv_lex.specs.Shapes.{begins}
use Rattle.pv_lex.specs.Values.{digit_value, is_silent, with_byte, with_run_byte, value_behind, unit_value, time_behind, runs_fit}

with_byte-cases : (base n b : ℕ) → 0 < base → n ≤ cond (is_silent b) n (n * base + digit_value b)
with_byte-cases base n b h =
    elim (cases_Bool (is_silent b)) [
      | inl on ↦ rw on (omega arith)
      | inr off ↦ rw off (omega (arith, le-mul_of_pos_right {m = base} n h))
    ]

pub with_byte-least : (base n b : ℕ) → 0 < base → n ≤ with_byte base n b
with_byte-least base n b h = with_byte-cases base n b h

pub value-least : (base : ℕ) (ds : List ℕ) (n : ℕ) → 0 < base → n ≤ value_behind base n ds
value-least base [] n h = omega arith
value-least base (d ∷ ds) n h = omega (arith, with_byte-least base n d h, value-least base ds (with_byte base n d) h)

pub value-step : (base : ℕ) (ds : List ℕ) (i v : ℕ) → i < length ds → value_behind base v (drop i ds) ≡ value_behind base (with_byte base v
    (get_or ds i 0)) (drop (i + 1) ds)
value-step base ds i v h = rw (add-one, drop-cons ds i 0) refl

pub value-end : (base : ℕ) (ds : List ℕ) (i v : ℕ) → length ds ≤ i → value_behind base v (drop i ds) ≡ v
value-end base ds i v h = ap (value_behind base v) (drop_of_length-le ds h)

-- a number that doesn't fit makes one that doesn't fit
pub value-wide : (base : ℕ) (ds : List ℕ) (i v : ℕ) → 0 < base → i < length ds → value_behind base v (drop i ds) ≡ value_behind base 0 ds
    → 2 ^ 64 ≤ with_byte base v (get_or ds i 0) → 2 ^ 64 ≤ value_behind base 0 ds
value-wide base ds i v low h e wide =
    let next : value_behind base (with_byte base v (get_or ds i 0)) (drop (i + 1) ds) ≡ value_behind base 0 ds = sym (value-step base ds i
    v h) ∙ e in
    omega (arith, next, wide, value-least base (drop (i + 1) ds) (with_byte base v (get_or ds i 0)) low)

-- ---- durations

positive : (day hour milli minute : Bool) → 0 < cond day 86400000 (cond hour 3600000 (cond milli 1 (cond minute 60000 1000)))
positive true hour milli minute = lit< tt
positive false true milli minute = lit< tt
positive false false true minute = lit< tt
positive false false false true = lit< tt
positive false false false false = lit< tt

unit-least : (b : ℕ) (others : List ℕ) → 0 < unit_value b others
unit-least b others = positive (b == 68 || b == 100) (b == 72 || b == 104) ((b == 77 || b == 109) && begins (c.Either 83 115) others) (b ==
    77 || b == 109)

pub time-least : (bs : List ℕ) (n : ℕ) → n ≤ time_behind n bs
time-least [] n = omega arith
time-least (b ∷ bs) n =
    elim (cases_Bool (is_silent b)) [
      | inl on ↦ rw on (time-least bs n)
      | inr off ↦ rw off (elim (cases_Bool (is_ascii_digit b)) [
        | inl digit ↦ rw digit (omega (arith, le-mul_of_pos_right {m = 10} n (lit< tt), time-least bs (n * 10 + digit_value b)))
        | inr unit ↦ rw unit (omega (arith, le-mul_of_pos_right {m = unit_value b bs} n (unit-least b bs)))
      ])
    ]

time-step : (n b : ℕ) (bs : List ℕ) → is_silent b ≡ false → is_ascii_digit b ≡ true
    → time_behind n (b ∷ bs) ≡ time_behind (with_byte 10 n b) bs
time-step n b bs off digit = rw (off, digit) refl

pub time-wide : (sum n b : ℕ) (bs : List ℕ) → is_silent b ≡ false → is_ascii_digit b ≡ true → 2 ^ 64 ≤ with_byte 10 n b
    → 2 ^ 64 ≤ sum + time_behind n (b ∷ bs)
time-wide sum n b bs off digit wide = omega (arith, time-step n b bs off digit, wide, time-least bs (with_byte 10 n b))

pub part-wide : (sum n b : ℕ) (bs : List ℕ) → is_silent b ≡ false → is_ascii_digit b ≡ false
    → time_behind n (b ∷ bs) ≡ n * unit_value b bs + time_behind 0 bs
part-wide sum n b bs off digit = rw (off, digit) refl

-- ---- runs of digits

pub run-step : (ds : List ℕ) (i v : ℕ) → i < length ds → v < 2 ^ 64 → runs_fit v (drop i ds) ≡ runs_fit (with_run_byte v (get_or ds i 0))
    (drop (i + 1) ds)
run-step ds i v h low = rw (add-one, drop-cons ds i 0, lt-ltb v (2 ^ 64) low) refl

le-lt_false : (v : ℕ) → 2 ^ 64 ≤ v → nat_lt v (2 ^ 64) ≡ false
le-lt_false v h = grind (arith, nat_tests)

pub run-wide : (ds : List ℕ) (v : ℕ) → 2 ^ 64 ≤ v → runs_fit v ds ≡ false
run-wide [] v h = le-lt_false v h
run-wide (d ∷ ds) v h = ap (λ (x : Bool). x && runs_fit (with_run_byte v d) ds) (le-lt_false v h)

pub runs-wide : (ds : List ℕ) (i v : ℕ) → i < length ds → v < 2 ^ 64 → runs_fit v (drop i ds) ≡ runs_fit 0 ds
    → 2 ^ 64 ≤ with_run_byte v (get_or ds i 0) → false ≡ runs_fit 0 ds
runs-wide ds i v h low e wide = sym (run-wide (drop (i + 1) ds) (with_run_byte v (get_or ds i 0)) wide) ∙ sym (run-step ds i v h low) ∙ e
