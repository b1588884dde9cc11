-- Indexes as they are written: in a path no other index reads as this one.
use Rattle.std.specs.Prelude.{◌≡◌, ◌<◌, ◌≤◌, ◌^◌, ◌≤ℤ◌, ℕ, suc, ℤ, pos, negsuc, List, [], ◌∷◌, refl, drop, nat_lt, cond, ◌+◌}
use Rattle.std.proofs.Common.{ap, subst, sym, ◌∙◌, arith}
use Rattle.std.specs.Str.{str_to_ascii_lowercase}
use Rattle.std.specs.Char.{to_ascii_lowercase}
use Rattle.std.specs.List.{AllByRecursion}
use Rattle.std.specs.Fmt.{decimal, signed_decimal}
use Rattle.std.specs.Str.Parse.{AllDigits, digits_value}
use Rattle.std.proofs.lemmas.Bool.{lt-ltb}
use Rattle.std.proofs.lemmas.Int.{ints}
use Rattle.std.proofs.lemmas.Str.Parse.{digit_from_value}
use Rattle.std.proofs.lemmas.Fmt.{decimal_is_IsNumeral_wide}
use Rattle.pv_types.specs.Paths.{IsShort}

low_kept : (c : ℕ) → c < 65 → to_ascii_lowercase c ≡ c
low_kept c low = ap (λ b. cond b c (cond (nat_lt c 91) (c + 32) c)) (lt-ltb c 65 low)

digits_kept : (ds : List ℕ) → AllDigits 10 ds → str_to_ascii_lowercase ds ≡ ds
digits_kept [] are = refl
digits_kept (c ∷ cs) are =
    let range = digit_from_value c are.0 in
    ap (λ d. d ∷ str_to_ascii_lowercase cs) (low_kept c (omega (arith, range))) ∙ ap (λ l. c ∷ l) (digits_kept cs are.1)

digits_open : (ds : List ℕ) → AllDigits 10 ds → AllByRecursion (λ c. c ≡ 93 → ⊥) ds
digits_open [] are = tt
digits_open (c ∷ cs) are = let range = digit_from_value c are.0 in ((λ is. omega (arith, range, is)), digits_open cs are.1)

decimal_digits : (n : ℕ) → n < 10 ^ 64 → AllDigits 10 (decimal n)
decimal_digits n short = (decimal_is_IsNumeral_wide n short).0.1

-- an index has no letters
pub index_kept : (z : ℤ) → IsShort z → str_to_ascii_lowercase (signed_decimal z) ≡ signed_decimal z
index_kept (pos n) short = digits_kept (decimal n) (decimal_digits n short)
index_kept (negsuc n) short = ap (λ l. 45 ∷ l) (digits_kept (decimal (suc n)) (decimal_digits (suc n) short))

-- and no closing bracket
pub index_open : (z : ℤ) → IsShort z → AllByRecursion (λ c. c ≡ 93 → ⊥) (signed_decimal z)
index_open (pos n) short = digits_open (decimal n) (decimal_digits n short)
index_open (negsuc n) short = ((λ is. omega (arith, is)), digits_open (decimal (suc n)) (decimal_digits (suc n) short))

decimal_tells : (m n : ℕ) → m < 10 ^ 64 → n < 10 ^ 64 → decimal m ≡ decimal n → m ≡ n
decimal_tells m n p q e = sym (decimal_is_IsNumeral_wide m p).1 ∙ ap (digits_value 10) e ∙ (decimal_is_IsNumeral_wide n q).1

no_sign : (n : ℕ) (ds : List ℕ) → n < 10 ^ 64 → decimal n ≡ 45 ∷ ds → ⊥
no_sign n ds short e = let range = digit_from_value 45 (subst (AllDigits 10) e (decimal_digits n short)).0 in omega (arith, range)

pub index_tells : (y z : ℤ) → IsShort y → IsShort z → signed_decimal y ≡ signed_decimal z → y ≡ z
index_tells (pos m) (pos n) p q e = ap pos (decimal_tells m n p q e)
index_tells (pos m) (negsuc n) p q e = absurd (no_sign m (decimal (suc n)) p e)
index_tells (negsuc m) (pos n) p q e = absurd (no_sign n (decimal (suc m)) q (sym e))
index_tells (negsuc m) (negsuc n) p q e =
    let same : suc m ≡ suc n = decimal_tells (suc m) (suc n) p q (ap (drop 1) e) in ap negsuc (omega (arith, same))

-- what lies between two short indexes is short
pub short_between : (low i high : ℤ) → IsShort low → IsShort high → low ≤ℤ i → i ≤ℤ high → IsShort i
short_between (pos l) (pos n) (pos h) p q a b = let le : n ≤ h = omega (arith, ints, b) in omega (arith, q, le)
short_between (pos l) (pos n) (negsuc h) p q a b = absurd (omega (arith, ints, b))
short_between (pos l) (negsuc n) high p q a b = absurd (omega (arith, ints, a))
short_between (negsuc l) (pos n) (pos h) p q a b = let le : n ≤ h = omega (arith, ints, b) in omega (arith, q, le)
short_between (negsuc l) (pos n) (negsuc h) p q a b = absurd (omega (arith, ints, b))
short_between (negsuc l) (negsuc n) high p q a b = let le : n ≤ l = omega (arith, ints, a) in omega (arith, p, le)
