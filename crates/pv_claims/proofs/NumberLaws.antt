-- Numbers in a text: `from_utf8`, `from_str_radix`, then compare with what `itoa` writes. `parse-decimal` and the law for signed ones give
-- the refusals, so no fold over digits is proved.
use Rattle.std.proofs.Common.{◌≡◌, ℕ, zero, suc, ◌+◌, ◌^◌, ◌<◌, ◌≤◌, ℤ, pos, negsuc, List, [], ◌∷◌, ◌++◌, drop, refl, ap, subst, ◌∙◌, sym, arith, Option, Some, None, Result, Ok, Err, Bor}
use Rattle.std.specs.Prelude.{IfSome, IfNone, FitsSigned, neg_ℤ}
use Rattle.std.specs.Int.{w128}
use Rattle.std.specs.Int.Signed.{mag}
use Rattle.std.specs.List.{AllByRecursion}
use Rattle.std.specs.Result.{MatchResult, result_ok}
use Rattle.std.specs.Fmt.{decimal, signed_decimal}
use Rattle.std.specs.Str.{IsUtf8, IsAscii}
use Rattle.std.specs.Str.Parse.{ParsesUnsigned, ParsesSigned, AllDigits, digits_value}
use Rattle.std.proofs.lemmas.Fmt.{parse-decimal, IsAscii-decimal, IsAscii-decimal_wide, decimal_injective, decimal_is_IsNumeral_wide}
use Rattle.std.proofs.lemmas.Result.{Ok-from_Ok_iff}
use Rattle.std.proofs.lemmas.Str.{IsUtf8-from_ascii}
use Rattle.std.proofs.lemmas.Str.Parse.{digit_from_value, numerals_by_value, tells_digits, parse_signed_minus, parse_signed_digits}
use Rattle.pv_claims.specs.Words.{NoBlank}
use Rattle.pv_claims.specs.Lines.{NoFeed}

pub cancel : (front xs ys : List ℕ) → front ++ xs ≡ front ++ ys → xs ≡ ys
cancel [] xs ys e = e
cancel (x ∷ front) xs ys e = cancel front xs ys (ap (drop 1) e)

-- ---- any text

pub utf8-same : {E : Type 0} (X : E → Type 0) (text : List ℕ) (r : Result (Bor (List ℕ)) E) (s : Bor (List ℕ)) → MatchResult r (λ s. (s.now ≡ text) × IsUtf8 text) (λ e. (IsUtf8 text → ⊥) × X e) → result_ok r ≡ Some s → s.now ≡ text
utf8-same X text (Ok t) s h e = (let same : t ≡ s = cc in subst (λ (b : Bor (List ℕ)). b.now ≡ text) same h.0)
utf8-same X text (Err d) s h e = absurd cc

pub utf8-never : {E : Type 0} (X : E → Type 0) (text other : List ℕ) (r : Result (Bor (List ℕ)) E) → MatchResult r (λ s. (s.now ≡ text) × IsUtf8 text) (λ e. (IsUtf8 text → ⊥) × X e) → result_ok r ≡ None → IsAscii other → text ≡ other → ⊥
utf8-never X text other (Ok s) h e ascii q = absurd cc
utf8-never X text other (Err d) h e ascii q = h.0 (subst IsUtf8 (sym q) (IsUtf8-from_ascii other ascii))

-- ---- numbers of 64 bits

pub utf8-fails : {E : Type 0} (X : E → Type 0) (text : List ℕ) (r : Result (Bor (List ℕ)) E) → MatchResult r (λ s. (s.now ≡ text) × IsUtf8 text) (λ e. (IsUtf8 text → ⊥) × X e) → result_ok r ≡ None → (n : ℕ) → n < 2 ^ 64 → text ≡ decimal n → ⊥
utf8-fails X text r h e n small q = utf8-never X text (decimal n) r h e (IsAscii-decimal n small) q

pub parse-fails : {E : Type 0} (t text : List ℕ) (r : Result ℕ E) → ParsesUnsigned 64 10 t r → t ≡ text → IfNone (result_ok r) ((n : ℕ) → n < 2 ^ 64 → text ≡ decimal n → ⊥)
parse-fails t text (Ok v) h same = tt
parse-fails {E} t text (Err d) h same = λ n small q. (let r : Err d ≡ Ok n = parse-decimal {E = E} 64 n t (Err d) small small (same ∙ q) h in absurd cc)

pub parse-gives : {E : Type 0} (t text : List ℕ) (r : Result ℕ E) → ParsesUnsigned 64 10 t r → t ≡ text → IfSome (result_ok r) (λ v. (n : ℕ) → n < 2 ^ 64 → text ≡ decimal n → v ≡ n)
parse-gives {E} t text (Ok v) h same = λ n small q. (let r : Ok v ≡ Ok n = parse-decimal {E = E} 64 n t (Ok v) small small (same ∙ q) h in cc)
parse-gives t text (Err d) h same = tt

-- a text of a number of more than 32 bits isn't that of one of 32
pub too-wide : (n : ℕ) (text : List ℕ) → n < 2 ^ 64 → (n ≤ 4294967295 → ⊥) → text ≡ decimal n → (m : ℕ) → m < 2 ^ 32 → text ≡ decimal m → ⊥
too-wide n text small wide e m fits f = (let same : n ≡ m = decimal_injective n m small (omega (arith, fits)) (sym e ∙ f) in wide (omega (arith, fits, same)))

-- no number behind a prefix
pub behind : (bound : ℕ) (text front rest : List ℕ) (o : Option ℕ) → text ≡ front ++ rest → IfNone o ((n : ℕ) → n < bound → rest ≡ decimal n → ⊥) → IfNone o ((n : ℕ) → n < bound → text ≡ front ++ decimal n → ⊥)
behind bound text front rest None e h = λ n small q. h n small (cancel front rest (decimal n) (sym e ∙ q))
behind bound text front rest (Some v) e h = tt

-- ---- values of 128 bits

pub short : (v : ℤ) → FitsSigned w128 v → mag v + 1 < 10 ^ 64
short v f = omega (arith, f)

ascii-signed : (v : ℤ) → mag v + 1 < 10 ^ 64 → IsAscii (signed_decimal v)
ascii-signed (pos n) h i = IsAscii-decimal_wide n (omega (arith, h)) i
ascii-signed (negsuc n) h zero = omega arith
ascii-signed (negsuc n) h (suc i) = IsAscii-decimal_wide (suc n) (omega (arith, h)) i

parse-signed : {E : Type 0} (v : ℤ) (bs : List ℕ) (r : Result ℤ E) → FitsSigned w128 v → mag v + 1 < 10 ^ 64 → bs ≡ signed_decimal v → ParsesSigned w128 10 bs r → r ≡ Ok v
parse-signed (pos n) bs r fits small is h =
    let k = decimal_is_IsNumeral_wide n (omega (arith, small)) in
    let read = parse_signed_digits (numerals_by_value _ tells_digits) w128 (decimal n) r (subst (λ l. ParsesSigned w128 10 l r) is h) k.0.1 in
    Ok-from_Ok_iff r _ _ read (k.0.0, omega (arith, k.1, fits.sfits)) ∙ ap (λ m. Ok (pos m)) k.1
parse-signed (negsuc n) bs r fits small is h =
    let k = decimal_is_IsNumeral_wide (suc n) (omega (arith, small)) in
    let read = parse_signed_minus (numerals_by_value _ tells_digits) w128 (45 ∷ decimal (suc n)) r (subst (λ l. ParsesSigned w128 10 l r) is h) refl in
    Ok-from_Ok_iff r _ _ read (k.0.1, k.0.0, omega (arith, k.1, fits.sfits)) ∙ ap (λ m. Ok (neg_ℤ (pos m))) k.1

pub value-utf8-fails : {E : Type 0} (X : E → Type 0) (text : List ℕ) (r : Result (Bor (List ℕ)) E) → MatchResult r (λ s. (s.now ≡ text) × IsUtf8 text) (λ e. (IsUtf8 text → ⊥) × X e) → result_ok r ≡ None → (v : ℤ) → FitsSigned w128 v → text ≡ signed_decimal v → ⊥
value-utf8-fails X text r h e v fits q = utf8-never X text (signed_decimal v) r h e (ascii-signed v (short v fits)) q

pub value-fails : {E : Type 0} (t text : List ℕ) (r : Result ℤ E) → ParsesSigned w128 10 t r → t ≡ text → IfNone (result_ok r) ((v : ℤ) → FitsSigned w128 v → text ≡ signed_decimal v → ⊥)
value-fails t text (Ok v) h same = tt
value-fails {E} t text (Err d) h same = λ v fits q. (let r : Err d ≡ Ok v = parse-signed {E = E} v t (Err d) fits (short v fits) (same ∙ q) h in absurd cc)

pub value-gives : {E : Type 0} (t text : List ℕ) (r : Result ℤ E) → ParsesSigned w128 10 t r → t ≡ text → IfSome (result_ok r) (λ n. (v : ℤ) → FitsSigned w128 v → text ≡ signed_decimal v → n ≡ v)
value-gives {E} t text (Ok n) h same = λ v fits q. (let r : Ok n ≡ Ok v = parse-signed {E = E} v t (Ok n) fits (short v fits) (same ∙ q) h in cc)
value-gives t text (Err d) h same = tt

-- no such byte is among the digits and the sign
without : (c : ℕ) → c < 45 → (ds : List ℕ) → AllDigits 10 ds → AllByRecursion (λ byte. byte ≡ c → ⊥) ds
without c low [] are = tt
without c low (d ∷ ds) are = let range = digit_from_value d are.0 in ((λ is. omega (arith, range, is)), without c low ds are.1)

signed-without : (c : ℕ) (v : ℤ) → c < 45 → mag v + 1 < 10 ^ 64 → AllByRecursion (λ byte. byte ≡ c → ⊥) (signed_decimal v)
signed-without c (pos n) low small = without c low (decimal n) (decimal_is_IsNumeral_wide n (omega (arith, small))).0.1
signed-without c (negsuc n) low small = ((λ is. omega (arith, is)), without c low (decimal (suc n)) (decimal_is_IsNumeral_wide (suc n) (omega (arith, small))).0.1)

pub value-blankless : (v : ℤ) → FitsSigned w128 v → NoBlank (signed_decimal v)
value-blankless v fits = signed-without 32 v (omega arith) (short v fits)

pub value-plain : (v : ℤ) → FitsSigned w128 v → NoFeed (signed_decimal v)
value-plain v fits = signed-without 10 v (omega arith) (short v fits)

wide-injective : (m n : ℕ) → m < 10 ^ 64 → n < 10 ^ 64 → decimal m ≡ decimal n → m ≡ n
wide-injective m n p q e = sym (decimal_is_IsNumeral_wide m p).1 ∙ ap (digits_value 10) e ∙ (decimal_is_IsNumeral_wide n q).1

no-minus : (n : ℕ) (ds : List ℕ) → n < 10 ^ 64 → decimal n ≡ 45 ∷ ds → ⊥
no-minus n ds h e = omega (arith, digit_from_value 45 (subst (AllDigits 10) e (decimal_is_IsNumeral_wide n h).0.1).0)

signed-injective : (y z : ℤ) → mag y + 1 < 10 ^ 64 → mag z + 1 < 10 ^ 64 → signed_decimal y ≡ signed_decimal z → y ≡ z
signed-injective (pos m) (pos n) p q e = ap pos (wide-injective m n (omega (arith, p)) (omega (arith, q)) e)
signed-injective (pos m) (negsuc n) p q e = absurd (no-minus m _ (omega (arith, p)) e)
signed-injective (negsuc m) (pos n) p q e = absurd (no-minus n _ (omega (arith, q)) (sym e))
signed-injective (negsuc m) (negsuc n) p q e = ap negsuc (omega (arith, wide-injective (suc m) (suc n) (omega (arith, p)) (omega (arith, q)) (ap (drop 1) e)))

pub value-one : (y z : ℤ) → FitsSigned w128 y → FitsSigned w128 z → signed_decimal y ≡ signed_decimal z → y ≡ z
value-one y z p q e = signed-injective y z (short y p) (short z q) e
