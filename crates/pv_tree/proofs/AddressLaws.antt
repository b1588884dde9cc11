-- That the numbers of an address's byte and bit are those that its digits make: each run of a token's digits fits 64 bits, and behind the
-- dot there are digits alone.
use Rattle.std.proofs.Common.{◌≡◌, inl, inr, ℕ, suc, ◌+◌, ◌*◌, ◌^◌, ◌<◌, nat_lt, Bool, true, false, cond, IsTrue, not, List, [], ◌∷◌, ◌++◌, take, drop, refl, ap, sym, subst, ◌∙◌, arith}
use Rattle.std.specs.Prelude.{Some}
use Rattle.std.specs.List.{list_all, prefix_len}
use Rattle.std.specs.Char.{is_ascii_digit}
use Rattle.std.proofs.lemmas.Bool.{cases_Bool, and_parts, and_from, lt-ltb, ltb-true}
use Rattle.std.proofs.lemmas.Bool.Decides.{nat_tests}
use Rattle.pv_lex.specs.declared.class.Class.{Class}
use Rattle.pv_lex.specs.declared.class.Class.TheVariants as c
use Rattle.pv_lex.specs.declared.context.Context.{Context}
use Rattle.pv_lex.specs.declared.token.Kind.TheVariants as k
use Rattle.pv_lex.specs.declared.token.Language.{Language}
use Rattle.pv_lex.specs.Classes.{has}
use Rattle.pv_lex.specs.Shapes.{Shape, done, one, many, Spells, IsOne, begins, decimals, plain_address, address}
use Rattle.pv_lex.specs.Tokens.{IsNext}
use Rattle.pv_lex.specs.Values.{digit_value, is_silent, with_byte, with_run_byte, value_behind, fitting_value, runs_fit}
use Rattle.pv_tree.specs.Literals.{bare_address, from_digit, leading_digits, behind_digits, address_byte, address_bit}

-- ---- texts by their first byte

not-silent : (b : ℕ) → is_ascii_digit b ≡ true → is_silent b ≡ false
not-silent b on = grind (arith, nat_tests)

no-area : (b : ℕ) → IsTrue (has c.Area b) → is_ascii_digit b ≡ false
no-area b on = grind (arith, nat_tests)

no-width : (b : ℕ) → IsTrue (has c.Width b) → is_ascii_digit b ≡ false
no-width b on = grind (arith, nat_tests)

no-blank : (b : ℕ) → IsTrue (has c.Blank b) → is_ascii_digit b ≡ false
no-blank b on = grind (arith, nat_tests)

no-dot : (b : ℕ) → IsTrue (has (c.Byte 46) b) → is_ascii_digit b ≡ false
no-dot b on = grind (arith, nat_tests)

no-percent : (b : ℕ) → IsTrue (has (c.Byte 37) b) → is_ascii_digit b ≡ false
no-percent b on = grind (arith, nat_tests)

area-percent : (b : ℕ) → IsTrue (has c.Area b) → has (c.Byte 37) b ≡ false
area-percent b on = grind arith

longer : (p : ℕ → Bool) (b : ℕ) (bs : List ℕ) → p b ≡ true → prefix_len p (b ∷ bs) ≡ suc (prefix_len p bs)
longer p b bs on = ap (λ (v : Bool). cond v (1 + prefix_len p bs) 0) on ∙ omega arith

ended : (p : ℕ → Bool) (b : ℕ) (bs : List ℕ) → p b ≡ false → prefix_len p (b ∷ bs) ≡ 0
ended p b bs off = ap (λ (v : Bool). cond v (1 + prefix_len p bs) 0) off

leading-on : (b : ℕ) (bs : List ℕ) → is_ascii_digit b ≡ true → leading_digits (b ∷ bs) ≡ b ∷ leading_digits bs
leading-on b bs on = ap (λ (n : ℕ). take n (b ∷ bs)) (longer is_ascii_digit b bs on)

leading-off : (b : ℕ) (bs : List ℕ) → is_ascii_digit b ≡ false → leading_digits (b ∷ bs) ≡ []
leading-off b bs off = ap (λ (n : ℕ). take n (b ∷ bs)) (ended is_ascii_digit b bs off)

behind-on : (b : ℕ) (bs : List ℕ) → is_ascii_digit b ≡ true → behind_digits (b ∷ bs) ≡ behind_digits bs
behind-on b bs on = ap (λ (n : ℕ). drop n (b ∷ bs)) (longer is_ascii_digit b bs on)

behind-off : (b : ℕ) (bs : List ℕ) → is_ascii_digit b ≡ false → behind_digits (b ∷ bs) ≡ b ∷ bs
behind-off b bs off = ap (λ (n : ℕ). drop n (b ∷ bs)) (ended is_ascii_digit b bs off)

from-on : (b : ℕ) (bs : List ℕ) → is_ascii_digit b ≡ true → from_digit (b ∷ bs) ≡ b ∷ bs
from-on b bs on = ap (λ (n : ℕ). drop n (b ∷ bs)) (ended (λ b. not (is_ascii_digit b)) b bs (ap not on))

from-off : (b : ℕ) (bs : List ℕ) → is_ascii_digit b ≡ false → from_digit (b ∷ bs) ≡ from_digit bs
from-off b bs off = ap (λ (n : ℕ). drop n (b ∷ bs)) (longer (λ b. not (is_ascii_digit b)) b bs (ap not off))

-- ---- runs of digits that fit

with-digit : (n b : ℕ) → is_ascii_digit b ≡ true → with_byte 10 n b ≡ with_run_byte n b
with-digit n b on =
    ap (λ (v : Bool). cond v n (n * 10 + digit_value b)) (not-silent b on) ∙ sym (ap (λ (v : Bool). cond v (n * 10 + digit_value b) 0) on)

-- behind a byte that is no digit a run begins anew
anew : (n b : ℕ) (bs : List ℕ) → is_ascii_digit b ≡ false → runs_fit n (b ∷ bs) ≡ true → runs_fit 0 bs ≡ true
anew n b bs off fit =
    subst (λ (m : ℕ). runs_fit m bs ≡ true) (ap (λ (v : Bool). cond v (n * 10 + digit_value b) 0) off)
    (and_parts (nat_lt n (2 ^ 64)) (runs_fit (with_run_byte n b) bs) fit).1

on-with : (n b : ℕ) (bs : List ℕ) → runs_fit n (b ∷ bs) ≡ true → runs_fit (with_run_byte n b) bs ≡ true
on-with n b bs fit = (and_parts (nat_lt n (2 ^ 64)) (runs_fit (with_run_byte n b) bs) fit).1

leading-fits : (bs : List ℕ) (n : ℕ) → runs_fit n bs ≡ true → value_behind 10 n (leading_digits bs) < 2 ^ 64
leading-fits [] n fit = ltb-true n (2 ^ 64) fit
leading-fits (b ∷ bs) n fit =
    elim (cases_Bool (is_ascii_digit b)) [
      | inl on ↦ subst (λ (ds : List ℕ). value_behind 10 n ds < 2 ^ 64) (sym (leading-on b bs on))
          (subst (λ (m : ℕ). value_behind 10 m (leading_digits bs) < 2 ^ 64) (sym (with-digit n b on))
          (leading-fits bs (with_run_byte n b) (on-with n b bs fit)))
      | inr off ↦ subst (λ (ds : List ℕ). value_behind 10 n ds < 2 ^ 64) (sym (leading-off b bs off))
          (ltb-true n (2 ^ 64) (and_parts (nat_lt n (2 ^ 64)) (runs_fit (with_run_byte n b) bs) fit).0)
    ]

behind-fits : (bs : List ℕ) (n : ℕ) → runs_fit n bs ≡ true → runs_fit 0 (drop 1 (behind_digits bs)) ≡ true
behind-fits [] n fit = refl
behind-fits (b ∷ bs) n fit =
    elim (cases_Bool (is_ascii_digit b)) [
      | inl on ↦ subst (λ (rest : List ℕ). runs_fit 0 (drop 1 rest) ≡ true) (sym (behind-on b bs on))
          (behind-fits bs (with_run_byte n b) (on-with n b bs fit))
      | inr off ↦ subst (λ (rest : List ℕ). runs_fit 0 (drop 1 rest) ≡ true) (sym (behind-off b bs off)) (anew n b bs off fit)
    ]

from-fits : (bs : List ℕ) → runs_fit 0 bs ≡ true → runs_fit 0 (from_digit bs) ≡ true
from-fits [] fit = refl
from-fits (b ∷ bs) fit =
    elim (cases_Bool (is_ascii_digit b)) [
      | inl on ↦ subst (λ (rest : List ℕ). runs_fit 0 rest ≡ true) (sym (from-on b bs on)) fit
      | inr off ↦ subst (λ (rest : List ℕ). runs_fit 0 rest ≡ true) (sym (from-off b bs off)) (from-fits bs (anew 0 b bs off fit))
    ]

fits : (digits : List ℕ) → value_behind 10 0 digits < 2 ^ 64 → fitting_value digits ≡ value_behind 10 0 digits
fits digits low = ap (λ (v : Bool). cond v (value_behind 10 0 digits) 0) (lt-ltb (value_behind 10 0 digits) (2 ^ 64) low)

all-leading : (bs : List ℕ) → list_all is_ascii_digit bs ≡ true → leading_digits bs ≡ bs
all-leading [] all = refl
all-leading (b ∷ bs) all =
    let parts = and_parts (is_ascii_digit b) (list_all is_ascii_digit bs) all in
    leading-on b bs parts.0 ∙ ap (λ (ds : List ℕ). b ∷ ds) (all-leading bs parts.1)

-- ---- what stands behind the dot, by the shape

along : (P : List ℕ → Type 0) (bytes other : List ℕ) → bytes ≡ other → P other → P bytes
along P bytes other e p = subst P (sym e) p

abbrev AreDigits : List ℕ → Type 0
AreDigits bs = list_all is_ascii_digit bs ≡ true

-- behind the digits, or from the first digit on, and behind one byte more, there are digits alone
abbrev EndsBehind : List ℕ → Type 0
EndsBehind bs = AreDigits (drop 1 (behind_digits bs))

abbrev Ends : List ℕ → Type 0
Ends bs = EndsBehind (from_digit bs)

all-then : (front rest : List ℕ) → AreDigits front → rest ≡ [] → AreDigits (front ++ rest)
all-then [] rest all e = along AreDigits rest [] e refl
all-then (b ∷ bs) rest all e =
    let parts = and_parts (is_ascii_digit b) (list_all is_ascii_digit bs) all in
    and_from (is_ascii_digit b) (list_all is_ascii_digit (bs ++ rest)) parts.0 (all-then bs rest parts.1 e)

many-all : (bytes : List ℕ) → Spells (many c.Digit done) bytes → AreDigits bytes
many-all bytes h = along AreDigits bytes (h.front ++ h.rest) h.spelled (all-then h.front h.rest h.passes h.behind)

decimals-all : (bytes : List ℕ) → Spells (decimals done) bytes → AreDigits bytes
decimals-all bytes h =
    along AreDigits bytes (h.byte ∷ h.rest) h.spelled
    (and_from (is_ascii_digit h.byte) (list_all is_ascii_digit h.rest) h.passes (many-all h.rest h.behind))

done-ends : (bytes : List ℕ) → Spells done bytes → EndsBehind bytes
done-ends bytes h = along EndsBehind bytes [] h refl

dot-ends : (bytes : List ℕ) → Spells (one (c.Byte 46) (decimals done)) bytes → EndsBehind bytes
dot-ends bytes h =
    along EndsBehind bytes (h.byte ∷ h.rest) h.spelled
    (subst (λ (rest : List ℕ). AreDigits (drop 1 rest)) (sym (behind-off h.byte h.rest (no-dot h.byte h.passes))) (decimals-all h.rest h.behind))

pass-all : (front rest : List ℕ) → AreDigits front → EndsBehind rest → EndsBehind (front ++ rest)
pass-all [] rest all ends = ends
pass-all (b ∷ bs) rest all ends =
    let parts = and_parts (is_ascii_digit b) (list_all is_ascii_digit bs) all in
    subst (λ (left : List ℕ). AreDigits (drop 1 left)) (sym (behind-on b (bs ++ rest) parts.0)) (pass-all bs rest parts.1 ends)

decimals-end : (shape : Shape) → ((bytes : List ℕ) → Spells shape bytes → EndsBehind bytes) → (bytes : List ℕ)
    → Spells (decimals shape) bytes → Ends bytes
decimals-end shape ends bytes h =
    along Ends bytes (h.byte ∷ h.rest) h.spelled
    (subst EndsBehind (sym (from-on h.byte h.rest h.passes))
    (subst (λ (left : List ℕ). AreDigits (drop 1 left)) (sym (behind-on h.byte h.rest h.passes))
    (along EndsBehind h.rest (h.behind.front ++ h.behind.rest) h.behind.spelled
    (pass-all h.behind.front h.behind.rest h.behind.passes (ends h.behind.rest h.behind.behind)))))

skip-all : (front rest : List ℕ) → list_all (has c.Blank) front ≡ true → Ends rest → Ends (front ++ rest)
skip-all [] rest all ends = ends
skip-all (b ∷ bs) rest all ends =
    let parts = and_parts (has c.Blank b) (list_all (has c.Blank) bs) all in
    subst EndsBehind (sym (from-off b (bs ++ rest) (no-blank b parts.0))) (skip-all bs rest parts.1 ends)

blanks-end : (shape : Shape) → ((bytes : List ℕ) → Spells shape bytes → Ends bytes) → (bytes : List ℕ) → Spells (many c.Blank shape) bytes → Ends bytes
blanks-end shape ends bytes h =
    along Ends bytes (h.front ++ h.rest) h.spelled (skip-all h.front h.rest h.passes (ends h.rest h.behind))

one-ends : (class : Class) (shape : Shape) → ((b : ℕ) → IsTrue (has class b) → is_ascii_digit b ≡ false)
    → ((bytes : List ℕ) → Spells shape bytes → Ends bytes) → (bytes : List ℕ) → Spells (one class shape) bytes → Ends bytes
one-ends class shape off ends bytes h =
    along Ends bytes (h.byte ∷ h.rest) h.spelled (subst EndsBehind (sym (from-off h.byte h.rest (off h.byte h.passes))) (ends h.rest h.behind))

bits-end : (bytes : List ℕ) → Spells (many c.Blank (decimals (one (c.Byte 46) (decimals done)))) bytes → Ends bytes
bits-end = blanks-end (decimals (one (c.Byte 46) (decimals done))) (decimals-end (one (c.Byte 46) (decimals done)) dot-ends)

bytes-end : (bytes : List ℕ) → Spells (many c.Blank (decimals done)) bytes → Ends bytes
bytes-end = blanks-end (decimals done) (decimals-end done done-ends)

plain-ends : (bytes : List ℕ) → Spells plain_address bytes → Ends bytes
plain-ends bytes (inl h) = one-ends c.Area (many c.Blank (decimals (one (c.Byte 46) (decimals done)))) no-area bits-end bytes h
plain-ends bytes (inr h) =
    one-ends c.Area (one c.Width (many c.Blank (decimals done))) no-area (one-ends c.Width (many c.Blank (decimals done)) no-width bytes-end) bytes h

-- ---- addresses without `%`

-- a plain address whose digits fit
record IsPlain (bytes : List ℕ) : Type 0 where
  spelled : Spells plain_address bytes
  fits : runs_fit 0 bytes ≡ true

first-percent : (P : List ℕ → Type 0) (bytes : List ℕ) → IsOne c.Area P bytes → begins (c.Byte 37) bytes ≡ false
first-percent P bytes h =
    along (λ bs. begins (c.Byte 37) bs ≡ false) bytes (h.byte ∷ h.rest) h.spelled (area-percent h.byte h.passes)

plain-percent : (bytes : List ℕ) → Spells plain_address bytes → begins (c.Byte 37) bytes ≡ false
plain-percent bytes (inl h) = first-percent _ bytes h
plain-percent bytes (inr h) = first-percent _ bytes h

bare-behind : (b : ℕ) (rest : List ℕ) → IsTrue (has (c.Byte 37) b) → runs_fit 0 (b ∷ rest) ≡ true → Spells plain_address rest
    → IsPlain (bare_address (b ∷ rest))
bare-behind b rest on fit plain =
    subst IsPlain (sym (ap (λ (v : Bool). cond v rest (b ∷ rest)) on)) (record { spelled = plain; fits = anew 0 b rest (no-percent b on) fit })

bare-plain : (bytes : List ℕ) → Spells address bytes → runs_fit 0 bytes ≡ true → IsPlain (bare_address bytes)
bare-plain bytes (inl h) fit =
    subst IsPlain (sym (ap (λ (v : Bool). cond v (drop 1 bytes) bytes) (plain-percent bytes h))) (record { spelled = h; fits = fit })
bare-plain bytes (inr h) fit =
    along (λ bs. IsPlain (bare_address bs)) bytes (h.byte ∷ h.rest) h.spelled
    (bare-behind h.byte h.rest h.passes (subst (λ (bs : List ℕ). runs_fit 0 bs ≡ true) h.spelled fit) h.behind)

-- ---- the numbers

plain-byte : (bytes : List ℕ) → IsPlain bytes → address_byte bytes ≡ value_behind 10 0 (leading_digits (from_digit bytes))
plain-byte bytes h = fits (leading_digits (from_digit bytes)) (leading-fits (from_digit bytes) 0 (from-fits bytes h.fits))

plain-bit : (bytes : List ℕ) → IsPlain bytes → address_bit bytes ≡ value_behind 10 0 (drop 1 (behind_digits (from_digit bytes)))
plain-bit bytes h =
    let digits = drop 1 (behind_digits (from_digit bytes)) in
    fits digits (subst (λ (ds : List ℕ). value_behind 10 0 ds < 2 ^ 64) (all-leading digits (plain-ends bytes h.spelled))
    (leading-fits digits 0 (behind-fits (from_digit bytes) 0 (from-fits bytes h.fits))))

pub byte-kept : (language : Language) (context : Context) (bytes rest : List ℕ) → IsNext language context (Some k.Address) bytes rest
    → address_byte (bare_address bytes) ≡ value_behind 10 0 (leading_digits (from_digit (bare_address bytes)))
byte-kept language context bytes rest h = plain-byte (bare_address bytes) (bare-plain bytes h.longest.stretch h.fit)

pub bit-kept : (language : Language) (context : Context) (bytes rest : List ℕ) → IsNext language context (Some k.Address) bytes rest
    → address_bit (bare_address bytes) ≡ value_behind 10 0 (drop 1 (behind_digits (from_digit (bare_address bytes))))
bit-kept language context bytes rest h = plain-bit (bare_address bytes) (bare-plain bytes h.longest.stretch h.fit)
