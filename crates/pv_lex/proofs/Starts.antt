-- The first byte of a stretch, and what can't begin with it.
use Rattle.std.proofs.Common.{◌≡◌, ℕ, zero, suc, ◌<◌, Bool, true, false, not, inl, inr, List, [], ◌∷◌, ◌++◌, refl, ap, sym, ◌∙◌, subst, arith, lit<}
use Rattle.std.specs.Prelude.{◌&&◌, ◌||◌, ◌==◌}
use Rattle.std.specs.Char.{is_ascii_digit, is_ascii_alphabetic}
use Rattle.std.specs.Int.{is_in_range}
use Rattle.std.proofs.lemmas.Bool.{false≢true, eqb-true, cases_Bool, or_cases, and_parts}
use Rattle.std.proofs.lemmas.Bool.Decides.{nat_tests}
use Rattle.pv_lex.specs.declared.class.Class.{Class}
use Rattle.pv_lex.specs.Classes.{has, is_letter}
use Rattle.pv_lex.specs.Shapes.{Shape, Spells, begins, is_word, is_number, plain_number}
use Rattle.pv_lex.specs.Shapes.Shape.{done, one, many, number, led, either, closing}
use Rattle.pv_lex.proofs.Within.{starts, starts-there, not_nil}

-- ---- a table of all bytes below a number

abbrev pub all_below : ℕ → (ℕ → Bool) → Bool
all_below zero p = true
all_below (suc n) p = p n && all_below n p

less : (b n : ℕ) → b < suc n → (b == n) ≡ false → b < n
less b n h off = grind (arith, nat_tests)

below : (n : ℕ) (p : ℕ → Bool) → all_below n p ≡ true → (b : ℕ) → b < n → p b ≡ true
below zero p e b h = absurd (omega arith)
below (suc n) p e b h =
    let parts = and_parts (p n) (all_below n p) e in
    elim (cases_Bool (b == n)) [
      | inl is ↦ ap p (eqb-true b n is) ∙ parts.0
      | inr off ↦ below n p parts.1 b (less b n h off)
    ]

not_both : (x y : Bool) → not (x && y) ≡ true → x ≡ true → y ≡ true → ⊥
not_both true true e f g = false≢true e
not_both true false e f g = false≢true g
not_both false y e f g = false≢true f

-- no byte passes both tests
pub clash : (p q : ℕ → Bool) → ((b : ℕ) → p b ≡ true → b < 128) → all_below 128 (λ b. not (p b && q b)) ≡ true → (b : ℕ) → p b ≡ true
    → q b ≡ true → ⊥
clash p q low e b on there = not_both (p b) (q b) (below 128 (λ n. not (p n && q n)) e b (low b on)) on there

range-low : (low high b : ℕ) → high < 128 → is_in_range low high b ≡ true → b < 128
range-low low high b h on = grind (arith, nat_tests)

pub letter-low : (b : ℕ) → is_letter b ≡ true → b < 128
letter-low b on = elim (or_cases (is_ascii_alphabetic b) (b == 95) on) [
  | inl alphabetic ↦ elim (or_cases (is_in_range 65 90 b) (is_in_range 97 122 b) alphabetic) [
    | inl upper ↦ range-low 65 90 b (lit< tt) upper
    | inr lower ↦ range-low 97 122 b (lit< tt) lower
  ]
  | inr joint ↦ omega (arith, eqb-true b 95 joint)
]

pub digit-low : (b : ℕ) → is_ascii_digit b ≡ true → b < 128
digit-low b on = range-low 48 57 b (lit< tt) on

-- ---- texts that aren't empty

abbrev pub solid : Shape → Bool
solid done = false
solid (one class s) = true
solid (many class s) = solid s
solid (number class s) = true
solid (led wants) = true
solid (either a b) = solid a && solid b
solid closing = true

front-some : (test : List ℕ → Bool) (front rest : List ℕ) → test [] ≡ false → [] ≡ front ++ rest → test front ≡ true → ⊥
front-some test [] rest off e on = false≢true (sym off ∙ on)
front-some test (x ∷ front) rest off e on = not_nil x (front ++ rest) (sym e)

rest-nil : (front rest : List ℕ) → [] ≡ front ++ rest → rest ≡ []
rest-nil [] rest e = sym e
rest-nil (x ∷ front) rest e = absurd (not_nil x (front ++ rest) (sym e))

pub solid-some : (s : Shape) → solid s ≡ true → Spells s [] → ⊥
solid-some done e x = false≢true e
solid-some (one class s) e x = not_nil x.byte x.rest (sym x.spelled)
solid-some (many class s) e x = solid-some s e (subst (Spells s) (rest-nil x.front x.rest x.spelled) x.behind)
solid-some (number class s) e x = front-some (is_number class) x.front x.rest refl x.spelled x.passes
solid-some (led wants) e x = front-some is_word x.front x.rest refl x.spelled x.passes
solid-some (either a b) e x =
    let parts = and_parts (solid a) (solid b) e in
    elim x [ inl sp ↦ solid-some a parts.0 sp | inr sp ↦ solid-some b parts.1 sp ]
solid-some closing e x = not_nil 42 (41 ∷ []) (sym x.behind ∙ rest-nil x.front x.rest x.spelled)

-- the first byte of a text that a spelled shape begins
pub record Start (s : Shape) (text : List ℕ) : Type 0 where
  pub byte : ℕ
  pub others : List ℕ
  pub text_is : text ≡ byte ∷ others
  pub starting : starts s byte ≡ true

pub start-of : (s : Shape) (text bytes left : List ℕ) → solid s ≡ true → text ≡ bytes ++ left → Spells s bytes → Start s text
start-of s text [] left e is sp = absurd (solid-some s e sp)
start-of s text (b ∷ bytes) left e is sp = record { byte = b; others = bytes ++ left; text_is = is; starting = starts-there s b bytes sp }

-- a shape whose first byte isn't of the class with which the text begins
pub no_start : (class : Class) (s : Shape) (text : List ℕ) → ((b : ℕ) → has class b ≡ true → b < 128)
    → all_below 128 (λ b. not (has class b && starts s b)) ≡ true
    → begins class text ≡ true → Start s text → ⊥
no_start class s text low e on x = clash (has class) (starts s) low e x.byte (sym (ap (begins class) x.text_is) ∙ on) x.starting

-- a plain number begins with a digit
digit_is : (b n : ℕ) → is_ascii_digit n ≡ true → (b == n) ≡ true → is_ascii_digit b ≡ true
digit_is b n e is = ap is_ascii_digit (eqb-true b n is) ∙ e

pub plain-digit : (b : ℕ) → starts plain_number b ≡ true → is_ascii_digit b ≡ true
plain-digit b e = elim (or_cases (is_ascii_digit b) ((b == 49) || ((b == 50) || (b == 56))) e) [
  | inl on ↦ on
  | inr x ↦ elim (or_cases (b == 49) ((b == 50) || (b == 56)) x) [
    | inl is ↦ digit_is b 49 refl is
    | inr y ↦ elim (or_cases (b == 50) (b == 56) y) [ inl is ↦ digit_is b 50 refl is | inr is ↦ digit_is b 56 refl is ]
  ]
]
