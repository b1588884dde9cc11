-- The shapes of stretches are read forward without doubt.
use Rattle.std.proofs.Common.{◌≡◌, ℕ, Bool, true, false, cond, inl, inr, List, [], refl, ap, sym, ◌∙◌}
use Rattle.std.specs.Prelude.{◌||◌, ◌==◌}
use Rattle.std.specs.Char.{is_ascii_digit}
use Rattle.std.proofs.lemmas.Bool.{false≢true, eqb-true, or_cases}
use Rattle.pv_lex.specs.declared.class.Class.{Class}
use Rattle.pv_lex.specs.declared.class.Class.TheVariants as c
use Rattle.pv_lex.specs.declared.token.Language.{Language}
use Rattle.pv_lex.specs.declared.token.Language.TheVariants as l
use Rattle.pv_lex.specs.Classes.{has, is_blank, is_word_byte}
use Rattle.pv_lex.specs.Shapes.{
  Shape,
  Spells,
  dropped,
  word,
  quoted,
  address,
  plain_address,
  milliseconds,
  seconds,
  minutes,
  hours,
  days,
  signed,
  hex,
  duration,
  never,
  behind_prefix,
  is_one_of,
  decimal_prefixes,
  hex_prefixes,
  time_prefixes,
  typed_number,
  plain_number,
  any_number,
  real,
  signs,
}
use Rattle.pv_lex.specs.Shapes.Shape.{done, one, number}
use Rattle.pv_lex.proofs.Within.{Apart, IsSure, not_nil}

-- a byte that doesn't pass the test
apart_byte : (p : ℕ → Bool) (n : ℕ) → p n ≡ false → (b : ℕ) → (b == n) ≡ true → p b ≡ false
apart_byte p n off b is = ap p (eqb-true b n is) ∙ off

apart_two : (p : ℕ → Bool) (m n : ℕ) → p m ≡ false → p n ≡ false → (b : ℕ) → ((b == m) || (b == n)) ≡ true → p b ≡ false
apart_two p m n off off' b is = elim (or_cases (b == m) (b == n) is) [ inl e ↦ apart_byte p m off b e | inr e ↦ apart_byte p n off' b e ]

both_false : (x : Bool) → (x ≡ true → ⊥) → x ≡ false
both_false true h = absurd (h refl)
both_false false h = refl

-- the other way round: where the front's class has few bytes
apart_back : (p : ℕ → Bool) (m n : ℕ) → p m ≡ false → p n ≡ false → (b : ℕ) → p b ≡ true → ((b == m) || (b == n)) ≡ false
apart_back p m n off off' b on = both_false ((b == m) || (b == n)) (λ e. false≢true (sym (apart_two p m n off off' b e) ∙ on))

-- one that is done and one that begins with two bytes
apart_done : (p : ℕ → Bool) (m n : ℕ) → p m ≡ false → p n ≡ false → (b : ℕ) → (false || ((b == m) || (b == n))) ≡ true → p b ≡ false
apart_done p m n off off' b is = apart_two p m n off off' b is

blank-digit : (b : ℕ) → is_ascii_digit b ≡ true → is_blank b ≡ false
blank-digit b on = apart_back is_ascii_digit 32 9 refl refl b on

pub dropped-sure : IsSure dropped
dropped-sure = ((λ b e. absurd (false≢true e), tt), ((λ b e. absurd (false≢true e), tt), (tt, (apart_byte (has c.Braced) 125 refl, tt))))

pub word-sure : IsSure word
word-sure = ((λ w b e. absurd (false≢true e)), (λ w. tt), (λ w other e. e))

pub quoted-sure : IsSure quoted
quoted-sure = (apart_byte (has c.Quotable) 34 refl, tt)

-- behind digits nothing, or what is not of their class
none : (p : ℕ → Bool) → Apart p done
none p = λ b e. absurd (false≢true e)

plain-address-sure : IsSure plain_address
plain-address-sure = ((blank-digit, (apart_byte (has c.Digit) 46 refl, (none (has c.Digit), tt))), (blank-digit, (none (has c.Digit), tt)))

pub address-sure : IsSure address
address-sure = (plain-address-sure, plain-address-sure)

number-sure : (class : Class) → IsSure (number class done)
number-sure class = ((λ b e. absurd (false≢true e)), tt)

pub plain-number-sure : IsSure plain_number
plain-number-sure = (number-sure c.Digit, (number-sure c.Hex, (number-sure (c.Either 48 49), number-sure c.Octal)))

milliseconds-sure : IsSure milliseconds
milliseconds-sure = (apart_two (λ b. is_ascii_digit b || (b == 95)) 77 109 refl refl, tt)

seconds-sure : IsSure seconds
seconds-sure = ((apart_two (λ b. is_ascii_digit b || (b == 95)) 83 115 refl refl, (tt, milliseconds-sure)), milliseconds-sure)

minutes-sure : IsSure minutes
minutes-sure = ((apart_two (λ b. is_ascii_digit b || (b == 95)) 77 109 refl refl, (tt, seconds-sure)), seconds-sure)

hours-sure : IsSure hours
hours-sure = ((apart_two (λ b. is_ascii_digit b || (b == 95)) 72 104 refl refl, (tt, minutes-sure)), minutes-sure)

days-sure : IsSure days
days-sure = ((apart_two (λ b. is_ascii_digit b || (b == 95)) 68 100 refl refl, (tt, hours-sure)), hours-sure)

signed-sure : IsSure signed
signed-sure = (number-sure c.Digit, number-sure c.Digit)

-- a shape that begins with a byte of a class is spelled by no empty text
one-some : {A : Type 0} (class : Class) (s : Shape) → Spells (one class s) [] → A
one-some class s x = absurd (not_nil x.byte x.rest (sym x.spelled))

-- what is wanted behind a word begins with `#`, or is nothing at all
pub record IsBody (s : Shape) : Type 0 where
  pub apart : Apart is_word_byte s
  pub sure : IsSure s
  pub some : Spells s [] → ⊥

body-hash : (s : Shape) → IsSure s → IsBody (one (c.Byte 35) s)
body-hash s sure = record { apart = apart_byte is_word_byte 35 refl; sure = sure; some = one-some (c.Byte 35) s }

body-never : IsBody never
body-never = record { apart = λ b e. absurd (false≢true e); sure = tt; some = one-some c.Nothing done }

body_of : (decimal hexadecimal time : Bool) → IsBody (cond decimal (one (c.Byte 35) signed) (cond hexadecimal (one (c.Byte 35) hex) (cond
    time (one (c.Byte 35) duration) never)))
body_of true hexadecimal time = body-hash signed signed-sure
body_of false true time = body-hash hex (number-sure c.Hex)
body_of false false true = body-hash duration (days-sure, days-sure)
body_of false false false = body-never

pub body : (prefix : List ℕ) → IsBody (behind_prefix prefix)
unfolding behind_prefix
body prefix = body_of (is_one_of decimal_prefixes prefix) (is_one_of hex_prefixes prefix) (is_one_of time_prefixes prefix)

pub typed-number-sure : IsSure typed_number
typed-number-sure = ((λ w. (body w).apart), (λ w. (body w).sure), (λ w other e. absurd ((body w).some e)))

pub any-number-sure : IsSure any_number
any-number-sure = (plain-number-sure, typed-number-sure)

pub real-sure : IsSure real
real-sure = (
  apart_byte (has c.Digit) 46 refl,
  (
    apart_done (has c.Digit) 69 101 refl refl,
    (
      tt,
      (
        (none (has c.Digit), tt),
        (
          none (has
              c.Digit),
          tt,
        ),
      ),
    ),
  ),
)

pub signs-sure : (language : Language) → IsSure (signs language)
signs-sure l.Scl = (tt, (tt, (tt, (tt, (tt, (tt, tt))))))
signs-sure l.Stl = ((tt, (tt, (tt, (tt, (tt, (tt, tt)))))), (tt, (tt, (tt, tt))))
