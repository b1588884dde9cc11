-- Shapes of stretches, and the texts that spell them.
use Rattle.std.specs.Prelude.{
  ◌≡◌,
  ℕ,
  Bool,
  true,
  false,
  ◌&&◌,
  ◌||◌,
  ◌⊎◌,
  not,
  ◌==◌,
  IsTrue,
  if◌then◌else◌,
  List,
  [],
  ◌∷◌,
  ◌++◌,
  codes,
}
use Rattle.std.specs.List.{list_all, list_any}
use Rattle.std.specs.Str.{str_eq_ignore_ascii_case}
use Rattle.pv_lex.specs.declared.class.Class.{Class}
use Rattle.pv_lex.specs.declared.class.Class.TheVariants as c
use Rattle.pv_lex.specs.declared.token.Language.{Language}
use Rattle.pv_lex.specs.declared.token.Language.TheVariants as l
use Rattle.pv_lex.specs.Classes.{has, is_letter, is_word_byte}

-- a shape: what bytes stand one behind another
pub data Shape : Type 0 where
  done : Shape  -- nothing more
  one : Class → Shape → Shape  -- a byte of the class, and what is behind it
  many : Class → Shape → Shape  -- bytes of the class, or none, and what is behind them
  number : Class → Shape → Shape  -- digits of the class, with `_` or not, and what is behind them
  led : (List ℕ → Shape) → Shape  -- a word, and what this word wants behind it
  either : Shape → Shape → Shape  -- one of the two
  closing : Shape  -- all up to the first `*)`, and this

-- a byte of the class begins the bytes
abbrev pub begins : Class → List ℕ → Bool
begins class [] = false
begins class (b ∷ others) = has class b

-- behind a digit: digits, where one `_` may stand before a digit
abbrev pub is_joined : Class → List ℕ → Bool
is_joined class [] = true
is_joined class (b ∷ others) =
    (has class b || (b == 95 && begins class others)) && is_joined class others

-- digits of the class, where one `_` may stand between two of them
abbrev pub is_number : Class → List ℕ → Bool
is_number class [] = false
is_number class (b ∷ others) = has class b && is_joined class others

-- a letter or `_`, then letters, digits and `_`
abbrev pub is_word : List ℕ → Bool
is_word [] = false
is_word (b ∷ others) = is_letter b && list_all is_word_byte others

-- no `*)` stands in the bytes
abbrev pub is_open : List ℕ → Bool
is_open [] = true
is_open (b ∷ others) = not (b == 42 && begins (c.Byte 41) others) && is_open others

-- a byte of the class, then what spells the rest
pub record IsOne (class : Class) (IsRest : List ℕ → Type 0) (bytes : List ℕ) : Type 0 where
  pub byte : ℕ
  pub rest : List ℕ
  pub spelled : bytes ≡ byte ∷ rest
  pub passes : IsTrue (has class byte)
  pub behind : IsRest rest

-- a front that passes the test, then what spells the rest
pub record IsFront (test : List ℕ → Bool) (IsRest : List ℕ → List ℕ → Type 0)
    (bytes : List ℕ) : Type 0 where
  pub front : List ℕ
  pub rest : List ℕ
  pub spelled : bytes ≡ front ++ rest
  pub passes : IsTrue (test front)
  pub behind : IsRest front rest

-- the bytes spell the shape
abbrev pub Spells : Shape → List ℕ → Type 0
Spells done bytes = bytes ≡ []
Spells (one class rest) bytes = IsOne class (Spells rest) bytes
Spells (many class rest) bytes = IsFront (list_all (has class)) (λ _. Spells rest) bytes
Spells (number class rest) bytes = IsFront (is_number class) (λ _. Spells rest) bytes
Spells (led wants) bytes = IsFront is_word (λ word. Spells (wants word)) bytes
Spells (either a b) bytes = Spells a bytes ⊎ Spells b bytes
Spells closing bytes =
    IsFront (λ inner. is_open (inner ++ 42 ∷ [])) (λ _ rest. rest ≡ 42 ∷ 41 ∷ []) bytes

-- ---- dropped text

-- white space, a comment of a line, a comment and an attribute
abbrev pub white : Shape
white = one c.Space (many c.Space done)

abbrev pub line_comment : Shape
line_comment = one (c.Byte 47) (one (c.Byte 47) (many c.Inline done))

abbrev pub comment : Shape
comment = one (c.Byte 40) (one (c.Byte 42) closing)

abbrev pub attribute : Shape
attribute = one (c.Byte 123) (many c.Braced (one (c.Byte 125) done))

abbrev pub dropped : Shape
dropped = either white (either line_comment (either comment attribute))

-- ---- words, quoted names and addresses

abbrev pub word : Shape
word = led (λ _. done)

abbrev pub quoted : Shape
quoted = one (c.Byte 34) (many c.Quotable (one (c.Byte 34) done))

-- decimal digits, at least one, and what is behind them
abbrev pub decimals : Shape → Shape
decimals rest = one c.Digit (many c.Digit rest)

-- the address of a bit, as `I 0.0`, and of a byte, word or double word, as `MB10`
abbrev pub bit_address : Shape
bit_address = one c.Area (many c.Blank (decimals (one (c.Byte 46) (decimals done))))

abbrev pub wide_address : Shape
wide_address = one c.Area (one c.Width (many c.Blank (decimals done)))

abbrev pub plain_address : Shape
plain_address = either bit_address wide_address

abbrev pub address : Shape
address = either plain_address (one (c.Byte 37) plain_address)

-- ---- numbers

-- one of these words, whatever the case of its letters
unfoldable pub is_one_of : List (List ℕ) → List ℕ → Bool
is_one_of words text = list_any (λ other. str_eq_ignore_ascii_case text other) words

-- the prefixes of decimal numbers with a sign or none, of hexadecimal numbers, and of durations
unfoldable pub decimal_prefixes : List (List ℕ)
decimal_prefixes = codes "INT" ∷ codes "DINT" ∷ codes "L" ∷ []

unfoldable pub hex_prefixes : List (List ℕ)
hex_prefixes = codes "B" ∷ codes "BYTE" ∷ codes "W" ∷ codes "WORD" ∷ codes "DW" ∷ codes "DWORD" ∷ []

unfoldable pub time_prefixes : List (List ℕ)
time_prefixes = codes "T" ∷ codes "TIME" ∷ []

-- what no bytes spell
abbrev pub never : Shape
never = one c.Nothing done

-- a byte of the class, or none, and what is behind it
abbrev pub maybe : Class → Shape → Shape
maybe class rest = either (one class rest) rest

-- the parts of a duration from a unit on: days, hours, minutes, seconds and milliseconds
abbrev pub milliseconds : Shape
milliseconds = number c.Digit (one (c.Either 77 109) (one (c.Either 83 115) done))

-- a part of a duration by the letter of its unit, and the parts behind it or none
abbrev pub part : ℕ → ℕ → Shape → Shape
part upper lower behind = number c.Digit (one (c.Either upper lower) (either done behind))

abbrev pub seconds : Shape
seconds = either (part 83 115 milliseconds) milliseconds

abbrev pub minutes : Shape
minutes = either (part 77 109 seconds) seconds

abbrev pub hours : Shape
hours = either (part 72 104 minutes) minutes

abbrev pub days : Shape
days = either (part 68 100 hours) hours

-- `16#` and hexadecimal digits
abbrev pub hex : Shape
hex = one (c.Byte 49) (one (c.Byte 54) (one (c.Byte 35) (number c.Hex done)))

-- `2#` and `8#` and their digits
abbrev pub binary : Shape
binary = one (c.Byte 50) (one (c.Byte 35) (number (c.Either 48 49) done))

abbrev pub octal : Shape
octal = one (c.Byte 56) (one (c.Byte 35) (number c.Octal done))

-- a decimal number with a sign or none, and a duration with a minus sign or none
abbrev pub signed : Shape
signed = maybe (c.Either 43 45) (number c.Digit done)

abbrev pub duration : Shape
duration = maybe (c.Byte 45) days

-- what stands behind the word that begins a number
unfoldable pub behind_prefix : List ℕ → Shape
behind_prefix prefix =
    if is_one_of decimal_prefixes prefix then one (c.Byte 35) signed
    else (if is_one_of hex_prefixes prefix then one (c.Byte 35) hex
    else (if is_one_of time_prefixes prefix then one (c.Byte 35) duration else never))

abbrev pub typed_number : Shape
typed_number = led behind_prefix

abbrev pub plain_number : Shape
plain_number = either (number c.Digit done) (either hex (either binary octal))

abbrev pub any_number : Shape
any_number = either plain_number typed_number

-- `E` with a sign or none and digits
abbrev pub exponent : Shape
exponent = one (c.Either 69 101) (maybe (c.Either 43 45) (decimals done))

abbrev pub real : Shape
real = decimals (one (c.Byte 46) (decimals (either done exponent)))

-- ---- signs

-- := => .. <= >= <> and **
abbrev pub pair : Shape
pair =
    either (one (c.Byte 58) (one (c.Byte 61) done))
    (either (one (c.Byte 61) (one (c.Byte 62) done))
    (either (one (c.Byte 46) (one (c.Byte 46) done))
    (either (one (c.Byte 60) (one (c.Either 61 62) done))
    (either (one (c.Byte 62) (one (c.Byte 61) done)) (one (c.Byte 42) (one (c.Byte 42) done))))))

abbrev pub sign : Shape
sign = either (one c.Sign done) pair

-- I or D, the type of an operator of STL
abbrev pub of_type : Shape
of_type = one c.Type done

-- the comparisons and the arithmetic of STL, with their type
abbrev pub typed_sign : Shape
typed_sign =
    either (one c.Step of_type)
    (either (one (c.Byte 61) (one (c.Byte 61) of_type))
    (either (one (c.Byte 60) (one (c.Either 61 62) of_type)) (one (c.Byte 62) (one (c.Byte 61)
    of_type))))

abbrev pub signs : Language → Shape
signs l.Scl = sign
signs l.Stl = either sign typed_sign
