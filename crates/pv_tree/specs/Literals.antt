-- Literals and addresses, as their tokens say them.
use Rattle.std.specs.Prelude.{◌≡◌, ◌⊎◌, ℕ, ℤ, pos, neg_ℤ, int_le, Bool, ◌&&◌, not, if◌then◌else◌, IsTrue, List, [], ◌∷◌, take, drop, codes, Option, Some, None}
use Rattle.std.specs.List.{prefix_len}
use Rattle.std.specs.Char.{is_ascii_digit}
use Rattle.pv_word.specs.Types.{least_of, greatest_of}
use Rattle.pv_word.specs.declared.types.Ty.{Ty}
use Rattle.pv_word.specs.declared.types.Ty.TheVariants as ty
use Rattle.pv_types.specs.declared.declaration.Literal.{Literal}
use Rattle.pv_lex.specs.declared.token.Kind.TheVariants as k
use Rattle.pv_lex.specs.declared.class.Class.TheVariants as c
use Rattle.pv_lex.specs.Classes.{is_word_byte}
use Rattle.pv_lex.specs.Shapes.{begins, is_one_of}
use Rattle.pv_lex.specs.Values.{fitting_value}
use Rattle.pv_tree.specs.declared.expr.Area.{Area}
use Rattle.pv_tree.specs.declared.expr.Area.TheVariants as area
use Rattle.pv_tree.specs.Lexemes.{Lexeme, Form, ◌∣◌, ◌⨾◌, one, IsAt, IsWord, sign, sign_at}

-- ---- types

-- the type that the word before `#` gives a number, as INT# does; a base gives none
unfoldable pub prefix_type : List ℕ → Option Ty
prefix_type prefix =
    if is_one_of (codes "INT" ∷ []) prefix then Some ty.Int
    else (if is_one_of (codes "DINT" ∷ codes "L" ∷ []) prefix then Some ty.Dint
    else (if is_one_of (codes "B" ∷ codes "BYTE" ∷ []) prefix then Some ty.Byte
    else (if is_one_of (codes "W" ∷ codes "WORD" ∷ []) prefix then Some ty.Word
    else (if is_one_of (codes "DW" ∷ codes "DWORD" ∷ []) prefix then Some ty.Dword
    else (if is_one_of (codes "T" ∷ codes "TIME" ∷ []) prefix then Some ty.Time else None)))))

-- the word with which the bytes begin, and what stands behind it
abbrev pub leading_word : List ℕ → List ℕ
leading_word bytes = take (prefix_len is_word_byte bytes) bytes

abbrev pub behind_word : List ℕ → List ℕ
behind_word bytes = drop (prefix_len is_word_byte bytes) bytes

-- the type that a number has of its own
unfoldable pub number_type : List ℕ → Option Ty
number_type bytes =
    if begins (c.Byte 35) (behind_word bytes) then prefix_type (leading_word bytes) else None

-- the number is written in a base and without a type, as 16#FF
unfoldable pub is_based : List ℕ → Bool
is_based bytes =
    begins (c.Byte 35) (behind_word bytes)
    && is_one_of (codes "2" ∷ codes "8" ∷ codes "16" ∷ []) (leading_word bytes)

-- the type that a literal has alone: its own, else INT where that holds it, else DINT
abbrev pub type_of_value : ℤ → Ty
type_of_value value =
    if int_le (least_of ty.Int) value && int_le value (greatest_of ty.Int) then ty.Int else ty.Dint

abbrev pub type_alone : Option Ty → ℤ → Ty
type_alone (Some own) value = own
type_alone None value = type_of_value value

-- the type of a number that L loads: one in a base is a word, or a double word past 65535
abbrev pub loaded_type : ℤ → List ℕ → Option Ty
loaded_type value bytes =
    if is_based bytes then Some (if int_le value (pos 65535) then ty.Word else ty.Dword)
    else number_type bytes

-- ---- literals

-- a number of this value; types of numbers come by their bytes
pub record IsNumeral (type_of : List ℕ → Option Ty) (own : Option Ty) (value : ℤ)
    (t : Lexeme) : Type 0 where
  pub kind : t.kind ≡ k.Number
  pub typed : own ≡ type_of t.bytes
  pub valued : t.value ≡ value

-- any number of this value
pub record IsOfValue (value : ℤ) (t : Lexeme) : Type 0 where
  pub kind : t.kind ≡ k.Number
  pub valued : t.value ≡ value

-- TRUE as 1, FALSE as 0
pub record IsTruth (own : Option Ty) (value : ℤ) (t : Lexeme) : Type 0 where
  pub typed : own ≡ Some ty.Bool
  pub valued : (IsWord "TRUE" t × (value ≡ pos 1)) ⊎ (IsWord "FALSE" t × (value ≡ pos 0))

-- a number with `-` before it or none; the literal's place is that of its first token
abbrev pub SpellsNumber : (List ℕ → Option Ty) → Literal → Form
SpellsNumber type_of literal =
    one (IsAt (IsNumeral type_of literal.ty literal.value) literal.place)
    ∣ (sign_at "-" literal.place ⨾ one (IsNumeral type_of literal.ty (neg_ℤ literal.value)))

abbrev pub SpellsTruth : Literal → Form
SpellsTruth literal = one (IsAt (IsTruth literal.ty literal.value) literal.place)

-- a literal of declarations, CASE and BY
abbrev pub SpellsLiteral : Literal → Form
SpellsLiteral literal = SpellsNumber number_type literal ∣ SpellsTruth literal

-- a literal behind the instruction L
abbrev pub SpellsLoaded : Literal → Form
SpellsLoaded literal = SpellsNumber (loaded_type literal.value) literal ∣ SpellsTruth literal

-- a whole number with `-` before it or none, of which the value alone is kept
abbrev pub SpellsInteger : ℤ → Form
SpellsInteger value = one (IsOfValue value) ∣ (sign "-" ⨾ one (IsOfValue (neg_ℤ value)))

-- ---- addresses

-- an address without `%`
abbrev pub bare_address : List ℕ → List ℕ
bare_address bytes = if begins (c.Byte 37) bytes then drop 1 bytes else bytes

-- the letter of an area
abbrev pub IsAreaLetter : Area → List ℕ → Type 0
IsAreaLetter area.I text = IsTrue (begins (c.Either 73 105) text)
IsAreaLetter area.Q text = IsTrue (begins (c.Either 81 113) text)
IsAreaLetter area.M text = IsTrue (begins (c.Either 77 109) text)

-- the bits that the letter behind it says: B, W, D, or none for a single bit
abbrev pub address_bits : List ℕ → ℕ
address_bits text =
    if begins (c.Either 66 98) (drop 1 text) then 8
    else (if begins (c.Either 87 119) (drop 1 text) then 16
    else (if begins (c.Either 68 100) (drop 1 text) then 32 else 1))

-- the text from its first digit on, the digits that begin a text, and what is behind them
abbrev pub from_digit : List ℕ → List ℕ
from_digit text = drop (prefix_len (λ b. not (is_ascii_digit b)) text) text

abbrev pub leading_digits : List ℕ → List ℕ
leading_digits text = take (prefix_len is_ascii_digit text) text

abbrev pub behind_digits : List ℕ → List ℕ
behind_digits text = drop (prefix_len is_ascii_digit text) text

-- the number of the byte, and that of the bit behind the dot, 0 where there is none; no token has one of
-- more than 64 bits
abbrev pub address_byte : List ℕ → ℕ
address_byte text = fitting_value (leading_digits (from_digit text))

abbrev pub address_bit : List ℕ → ℕ
address_bit text = fitting_value (drop 1 (behind_digits (from_digit text)))

-- an address of this part of an area
pub record IsAddress (its_area : Area) (bits byte bit : ℕ) (t : Lexeme) : Type 0 where
  pub kind : t.kind ≡ k.Address
  pub of_area : IsAreaLetter its_area (bare_address t.bytes)
  pub of_bits : bits ≡ address_bits (bare_address t.bytes)
  pub of_byte : byte ≡ address_byte (bare_address t.bytes)
  pub of_bit : bit ≡ address_bit (bare_address t.bytes)
