-- What a shape takes from the front of a text, read forward. No public clause cites this.
use Rattle.std.specs.Prelude.{ℕ, ◌-◌, ◌^◌, Bool, false, ◌&&◌, ◌||◌, nat_lt, nat_le, ◌==◌, if◌then◌else◌, List, [], ◌∷◌, length, take, drop, Option, Some, None, Result, Ok, Err}
use Rattle.std.specs.List.{prefix_len}
use Rattle.std.specs.Option.{option_and_then}
use Rattle.pv_lex.specs.declared.class.Class.{Class}
use Rattle.pv_lex.specs.declared.class.Class.TheVariants as c
use Rattle.pv_lex.specs.declared.context.Context.{Context}
use Rattle.pv_lex.specs.declared.stretch.Stretch.{Stretch}
use Rattle.pv_lex.specs.declared.stretch.Next.{Next}
use Rattle.pv_lex.specs.declared.fault.FaultKind.{FaultKind}
use Rattle.pv_lex.specs.declared.fault.FaultKind.TheVariants as f
use Rattle.pv_lex.specs.declared.token.Kind.{Kind}
use Rattle.pv_lex.specs.declared.token.Kind.TheVariants as k
use Rattle.pv_lex.specs.declared.token.Language.{Language}
use Rattle.pv_lex.specs.declared.token.Token.{Token}
use Rattle.pv_lex.specs.Classes.{has, is_word_byte}
use Rattle.pv_lex.specs.Shapes.{
  Shape,
  begins,
  is_one_of,
  decimal_prefixes,
  hex_prefixes,
  time_prefixes,
  signed,
  hex,
  duration,
  dropped,
  word,
  quoted,
  address,
  typed_number,
  plain_number,
  real,
  signs,
}
use Rattle.pv_lex.specs.Shapes.Shape.{done, one, many, number, led, either, closing}
use Rattle.pv_lex.specs.Values.{magnitude, runs_fit}
use Rattle.pv_lex.specs.Tokens.{skip, is_header, opens_comment}

-- what is left behind a byte of the class
abbrev pub past : Class → List ℕ → Option (List ℕ)
past class [] = None
past class (b ∷ others) = if has class b then Some others else None

-- a digit of the class begins the text, or `_` and such a digit
abbrev pub goes_on : Class → List ℕ → Bool
goes_on class [] = false
goes_on class (b ∷ others) = has class b || (b == 95 && begins class others)

-- behind digits, of which one stands before the text
abbrev pub past_joined : Class → List ℕ → List ℕ
past_joined class [] = []
past_joined class (b ∷ others) =
    if has class b || (b == 95 && begins class others) then past_joined class others else b ∷ others

abbrev pub past_number : Class → List ℕ → Option (List ℕ)
past_number class [] = None
past_number class (b ∷ others) = if has class b then Some (past_joined class others) else None

-- behind the first `*)`
abbrev pub past_close : List ℕ → Option (List ℕ)
past_close [] = None
past_close (b ∷ others) = if b == 42 && begins (c.Byte 41) others then Some (drop 1 others) else
    past_close others

-- the one behind which less is left
abbrev pub longer : Option (List ℕ) → Option (List ℕ) → Option (List ℕ)
longer None other = other
longer (Some a) None = Some a
longer (Some a) (Some b) = if nat_le (length a) (length b) then Some a else Some b

-- how long the word is that begins the text
abbrev pub word_len : List ℕ → ℕ
word_len text = prefix_len is_word_byte text

-- what is left behind the longest text that spells the shape
abbrev pub scan : Shape → List ℕ → Option (List ℕ)
scan done text = Some text
scan (one class rest) text = option_and_then (scan rest) (past class text)
scan (many class rest) text = scan rest (skip class text)
scan (number class rest) text = option_and_then (scan rest) (past_number class text)
scan (led wants) text = if begins c.Letter text then scan (wants (take (word_len text) text)) (drop
    (word_len text) text) else None
scan (either a b) text = longer (scan a text) (scan b text)
scan closing text = past_close text

-- what is left behind the number whose word and `#` stand before the text
unfoldable pub past_form : List ℕ → List ℕ → Option (List ℕ)
past_form prefix text =
    if is_one_of decimal_prefixes prefix then scan signed text
    else (if is_one_of hex_prefixes prefix then scan hex text
    else (if is_one_of time_prefixes prefix then scan duration text else None))

-- what is left behind the header line that begins the text
unfoldable pub past_header : Language → Context → List ℕ → Option (List ℕ)
past_header language context text =
    if begins c.Letter text && is_header language context (take (word_len text) text) (drop
    (word_len text) text)
    then Some (skip c.Inline (drop (word_len text) text)) else None

abbrev pub stretch : Option Kind → List ℕ → Stretch
stretch kind rest = record { kind = kind; left = length rest }

-- the longer stretch, of one length the first
abbrev pub better : Option Kind → Option (List ℕ) → Option Stretch → Option Stretch
better kind None other = other
better kind (Some rest) None = Some (stretch kind rest)
better kind (Some rest) (Some other) = if nat_le (length rest) other.left then Some (stretch kind
    rest) else Some other

-- the stretch that begins a text, by its first byte
unfoldable pub letter_stretch : Language → Context → List ℕ → Option Stretch
letter_stretch language context text =
    better None (past_header language context text)
    (better (Some k.Address) (scan address text)
    (better (Some k.Word) (scan word text) (better (Some k.Number) (scan typed_number text) None)))

unfoldable pub digit_stretch : List ℕ → Option Stretch
digit_stretch text = better (Some k.Number) (scan plain_number text) (better (Some k.Real) (scan
    real text) None)

unfoldable pub sign_stretch : Language → List ℕ → Option Stretch
sign_stretch language text =
    better None (scan dropped text)
    (better (Some k.Address) (scan address text)
    (better (Some k.Quoted) (scan quoted text) (better (Some k.Sign) (scan (signs language) text)
    None)))

unfoldable pub stretch_of : Language → Context → List ℕ → Option Stretch
stretch_of language context text =
    if begins c.Letter text then letter_stretch language context text
    else (if begins c.Digit text then digit_stretch text else sign_stretch language text)

-- why nothing begins a text
abbrev pub fault_of : List ℕ → FaultKind
fault_of text =
    if begins (c.Byte 123) text then f.OpenComment else (if begins (c.Byte 34) text then
    f.OpenQuote else f.BadByte)

-- the stretch of this kind and of these bytes, where it is fit
abbrev pub fitting : Option Kind → List ℕ → List ℕ → Result Next FaultKind
fitting (Some k.Number) bytes text =
    if nat_lt (magnitude bytes) (2 ^ 64) then Ok (record {
      kind = Some k.Number;
      len = length bytes;
    })
    else Err f.NumberTooWide
fitting (Some k.Address) bytes text =
    if runs_fit 0 bytes then Ok (record {
      kind = Some k.Address;
      len = length bytes;
    }) else Err f.NumberTooWide
fitting (Some k.Sign) bytes text =
    if opens_comment text then Err f.OpenComment else Ok (record {
      kind = Some k.Sign;
      len = length bytes;
    })
fitting kind bytes text = Ok (record { kind = kind; len = length bytes })

-- the stretch that is next in a text
unfoldable pub next_of : Language → Context → List ℕ → Result Next FaultKind
next_of language context text =
    elim (stretch_of language context text) [
      | None ↦ Err (fault_of text)
      | Some s ↦ fitting s.kind (take (length text - s.left) text) text
    ]

-- the tokens of the stretch that is next at this place
abbrev pub next_tokens : ℕ → ℕ → Next → List Token
next_tokens file at next = elim (next.kind) [
  | None ↦ []
  | Some kind ↦ record {
    kind = kind;
    place = record { file = file; offset = at };
    len = next.len;
  } ∷ []
]
