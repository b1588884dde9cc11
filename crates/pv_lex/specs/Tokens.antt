-- Tokens: how a text is cut into tokens and dropped text.
use Rattle.std.specs.Prelude.{◌≡◌, ℕ, ◌+◌, ◌<◌, ◌≤◌, Bool, true, false, ◌&&◌, ◌||◌, not, nat_lt, ◌^◌, ◌⊎◌, ◌==◌, IsTrue, if◌then◌else◌, List, [], ◌∷◌, ◌++◌, length, drop, codes, Option, Some, None}
use Rattle.std.specs.List.{list_all, prefix_len}
use Rattle.pv_place.specs.declared.place.Place.{Place}
use Rattle.pv_lex.specs.declared.class.Class.{Class}
use Rattle.pv_lex.specs.declared.class.Class.TheVariants as c
use Rattle.pv_lex.specs.declared.context.Context.{Context}
use Rattle.pv_lex.specs.declared.fault.FaultKind.{FaultKind}
use Rattle.pv_lex.specs.declared.fault.FaultKind.TheVariants as f
use Rattle.pv_lex.specs.declared.token.Token.{Token}
use Rattle.pv_lex.specs.declared.token.Kind.{Kind}
use Rattle.pv_lex.specs.declared.token.Kind.TheVariants as k
use Rattle.pv_lex.specs.declared.token.Language.{Language}
use Rattle.pv_lex.specs.declared.token.Language.TheVariants as l
use Rattle.pv_lex.specs.Classes.{has}
use Rattle.pv_lex.specs.Shapes.{
  begins,
  is_word,
  is_one_of,
  Spells,
  dropped,
  word,
  quoted,
  address,
  any_number,
  real,
  signs,
}
use Rattle.pv_lex.specs.Values.{magnitude, runs_fit}

-- ---- header lines

-- the words that begin a header line in a block's head
unfoldable pub header_words : List (List ℕ)
header_words =
    codes "TITLE" ∷ codes "AUTHOR" ∷ codes "FAMILY" ∷ codes "NAME" ∷ codes "VERSION" ∷
    codes "KNOW_HOW_PROTECT" ∷ []

-- the words with which a block's head begins, and those with which it ends
unfoldable pub opening_words : List (List ℕ)
opening_words =
    codes "FUNCTION_BLOCK" ∷ codes "FUNCTION" ∷ codes "ORGANIZATION_BLOCK" ∷ codes "DATA_BLOCK" ∷
    codes "TYPE" ∷ []

unfoldable pub closing_words : List (List ℕ)
closing_words =
    codes "VAR" ∷ codes "VAR_INPUT" ∷ codes "VAR_OUTPUT" ∷ codes "VAR_IN_OUT" ∷ codes "VAR_TEMP" ∷
    codes "CONST" ∷ codes "STRUCT" ∷ codes "BEGIN" ∷ []

unfoldable pub title_words : List (List ℕ)
title_words = codes "TITLE" ∷ []

abbrev pub is_stl : Language → Bool
is_stl l.Scl = false
is_stl l.Stl = true

-- what is left behind the bytes of the class
abbrev pub skip : Class → List ℕ → List ℕ
skip class text = drop (prefix_len (has class) text) text

-- the word, before the rest of its line, begins a header line: it stands first on its line, and
-- either begins one in a block's head, or is the TITLE of STL, with `=` behind it
unfoldable pub is_header : Language → Context → List ℕ → List ℕ → Bool
is_header language context word line =
    not context.on_line
    && ((context.in_head && is_one_of header_words word)
    || (is_stl language && (is_one_of title_words word && begins (c.Byte 61) (skip c.Blank line))))

-- a header line, from its word on
pub record IsHeaderLine (language : Language) (context : Context) (bytes : List ℕ) : Type 0 where
  pub word : List ℕ
  pub line : List ℕ
  pub spelled : bytes ≡ word ++ line
  pub of_word : IsTrue (is_word word)
  pub ended : IsTrue (not (begins c.WordByte line))
  pub inline : IsTrue (list_all (has c.Inline) line)
  pub header : IsTrue (is_header language context word line)

-- ---- stretches

-- the bytes are a token of this kind, or dropped text where there is none
abbrev pub IsStretch : Language → Context → Option Kind → List ℕ → Type 0
IsStretch language context None bytes = Spells dropped bytes ⊎ IsHeaderLine language context bytes
IsStretch language context (Some k.Address) bytes = Spells address bytes
IsStretch language context (Some k.Word) bytes = Spells word bytes
IsStretch language context (Some k.Quoted) bytes = Spells quoted bytes
IsStretch language context (Some k.Number) bytes = Spells any_number bytes
IsStretch language context (Some k.Real) bytes = Spells real bytes
IsStretch language context (Some k.Sign) bytes = Spells (signs language) bytes
IsStretch language context (Some k.End) bytes = ⊥

-- the order in which kinds are taken where one stretch has two: dropped text, then addresses, then
-- the others
abbrev pub rank : Option Kind → ℕ
rank None = 0
rank (Some k.Address) = 1
rank (Some k.Word) = 2
rank (Some k.Quoted) = 3
rank (Some k.Number) = 4
rank (Some k.Real) = 5
rank (Some k.Sign) = 6
rank (Some k.End) = 7

-- the longest stretch that begins the bytes before this rest
pub record IsLongest (language : Language) (context : Context) (kind : Option Kind)
    (bytes rest : List ℕ) : Type 0 where
  pub stretch : IsStretch language context kind bytes
  pub longest : (other : Option Kind) (more left : List ℕ) → bytes ++ rest ≡ more ++ left
      → IsStretch language context other more → length more ≤ length bytes
  pub first : (other : Option Kind) → IsStretch language context other bytes
      → rank kind ≤ rank other

-- `(*` begins the text
abbrev pub opens_comment : List ℕ → Bool
opens_comment [] = false
opens_comment (b ∷ others) = b == 40 && begins (c.Byte 42) others

-- what may not be where it is the longest: a number of over 64 bits, and a parenthesis that opens a
-- comment
abbrev pub is_fit : Option Kind → List ℕ → List ℕ → Bool
is_fit (Some k.Number) bytes rest = nat_lt (magnitude bytes) (2 ^ 64)
is_fit (Some k.Address) bytes rest = runs_fit 0 bytes
is_fit (Some k.Sign) bytes rest = not (opens_comment (bytes ++ rest))
is_fit _ bytes rest = true

-- the stretch that begins the bytes before this rest
pub record IsNext (language : Language) (context : Context) (kind : Option Kind)
    (bytes rest : List ℕ) : Type 0 where
  pub longest : IsLongest language context kind bytes rest
  pub fit : IsTrue (is_fit kind bytes rest)

-- ---- contexts

-- `#` and `.`: a word directly behind them opens and closes nothing
abbrev pub is_joint : List ℕ → Bool
is_joint (b ∷ []) = b == 35 || b == 46
is_joint _ = false

-- whether a place lies in a block's head behind this word
unfoldable pub head_behind : Context → List ℕ → Bool
head_behind context word =
    if context.joined then context.in_head
    else (if is_one_of opening_words word then true
    else (if is_one_of closing_words word then false else context.in_head))

-- the context behind a stretch
abbrev pub behind : Context → Option Kind → List ℕ → Context
behind context None bytes =
    record context { on_line = context.on_line && list_all (has c.Inline) bytes }
behind context (Some k.Word) bytes =
    record { in_head = head_behind context bytes; on_line = true; joined = false }
behind context (Some k.Sign) bytes =
    record { in_head = context.in_head; on_line = true; joined = is_joint bytes }
behind context (Some _) bytes = record { in_head = context.in_head; on_line = true; joined = false }

-- the context at a text's begin
abbrev pub at_start : Context
at_start = record { in_head = false; on_line = false; joined = false }

-- ---- the cut

-- a stretch of a text: its kind, none where it is dropped, and its bytes
pub record Piece : Type 0 where
  pub kind : Option Kind
  pub bytes : List ℕ

-- the context behind pieces
abbrev pub behind_all : Context → List Piece → Context
behind_all context [] = context
behind_all context (piece ∷ others) = behind_all (behind context piece.kind piece.bytes) others

-- the text, in this context, is cut into the pieces and the rest
abbrev pub IsCut : Language → Context → List Piece → List ℕ → List ℕ → Type 0
IsCut language context [] text rest = text ≡ rest
IsCut language context (piece ∷ others) text rest =
    (left : List ℕ) × (text ≡ piece.bytes ++ left)
    × IsNext language context piece.kind piece.bytes left
    × IsCut language (behind context piece.kind piece.bytes) others left rest

-- the token of this kind and of these bytes at this place of the file
abbrev pub token_at : ℕ → ℕ → Kind → List ℕ → Token
token_at file at kind bytes =
    record {
      kind = kind;
      place = record { file = file; offset = at };
      len = length bytes;
    }

-- the tokens of a piece at this place, and of pieces from it on
abbrev pub tokens_of : ℕ → ℕ → Option Kind → List ℕ → List Token
tokens_of file at None bytes = []
tokens_of file at (Some kind) bytes = token_at file at kind bytes ∷ []

abbrev pub tokens_from : ℕ → ℕ → List Piece → List Token
tokens_from file at [] = []
tokens_from file at (piece ∷ others) =
    tokens_of file at piece.kind piece.bytes ++ tokens_from file (at + length piece.bytes) others

-- the text before this place is cut into these tokens, and the place has this context
pub record CutTo (language : Language) (file : ℕ) (text : List ℕ) (at : ℕ) (context : Context)
    (tokens : List Token) : Type 0 where
  pub pieces : List Piece
  pub rest : List ℕ
  pub cut : IsCut language at_start pieces text rest
  pub place : at + length rest ≡ length text
  pub tokens_are : tokens ≡ tokens_from file 0 pieces
  pub context_is : context ≡ behind_all at_start pieces

-- the tokens of the whole text, End at its end
pub record AreTokens (language : Language) (file : ℕ) (text : List ℕ) (tokens : List Token)
    : Type 0 where
  pub context : Context
  pub front : List Token
  pub cut : CutTo language file text (length text) context front
  pub tokens_are : tokens ≡ front ++ token_at file (length text) k.End [] ∷ []

-- ---- faults

-- no stretch is next here
abbrev pub NoneIsNext : Language → Context → List ℕ → Type 0
NoneIsNext language context text =
    (kind : Option Kind) (bytes rest : List ℕ) → text ≡ bytes ++ rest
    → IsNext language context kind bytes rest → ⊥

-- no stretch begins here
abbrev pub NoneBegins : Language → Context → List ℕ → Type 0
NoneBegins language context text =
    (kind : Option Kind) (bytes rest : List ℕ) → text ≡ bytes ++ rest
    → IsStretch language context kind bytes → ⊥

-- the longest stretch here is an address or a number
pub record IsNumeric (language : Language) (context : Context) (text : List ℕ) : Type 0 where
  pub kind : Kind
  pub bytes : List ℕ
  pub rest : List ℕ
  pub whole : text ≡ bytes ++ rest
  pub longest : IsLongest language context (Some kind) bytes rest
  pub numeric : (kind ≡ k.Number) ⊎ (kind ≡ k.Address)

-- what stands where no stretch is next
abbrev pub IsOfFault : Language → Context → List ℕ → FaultKind → Type 0
IsOfFault language context text f.OpenComment = IsTrue (opens_comment text || begins (c.Byte 123)
    text)
IsOfFault language context text f.OpenQuote = IsTrue (begins (c.Byte 34) text)
IsOfFault language context text f.NumberTooWide = IsNumeric language context text
IsOfFault language context text f.BadByte =
    NoneBegins language context text × IsTrue (not (begins (c.Byte 123) text)) × IsTrue (not
    (begins (c.Byte 34) text))

-- the first fault of a text, and where it stands: the text before it is cut, and no stretch is next
-- there
pub record IsFault (language : Language) (file : ℕ) (text : List ℕ) (kind : FaultKind)
    (place : Place) : Type 0 where
  pub tokens : List Token
  pub context : Context
  pub cut : CutTo language file text place.offset context tokens
  pub within : place.offset < length text
  pub stuck : NoneIsNext language context (drop place.offset text)
  pub of_kind : IsOfFault language context (drop place.offset text) kind
  pub of_file : place.file ≡ file

-- the tokens of this file lie one behind the other, from this place up to a text's length
abbrev pub LieFrom : ℕ → ℕ → ℕ → List Token → Type 0
LieFrom file at len [] = Unit {0}
LieFrom file at len (token ∷ others) =
    (token.place.file ≡ file) × (at ≤ token.place.offset) × (token.place.offset + token.len ≤ len)
    × LieFrom file (token.place.offset + token.len) len others
