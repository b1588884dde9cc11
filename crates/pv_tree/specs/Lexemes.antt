-- Tokens that say all of themselves, and forms: what tokens stand one behind another. A tree's
-- spelling is a form that is made by recursion on the tree, production by production.
use Prim.Native.String.{String}
use Rattle.std.specs.Prelude.{◌≡◌, ◌⊎◌, ℕ, ℤ, List, [], ◌∷◌, ◌++◌, map, take, drop, codes, IsTrue, Option, Some, None}
use Rattle.std.specs.Str.{str_eq_ignore_ascii_case}
use Rattle.pv_place.specs.declared.place.Place.{Place}
use Rattle.pv_lex.specs.declared.token.Kind.{Kind}
use Rattle.pv_lex.specs.declared.token.Kind.TheVariants as k
use Rattle.pv_lex.specs.declared.token.Token.{Token}
use Rattle.pv_lex.specs.Values.{token_value}

-- a token with its bytes
pub record Lexeme : Type 0 where
  pub kind : Kind
  pub bytes : List ℕ
  pub value : ℤ
  pub place : Place

-- the tokens of a text, with their bytes
abbrev pub lexeme_of : List ℕ → Token → Lexeme
lexeme_of text token =
    record {
      kind = token.kind;
      bytes = take token.len (drop token.place.offset text);
      value = token_value token.kind (take token.len (drop token.place.offset text));
      place = token.place;
    }

abbrev pub lexemes_of : List ℕ → List Token → List Lexeme
lexemes_of text tokens = map (lexeme_of text) tokens

-- ---- single tokens

-- the word, in any letter case
pub record IsWord (text : String) (t : Lexeme) : Type 0 where
  pub kind : t.kind ≡ k.Word
  pub bytes : IsTrue (str_eq_ignore_ascii_case t.bytes (codes text))

-- the sign; letters in it in any case
pub record IsSign (text : String) (t : Lexeme) : Type 0 where
  pub kind : t.kind ≡ k.Sign
  pub bytes : IsTrue (str_eq_ignore_ascii_case t.bytes (codes text))

-- a token of this sort at this place
pub record IsAt (P : Lexeme → Type 0) (place : Place) (t : Lexeme) : Type 0 where
  pub is : P t
  pub at : t.place ≡ place

-- the place of the first of the tokens
abbrev pub first_place : List Lexeme → Option Place
first_place [] = None
first_place (t ∷ others) = Some t.place

-- ---- forms

-- what tokens there are
abbrev pub Form : Type 1
Form = List Lexeme → Type 0

-- no tokens
abbrev pub nothing : Form
nothing tokens = tokens ≡ []

-- no list of tokens is so
abbrev pub never : Form
never tokens = ⊥

-- one token of a sort
pub record IsOne (P : Lexeme → Type 0) (tokens : List Lexeme) : Type 0 where
  pub token : Lexeme
  pub alone : tokens ≡ token ∷ []
  pub is : P token

abbrev pub one : (Lexeme → Type 0) → Form
one P = IsOne P

-- tokens of one form, and behind them tokens of another
pub record IsJoined (first second : List Lexeme → Type 0) (tokens : List Lexeme) : Type 0 where
  pub front : List Lexeme
  pub back : List Lexeme
  pub parts : tokens ≡ front ++ back
  pub in_front : first front
  pub behind : second back

infixr 30 ◌⨾◌
abbrev pub ◌⨾◌ : Form → Form → Form
first ⨾ second = IsJoined first second

-- tokens of one form or of another
infixr 20 ◌∣◌
abbrev pub ◌∣◌ : Form → Form → Form
(first ∣ second) tokens = first tokens ⊎ second tokens

-- tokens of the form, on a condition on the tree alone
abbrev pub when : Type 0 → Form → Form
when condition form tokens = condition × form tokens

-- tokens of the form, or none
abbrev pub maybe : Form → Form
maybe form = nothing ∣ form

-- the word, and the sign; the same where the tree keeps its place
abbrev pub word : String → Form
word text = one (IsWord text)

abbrev pub word_at : String → Place → Form
word_at text place = one (IsAt (IsWord text) place)

abbrev pub sign : String → Form
sign text = one (IsSign text)

abbrev pub sign_at : String → Place → Form
sign_at text place = one (IsAt (IsSign text) place)

-- the form of each thing of a list, one behind the other
abbrev pub each : {A : Type 0} → (A → Form) → List A → Form
each form [] = nothing
each form (x ∷ xs) = form x ⨾ each form xs

-- the same, each behind a comma
abbrev pub each_behind : {A : Type 0} → (A → Form) → List A → Form
each_behind form [] = nothing
each_behind form (x ∷ xs) = sign "," ⨾ form x ⨾ each_behind form xs

-- at least one, with commas between them
abbrev pub listed : {A : Type 0} → (A → Form) → List A → Form
listed form [] = never
listed form (x ∷ xs) = form x ⨾ each_behind form xs
