-- Where places lie: at a token, in a text, and in one of the texts of several sources.
use Rattle.std.specs.Prelude.{◌≡◌, ℕ, ◌+◌, ◌≤◌, List, length, Some, Any}
use Rattle.std.specs.List.{slice_get}
use Rattle.pv_place.specs.declared.place.Place.{Place}
use Rattle.pv_lex.specs.declared.token.Token.{Token}
use Rattle.pv_tree.specs.Lexemes.{Lexeme}

-- one of the tokens stands at the place
abbrev pub IsOfToken : List Lexeme → Place → Type 0
IsOfToken tokens at = Any (λ t. t.place ≡ at) tokens

-- the place is one of this file, and no more bytes stand before it than its text has
pub record LiesIn (file : ℕ) (text : List ℕ) (at : Place) : Type 0 where
  pub of_file : at.file ≡ file
  pub within : at.offset ≤ length text

-- a token begins and ends in its text
pub record TokenLies (file : ℕ) (text : List ℕ) (token : Token) : Type 0 where
  pub begins : LiesIn file text token.place
  pub ends : token.place.offset + token.len ≤ length text

-- the place's file is one of those whose texts these are, by their numbers from 0, and the place lies in it
pub record LiesInOne (texts : List (List ℕ)) (at : Place) : Type 0 where
  pub text : List ℕ
  pub is_one : slice_get texts at.file ≡ Some text
  pub within : at.offset ≤ length text
