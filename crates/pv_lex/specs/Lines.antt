-- A cut that begins anywhere, and the tokens of a text behind another one.
use Rattle.std.specs.Prelude.{◌≡◌, ℕ, ◌+◌, Bool, false, ◌||◌, not, List, map}
use Rattle.pv_lex.specs.declared.context.Context.{Context}
use Rattle.pv_lex.specs.declared.token.Token.{Token}
use Rattle.pv_lex.specs.declared.token.Language.{Language}
use Rattle.pv_lex.specs.Tokens.{Piece, IsCut, behind_all, tokens_from}

-- the context on the next line
abbrev pub on_next_line : Context → Context
on_next_line context = record context { on_line = false }

-- a context that is, on the next line, as that of a text's begin: outside of a block's head, and
-- not directly behind `#` or `.`
abbrev pub is_outside : Context → Bool
is_outside context = not (context.in_head || context.joined)

-- the text, which stands in this context at this place of the file, is cut into these tokens up to
-- this rest, and the rest stands in the context `last`
pub record CutFrom (language : Language) (file at : ℕ) (context : Context) (text rest : List ℕ)
    (tokens : List Token) (last : Context) : Type 0 where
  pub pieces : List Piece
  pub cut : IsCut language context pieces text rest
  pub tokens_are : tokens ≡ tokens_from file at pieces
  pub last_is : last ≡ behind_all context pieces

-- the token, so many bytes further on
abbrev pub moved_by : ℕ → Token → Token
moved_by n token =
    record token { place = record { file = token.place.file; offset = n + token.place.offset } }

abbrev pub moved : ℕ → List Token → List Token
moved n tokens = map (moved_by n) tokens
