-- The block that a case's entry names.
use Rattle.std.specs.Prelude.{◌≡◌, ℕ, List, length, nat_le, Bool, ◌&&◌, ◌||◌, IsTrue, Option, Some}
use Rattle.std.specs.List.{position_from}
use Rattle.pv_place.specs.declared.place.Place.{Place}
use Rattle.pv_types.specs.declared.name.Name.{Name}
use Rattle.pv_lex.specs.declared.token.Token.{Token}
use Rattle.pv_lex.specs.declared.token.Language.TheVariants.{Scl}
use Rattle.pv_lex.specs.declared.lex.TheConstants.{MAX_SOURCE}
use Rattle.pv_lex.specs.Tokens.{AreTokens}
use Rattle.pv_tree.specs.Tree.{BlockTree}
use Rattle.pv_tree.specs.Scopes.{has_key, is_fb, is_ob}
use Rattle.pv_tree.specs.Lexemes.{Lexeme, lexemes_of}
use Rattle.pv_tree.specs.Outside.{IsWithin}
use Rattle.pv_tree.specs.Reading.{AreEnded, ReadAsName}

-- the tokens of a text, with its end, read as this name, and no word outside the profile is among them
pub record IsNameOf (tokens : List Lexeme) (name : Name) : Type 0 where
  pub inner : List Lexeme
  pub place : Place
  pub ended : AreEnded inner tokens
  pub within : IsWithin Scl tokens
  pub read : ReadAsName name place inner

-- a source may be so long
abbrev pub is_short : List ℕ → Bool
is_short text = nat_le (length text) MAX_SOURCE

-- the text, no longer than a source may be, reads as this name, with dropped text around it or not
pub record IsNameText (text : List ℕ) (name : Name) : Type 0 where
  pub short : IsTrue (is_short text)
  pub tokens : List Token
  pub cut : AreTokens Scl 0 text tokens
  pub named : IsNameOf (lexemes_of text tokens) name

-- a function block or an organization block of this key: such a block may be entered
abbrev pub may_enter : List ℕ → BlockTree → Bool
may_enter key b = has_key key b.name && (is_fb b.kind || is_ob b.kind)

-- the number of the first one
abbrev pub number_of_entry : List BlockTree → List ℕ → Option ℕ
number_of_entry blocks key = position_from (may_enter key) 0 blocks

-- the text names the block of this number
pub record IsEntry (blocks : List BlockTree) (text : List ℕ) (n : ℕ) : Type 0 where
  pub name : Name
  pub read : IsNameText text name
  pub is : number_of_entry blocks name.key ≡ Some n
