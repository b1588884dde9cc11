-- Symbols: names for addresses.
use Rattle.std.specs.Prelude.{◌≡◌, ℕ, ◌==◌, List, [], ◌∷◌, codes, bytes_eq, ◌&&◌, if◌then◌else◌, IsTrue, Contains, Option, Some, None}
use Rattle.std.specs.Str.{str_to_ascii_lowercase}
use Rattle.pv_word.specs.declared.types.Ty.{Ty}
use Rattle.pv_word.specs.declared.types.Ty.TheVariants.{Bool as A_Bool, Byte, Word, Dword, Int, Dint, Time}
use Rattle.pv_place.specs.declared.place.Place.{Place}
use Rattle.pv_lex.specs.declared.token.Token.{Token}
use Rattle.pv_lex.specs.declared.token.Language.TheVariants.{Scl}
use Rattle.pv_lex.specs.Tokens.{AreTokens}
use Rattle.pv_tree.specs.declared.expr.Area.{Area}
use Rattle.pv_tree.specs.declared.expr.Root.TheVariants as root
use Rattle.pv_tree.specs.Tree.{OperandTree, operand, no_steps}
use Rattle.pv_tree.specs.Lexemes.{lexeme_of}
use Rattle.pv_tree.specs.Literals.{IsAddress}
use Rattle.pv_tree.specs.Things.{is_address}
use Rattle.pv_case.specs.Members.{is_short}

-- a symbol's name without regard to case
abbrev pub symbol_key : List ℕ → List ℕ
symbol_key name = str_to_ascii_lowercase name

-- the type of this name, where an address of so many bits may be read as it
unfoldable pub type_of_width : ℕ → List ℕ → Option Ty
type_of_width bits text =
    if bytes_eq text (codes "BOOL") && (bits == 1) then Some A_Bool
    else (if bytes_eq text (codes "BYTE") && (bits == 8) then Some Byte
    else (if bytes_eq text (codes "WORD") && (bits == 16) then Some Word
    else (if bytes_eq text (codes "INT") && (bits == 16) then Some Int
    else (if bytes_eq text (codes "DWORD") && (bits == 32) then Some Dword
    else (if bytes_eq text (codes "DINT") && (bits == 32) then Some Dint
    else (if bytes_eq text (codes "TIME") && (bits == 32) then Some Time else None))))))

-- the text, no longer than a case's texts may be, is one address, with dropped text around it or not, and there is such an address
pub record IsAddressText (text : List ℕ) (area : Area) (bits byte bit : ℕ) (place : Place) : Type 0 where
  pub short : IsTrue (is_short text)
  pub token : Token
  pub last : Token
  pub cut : AreTokens Scl 0 text (token ∷ last ∷ [])
  pub reads : IsAddress area bits byte bit (lexeme_of text token)
  pub lies : IsTrue (is_address bits byte bit)
  pub placed : place ≡ token.place

-- a symbol's operand and type as its texts say them
pub record ReadsAs (at ty_text : List ℕ) (its_operand : OperandTree) (ty : Ty) : Type 0 where
  pub area : Area
  pub bits : ℕ
  pub byte : ℕ
  pub bit : ℕ
  pub place : Place
  pub address : IsAddressText at area bits byte bit place
  pub of_type : type_of_width bits ty_text ≡ Some ty
  pub is : its_operand ≡ operand (root.Area area bits byte bit) no_steps place

-- the operand reads, the type suits it, and no earlier symbol has the name
pub record IsSymbol (earlier : List (List ℕ)) (name at ty_text : List ℕ) : Type 0 where
  pub its_operand : OperandTree
  pub ty : Ty
  pub reads : ReadsAs at ty_text its_operand ty
  pub apart : Contains earlier (symbol_key name) → ⊥
