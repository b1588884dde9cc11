-- What is said of a source by its tokens. A fault is told by the bytes before it.
use Rattle.std.specs.Prelude.{◌≡◌, ℕ, List}
use Rattle.pv_place.specs.declared.place.Place.{Place}
use Rattle.pv_lex.specs.declared.token.Language.{Language}
use Rattle.pv_tree.specs.Tree.{BlockTree}
use Rattle.pv_tree.specs.Lexemes.{Lexeme}
use Rattle.pv_tree.specs.Outside.{IsFirstOutside}
use Rattle.pv_tree.specs.Reading.{ReadAsBlocks, IsRead, IsTooDeep, IsSyntaxFaultAt}

-- it is these blocks; this word is the first outside the profile; its syntax is at fault there, or it nests too deep, first there
pub data Judgement : Type 0 where
  read : List BlockTree → Judgement
  outside : Lexeme → Judgement
  syntax : ℕ → Judgement
  deep : ℕ → Judgement

abbrev pub Judged : Language → List Lexeme → Judgement → Type 0
Judged its tokens (read blocks) = IsRead its tokens blocks
Judged its tokens (outside word) = IsFirstOutside its tokens word
Judged its tokens (syntax offset) =
    (place : Place) × IsSyntaxFaultAt (ReadAsBlocks its) its tokens place × (place.offset ≡ offset)
Judged its tokens (deep offset) =
    (place : Place) × IsTooDeep its tokens place × (place.offset ≡ offset)
