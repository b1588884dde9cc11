-- What reading the text of a source answers, in each language.
use Rattle.std.specs.Prelude.{◌≡◌, ◌≤◌, ℕ, List, Contains, Result, Ok, Err}
use Rattle.pv_place.specs.declared.place.Place.{Place}
use Rattle.pv_lex.specs.declared.token.Token.{Token}
use Rattle.pv_lex.specs.declared.token.Language.{Language as Of}
use Rattle.pv_tree.specs.declared.block.Blocks.{Blocks}
use Rattle.pv_tree.specs.Tree.{BlockTree}
use Rattle.pv_tree.specs.View.{block_trees}
use Rattle.pv_tree.specs.Lexemes.{Lexeme, lexeme_of, lexemes_of}
use Rattle.pv_tree.specs.Nesting.{most_levels}
use Rattle.pv_tree.specs.Depth.{levels_of_blocks}
use Rattle.pv_tree.specs.Outside.{IsFirstOutside}
use Rattle.pv_tree.specs.Reading.{ReadAsBlocks, IsRead, IsTooDeep, IsSyntaxFaultAt}
use Rattle.pv_parse.specs.declared.fault.ParseFault.{ParseFault}
use Rattle.pv_parse.specs.declared.fault.ParseFault.TheVariants.{Outside, Syntax, Deep, NoMemory}

-- the first token outside the profile, one of the text's
pub record IsOutsideAt (its : Of) (text : List ℕ) (tokens : List Token) (place : Place) (len : ℕ)
    : Type 0 where
  pub token : Token
  pub there : Contains tokens token
  pub first : IsFirstOutside its (lexemes_of text tokens) (lexeme_of text token)
  pub placed : place ≡ token.place
  pub long : len ≡ token.len

-- no word is outside the profile, the tokens before the end read as these blocks, which don't nest
-- too deep, and as no others
pub record AreOnlyBlocks (its : Of) (tokens : List Lexeme) (all : List BlockTree) : Type 0 where
  pub reads : IsRead its tokens all
  pub only : (other : List BlockTree) → ReadAsBlocks its other reads.inner → other ≡ all
  pub levels : levels_of_blocks all ≤ most_levels

abbrev pub AnswersParse : Of → List ℕ → List Token → Result Blocks ParseFault → Type 0
AnswersParse its text tokens (Ok b) = AreOnlyBlocks its (lexemes_of text tokens) (block_trees b.list.items)
AnswersParse its text tokens (Err (Outside place len)) = IsOutsideAt its text tokens place len
AnswersParse its text tokens (Err (Syntax place)) =
    IsSyntaxFaultAt (ReadAsBlocks its) its (lexemes_of text tokens) place
AnswersParse its text tokens (Err (Deep place)) = IsTooDeep its (lexemes_of text tokens) place
AnswersParse its text tokens (Err NoMemory) = Unit {0}
