-- What reading a source answers, in each language whose derivations are exact.
use Rattle.std.specs.Prelude.{◌≡◌, ℕ, ◌<◌, false, List, [], ◌∷◌, All, Some, None, Result, Ok, Err}
use Rattle.std.specs.List.{slice_get}
use Rattle.pv_place.specs.declared.place.Place.{Place}
use Rattle.pv_ll.specs.declared.table.Language.{Language}
use Rattle.pv_ll.specs.declared.table.Symbol.TheVariants.{Name}
use Rattle.pv_ll.specs.Grammar.{IsSentence}
use Rattle.pv_ll.specs.Table.{grammar_of}
use Rattle.pv_ll.specs.Making.{Runs}
use Rattle.pv_lex.specs.declared.token.Language.{Language as Of}
use Rattle.pv_tree.specs.declared.block.Blocks.{Blocks}
use Rattle.pv_tree.specs.Tree.{BlockTree}
use Rattle.pv_tree.specs.View.{block_trees}
use Rattle.pv_tree.specs.Lexemes.{Lexeme}
use Rattle.pv_tree.specs.Nesting.{most_levels}
use Rattle.pv_tree.specs.Depth.{parts_of_blocks, IsShallow, IsDeepest}
use Rattle.pv_tree.specs.Reading.{ReadAsBlocks, IsSyntaxFault}
use Rattle.pv_parse.specs.declared.action.Action.{Action}
use Rattle.pv_parse.specs.declared.fault.ReadFault.{ReadFault}
use Rattle.pv_parse.specs.declared.fault.ReadFault.TheVariants.{Syntax, Deep}
use Rattle.pv_parse.specs.InOrder.{LieInOrder}
use Rattle.pv_parse.specs.KindNumbers.{outside}
use Rattle.pv_parse.specs.Kinds.{HaveKinds}
use Rattle.pv_parse.specs.Items.{blocks}
use Rattle.pv_parse.specs.Shades.{Shade}
use Rattle.pv_parse.specs.ItemShades.{shade_making}
use Rattle.pv_parse.specs.Deeds.{making, kinded}

-- blocks that the tokens read as
pub record ReadBlocks (its : Of) (tokens : List Lexeme) : Type 0 where
  pub all : List BlockTree
  pub read : ReadAsBlocks its all tokens

-- the derivation of tokens that read as blocks makes a shade, whose place at the depth that is too
-- deep is the least of a part that is
pub record IsShaded (its : Of) (l : Language) (actions : List Action) (all : List BlockTree)
    (tokens : List Lexeme) (read : ReadAsBlocks its all tokens) : Type 0 where
  pub shade : Shade
  pub runs : Runs (grammar_of l) (shade_making actions) (Name l.start ∷ []) (kinded false tokens) []
      (shade ∷ [])
  pub shallow : slice_get shade.parts most_levels ≡ None
      → IsShallow (parts_of_blocks its all tokens read.spelled)
  pub deepest : (place : Place) → LieInOrder 0 tokens → slice_get shade.parts most_levels ≡ Some place
      → IsDeepest (parts_of_blocks its all tokens read.spelled) place

-- the texts of the language are the sources of SCL or STL, and its actions make their blocks
pub record ReadsSources (its : Of) (l : Language) (actions : List Action) : Type 0 where
  pub sound : (tokens : List Lexeme) (kinds : List ℕ) → HaveKinds tokens kinds
      → IsSentence (grammar_of l) l.start kinds → ReadBlocks its tokens
  pub complete : (all : List BlockTree) (tokens : List Lexeme) → ReadAsBlocks its all tokens
      → Runs (grammar_of l) (making actions) (Name l.start ∷ []) (kinded false tokens) []
      (blocks all ∷ [])
  pub shaded : (all : List BlockTree) (tokens : List Lexeme) (read : ReadAsBlocks its all tokens)
      → IsShaded its l actions all tokens read
  pub below : (kinds : List ℕ) → IsSentence (grammar_of l) l.start kinds
      → All (λ (kind : ℕ). kind < outside) kinds

-- the tokens read as these blocks, and as no other, and none nests too deep
pub record IsOnlySource (its : Of) (all : List BlockTree) (tokens : List Lexeme) : Type 0 where
  pub read : ReadAsBlocks its all tokens
  pub only : (other : List BlockTree) → ReadAsBlocks its other tokens → other ≡ all
  pub shallow : IsShallow (parts_of_blocks its all tokens read.spelled)

-- the tokens read as blocks that nest too deep, first at this place
pub record IsDeepSource (its : Of) (tokens : List Lexeme) (place : Place) : Type 0 where
  pub all : List BlockTree
  pub read : ReadAsBlocks its all tokens
  pub deepest : IsDeepest (parts_of_blocks its all tokens read.spelled) place

-- the blocks that the tokens read as, or where they are at fault, or too deep
abbrev pub AnswersSource : Of → List Lexeme → Result Blocks ReadFault → Type 0
AnswersSource its tokens (Ok b) = IsOnlySource its (block_trees b.list.items) tokens
AnswersSource its tokens (Err (Syntax i)) = IsSyntaxFault (ReadAsBlocks its) tokens i
AnswersSource its tokens (Err (Deep place)) = IsDeepSource its tokens place
