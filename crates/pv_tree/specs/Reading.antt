-- What a source, an expression and a block's name read as, and where one reads as nothing.
use Rattle.std.specs.Prelude.{◌≡◌, ℕ, ◌+◌, ◌<◌, ◌≤◌, List, [], ◌∷◌, ◌++◌, length, take, Some, All}
use Rattle.std.specs.List.{slice_get}
use Rattle.pv_place.specs.declared.place.Place.{Place}
use Rattle.pv_types.specs.declared.name.Name.{Name}
use Rattle.pv_lex.specs.declared.token.Kind.TheVariants as k
use Rattle.pv_lex.specs.declared.token.Language.{Language}
use Rattle.pv_lex.specs.declared.token.Language.TheVariants.{Scl}
use Rattle.pv_tree.specs.Tree.{ExprTree, BlockTree}
use Rattle.pv_tree.specs.Lexemes.{Lexeme}
use Rattle.pv_tree.specs.Words.{SpellsName, IsFree}
use Rattle.pv_tree.specs.Expressions.{SpellsExpr, IsFormedExpr}
use Rattle.pv_tree.specs.Blocks.{SpellsBlocks, IsFormedBlock}
use Rattle.pv_tree.specs.Outside.{IsWithin}
use Rattle.pv_tree.specs.Nesting.{parts}
use Rattle.pv_tree.specs.Depth.{parts_of_blocks, IsShallow, IsDeepest}

-- the tokens without the end of the text behind them
pub record AreEnded (inner tokens : List Lexeme) : Type 0 where
  pub ending : Lexeme
  pub parts : tokens ≡ inner ++ ending ∷ []
  pub ends : ending.kind ≡ k.End

-- the tokens spell the blocks of a source, which are well formed
pub record ReadAsBlocks (language : Language) (blocks : List BlockTree)
    (tokens : List Lexeme) : Type 0 where
  pub spelled : SpellsBlocks language blocks tokens
  pub formed : All IsFormedBlock blocks

-- the tokens spell an expression that is well formed
pub record ReadAsExpression (expression : ExprTree) (tokens : List Lexeme) : Type 0 where
  pub spelled : SpellsExpr expression tokens
  pub formed : IsFormedExpr expression

-- the tokens spell a name that may stand alone
pub record ReadAsName (name : Name) (place : Place) (tokens : List Lexeme) : Type 0 where
  pub spelled : SpellsName name place tokens
  pub free : IsFree name

-- `Reads` says from which lists of tokens a tree reads. From `inner` none does, and the fault stands
-- at the token with this number, counted from 0: the tokens before it begin some list from which a
-- tree reads, but with it they begin none. Where all tokens together begin such a list, the fault
-- stands behind the last of them, at the end of the text
pub record IsSyntaxFault {Tree : Type 0} (Reads : Tree → List Lexeme → Type 0) (inner : List Lexeme)
    (at : ℕ)
    : Type 0 where
  pub within : at ≤ length inner
  pub viable : (tree : Tree) × (more : List Lexeme) × Reads tree (take at inner ++ more)
  pub exact : at < length inner → (tree : Tree) (more : List Lexeme) → Reads tree
      (take (at + 1) inner ++ more) → ⊥
  pub none : (tree : Tree) → Reads tree inner → ⊥

-- a source that reads as these blocks: no word outside the profile stands in it, and it nests at
-- most so deep
pub record IsRead (language : Language) (tokens : List Lexeme)
    (blocks : List BlockTree) : Type 0 where
  pub inner : List Lexeme
  pub ended : AreEnded inner tokens
  pub within : IsWithin language tokens
  pub read : ReadAsBlocks language blocks inner
  pub shallow : IsShallow (parts_of_blocks language blocks inner read.spelled)

-- a source that nests too deep, first at this place
pub record IsTooDeep (language : Language) (tokens : List Lexeme) (place : Place) : Type 0 where
  pub blocks : List BlockTree
  pub inner : List Lexeme
  pub ended : AreEnded inner tokens
  pub within : IsWithin language tokens
  pub read : ReadAsBlocks language blocks inner
  pub deepest : IsDeepest (parts_of_blocks language blocks inner read.spelled) place

-- an expression that a text of SCL reads as, that of a pattern for one, like a source
pub record IsReadExpression (tokens : List Lexeme) (expression : ExprTree) : Type 0 where
  pub inner : List Lexeme
  pub ended : AreEnded inner tokens
  pub within : IsWithin Scl tokens
  pub read : ReadAsExpression expression inner
  pub shallow : IsShallow (parts 0 expression)

-- an expression that nests too deep, first at this place
pub record IsTooDeepExpression (tokens : List Lexeme) (place : Place) : Type 0 where
  pub expression : ExprTree
  pub inner : List Lexeme
  pub ended : AreEnded inner tokens
  pub within : IsWithin Scl tokens
  pub read : ReadAsExpression expression inner
  pub deepest : IsDeepest (parts 0 expression) place

-- a text without a word outside the profile, from which no tree reads, and the place of the token at
-- which the fault stands; behind all other tokens that is the one that ends the text
pub record IsSyntaxFaultAt {Tree : Type 0} (Reads : Tree → List Lexeme → Type 0)
    (language : Language) (tokens : List Lexeme) (place : Place) : Type 0 where
  pub inner : List Lexeme
  pub ended : AreEnded inner tokens
  pub within : IsWithin language tokens
  pub at : ℕ
  pub fault : IsSyntaxFault Reads inner at
  pub token : Lexeme
  pub stands : slice_get tokens at ≡ Some token
  pub placed : place ≡ token.place
