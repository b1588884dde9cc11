-- Sources that are read, and the project of their blocks.
use Rattle.std.specs.Prelude.{ℕ, ◌+◌, ⊤, List, [], ◌∷◌, flat_map, map}
use Rattle.pv_lex.specs.declared.token.Language.{Language}
use Rattle.pv_lex.specs.declared.token.Token.{Token}
use Rattle.pv_lex.specs.Tokens.{AreTokens}
use Rattle.pv_tree.specs.Tree.{BlockTree}
use Rattle.pv_tree.specs.Scopes.{SymbolTree, ProjectTree}
use Rattle.pv_tree.specs.Lexemes.{lexemes_of}
use Rattle.pv_tree.specs.Reading.{IsRead}

-- a source: its language, its text, and the blocks that it is read as
pub record SourceRead : Type 0 where
  pub language : Language
  pub text : List ℕ
  pub blocks : List BlockTree

-- by its number, the blocks are what its text's tokens read as
pub record IsOfText (number : ℕ) (source : SourceRead) : Type 0 where
  pub tokens : List Token
  pub cut : AreTokens source.language number source.text tokens
  pub read : IsRead source.language (lexemes_of source.text tokens) source.blocks

-- so are those of all sources, from this number on
abbrev pub AreOfTexts : ℕ → List SourceRead → Type 0
AreOfTexts number [] = ⊤
AreOfTexts number (source ∷ more) = IsOfText number source × AreOfTexts (number + 1) more

abbrev pub texts_of : List SourceRead → List (List ℕ)
texts_of sources = map (λ s. s.text) sources

-- the blocks of all sources, with the case's symbols
abbrev pub project_of : List SourceRead → List SymbolTree → ProjectTree
project_of sources symbols = record {
  blocks = flat_map (λ s. s.blocks) sources;
  symbols = symbols;
}
