-- Laws on kinds of tokens.
use Rattle.std.specs.Prelude.{◌≡◌, ℕ, ◌<◌, Bool, false, List, ◌++◌}
use Rattle.pv_lex.specs.declared.token.Language.{Language}
use Rattle.pv_lex.specs.declared.token.Token.{Token}
use Rattle.pv_lex.specs.Tokens.{AreTokens}
use Rattle.pv_tree.specs.Lexemes.{Lexeme, lexemes_of}
use Rattle.pv_parse.specs.KindNumbers.{outside}
use Rattle.pv_parse.specs.Kinds.{kinds_of, marked_behind, HasKind, HaveKinds}

-- the kinds of tokens don't depend on what follows them
abbrev pub FrontsHaveFrontKinds : Type 0
FrontsHaveFrontKinds =
    (marked : Bool) (front back : List Lexeme)
    → kinds_of marked (front ++ back) ≡ kinds_of marked front ++ kinds_of (marked_behind marked front) back

-- each token of a text has the kind that it is given
abbrev pub TokensHaveKinds : Type 0
TokensHaveKinds =
    (language : Language) (file : ℕ) (text : List ℕ) (tokens : List Token) → AreTokens language file text tokens
    → HaveKinds (lexemes_of text tokens) (kinds_of false (lexemes_of text tokens))

-- each kind that the grammars have a use for is that of some token
abbrev pub KindsHaveWitnesses : Type 0
KindsHaveWitnesses = (kind : ℕ) → kind < outside → (t : Lexeme) × HasKind t kind
