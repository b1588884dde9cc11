-- Tokens lie in their text, and so do the places that a tree keeps which they spell.
use Rattle.std.proofs.Common.{◌≡◌, ℕ, zero, suc, ◌+◌, List, [], ◌∷◌, length, Some, refl, subst, arith}
use Rattle.std.specs.Prelude.{flat_map, slice_get}
use Rattle.std.specs.List.{AllByRecursion}
use Rattle.pv_place.specs.declared.place.Place.{Place}
use Rattle.pv_lex.specs.declared.token.Language.{Language}
use Rattle.pv_lex.specs.declared.token.Token.{Token}
use Rattle.pv_lex.specs.Tokens.{AreTokens, LieFrom}
use Rattle.pv_lex.proofs.ForCallers.{tokens-lie}
use Rattle.pv_tree.specs.Lexemes.{Lexeme, lexeme_of, lexemes_of}
use Rattle.pv_laws_places.specs.Kept.{EachOfBlock, EachOfBlocks}
use Rattle.pv_laws_places.specs.Texts.{IsOfToken, LiesIn, TokenLies, LiesInOne}
use Rattle.pv_laws_places.specs.Sources.{SourceRead, IsOfText, AreOfTexts, texts_of}
use Rattle.pv_laws_places.proofs.Lists.{each-front, each-append, each-map, met, any-here, any-later}
use Rattle.pv_laws_places.proofs.Spelled.{Stand}
use Rattle.pv_laws_places.proofs.SpelledBlocks.{each-blocks}

-- each token stands at the place of one of them
pub stand-each : (ts : List Lexeme) → Stand (IsOfToken ts) ts
stand-each ts = go ts (λ p is. is)
  where
    go : (more : List Lexeme) → ((p : Place) → IsOfToken more p → IsOfToken ts p) → Stand (IsOfToken ts) more
    go [] later = tt
    go (t ∷ more) later = (
      later t.place (any-here (λ x. x.place ≡ t.place) t more refl),
      go more (λ p is. later p (any-later (λ x. x.place ≡ p) t more is)),
    )

token-lies : (file at : ℕ) (text : List ℕ) (tokens : List Token) → LieFrom file at (length text) tokens
    → AllByRecursion (TokenLies file text) tokens
token-lies file at text [] h = tt
token-lies file at text (t ∷ more) h = (
  record {
    begins = record { of_file = h.0; within = omega (arith, h.2) };
    ends = h.2;
  },
  token-lies file (t.place.offset + t.len) text more h.3,
)

pub tokens-in-text : (language : Language) (file : ℕ) (text : List ℕ) (tokens : List Token) → AreTokens language file text tokens
    → AllByRecursion (TokenLies file text) tokens
tokens-in-text language file text tokens are = token-lies file 0 text tokens (tokens-lie language file text tokens are)

-- with their bytes
pub lexemes-stand : (language : Language) (file : ℕ) (text : List ℕ) (tokens : List Token) → AreTokens language file text tokens
    → Stand (LiesIn file text) (lexemes_of text tokens)
lexemes-stand language file text tokens are =
    each-map (TokenLies file text) (λ t. LiesIn file text t.place) (lexeme_of text) (λ t is. is.begins) tokens
    (tokens-in-text language file text tokens are)

pub places-in-text : (language : Language) (file : ℕ) (text : List ℕ) (tokens : List Token) (at : Place) → AreTokens language file text tokens
    → IsOfToken (lexemes_of text tokens) at → LiesIn file text at
places-in-text language file text tokens at are is =
    met (λ t. LiesIn file text t.place) (λ t. t.place ≡ at) (lexemes_of text tokens) (lexemes-stand language file text tokens are) is
    (λ t lies same. subst (LiesIn file text) same lies)

-- the places of a source's blocks are so where those of its text are
of-source : (P : Place → Type 0) (number : ℕ) (source : SourceRead) → ((p : Place) → LiesIn number source.text p → P p) → IsOfText number source
    → EachOfBlocks P source.blocks
of-source P number source wider is =
    let stand = each-map (TokenLies number source.text) (λ t. P t.place) (lexeme_of source.text) (λ t lies. wider t.place lies.begins) is.tokens
    (tokens-in-text source.language number source.text is.tokens is.cut) in
    each-blocks P source.language source.blocks is.read.inner is.read.read.spelled
    (each-front (λ t. P t.place) is.read.inner (is.read.ended.ending ∷ []) (subst (Stand P) is.read.ended.parts stand))

pub source-lies : (number : ℕ) (source : SourceRead) → IsOfText number source → EachOfBlocks (LiesIn number source.text) source.blocks
source-lies number source is = of-source (LiesIn number source.text) number source (λ p lies. lies) is

-- ---- all sources

-- the texts from this number on are those that stand there among all
sources-from : (all : List (List ℕ)) (number : ℕ) (sources : List SourceRead)
    → ((k : ℕ) (text : List ℕ) → slice_get (texts_of sources) k ≡ Some text → slice_get all (number + k) ≡ Some text)
    → AreOfTexts number sources → EachOfBlocks (LiesInOne all) (flat_map (λ s. s.blocks) sources)
sources-from all number [] known are = tt
sources-from all number (source ∷ more) known are =
    each-append (EachOfBlock (LiesInOne all)) source.blocks (flat_map (λ s. s.blocks) more)
    (of-source (LiesInOne all) number source (λ p lies. record {
      text = source.text;
      is_one = subst (λ n. slice_get all n ≡ Some source.text) (first p lies.of_file) (known zero source.text refl);
      within = lies.within;
    }) are.0)
    (sources-from all (number + 1) more (λ k text is. subst (λ n. slice_get all n ≡ Some text) (next k) (known (suc k) text is)) are.1)
  where
    first : (p : Place) → p.file ≡ number → number + zero ≡ p.file
    first p e = omega (arith, e)

    next : (k : ℕ) → number + suc k ≡ (number + 1) + k
    next k = omega arith

from-zero : (k : ℕ) → k ≡ 0 + k
from-zero k = omega arith

pub sources-lie : (sources : List SourceRead) → AreOfTexts 0 sources → EachOfBlocks (LiesInOne (texts_of sources)) (flat_map (λ s. s.blocks) sources)
sources-lie sources are =
    sources-from (texts_of sources) 0 sources (λ k text is. subst (λ n. slice_get (texts_of sources) n ≡ Some text) (from-zero k) is) are
