-- Sources before the end of their text.
use Rattle.std.proofs.Common.{inl, inr, ℕ, ◌<◌, ◌≤◌, List, ◌∷◌, [], length, get_or, refl, ap, arith}
use Rattle.std.proofs.lemmas.List.{length-map, length-append}
use Rattle.std.proofs.lemmas.Bool.{cases_lt}
use Rattle.pv_place.specs.declared.place.Place.{Place}
use Rattle.pv_lex.specs.declared.token.Token.{Token}
use Rattle.pv_lex.specs.declared.token.Language.{Language as Of}
use Rattle.pv_tree.specs.Tree.{BlockTree}
use Rattle.pv_tree.specs.Lexemes.{Lexeme, lexeme_of, lexemes_of}
use Rattle.pv_tree.specs.Blocks.{SpellsBlocks}
use Rattle.pv_tree.specs.Nesting.{most_levels}
use Rattle.pv_tree.specs.Depth.{levels_of_blocks, parts_of_blocks, IsShallow}
use Rattle.pv_tree.specs.Outside.{IsWithin}
use Rattle.pv_tree.specs.Reading.{ReadAsBlocks, IsTooDeep, IsSyntaxFault, IsSyntaxFaultAt}
use Rattle.pv_tree.proofs.ForCallers.{agrees-blocks}
use Rattle.pv_parse_source.specs.SourceAnswers.{IsOnlySource, IsDeepSource}
use Rattle.pv_parse_source.specs.Parsing.{AreOnlyBlocks}
use Rattle.pv_parse_source.proofs.Endings.{Ends, ended, stands}

-- a token at fault before the end is one of the text's
pub fault_lies : (its : Of) (text : List ℕ) (tokens inner : List Token) (at : ℕ) → Ends text tokens inner
    → IsSyntaxFault (ReadAsBlocks its) (lexemes_of text inner) at → at < length tokens
fault_lies its text tokens inner at e fault =
    omega (arith, fault.within, ap length e.parts, length-append inner (e.last ∷ []), length-map inner (lexeme_of text))

pub source_fault_at : (its : Of) (text : List ℕ) (tokens inner : List Token) (at : ℕ) (d : Token) → Ends text tokens inner → IsWithin its (lexemes_of text tokens)
    → IsSyntaxFault (ReadAsBlocks its) (lexemes_of text inner) at
    → IsSyntaxFaultAt (ReadAsBlocks its) its (lexemes_of text tokens) (get_or tokens at d).place
source_fault_at its text tokens inner at d e within fault =
    let lt = fault_lies its text tokens inner at e fault in
    record {
      inner = lexemes_of text inner;
      ended = ended text tokens inner e;
      within = within;
      at = at;
      fault = fault;
      token = lexeme_of text (get_or tokens at d);
      stands = stands (lexeme_of text) tokens at d lt;
      placed = refl;
    }

-- blocks without a part that is too deep have at most so many levels
levels_within : (its : Of) (all : List BlockTree) (ls : List Lexeme) (d : SpellsBlocks its all ls) → IsShallow (parts_of_blocks its all ls d)
    → levels_of_blocks all ≤ most_levels
levels_within its all ls d shallow = elim (cases_lt most_levels (levels_of_blocks all)) [
  | inl more ↦ absurd (shallow ((agrees-blocks its all ls d most_levels).1 (record { from = omega arith; to = omega (arith, more) })))
  | inr few ↦ few
]

pub only_blocks : (its : Of) (text : List ℕ) (tokens inner : List Token) (all : List BlockTree) → Ends text tokens inner → IsWithin its (lexemes_of text tokens)
    → IsOnlySource its all (lexemes_of text inner) → AreOnlyBlocks its (lexemes_of text tokens) all
only_blocks its text tokens inner all e within r =
    record {
      reads = record { inner = lexemes_of text inner; ended = ended text tokens inner e; within = within; read = r.read; shallow = r.shallow };
      only = r.only;
      levels = levels_within its all (lexemes_of text inner) r.read.spelled r.shallow;
    }

pub blocks_too_deep : (its : Of) (text : List ℕ) (tokens inner : List Token) (place : Place) → Ends text tokens inner → IsWithin its (lexemes_of text tokens)
    → IsDeepSource its (lexemes_of text inner) place → IsTooDeep its (lexemes_of text tokens) place
blocks_too_deep its text tokens inner place e within r =
    record {
      blocks = r.all;
      inner = lexemes_of text inner;
      ended = ended text tokens inner e;
      within = within;
      read = r.read;
      deepest = r.deepest;
    }
