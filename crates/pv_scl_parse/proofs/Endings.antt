-- Expressions before the end of their text.
use Rattle.std.proofs.Common.{◌≡◌, inl, inr, ℕ, ◌<◌, ◌≤◌, List, [], ◌∷◌, length, get_or, refl, ap, arith}
use Rattle.std.proofs.lemmas.List.{length-map, length-append}
use Rattle.std.proofs.lemmas.Bool.{cases_lt}
use Rattle.pv_place.specs.declared.place.Place.{Place}
use Rattle.pv_lex.specs.declared.token.Token.{Token}
use Rattle.pv_lex.specs.declared.token.Language.TheVariants.{Scl}
use Rattle.pv_tree.specs.Tree.{ExprTree}
use Rattle.pv_tree.specs.Lexemes.{Lexeme, lexeme_of, lexemes_of}
use Rattle.pv_tree.specs.Nesting.{levels, most_levels, parts}
use Rattle.pv_tree.specs.Depth.{IsShallow}
use Rattle.pv_tree.specs.Outside.{IsWithin}
use Rattle.pv_tree.specs.Reading.{ReadAsExpression, IsSyntaxFault, IsSyntaxFaultAt, IsTooDeepExpression}
use Rattle.pv_tree.proofs.ForCallers.{agrees-expr}
use Rattle.pv_parse.specs.ExprAnswers.{IsOnlyReading, IsDeepReading}
use Rattle.pv_parse_source.proofs.ForCallers.{Ends, ended, stands}
use Rattle.pv_scl_parse.specs.Answers.{IsOnlyExpression}

pub fault_at : (text : List ℕ) (tokens inner : List Token) (at : ℕ) (d : Token) → Ends text tokens inner → IsWithin Scl (lexemes_of text tokens)
    → IsSyntaxFault ReadAsExpression (lexemes_of text inner) at
    → IsSyntaxFaultAt ReadAsExpression Scl (lexemes_of text tokens) (get_or tokens at d).place
fault_at text tokens inner at d e within fault =
    let lt : at < length tokens = omega (arith, fault.within, ap length e.parts, length-append inner (e.last ∷ []), length-map inner (lexeme_of text)) in
    record {
      inner = lexemes_of text inner;
      ended = ended text tokens inner e;
      within = within;
      at = at;
      fault = fault;
      token = lexeme_of text (get_or tokens at d);
      stands = stands (lexeme_of text) tokens at d lt;
      placed = refl;
    }

-- ---- what was read

-- a tree without a part that is too deep has at most so many levels
levels_within : (tree : ExprTree) → IsShallow (parts 0 tree) → levels tree ≤ most_levels
levels_within tree shallow = elim (cases_lt most_levels (levels tree)) [
  | inl more ↦ absurd (shallow ((agrees-expr 0 tree most_levels).1 (record { from = omega arith; to = omega (arith, more) })))
  | inr few ↦ few
]

pub only_expression : (text : List ℕ) (tokens inner : List Token) (tree : ExprTree) → Ends text tokens inner → IsWithin Scl (lexemes_of text tokens)
    → IsOnlyReading tree (lexemes_of text inner) → IsOnlyExpression (lexemes_of text tokens) tree
only_expression text tokens inner tree e within r =
    record {
      reads = record { inner = lexemes_of text inner; ended = ended text tokens inner e; within = within; read = r.read; shallow = r.shallow };
      only = r.only;
      levels = levels_within tree r.shallow;
    }

pub too_deep : (text : List ℕ) (tokens inner : List Token) (place : Place) → Ends text tokens inner → IsWithin Scl (lexemes_of text tokens)
    → IsDeepReading (lexemes_of text inner) place → IsTooDeepExpression (lexemes_of text tokens) place
too_deep text tokens inner place e within r =
    record {
      expression = r.tree;
      inner = lexemes_of text inner;
      ended = ended text tokens inner e;
      within = within;
      read = r.read;
      deepest = r.deepest;
    }
