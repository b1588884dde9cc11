-- What reading a text answers: its one expression, or that there is none.
use Rattle.std.proofs.Common.{◌≡◌, ℕ, List, Option, Some, None, Result, Ok, Err, IfOk, IfSome, IfNone, sym, subst}
use Rattle.std.specs.declared.alloc.AllocError.{AllocError}
use Rattle.pv_place.specs.declared.place.Place.{Place}
use Rattle.pv_lex.specs.declared.fault.FaultKind.{FaultKind}
use Rattle.pv_lex.specs.declared.token.Token.{Token}
use Rattle.pv_lex.specs.declared.token.Language.TheVariants.{Scl}
use Rattle.pv_lex.specs.Tokens.{AreTokens, IsFault}
use Rattle.pv_lex.proofs.ForCallers.{tokens-faultless}
use Rattle.pv_tree.specs.declared.expr.Expr.{Expr}
use Rattle.pv_tree.specs.Tree.{ExprTree}
use Rattle.pv_tree.specs.View.{expr_tree}
use Rattle.pv_tree.specs.Lexemes.{Lexeme, lexeme_of, lexemes_of}
use Rattle.pv_tree.specs.Nesting.{parts}
use Rattle.pv_tree.specs.Depth.{IsShallow}
use Rattle.pv_tree.specs.Reading.{ReadAsExpression, IsReadExpression, IsSyntaxFaultAt, IsTooDeepExpression}
use Rattle.pv_tree.proofs.ForCallers.{outside-apart, deepest-apart}
use Rattle.pv_parse.specs.declared.fault.ParseFault.{ParseFault}
use Rattle.pv_parse.specs.declared.fault.ParseFault.TheVariants.{Outside, Syntax, Deep}
use Rattle.pv_scl_parse.specs.Answers.{AnswersExpression}
use Rattle.pv_pattern.specs.Texts.{IsTextOf}
use Rattle.pv_pattern_read.proofs.Readings.{IsOne, inner_same, read_among}

-- ---- tokens that are no expression

pub outside_unread : (text : List ℕ) (tokens : List Token) (fault : ParseFault) (place : Place) (len : ℕ) (e : ExprTree) → fault ≡ Outside place len
    → AnswersExpression text tokens (Err fault) → IsReadExpression (lexemes_of text tokens) e → ⊥
outside_unread text tokens fault place len e is h r =
    let at = subst (λ f. AnswersExpression text tokens (Err f)) is h in
    outside-apart Scl (lexemes_of text tokens) (lexeme_of text at.token) r.within at.first

syntax_apart : (tokens : List Lexeme) (place : Place) (e : ExprTree) → IsSyntaxFaultAt ReadAsExpression Scl tokens place → IsReadExpression tokens e → ⊥
syntax_apart tokens place e h r =
    h.fault.none e (subst (ReadAsExpression e) (inner_same tokens r.inner h.inner r.ended h.ended) r.read)

pub syntax_unread : (text : List ℕ) (tokens : List Token) (fault : ParseFault) (place : Place) (e : ExprTree) → fault ≡ Syntax place
    → AnswersExpression text tokens (Err fault) → IsReadExpression (lexemes_of text tokens) e → ⊥
syntax_unread text tokens fault place e is h r =
    syntax_apart (lexemes_of text tokens) place e (subst (λ f. AnswersExpression text tokens (Err f)) is h) r

deep_apart : IsOne → (tokens : List Lexeme) (place : Place) (e : ExprTree) → IsTooDeepExpression tokens place → IsReadExpression tokens e → ⊥
deep_apart one tokens place e h r =
    let same : e ≡ h.expression =
    one e h.expression h.inner (subst (ReadAsExpression e) (inner_same tokens r.inner h.inner r.ended h.ended) r.read) h.read in
    deepest-apart (parts 0 h.expression) place (subst (λ (z : ExprTree). IsShallow (parts 0 z)) same r.shallow) h.deepest

pub deep_unread : IsOne → (text : List ℕ) (tokens : List Token) (fault : ParseFault) (place : Place) (e : ExprTree) → fault ≡ Deep place
    → AnswersExpression text tokens (Err fault) → IsReadExpression (lexemes_of text tokens) e → ⊥
deep_unread one text tokens fault place e is h r =
    deep_apart one (lexemes_of text tokens) place e (subst (λ f. AnswersExpression text tokens (Err f)) is h) r

-- ---- what is answered of a text

pub faultless : (text : List ℕ) (kind : FaultKind) (at : Place) (e : ExprTree) → IsFault Scl 0 text kind at → IsTextOf text e → ⊥
faultless text kind at e fault h = tokens-faultless Scl 0 text h.tokens kind at h.cut fault

pub found_in : (text bytes other : List ℕ) (tokens given : List Token) (r : Result (Option Expr) AllocError)
    → bytes ≡ text → other ≡ text → given ≡ tokens → AreTokens Scl 0 bytes tokens
    → IfOk r (λ o. IfSome o (λ e. IsReadExpression (lexemes_of other given) (expr_tree e)))
    → IfOk r (λ o. IfSome o (λ e. IsTextOf text (expr_tree e)))
found_in text bytes other tokens given (Ok None) e f g are found = found
found_in text bytes other tokens given (Ok (Some tree)) e f g are found =
    record {
      tokens = tokens;
      cut = subst (λ (b : List ℕ). AreTokens Scl 0 b tokens) e are;
      reads = subst (λ (ts : List Token). IsReadExpression (lexemes_of text ts) (expr_tree tree)) g
          (subst (λ (b : List ℕ). IsReadExpression (lexemes_of b given) (expr_tree tree)) f found);
    }
found_in text bytes other tokens given (Err fault) e f g are found = found

pub none_in : (text bytes other : List ℕ) (tokens given : List Token) (r : Result (Option Expr) AllocError)
    → bytes ≡ text → other ≡ text → given ≡ tokens → AreTokens Scl 0 bytes tokens
    → IfOk r (λ o. IfNone o ((e : ExprTree) → IsReadExpression (lexemes_of other given) e → ⊥))
    → IfOk r (λ o. IfNone o ((e : ExprTree) → IsTextOf text e → ⊥))
none_in text bytes other tokens given (Ok None) e f g are none = λ tree h.
    let cut = subst (λ (b : List ℕ). AreTokens Scl 0 b tokens) e are in
    let there = subst (λ (b : List ℕ). IsReadExpression (lexemes_of b tokens) tree) (sym f) (read_among text tokens tree cut h) in
    none tree (subst (λ (ts : List Token). IsReadExpression (lexemes_of other ts) tree) (sym g) there)
none_in text bytes other tokens given (Ok (Some tree)) e f g are none = none
none_in text bytes other tokens given (Err fault) e f g are none = none
