-- Kinds along tokens: one token more, and tokens behind others.
use Rattle.std.proofs.Common.{◌≡◌, ℕ, zero, suc, ◌<◌, length, get_or, drop, Bool, List, [], ◌∷◌, ◌++◌, refl, ap, arith}
use Rattle.pv_lex.specs.declared.token.Token.{Token}
use Rattle.pv_tree.specs.Lexemes.{Lexeme, lexeme_of, lexemes_of}
use Rattle.pv_parse.specs.Kinds.{kind_of, marks, kinds_of, marked_behind}

pub kinds-step : (text : List ℕ) (tokens : List Token) (i : ℕ) (d : Token) (marked : Bool) → i < length tokens
    → kinds_of marked (lexemes_of text (drop i tokens))
    ≡ kind_of marked (lexeme_of text (get_or tokens i d))
    ∷ kinds_of (marks (lexeme_of text (get_or tokens i d))) (lexemes_of text (drop (suc i) tokens))
kinds-step text [] i d marked h = absurd (omega arith)
kinds-step text (t ∷ ts) zero d marked h = refl
kinds-step text (t ∷ ts) (suc i) d marked h = kinds-step text ts i d marked (omega arith)

-- the kinds of a front are the front of the kinds
pub kinds-append : (marked : Bool) (xs ys : List Lexeme)
    → kinds_of marked (xs ++ ys) ≡ kinds_of marked xs ++ kinds_of (marked_behind marked xs) ys
kinds-append marked [] ys = refl
kinds-append marked (x ∷ xs) ys = ap (λ (ks : List ℕ). kind_of marked x ∷ ks) (kinds-append (marks x) xs ys)
