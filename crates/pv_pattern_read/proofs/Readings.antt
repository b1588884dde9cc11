-- Tokens and texts read as one expression at most.
use Rattle.std.proofs.Common.{◌≡◌, ℕ, true, false, List, [], ◌∷◌, ◌++◌, Some, Option, ap, ◌∙◌, sym, subst, refl}
use Rattle.pv_ll.specs.declared.table.Symbol.TheVariants.{Name}
use Rattle.pv_ll.specs.declared.table.Language.{Language}
use Rattle.pv_ll.specs.Grammar.{Grammar}
use Rattle.pv_ll.specs.Table.{grammar_of}
use Rattle.pv_ll.specs.Check.{is_ll1}
use Rattle.pv_ll.specs.Making.{Runs}
use Rattle.pv_ll.proofs.ForCallers.{ll1_from, one_end}
use Rattle.pv_lex.specs.declared.token.Token.{Token}
use Rattle.pv_lex.specs.declared.token.Language.TheVariants.{Scl}
use Rattle.pv_lex.specs.Tokens.{AreTokens}
use Rattle.pv_lex.proofs.ForCallers.{tokens-one}
use Rattle.pv_tree.specs.Tree.{ExprTree}
use Rattle.pv_tree.specs.Lexemes.{Lexeme, lexemes_of}
use Rattle.pv_tree.specs.Reading.{AreEnded, ReadAsExpression, IsReadExpression}
use Rattle.pv_parse.specs.FrontNames as name
use Rattle.pv_parse.specs.Front.{expression_productions, declaration_productions}
use Rattle.pv_parse.specs.Items.{Stack, expr, expr_on}
use Rattle.pv_parse.specs.Deeds.{making, kinded, expression_actions}
use Rattle.pv_parse.proofs.ForCallers.{complete}
use Rattle.pv_scl_parse.specs.SclGrammar.{statement_productions, scl_grammar}
use Rattle.pv_pattern.specs.Texts.{IsTextOf}

-- ---- tokens

-- the productions behind those of expressions
abbrev rest : Grammar
rest = declaration_productions ++ statement_productions

-- each expression that the tokens read as is made by their derivation
made : (l : Language) → grammar_of l ≡ expression_productions ++ rest → l.start ≡ name.expression → (e : ExprTree) (ls : List Lexeme) → ReadAsExpression e ls
    → Runs (grammar_of l) (making (expression_actions ++ [])) (Name l.start ∷ []) (kinded false ls) [] (expr e ∷ [])
made l grammar start e ls r =
    subst (λ (z : Grammar). Runs z (making (expression_actions ++ [])) (Name l.start ∷ []) (kinded false ls) [] (expr e ∷ [])) (sym grammar)
    (subst (λ (z : ℕ). Runs (expression_productions ++ rest) (making (expression_actions ++ [])) (Name z ∷ []) (kinded false ls) [] (expr e ∷ []))
    (sym start) (complete rest [] e ls r))

abbrev first : Option (ExprTree × Stack) → ExprTree → ExprTree
first (Some x) d = x.0
first _ d = d

top_same : (a b : ExprTree) (s t : Stack) → s ≡ expr a ∷ [] → t ≡ expr b ∷ [] → s ≡ t → a ≡ b
top_same a b s t p q e =
    ap (λ (z : Stack). first (expr_on z) a) (sym p ∙ e ∙ q)

pub one_expression : (l : Language) → is_ll1 l ≡ true → grammar_of l ≡ scl_grammar → l.start ≡ 4 → (a b : ExprTree) (ls : List Lexeme)
    → ReadAsExpression a ls → ReadAsExpression b ls → a ≡ b
one_expression l fits grammar start a b ls r s =
    top_same a b (expr a ∷ []) (expr b ∷ []) refl refl (one_end (ll1_from l fits) (made l grammar start a ls r) (made l grammar start b ls s))

-- ---- with the end of the text

-- tokens read as one expression at most
abbrev pub IsOne : Type 0
IsOne = (a b : ExprTree) (ls : List Lexeme) → ReadAsExpression a ls → ReadAsExpression b ls → a ≡ b

same_front : {A : Type 0} (xs ys : List A) (x y : A) → xs ++ x ∷ [] ≡ ys ++ y ∷ [] → xs ≡ ys
same_front [] [] x y e = refl
same_front [] (z ∷ []) x y e = absurd (cc)
same_front [] (z ∷ w ∷ ys) x y e = absurd (cc)
same_front (z ∷ []) [] x y e = absurd (cc)
same_front (z ∷ w ∷ xs) [] x y e = absurd (cc)
same_front (z ∷ xs) (w ∷ ys) x y e =
    let first : z ≡ w = cc in
    let rest : xs ++ x ∷ [] ≡ ys ++ y ∷ [] = cc in
    ap (λ l. z ∷ l) (same_front xs ys x y rest) ∙ ap (λ v. v ∷ ys) first

pub inner_same : (tokens inner other : List Lexeme) → AreEnded inner tokens → AreEnded other tokens → inner ≡ other
inner_same tokens inner other a b = same_front inner other a.ending b.ending (sym a.parts ∙ b.parts)

pub one_read : IsOne → (tokens : List Lexeme) (a b : ExprTree) → IsReadExpression tokens a → IsReadExpression tokens b → a ≡ b
one_read one tokens a b r s =
    one a b s.inner (subst (ReadAsExpression a) (inner_same tokens r.inner s.inner r.ended s.ended) r.read) s.read

-- ---- texts

pub read_among : (text : List ℕ) (tokens : List Token) (e : ExprTree) → AreTokens Scl 0 text tokens → IsTextOf text e
    → IsReadExpression (lexemes_of text tokens) e
read_among text tokens e are h =
    subst (λ (ts : List Token). IsReadExpression (lexemes_of text ts) e) (tokens-one Scl 0 text h.tokens tokens h.cut are) h.reads

pub one_text : IsOne → (text : List ℕ) (a b : ExprTree) → IsTextOf text a → IsTextOf text b → a ≡ b
one_text one text a b r s = one_read one (lexemes_of text s.tokens) a b (read_among text s.tokens a s.cut r) s.reads
