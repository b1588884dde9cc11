-- The tokens before the end of a text are one list, and lie in their order.
use Rattle.std.proofs.Common.{◌≡◌, ℕ, ◌+◌, ◌≤◌, List, [], ◌∷◌, ◌++◌, length, refl, ap, sym, ◌∙◌, subst, arith}
use Rattle.pv_lex.specs.declared.token.Language.{Language}
use Rattle.pv_lex.specs.declared.token.Token.{Token}
use Rattle.pv_lex.specs.Tokens.{AreTokens, LieFrom}
use Rattle.pv_lex.proofs.ForCallers.{tokens-lie}
use Rattle.pv_tree.specs.Lexemes.{Lexeme, lexemes_of}
use Rattle.pv_tree.specs.Reading.{AreEnded}
use Rattle.pv_parse.specs.InOrder.{LieInOrder}

same_front : {A : Type 0} (xs ys : List A) (x y : A) → xs ++ x ∷ [] ≡ ys ++ y ∷ [] → xs ≡ ys
same_front [] [] x y e = refl
same_front [] (z ∷ []) x y e = absurd (cc)
same_front [] (z ∷ w ∷ ys) x y e = absurd (cc)
same_front (z ∷ []) [] x y e = absurd (cc)
same_front (z ∷ w ∷ xs) [] x y e = absurd (cc)
same_front (z ∷ xs) (w ∷ ys) x y e =
    let first : z ≡ w = cc in
    let rest : xs ++ x ∷ [] ≡ ys ++ y ∷ [] = cc in
    ap (λ l. z ∷ l) (same_front xs ys x y rest) ∙ ap (λ v. v ∷ ys) first

pub inner_same : (tokens inner other : List Lexeme) → AreEnded inner tokens → AreEnded other tokens → inner ≡ other
inner_same tokens inner other a b = same_front inner other a.ending b.ending (sym a.parts ∙ b.parts)

-- ---- their order

all_in_order : (file at len : ℕ) (text : List ℕ) (tokens : List Token) (from : ℕ) → from ≤ at → LieFrom file at len tokens
    → LieInOrder from (lexemes_of text tokens)
all_in_order file at len text [] from h l = tt
all_in_order file at len text (t ∷ tokens) from h l = (
  omega (arith, h, l.1),
  all_in_order file (t.place.offset + t.len) len text tokens t.place.offset (omega arith) l.3,
)

order_front : (at : ℕ) (a b : List Lexeme) → LieInOrder at (a ++ b) → LieInOrder at a
order_front at [] b h = tt
order_front at (t ∷ a) b h = (h.0, order_front t.place.offset a b h.1)

pub in_order : (its : Language) (file : ℕ) (text : List ℕ) (tokens : List Token) (inner : List Lexeme) → AreTokens its file text tokens
    → AreEnded inner (lexemes_of text tokens) → LieInOrder 0 inner
in_order its file text tokens inner are h =
    order_front 0 inner (h.ending ∷ [])
    (subst (λ (ls : List Lexeme). LieInOrder 0 ls) h.parts (all_in_order file 0 (length text) text tokens 0 (omega arith) (tokens-lie its file text tokens are)))
