-- Lists of tokens, put together as bodies of productions are.
use Rattle.std.proofs.Common.{◌≡◌, List, [], ◌∷◌, ◌++◌, ap, ◌∙◌, sym, subst}
use Rattle.std.proofs.lemmas.List.{append_assoc}
use Rattle.pv_tree.specs.Lexemes.{Lexeme}
use Rattle.pv_parse.proofs.ForCallers.{Sure, lexemes, last, parted}

-- the last name of a body, behind other tokens
pub along : (P : List Lexeme → Type 0) (all us : List Sure) (xs : List Lexeme) → all ≡ us ++ [] → P (xs ++ lexemes us) → P (xs ++ lexemes all)
along P all us xs e h = subst (λ (z : List Sure). P (xs ++ lexemes z)) (sym (last all us e)) h

-- the same behind one token
pub along_one : (P : List Lexeme → Type 0) (all us : List Sure) (t : Lexeme) → all ≡ us ++ [] → P (t ∷ lexemes us) → P (t ∷ lexemes all)
along_one P all us t e h = subst (λ (z : List Sure). P (t ∷ lexemes z)) (sym (last all us e)) h

-- two names
pub two : (ws us rest vs : List Sure) → ws ≡ us ++ rest → rest ≡ vs ++ [] → lexemes ws ≡ lexemes us ++ lexemes vs
two ws us rest vs p q = parted ws us rest p ∙ ap (λ (z : List Sure). lexemes us ++ lexemes z) (last rest vs q)

-- tokens in two parts behind others
pub regroup : (P : List Lexeme → Type 0) (xs us vs ws : List Lexeme) → ws ≡ us ++ vs → P ((xs ++ us) ++ vs) → P (xs ++ ws)
regroup P xs us vs ws e h = subst (λ (z : List Lexeme). P z) (append_assoc xs us vs ∙ ap (λ (z : List Lexeme). xs ++ z) (sym e)) h
