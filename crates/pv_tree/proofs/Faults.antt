-- A fault of syntax stands at one token.
use Rattle.std.proofs.Common.{◌≡◌, inl, inr, ℕ, ◌+◌, ◌<◌, List, ◌++◌, take, drop, sym, ap, ◌∙◌, subst, arith, append_assoc, take-append-drop, take-take}
use Rattle.std.proofs.lemmas.Bool.{cases_lt}
use Rattle.pv_tree.specs.Lexemes.{Lexeme}
use Rattle.pv_tree.specs.Reading.{IsSyntaxFault}

-- what begins with the tokens before j begins with those up to i, which lies before j
longer : (inner more : List Lexeme) (i j : ℕ) → i < j → take j inner ++ more ≡ take (i + 1) inner ++ (drop (i + 1) (take j inner) ++ more)
longer inner more i j lt =
    ap (λ l. l ++ more) (sym (take-append-drop (i + 1) (take j inner)) ∙ ap (λ l. l ++ drop (i + 1) (take j inner))
    (take-take (i + 1) j inner (omega (arith, lt))))
    ∙ append_assoc (take (i + 1) inner) (drop (i + 1) (take j inner)) more

not_before : {Tree : Type 0} (Reads : Tree → List Lexeme → Type 0) (inner : List Lexeme) (i j : ℕ) → IsSyntaxFault Reads inner i
    → IsSyntaxFault Reads inner j
    → i < j → ⊥
not_before Reads inner i j f g lt =
    f.exact (omega (arith, lt, g.within)) g.viable.0 (drop (i + 1) (take j inner) ++ g.viable.1)
    (subst (λ l. Reads g.viable.0 l) (longer inner g.viable.1 i j lt) g.viable.2)

pub fault-one : {Tree : Type 0} (Reads : Tree → List Lexeme → Type 0) (inner : List Lexeme) (i j : ℕ) → IsSyntaxFault Reads inner i
    → IsSyntaxFault Reads inner j
    → i ≡ j
fault-one Reads inner i j f g =
    elim (cases_lt i j) [
      | inl lt ↦ absurd (not_before Reads inner i j f g lt)
      | inr le ↦ elim (cases_lt j i) [ inl lt ↦ absurd (not_before Reads inner j i g f lt) | inr more ↦ omega (arith, le, more) ]
    ]
