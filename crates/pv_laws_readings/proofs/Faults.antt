-- A fault of syntax stands at one token.
use Rattle.std.proofs.Common.{◌≡◌, inl, inr, ℕ, ◌+◌, ◌<◌, List, ◌++◌, take, drop, ap, sym, ◌∙◌, subst, arith}
use Rattle.std.specs.List.{slice_get}
use Rattle.std.proofs.lemmas.List.{take-append-drop, take-take, append_assoc}
use Rattle.std.proofs.lemmas.Bool.{cases_lt}
use Rattle.std.proofs.lemmas.Option.{same_Some}
use Rattle.std.proofs.Math.Nat.{le_antisymm}
use Rattle.pv_place.specs.declared.place.Place.{Place}
use Rattle.pv_lex.specs.declared.token.Language.{Language}
use Rattle.pv_tree.specs.Lexemes.{Lexeme}
use Rattle.pv_tree.specs.Reading.{IsSyntaxFault, IsSyntaxFaultAt}
use Rattle.pv_laws_readings.proofs.Ends.{inner_same}

module _ {Tree : Type 0} (its : Language) (Reads : Tree → List Lexeme → Type 0) where
  -- a longer list with which some tree reads has the shorter in front
  none_before : (inner : List Lexeme) (i j : ℕ) → i < j → IsSyntaxFault Reads inner i → IsSyntaxFault Reads inner j → ⊥
  none_before inner i j less a b =
      let long = b.within in
      let front : take (i + 1) inner ++ drop (i + 1) (take j inner) ≡ take j inner =
      ap (λ z. z ++ drop (i + 1) (take j inner)) (sym (take-take (i + 1) j inner (omega (arith, less)))) ∙ take-append-drop (i + 1) (take j inner) in
      let whole : take j inner ++ b.viable.1 ≡ take (i + 1) inner ++ (drop (i + 1) (take j inner) ++ b.viable.1) =
      ap (λ z. z ++ b.viable.1) (sym front) ∙ append_assoc (take (i + 1) inner) (drop (i + 1) (take j inner)) b.viable.1 in
      a.exact (omega (arith, less, long)) b.viable.0 (drop (i + 1) (take j inner) ++ b.viable.1)
      (subst (λ z. Reads b.viable.0 z) whole b.viable.2)

  one_at : (inner : List Lexeme) (i j : ℕ) → IsSyntaxFault Reads inner i → IsSyntaxFault Reads inner j → i ≡ j
  one_at inner i j a b = elim (cases_lt i j) [
    | inl less ↦ absurd (none_before inner i j less a b)
    | inr ge ↦ elim (cases_lt j i) [
      | inl less ↦ absurd (none_before inner j i less b a)
      | inr le ↦ le_antisymm le ge
    ]
  ]

  pub one_fault : (tokens : List Lexeme) (at other : Place) → IsSyntaxFaultAt Reads its tokens at → IsSyntaxFaultAt Reads its tokens other → at ≡ other
  one_fault tokens at other a b =
      let inner = inner_same tokens a.inner b.inner a.ended b.ended in
      let same : a.at ≡ b.at = one_at b.inner a.at b.at (subst (λ z. IsSyntaxFault Reads z a.at) inner a.fault) b.fault in
      let token : a.token ≡ b.token = same_Some a.token b.token (sym a.stands ∙ ap (λ z. slice_get tokens z) same ∙ b.stands) in
      a.placed ∙ ap (λ z. z.place) token ∙ sym b.placed
