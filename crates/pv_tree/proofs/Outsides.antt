-- Of a list of tokens none is outside the profile, or a first one is.
use Rattle.std.proofs.Common.{◌≡◌, ◌⊎◌, inl, inr, Bool, true, false, List, [], ◌∷◌, ◌++◌, refl, sym, ap, ◌∙◌, subst, append-nil}
use Rattle.pv_lex.specs.declared.token.Language.{Language}
use Rattle.pv_tree.specs.Lexemes.{Lexeme}
use Rattle.pv_tree.specs.Outside.{Spot, first_spot, behind, behind_all, is_outside, NoneOutside, IsFirstOutside, IsWithin}

true_false : (b : Bool) → b ≡ true → b ≡ false → ⊥
true_false b t f = cc

abbrev head : Lexeme → List Lexeme → Lexeme
head t [] = t
head t (x ∷ xs) = x

abbrev tail : List Lexeme → List Lexeme
tail [] = []
tail (x ∷ xs) = xs

-- a first one from a spot on
record IsFirst (its_language : Language) (spot : Spot) (tokens : List Lexeme) (t : Lexeme) : Type 0 where
  before : List Lexeme
  others : List Lexeme
  split : tokens ≡ before ++ t ∷ others
  none_before : NoneOutside its_language spot before (t ∷ others)
  outside : is_outside its_language (behind_all spot before) t others ≡ true

further : (its_language : Language) (spot : Spot) (t : Lexeme) (others : List Lexeme) → is_outside its_language spot t others ≡ false
    → NoneOutside its_language (behind spot t) others [] ⊎ ((u : Lexeme) × IsFirst its_language (behind spot t) others u)
    → NoneOutside its_language spot (t ∷ others) [] ⊎ ((u : Lexeme) × IsFirst its_language spot (t ∷ others) u)
further its_language spot t others not_so (inl rest) = inl (ap (λ l. is_outside its_language spot t l) (append-nil others) ∙ not_so, rest)
further its_language spot t others not_so (inr found) =
    let f = found.1 in
    inr (
      found.0,
      record {
        before = t ∷ f.before;
        others = f.others;
        split = ap (λ l. t ∷ l) f.split;
        none_before = (ap (λ l. is_outside its_language spot t l) (sym f.split) ∙ not_so, f.none_before);
        outside = f.outside;
      },
    )

by_test : (its_language : Language) (spot : Spot) (t : Lexeme) (others : List Lexeme) (b : Bool) → is_outside its_language spot t others ≡ b
    → NoneOutside its_language (behind spot t) others [] ⊎ ((u : Lexeme) × IsFirst its_language (behind spot t) others u)
    → NoneOutside its_language spot (t ∷ others) [] ⊎ ((u : Lexeme) × IsFirst its_language spot (t ∷ others) u)
by_test its_language spot t others true found_so rest =
    inr (t, record { before = []; others = others; split = refl; none_before = tt; outside = found_so })
by_test its_language spot t others false not_so rest = further its_language spot t others not_so rest

either_or : (its_language : Language) (spot : Spot) (tokens : List Lexeme)
    → NoneOutside its_language spot tokens [] ⊎ ((t : Lexeme) × IsFirst its_language spot tokens t)
either_or its_language spot [] = inl tt
either_or its_language spot (t ∷ others) =
    by_test its_language spot t others (is_outside its_language spot t others) refl (either_or its_language (behind spot t) others)

not_both : (its_language : Language) (spot : Spot) (before : List Lexeme) (t : Lexeme) (others : List Lexeme)
    → NoneOutside its_language spot (before ++ t ∷ others) [] → is_outside its_language (behind_all spot before) t others ≡ true → ⊥
not_both its_language spot [] t others none found_so =
    true_false (is_outside its_language spot t others) found_so (ap (λ l. is_outside its_language spot t l) (sym (append-nil others))
    ∙ none.0)
not_both its_language spot (x ∷ before) t others none found_so = not_both its_language (behind spot x) before t others none.1 found_so

same_first : (its_language : Language) (spot : Spot) (before more : List Lexeme) (t u : Lexeme) (others rest : List Lexeme)
    → before ++ t ∷ others ≡ more ++ u ∷ rest
    → NoneOutside its_language spot before (t ∷ others) → NoneOutside its_language spot more (u ∷ rest)
    → is_outside its_language (behind_all spot before) t others ≡ true → is_outside its_language (behind_all spot more) u rest ≡ true
    → t ≡ u
same_first its_language spot [] [] t u others rest e n m found_so also = ap (head t) e
same_first its_language spot [] (y ∷ more) t u others rest e n m found_so also =
    absurd (true_false (is_outside its_language spot t others) found_so
    (ap (λ l. is_outside its_language spot t l) (ap tail e) ∙ ap (λ x. is_outside its_language spot x (more ++ u ∷ rest)) (ap (head t) e)
    ∙ m.0))
same_first its_language spot (x ∷ before) [] t u others rest e n m found_so also =
    absurd (true_false (is_outside its_language spot u rest) also
    (ap (λ l. is_outside its_language spot u l) (sym (ap tail e)) ∙ ap (λ y. is_outside its_language spot y (before ++ t ∷ others))
    (sym (ap (head u) e)) ∙ n.0))
same_first its_language spot (x ∷ before) (y ∷ more) t u others rest e n m found_so also =
    let same : x ≡ y = ap (head x) e in
    same_first its_language (behind spot x) before more t u others rest (ap tail e) n.1
    (subst (λ z. NoneOutside its_language (behind spot z) more (u ∷ rest)) (sym same) m.1)
    found_so (subst (λ z. is_outside its_language (behind_all (behind spot z) more) u rest ≡ true) (sym same) also)

first_of_source : (its_language : Language) (tokens : List Lexeme)
    → NoneOutside its_language first_spot tokens [] ⊎ ((t : Lexeme) × IsFirst its_language first_spot tokens t)
    → IsWithin its_language tokens ⊎ ((t : Lexeme) × IsFirstOutside its_language tokens t)
first_of_source its_language tokens (inl none) = inl none
first_of_source its_language tokens (inr found) =
    let f = found.1 in
    inr (found.0, record { before = f.before; others = f.others; parts = f.split; none_before = f.none_before; outside = f.outside })

pub outside-some : (its_language : Language) (tokens : List Lexeme) → IsWithin its_language tokens
    ⊎ ((t : Lexeme) × IsFirstOutside its_language tokens t)
outside-some its_language tokens = first_of_source its_language tokens (either_or its_language first_spot tokens)

pub outside-apart : (its_language : Language) (tokens : List Lexeme) (t : Lexeme) → IsWithin its_language tokens
    → IsFirstOutside its_language tokens t → ⊥
outside-apart its_language tokens t none f =
    not_both its_language first_spot f.before t f.others (subst (λ l. NoneOutside its_language first_spot l []) f.parts none) f.outside

pub outside-one : (its_language : Language) (tokens : List Lexeme) (t other : Lexeme) → IsFirstOutside its_language tokens t
    → IsFirstOutside its_language tokens other
    → t ≡ other
outside-one its_language tokens t other f g =
    same_first its_language first_spot f.before g.before t other f.others g.others
    (sym f.parts ∙ g.parts) f.none_before g.none_before f.outside g.outside
