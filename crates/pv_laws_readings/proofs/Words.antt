-- The first word outside the profile is one.
use Rattle.std.proofs.Common.{◌≡◌, true, false, List, [], ◌∷◌, ◌++◌, ap, sym, ◌∙◌, subst, append-nil}
use Rattle.std.proofs.lemmas.Bool.{false≢true}
use Rattle.pv_lex.specs.declared.token.Language.{Language}
use Rattle.pv_tree.specs.Lexemes.{Lexeme}
use Rattle.pv_tree.specs.Outside.{Spot, behind, behind_all, first_spot, is_outside, NoneOutside, IsFirstOutside, IsWithin}

module _ (its : Language) where
  not_both : (spot : Spot) (t : Lexeme) (a b : List Lexeme) → a ≡ b → is_outside its spot t a ≡ false → is_outside its spot t b ≡ true → ⊥
  not_both spot t a b e none some = false≢true (sym none ∙ ap (λ z. is_outside its spot t z) e ∙ some)

  one_behind : (spot : Spot) (front other behind_one behind_other : List Lexeme) (t u : Lexeme) → front ++ t ∷ behind_one ≡ other ++ u ∷ behind_other
      → NoneOutside its spot front (t ∷ behind_one) → NoneOutside its spot other (u ∷ behind_other)
      → is_outside its (behind_all spot front) t behind_one ≡ true → is_outside its (behind_all spot other) u behind_other ≡ true → t ≡ u
  one_behind spot [] [] xs ys t u e none also out again = cc
  one_behind spot [] (y ∷ other) xs ys t u e none also out again =
      let first : y ≡ t = cc in
      let rest : other ++ u ∷ ys ≡ xs = cc in
      absurd (not_both spot t (other ++ u ∷ ys) xs rest (subst (λ z. is_outside its spot z (other ++ u ∷ ys) ≡ false) first also.0) out)
  one_behind spot (x ∷ front) [] xs ys t u e none also out again =
      let first : x ≡ u = cc in
      let rest : front ++ t ∷ xs ≡ ys = cc in
      absurd (not_both spot u (front ++ t ∷ xs) ys rest (subst (λ z. is_outside its spot z (front ++ t ∷ xs) ≡ false) first none.0) again)
  one_behind spot (x ∷ front) (y ∷ other) xs ys t u e none also out again =
      let first : y ≡ x = cc in
      let rest : front ++ t ∷ xs ≡ other ++ u ∷ ys = cc in
      one_behind (behind spot x) front other xs ys t u rest none.1
      (subst (λ z. NoneOutside its (behind spot z) other (u ∷ ys)) first also.1) out
      (subst (λ z. is_outside its (behind_all (behind spot z) other) u ys ≡ true) first again)

  pub one_word : (tokens : List Lexeme) (t u : Lexeme) → IsFirstOutside its tokens t → IsFirstOutside its tokens u → t ≡ u
  one_word tokens t u a b =
      one_behind first_spot a.before b.before a.others b.others t u (sym a.parts ∙ b.parts) a.none_before b.none_before a.outside b.outside

  none_among : (spot : Spot) (front others : List Lexeme) (t : Lexeme) → NoneOutside its spot (front ++ t ∷ others) []
      → is_outside its (behind_all spot front) t others ≡ true → ⊥
  none_among spot [] others t none out = not_both spot t (others ++ []) others (append-nil others) none.0 out
  none_among spot (x ∷ front) others t none out = none_among (behind spot x) front others t none.1 out

  pub none_within : (tokens : List Lexeme) (t : Lexeme) → IsFirstOutside its tokens t → IsWithin its tokens → ⊥
  none_within tokens t a within =
      none_among first_spot a.before a.others t (subst (λ z. NoneOutside its first_spot z []) a.parts within) a.outside
