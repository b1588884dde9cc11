-- Words between blanks.
use Rattle.std.proofs.Common.{◌≡◌, ℕ, zero, suc, ◌+◌, ◌%◌, ◌^◌, ◌<◌, List, [], ◌∷◌, ◌++◌, length, get_or, drop, refl, ap, subst, ◌∙◌, sym, arith}
use Rattle.std.specs.Fmt.{decimal}
use Rattle.std.proofs.lemmas.Fmt.{decimal_by_steps}
use Rattle.pv_claims.specs.Words.{NoBlank, EndsWord}
use Rattle.pv_claims.proofs.LineLaws.{all-append, head, tail}

ends-head : (us : List ℕ) (y : ℕ) (zs : List ℕ) → EndsWord us → us ≡ y ∷ zs → y ≡ 32
ends-head [] y zs h e = absurd cc
ends-head (u ∷ us) y zs h e = sym (head u y us zs e) ∙ h

-- a text begins with one word
pub cut-word : (xs ys us vs : List ℕ) → NoBlank xs → NoBlank ys → EndsWord us → EndsWord vs → xs ++ us ≡ ys ++ vs → (xs ≡ ys) × (us ≡ vs)
cut-word [] [] us vs a b p q e = (refl, e)
cut-word [] (y ∷ ys) us vs a b p q e = absurd (b.0 (ends-head us y (ys ++ vs) p e))
cut-word (x ∷ xs) [] us vs a b p q e = absurd (a.0 (ends-head vs x (xs ++ us) q (sym e)))
cut-word (x ∷ xs) (y ∷ ys) us vs a b p q e =
    let rest = cut-word xs ys us vs a.1 b.1 p q (tail x y (xs ++ us) (ys ++ vs) e) in
    let same : x ≡ y = head x y (xs ++ us) (ys ++ vs) e in
    (ap (λ z. z ∷ xs) same ∙ ap (λ zs. y ∷ zs) rest.0, rest.1)

pub blankless-decimal : (n : ℕ) → n < 2 ^ 64 → NoBlank (decimal n)
blankless-decimal n h =
    decimal_by_steps (λ _ ds. NoBlank ds) (λ n small. (λ e. omega arith, tt))
    (λ n ds large rest. all-append (λ byte. byte ≡ 32 → ⊥) ds ((48 + n % 10) ∷ []) rest (λ e. omega arith, tt)) n h

pub ends-at : (at : ℕ) (text back : List ℕ) → at < length text → get_or text at 0 ≡ 32 → back ≡ drop at text → EndsWord back
ends-at at text back lt e is = subst EndsWord (sym is) (there at text lt e)
  where
    there : (at : ℕ) (text : List ℕ) → at < length text → get_or text at 0 ≡ 32 → EndsWord (drop at text)
    there at [] lt e = absurd (omega arith)
    there zero (x ∷ xs) lt e = e
    there (suc at) (x ∷ xs) lt e = there at xs (omega arith) e
