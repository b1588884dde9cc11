-- Lists that stand in a list: parts of what is laid, and what all elements of it keep.
use Rattle.std.proofs.Common.{◌≡◌, ℕ, suc, ◌+◌, ◌<◌, ◌≤◌, ◌⊎◌, inl, inr, List, [], ◌∷◌, ◌++◌, length, slice_get, Option, Some, None, IfSome, refl, sym, subst, ap, ◌∙◌, arith}
use Rattle.std.specs.List.{AllByRecursion}
use Rattle.std.proofs.lemmas.Bool.{cases_lt}
use Rattle.pv_layout.specs.Correct.{IsLaid}

pub for_some : {X : Type 0} (P : X → Type 0) (o : Option X) → ((x : X) → o ≡ Some x → P x) → IfSome o P
for_some P None go = tt
for_some P (Some x) go = go x refl

pub some_at : {X : Type 0} (P : X → Type 0) (o : Option X) (x : X) → o ≡ Some x → IfSome o P → P x
some_at {X} P o x e h = subst (λ (o : Option X). IfSome o P) e h

-- ---- parts

pub laid_front : {X : Type 0} (whole : List X) (a : ℕ) (xs ys : List X) → IsLaid whole a (xs ++ ys) → IsLaid whole a xs
laid_front whole a [] ys h = tt
laid_front whole a (x ∷ xs) ys h = (h.0, laid_front whole (suc a) xs ys h.1)

pub laid_back : {X : Type 0} (whole : List X) (a n : ℕ) (xs ys : List X) → length xs ≡ n → IsLaid whole a (xs ++ ys)
    → IsLaid whole (a + n) ys
laid_back whole a n [] ys e h = subst (λ (m : ℕ). IsLaid whole m ys) (omega (arith, e)) h
laid_back whole a n (x ∷ xs) ys e h = subst (λ (m : ℕ). IsLaid whole m ys) (omega (arith, e))
    (laid_back whole (suc a) (length xs) xs ys refl h.1)

-- at another name of the place
pub laid_at : {X : Type 0} (whole : List X) (a b : ℕ) (xs : List X) → a ≡ b → IsLaid whole a xs → IsLaid whole b xs
laid_at whole a b xs e h = subst (λ (m : ℕ). IsLaid whole m xs) e h

-- ---- what all keep

pub all_append : {X : Type 0} (P : X → Type 0) (xs ys : List X) → AllByRecursion P xs → AllByRecursion P ys → AllByRecursion P (xs ++ ys)
all_append P [] ys a b = b
all_append P (x ∷ xs) ys a b = (a.0, all_append P xs ys a.1 b)

pub all_map : {X : Type 0} (P Q : X → Type 0) (xs : List X) → ((x : X) → P x → Q x) → AllByRecursion P xs → AllByRecursion Q xs
all_map P Q [] go h = tt
all_map P Q (x ∷ xs) go h = (go x h.0, all_map P Q xs go h.1)

-- what all keep that are laid from i on, each keeps that has a number from i on
pub each_laid : {X : Type 0} (P : X → Type 0) (whole : List X) (i : ℕ) (xs : List X) → IsLaid whole i xs → AllByRecursion P xs
    → (k : ℕ) → i ≤ k → k < i + length xs → IfSome (slice_get whole k) P
each_laid P whole i [] laid all k low high = absurd (omega (arith, low, high))
each_laid {X} P whole i (x ∷ xs) laid all k low high = by (cases_lt i k)
    (λ lt. each_laid P whole (suc i) xs laid.1 all.1 k (omega (arith, lt)) (omega (arith, high)))
  where
    by : (i < k) ⊎ (k ≤ i) → (i < k → IfSome (slice_get whole k) P) → IfSome (slice_get whole k) P
    by (inl lt) go = go lt
    by (inr le) go =
        let same : k ≡ i = omega (arith, le, low) in
        subst (λ (o : Option X). IfSome o P) (sym (ap (λ (m : ℕ). slice_get whole m) same ∙ laid.0)) all.0
