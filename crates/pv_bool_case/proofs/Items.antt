-- Lists of one and of two, as the code takes them apart.
use Rattle.std.proofs.Common.{◌≡◌, ◌<◌, ◌≤◌, ℕ, List, [], ◌∷◌, All, length, map, get_or, string_bytes, refl, sym, ap, ◌∙◌, arith}
use Rattle.pv_case.specs.declared.case.Source.{Source}
use Rattle.pv_case.specs.Cases.{SourceData, source_data}

one_alone : {A : Type 0} (xs : List A) (x : A) → length xs ≡ 1 → x ≡ get_or xs 0 x → xs ≡ x ∷ []
one_alone [] x len is = absurd (omega (arith, len))
one_alone (y ∷ []) x len is = ap (λ z. z ∷ []) (sym is)
one_alone (y ∷ z ∷ more) x len is = absurd (omega (arith, len))

pub one_mapped : {A B : Type 0} (f : A → B) (xs : List A) (x : A) → length xs ≡ 1 → x ≡ get_or xs 0 x → map f xs ≡ f x ∷ []
one_mapped f xs x len is = ap (map f) (one_alone xs x len is)

two_alone : {A : Type 0} (xs : List A) (x y : A) → length xs ≡ 2 → x ≡ get_or xs 0 x → y ≡ get_or xs 1 y → xs ≡ x ∷ y ∷ []
two_alone [] x y len is also = absurd (omega (arith, len))
two_alone (a ∷ []) x y len is also = absurd (omega (arith, len))
two_alone (a ∷ b ∷ []) x y len is also = ap (λ z. z ∷ b ∷ []) (sym is) ∙ ap (λ z. x ∷ z ∷ []) (sym also)
two_alone (a ∷ b ∷ c ∷ more) x y len is also = absurd (omega (arith, len))

pub two_mapped : {A B : Type 0} (f : A → B) (xs : List A) (x y : A) → length xs ≡ 2 → x ≡ get_or xs 0 x → y ≡ get_or xs 1 y
    → map f xs ≡ f x ∷ f y ∷ []
two_mapped f xs x y len is also = ap (map f) (two_alone xs x y len is also)

-- ---- one source

pub source_alone : (sources : List Source) (x : Source) → length sources ≡ 1 → x ≡ get_or sources 0 x
    → (source : SourceData) × (map source_data sources ≡ source ∷ []) × (string_bytes x.file ≡ source.file)
source_alone sources x len is = (source_data x, one_mapped source_data sources x len is, refl)

-- ---- an element of a list whose elements are short

pub item_short : {X : Type 0} (f : X → List ℕ) (xs : List X) (k n : ℕ) (x : X) (s : List ℕ) → All (λ t. length (f t) ≤ n) xs → k < length xs
    → x ≡ get_or xs k x → s ≡ f x → length s ≤ n
item_short f xs k n x s all inside is same =
    let e : length s ≡ length (f (get_or xs k x)) = ap length same ∙ ap (λ y. length (f y)) is in
    omega (arith, e, all k x inside)
