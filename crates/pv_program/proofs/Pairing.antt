-- Lists whose elements stand to one another: one pair more, as a loop goes along.
use Rattle.std.proofs.Common.{◌≡◌, ℕ, suc, ◌+◌, ◌<◌, ◌≤◌, List, [], ◌∷◌, ◌++◌, length, take, map, get_or, refl, sym, ap, ◌∙◌, subst, arith}
use Rattle.std.proofs.Math.Seq.{take-suc}
use Rattle.std.proofs.lemmas.List.{map-append, take_all}
use Rattle.pv_program.specs.Pairs.{Pairs, no_pair, pair_then}

pairs-more : {C T : Type 0} (R : C → T → Type 0) {cs : List C} {ts : List T} {c : C} {t : T} → Pairs R cs ts → R c t
    → Pairs R (cs ++ c ∷ []) (ts ++ t ∷ [])
pairs-more R no_pair r = pair_then r no_pair
pairs-more R (pair_then s rest) r = pair_then s (pairs-more R rest r)

pub pairs-map : {C T : Type 0} (R S : C → T → Type 0) {cs : List C} {ts : List T} → ((c : C) (t : T) → R c t → S c t) → Pairs R cs ts → Pairs S cs ts
pairs-map R S f no_pair = no_pair
pairs-map R S f (pair_then {c = c} {t = t} r rest) = pair_then (f c t r) (pairs-map R S f rest)

-- a list one longer, as a loop goes along it
pub one-longer : {X T : Type 0} (f : X → T) (xs : List X) (i j : ℕ) (x : X) → i < length xs → x ≡ get_or xs i x → j ≡ i + 1
    → map f (take j xs) ≡ map f (take i xs) ++ f x ∷ []
one-longer f xs i j x inside is e =
    let next : j ≡ suc i = omega (arith, e) in
    ap (λ k. map f (take k xs)) next
    ∙ ap (map f) (take-suc xs i x inside ∙ ap (λ y. take i xs ++ y ∷ []) (sym is))
    ∙ map-append f (take i xs) (x ∷ [])

pub pairs-grown : {C T X : Type 0} (R : C → T → Type 0) (f : X → T) (xs : List X) (i j : ℕ) (x : X) (cs new : List C) (c : C) → i < length xs
    → x ≡ get_or xs i x → j ≡ i + 1 → new ≡ cs ++ c ∷ [] → R c (f x) → Pairs R cs (map f (take i xs)) → Pairs R new (map f (take j xs))
pairs-grown R f xs i j x cs new c inside is e grown r ps =
    subst (λ l. Pairs R l (map f (take j xs))) (sym grown)
    (subst (λ l. Pairs R (cs ++ c ∷ []) l) (sym (one-longer f xs i j x inside is e)) (pairs-more R ps r))

-- before the loop
pub pairs-none : {C T X : Type 0} (R : C → T → Type 0) (f : X → T) (xs : List X) (cs : List C) → cs ≡ [] → Pairs R cs (map f (take 0 xs))
pairs-none R f xs cs e = subst (λ l. Pairs R l (map f (take 0 xs))) (sym e) no_pair

-- at the end of the loop, where a slice has what was gathered
pub gathered : {C T X : Type 0} (R : C → T → Type 0) (f : X → T) (items all : List X) (i : ℕ) (cs slice : List C) → length items ≤ i
    → items ≡ all → slice ≡ cs → Pairs R cs (map f (take i items)) → Pairs R slice (map f all)
gathered R f items all i cs slice end is same ps =
    subst (λ l. Pairs R l (map f all)) (sym same)
    (subst (λ l. Pairs R cs (map f l)) (take_all i items end ∙ is) ps)

pub map-same : {T : Type 0} (ts : List T) → map (λ t. t) ts ≡ ts
map-same [] = refl
map-same (t ∷ ts) = ap (λ l. t ∷ l) (map-same ts)
