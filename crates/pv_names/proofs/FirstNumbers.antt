-- The first number of a name in a list: what one element more changes, and which element it is.
use Rattle.std.proofs.Common.{◌≡◌, ◌<◌, ◌≤◌, ◌+◌, ℕ, suc, refl, sym, ap, ◌∙◌, List, [], ◌∷◌, ◌++◌, Option, Some, None, Bool, true, false, length, take, get_or, map, option_map, slice_get, cond, bytes_eq, if◌then◌else◌, arith, is_some, IfSome, nat_lt}
use Rattle.std.proofs.Math.Seq.{take-suc}
use Rattle.std.proofs.lemmas.List.{map-append, length-map, length-take-le}
use Rattle.std.proofs.lemmas.Option.{slice_get-get_or, slice_get_past}
use Rattle.std.proofs.lemmas.Bool.{ltb-true, ltb-false}
use Rattle.std.specs.Prelude.{option_and_then, find}
use Rattle.pv_names.specs.Firsts.{or_number, first_number}

later : (o : Option ℕ) (b : Bool) (n : ℕ) → option_map (λ n. suc n) (or_number o b n) ≡ or_number (option_map (λ n. suc n) o) b (suc n)
later (Some i) b n = refl
later None true n = refl
later None false n = refl

-- an element more
pub one_more : {X : Type 0} (p : X → Bool) (xs : List X) (x : X)
    → first_number p (xs ++ x ∷ []) ≡ or_number (first_number p xs) (p x) (length xs)
one_more p [] x = elim (p x) as (λ b. (if b then Some 0 else None) ≡ or_number None b 0) [ true ↦ refl | false ↦ refl ]
one_more p (y ∷ ys) x =
    elim (p y) as (λ b. (if b then Some 0 else option_map (λ n. suc n) (first_number p (ys ++ x ∷ [])))
    ≡ or_number (if b then Some 0 else option_map (λ n. suc n) (first_number p ys)) (p x) (suc (length ys))) [
      | true ↦ refl
      | false ↦ ap (option_map (λ n. suc n)) (one_more p ys x) ∙ later (first_number p ys) (p x) (length ys)
    ]

-- a list one longer, as a loop goes along it
pub grown_by : {X Y : Type 0} (p : Y → Bool) (f : X → Y) (xs : List X) (i j : ℕ) (x : X) → i < length xs → x ≡ get_or xs i x → j ≡ i + 1
    → first_number p (map f (take j xs)) ≡ or_number (first_number p (map f (take i xs))) (p (f x)) i
grown_by p f xs i j x inside is e =
    let below : i ≤ length xs = omega (arith, inside) in
    let next : j ≡ suc i = omega (arith, e) in
    ap (λ l. first_number p (map f l)) (ap (λ n. take n xs) next ∙ take-suc xs i x inside ∙ ap (λ y. take i xs ++ y ∷ []) (sym is))
    ∙ ap (first_number p) (map-append f (take i xs) (x ∷ []))
    ∙ one_more p (map f (take i xs)) (f x)
    ∙ ap (or_number (first_number p (map f (take i xs))) (p (f x))) (length-map (take i xs) f ∙ length-take-le i xs below)

pub grown : {X : Type 0} (f : X → List ℕ) (q : List ℕ) (xs : List X) (i j : ℕ) (x : X) → i < length xs → x ≡ get_or xs i x → j ≡ i + 1
    → first_number (bytes_eq q) (map f (take j xs))
    ≡ or_number (first_number (bytes_eq q) (map f (take i xs))) (bytes_eq q (f x)) i
grown f q xs i j x inside is e = grown_by (bytes_eq q) f xs i j x inside is e

moved : {X : Type 0} (x : X) (xs : List X) (o : Option ℕ)
    → option_and_then (slice_get (x ∷ xs)) (option_map (λ n. suc n) o) ≡ option_and_then (slice_get xs) o
moved x xs None = refl
moved x xs (Some n) = refl

-- the element of that number is the first that passes
pub element : {X Y : Type 0} (f : X → Y) (k : X → List ℕ) (g : Y → List ℕ) (key : List ℕ) → ((x : X) → g (f x) ≡ k x)
    → (xs : List X)
    → option_map f (option_and_then (slice_get xs) (first_number (bytes_eq key) (map k xs)))
    ≡ find (λ y. bytes_eq key (g y)) (map f xs)
element f k g key same [] = refl
element f k g key same (x ∷ xs) =
    ap (λ l. option_map f (option_and_then (slice_get (x ∷ xs)) (if bytes_eq key l then Some 0 else option_map (λ n. suc n)
    (first_number (bytes_eq key) (map k xs))))) (sym (same x))
    ∙ (elim (bytes_eq key (g (f x))) as (λ b. option_map f (option_and_then (slice_get (x ∷ xs)) (if b then Some 0 else option_map (λ n. suc n)
    (first_number (bytes_eq key) (map k xs)))) ≡ cond b (Some (f x)) (find (λ y. bytes_eq key (g y)) (map f xs))) [
      | true ↦ refl
      | false ↦ ap (option_map f) (moved x xs (first_number (bytes_eq key) (map k xs))) ∙ element f k g key same xs
    ])

element_by : {X Y : Type 0} (p : Y → Bool) (f : X → Y) (xs : List X)
    → option_map f (option_and_then (slice_get xs) (first_number p (map f xs))) ≡ find p (map f xs)
element_by p f [] = refl
element_by p f (x ∷ xs) =
    elim (p (f x)) as (λ b. option_map f (option_and_then (slice_get (x ∷ xs)) (if b then Some 0 else option_map (λ n. suc n)
    (first_number p (map f xs)))) ≡ cond b (Some (f x)) (find p (map f xs))) [
      | true ↦ refl
      | false ↦ ap (option_map f) (moved x xs (first_number p (map f xs))) ∙ element_by p f xs
    ]

-- the same, where nothing is looked for when a test says so
pub element_unless : {X Y : Type 0} (p : Y → Bool) (f : X → Y) (xs : List X) (b : Bool)
    → option_map f (option_and_then (slice_get xs) (if b then None else first_number p (map f xs)))
    ≡ (if b then None else find p (map f xs))
element_unless p f xs true = refl
element_unless p f xs false = element_by p f xs

-- what a slice gives at the number that was found
at_number : {X B : Type 0} (now : B → X) (xs : List X) (n : ℕ) (r : Option B) → is_some r ≡ nat_lt n (length xs)
    → IfSome r (λ b. now b ≡ get_or xs n (now b)) → option_map now r ≡ slice_get xs n
at_number now xs n None e h = sym (slice_get_past xs n (ltb-false n (length xs) (sym e)))
at_number now xs n (Some b) e h = ap Some h ∙ sym (slice_get-get_or xs n (now b) (ltb-true n (length xs) (sym e)))

seen_through : {X Y B : Type 0} (f : X → Y) (now : B → X) (r : Option B) → option_map (λ b. f (now b)) r ≡ option_map f (option_map now r)
seen_through f now None = refl
seen_through f now (Some b) = refl

pub found_at : {X Y B : Type 0} (f : X → Y) (now : B → X) (xs : List X) (n : ℕ) (o : Option ℕ) (r : Option B) → Some n ≡ o
    → is_some r ≡ nat_lt n (length xs) → IfSome r (λ b. now b ≡ get_or xs n (now b))
    → option_map (λ b. f (now b)) r ≡ option_map f (option_and_then (slice_get xs) o)
found_at f now xs n o r is e h =
    seen_through f now r ∙ ap (option_map f) (at_number now xs n r e h ∙ ap (option_and_then (slice_get xs)) is)

pub found_none : {X Y : Type 0} (f : X → Y) (xs : List X) (o : Option ℕ) → None ≡ o → None ≡ option_map f (option_and_then (slice_get xs) o)
found_none f xs o is = ap (λ o. option_map f (option_and_then (slice_get xs) o)) is
