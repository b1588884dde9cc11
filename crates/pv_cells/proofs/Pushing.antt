-- Lists that grow along others, one element more: what is put behind the list for an element, and what is left for those behind it.
use Rattle.std.proofs.Common.{◌≡◌, ℕ, zero, suc, ◌+◌, ◌<◌, ◌≤◌, List, [], ◌∷◌, ◌++◌, drop, take, get_or, length, refl, sym, ap, ◌∙◌, append_assoc, arith}
use Rattle.std.proofs.Math.Seq.{drop-cons, take-suc}
use Rattle.std.proofs.lemmas.List.{drop_all, append-nil, length-append}

pub dropped : {X : Type 0} (xs : List X) (i j : ℕ) (x : X) → i < length xs → x ≡ get_or xs i x → j ≡ i + 1 → drop i xs ≡ x ∷ drop j xs
dropped xs i j x inside is next =
    let k : suc i ≡ j = omega (arith, next) in
    drop-cons xs i x inside ∙ ap (λ y. y ∷ drop (suc i) xs) (sym is) ∙ ap (λ n. x ∷ drop n xs) k

pub taken : {X : Type 0} (xs : List X) (i j : ℕ) (x : X) → i < length xs → x ≡ get_or xs i x → j ≡ i + 1 → take j xs ≡ take i xs ++ x ∷ []
taken xs i j x inside is next =
    let k : j ≡ suc i = omega (arith, next) in
    ap (λ n. take n xs) k ∙ take-suc xs i x inside ∙ ap (λ y. take i xs ++ y ∷ []) (sym is)

-- a number that is read in the list
pub read_same : {X : Type 0} (xs : List X) (i : ℕ) (d e : X) → i < length xs → get_or xs i d ≡ get_or xs i e
read_same [] i d e inside = absurd (omega (arith, inside))
read_same (x ∷ xs) zero d e inside = refl
read_same (x ∷ xs) (suc i) d e inside = read_same xs i d e (omega (arith, inside))

-- G is what is put behind the list for elements, y what is put there for the first of them
module _ {X Y : Type 0} (xs : List X) (i j : ℕ) (x : X) (G : List X → List Y) (y : List Y) (first : (rest : List X) → G (x ∷ rest) ≡ y ++ G rest)
    (inside : i < length xs) (is : x ≡ get_or xs i x) (next : j ≡ i + 1) where
  pub next_left : (a b total : List Y) → b ≡ a ++ y → a ++ G (drop i xs) ≡ total → b ++ G (drop j xs) ≡ total
  next_left a b total grown left =
      ap (λ l. l ++ G (drop j xs)) grown ∙ append_assoc a y (G (drop j xs)) ∙ ap (λ l. a ++ l) (sym (first (drop j xs)))
      ∙ ap (λ l. a ++ G l) (sym (dropped xs i j x inside is next)) ∙ left

  -- what is left for them is no more than it was
  few_left : (m : ℕ) → length (G (drop i xs)) ≤ m → (length y ≤ m) × (length (G (drop j xs)) ≤ m)
  few_left m few =
      let e : length (G (drop i xs)) ≡ length y + length (G (drop j xs)) =
      ap (λ l. length (G l)) (dropped xs i j x inside is next) ∙ ap length (first (drop j xs)) ∙ length-append y (G (drop j xs)) in
      (omega (arith, few, e), omega (arith, few, e))

  pub few_now : (m : ℕ) → length (G (drop i xs)) ≤ m → length y ≤ m
  few_now m few = (few_left m few).0

  pub few_later : (m : ℕ) → length (G (drop i xs)) ≤ m → length (G (drop j xs)) ≤ m
  few_later m few = (few_left m few).1

-- nothing is left
pub none_left : {X Y : Type 0} (xs : List X) (i : ℕ) (G : List X → List Y) (a total : List Y) → G [] ≡ [] → length xs ≤ i
    → a ++ G (drop i xs) ≡ total → a ≡ total
none_left xs i G a total none past left =
    sym (append-nil a) ∙ ap (λ l. a ++ l) (sym none) ∙ ap (λ l. a ++ G l) (sym (drop_all i xs past)) ∙ left
