-- Rising numbers are one list where they are the same numbers: those that a table marks, and those that a list has.
use Rattle.std.proofs.Common.{◌≡◌, inl, inr, ℕ, zero, suc, ◌+◌, ◌<◌, ◌≤◌, List, [], ◌∷◌, ◌++◌, Bool, true, false, cond, length, get_or, drop, refl, sym, ap, ◌∙◌, append_assoc, add-one, arith}
use Rattle.std.proofs.Math.Seq.{drop-cons}
use Rattle.std.specs.Prelude.{⊤, ◌||◌, nat_eq, nat_lt, if◌then◌else◌}
use Rattle.std.specs.List.{list_any}
use Rattle.std.proofs.lemmas.Bool.{true≢false, cases_eq, cases_order, eq-eqb, ne_eqb, eqb-true, ltb-true, ltb-false, or_left}
use Rattle.pv_mean.specs.AreaBytes.{with_number, rising}
use Rattle.pv_bytes.specs.Numbers.{flag_at, numbers_from}

abbrev Rises : ℕ → List ℕ → Type 0
Rises n [] = ⊤
Rises n (x ∷ xs) = (n ≤ x) × Rises (x + 1) xs

abbrev has : List ℕ → ℕ → Bool
has xs k = list_any (nat_eq k) xs

rises_from : (m n : ℕ) (xs : List ℕ) → m ≤ n → Rises n xs → Rises m xs
rises_from m n [] le r = tt
rises_from m n (x ∷ xs) le r = (omega (arith, le, r.0), r.1)

-- it has none below its first
none_below : (n k : ℕ) (xs : List ℕ) → Rises n xs → k < n → has xs k ≡ false
none_below n k [] r less = refl
none_below n k (x ∷ xs) r less =
    ap (λ b. b || has xs k) (ne_eqb k x (λ e. omega (arith, less, r.0, e))) ∙ none_below (x + 1) k xs r.1 (omega (arith, less, r.0))

-- ---- with one number more

or_swap : (a b c : Bool) → (a || (b || c)) ≡ (b || (a || c))
or_swap true true c = refl
or_swap true false c = refl
or_swap false true c = refl
or_swap false false c = refl

or_same : (a c : Bool) → (a || c) ≡ (a || (a || c))
or_same true c = refl
or_same false c = refl

has-with : (n k : ℕ) (xs : List ℕ) → has (with_number n xs) k ≡ (nat_eq k n || has xs k)
has-with n k [] = refl
has-with n k (m ∷ more) = lead (has-with n k more) (nat_lt n m) (nat_eq n m) refl
  where
    lead : has (with_number n more) k ≡ (nat_eq k n || has more k) → (less same : Bool) → nat_eq n m ≡ same
        → has (cond less (n ∷ m ∷ more) (cond same (m ∷ more) (m ∷ with_number n more))) k
        ≡ (nat_eq k n || (nat_eq k m || has more k))
    lead later true same e = refl
    lead later false true e =
        ap (λ x. nat_eq k x || has more k) (sym (eqb-true n m e)) ∙ or_same (nat_eq k n) (has more k)
        ∙ ap (λ x. nat_eq k n || (nat_eq k x || has more k)) (eqb-true n m e)
    lead later false false e = ap (λ b. nat_eq k m || b) later ∙ or_swap (nat_eq k m) (nat_eq k n) (has more k)

rises-with : (a n : ℕ) (xs : List ℕ) → a ≤ n → Rises a xs → Rises a (with_number n xs)
rises-with a n [] le r = (le, tt)
rises-with a n (m ∷ more) le r =
    lead (λ above. rises-with (m + 1) n more above r.1) (nat_lt n m) (nat_eq n m) refl refl
  where
    lead : (m + 1 ≤ n → Rises (m + 1) (with_number n more)) → (less same : Bool) → nat_lt n m ≡ less → nat_eq n m ≡ same
        → Rises a (cond less (n ∷ m ∷ more) (cond same (m ∷ more) (m ∷ with_number n more)))
    lead later true same l e = (le, (omega (arith, ltb-true n m l), r.1))
    lead later false true l e = r
    lead later false false l e = (
      r.0,
      later (elim (cases_eq n m) [
        | inl is ↦ absurd (true≢false (sym (eq-eqb n m is) ∙ e))
        | inr not ↦ omega (arith, ltb-false n m l, not)
      ]),
    )

has-rising : (xs : List ℕ) (k : ℕ) → has (rising xs) k ≡ has xs k
has-rising [] k = refl
has-rising (x ∷ xs) k = has-with x k (rising xs) ∙ ap (λ b. nat_eq k x || b) (has-rising xs k)

rises-rising : (xs : List ℕ) → Rises 0 (rising xs)
rises-rising [] = tt
rises-rising (x ∷ xs) = rises-with 0 x (rising xs) (omega arith) (rises-rising xs)

-- ---- marked numbers

rises-numbers : (n : ℕ) (flags : List Bool) → Rises n (numbers_from n flags)
rises-numbers n [] = tt
rises-numbers n (true ∷ more) = (omega arith, rises-numbers (n + 1) more)
rises-numbers n (false ∷ more) = rises_from n (n + 1) (numbers_from (n + 1) more) (omega arith) (rises-numbers (n + 1) more)

has-numbers : (n j : ℕ) (flags : List Bool) → has (numbers_from n flags) (n + j) ≡ flag_at flags j
has-numbers n j [] = refl
has-numbers n zero (true ∷ more) = or_left (nat_eq (n + zero) n) (has (numbers_from (n + 1) more) (n + zero))
    (eq-eqb (n + zero) n (omega arith))
has-numbers n zero (false ∷ more) = none_below (n + 1) (n + zero) (numbers_from (n + 1) more) (rises-numbers (n + 1) more) (omega arith)
has-numbers n (suc j) (true ∷ more) =
    let e : n + suc j ≡ (n + 1) + j = omega arith in
    ap (λ b. b || has (numbers_from (n + 1) more) (n + suc j)) (ne_eqb (n + suc j) n (λ is. omega (arith, is)))
    ∙ ap (has (numbers_from (n + 1) more)) e ∙ has-numbers (n + 1) j more
has-numbers n (suc j) (false ∷ more) =
    let e : n + suc j ≡ (n + 1) + j = omega arith in ap (has (numbers_from (n + 1) more)) e ∙ has-numbers (n + 1) j more

-- ---- one list

-- the first of two lists isn't below the other's
not_below : (x y : ℕ) (xs ys : List ℕ) → Rises (y + 1) ys → has (x ∷ xs) x ≡ has (y ∷ ys) x → y ≤ x
not_below x y xs ys r same = elim (cases_order x y) [
  | inl is ↦ omega (arith, is)
  | inr apart ↦ elim apart [
    | inl less ↦ absurd (true≢false (sym (ap (λ b. b || has xs x) (eq-eqb x x refl)) ∙ same
        ∙ ap (λ b. b || has ys x) (ne_eqb x y (λ e. omega (arith, less, e))) ∙ none_below (y + 1) x ys r (omega (arith, less))))
    | inr more ↦ omega (arith, more)
  ]
]

behind : (x : ℕ) (xs ys : List ℕ) → Rises (x + 1) xs → Rises (x + 1) ys
    → ((k : ℕ) → has (x ∷ xs) k ≡ has (x ∷ ys) k) → (k : ℕ) → has xs k ≡ has ys k
behind x xs ys r s same k = elim (cases_eq k x) [
  | inl is ↦ none_below (x + 1) k xs r (omega (arith, is)) ∙ sym (none_below (x + 1) k ys s (omega (arith, is)))
  | inr not ↦ sym (ap (λ b. b || has xs k) (ne_eqb k x not)) ∙ same k ∙ ap (λ b. b || has ys k) (ne_eqb k x not)
]

one_list : (n : ℕ) (xs ys : List ℕ) → Rises n xs → Rises n ys → ((k : ℕ) → has xs k ≡ has ys k) → xs ≡ ys
one_list n [] [] r s same = refl
one_list n [] (y ∷ ys) r s same = absurd (true≢false (sym (ap (λ b. b || has ys y) (eq-eqb y y refl)) ∙ sym (same y)))
one_list n (x ∷ xs) [] r s same = absurd (true≢false (sym (ap (λ b. b || has xs x) (eq-eqb x x refl)) ∙ same x))
one_list n (x ∷ xs) (y ∷ ys) r s same =
    let le = not_below x y xs ys s.1 (same x) in
    let ge = not_below y x ys xs r.1 (sym (same y)) in
    let e : x ≡ y = omega (arith, le, ge) in
    let s' : Rises (x + 1) ys = rises_from (x + 1) (y + 1) ys (omega (arith, e)) s.1 in
    let same' : (k : ℕ) → has (x ∷ xs) k ≡ has (x ∷ ys) k = λ k. same k ∙ ap (λ z. nat_eq k z || has ys k) (sym e) in
    ap (λ l. x ∷ l) (one_list (x + 1) xs ys r.1 s' (behind x xs ys r.1 s' same')) ∙ ap (λ z. z ∷ ys) e

-- the marked numbers, where a table marks what a list has
pub marked_rising : (flags : List Bool) (xs : List ℕ) → ((k : ℕ) → flag_at flags k ≡ list_any (nat_eq k) xs)
    → numbers_from 0 flags ≡ rising xs
marked_rising flags xs same =
    one_list 0 (numbers_from 0 flags) (rising xs) (rises-numbers 0 flags) (rises-rising xs)
    (λ k. (let e : k ≡ 0 + k = omega arith in ap (has (numbers_from 0 flags)) e) ∙ has-numbers 0 k flags ∙ same k ∙ sym (has-rising xs k))

-- ---- reading the marks off, one more

pub next_number : (flags : List Bool) (i : ℕ) (flag : Bool) (a b total : List ℕ) (n : ℕ) → i < length flags → flag ≡ get_or flags i flag
    → b ≡ a ++ (if flag then n ∷ [] else [])
    → a ++ numbers_from n (drop i flags) ≡ total → b ++ numbers_from (n + 1) (drop (i + 1) flags) ≡ total
next_number flags i flag a b total n inside is grown left =
    ap (λ l. l ++ numbers_from (n + 1) (drop (i + 1) flags)) grown
    ∙ append_assoc a (if flag then n ∷ [] else []) (numbers_from (n + 1) (drop (i + 1) flags))
    ∙ ap (λ l. a ++ l) (lead flag) ∙ ap (λ l. a ++ numbers_from n l) (sym split) ∙ left
  where
    split : drop i flags ≡ flag ∷ drop (i + 1) flags
    split = drop-cons flags i flag inside ∙ ap (λ y. y ∷ drop (suc i) flags) (sym is) ∙ ap (λ m. flag ∷ drop m flags) (sym (add-one i))

    lead : (t : Bool) → (if t then n ∷ [] else []) ++ numbers_from (n + 1) (drop (i + 1) flags) ≡ numbers_from n (t ∷ drop (i + 1) flags)
    lead true = refl
    lead false = refl
