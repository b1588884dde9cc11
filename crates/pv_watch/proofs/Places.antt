-- What the fields of a trail keep. Each literal's place is that in the list, so a prefix is asked by one comparison.
use Rattle.std.proofs.Common.{◌≡◌, ℕ, zero, suc, ◌+◌, ◌*◌, ◌<◌, ◌≤◌, Bool, true, false, cond, ◌||◌, eqb, ltb, List, [], ◌∷◌, ◌++◌, length, get_or, set, take, replicate, refl, sym, ap, subst, ◌∙◌, inl, inr, arith}
use Rattle.std.specs.List.{AllByRecursion}
use Rattle.std.proofs.lemmas.Bool.{eq-eqb, ne_eqb, lt-ltb, le-ltb, cases_eq, cases_Bool, or_parts, or_left}
use Rattle.std.proofs.lemmas.List.{length-set, length_push, get_or-set_same, get_or-set_other, length-replicate}
use Rattle.pv_cnf.specs.Literal.{complement, is_outside}
use Rattle.pv_log.specs.Propagation.{is_false}
use Rattle.pv_log.proofs.ForCallers.{double-push, double-front, alone-last, outside-push, outside-front, outside-last, inside-bounds, length-le-variables}
use Rattle.pv_watch.specs.Trail.{place_from, no_place, Rise, Agree}

-- ---- places

-- no place is before the first
place-from : (none k j : ℕ) (xs : List ℕ) (lit : ℕ) → j ≤ k → j ≤ none → j ≤ place_from none k xs lit
place-from none k j [] lit le le_none = le_none
place-from none k j (x ∷ xs) lit le le_none =
    elim (cases_Bool (eqb lit x)) [
      | inl here ↦ subst (λ (b : Bool). j ≤ cond b k (place_from none (k + 1) xs lit)) (sym here) le
      | inr not_here ↦ subst (λ (b : Bool). j ≤ cond b k (place_from none (k + 1) xs lit)) (sym not_here)
          (place-from none (k + 1) j xs lit (omega arith) le_none)
    ]

pub place-below : (none k : ℕ) (xs : List ℕ) (lit s : ℕ) → k + length xs ≤ none → s ≤ length xs
    → ltb (place_from none k xs lit) (k + s) ≡ is_false (take s xs) lit
place-below none k [] lit zero fits le = le-ltb none (k + 0) (omega arith)
place-below none k [] lit (suc s) fits le = absurd (omega arith)
place-below none k (x ∷ xs) lit zero fits le = le-ltb (place_from none k (x ∷ xs) lit) (k + 0)
    (omega (arith, place-from none k k (x ∷ xs) lit (omega arith) (omega arith)))
place-below none k (x ∷ xs) lit (suc s) fits le =
    elim (cases_Bool (eqb lit x)) [
      | inl here ↦ ap (λ (b : Bool). ltb (cond b k (place_from none (k + 1) xs lit)) (k + suc s)) here ∙ lt-ltb k (k + suc s) (omega arith)
          ∙ sym (or_left (eqb lit x) (is_false (take s xs) lit) here)
      | inr not_here ↦ ap (λ (b : Bool). ltb (cond b k (place_from none (k + 1) xs lit)) (k + suc s)) not_here
          ∙ ap (ltb (place_from none (k + 1) xs lit)) (omega arith)
          ∙ place-below none (k + 1) xs lit s (omega arith) (omega arith)
          ∙ sym (ap (λ (b : Bool). b || is_false (take s xs) lit) not_here)
    ]

pub place-push : (none k : ℕ) (xs : List ℕ) (x lit : ℕ) → place_from none k (xs ++ x ∷ []) lit ≡ cond (is_false xs lit)
    (place_from none k xs lit) (cond (eqb lit x) (k + length xs) none)
place-push none k [] x lit = ap (λ (n : ℕ). cond (eqb lit x) n none) (omega arith)
place-push none k (y ∷ ys) x lit =
    elim (cases_Bool (eqb lit y)) [
      | inl here ↦ ap (λ (b : Bool). cond b k (place_from none (k + 1) (ys ++ x ∷ []) lit)) here
          ∙ sym (ap (λ (b : Bool). cond (b || is_false ys lit) (cond b k (place_from none (k + 1) ys lit))
          (cond (eqb lit x) (k + suc (length ys)) none)) here)
      | inr not_here ↦ ap (λ (b : Bool). cond b k (place_from none (k + 1) (ys ++ x ∷ []) lit)) not_here
          ∙ place-push none (k + 1) ys x lit
          ∙ ap (λ (n : ℕ). cond (is_false ys lit) (place_from none (k + 1) ys lit) (cond (eqb lit x) n none)) (omega arith)
          ∙ sym (ap (λ (b : Bool). cond (b || is_false ys lit) (cond b k (place_from none (k + 1) ys lit))
          (cond (eqb lit x) (k + suc (length ys)) none)) not_here)
    ]

pub place-none : (none k : ℕ) (xs : List ℕ) (lit : ℕ) → is_false xs lit ≡ false → place_from none k xs lit ≡ none
place-none none k [] lit e = refl
place-none none k (x ∷ xs) lit e =
    let parts = or_parts (eqb lit x) (is_false xs lit) e in
    ap (λ (b : Bool). cond b k (place_from none (k + 1) xs lit)) parts.0 ∙ place-none none (k + 1) xs lit parts.1

-- ---- decisions

all-weaker : (xs : List ℕ) (m n : ℕ) → m ≤ n → Rise xs m → Rise xs n
all-weaker [] m n le r = tt
all-weaker (x ∷ xs) m n le r = (r.0, omega (arith, r.1), all-weaker xs m n le r.2)

pub Rise-wider : (xs : List ℕ) (m n : ℕ) → m ≤ n → Rise xs m → Rise xs n
Rise-wider xs m n le r = all-weaker xs m n le r

below-push : (s : ℕ) (xs : List ℕ) (y : ℕ) → AllByRecursion (λ (t : ℕ). s < t) xs → s < y → AllByRecursion (λ (t : ℕ). s < t) (xs ++ y ∷ [])
below-push s [] y a lt = (lt, tt)
below-push s (x ∷ xs) y a lt = (a.0, below-push s xs y a.1 lt)

pub Rise-push : (xs : List ℕ) (m n : ℕ) → Rise xs m → m < n → Rise (xs ++ m ∷ []) n
Rise-push [] m n r lt = (tt, lt, tt)
Rise-push (x ∷ xs) m n r lt = (below-push x xs m r.0 r.1, omega (arith, r.1), Rise-push xs m n r.2 lt)

below-front : (s : ℕ) (xs : List ℕ) (y : ℕ) → AllByRecursion (λ (t : ℕ). s < t) (xs ++ y ∷ [])
    → AllByRecursion (λ (t : ℕ). s < t) xs × (s < y)
below-front s [] y a = (tt, a.0)
below-front s (x ∷ xs) y a = (let rest = below-front s xs y a.1 in ((a.0, rest.0), rest.1))

pub Rise-front : (xs : List ℕ) (y n : ℕ) → Rise (xs ++ y ∷ []) n → Rise xs y × (y < n)
Rise-front [] y n r = (tt, r.1)
Rise-front (x ∷ xs) y n r =
    let rest = Rise-front xs y n r.2 in
    let b = below-front x xs y r.0 in
    ((b.0, b.1, rest.0), rest.1)

-- ---- one more literal, and one fewer

-- a literal of one of the variables that has no value
pub record Unset (v : ℕ) (falses : List ℕ) (lit : ℕ) : Type 0 where
  pub inside : is_outside v lit ≡ false
  pub not_false : is_false falses lit ≡ false
  pub not_true : is_false falses (complement lit) ≡ false

or-false : (b : Bool) → (b || false) ≡ b
or-false true = refl
or-false false = refl

kept-of : (falses : List ℕ) (l : ℕ) (b : Bool) → is_false falses l ≡ b
    → cond b (place_from no_place 0 falses l) no_place ≡ place_from no_place 0 falses l
kept-of falses l true e = refl
kept-of falses l false e = sym (place-none no_place 0 falses l e)

kept : (falses : List ℕ) (l lit n : ℕ) → eqb l lit ≡ false → cond (is_false falses l) (place_from no_place 0 falses l)
    (cond (eqb l lit) n no_place) ≡ place_from no_place 0 falses l
kept falses l lit n e = ap (λ (c : Bool). cond (is_false falses l) (place_from no_place 0 falses l) (cond c n no_place)) e
    ∙ kept-of falses l (is_false falses l) refl

module _ (v : ℕ) (places falses reasons starts : List ℕ) (a : Agree v places falses reasons starts) where
  pub few : length falses ≤ v
  few = length-le-variables v falses a.inside a.distinct

  pub asks : (lit s : ℕ) → s ≤ length falses → ltb (get_or places lit no_place) s ≡ is_false (take s falses) lit
  asks lit s le =
      ap (λ (p : ℕ). ltb p s) (a.placed lit)
      ∙ (let z : s ≡ 0 + s = omega arith in ap (ltb (place_from no_place 0 falses lit)) z)
      ∙ place-below no_place 0 falses lit s (omega (arith, few, a.small)) le

  module _ (lit : ℕ) (u : Unset v falses lit) where
    pub room : length falses < v
    room =
        let longer = length-le-variables v (falses ++ lit ∷ []) (outside-push v falses lit a.inside u.inside)
        (double-push falses lit a.distinct u.not_false u.not_true) in
        omega (arith, length_push falses lit)

    pub there : lit < 2 * v + 2
    there = (let b = inside-bounds v lit u.inside in omega arith)

    pub Agree-push : (reason : ℕ) (next : List ℕ) → Rise next (length falses + 1)
        → Agree v (set places lit (length falses)) (falses ++ lit ∷ []) (set reasons (length falses) reason) next
    Agree-push reason next rise =
        let lt : lit < length places = omega (arith, a.size, there) in
        record {
          size = length-set places lit (length falses) ∙ a.size;
          small = a.small;
          placed = λ l. elim (cases_eq l lit) [
            | inl e ↦ subst (λ (m : ℕ). get_or (set places lit (length falses)) m no_place ≡ place_from no_place 0 (falses ++ lit ∷ []) m)
                (sym e)
                (get_or-set_same places lit (length falses) no_place lt
                ∙ (let z : length falses ≡ 0 + length falses = omega arith in z)
                ∙ sym (place-push no_place 0 falses lit lit
                ∙ ap (λ (b : Bool). cond b (place_from no_place 0 falses lit) (cond (eqb lit lit) (0 + length falses) no_place)) u.not_false
                ∙ ap (λ (b : Bool). cond b (0 + length falses) no_place) (eq-eqb lit lit refl)))
            | inr ne ↦ get_or-set_other places lit l (length falses) no_place ne ∙ a.placed l ∙ sym (place-push no_place 0 falses lit l
                ∙ kept falses l lit (0 + length falses) (ne_eqb l lit ne))
          ];
          inside = outside-push v falses lit a.inside u.inside;
          distinct = double-push falses lit a.distinct u.not_false u.not_true;
          reasons_size = length-set reasons (length falses) reason ∙ a.reasons_size;
          rise = subst (λ (n : ℕ). Rise next n) (sym (length_push falses lit)) rise;
        }

pub Agree-pop : (v : ℕ) (places falses reasons starts : List ℕ) (lit : ℕ) → Agree v places (falses ++ lit ∷ []) reasons starts
    → Rise starts (length falses) → Agree v (set places lit no_place) falses reasons starts
Agree-pop v places falses reasons starts lit a rise =
    let b = inside-bounds v lit (outside-last v falses lit a.inside) in
    let lt : lit < length places = omega (arith, a.size) in
    let alone = alone-last falses lit a.distinct in
    record {
      size = length-set places lit no_place ∙ a.size;
      small = a.small;
      placed = λ l. elim (cases_eq l lit) [
        | inl e ↦ subst (λ (m : ℕ). get_or (set places lit no_place) m no_place ≡ place_from no_place 0 falses m) (sym e)
            (get_or-set_same places lit no_place no_place lt ∙ sym (place-none no_place 0 falses lit alone))
        | inr ne ↦ get_or-set_other places lit l no_place no_place ne ∙ a.placed l ∙ place-push no_place 0 falses lit l
            ∙ kept falses l lit (0 + length falses) (ne_eqb l lit ne)
      ];
      inside = outside-front v falses (lit ∷ []) a.inside;
      distinct = double-front falses (lit ∷ []) a.distinct;
      reasons_size = a.reasons_size;
      rise = rise;
    }

get_or-same : (n i : ℕ) → get_or (replicate n no_place) i no_place ≡ no_place
get_or-same zero i = refl
get_or-same (suc n) zero = refl
get_or-same (suc n) (suc i) = get_or-same n i

pub Agree-new : (v : ℕ) → v < 2147483648 → Agree v (replicate (2 * v + 2) no_place) [] (replicate v 0) []
Agree-new v lt = record {
  size = length-replicate (2 * v + 2) no_place;
  small = lt;
  placed = λ lit. get_or-same (2 * v + 2) lit;
  inside = refl;
  distinct = refl;
  reasons_size = length-replicate v 0;
  rise = tt;
}

-- other decisions
pub Agree-starts : (v : ℕ) (places falses reasons starts next : List ℕ) → Agree v places falses reasons starts → Rise next (length falses)
    → Agree v places falses reasons next
Agree-starts v places falses reasons starts next a rise = record {
  size = a.size;
  small = a.small;
  placed = a.placed;
  inside = a.inside;
  distinct = a.distinct;
  reasons_size = a.reasons_size;
  rise = rise;
}
