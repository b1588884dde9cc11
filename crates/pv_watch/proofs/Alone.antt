-- The literal at the end of a part of the trail had no value, and places of decisions lie within the trail.
use Rattle.std.proofs.Common.{◌≡◌, ℕ, zero, suc, ◌+◌, ◌<◌, ◌≤◌, true, false, not, eqb, List, [], ◌∷◌, ◌++◌, length, get_or, take, drop, refl, sym, ap, ◌∙◌, inl, inr, Some, arith}
use Rattle.std.specs.List.{AllByRecursion}
use Rattle.std.proofs.lemmas.Bool.{cases_Bool, both_ways, or_left, or_right, eq-eqb}
use Rattle.std.proofs.lemmas.List.{take_more, take-append-drop}
use Rattle.std.proofs.lemmas.List.Elements.{filter-append}
use Rattle.pv_cnf.specs.Literal.{complement}
use Rattle.pv_cnf.specs.Clause.{has_double}
use Rattle.pv_log.specs.Propagation.{is_false, left_of, unit_of}
use Rattle.pv_log.proofs.ForCallers.{double-front, double-complement, alone-last}
use Rattle.pv_watch.specs.Trail.{Rise}
use Rattle.pv_watch.proofs.Lefts.{left-in, left-out, unit-when}
use Rattle.pv_watch.proofs.Paths.{below-all}

pub itself-left : (F xs : List ℕ) → ((x : ℕ) → is_false xs x ≡ true → is_false F x ≡ true) → left_of F xs ≡ []
itself-left F [] h = refl
itself-left F (x ∷ xs) h =
    left-in F x xs (h x (or_left (eqb x x) (is_false xs x) (eq-eqb x x refl)))
    ∙ itself-left F xs (λ y e. h y (or_right (eqb y x) (is_false xs y) e))

last-unit : (F : List ℕ) (x : ℕ) → has_double (F ++ x ∷ []) ≡ false → unit_of F (F ++ x ∷ []) ≡ Some x
last-unit F x d =
    let alone = alone-last F x d in
    let apart : is_false F (complement x) ≡ false = elim (cases_Bool (is_false F (complement x))) [
      | inl there ↦ absurd (both_ways (has_double (F ++ x ∷ [])) d (double-complement F x [] there))
      | inr isnt ↦ isnt
    ] in
    let left : left_of F (F ++ x ∷ []) ≡ x ∷ [] =
    filter-append (λ (lit : ℕ). not (is_false F lit)) F (x ∷ []) ∙ ap (λ (ys : List ℕ). ys ++ left_of F (x ∷ []))
    (itself-left F F (λ y e. e)) ∙ left-out F x [] alone in
    unit-when F (F ++ x ∷ []) x left apart

pub alone-at : (falses : List ℕ) (s : ℕ) → s < length falses → has_double falses ≡ false
    → unit_of (take s falses) (take (s + 1) falses) ≡ Some (get_or falses s 0)
alone-at falses s lt d =
    let more = take_more falses s 0 lt in
    let front : has_double (take (s + 1) falses) ≡ false = double-front (take (s + 1) falses) (drop (s + 1) falses)
    (ap has_double (take-append-drop (s + 1) falses) ∙ d) in
    ap (unit_of (take s falses)) more ∙ last-unit (take s falses) (get_or falses s 0) (sym (ap has_double more) ∙ front)

-- ---- decisions

pub all-at : (P : ℕ → Type 0) (xs : List ℕ) (k : ℕ) → AllByRecursion P xs → k < length xs → P (get_or xs k 0)
all-at P [] k a lt = absurd (omega arith)
all-at P (x ∷ xs) zero a lt = a.0
all-at P (x ∷ xs) (suc k) a lt = all-at P xs k a.1 (omega arith)

pub start-below : (starts : List ℕ) (n k : ℕ) → Rise starts n → k < length starts → get_or starts k 0 < n
start-below starts n k rise lt = all-at (λ (s : ℕ). s < n) starts k (below-all starts n rise) lt

all-from-zero : (starts : List ℕ) → AllByRecursion (λ (t : ℕ). 0 ≤ t) starts
all-from-zero [] = tt
all-from-zero (s ∷ starts) = (omega arith, all-from-zero starts)

few-from : (starts : List ℕ) (m n : ℕ) → AllByRecursion (λ (t : ℕ). m ≤ t) starts → m ≤ n → Rise starts n → m + length starts ≤ n
few-from [] m n low le rise = omega (arith, le)
few-from (s ∷ starts) m n low le rise =
    let rest = few-from starts (suc s) n rise.0 rise.1 rise.2 in omega (arith, rest, low.0)

-- there are no more decisions than literals
pub few-starts : (starts : List ℕ) (n : ℕ) → Rise starts n → length starts ≤ n
few-starts starts n rise = let few = few-from starts 0 n (all-from-zero starts) (omega arith) rise in omega (arith, few)
