-- Ends of what is laid out, which are numbers one after another, from the location on where it is done.
use Rattle.std.proofs.Common.{◌≡◌, ℕ, suc, ◌+◌, ◌<◌, ◌≤◌, ◌⊎◌, inl, inr, List, [], ◌∷◌, ◌++◌, map, length, Bool as Truth, true, false, not, ◌||◌, ◌==◌, nat_lt, refl, sym, subst, ap, ◌∙◌, arith}
use Rattle.std.specs.List.{list_any, list_all}
use Rattle.std.proofs.lemmas.Bool.{false≢true, ne_eqb, eq-eqb, cases_lt, lt-ltb, and_from, or_left, or_right, or_from}
use Rattle.std.proofs.lemmas.List.{length-append}
use Rattle.pv_flow.specs.Automata.{TrapEnd}
use Rattle.pv_flow.specs.WellMade.{are_different}
use Rattle.pv_layout.specs.Spots.{Spot, checks_of}
use Rattle.pv_layout.specs.Layout.{checks_in, traps_at, traps_of}
use Rattle.pv_layout.proofs.Edges.{traps_count}
use Rattle.pv_layout.proofs.Ends.{AreNumbered}

abbrev pub AreInRow : ℕ → List ℕ → Type 0
AreInRow m [] = Unit {0}
AreInRow m (n ∷ ns) = (n ≡ m) × AreInRow (suc m) ns

pub row_has : (m : ℕ) (ns : List ℕ) (l : ℕ) → AreInRow m ns → m ≤ l → l < m + length ns → list_any (λ n. n == l) ns ≡ true
row_has m [] l are low high = absurd (omega (arith, low, high))
row_has m (n ∷ ns) l are low high = by (cases_lt m l)
    (λ lt. row_has (suc m) ns l are.1 (omega (arith, lt)) (omega (arith, high)))
  where
    by : (m < l) ⊎ (l ≤ m) → (m < l → list_any (λ k. k == l) ns ≡ true) → ((n == l) || list_any (λ k. k == l) ns) ≡ true
    by (inl lt) go = or_right (n == l) (list_any (λ k. k == l) ns) (go lt)
    by (inr le) go = or_left (n == l) (list_any (λ k. k == l) ns) (eq-eqb n l (omega (arith, are.0, le, low)))

pub row_lacks : (m : ℕ) (ns : List ℕ) (l : ℕ) → AreInRow m ns → l < m → list_any (λ n. n == l) ns ≡ false
row_lacks m [] l are lt = refl
row_lacks m (n ∷ ns) l are lt = or_from (n == l) (list_any (λ k. k == l) ns)
    (ne_eqb n l (λ same. omega (arith, are.0, same, lt))) (row_lacks (suc m) ns l are.1 (omega (arith, lt)))

pub row_from : (m : ℕ) (ns : List ℕ) (l : ℕ) → AreInRow m ns → list_any (λ n. n == l) ns ≡ true → m ≤ l
row_from m ns l are e = by (cases_lt l m)
  where
    by : (l < m) ⊎ (m ≤ l) → m ≤ l
    by (inl lt) = absurd (false≢true (sym (row_lacks m ns l are lt) ∙ e))
    by (inr le) = le

pub row_differs : (m : ℕ) (ns : List ℕ) → AreInRow m ns → are_different ns ≡ true
row_differs m [] are = refl
row_differs m (n ∷ ns) are = and_from (not (list_any (λ k. k == n) ns)) (are_different ns)
    (ap not (row_lacks (suc m) ns n are.1 (let same = are.0 in omega (arith, same)))) (row_differs (suc m) ns are.1)

pub row_all : (test : ℕ → Truth) (m : ℕ) (ns : List ℕ) → AreInRow m ns → ((n : ℕ) → m ≤ n → n < m + length ns → test n ≡ true)
    → list_all test ns ≡ true
row_all test m [] are go = refl
row_all test m (n ∷ ns) are go = and_from (test n) (list_all test ns)
    (go n (let same = are.0 in omega (arith, same)) (let same = are.0 in omega (arith, same)))
    (row_all test (suc m) ns are.1 (λ k low high. go k (omega (arith, low)) (omega (arith, high))))

-- ---- traps

pub traps_in_row : (done t : ℕ) (ends : List TrapEnd) → AreNumbered done t ends
    → AreInRow (done + suc t) (map (λ (end : TrapEnd). end.location) ends ++ [])
traps_in_row done t [] are = tt
traps_in_row done t (end ∷ ends) are = (
  are.0,
  subst (λ (m : ℕ). AreInRow m (map (λ (end : TrapEnd). end.location) ends ++ [])) (omega arith) (traps_in_row done (suc t) ends are.1),
)

pub traps_below : (done t limit : ℕ) (ends : List TrapEnd) → AreNumbered done t ends → done + (t + length ends) < limit
    → list_all (λ (end : TrapEnd). nat_lt end.location limit) ends ≡ true
traps_below done t limit [] are lt = refl
traps_below done t limit (end ∷ ends) are lt = and_from (nat_lt end.location limit)
    (list_all (λ (end : TrapEnd). nat_lt end.location limit) ends)
    (lt-ltb end.location limit (let same = are.0 in omega (arith, same, lt)))
    (traps_below done (suc t) limit ends are.1 (omega (arith, lt)))

pub traps_total : (done t : ℕ) (spots : List Spot) → length (traps_of done t spots) ≡ checks_in spots
traps_total done t [] = refl
traps_total done t (spot ∷ spots) =
    let here = traps_count done t (checks_of spot) in
    let rest = traps_total done (t + length (checks_of spot)) spots in
    length-append (traps_at done t (checks_of spot)) (traps_of done (t + length (checks_of spot)) spots) ∙ omega (arith, here, rest)

pub row_length : (ends : List TrapEnd) → length (map (λ (end : TrapEnd). end.location) ends ++ []) ≡ length ends
row_length [] = refl
row_length (end ∷ ends) = ap (λ (n : ℕ). suc n) (row_length ends)
