-- Where a flow's spots, loops and calls lie: as many as its width says, in its range, each part's after the part before it.
use Rattle.std.proofs.Common.{◌≡◌, ℕ, zero, suc, ◌+◌, ◌<◌, ◌≤◌, List, [], ◌∷◌, ◌++◌, length, slice_get, Some, None, refl, sym, ap, ◌∙◌, arith}
use Rattle.std.specs.List.{AllByRecursion}
use Rattle.std.proofs.lemmas.List.{length-append}
use Rattle.std.proofs.lemmas.Option.{same_Some, none-some}
use Rattle.pv_flow.specs.Automata.{Loop}
use Rattle.pv_layout.specs.Spots.{Spot, Act, Branch, way}
use Rattle.pv_layout.specs.Flows.{Flow, act, enter, leave, then_, if_, choice, while_, for_, repeat_, calls_in}
use Rattle.pv_layout.specs.Layout.{width, loops_in, Exits, before, in_loop, spots_of, loops_of}
use Rattle.pv_layout.specs.SpotRuns.{calls_at, calls_before}
use Rattle.pv_layout.specs.Correct.{IsLaid}
use Rattle.pv_layout.proofs.Lists.{all_append, all_map}
use Rattle.pv_layout.proofs.Turns.{IsWithin}

-- ---- how many

pub some_width : (f : Flow) → 0 < width f
some_width (act checks sets) = omega arith
some_width (enter block instance place) = omega arith
some_width (leave which) = omega arith
some_width (then_ f g) = let low = some_width f in omega (arith, low)
some_width (if_ checks c f) = omega arith
some_width (choice checks c f g) = omega arith
some_width (while_ checks c f place) = omega arith
some_width (for_ checks c f sets place) = omega arith
some_width (repeat_ f checks c place) = omega arith

pub length_spots : (f : Flow) (a i : ℕ) (to : Exits) → length (spots_of f a i to) ≡ width f
length_spots (act checks sets) a i to = refl
length_spots (enter block instance place) a i to = refl
length_spots (leave which) a i to = refl
length_spots (then_ f g) a i to =
    let x = length_spots f a i (before (a + width f) to) in
    let y = length_spots g (a + width f) (i + loops_in f) to in
    length-append (spots_of f a i (before (a + width f) to)) (spots_of g (a + width f) (i + loops_in f) to) ∙ omega (arith, x, y)
length_spots (if_ checks c f) a i to = ap (λ (n : ℕ). suc n) (length_spots f (suc a) i to)
length_spots (choice checks c f g) a i to =
    let x = length_spots f (suc a) i to in
    let y = length_spots g (suc a + width f) (i + loops_in f) to in
    ap (λ (n : ℕ). suc n)
    (length-append (spots_of f (suc a) i to) (spots_of g (suc a + width f) (i + loops_in f) to) ∙ omega (arith, x, y))
length_spots (while_ checks c f place) a i to = ap (λ (n : ℕ). suc n) (length_spots f (suc a) (suc i) (in_loop a to))
length_spots (for_ checks c f sets place) a i to =
    let x = length_spots f (suc a) (suc i) (in_loop (suc a + width f) to) in
    ap (λ (n : ℕ). suc n)
    (length-append (spots_of f (suc a) (suc i) (in_loop (suc a + width f) to)) (Act [] (way a sets None) ∷ []) ∙ omega (arith, x))
length_spots (repeat_ f checks c place) a i to =
    let x = length_spots f a (suc i) (in_loop (a + width f) to) in
    length-append (spots_of f a (suc i) (in_loop (a + width f) to)) (Branch checks c (way to.next [] None) (way a [] (Some i)) ∷ [])
    ∙ omega (arith, x)

pub length_loops : (f : Flow) (a : ℕ) → length (loops_of f a) ≡ loops_in f
length_loops (act checks sets) a = refl
length_loops (enter block instance place) a = refl
length_loops (leave which) a = refl
length_loops (then_ f g) a =
    let x = length_loops f a in
    let y = length_loops g (a + width f) in
    length-append (loops_of f a) (loops_of g (a + width f)) ∙ omega (arith, x, y)
length_loops (if_ checks c f) a = length_loops f (suc a)
length_loops (choice checks c f g) a =
    let x = length_loops f (suc a) in
    let y = length_loops g (suc a + width f) in
    length-append (loops_of f (suc a)) (loops_of g (suc a + width f)) ∙ omega (arith, x, y)
length_loops (while_ checks c f place) a = ap (λ (n : ℕ). suc n) (length_loops f (suc a))
length_loops (for_ checks c f sets place) a = ap (λ (n : ℕ). suc n) (length_loops f (suc a))
length_loops (repeat_ f checks c place) a = ap (λ (n : ℕ). suc n) (length_loops f a)

-- ---- loops lie within

widened : (a b c d : ℕ) (loops : List Loop) → a ≤ c → d ≤ b → AllByRecursion (IsWithin c d) loops → AllByRecursion (IsWithin a b) loops
widened a b c d loops low high all = all_map (IsWithin c d) (IsWithin a b) loops
    (λ loop within. (omega (arith, low, within.0), omega (arith, high, within.1))) all

pub loops_within : (f : Flow) (a : ℕ) → AllByRecursion (IsWithin a (a + width f)) (loops_of f a)
loops_within (act checks sets) a = tt
loops_within (enter block instance place) a = tt
loops_within (leave which) a = tt
loops_within (then_ f g) a = all_append (IsWithin a (a + (width f + width g))) (loops_of f a) (loops_of g (a + width f))
    (widened a (a + (width f + width g)) a (a + width f) (loops_of f a) (omega arith) (omega arith) (loops_within f a))
    (widened a (a + (width f + width g)) (a + width f) (a + width f + width g) (loops_of g (a + width f)) (omega arith) (omega arith)
    (loops_within g (a + width f)))
loops_within (if_ checks c f) a =
    widened a (a + suc (width f)) (suc a) (suc a + width f) (loops_of f (suc a)) (omega arith) (omega arith) (loops_within f (suc a))
loops_within (choice checks c f g) a =
    all_append (IsWithin a (a + suc (width f + width g))) (loops_of f (suc a)) (loops_of g (suc a + width f))
    (widened a (a + suc (width f + width g)) (suc a) (suc a + width f) (loops_of f (suc a)) (omega arith) (omega arith)
    (loops_within f (suc a)))
    (widened a (a + suc (width f + width g)) (suc a + width f) (suc a + width f + width g) (loops_of g (suc a + width f)) (omega arith)
    (omega arith)
    (loops_within g (suc a + width f)))
loops_within (while_ checks c f place) a = (
  (omega arith, omega arith),
  widened a (a + suc (width f)) (suc a) (suc a + width f) (loops_of f (suc a)) (omega arith) (omega arith) (loops_within f (suc a)),
)
loops_within (for_ checks c f sets place) a = (
  (omega arith, omega arith),
  widened a (a + suc (width f + 1)) (suc a) (suc a + width f) (loops_of f (suc a)) (omega arith) (omega arith) (loops_within f (suc a)),
)
loops_within (repeat_ f checks c place) a = (
  (omega arith, omega arith),
  widened a (a + (width f + 1)) a (a + width f) (loops_of f a) (omega arith) (omega arith) (loops_within f a),
)

-- ---- calls are numbered along the text

abbrev pub count_calls : List Spot → ℕ
count_calls [] = 0
count_calls (spot ∷ spots) = calls_at spot + count_calls spots

count_append : (xs ys : List Spot) → count_calls (xs ++ ys) ≡ count_calls xs + count_calls ys
count_append [] ys = omega arith
count_append (x ∷ xs) ys = let h = count_append xs ys in omega (arith, h)

pub none_before : (spots : List Spot) → calls_before spots 0 ≡ 0
none_before [] = refl
none_before (spot ∷ spots) = refl

pub one_call : (spots : List Spot) (l : ℕ) (spot : Spot) → slice_get spots l ≡ Some spot
    → calls_before spots (suc l) ≡ calls_before spots l + calls_at spot
one_call [] l spot e = absurd (none-some spot e)
one_call (x ∷ spots) zero spot e =
    let none = none_before spots in
    let same : calls_at x ≡ calls_at spot = ap calls_at (same_Some x spot e) in
    omega (arith, none, same)
one_call (x ∷ spots) (suc l) spot e = let h = one_call spots l spot e in omega (arith, h)

pub calls_along : (spots xs : List Spot) (a : ℕ) → IsLaid spots a xs
    → calls_before spots (a + length xs) ≡ calls_before spots a + count_calls xs
calls_along spots [] a laid =
    let same : a + 0 ≡ a = omega arith in
    let no_more : calls_before spots a ≡ calls_before spots a + 0 = omega arith in
    ap (λ (n : ℕ). calls_before spots n) same ∙ no_more
calls_along spots (x ∷ xs) a laid =
    let here = one_call spots a x laid.0 in
    let same : a + suc (length xs) ≡ suc a + length xs = omega arith in
    let one_more : calls_before spots (suc a) + count_calls xs ≡ calls_before spots a + (calls_at x + count_calls xs) = omega
    (arith, here) in
    ap (λ (n : ℕ). calls_before spots n) same ∙ (calls_along spots xs (suc a) laid.1 ∙ one_more)

pub count_spots : (f : Flow) (a i : ℕ) (to : Exits) → count_calls (spots_of f a i to) ≡ calls_in f
count_spots (act checks sets) a i to = refl
count_spots (enter block instance place) a i to = refl
count_spots (leave which) a i to = refl
count_spots (then_ f g) a i to =
    let x = count_spots f a i (before (a + width f) to) in
    let y = count_spots g (a + width f) (i + loops_in f) to in
    let parted = count_append (spots_of f a i (before (a + width f) to)) (spots_of g (a + width f) (i + loops_in f) to) in
    omega (arith, x, y, parted)
count_spots (if_ checks c f) a i to = let x = count_spots f (suc a) i to in omega (arith, x)
count_spots (choice checks c f g) a i to =
    let x = count_spots f (suc a) i to in
    let y = count_spots g (suc a + width f) (i + loops_in f) to in
    let parted = count_append (spots_of f (suc a) i to) (spots_of g (suc a + width f) (i + loops_in f) to) in
    omega (arith, x, y, parted)
count_spots (while_ checks c f place) a i to = let x = count_spots f (suc a) (suc i) (in_loop a to) in omega (arith, x)
count_spots (for_ checks c f sets place) a i to =
    let x = count_spots f (suc a) (suc i) (in_loop (suc a + width f) to) in
    let parted = count_append (spots_of f (suc a) (suc i) (in_loop (suc a + width f) to)) (Act [] (way a sets None) ∷ []) in
    omega (arith, x, parted)
count_spots (repeat_ f checks c place) a i to =
    let x = count_spots f a (suc i) (in_loop (a + width f) to) in
    let parted = count_append (spots_of f a (suc i) (in_loop (a + width f) to))
    (Branch checks c (way to.next [] None) (way a [] (Some i)) ∷ []) in
    omega (arith, x, parted)

-- how many calls stand before what follows a flow
pub calls_after : (spots : List Spot) (f : Flow) (a i j : ℕ) (to : Exits) → IsLaid spots a (spots_of f a i to)
    → calls_before spots a ≡ j → calls_before spots (a + width f) ≡ j + calls_in f
calls_after spots f a i j to laid at =
    let along = calls_along spots (spots_of f a i to) a laid in
    let counted = count_spots f a i to in
    ap (λ (n : ℕ). calls_before spots (a + n)) (sym (length_spots f a i to)) ∙ (along ∙ omega (arith, counted, at))
