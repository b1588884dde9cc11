-- The automaton of a flow has as many edges and call edges as are counted: spot by spot.
use Rattle.std.proofs.Common.{◌≡◌, ℕ, suc, ◌+◌, List, [], ◌∷◌, ◌++◌, length, Some, None, refl, ap, ◌∙◌, arith}
use Rattle.std.proofs.lemmas.List.{length-append}
use Rattle.pv_flow.specs.Terms.{Term}
use Rattle.pv_layout.specs.Spots.{Check, Spot, Act, Branch, Enter, way, checks_of, true_term, both, negated, none_of, check_edges, way_edges, edges_at}
use Rattle.pv_layout.specs.Flows.{Flow, act, enter, leave, then_, if_, choice, while_, for_, repeat_}
use Rattle.pv_layout.specs.Layout.{width, loops_in, Exits, before, in_loop, to_done, spots_of, edges_of, calls_of, plain}
use Rattle.pv_layout.specs.Bodies.{Body, laid}

abbrev cost : Spot → ℕ
cost (Act checks on) = length checks + 1
cost (Branch checks c one other) = length checks + 2
cost (Enter block instance place to) = 1

abbrev costs : List Spot → ℕ
costs [] = 0
costs (spot ∷ spots) = cost spot + costs spots

costs_append : (xs ys : List Spot) → costs (xs ++ ys) ≡ costs xs + costs ys
costs_append [] ys = omega arith
costs_append (x ∷ xs) ys = let h = costs_append xs ys in omega (arith, h)

-- ---- spots

check_count : (done t l : ℕ) (none : Term) (checks : List Check) → length (check_edges done t l none checks) ≡ length checks
check_count done t l none [] = refl
check_count done t l none (check ∷ checks) = ap (λ (n : ℕ). suc n) (check_count done (suc t) l (both none (negated check.fails)) checks)

pub edges_count : (done t l : ℕ) (spot : Spot)
    → length (edges_at done t l spot) ≡ length (checks_of spot) + length (way_edges l (none_of true_term (checks_of spot)) spot)
edges_count done t l spot =
    let h = check_count done t l true_term (checks_of spot) in
    length-append (check_edges done t l true_term (checks_of spot)) (way_edges l (none_of true_term (checks_of spot)) spot)
    ∙ omega (arith, h)

spots_count : (done t l m : ℕ) (spots : List Spot) → length (edges_of done t l spots) + length (calls_of m spots) ≡ costs spots
spots_count done t l m [] = refl
spots_count done t l m (Act checks on ∷ spots) =
    let here = edges_count done t l (Act checks on) in
    let rest = spots_count done (t + length checks) (suc l) (suc m) spots in
    let parted = length-append (edges_at done t l (Act checks on)) (edges_of done (t + length checks) (suc l) spots) in
    omega (arith, here, rest, parted)
spots_count done t l m (Branch checks c one other ∷ spots) =
    let here = edges_count done t l (Branch checks c one other) in
    let rest = spots_count done (t + length checks) (suc l) (suc m) spots in
    let parted = length-append (edges_at done t l (Branch checks c one other)) (edges_of done (t + length checks) (suc l) spots) in
    omega (arith, here, rest, parted)
spots_count done t l m (Enter block instance place to ∷ spots) =
    let rest = spots_count done (t + 0) (suc l) (suc m) spots in omega (arith, rest)

-- ---- flows

flow_count : (f : Flow) (a i : ℕ) (to : Exits) → costs (spots_of f a i to) ≡ plain f
flow_count (act checks sets) a i to = omega arith
flow_count (enter block instance place) a i to = refl
flow_count (leave which) a i to = refl
flow_count (then_ f g) a i to =
    let x = flow_count f a i (before (a + width f) to) in
    let y = flow_count g (a + width f) (i + loops_in f) to in
    costs_append (spots_of f a i (before (a + width f) to)) (spots_of g (a + width f) (i + loops_in f) to) ∙ omega (arith, x, y)
flow_count (if_ checks c f) a i to = ap (λ (n : ℕ). length checks + 2 + n) (flow_count f (suc a) i to)
flow_count (choice checks c f g) a i to =
    let x = flow_count f (suc a) i to in
    let y = flow_count g (suc a + width f) (i + loops_in f) to in
    ap (λ (n : ℕ). length checks + 2 + n)
    (costs_append (spots_of f (suc a) i to) (spots_of g (suc a + width f) (i + loops_in f) to) ∙ omega (arith, x, y))
flow_count (while_ checks c f place) a i to = ap (λ (n : ℕ). length checks + 2 + n) (flow_count f (suc a) (suc i) (in_loop a to))
flow_count (for_ checks c f sets place) a i to =
    let x = flow_count f (suc a) (suc i) (in_loop (suc a + width f) to) in
    let parted = costs_append (spots_of f (suc a) (suc i) (in_loop (suc a + width f) to)) (Act [] (way a sets None) ∷ []) in
    omega (arith, x, parted)
flow_count (repeat_ f checks c place) a i to =
    let x = flow_count f a (suc i) (in_loop (a + width f) to) in
    let parted = costs_append (spots_of f a (suc i) (in_loop (a + width f) to))
    (Branch checks c (way to.next [] None) (way a [] (Some i)) ∷ []) in
    omega (arith, x, parted)

pub edges_are_counted : (body : Body) → length (laid body).edges + length (laid body).calls ≡ plain body.code
edges_are_counted body =
    spots_count (length (spots_of body.code 0 0 (to_done (width body.code)))) 0 0 0 (spots_of body.code 0 0 (to_done (width body.code)))
    ∙ flow_count body.code 0 0 (to_done (width body.code))
