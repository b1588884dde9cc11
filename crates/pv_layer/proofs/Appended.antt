-- Lists of a layout with one spot more, and tables with more terms: what stood there before stays.
use Rattle.std.proofs.Common.{◌≡◌, ℕ, zero, suc, ◌+◌, ◌<◌, List, [], ◌∷◌, ◌++◌, length, Bool as Truth, true, false, cond, Option, refl, sym, ap, ◌∙◌, arith}
use Rattle.pv_flow.specs.declared.term.Node.{Node}
use Rattle.pv_flow.specs.Terms.{Term}
use Rattle.pv_flow.specs.Automata.{CallEdge, Edge, TrapEnd}
use Rattle.pv_flow.specs.View.{term_at, term_of, terms_after, terms_of}
use Rattle.pv_layout.specs.Spots.{Spot, Act, Branch, Enter, checks_of, edges_at}
use Rattle.pv_layout.specs.Layout.{checks_in, edges_of, calls_of, traps_at, traps_of, no_marks, way_marks, marks_of, is_marked, turns_of}

pub append_more : {X : Type 0} (xs ys zs : List X) → (xs ++ ys) ++ zs ≡ xs ++ (ys ++ zs)
append_more [] ys zs = refl
append_more {X} (x ∷ xs) ys zs = ap (λ (more : List X). x ∷ more) (append_more xs ys zs)

pub append_none : {X : Type 0} (xs : List X) → xs ++ [] ≡ xs
append_none [] = refl
append_none {X} (x ∷ xs) = ap (λ (more : List X). x ∷ more) (append_none xs)

-- ---- terms

terms_more : (terms : List Term) (xs ys : List Node) → terms_after terms (xs ++ ys) ≡ terms_after (terms_after terms xs) ys
terms_more terms [] ys = refl
terms_more terms (x ∷ xs) ys = terms_more (terms ++ term_of terms x ∷ []) xs ys

pub one_term : (nodes : List Node) (n : Node) → terms_of (nodes ++ n ∷ []) ≡ terms_of nodes ++ term_of (terms_of nodes) n ∷ []
one_term nodes n = terms_more [] nodes (n ∷ [])

count_after : (terms : List Term) (nodes : List Node) → length (terms_after terms nodes) ≡ length terms + length nodes
count_after terms [] = omega arith
count_after terms (n ∷ nodes) =
    let rest = count_after (terms ++ term_of terms n ∷ []) nodes in
    let one = count_one terms (term_of terms n) in
    omega (arith, rest, one)
  where
    count_one : (xs : List Term) (t : Term) → length (xs ++ t ∷ []) ≡ suc (length xs)
    count_one [] t = refl
    count_one (x ∷ xs) t = ap (λ (m : ℕ). suc m) (count_one xs t)

pub count_terms : (nodes : List Node) → length (terms_of nodes) ≡ length nodes
count_terms nodes = let h = count_after [] nodes in omega (arith, h)

pub same_term : (xs ys : List Term) (i : ℕ) → i < length xs → term_at (xs ++ ys) i ≡ term_at xs i
same_term [] ys i lt = absurd (omega (arith, lt))
same_term (x ∷ xs) ys zero lt = refl
same_term (x ∷ xs) ys (suc i) lt = same_term xs ys i (omega (arith, lt))

pub last_term : (xs : List Term) (t : Term) → term_at (xs ++ t ∷ []) (length xs) ≡ t
last_term [] t = refl
last_term (x ∷ xs) t = last_term xs t

-- ---- one spot more

pub checks_more : (xs : List Spot) (y : Spot) → checks_in (xs ++ y ∷ []) ≡ checks_in xs + length (checks_of y)
checks_more [] y = omega arith
checks_more (x ∷ xs) y = let h = checks_more xs y in omega (arith, h)

pub edges_more : (done t l : ℕ) (xs : List Spot) (y : Spot)
    → edges_of done t l (xs ++ y ∷ []) ≡ edges_of done t l xs ++ edges_at done (t + checks_in xs) (l + length xs) y
edges_more done t l [] y =
    let first : t ≡ t + 0 = omega arith in
    let here : l ≡ l + 0 = omega arith in
    append_none (edges_at done t l y)
    ∙ (ap (λ (m : ℕ). edges_at done m l y) first ∙ ap (λ (m : ℕ). edges_at done (t + 0) m y) here)
edges_more done t l (x ∷ xs) y =
    let traps : t + length (checks_of x) + checks_in xs ≡ t + (length (checks_of x) + checks_in xs) = omega arith in
    let here : suc l + length xs ≡ l + suc (length xs) = omega arith in
    ap (λ (more : List Edge). edges_at done t l x ++ more) (edges_more done (t + length (checks_of x)) (suc l) xs y)
    ∙ (sym (append_more (edges_at done t l x) (edges_of done (t + length (checks_of x)) (suc l) xs)
    (edges_at done (t + length (checks_of x) + checks_in xs) (suc l + length xs) y))
    ∙ (ap (λ (m : ℕ). (edges_at done t l x ++ edges_of done (t + length (checks_of x)) (suc l) xs) ++ edges_at done m (suc l + length xs) y) traps
    ∙ ap (λ (m : ℕ). (edges_at done t l x ++ edges_of done (t + length (checks_of x)) (suc l) xs)
    ++ edges_at done (t + (length (checks_of x) + checks_in xs)) m y) here))

pub traps_more : (done t : ℕ) (xs : List Spot) (y : Spot)
    → traps_of done t (xs ++ y ∷ []) ≡ traps_of done t xs ++ traps_at done (t + checks_in xs) (checks_of y)
traps_more done t [] y =
    let first : t ≡ t + 0 = omega arith in
    append_none (traps_at done t (checks_of y)) ∙ ap (λ (m : ℕ). traps_at done m (checks_of y)) first
traps_more done t (x ∷ xs) y =
    let traps : t + length (checks_of x) + checks_in xs ≡ t + (length (checks_of x) + checks_in xs) = omega arith in
    ap (λ (more : List TrapEnd). traps_at done t (checks_of x) ++ more) (traps_more done (t + length (checks_of x)) xs y)
    ∙ (sym (append_more (traps_at done t (checks_of x)) (traps_of done (t + length (checks_of x)) xs)
    (traps_at done (t + length (checks_of x) + checks_in xs) (checks_of y)))
    ∙ ap (λ (m : ℕ). (traps_at done t (checks_of x) ++ traps_of done (t + length (checks_of x)) xs) ++ traps_at done m (checks_of y)) traps)

pub marks_more : (xs : List Spot) (y : Spot) → marks_of (xs ++ y ∷ []) ≡ marks_of xs ++ (no_marks (checks_of y) ++ way_marks y)
marks_more [] y = append_none (no_marks (checks_of y) ++ way_marks y)
marks_more (x ∷ xs) y = ap (λ (more : List (Option ℕ)). (no_marks (checks_of x) ++ way_marks x) ++ more) (marks_more xs y)
    ∙ sym (append_more (no_marks (checks_of x) ++ way_marks x) (marks_of xs) (no_marks (checks_of y) ++ way_marks y))

pub calls_more : (l : ℕ) (xs : List Spot) (y : Spot) → calls_of l (xs ++ y ∷ []) ≡ calls_of l xs ++ calls_of (l + length xs) (y ∷ [])
calls_more l [] y = let here : l ≡ l + 0 = omega arith in ap (λ (m : ℕ). calls_of m (y ∷ [])) here
calls_more l (Act checks on ∷ xs) y =
    let here : suc l + length xs ≡ l + suc (length xs) = omega arith in
    calls_more (suc l) xs y ∙ ap (λ (m : ℕ). calls_of (suc l) xs ++ calls_of m (y ∷ [])) here
calls_more l (Branch checks c one other ∷ xs) y =
    let here : suc l + length xs ≡ l + suc (length xs) = omega arith in
    calls_more (suc l) xs y ∙ ap (λ (m : ℕ). calls_of (suc l) xs ++ calls_of m (y ∷ [])) here
calls_more l (Enter block instance place to ∷ xs) y =
    let here : suc l + length xs ≡ l + suc (length xs) = omega arith in
    ap (λ (more : List CallEdge). record { from = l; to = to; block = block; instance = instance; place = place } ∷ more)
    (calls_more (suc l) xs y ∙ ap (λ (m : ℕ). calls_of (suc l) xs ++ calls_of m (y ∷ [])) here)

-- ---- turns

pub turns_more : (i e : ℕ) (ms ns : List (Option ℕ)) → turns_of i e (ms ++ ns) ≡ turns_of i e ms ++ turns_of i (e + length ms) ns
turns_more i e [] ns = let here : e ≡ e + 0 = omega arith in ap (λ (m : ℕ). turns_of i m ns) here
turns_more i e (m ∷ ms) ns =
    let here : suc e + length ms ≡ e + suc (length ms) = omega arith in
    by (is_marked i m) (turns_more i (suc e) ms ns ∙ ap (λ (k : ℕ). turns_of i (suc e) ms ++ turns_of i k ns) here)
  where
    by : (b : Truth) → turns_of i (suc e) (ms ++ ns) ≡ turns_of i (suc e) ms ++ turns_of i (e + suc (length ms)) ns
        → cond b (e ∷ turns_of i (suc e) (ms ++ ns)) (turns_of i (suc e) (ms ++ ns))
        ≡ cond b (e ∷ turns_of i (suc e) ms) (turns_of i (suc e) ms) ++ turns_of i (e + suc (length ms)) ns
    by true h = ap (λ (more : List ℕ). e ∷ more) h
    by false h = h
