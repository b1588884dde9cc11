-- The automaton of the copies has as many edges as are counted, and all of them lead forward.
use Rattle.std.proofs.Common.{◌≡◌, ℕ, zero, suc, ◌+◌, ◌*◌, ◌<◌, ◌≤◌, ◌⊎◌, inl, inr, List, [], ◌∷◌, ◌++◌, map, length, slice_get, length-append, Bool, true, false, ◌||◌, ◌==◌, nat_le, cond, Option, Some, None, refl, sym, subst, ap, ◌∙◌, suc-mul, arith}
use Rattle.std.specs.List.{AllByRecursion, list_any}
use Rattle.std.proofs.lemmas.Bool.{true≢false, eqb-true, or_left, or_right, or_cases, not-false}
use Rattle.std.proofs.lemmas.List.Elements.{All-from_recursion}
use Rattle.pv_flow.specs.Automata.{Edge, Loop, TrapEnd, OverEnd, Parts, edges_from, calls_from}
use Rattle.pv_flow.specs.Faults.{IsFaultless}
use Rattle.pv_flow.specs.WellMade.{is_end, IsWellMade}
use Rattle.pv_flow.specs.Runs.{End, done, trap, over}
use Rattle.pv_copies.specs.Copies.{Copy, copy, beyond, within, target, exit_of_copy}
use Rattle.pv_copies.specs.Places.{fits, plain, rounds, once_more, text, total, once, size, place, IsCopy, stands_in, one_each}
use Rattle.pv_copies.specs.Unrolled.{CopiedEdge, copied_edges, copied, whole_text, text_size, place_in_text, numbered_by, traps_by, edges_of}
use Rattle.pv_copies.specs.Correct.{NumbersLeadForward, EdgesAreCounted}
use Rattle.pv_copies.proofs.Rising.{weight}
use Rattle.pv_copies.proofs.Listing.{Along, IsNumbered}
use Rattle.pv_copies.proofs.Whole.{copies_lead_forward, text_is_numbered, text_is_long}

-- ---- what the copies of the text take

abbrev taken : (ℕ → ℕ) → List Copy → ℕ
taken w [] = 0
taken w (c ∷ cs) = weight w 0 c + taken w cs

taken_append : (w : ℕ → ℕ) (xs ys : List Copy) → taken w (xs ++ ys) ≡ taken w xs + taken w ys
taken_append w [] ys = sum (taken w ys)
  where
    sum : (m : ℕ) → m ≡ 0 + m
    sum m = omega arith
taken_append w (x ∷ xs) ys = let rest = taken_append w xs ys in omega (arith, rest)

weight_within : (w : ℕ → ℕ) (k : ℕ) (c : Copy) → weight w 0 (within k c) ≡ weight w 0 c
weight_within w k (copy l ks) = refl
weight_within w k (beyond loop ks) = refl

taken_within : (w : ℕ → ℕ) (k : ℕ) (xs : List Copy) → taken w (map (within k) xs) ≡ taken w xs
taken_within w k [] = refl
taken_within w k (x ∷ xs) = let rest = taken_within w k xs in omega (arith, rest, weight_within w k x)

taken_rounds : (w : ℕ → ℕ) (n : ℕ) (xs : List Copy) → taken w (rounds n xs) ≡ n * taken w xs
taken_rounds w zero xs = none (taken w xs)
  where
    none : (m : ℕ) → 0 ≡ 0 * m
    none m = omega arith
taken_rounds w (suc n) xs =
    let rest = taken_rounds w n xs in
    omega (arith, rest, taken_append w (rounds n xs) (map (within n) xs), taken_within w n xs, suc-mul n (taken w xs))

-- what doesn't stand in the text takes nothing
abbrev TakesNone : (ℕ → Bool) → (ℕ → ℕ) → Type 0
TakesNone stands w = (l : ℕ) → stands l ≡ false → w l ≡ 0

taken_plain : (stands : ℕ → Bool) (w : ℕ → ℕ) → TakesNone stands w → (a b : ℕ) → taken w (plain stands a b) ≡ total w a b
taken_plain stands w none a zero = refl
taken_plain stands w none a (suc b) = by (nat_le a b) (taken_plain stands w none a b)
  where
    one : (t : Bool) → stands b ≡ t → taken w (cond t (copy b [] ∷ []) []) ≡ w b
    one true it = omega arith
    one false it = sym (none b it)

    by : (t : Bool) → taken w (plain stands a b) ≡ total w a b
        → taken w (cond t (plain stands a b ++ cond (stands b) (copy b [] ∷ []) []) []) ≡ cond t (total w a b + w b) 0
    by false h = refl
    by true h = let last = one (stands b) refl in
        omega (arith, h, last, taken_append w (plain stands a b) (cond (stands b) (copy b [] ∷ []) []))

taken_once : (w : ℕ → ℕ) (n : ℕ) (loop : Loop) → taken w (once_more n loop) ≡ once w loop
taken_once w n loop = by loop.entry_turn
  where
    by : (t : Bool) → taken w (cond t [] (copy loop.first (n ∷ []) ∷ [])) ≡ cond t 0 (w loop.first)
    by true = refl
    by false = omega arith

taken_text : (stands : ℕ → Bool) (w : ℕ → ℕ) → TakesNone stands w → (n : ℕ) (loops : List Loop) (a b : ℕ)
    → taken w (text stands n loops a b) ≡ size w 0 n loops a b
taken_text stands w none n [] a b = taken_plain stands w none a b
taken_text stands w none n (loop ∷ loops) a b = by (fits loop a b) (λ x y. taken_text stands w none n loops x y)
  where
    by : (t : Bool) → ((x y : ℕ) → taken w (text stands n loops x y) ≡ size w 0 n loops x y)
        → taken w (cond t
        (text stands n loops a loop.first ++ (rounds n (text stands n loops loop.first (suc loop.last))
        ++ (once_more n loop ++ (beyond loop [] ∷ text stands n loops (suc loop.last) b))))
        (text stands n loops a b))
        ≡ cond t
        (size w 0 n loops a loop.first + n * size w 0 n loops loop.first (suc loop.last) + once w loop + 0 + size w 0 n loops (suc loop.last) b)
        (size w 0 n loops a b)
    by false go = go a b
    by true go =
        let one = taken_append w (text stands n loops a loop.first) (rounds n (text stands n loops loop.first (suc loop.last))
        ++ (once_more n loop ++ (beyond loop [] ∷ text stands n loops (suc loop.last) b))) in
        let two = taken_append w (rounds n (text stands n loops loop.first (suc loop.last)))
        (once_more n loop ++ (beyond loop [] ∷ text stands n loops (suc loop.last) b)) in
        let three = taken_append w (once_more n loop) (beyond loop [] ∷ text stands n loops (suc loop.last) b) in
        let turns : taken w (rounds n (text stands n loops loop.first (suc loop.last))) ≡ n * size w 0 n loops loop.first (suc loop.last) =
        taken_rounds w n (text stands n loops loop.first (suc loop.last)) ∙ ap (λ (m : ℕ). n * m) (go loop.first (suc loop.last)) in
        omega (arith, one, two, three, turns, go a loop.first, go (suc loop.last) b, taken_once w n loop)

-- ---- edges

edges_length : (p : Parts) (n t : ℕ) (xs : List CopiedEdge) → length (edges_of p n t xs) ≡ length xs
edges_length p n t [] = refl
edges_length p n t (x ∷ xs) = ap suc (edges_length p n (traps_by (exit_of_copy p x.to) t) xs)

copied_length : (n : ℕ) (loops : List Loop) (i e l : ℕ) (ks : List ℕ) (edges : List Edge)
    → length (copied_edges n loops i e l ks edges) ≡ length (edges_from l edges)
copied_length n loops i e l ks [] = refl
copied_length n loops i e l ks (edge ∷ edges) = by (edge.from == l) (copied_length n loops i (suc e) l ks edges)
  where
    by : (b : Bool) → length (copied_edges n loops i (suc e) l ks edges) ≡ length (edges_from l edges)
        → length (cond b
        (record { from = i; to = target n loops e l edge.to ks; guard = edge.guard; sets = edge.sets } ∷ copied_edges n loops i (suc e) l ks edges)
        (copied_edges n loops i (suc e) l ks edges)) ≡ length (cond b (edge ∷ edges_from l edges) (edges_from l edges))
    by true h = ap suc h
    by false h = h

abbrev edges_at : Parts → ℕ → ℕ
edges_at p l = length (edges_from l p.edges)

all_length : (p : Parts) (n i : ℕ) (cs : List Copy) → length (copied p n i cs) ≡ taken (edges_at p) cs
all_length p n i [] = refl
all_length p n i (copy l ks ∷ cs) =
    let rest = all_length p n (suc i) cs in
    omega (arith, rest, length-append (copied_edges n p.loops i 0 l ks p.edges) (copied p n (suc i) cs), copied_length n p.loops i 0 l ks p.edges)
all_length p n i (beyond loop ks ∷ cs) = let rest = all_length p n (suc i) cs in omega (arith, rest)

-- where a scan is done, and where it traps, no edges begin
pub any_before : (f : ℕ → Bool) (xs ys : List ℕ) → list_any f xs ≡ true → list_any f (xs ++ ys) ≡ true
any_before f [] ys h = absurd (true≢false (sym h))
any_before f (x ∷ xs) ys h = by (or_cases (f x) (list_any f xs) h) (λ g. any_before f xs ys g)
  where
    by : (f x ≡ true) ⊎ (list_any f xs ≡ true) → (list_any f xs ≡ true → list_any f (xs ++ ys) ≡ true) → (f x || list_any f (xs ++ ys)) ≡ true
    by (inl e) go = or_left (f x) (list_any f (xs ++ ys)) e
    by (inr g) go = or_right (f x) (list_any f (xs ++ ys)) (go g)

any_mapped : (l : ℕ) (traps : List TrapEnd) → list_any (λ (end : TrapEnd). end.location == l) traps ≡ true
    → list_any (λ (end : ℕ). end == l) (map (λ (end : TrapEnd). end.location) traps) ≡ true
any_mapped l [] h = h
any_mapped l (end ∷ traps) h = by (or_cases (end.location == l) (list_any (λ (other : TrapEnd). other.location == l) traps) h) (λ g. any_mapped l traps g)
  where
    by : ((end.location == l) ≡ true) ⊎ (list_any (λ (other : TrapEnd). other.location == l) traps ≡ true)
        → (list_any (λ (other : TrapEnd). other.location == l) traps ≡ true
        → list_any (λ (other : ℕ). other == l) (map (λ (other : TrapEnd). other.location) traps) ≡ true)
        → ((end.location == l) || list_any (λ (other : ℕ). other == l) (map (λ (other : TrapEnd). other.location) traps)) ≡ true
    by (inl e) go = or_left (end.location == l) (list_any (λ (other : ℕ). other == l) (map (λ (other : TrapEnd). other.location) traps)) e
    by (inr g) go = or_right (end.location == l) (list_any (λ (other : ℕ). other == l) (map (λ (other : TrapEnd). other.location) traps)) (go g)

ends_off : (p : Parts) (l : ℕ) → stands_in p l ≡ false → is_end p l ≡ true
ends_off p l h = by (or_cases (p.done == l) (list_any (λ (end : TrapEnd). end.location == l) p.traps)
    (not-false ((p.done == l) || list_any (λ (end : TrapEnd). end.location == l) p.traps) h))
  where
    by : ((p.done == l) ≡ true) ⊎ (list_any (λ (end : TrapEnd). end.location == l) p.traps ≡ true) → is_end p l ≡ true
    by (inl e) = or_left (p.done == l)
        (list_any (λ (end : ℕ). end == l) (map (λ (end : TrapEnd). end.location) p.traps ++ map (λ (end : OverEnd). end.location) p.overs)) e
    by (inr g) = or_right (p.done == l)
        (list_any (λ (end : ℕ). end == l) (map (λ (end : TrapEnd). end.location) p.traps ++ map (λ (end : OverEnd). end.location) p.overs))
        (any_before (λ (end : ℕ). end == l) (map (λ (end : TrapEnd). end.location) p.traps) (map (λ (end : OverEnd). end.location) p.overs) (any_mapped l p.traps g))

no_edges_off : (p : Parts) → IsWellMade p → TakesNone (stands_in p) (edges_at p)
no_edges_off p w l off = second (length (calls_from l p.calls)) (length (edges_from l p.edges)) (w.ends l (ends_off p l off))
  where
    second : (a b : ℕ) → a + b ≡ 0 → b ≡ 0
    second a b e = omega (arith, e)

pub edges_are_counted : EdgesAreCounted
edges_are_counted p n f w =
    edges_length p n 0 (copied p n 0 (whole_text p n))
    ∙ all_length p n 0 (whole_text p n)
    ∙ taken_text (stands_in p) (edges_at p) (no_edges_off p w) n p.loops 0 p.locations

-- ---- forward

abbrev pub IsAhead : Parts → ℕ → CopiedEdge → Type 0
IsAhead p n x = (x.from < text_size p n) × (x.from < place_in_text p n x.to)

each_ahead : (p : Parts) (n : ℕ) → IsFaultless p → IsWellMade p → 0 < n → (i e l : ℕ) (ks : List ℕ) (edges : List Edge)
    → IsCopy n p.loops 0 p.locations (copy l ks) → place_in_text p n (copy l ks) ≡ i → stands_in p l ≡ true → i < text_size p n
    → ((j : ℕ) (edge : Edge) → slice_get edges j ≡ Some edge → slice_get p.edges (e + j) ≡ Some edge)
    → AllByRecursion (IsAhead p n) (copied_edges n p.loops i e l ks edges)
each_ahead p n f w some i e l ks [] is number stands short at = tt
each_ahead p n f w some i e l ks (edge ∷ edges) is number stands short at =
    by (edge.from == l) refl (each_ahead p n f w some i (suc e) l ks edges is number stands short
    (λ j other g. subst (λ (m : ℕ). slice_get p.edges m ≡ Some other) (further e j) (at (suc j) other g)))
  where
    further : (e j : ℕ) → e + suc j ≡ suc e + j
    further e j = omega arith

    first : (e : ℕ) → e + 0 ≡ e
    first e = omega arith

    by : (b : Bool) → (edge.from == l) ≡ b → AllByRecursion (IsAhead p n) (copied_edges n p.loops i (suc e) l ks edges)
        → AllByRecursion (IsAhead p n) (cond b
        (record { from = i; to = target n p.loops e l edge.to ks; guard = edge.guard; sets = edge.sets } ∷ copied_edges n p.loops i (suc e) l ks edges)
        (copied_edges n p.loops i (suc e) l ks edges))
    by false off h = h
    by true on h = ((short, omega (arith, rises, number, one)), h)
      where
        same : edge.from ≡ l
        same = eqb-true edge.from l on

        one : one_each (stands_in p) l ≡ 1
        one = ap (λ (t : Bool). cond t 1 0) stands

        rises : place_in_text p n (copy l ks) + one_each (stands_in p) l ≤ place_in_text p n (target n p.loops e l edge.to ks)
        rises = subst (λ (m : ℕ). place_in_text p n (copy m ks) + one_each (stands_in p) m ≤ place_in_text p n (target n p.loops e m edge.to ks)) same
            (copies_lead_forward p n e edge ks (one_each (stands_in p)) 1 f w some
            (subst (λ (m : ℕ). slice_get p.edges m ≡ Some edge) (first e) (at 0 edge refl))
            (subst (λ (m : ℕ). IsCopy n p.loops 0 p.locations (copy m ks)) (sym same) is))

pub all_append : {X : Type 0} (P : X → Type 0) (xs ys : List X) → AllByRecursion P xs → AllByRecursion P ys → AllByRecursion P (xs ++ ys)
all_append P [] ys h g = g
all_append P (x ∷ xs) ys h g = (h.0, all_append P xs ys h.1 g)

pub all_ahead : (p : Parts) (n : ℕ) → IsFaultless p → IsWellMade p → 0 < n → (i : ℕ) (cs : List Copy)
    → Along (IsNumbered (stands_in p) n p.loops 0 p.locations) cs i → i + length cs ≤ text_size p n
    → AllByRecursion (IsAhead p n) (copied p n i cs)
all_ahead p n f w some i [] are le = tt
all_ahead p n f w some i (copy l ks ∷ cs) are le =
    all_append (IsAhead p n) (copied_edges n p.loops i 0 l ks p.edges) (copied p n (suc i) cs)
    (each_ahead p n f w some i 0 l ks p.edges (are.0).0 (are.0).1 (are.0).2 (omega (arith, le))
    (λ j edge g. subst (λ (m : ℕ). slice_get p.edges m ≡ Some edge) (from_none j) g))
    (all_ahead p n f w some (suc i) cs are.1 (omega (arith, le)))
  where
    from_none : (j : ℕ) → j ≡ 0 + j
    from_none j = omega arith
all_ahead p n f w some i (beyond loop ks ∷ cs) are le = all_ahead p n f w some (suc i) cs are.1 (omega (arith, le))

number_ahead : (e : Option End) (i done_at t here : ℕ) → i < done_at → i < here → i < numbered_by e done_at t here
number_ahead None i done_at t here short lt = lt
number_ahead (Some done) i done_at t here short lt = short
number_ahead (Some (trap kind place)) i done_at t here short lt = omega (arith, short)
number_ahead (Some (over place)) i done_at t here short lt = lt

pub edges_ahead : (p : Parts) (n t : ℕ) (xs : List CopiedEdge) → AllByRecursion (IsAhead p n) xs
    → AllByRecursion (λ (edge : Edge). edge.from < edge.to) (edges_of p n t xs)
edges_ahead p n t [] all = tt
edges_ahead p n t (x ∷ xs) all = (
  number_ahead (exit_of_copy p x.to) x.from (text_size p n) t (place_in_text p n x.to) (all.0).0 (all.0).1,
  edges_ahead p n (traps_by (exit_of_copy p x.to) t) xs all.1,
)

pub numbers_lead_forward : NumbersLeadForward
numbers_lead_forward p n f w some = record {
  calls = refl;
  loops = refl;
  forward = All-from_recursion (λ (edge : Edge). edge.from < edge.to) (edges_of p n 0 (copied p n 0 (whole_text p n)))
      (edges_ahead p n 0 (copied p n 0 (whole_text p n))
      (all_ahead p n f w some 0 (whole_text p n) (text_is_numbered p n f w some) (omega (arith, text_is_long p n f w))));
}
