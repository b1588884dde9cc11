-- Ends of the whole: they have numbers of their own, where no edge begins; and each other location has an edge.
use Rattle.std.proofs.Common.{◌≡◌, ℕ, suc, ◌+◌, ◌<◌, ◌≤◌, ◌⊎◌, inl, inr, List, [], ◌∷◌, ◌++◌, map, length, Bool, true, false, not, ◌&&◌, ◌||◌, ◌==◌, cond, Option, Some, None, refl, sym, subst, ap, ◌∙◌, arith}
use Rattle.std.specs.List.{list_any}
use Rattle.std.proofs.lemmas.Bool.{true≢false, false≢true, eqb-true, eq-eqb, ne_eqb, cases_lt, and_parts, or_left, or_right}
use Rattle.std.proofs.lemmas.List.{length-map}
use Rattle.std.proofs.lemmas.Option.{none-some}
use Rattle.pv_flow.specs.Automata.{Edge, CallEdge, TrapEnd, OverEnd, Parts, edges_from, calls_from, ends_of}
use Rattle.pv_flow.specs.WellMade.{is_end, are_different}
use Rattle.pv_flow.specs.Runs.{End, done, trap, over, trap_at, over_at, or_else, end_at}
use Rattle.pv_flow.specs.Calls.{Blocks, block_at, Numbered, call_from}
use Rattle.pv_flow.specs.Fitting.{AreFitting, IsSound, AreSound}
use Rattle.pv_call_copies.specs.Inlined.{width_by, called_at, before, span, Aim, to_location, to_trap, to_over, Body, entry_body, number_in, callee_body, Drawn, drawn_edge, edge_in, edges_out, drawn_from, drawn_by, drawn_below, drawn, drawn_all, location_by, next_by, with_trap, with_over, edges_of, traps_of, overs_of, behind, text_size, inlined}
use Rattle.pv_call_copies.specs.Renaming.{true_term}
use Rattle.pv_call_copies.specs.Correct.{AreFrom}
use Rattle.pv_call_copies.proofs.Levels.{found_called}
use Rattle.pv_call_copies.proofs.Counting.{no_calls, ends_are_ends}
use Rattle.pv_call_copies.proofs.Edges.{trap_not_done, over_not_done, are_below, there_of, sound_at, edges_long}
use Rattle.pv_call_copies.proofs.Placing.{below_stands, before_rises}
use Rattle.pv_call_copies.proofs.Placed.{LeadsOut, PlacedIn, IsKnown, known_of, placed_of, entry_placed, inner_stands, call_drawn, IsOpen, Located, located, none_below, BeginHere, begin_here}

-- ---- numbers of ends

abbrev pub trap_numbers : List TrapEnd → List ℕ
trap_numbers traps = map (λ (t : TrapEnd). t.location) traps

abbrev pub over_numbers : List OverEnd → List ℕ
over_numbers overs = map (λ (t : OverEnd). t.location) overs

abbrev is_in : ℕ → List ℕ → Bool
is_in l ns = list_any (λ m. m == l) ns

abbrev pub end_numbers : ℕ → List Drawn → List ℕ
end_numbers next ds = trap_numbers (traps_of next ds) ++ over_numbers (overs_of next ds)

-- of an edge that leads so, and of those after it
abbrev pub numbers_by : Aim → ℕ → List Drawn → List ℕ
numbers_by aim next ds =
    trap_numbers (with_trap aim next (traps_of (next_by aim next) ds)) ++ over_numbers (with_over aim next (overs_of (next_by aim next) ds))

any_middle : (f : ℕ → Bool) (n : ℕ) (xs ys : List ℕ) → f n ≡ false → list_any f (xs ++ ys) ≡ false → list_any f (xs ++ (n ∷ ys)) ≡ false
any_middle f n [] ys off h = ap (λ (b : Bool). b || list_any f ys) off ∙ h
any_middle f n (x ∷ xs) ys off h = by (f x) h (λ g. any_middle f n xs ys off g)
  where
    by : (b : Bool) → (b || list_any f (xs ++ ys)) ≡ false → (list_any f (xs ++ ys) ≡ false → list_any f (xs ++ (n ∷ ys)) ≡ false)
        → (b || list_any f (xs ++ (n ∷ ys))) ≡ false
    by true g go = absurd (true≢false g)
    by false g go = go g

any_here : (f : ℕ → Bool) (n : ℕ) (xs ys : List ℕ) → f n ≡ true → list_any f (xs ++ (n ∷ ys)) ≡ true
any_here f n [] ys on = or_left (f n) (list_any f ys) on
any_here f n (x ∷ xs) ys on = or_right (f x) (list_any f (xs ++ (n ∷ ys))) (any_here f n xs ys on)

any_more : (f : ℕ → Bool) (n : ℕ) (xs ys : List ℕ) → list_any f (xs ++ ys) ≡ true → list_any f (xs ++ (n ∷ ys)) ≡ true
any_more f n [] ys h = or_right (f n) (list_any f ys) h
any_more f n (x ∷ xs) ys h = by (f x) h (λ g. any_more f n xs ys g)
  where
    by : (b : Bool) → (b || list_any f (xs ++ ys)) ≡ true → (list_any f (xs ++ ys) ≡ true → list_any f (xs ++ (n ∷ ys)) ≡ true)
        → (b || list_any f (xs ++ (n ∷ ys))) ≡ true
    by true g go = refl
    by false g go = go g

-- each is `next` or after it
ends_from : (next l : ℕ) (ds : List Drawn) → l < next → is_in l (end_numbers next ds) ≡ false
ends_from next l [] lt = refl
ends_from next l (d ∷ ds) lt = by d.aim (λ m below. ends_from m l ds below)
  where
    later : l < suc next
    later = omega (arith, lt)

    other : (next == l) ≡ false
    other = ne_eqb next l (λ e. absurd (omega (arith, e, lt)))

    by : (aim : Aim) → ((m : ℕ) → l < m → is_in l (end_numbers m ds) ≡ false) → is_in l (numbers_by aim next ds) ≡ false
    by (to_location k) go = go next lt
    by (to_trap kind place) go =
        ap (λ (b : Bool). b || is_in l (end_numbers (suc next) ds)) other ∙ go (suc next) later
    by (to_over place) go = any_middle (λ m. m == l) next (trap_numbers (traps_of (suc next) ds)) (over_numbers (overs_of (suc next) ds)) other
        (go (suc next) later)

-- and each number from there on is one
ends_to : (next l : ℕ) (ds : List Drawn) → next ≤ l → l < behind next ds → is_in l (end_numbers next ds) ≡ true
ends_to next l [] le lt = absurd (omega (arith, le, lt))
ends_to next l (d ∷ ds) le lt = by d.aim lt (cases_lt next l) (λ m low high. ends_to m l ds low high)
  where
    same : l ≤ next → (next == l) ≡ true
    same g = eq-eqb next l (omega (arith, le, g))

    later : next < l → suc next ≤ l
    later g = omega (arith, g)

    by : (aim : Aim) → l < behind (next_by aim next) ds → (next < l) ⊎ (l ≤ next)
        → ((m : ℕ) → m ≤ l → l < behind m ds → is_in l (end_numbers m ds) ≡ true) → is_in l (numbers_by aim next ds) ≡ true
    by (to_location k) high either go = go next le high
    by (to_trap kind place) high (inl g) go = or_right (next == l) (is_in l (end_numbers (suc next) ds)) (go (suc next) (later g) high)
    by (to_trap kind place) high (inr g) go = or_left (next == l) (is_in l (end_numbers (suc next) ds)) (same g)
    by (to_over place) high (inl g) go =
        any_more (λ m. m == l) next (trap_numbers (traps_of (suc next) ds)) (over_numbers (overs_of (suc next) ds)) (go (suc next) (later g) high)
    by (to_over place) high (inr g) go =
        any_here (λ m. m == l) next (trap_numbers (traps_of (suc next) ds)) (over_numbers (overs_of (suc next) ds)) (same g)

-- ---- no two are equal

or_none : (a b : Bool) → (a || b) ≡ false → (a ≡ false) × (b ≡ false)
or_none true b h = absurd (true≢false h)
or_none false b h = (refl, h)

is_not : (b : Bool) → not b ≡ true → b ≡ false
is_not true h = absurd (false≢true h)
is_not false h = refl

both_so : (a b : Bool) → a ≡ false → b ≡ true → (not a && b) ≡ true
both_so a b h g = ap (λ (c : Bool). not c && b) h ∙ g

still_different : (n : ℕ) (xs ys : List ℕ) → is_in n (xs ++ ys) ≡ false → are_different (xs ++ ys) ≡ true
    → are_different (xs ++ (n ∷ ys)) ≡ true
still_different n [] ys h g = both_so (is_in n ys) (are_different ys) h g
still_different n (x ∷ xs) ys h g =
    both_so (is_in x (xs ++ (n ∷ ys))) (are_different (xs ++ (n ∷ ys)))
    (any_middle (λ m. m == x) n xs ys (turned_round (or_none (x == n) (is_in n (xs ++ ys)) h).0)
    (is_not (is_in x (xs ++ ys)) (and_parts (not (is_in x (xs ++ ys))) (are_different (xs ++ ys)) g).0))
    (still_different n xs ys (or_none (x == n) (is_in n (xs ++ ys)) h).1
    (and_parts (not (is_in x (xs ++ ys))) (are_different (xs ++ ys)) g).1)
  where
    turned_round : (x == n) ≡ false → (n == x) ≡ false
    turned_round off = ne_eqb n x (λ e. absurd (true≢false (sym (eq-eqb x n (sym e)) ∙ off)))

ends_differ : (next : ℕ) (ds : List Drawn) → are_different (end_numbers next ds) ≡ true
ends_differ next [] = refl
ends_differ next (d ∷ ds) = by d.aim (λ m. ends_differ m ds)
  where
    new : is_in next (end_numbers (suc next) ds) ≡ false
    new = ends_from (suc next) next ds (omega arith)

    by : (aim : Aim) → ((m : ℕ) → are_different (end_numbers m ds) ≡ true) → are_different (numbers_by aim next ds) ≡ true
    by (to_location k) go = go next
    by (to_trap kind place) go = both_so (is_in next (end_numbers (suc next) ds)) (are_different (end_numbers (suc next) ds)) new (go (suc next))
    by (to_over place) go = still_different next (trap_numbers (traps_of (suc next) ds)) (over_numbers (overs_of (suc next) ds)) new (go (suc next))

-- ---- where nothing ends

trap_found : (l : ℕ) (traps : List TrapEnd) → is_in l (trap_numbers traps) ≡ true → trap_at l traps ≡ None → ⊥
trap_found l [] any none = false≢true any
trap_found l (t ∷ more) any none = by (t.location == l) any none (λ g h. trap_found l more g h)
  where
    by : (b : Bool) → (b || is_in l (trap_numbers more)) ≡ true → cond b (Some (trap t.kind t.place)) (trap_at l more) ≡ None
        → (is_in l (trap_numbers more) ≡ true → trap_at l more ≡ None → ⊥) → ⊥
    by true g h go = none-some (trap t.kind t.place) (sym h)
    by false g h go = go g h

over_found : (l : ℕ) (overs : List OverEnd) → is_in l (over_numbers overs) ≡ true → over_at l overs ≡ None → ⊥
over_found l [] any none = false≢true any
over_found l (t ∷ more) any none = by (t.location == l) any none (λ g h. over_found l more g h)
  where
    by : (b : Bool) → (b || is_in l (over_numbers more)) ≡ true → cond b (Some (over t.place)) (over_at l more) ≡ None
        → (is_in l (over_numbers more) ≡ true → over_at l more ≡ None → ⊥) → ⊥
    by true g h go = none-some (over t.place) (sym h)
    by false g h go = go g h

any_either : (f : ℕ → Bool) (xs ys : List ℕ) → list_any f (xs ++ ys) ≡ true → (list_any f xs ≡ true) ⊎ (list_any f ys ≡ true)
any_either f [] ys h = inr h
any_either f (x ∷ xs) ys h = by (f x) h (λ g. any_either f xs ys g)
  where
    by : (b : Bool) → (b || list_any f (xs ++ ys)) ≡ true → (list_any f (xs ++ ys) ≡ true → (list_any f xs ≡ true) ⊎ (list_any f ys ≡ true))
        → ((b || list_any f xs) ≡ true) ⊎ (list_any f ys ≡ true)
    by true g go = inl refl
    by false g go = go g

-- an end ends something
pub no_end : (p : Parts) (l : ℕ) → end_at p l ≡ None → is_end p l ≡ false
no_end p l none = by_done (p.done == l) none
  where
    others : Bool
    others = is_in l (trap_numbers p.traps ++ over_numbers p.overs)

    found : (o : Option End) → trap_at l p.traps ≡ o → or_else o (over_at l p.overs) ≡ None → others ≡ true → ⊥
    found None e h any = by (any_either (λ m. m == l) (trap_numbers p.traps) (over_numbers p.overs) any)
      where
        by : (is_in l (trap_numbers p.traps) ≡ true) ⊎ (is_in l (over_numbers p.overs) ≡ true) → ⊥
        by (inl g) = trap_found l p.traps g e
        by (inr g) = over_found l p.overs g h
    found (Some end) e h any = none-some end (sym h)

    by_others : (b : Bool) → others ≡ b → or_else (trap_at l p.traps) (over_at l p.overs) ≡ None → b ≡ false
    by_others true e h = absurd (found (trap_at l p.traps) refl h e)
    by_others false e h = refl

    by_done : (b : Bool) → cond b (Some done) (or_else (trap_at l p.traps) (over_at l p.overs)) ≡ None → (b || others) ≡ false
    by_done true h = absurd (none-some done (sym h))
    by_done false h = by_others others refl h

-- ---- edges that begin at a location

-- those of a location begin at its copy
pub own_edges : (blocks : Blocks) (body : Body) (l next : ℕ) (edges : List Edge)
    → edges_from (number_in blocks body l) (edges_of next (map (drawn_edge blocks body) (edges_from l edges)))
    ≡ edges_of next (map (drawn_edge blocks body) (edges_from l edges))
own_edges blocks body l next [] = refl
own_edges blocks body l next (edge ∷ edges) = by (edge.from == l) refl (λ m. own_edges blocks body l m edges)
  where
    here : ℕ
    here = number_in blocks body l

    own : List Drawn
    own = map (drawn_edge blocks body) (edges_from l edges)

    d : Drawn
    d = drawn_edge blocks body edge

    first : Edge
    first = record { from = d.from; to = location_by d.aim next; guard = d.guard; sets = d.sets }

    by : (b : Bool) → (edge.from == l) ≡ b → ((m : ℕ) → edges_from here (edges_of m own) ≡ edges_of m own)
        → edges_from here (edges_of next (map (drawn_edge blocks body) (cond b (edge ∷ edges_from l edges) (edges_from l edges))))
        ≡ edges_of next (map (drawn_edge blocks body) (cond b (edge ∷ edges_from l edges) (edges_from l edges)))
    by true on go =
        ap (λ (b : Bool). cond b (first ∷ edges_from here (edges_of (next_by d.aim next) own)) (edges_from here (edges_of (next_by d.aim next) own)))
        (eq-eqb d.from here (ap (λ (k : ℕ). number_in blocks body k) (eqb-true edge.from l on)))
        ∙ ap (λ (es : List Edge). first ∷ es) (go (next_by d.aim next))
    by false off go = go next

-- of these the first begins there
one_first : (here next : ℕ) (d : Drawn) (ds : List Drawn) → d.from ≡ here → 0 < length (edges_from here (edges_of next (d ∷ ds)))
one_first here next d ds e =
    subst (λ (b : Bool). 0 < length (cond b (first ∷ others) others)) (sym (eq-eqb d.from here e)) (some (length others))
  where
    first : Edge
    first = record { from = d.from; to = location_by d.aim next; guard = d.guard; sets = d.sets }

    others : List Edge
    others = edges_from here (edges_of (next_by d.aim next) ds)

    some : (n : ℕ) → 0 < suc n
    some n = omega arith

-- a location of the text that isn't where the whole is done has an edge
has_edge : (blocks : Blocks) → AreFitting blocks → AreSound blocks → (b : ℕ) (entry : Parts) (number start : ℕ)
    → (x : Located blocks b entry number) → (number ≡ number_in blocks (entry_body entry) entry.done → ⊥)
    → 0 < length (edges_from (number_in blocks x.body x.location)
    (edges_of start (drawn_by blocks (drawn blocks) x.body x.location (end_at x.body.work.parts x.location))))
has_edge blocks fit sound b entry number start x away = by_end (end_at p l) refl
  where
    body : Body
    body = x.body

    p : Parts
    p = body.work.parts

    l : ℕ
    l = x.location

    here : ℕ
    here = number_in blocks body l

    known : IsKnown blocks p
    known = known_of blocks b entry body x.path

    s : IsSound p
    s = sound_at blocks sound known.block p known.is

    long_of : List Drawn → ℕ
    long_of ds = length (edges_from here (edges_of start ds))

    own : end_at p l ≡ None → call_from l 0 p.calls ≡ None → 0 < long_of (map (drawn_edge blocks body) (edges_from l p.edges))
    own none no_call = subst (λ (n : ℕ). 0 < n) (sym long)
        (some (length (calls_from l p.calls)) (length (edges_from l p.edges)) (ap (λ (calls : List CallEdge). length calls) (no_calls l 0 p.calls no_call))
        (s.well_made.others l x.exists (no_end p l none)))
      where
        long : long_of (map (drawn_edge blocks body) (edges_from l p.edges)) ≡ length (edges_from l p.edges)
        long = ap (λ (edges : List Edge). length edges) (own_edges blocks body l start p.edges)
            ∙ (edges_long start (map (drawn_edge blocks body) (edges_from l p.edges))
            ∙ length-map (edges_from l p.edges) (drawn_edge blocks body))

        some : (a b : ℕ) → a ≡ 0 → 0 < a + b → 0 < b
        some a b e h = omega (arith, e, h)

    called : end_at p l ≡ None → (c : Numbered) → call_from l 0 p.calls ≡ Some c → (o : Option Parts) → block_at blocks c.call.block ≡ o
        → 0 < long_of (drawn_by blocks (drawn blocks) body l (end_at p l))
    called none c call None e = absurd (there_of blocks fit known.block p known.is c.call.block (found_called l 0 p.calls c call) e)
    called none c call (Some q) e =
        subst (λ (ds : List Drawn). 0 < long_of ds) (sym (call_drawn blocks fit body l c q none call e))
        (one_first here start (edge_in blocks (callee_body blocks body l c q) here)
        (drawn_below blocks (drawn blocks) (callee_body blocks body l c q) q.locations) refl)

    by_call : end_at p l ≡ None → (o : Option Numbered) → call_from l 0 p.calls ≡ o
        → 0 < long_of (drawn_by blocks (drawn blocks) body l (end_at p l))
    by_call none None call = subst (λ (end : Option End). 0 < long_of (drawn_by blocks (drawn blocks) body l end)) (sym none)
        (subst (λ (o : Option Numbered). 0 < long_of (drawn_from blocks (drawn blocks) body l o)) (sym call) (own none call))
    by_call none (Some c) call = called none c call (block_at blocks c.call.block) refl

    is_done : end_at p l ≡ Some done → p.done ≡ l
    is_done e = by (p.done == l) refl e
      where
        by : (b : Bool) → (p.done == l) ≡ b → cond b (Some done) (or_else (trap_at l p.traps) (over_at l p.overs)) ≡ Some done → p.done ≡ l
        by true on h = eqb-true p.done l on
        by false off h = absurd (others (trap_at l p.traps) refl h)
          where
            others : (o : Option End) → trap_at l p.traps ≡ o → or_else o (over_at l p.overs) ≡ Some done → ⊥
            others None f g = over_not_done l p.overs g
            others (Some end) f g = trap_not_done l p.traps (f ∙ g)

    leads : (out : Option Aim) → LeadsOut (entry_body entry) body out → end_at p l ≡ Some done → 0 < long_of (edges_out out here)
    leads None root e = absurd (away (x.is ∙ subst (λ (b : Body). number_in blocks body l ≡ number_in blocks b b.work.parts.done) (sym root)
        (ap (λ (k : ℕ). number_in blocks body k) (sym (is_done e)))))
    leads (Some aim) root e = one_first here start (record { from = here; aim = aim; guard = true_term; sets = [] }) [] refl

    by_end : (end : Option End) → end_at p l ≡ end → 0 < long_of (drawn_by blocks (drawn blocks) body l (end_at p l))
    by_end None e = by_call e (call_from l 0 p.calls) refl
    by_end (Some done) e = subst (λ (end : Option End). 0 < long_of (drawn_by blocks (drawn blocks) body l end)) (sym e)
        (leads body.out (placed_of blocks fit b entry body x.path).placed.rooted e)
    by_end (Some (trap kind place)) e = absurd (subst IsOpen e x.opens)
    by_end (Some (over place)) e = absurd (subst IsOpen e x.opens)

-- ---- the whole

-- no edge begins where something ends, and one does at each other location
pub record HasEnds (p : Parts) : Type 0 where
  pub ends : (l : ℕ) → is_end p l ≡ true → edges_from l p.edges ≡ []
  pub others : (l : ℕ) → l < p.locations → is_end p l ≡ false → 0 < length (edges_from l p.edges)
  pub different : are_different (ends_of p) ≡ true
  pub begins : is_end p 0 ≡ false

-- what an entry's `done` and its beginning have after them
pub entry_numbers : (blocks : Blocks) (p : Parts) → IsSound p
    → (0 < before (span blocks) p p.done) × (before (span blocks) p p.done < before (span blocks) p p.locations)
entry_numbers blocks p s = (
  least (before (span blocks) p 1) (before (span blocks) p p.done) (before_rises (span blocks) p 1 p.done (not_first (p.done == 0) refl)) first_wide,
  most (before (span blocks) p p.done) (before (span blocks) p (suc p.done)) (before (span blocks) p p.locations)
      (width_by (end_at p p.done) (called_at (span blocks) p p.done)) refl done_wide
      (before_rises (span blocks) p (suc p.done) p.locations (up (are_below p s.faultless).is_done)),
)
  where
    least : (a b : ℕ) → a ≤ b → 0 < a → 0 < b
    least a b h g = omega (arith, h, g)

    most : (a b c w : ℕ) → b ≡ a + w → w ≡ 1 → b ≤ c → a < c
    most a b c w e f h = omega (arith, e, f, h)

    up : p.done < p.locations → suc p.done ≤ p.locations
    up h = omega (arith, h)

    begins : is_end p 0 ≡ false
    begins = s.well_made.begins

    not_first : (b : Bool) → (p.done == 0) ≡ b → 1 ≤ p.done
    not_first true on = absurd (true≢false (sym (or_left (p.done == 0) (is_in 0 (trap_numbers p.traps ++ over_numbers p.overs)) on) ∙ begins))
    not_first false off = positive (λ e. absurd (true≢false (sym (eq-eqb p.done 0 e) ∙ off)))
      where
        positive : (p.done ≡ 0 → ⊥) → 1 ≤ p.done
        positive h = omega (arith, h)

    open_at_first : (o : Option End) → end_at p 0 ≡ o → 0 < width_by o (called_at (span blocks) p 0)
    open_at_first None e = omega arith
    open_at_first (Some end) e = absurd (true≢false (sym (ends_are_ends p 0 end e) ∙ begins))

    first_wide : 0 < before (span blocks) p 1
    first_wide = grown (width_by (end_at p 0) (called_at (span blocks) p 0)) (open_at_first (end_at p 0) refl)
      where
        grown : (w : ℕ) → 0 < w → 0 < 0 + w
        grown w h = omega (arith, h)

    done_wide : width_by (end_at p p.done) (called_at (span blocks) p p.done) ≡ 1
    done_wide = ap (λ (end : Option End). width_by end (called_at (span blocks) p p.done))
        (ap (λ (b : Bool). cond b (Some done) (or_else (trap_at p.done p.traps) (over_at p.done p.overs))) (eq-eqb p.done p.done refl))

-- all edges begin in the text
pub all_stand : (blocks : Blocks) → AreFitting blocks → (p : Parts) → AreFrom 0 (text_size blocks p) (drawn_all blocks p)
all_stand blocks fit p = subst (λ (n : ℕ). AreFrom 0 n (drawn_all blocks p)) (plain (text_size blocks p))
    (below_stands blocks (drawn blocks) (entry_body p) p.locations (inner_stands blocks fit (entry_body p)))
  where
    plain : (n : ℕ) → 0 + n ≡ n
    plain n = omega arith

pub locations_are_made : (blocks : Blocks) → AreFitting blocks → AreSound blocks → (b : ℕ) (p : Parts) → block_at blocks b ≡ Some p
    → HasEnds (inlined blocks p)
locations_are_made blocks fit sound b p at = record {
  ends = λ l end. no_edges l (number == l) refl end;
  others = λ l lt off. there l lt off (cases_lt l top);
  different = both_so (is_in number (end_numbers top ds)) (are_different (end_numbers top ds)) (ends_from top number ds below_top) (ends_differ top ds);
  begins = ap (λ (c : Bool). c || is_in 0 (end_numbers top ds)) (ne_eqb number 0 (λ e. absurd (away_from e))) ∙ ends_from top 0 ds first_below;
}
  where
    s : IsSound p
    s = sound_at blocks sound b p at

    entry : Body
    entry = entry_body p

    top : ℕ
    top = text_size blocks p

    ds : List Drawn
    ds = drawn_all blocks p

    number : ℕ
    number = number_in blocks entry p.done

    edges : List Edge
    edges = edges_of top ds

    numbers : (0 < before (span blocks) p p.done) × (before (span blocks) p p.done < before (span blocks) p p.locations)
    numbers = entry_numbers blocks p s

    below_top : number < top
    below_top = shift (before (span blocks) p p.done) (before (span blocks) p p.locations) numbers.1
      where
        shift : (a c : ℕ) → a < c → 0 + a < c
        shift a c h = omega (arith, h)

    first_below : 0 < top
    first_below = less (before (span blocks) p p.done) (before (span blocks) p p.locations) numbers.1
      where
        less : (a c : ℕ) → a < c → 0 < c
        less a c h = omega (arith, h)

    away_from : number ≡ 0 → ⊥
    away_from e = zero_is (before (span blocks) p p.done) numbers.0 e
      where
        zero_is : (a : ℕ) → 0 < a → 0 + a ≡ 0 → ⊥
        zero_is a h g = omega (arith, h, g)

    stands : AreFrom 0 top ds
    stands = all_stand blocks fit p

    done_edges : edges_from number edges ≡ []
    done_edges = here.are ∙ ap (λ (end : Option End). edges_from number (edges_of here.start (drawn_by blocks (drawn blocks) entry p.done end))) at_done
      where
        at_done : end_at p p.done ≡ Some done
        at_done = ap (λ (c : Bool). cond c (Some done) (or_else (trap_at p.done p.traps) (over_at p.done p.overs))) (eq-eqb p.done p.done refl)

        here : BeginHere blocks top ds entry p.done
        here = begin_here blocks fit entry top top ds entry [] [] p.done (entry_placed blocks b p at) (are_below p s.faultless).is_done
            (subst IsOpen (sym at_done) tt)

    no_edges : (l : ℕ) (c : Bool) → (number == l) ≡ c → (c || is_in l (end_numbers top ds)) ≡ true → edges_from l edges ≡ []
    no_edges l true on end = subst (λ (k : ℕ). edges_from k edges ≡ []) (eqb-true number l on) done_edges
    no_edges l false off end = beyond (cases_lt l top)
      where
        beyond : (l < top) ⊎ (top ≤ l) → edges_from l edges ≡ []
        beyond (inl lt) = absurd (true≢false (sym end ∙ ends_from top l ds lt))
        beyond (inr le) = none_below l top 0 top ds le stands

    there : (l : ℕ) → l < behind top ds → ((number == l) || is_in l (end_numbers top ds)) ≡ false → (l < top) ⊎ (top ≤ l)
        → 0 < length (edges_from l edges)
    there l lt off (inr le) = absurd (true≢false (sym (or_right (number == l) (is_in l (end_numbers top ds)) (ends_to top l ds le lt)) ∙ off))
    there l lt off (inl low) =
        subst (λ (k : ℕ). 0 < length (edges_from k edges)) (sym x.is)
        (subst (λ (es : List Edge). 0 < length es) (sym here.are)
        (has_edge blocks fit sound b p l here.start x (λ e. absurd (true≢false (sym (eq-eqb number l (sym e)) ∙ (or_none (number == l) (is_in l (end_numbers top ds)) off).0)))))
      where
        x : Located blocks b p l
        x = located blocks fit b p at l low

        here : BeginHere blocks top ds x.body x.location
        here = begin_here blocks fit entry top top ds x.body at_x.front at_x.back x.location at_x.placed x.exists x.opens
          where
            at_x : PlacedIn blocks p x.body
            at_x = placed_of blocks fit b p x.body x.path
