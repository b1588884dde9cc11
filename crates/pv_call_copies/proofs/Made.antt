-- The automaton with copies has no fault and is well made.
use Rattle.std.proofs.Common.{◌≡◌, ℕ, zero, suc, ◌+◌, ◌<◌, ◌≤◌, ◌⊎◌, inl, inr, List, [], ◌∷◌, ◌++◌, map, length, slice_get, Bool, true, false, not, ◌&&◌, ◌||◌, ◌==◌, nat_lt, nat_le, cond, IfSome, Option, Some, None, refl, sym, subst, ap, ◌∙◌, arith}
use Rattle.std.specs.List.{AllByRecursion, list_all}
use Rattle.std.proofs.lemmas.Bool.{lt-ltb, le-leb, cases_lt, and_parts, eq-eqb}
use Rattle.std.proofs.lemmas.List.Elements.{recursion_from_All, All-from_recursion}
use Rattle.std.proofs.lemmas.Option.{none-some}
use Rattle.pv_flow.specs.Automata.{Edge, CallEdge, Loop, TrapEnd, OverEnd, Parts, holds, holds_loop}
use Rattle.pv_flow.specs.Faults.{has_ends, has_locations, cross, enters_well, is_entered_well, is_loop}
use Rattle.pv_flow.specs.WellMade.{turns_well, leads_well, IsLoop, AreApart}
use Rattle.pv_flow.specs.Runs.{End, done, trap_at, over_at, or_else, end_at}
use Rattle.pv_flow.specs.Calls.{Blocks}
use Rattle.pv_flow.specs.Fitting.{AreFitting, IsSound}
use Rattle.pv_call_copies.specs.Inlined.{Aim, to_location, to_trap, to_over, Body, entry_body, number_in, Drawn, drawn_all, drawn_loop, loops_from, laid_by, laid_below, laid, location_by, next_by, with_trap, with_over, edges_of, traps_of, overs_of, behind, text_size, inlined}
use Rattle.pv_call_copies.specs.Correct.{AreFrom, AreMade, AreEntered, InlinedIsWellMade}
use Rattle.pv_call_copies.proofs.Levels.{IsCalled, drawn_is}
use Rattle.pv_call_copies.proofs.Edges.{sound_at, edges_long}
use Rattle.pv_call_copies.proofs.Placed.{end_of_body, IsOpen}
use Rattle.pv_call_copies.proofs.Ending.{trap_numbers, over_numbers, end_numbers, numbers_by, entry_numbers, all_stand}
use Rattle.pv_call_copies.proofs.Guards.{parts_are_made}
use Rattle.pv_call_copies.proofs.Aims.{AimsWithin, AreWithin, copies_within, rises_in}
use Rattle.pv_call_copies.proofs.Holding.{is_false, held_of, IsHeld, alike_at, end_not_held}
use Rattle.pv_call_copies.proofs.LoopEdges.{IsGoodLoop}
use Rattle.pv_call_copies.proofs.Laid.{good_loops, loops_are_entered}
use Rattle.pv_call_copies.proofs.Forward.{edges_lead}
use Rattle.pv_call_copies.proofs.Pairs.{IsPair, Pairs, all_append}
use Rattle.pv_call_copies.proofs.Paired.{IsCalledAt, called_part, each_so, LiesIn, HasPairs, PairsIn, copies_pairs, whole_pairs}

-- ---- where a copy is done no loop of it is held

not_called : (blocks : Blocks) (body : Body) (i l m : ℕ) (end : End) (y : Loop) → IsCalledAt blocks body i l y → end_at body.work.parts m ≡ Some end
    → holds y (number_in blocks body m) ≡ false
not_called blocks body i l m end y h e = is_false (holds y (number_in blocks body m)) (λ held. by (held_of y (number_in blocks body m) held) (cases_lt m l) (cases_lt l m))
  where
    here : ℕ
    here = number_in blocks body m

    low : (a b c : ℕ) → a ≤ b → suc b ≤ c → c ≤ a → ⊥
    low a b c f g k = omega (arith, f, g, k)

    high : (a b c : ℕ) → a ≤ b → b ≤ c → c < a → ⊥
    high a b c f g k = omega (arith, f, g, k)

    up : (a b : ℕ) → a < b → suc a ≤ b
    up a b f = omega (arith, f)

    weak : (a b : ℕ) → a < b → a ≤ b
    weak a b f = omega (arith, f)

    same : m ≡ l → ⊥
    same f = none-some end (sym h.goes_on ∙ (ap (λ (n : ℕ). end_at body.work.parts n) (sym f) ∙ e))

    by : IsHeld y here → (m < l) ⊎ (l ≤ m) → (l < m) ⊎ (m ≤ l) → ⊥
    by held (inl lt) other = low here (number_in blocks body l) y.first (rises_in blocks body m l (weak m l lt)) h.within.first held.from
    by held (inr ge) (inl lt) = high (number_in blocks body (suc l)) here y.last (rises_in blocks body (suc l) m (up l m lt)) held.to h.within.last
    by held (inr ge) (inr le) = same (omega (arith, ge, le))

own_free : (blocks : Blocks) (body : Body) (i l m : ℕ) (end : End) → end_at body.work.parts m ≡ Some end → IsOpen (end_at body.work.parts m)
    → (loops : List Loop) → AllByRecursion (IsGoodLoop blocks body) loops
    → AllByRecursion (λ (x : Loop). holds x (number_in blocks body m) ≡ false) (map (drawn_loop blocks body i) (loops_from l loops))
own_free blocks body i l m end e free [] are = tt
own_free blocks body i l m end e free (loop ∷ loops) are = by (loop.first == l) (own_free blocks body i l m end e free loops are.1)
  where
    by : (b : Bool) → AllByRecursion (λ (x : Loop). holds x (number_in blocks body m) ≡ false) (map (drawn_loop blocks body i) (loops_from l loops))
        → AllByRecursion (λ (x : Loop). holds x (number_in blocks body m) ≡ false)
        (map (drawn_loop blocks body i) (cond b (loop ∷ loops_from l loops) (loops_from l loops)))
    by true h = ((alike_at blocks body i loop (are.0).own m free).held ∙ end_not_held body.work.parts loop (are.0).own.is m end e, h)
    by false h = h

below_free : (blocks : Blocks) → AreFitting blocks → (body : Body) (i m : ℕ) (end : End) → IsSound body.work.parts
    → ((c : ℕ) → IsCalled body.work.parts.calls c → PairsIn blocks c) → end_at body.work.parts m ≡ Some end → IsOpen (end_at body.work.parts m) → (n : ℕ)
    → AllByRecursion (λ (x : Loop). holds x (number_in blocks body m) ≡ false) (laid_below blocks (laid blocks) body i n)
below_free blocks fit body i m end s inner e free zero = tt
below_free blocks fit body i m end s inner e free (suc n) =
    all_append Free (laid_below blocks (laid blocks) body i n) (own ++ new) (below_free blocks fit body i m end s inner e free n)
    (all_append Free own new (own_free blocks body i n m end e free body.work.parts.loops (good_loops blocks body s))
    (each_so (IsCalledAt blocks body i n) Free new (λ y h. not_called blocks body i n m end y h e) (called_part blocks fit body i n inner).each))
  where
    Free : Loop → Type 0
    Free x = holds x (number_in blocks body m) ≡ false

    own : List Loop
    own = map (drawn_loop blocks body i) (loops_from n body.work.parts.loops)

    new : List Loop
    new = laid_by blocks (laid blocks) body i n (end_at body.work.parts n)

-- ---- ends

pub behind_rises : (next : ℕ) (ds : List Drawn) → next ≤ behind next ds
behind_rises next [] = omega arith
behind_rises next (d ∷ ds) = by d.aim (λ m. behind_rises m ds)
  where
    by : (aim : Aim) → ((m : ℕ) → m ≤ behind m ds) → next ≤ behind (next_by aim next) ds
    by (to_location l) go = go next
    by (to_trap kind place) go = weak (behind (suc next) ds) (go (suc next))
      where
        weak : (a : ℕ) → suc next ≤ a → next ≤ a
        weak a h = omega (arith, h)
    by (to_over place) go = weak (behind (suc next) ds) (go (suc next))
      where
        weak : (a : ℕ) → suc next ≤ a → next ≤ a
        weak a h = omega (arith, h)

and_so : (a b : Bool) → a ≡ true → b ≡ true → (a && b) ≡ true
and_so a b h g = ap (λ (c : Bool). c && b) h ∙ g

traps_below : (next n : ℕ) (ds : List Drawn) → behind next ds ≤ n → list_all (λ (t : TrapEnd). nat_lt t.location n) (traps_of next ds) ≡ true
traps_below next n [] le = refl
traps_below next n (d ∷ ds) le = by d.aim le (λ m h. traps_below m n ds h)
  where
    by : (aim : Aim) → behind (next_by aim next) ds ≤ n
        → ((m : ℕ) → behind m ds ≤ n → list_all (λ (t : TrapEnd). nat_lt t.location n) (traps_of m ds) ≡ true)
        → list_all (λ (t : TrapEnd). nat_lt t.location n) (with_trap aim next (traps_of (next_by aim next) ds)) ≡ true
    by (to_location l) h go = go next h
    by (to_trap kind place) h go = and_so (nat_lt next n) (list_all (λ (t : TrapEnd). nat_lt t.location n) (traps_of (suc next) ds))
        (lt-ltb next n (below (behind (suc next) ds) (behind_rises (suc next) ds) h)) (go (suc next) h)
      where
        below : (a : ℕ) → suc next ≤ a → a ≤ n → next < n
        below a f g = omega (arith, f, g)
    by (to_over place) h go = go (suc next) h

overs_below : (next n : ℕ) (ds : List Drawn) → behind next ds ≤ n → list_all (λ (t : OverEnd). nat_lt t.location n) (overs_of next ds) ≡ true
overs_below next n [] le = refl
overs_below next n (d ∷ ds) le = by d.aim le (λ m h. overs_below m n ds h)
  where
    by : (aim : Aim) → behind (next_by aim next) ds ≤ n
        → ((m : ℕ) → behind m ds ≤ n → list_all (λ (t : OverEnd). nat_lt t.location n) (overs_of m ds) ≡ true)
        → list_all (λ (t : OverEnd). nat_lt t.location n) (with_over aim next (overs_of (next_by aim next) ds)) ≡ true
    by (to_location l) h go = go next h
    by (to_trap kind place) h go = go (suc next) h
    by (to_over place) h go = and_so (nat_lt next n) (list_all (λ (t : OverEnd). nat_lt t.location n) (overs_of (suc next) ds))
        (lt-ltb next n (below (behind (suc next) ds) (behind_rises (suc next) ds) h)) (go (suc next) h)
      where
        below : (a : ℕ) → suc next ≤ a → a ≤ n → next < n
        below a f g = omega (arith, f, g)

all_middle : (f : ℕ → Bool) (n : ℕ) (xs ys : List ℕ) → f n ≡ true → list_all f (xs ++ ys) ≡ true → list_all f (xs ++ (n ∷ ys)) ≡ true
all_middle f n [] ys on h = and_so (f n) (list_all f ys) on h
all_middle f n (x ∷ xs) ys on h =
    let parts = and_parts (f x) (list_all f (xs ++ ys)) h in
    and_so (f x) (list_all f (xs ++ (n ∷ ys))) parts.0 (all_middle f n xs ys on parts.1)

-- a loop that ends before the ends holds none
ends_free : (loop : Loop) (next : ℕ) (ds : List Drawn) → loop.last < next → list_all (λ end. not (holds loop end)) (end_numbers next ds) ≡ true
ends_free loop next [] lt = refl
ends_free loop next (d ∷ ds) lt = by d.aim (λ m h. ends_free loop m ds h)
  where
    far : (n : ℕ) → loop.last < n → not (holds loop n) ≡ true
    far n h = ap not (is_false (holds loop n) (λ held. never loop.last n h (held_of loop n held).to))
      where
        never : (a b : ℕ) → a < b → b ≤ a → ⊥
        never a b f g = omega (arith, f, g)

    later : loop.last < suc next
    later = omega (arith, lt)

    by : (aim : Aim) → ((m : ℕ) → loop.last < m → list_all (λ end. not (holds loop end)) (end_numbers m ds) ≡ true)
        → list_all (λ end. not (holds loop end)) (numbers_by aim next ds) ≡ true
    by (to_location l) go = go next lt
    by (to_trap kind place) go = and_so (not (holds loop next)) (list_all (λ end. not (holds loop end)) (end_numbers (suc next) ds)) (far next lt) (go (suc next) later)
    by (to_over place) go = all_middle (λ end. not (holds loop end)) next (trap_numbers (traps_of (suc next) ds)) (over_numbers (overs_of (suc next) ds)) (far next lt)
        (go (suc next) later)

-- ---- locations

edges_below : (blocks : Blocks) (body : Body) (next top n : ℕ) (ds : List Drawn) → behind next ds ≤ n → top ≤ n → body.out ≡ None
    → end_of_body blocks body ≤ n → AreFrom 0 top ds → AreWithin blocks body ds
    → list_all (λ (edge : Edge). nat_lt edge.from n && nat_lt edge.to n) (edges_of next ds) ≡ true
edges_below blocks body next top n [] le more out ends from within = refl
edges_below blocks body next top n (d ∷ ds) le more out ends from within =
    and_so (nat_lt d.from n && nat_lt (location_by d.aim next) n)
    (list_all (λ (edge : Edge). nat_lt edge.from n && nat_lt edge.to n) (edges_of (next_by d.aim next) ds))
    (and_so (nat_lt d.from n) (nat_lt (location_by d.aim next) n) (lt-ltb d.from n (chain d.from top (from.0).below)) (lt-ltb (location_by d.aim next) n (to d.aim within.0 le)))
    (edges_below blocks body (next_by d.aim next) top n ds le more out ends from.1 within.1)
  where
    chain : (a b : ℕ) → a < top → a < n
    chain a b h = omega (arith, h, more)

    ended : (a : ℕ) → suc next ≤ a → a ≤ n → next < n
    ended a f g = omega (arith, f, g)

    inside : (m : ℕ) → m < end_of_body blocks body → m < n
    inside m h = omega (arith, h, ends)

    to : (aim : Aim) → AimsWithin blocks body aim → behind (next_by aim next) ds ≤ n → location_by aim next < n
    to (to_location m) (inl both) h = inside m both.1
    to (to_location m) (inr e) h = absurd (none-some (to_location m) (sym out ∙ e))
    to (to_trap kind place) within_it h = ended (behind (suc next) ds) (behind_rises (suc next) ds) h
    to (to_over place) within_it h = ended (behind (suc next) ds) (behind_rises (suc next) ds) h

-- ---- loops

self_clear : (x : Loop) → cross x x ≡ false
self_clear x = ap (λ (b : Bool). ((nat_le x.first x.last && nat_le x.first x.last) && not b) && not (holds_loop x x))
    (and_so (nat_le x.first x.first) (nat_le x.last x.last) (le-leb x.first x.first (omega arith)) (le-leb x.last x.last (omega arith)))
    ∙ by (nat_le x.first x.last && nat_le x.first x.last)
  where
    by : (b : Bool) → ((b && false) && not (holds_loop x x)) ≡ false
    by true = refl
    by false = refl

abbrev ClearOf : List Loop → Loop → Type 0
ClearOf all x = AllByRecursion (λ (y : Loop). cross x y ≡ false) all

clear_row : (x : Loop) (ys : List Loop) → AllByRecursion (IsPair x) ys → ClearOf ys x
clear_row x [] are = tt
clear_row x (y ∷ ys) are = ((are.0).clear, clear_row x ys are.1)

clear_tail : (x : Loop) (zs all : List Loop) → AllByRecursion (IsPair x) zs → AllByRecursion (ClearOf all) zs → AllByRecursion (ClearOf (x ∷ all)) zs
clear_tail x [] all are rows = tt
clear_tail x (z ∷ zs) all are rows = (((are.0).back, rows.0), clear_tail x zs all are.1 rows.1)

all_clear : (xs : List Loop) → Pairs xs → AllByRecursion (ClearOf xs) xs
all_clear [] are = tt
all_clear (x ∷ xs) are = ((self_clear x, clear_row x xs are.0), clear_tail x xs xs are.0 (all_clear xs are.1))

crosses_none : (x : Loop) (ys : List Loop) → ClearOf ys x → list_all (λ other. not (cross x other)) ys ≡ true
crosses_none x [] are = refl
crosses_none x (y ∷ ys) are = and_so (not (cross x y)) (list_all (λ other. not (cross x other)) ys) (ap not are.0) (crosses_none x ys are.1)

list_all_by : (f : Edge → Bool) (edges : List Edge) → ((n : ℕ) (edge : Edge) → slice_get edges n ≡ Some edge → f edge ≡ true) → list_all f edges ≡ true
list_all_by f [] h = refl
list_all_by f (x ∷ edges) h = and_so (f x) (list_all f edges) (h 0 x refl) (list_all_by f edges (λ n edge at. h (suc n) edge at))

turns_there : (n from : ℕ) (turns : List ℕ) → AllByRecursion (λ (t : ℕ). (from ≤ t) × (t < 0 + n)) turns → list_all (λ e. nat_lt e n) turns ≡ true
turns_there n from [] are = refl
turns_there n from (t ∷ turns) are =
    and_so (nat_lt t n) (list_all (λ e. nat_lt e n) turns) (lt-ltb t n (plain n (are.0).1)) (turns_there n from turns are.1)
  where
    plain : (m : ℕ) → t < 0 + m → t < m
    plain m h = omega (arith, h)

apart_row : (x : Loop) (ys : List Loop) → AllByRecursion (IsPair x) ys → (j : ℕ) → IfSome (slice_get ys j) (λ other. AreApart x other)
apart_row x [] are j = tt
apart_row x (y ∷ ys) are zero = (are.0).apart
apart_row x (y ∷ ys) are (suc j) = apart_row x ys are.1 j

apart_at : (xs : List Loop) → Pairs xs → (i j : ℕ) → i < j → IfSome (slice_get xs i) (λ loop. IfSome (slice_get xs j) (λ other. AreApart loop other))
apart_at [] are i j lt = tt
apart_at (x ∷ xs) are zero zero lt = absurd (omega (arith, lt))
apart_at (x ∷ xs) are zero (suc j) lt = apart_row x xs are.0 j
apart_at (x ∷ xs) are (suc i) zero lt = absurd (omega (arith, lt))
apart_at (x ∷ xs) are (suc i) (suc j) lt = apart_at xs are.1 i j (omega (arith, lt))

some_or : {X : Type 0} (o : Option X) (P : X → Type 0) → ((x : X) → o ≡ Some x → P x) → IfSome o P
some_or None P h = tt
some_or (Some x) P h = h x refl

-- ---- the whole

-- what is known of a loop of the whole
record IsReady (blocks : Blocks) (p : Parts) (all : List Loop) (x : Loop) : Type 0 where
  entered : AreEntered (inlined blocks p) x
  lies : LiesIn blocks (entry_body p) 0 x
  free : holds x (number_in blocks (entry_body p) p.done) ≡ false
  clear : ClearOf all x

all_ready : (blocks : Blocks) (p : Parts) (all xs : List Loop) → AllByRecursion (AreEntered (inlined blocks p)) xs
    → AllByRecursion (LiesIn blocks (entry_body p) 0) xs → AllByRecursion (λ (x : Loop). holds x (number_in blocks (entry_body p) p.done) ≡ false) xs
    → AllByRecursion (ClearOf all) xs → AllByRecursion (IsReady blocks p all) xs
all_ready blocks p all [] entered lies free clear = tt
all_ready blocks p all (x ∷ xs) entered lies free clear = (
  record { entered = entered.0; lies = lies.0; free = free.0; clear = clear.0 },
  all_ready blocks p all xs entered.1 lies.1 free.1 clear.1,
)

pub inlined_is_well_made : InlinedIsWellMade
inlined_is_well_made blocks b p fit sound at = (
  record { locations = locations; variables = made.variables; loops = loops_well W facts },
  record {
    vars = made.vars;
    counts = made.counts;
    edges = made.edges;
    guards = made.guards;
    calls = made.calls;
    ends = made.ends;
    others = made.others;
    different = made.different;
    begins = made.begins;
    loops = All-from_recursion (IsLoop whole) W (loops_made W facts);
    apart = apart_at W found.pairs;
    forward = λ e. some_or (slice_get whole.edges e) (λ edge. leads_well W (Some e) edge.from edge.to ≡ true) (λ edge h. edges_lead blocks fit sound b p at e edge h);
    calls_forward = All-from_recursion (λ (call : CallEdge). leads_well W None call.from call.to ≡ true) [] tt;
  },
)
  where
    whole : Parts
    whole = inlined blocks p

    W : List Loop
    W = (inlined blocks p).loops

    top : ℕ
    top = text_size blocks p

    ds : List Drawn
    ds = drawn_all blocks p

    entry : Body
    entry = entry_body p

    n : ℕ
    n = behind top ds

    s : IsSound p
    s = sound_at blocks sound b p at

    made : AreMade whole
    made = parts_are_made blocks b p fit sound at

    found : HasPairs blocks entry 0 W
    found = whole_pairs blocks fit sound b p at

    top_below : top ≤ n
    top_below = behind_rises top ds

    end_is : end_of_body blocks entry ≤ top
    end_is = plain top
      where
        plain : (m : ℕ) → 0 + m ≤ m
        plain m = omega arith

    at_done : end_at p p.done ≡ Some done
    at_done = ap (λ (c : Bool). cond c (Some done) (or_else (trap_at p.done p.traps) (over_at p.done p.overs))) (eq-eqb p.done p.done refl)

    facts : AllByRecursion (IsReady blocks p W) W
    facts = all_ready blocks p W W (recursion_from_All (AreEntered whole) W (loops_are_entered blocks b p fit sound at)) found.lies
        (below_free blocks fit entry 0 p.done done s (λ c any. copies_pairs blocks fit sound c) at_done (subst IsOpen (sym at_done) tt) p.locations)
        (all_clear W found.pairs)

    last_below : (x : Loop) → LiesIn blocks entry 0 x → x.last < top
    last_below x h = under x.last (end_of_body blocks entry) h.last end_is
      where
        under : (a c : ℕ) → a < c → c ≤ top → a < top
        under a c f g = omega (arith, f, g)

    loop_well : (x : Loop) → IsReady blocks p W x → is_loop whole x ≡ true
    loop_well x h = and_so (list_all (λ e. nat_lt e (length whole.edges)) x.turns && list_all (λ other. not (cross x other)) W) (is_entered_well whole x)
        (and_so (list_all (λ e. nat_lt e (length whole.edges)) x.turns) (list_all (λ other. not (cross x other)) W)
        (subst (λ (m : ℕ). list_all (λ e. nat_lt e m) x.turns ≡ true) (sym (edges_long top ds)) (turns_there (length ds) 0 x.turns h.lies.turns))
        (crosses_none x W h.clear))
        (and_so (list_all (λ (edge : Edge). enters_well x edge.from edge.to) whole.edges) true
        (list_all_by (λ (edge : Edge). enters_well x edge.from edge.to) whole.edges (λ e edge there. h.entered.enters e edge there)) refl)

    loops_well : (xs : List Loop) → AllByRecursion (IsReady blocks p W) xs → list_all (is_loop whole) xs ≡ true
    loops_well [] are = refl
    loops_well (x ∷ xs) are = and_so (is_loop whole x) (list_all (is_loop whole) xs) (loop_well x are.0) (loops_well xs are.1)

    loop_made : (x : Loop) → IsReady blocks p W x → IsLoop whole x
    loop_made x h = record {
      range = h.lies.range;
      turns = λ e. some_or (slice_get whole.edges e) (λ edge. turns_well x e edge ≡ true) (λ edge there. h.entered.turns e edge there);
      calls = All-from_recursion (λ (call : CallEdge). (x.entry_turn || not (call.from == x.first)) ≡ true) [] tt;
      outside = and_so (not (holds x (number_in blocks entry p.done))) (list_all (λ end. not (holds x end)) (end_numbers top ds)) (ap not h.free)
          (ends_free x top ds (last_below x h.lies));
    }

    loops_made : (xs : List Loop) → AllByRecursion (IsReady blocks p W) xs → AllByRecursion (IsLoop whole) xs
    loops_made [] are = tt
    loops_made (x ∷ xs) are = (loop_made x are.0, loops_made xs are.1)

    lies_below : (xs : List Loop) → AllByRecursion (LiesIn blocks entry 0) xs → list_all (λ (loop : Loop). nat_lt loop.first n && nat_lt loop.last n) xs ≡ true
    lies_below [] are = refl
    lies_below (x ∷ xs) are = and_so (nat_lt x.first n && nat_lt x.last n) (list_all (λ (loop : Loop). nat_lt loop.first n && nat_lt loop.last n) xs)
        (and_so (nat_lt x.first n) (nat_lt x.last n) (lt-ltb x.first n (first_below x.first x.last (are.0).range (last_below x are.0)))
        (lt-ltb x.last n (below x.last (last_below x are.0)))) (lies_below xs are.1)
      where
        below : (a : ℕ) → a < top → a < n
        below a h = omega (arith, h, top_below)

        first_below : (a c : ℕ) → a ≤ c → c < top → a < n
        first_below a c h g = omega (arith, h, g, top_below)

    within : AreWithin blocks entry ds
    within = subst (λ (xs : List Drawn). AreWithin blocks entry xs) (drawn_is blocks fit b entry at) (copies_within blocks fit sound b entry at)

    edges_well : list_all (λ (edge : Edge). nat_lt edge.from n && nat_lt edge.to n) whole.edges ≡ true
    edges_well = edges_below blocks entry top top n ds (omega arith) top_below refl (chain (end_of_body blocks entry) end_is) (all_stand blocks fit p) within
      where
        chain : (a : ℕ) → a ≤ top → a ≤ n
        chain a h = omega (arith, h, top_below)

    done_below : number_in blocks entry p.done < n
    done_below = shifted _ (entry_numbers blocks p s).1
      where
        shifted : (a : ℕ) → a < top → 0 + a < n
        shifted a h = omega (arith, h, top_below)

    locations : has_locations whole ≡ true
    locations = and_so _ (has_ends whole)
        (and_so _ (list_all (λ (loop : Loop). nat_lt loop.first n && nat_lt loop.last n) W)
        (and_so (list_all (λ (edge : Edge). nat_lt edge.from n && nat_lt edge.to n) whole.edges) true edges_well refl) (lies_below W found.lies))
        (and_so _ (list_all (λ (t : OverEnd). nat_lt t.location n) (overs_of top ds))
        (and_so (nat_lt (number_in blocks entry p.done) n) (list_all (λ (t : TrapEnd). nat_lt t.location n) (traps_of top ds))
        (lt-ltb (number_in blocks entry p.done) n done_below) (traps_below top n ds (omega arith)))
        (overs_below top n ds (omega arith)))
