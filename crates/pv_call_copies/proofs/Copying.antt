-- Runs of nests are runs of the automaton with copies: each way from where a nest stands is a way of the whole, and both end alike.
use Rattle.std.proofs.Common.{◌≡◌, ℕ, suc, ◌+◌, ◌<◌, ◌≤◌, inl, inr, List, [], ◌∷◌, ◌++◌, map, length, Bool, false, ◌==◌, cond, Option, Some, None, refl, sym, subst, ap, ◌∙◌, arith}
use Rattle.std.specs.List.{AllByRecursion}
use Rattle.std.proofs.lemmas.Bool.{eqb-true, eq-eqb, ne_eqb}
use Rattle.std.proofs.lemmas.List.{length-map}
use Rattle.std.proofs.lemmas.Option.{none-some}
use Rattle.pv_flow.specs.Automata.{Loop, Parts, edges_from}
use Rattle.pv_flow.specs.Runs.{End, done, trap, over, trap_at, over_at, or_else, end_at, exit_of, Outcome, Counts, Spot, at, Way, run, moved, entered, turned, led, way_of, ways_by, ways_of, control_of, first_spot}
use Rattle.pv_flow.specs.Calls.{Blocks, block_at, Numbered, call_from, EndsAs}
use Rattle.pv_flow.specs.Fitting.{AreFitting, IsSound, AreSound}
use Rattle.pv_flow.specs.Correct.{Ends}
use Rattle.pv_flow.proofs.ForCallers.{ArePaired, AreAlike, same_runs, one_end, calls_end}
use Rattle.pv_call_copies.specs.Renaming.{true_term}
use Rattle.pv_call_copies.specs.Nests.{Waiting, Nest, exit_by, exit_of_nest, way_within, ways_in, ways_on, ways_by_end, ways_of_nest, nests_control, first_nest}
use Rattle.pv_call_copies.specs.Inlined.{before, span, Body, entry_body, number_in, aim_in, callee_body, Drawn, drawn_edge, edge_in, drawn_by, drawn_below, drawn, drawn_all, drawn_before, location_by, next_by, edges_of, behind, text_size, inlined}
use Rattle.pv_call_copies.specs.Correct.{NestsAreCopies, CallsAreCopies, CopiesAreCalls}
use Rattle.pv_call_copies.proofs.Nesting.{ways_are, calls_are_nests}
use Rattle.pv_call_copies.proofs.Levels.{found_called}
use Rattle.pv_call_copies.proofs.Edges.{are_below, there_of, sound_at}
use Rattle.pv_call_copies.proofs.Placing.{below_stands, no_ways}
use Rattle.pv_call_copies.proofs.Placed.{end_of_body, call_drawn, inner_stands, IsCallIn, IsOpen, all_above, IsKnown}
use Rattle.pv_call_copies.proofs.Aims.{less_in, call_leads, open_first}
use Rattle.pv_call_copies.proofs.Turns.{drawn_at, next_before, IsOwn, own_drawn}
use Rattle.pv_call_copies.proofs.Ends.{done_number, end_in_text}
use Rattle.pv_call_copies.proofs.Chains.{Chain, alone, called, body_of, callers_of, index_of, nest_of, AreZero, IsCalling, IsChain, site_of, known, not_done}
use Rattle.pv_call_copies.proofs.Counted.{after_is, IsCounted, AreCounted}
use Rattle.pv_call_copies.proofs.Moves.{zero_first, zero_back, IsOtherStep, no_turn}
use Rattle.pv_call_copies.proofs.Entering.{counted_in, counted_first}
use Rattle.pv_call_copies.proofs.Returning.{counted_out}
use Rattle.pv_call_copies.proofs.Here.{IsHere, is_here, away_edges, one_number, done_there}
use Rattle.pv_call_copies.proofs.Leading.{Match, come_to, other_led}
use Rattle.pv_call_copies.proofs.OwnWays.{own_ways}

-- ---- the ways from a copy's location

-- where one edge begins there, and those after it elsewhere
one_there : (loops : List Loop) (n m : ℕ) (wholes : Counts) (f next : ℕ) (d : Drawn) (ds : List Drawn) → d.from ≡ m
    → AllByRecursion (λ (other : Drawn). (other.from == m) ≡ false) ds
    → ways_by loops n m wholes f (edges_of next (d ∷ ds))
    ≡ way_of loops n m wholes f (record { from = d.from; to = location_by d.aim next; guard = d.guard; sets = d.sets }) ∷ []
one_there loops n m wholes f next d ds e away =
    ap (λ (c : Bool). cond c (first ∷ others) others) (eq-eqb d.from m e)
    ∙ ap (λ (ways : List (Way Spot)). first ∷ ways)
    (no_ways loops n m wholes (suc f) (edges_of (next_by d.aim next) ds) (away_edges m (next_by d.aim next) ds away))
  where
    first : Way Spot
    first = way_of loops n m wholes f (record { from = d.from; to = location_by d.aim next; guard = d.guard; sets = d.sets })

    others : List (Way Spot)
    others = ways_by loops n m wholes (suc f) (edges_of (next_by d.aim next) ds)

abbrev Paired : Blocks → ℕ → Parts → ℕ → List (Way Nest) → List (Way Spot) → Type 0
Paired blocks b p n xs ys = ArePaired (Match blocks b p n) xs ys

-- what is known where the nest stands
record IsPlace (blocks : Blocks) (b : ℕ) (p : Parts) (chain : Chain) (l : ℕ) (counts wholes : Counts) : Type 0 where
  is : IsChain blocks b p chain
  exists : l < (body_of blocks p chain).work.parts.locations
  zero : AreZero (body_of blocks p chain).work.parts l counts
  counted : AreCounted blocks p chain counts (inlined blocks p).loops wholes
  here : IsHere blocks p (body_of blocks p chain) (index_of blocks p chain) l

-- the ways of the whole
abbrev whole_ways : Blocks → Parts → ℕ → ℕ → Counts → List (Way Spot)
whole_ways blocks p n m wholes = ways_by (inlined blocks p).loops n m wholes 0 (inlined blocks p).edges

-- where own edges begin
ways_own : (blocks : Blocks) → AreFitting blocks → AreSound blocks
    → (b : ℕ) (p : Parts) (n : ℕ) (chain : Chain) (l : ℕ) (counts wholes : Counts)
    → IsPlace blocks b p chain l counts wholes → IsOwn (body_of blocks p chain).work.parts l
    → Paired blocks b p n (ways_on blocks n (body_of blocks p chain).work (at l counts) (callers_of blocks p chain) None)
    (whole_ways blocks p n (number_in blocks (body_of blocks p chain) l) wholes)
ways_own blocks fit sound b p n chain l counts wholes place own =
    subst (λ (ways : List (Way Spot)). Paired blocks b p n
    (map (way_within body.work (callers_of blocks p chain)) (ways_by q.loops n l counts 0 q.edges)) ways)
    (sym (place.here.ways (inlined blocks p).loops n wholes ∙ ap
    (λ (ds : List Drawn). ways_by (inlined blocks p).loops n (number_in blocks body l) wholes
    (length place.here.first) (edges_of (behind (text_size blocks p) place.here.first) ds)) (own_drawn blocks body l own)))
    (own_ways blocks fit sound b p n chain place.is l place.exists own counts wholes place.counted [] q.edges refl place.here.first
    place.here.rest
    (place.here.split ∙ ap (λ (ds : List Drawn). place.here.first ++ (ds ++ place.here.rest)) (own_drawn blocks body l own))
    0 (length place.here.first) (behind (text_size blocks p) place.here.first) refl refl refl
    (place.here.long ∙ plain i (drawn_before blocks body l))
    (sum i (drawn_before blocks body l) (drawn_before blocks body (suc l)) (length (drawn_at blocks body l)) (length (edges_from l q.edges))
    (length place.here.first) (next_before blocks body l)
    (ap (λ (ds : List Drawn). length ds) (own_drawn blocks body l own) ∙ length-map (edges_from l q.edges)
    (drawn_edge blocks body)) place.here.long))
  where
    body : Body
    body = body_of blocks p chain

    i : ℕ
    i = index_of blocks p chain

    q : Parts
    q = body.work.parts

    plain : (a d : ℕ) → a + d ≡ a + (d + 0)
    plain a d = omega arith

    sum : (a d t w r g : ℕ) → t ≡ d + w → w ≡ r → g ≡ a + d → g + r ≡ a + t
    sum a d t w r g h k j = omega (arith, h, k, j)

-- where a call edge begins
ways_called : (blocks : Blocks) → AreFitting blocks → AreSound blocks
    → (b : ℕ) (p : Parts) (n : ℕ) (chain : Chain) (l : ℕ) (counts wholes : Counts)
    → IsPlace blocks b p chain l counts wholes → (c : Numbered) (q : Parts) → IsCallIn blocks (body_of blocks p chain) l c q
    → Paired blocks b p n (ways_in blocks (body_of blocks p chain).work (at l counts) (callers_of blocks p chain) c (Some q))
    (whole_ways blocks p n (number_in blocks (body_of blocks p chain) l) wholes)
ways_called blocks fit sound b p n chain l counts wholes place c q call =
    subst (λ (ways : List (Way Spot)). Paired blocks b p n
    (ways_in blocks body.work (at l counts) (callers_of blocks p chain) c (Some q)) ways)
    (sym (place.here.ways W n wholes
    ∙ (ap (λ (ds : List Drawn). ways_by W n m wholes f (edges_of next ds)) drawn_is
    ∙ one_there W n m wholes f next d inner refl away)))
    (refl, refl, matches, tt)
  where
    body : Body
    body = body_of blocks p chain

    callee : Body
    callee = callee_body blocks body l c q

    W : List Loop
    W = (inlined blocks p).loops

    m : ℕ
    m = number_in blocks body l

    f : ℕ
    f = length place.here.first

    next : ℕ
    next = behind (text_size blocks p) place.here.first

    d : Drawn
    d = edge_in blocks callee m

    inner : List Drawn
    inner = drawn_below blocks (drawn blocks) callee q.locations

    drawn_is : drawn_at blocks body l ≡ d ∷ inner
    drawn_is = call_drawn blocks fit body l c q call.goes_on call.call call.there

    away : AllByRecursion (λ (other : Drawn). (other.from == m) ≡ false) inner
    away = all_above m callee.start (end_of_body blocks callee) inner (omega arith)
        (below_stands blocks (drawn blocks) callee q.locations (inner_stands blocks fit callee))

    calling : IsCalling blocks body l c q counts
    calling = record { call = call; zero = place.zero }

    step : IsOtherStep blocks body (index_of blocks p chain) l f
    step = record {
      exists = place.exists;
      is = place.here.long;
      some = subst (λ (ds : List Drawn). 0 < length ds) (sym drawn_is) (some (length inner));
      no_own = λ own. none-some c (sym own.no_call ∙ call.call);
    }
      where
        some : (k : ℕ) → 0 < suc k
        some k = omega arith

    news : ℕ → Counts
    news k = turned W f (moved W m k wholes)

    split : drawn_all blocks p ≡ place.here.first ++ (d ∷ (inner ++ place.here.rest))
    split = place.here.split ∙ ap (λ (ds : List Drawn). place.here.first ++ (ds ++ place.here.rest)) drawn_is

    some_location : 0 < q.locations
    some_location = positive q.done q.locations (are_below q (sound_at blocks sound c.call.block q call.there).faultless).is_done
      where
        positive : (a t : ℕ) → a < t → 0 < t
        positive a t h = omega (arith, h)

    matches : Match blocks b p n (nest_of blocks p (called chain l c q counts) 0 (entered q.loops 0))
        (led W n f m (location_by d.aim next) wholes)
    matches = subst (λ (y : Spot). Match blocks b p n (nest_of blocks p (called chain l c q counts) 0 (entered q.loops 0)) y)
        (sym (other_led blocks fit sound b p n chain place.is l f step counts wholes place.counted m (location_by d.aim next)))
        (come_to blocks fit sound b p n (called chain l c q counts) (calling, place.is) 0 some_location (entered q.loops 0)
        (zero_first q) news
        (λ to_open i x found. subst (λ (v : ℕ). IsCounted blocks p (called chain l c q counts) (entered q.loops 0) x v)
        (sym (after_is W i m (number_in blocks callee 0) f wholes x found))
        (counted_in blocks fit sound b p chain place.is l c q counts calling f x (wholes i)
        (no_turn blocks fit sound b p chain place.is l f step counts x (wholes i) (place.counted i x found)) (place.counted i x found)))
        place.here.first (inner ++ place.here.rest) d split refl)

-- where a called block is done
ways_done : (blocks : Blocks) → AreFitting blocks → AreSound blocks
    → (b : ℕ) (p : Parts) (n : ℕ) (chain : Chain) (l : ℕ) (c : Numbered) (q : Parts)
    (counts : Counts) (r : ℕ) (others wholes : Counts) → IsPlace blocks b p (called chain l c q counts) r others wholes → end_at q r
    ≡ Some done
    → Paired blocks b p n (ways_by_end blocks n (body_of blocks p (called chain l c q counts)).work (at r others)
    (callers_of blocks p (called chain l c q counts)) (Some done))
    (whole_ways blocks p n (number_in blocks (body_of blocks p (called chain l c q counts)) r) wholes)
ways_done blocks fit sound b p n chain l c q counts r others wholes place is_done =
    subst (λ (ways : List (Way Spot)). Paired blocks b p n
    (ways_by_end blocks n callee.work (at r others) (callers_of blocks p (called chain l c q counts)) (Some done)) ways)
    (sym (place.here.ways W n wholes
    ∙ (ap (λ (ds : List Drawn). ways_by W n m wholes f (edges_of next ds)) drawn_is
    ∙ one_there W n m wholes f next d [] refl tt)))
    (refl, refl, matches, tt)
  where
    body : Body
    body = body_of blocks p chain

    callee : Body
    callee = callee_body blocks body l c q

    W : List Loop
    W = (inlined blocks p).loops

    m : ℕ
    m = number_in blocks callee r

    f : ℕ
    f = length place.here.first

    next : ℕ
    next = behind (text_size blocks p) place.here.first

    d : Drawn
    d = record { from = m; aim = aim_in blocks body c.call.to; guard = true_term; sets = [] }

    drawn_is : drawn_at blocks callee r ≡ d ∷ []
    drawn_is = ap (λ (end : Option End). drawn_by blocks (drawn blocks) callee r end) is_done

    step : IsOtherStep blocks callee (index_of blocks p (called chain l c q counts)) r f
    step = record {
      exists = place.exists;
      is = place.here.long;
      some = subst (λ (ds : List Drawn). 0 < length ds) (sym drawn_is) (omega arith);
      no_own = λ own. none-some done (sym own.goes_on ∙ is_done);
    }

    news : ℕ → Counts
    news k = turned W f (moved W m k wholes)

    to : ℕ
    to = c.call.to

    split : drawn_all blocks p ≡ place.here.first ++ (d ∷ place.here.rest)
    split = place.here.split ∙ ap (λ (ds : List Drawn). place.here.first ++ (ds ++ place.here.rest)) drawn_is

    call_in : IsCallIn blocks body l c q
    call_in = (place.is.0).call

    reaches : to < body.work.parts.locations
    reaches = call_leads body.work.parts (known blocks sound b p chain place.is.1) l c call_in.call

    matches : Match blocks b p n (nest_of blocks p chain to (moved body.work.parts.loops l to counts))
        (led W n f m (location_by d.aim next) wholes)
    matches = subst (λ (y : Spot). Match blocks b p n (nest_of blocks p chain to (moved body.work.parts.loops l to counts)) y)
        (sym (other_led blocks fit sound b p n (called chain l c q counts) place.is r f step others wholes place.counted m
        (location_by d.aim next)))
        (come_to blocks fit sound b p n chain place.is.1 to reaches (moved body.work.parts.loops l to counts)
        (zero_back body.work.parts l to counts) news
        (λ to_open i x found. subst (λ (v : ℕ). IsCounted blocks p chain (moved body.work.parts.loops l to counts) x v)
        (sym (after_is W i m (number_in blocks body to) f wholes x found))
        (counted_out blocks fit sound b p chain l c q counts place.is r f to others is_done place.exists to_open reaches x (wholes i)
        (no_turn blocks fit sound b p (called chain l c q counts) place.is r f step others x (wholes i) (place.counted i x found))
        (place.counted i x found)))
        place.here.first place.here.rest d split refl)

-- ---- both controls

exits_alike : (blocks : Blocks) → AreFitting blocks → AreSound blocks → (b : ℕ) (p : Parts) (chain : Chain) → IsChain blocks b p chain
    → (l : ℕ)
    → l < (body_of blocks p chain).work.parts.locations → IsOpen (end_at (body_of blocks p chain).work.parts l)
    → exit_by (end_at (body_of blocks p chain).work.parts l) (callers_of blocks p chain)
    ≡ end_at (inlined blocks p) (number_in blocks (body_of blocks p chain) l)
exits_alike blocks fit sound b p chain is l lt opens = whole chain is lt opens
  where
    in_text : (x : Chain) → (h : IsChain blocks b p x) → l < (body_of blocks p x).work.parts.locations
        → IsOpen (end_at (body_of blocks p x).work.parts l)
        → number_in blocks (body_of blocks p x) l < text_size blocks p
    in_text x h below free = under (number_in blocks (body_of blocks p x) l) (end_of_body blocks (body_of blocks p x)) (text_size blocks p)
        (less_in blocks (body_of blocks p x) l (body_of blocks p x).work.parts.locations free below)
        (site_of blocks fit sound b p x h).site.placed.fits
      where
        under : (a d t : ℕ) → a < d → d ≤ t → a < t
        under a d t g k = omega (arith, g, k)

    entry_end : end_at p p.done ≡ Some done
    entry_end = ap (λ (c : Bool). cond c (Some done) (or_else (trap_at p.done p.traps) (over_at p.done p.overs)))
        (eq-eqb p.done p.done refl)

    -- the entry's location
    own : (o : Option End) → end_at p l ≡ o → IsOpen o → exit_by o []
        ≡ cond (done_number blocks p == number_in blocks (entry_body p) l) (Some done) None
    own None e free = ap (λ (c : Bool). cond c (Some done) None)
        (sym (ne_eqb (done_number blocks p) (number_in blocks (entry_body p) l) (λ same.
        absurd (none-some done (sym e ∙ (ap (λ (k : ℕ). end_at p k)
        (sym (one_number blocks (entry_body p) p.done l (subst IsOpen (sym entry_end) tt) (subst IsOpen (sym e) tt) same)) ∙ entry_end))))))
    own (Some done) e free = ap (λ (c : Bool). cond c (Some done) None)
        (sym (eq-eqb (done_number blocks p) (number_in blocks (entry_body p) l)
        (ap (λ (k : ℕ). number_in blocks (entry_body p) k) (eqb-true p.done l (done_there p l e)))))
    own (Some (trap kind place)) e free = absurd free
    own (Some (over place)) e free = absurd free

    inside : (o : Option End) → IsOpen o → (caller : Waiting) (callers : List Waiting) → exit_by o (caller ∷ callers) ≡ None
    inside None free caller callers = refl
    inside (Some done) free caller callers = refl
    inside (Some (trap kind place)) free caller callers = absurd free
    inside (Some (over place)) free caller callers = absurd free

    whole : (x : Chain) → (h : IsChain blocks b p x) → l < (body_of blocks p x).work.parts.locations
        → IsOpen (end_at (body_of blocks p x).work.parts l)
        → exit_by (end_at (body_of blocks p x).work.parts l) (callers_of blocks p x) ≡ end_at (inlined blocks p)
        (number_in blocks (body_of blocks p x) l)
    whole alone h below free = own (end_at p l) refl free
        ∙ sym (end_in_text blocks p (number_in blocks (entry_body p) l) (in_text alone h below free))
    whole (called outer j c q counts) h below free = inside (end_at q l) free _ (callers_of blocks p outer)
        ∙ sym (end_in_text blocks p (number_in blocks callee l) (in_text (called outer j c q counts) h below free)
        ∙ ap (λ (u : Bool). cond u (Some done) None) (not_done blocks fit b p outer j c q counts h (number_in blocks callee l)
        (low callee.start (before (span blocks) q l)) (less_in blocks callee l q.locations free below)))
      where
        callee : Body
        callee = callee_body blocks (body_of blocks p outer) j c q

        low : (a d : ℕ) → a ≤ a + d
        low a d = omega arith

ways_alike : (blocks : Blocks) → AreFitting blocks → AreSound blocks
    → (b : ℕ) (p : Parts) (n : ℕ) (chain : Chain) (l : ℕ) (counts wholes : Counts)
    → IsPlace blocks b p chain l counts wholes → IsOpen (end_at (body_of blocks p chain).work.parts l)
    → Paired blocks b p n (ways_of_nest blocks n (nest_of blocks p chain l counts))
    (whole_ways blocks p n (number_in blocks (body_of blocks p chain) l) wholes)
ways_alike blocks fit sound b p n chain l counts wholes place opens = by_end (end_at q l) refl
  where
    body : Body
    body = body_of blocks p chain

    q : Parts
    q = body.work.parts

    callers : List Waiting
    callers = callers_of blocks p chain

    ways : List (Way Spot)
    ways = whole_ways blocks p n (number_in blocks body l) wholes

    Goal : Type 0
    Goal = Paired blocks b p n (ways_of_nest blocks n (nest_of blocks p chain l counts)) ways

    known_block : (x : Chain) → IsChain blocks b p x → IsKnown blocks (body_of blocks p x).work.parts
    known_block alone is = record { block = b; is = is }
    known_block (called outer j c r others) is = record { block = c.call.block; is = (is.0).call.there }

    called_here : end_at q l ≡ None → (c : Numbered) → call_from l 0 q.calls ≡ Some c → (o : Option Parts) → block_at blocks c.call.block
        ≡ o
        → Paired blocks b p n (ways_in blocks body.work (at l counts) callers c o) ways
    called_here none c call None e = absurd (there_of blocks fit found.block q found.is c.call.block (found_called l 0 q.calls c call) e)
      where
        found : IsKnown blocks q
        found = known_block chain place.is
    called_here none c call (Some r) e = ways_called blocks fit sound b p n chain l counts wholes place c r
        (record { exists = place.exists; goes_on = none; call = call; there = e })

    by_call : end_at q l ≡ None → (o : Option Numbered) → call_from l 0 q.calls ≡ o → Goal
    by_call none None call = subst (λ (xs : List (Way Nest)). Paired blocks b p n xs ways)
        (sym (ways_are blocks n body.work (at l counts) callers None none call))
        (ways_own blocks fit sound b p n chain l counts wholes place (record { goes_on = none; no_call = call }))
    by_call none (Some c) call = subst (λ (xs : List (Way Nest)). Paired blocks b p n xs ways)
        (sym (ways_are blocks n body.work (at l counts) callers (Some c) none call))
        (called_here none c call (block_at blocks c.call.block) refl)

    done_here : (x : Chain) → IsPlace blocks b p x l counts wholes → end_at (body_of blocks p x).work.parts l ≡ Some done
        → Paired blocks b p n (ways_by_end blocks n (body_of blocks p x).work (at l counts) (callers_of blocks p x) (Some done))
        (whole_ways blocks p n (number_in blocks (body_of blocks p x) l) wholes)
    done_here alone h e = subst (λ (others : List (Way Spot)). Paired blocks b p n [] others)
        (sym (h.here.ways (inlined blocks p).loops n wholes
        ∙ ap (λ (end : Option End). ways_by (inlined blocks p).loops n (number_in blocks (entry_body p) l) wholes (length h.here.first)
        (edges_of (behind (text_size blocks p) h.here.first) (drawn_by blocks (drawn blocks) (entry_body p) l end))) e)) tt
    done_here (called outer j c r others) h e = ways_done blocks fit sound b p n outer j c r others l counts wholes h e

    by_end : (end : Option End) → end_at q l ≡ end → Goal
    by_end None e = by_call e (call_from l 0 q.calls) refl
    by_end (Some done) e = subst (λ (end : Option End). Paired blocks b p n
        (ways_by_end blocks n body.work (at l counts) callers end) ways) (sym e)
        (done_here chain place e)
    by_end (Some (trap kind place_of)) e = absurd (subst IsOpen e opens)
    by_end (Some (over place_of)) e = absurd (subst IsOpen e opens)

alike : (blocks : Blocks) → AreFitting blocks → AreSound blocks → (b : ℕ) (p : Parts) (n : ℕ)
    → AreAlike (Match blocks b p n) (nests_control blocks n) (control_of (inlined blocks p) n)
alike blocks fit sound b p n = record { exits = exits; ways = ways }
  where
    exits : (x : Nest) (y : Spot) → Match blocks b p n x y → exit_of_nest x ≡ exit_of (inlined blocks p) y
    exits x y (inl h) = subst (λ (z : Nest). exit_of_nest z ≡ exit_of (inlined blocks p) y) h.nest_is
        (subst (λ (z : Spot). exit_of_nest (nest_of blocks p h.chain h.location h.counts) ≡ exit_of (inlined blocks p) z) h.spot_is
        (exits_alike blocks fit sound b p h.chain h.is h.location h.exists h.opens))
    exits x y (inr h) = h.nest_ends ∙ sym h.spot_ends

    ways : (x : Nest) (y : Spot) → Match blocks b p n x y
        → Paired blocks b p n (ways_of_nest blocks n x) (ways_of (inlined blocks p) n y)
    ways x y (inl h) = subst (λ (z : Nest). Paired blocks b p n (ways_of_nest blocks n z) (ways_of (inlined blocks p) n y)) h.nest_is
        (subst (λ (z : Spot). Paired blocks b p n (ways_of_nest blocks n (nest_of blocks p h.chain h.location h.counts))
        (ways_of (inlined blocks p) n z))
        h.spot_is (ways_alike blocks fit sound b p n h.chain h.location h.counts h.wholes (record {
          is = h.is;
          exists = h.exists;
          zero = h.zero;
          counted = h.counted;
          here = is_here blocks fit p (body_of blocks p h.chain) (index_of blocks p h.chain) h.location
              (site_of blocks fit sound b p h.chain h.is)
              h.exists h.opens;
        }) h.opens))
    ways x y (inr h) = subst (λ (xs : List (Way Nest)). Paired blocks b p n xs (ways_of (inlined blocks p) n y)) (sym h.no_ways_on)
        (subst (λ (ys : List (Way Spot)). Paired blocks b p n [] ys) (sym h.no_ways_there) tt)

-- ---- runs

-- where both begin
both_begin : (blocks : Blocks) → AreFitting blocks → AreSound blocks → (b : ℕ) (p : Parts) (n : ℕ) → block_at blocks b ≡ Some p
    → Match blocks b p n (first_nest p) (first_spot (inlined blocks p))
both_begin blocks fit sound b p n there = inl (record {
  chain = alone;
  is = there;
  location = 0;
  exists = positive p.done p.locations (are_below p s.faultless).is_done;
  opens = subst IsOpen (sym (open_first s)) tt;
  counts = entered p.loops 0;
  zero = zero_first p;
  wholes = entered (inlined blocks p).loops 0;
  counted = λ i x found. counted_first blocks fit sound b p there i x found;
  nest_is = refl;
  spot_is = refl;
})
  where
    s : IsSound p
    s = sound_at blocks sound b p there

    positive : (a t : ℕ) → a < t → 0 < t
    positive a t h = omega (arith, h)

pub nests_are_copies : NestsAreCopies
nests_are_copies blocks n b p steps w fit sound there =
    same_runs (Match blocks b p n) (nests_control blocks n) (control_of (inlined blocks p) n) (alike blocks fit sound b p n) steps
    (first_nest p) (first_spot (inlined blocks p)) w (both_begin blocks fit sound b p n there)

pub calls_are_copies : CallsAreCopies
calls_are_copies blocks n b p w out fit sound there h = by (calls_are_nests blocks n p w out h)
  where
    by : (steps : ℕ) × (run (nests_control blocks n) steps (first_nest p) w ≡ Some out)
        → (steps : ℕ) × Ends (inlined blocks p) n steps w out
    by found = (found.0, sym (nests_are_copies blocks n b p found.0 w fit sound there) ∙ found.1)

pub copies_are_calls : CopiesAreCalls
copies_are_calls blocks n b p steps w out fit sound lt there values h =
    subst (λ (o : Outcome). EndsAs blocks n p w o)
    (one_end (control_of (inlined blocks p) n) copied.0 steps (first_spot (inlined blocks p)) w found.0 out
    copied.1 h) found.1
  where
    found : (o : Outcome) × EndsAs blocks n p w o
    found = calls_end blocks n b p w fit sound lt there values

    copied : (others : ℕ) × Ends (inlined blocks p) n others w found.0
    copied = calls_are_copies blocks n b p w found.0 fit sound there found.1
