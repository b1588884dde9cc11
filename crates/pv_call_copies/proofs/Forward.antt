-- Each edge of the whole leads forward, or back to the first location of a loop: an own edge as its block's edge does, an edge in to what
-- follows it, and an edge out as the call edge does.
use Rattle.std.proofs.Common.{◌≡◌, ℕ, zero, suc, ◌+◌, ◌<◌, ◌≤◌, ◌⊎◌, inl, inr, List, [], ◌∷◌, ◌++◌, map, length, length-append, slice_get, Bool, true, false, not, ◌&&◌, ◌||◌, ◌==◌, nat_lt, cond, IfSome, Option, Some, None, refl, sym, subst, ap, ◌∙◌, arith}
use Rattle.std.specs.List.{AllByRecursion, list_any}
use Rattle.std.proofs.lemmas.Bool.{false≢true, eq-eqb, ltb-true, lt-ltb, cases_lt, and_parts, or_cases, or_left, or_right}
use Rattle.std.proofs.lemmas.List.Elements.{recursion_from_All}
use Rattle.std.proofs.lemmas.Option.{same_Some, none-some}
use Rattle.pv_flow.specs.Automata.{Edge, CallEdge, Loop, Parts, holds, is_turn}
use Rattle.pv_flow.specs.WellMade.{turns_by, leads_back, leads_well}
use Rattle.pv_flow.specs.Runs.{End, done, trap, over, end_at}
use Rattle.pv_flow.specs.Calls.{Blocks, block_at, Numbered, call_from}
use Rattle.pv_flow.specs.Fitting.{runs_block, AreFitting, IsSound, AreSound}
use Rattle.pv_flow.proofs.ForCallers.{deep}
use Rattle.pv_call_copies.specs.Renaming.{true_term}
use Rattle.pv_call_copies.specs.Inlined.{before, span, Aim, Body, entry_body, number_in, aim_by, aim_in, callee_body, Drawn, edge_in, edges_out, drawn_by, drawn_below, drawn, drawn_all, drawn_before, drawn_loop, loops_from, laid_callee, laid_call, laid_by, laid_below, laid, text_size, inlined}
use Rattle.pv_call_copies.specs.Correct.{IsFrom}
use Rattle.pv_call_copies.proofs.Levels.{IsCalled, is_run, found_called}
use Rattle.pv_call_copies.proofs.Edges.{are_below, there_of, sound_at}
use Rattle.pv_call_copies.proofs.Placing.{below_stands}
use Rattle.pv_call_copies.proofs.Placed.{end_of_body, inner_stands, body_split, call_drawn, callee_ends, IsCallIn, IsOpen}
use Rattle.pv_call_copies.proofs.Ending.{all_stand}
use Rattle.pv_call_copies.proofs.Aims.{less_in, rises_in, open_rises, first_aim, call_leads, Site, entry_site, callee_site}
use Rattle.pv_call_copies.proofs.Turns.{drawn_at, IsOwn, all_here, Where, away, stands, where_is}
use Rattle.pv_call_copies.proofs.Holding.{IsAlikeAt, alike_at, behind_at}
use Rattle.pv_call_copies.proofs.LoopEdges.{IsTo, IsNumbered, FoundDrawn, drawn_of, IsGoodLoop, alike_to, edge_so, all_true, call_so, IsCopyOfOwn, own_copied}
use Rattle.pv_call_copies.proofs.Laid.{good_loops, laid_is}

-- ---- loops that a list has

pub any_append_left : (f : Loop → Bool) (xs ys : List Loop) → list_any f xs ≡ true → list_any f (xs ++ ys) ≡ true
any_append_left f [] ys h = absurd (false≢true h)
any_append_left f (x ∷ xs) ys h = by (f x) h (λ g. any_append_left f xs ys g)
  where
    by : (b : Bool) → (b || list_any f xs) ≡ true → (list_any f xs ≡ true → list_any f (xs ++ ys) ≡ true) → (b || list_any f (xs ++ ys)) ≡ true
    by true g go = refl
    by false g go = go g

pub any_append_right : (f : Loop → Bool) (xs ys : List Loop) → list_any f ys ≡ true → list_any f (xs ++ ys) ≡ true
any_append_right f [] ys h = h
any_append_right f (x ∷ xs) ys h = or_right (f x) (list_any f (xs ++ ys)) (any_append_right f xs ys h)

-- the copies of a block's loops are among those of its copy
any_from : (f : Loop → Bool) (copy : Loop → Loop) (l : ℕ) (loop : Loop) (loops : List Loop) → (loop.first == l) ≡ true → f (copy loop) ≡ true
    → list_any f (map copy (loops_from l (loop ∷ loops))) ≡ true
any_from f copy l loop loops at h =
    ap (λ (b : Bool). list_any f (map copy (cond b (loop ∷ loops_from l loops) (loops_from l loops)))) at
    ∙ or_left (f (copy loop)) (list_any f (map copy (loops_from l loops))) h

later_from : (f : Loop → Bool) (copy : Loop → Loop) (l : ℕ) (loop : Loop) (loops : List Loop) → list_any f (map copy (loops_from l loops)) ≡ true
    → list_any f (map copy (loops_from l (loop ∷ loops))) ≡ true
later_from f copy l loop loops h = by (loop.first == l)
  where
    by : (b : Bool) → list_any f (map copy (cond b (loop ∷ loops_from l loops) (loops_from l loops))) ≡ true
    by true = or_right (f (copy loop)) (list_any f (map copy (loops_from l loops))) h
    by false = h

pub any_below : (blocks : Blocks) (f : Loop → Bool) (body : Body) (i l n : ℕ) → l < n
    → list_any f (map (drawn_loop blocks body i) (loops_from l body.work.parts.loops)) ≡ true
    → list_any f (laid_below blocks (laid blocks) body i n) ≡ true
any_below blocks f body i l zero lt h = absurd (omega (arith, lt))
any_below blocks f body i l (suc n) lt h = by (cases_lt l n) (λ small. any_below blocks f body i l n small h)
  where
    here : ℕ → List Loop
    here m = map (drawn_loop blocks body i) (loops_from m body.work.parts.loops)

    rest : List Loop
    rest = laid_by blocks (laid blocks) body i n (end_at body.work.parts n)

    by : (l < n) ⊎ (n ≤ l) → (l < n → list_any f (laid_below blocks (laid blocks) body i n) ≡ true)
        → list_any f (laid_below blocks (laid blocks) body i n ++ (here n ++ rest)) ≡ true
    by (inl small) go = any_append_left f (laid_below blocks (laid blocks) body i n) (here n ++ rest) (go small)
    by (inr ge) go = any_append_right f (laid_below blocks (laid blocks) body i n) (here n ++ rest)
        (any_append_left f (here n) rest (subst (λ (m : ℕ). list_any f (here m) ≡ true) (equal lt ge) h))
      where
        equal : l < suc n → n ≤ l → l ≡ n
        equal a b = omega (arith, a, b)

-- ---- back to a loop's first location

-- the edge, or of a call edge none, that leads back: the copy of what leads so
abbrev pub LeadsBack : Option ℕ → ℕ → ℕ → Loop → Bool
LeadsBack e from to loop = (to == loop.first) && holds loop from && (not loop.entry_turn || turns_by loop e)

-- where the loop is as the other, the one leads back as the other
back_alike : (blocks : Blocks) (body : Body) (i : ℕ) (loop : Loop) (e n : Option ℕ) (l from k to : ℕ)
    → IsAlikeAt loop (drawn_loop blocks body i loop) k to → holds (drawn_loop blocks body i loop) from ≡ holds loop l
    → ((not loop.entry_turn || turns_by loop e) ≡ true → (not loop.entry_turn || turns_by (drawn_loop blocks body i loop) n) ≡ true)
    → LeadsBack e l k loop ≡ true → LeadsBack n from to (drawn_loop blocks body i loop) ≡ true
back_alike blocks body i loop e n l from k to at held turns h =
    ap (λ (b : Bool). (b && holds other from) && (not loop.entry_turn || turns_by other n)) at.first
    ∙ (ap (λ (b : Bool). ((k == loop.first) && b) && (not loop.entry_turn || turns_by other n)) held
    ∙ (ap (λ (b : Bool). b && (not loop.entry_turn || turns_by other n)) parts.0 ∙ turns parts.1))
  where
    other : Loop
    other = drawn_loop blocks body i loop

    parts : (((k == loop.first) && holds loop l) ≡ true) × ((not loop.entry_turn || turns_by loop e) ≡ true)
    parts = and_parts ((k == loop.first) && holds loop l) (not loop.entry_turn || turns_by loop e) h

-- what a block's loops have, those of its copy have
pub back_of : (blocks : Blocks) (body : Body) (i n : ℕ) (f g : Loop → Bool) (loops : List Loop) → AllByRecursion (IsGoodLoop blocks body) loops
    → ((loop : Loop) → IsGoodLoop blocks body loop → f loop ≡ true → g (drawn_loop blocks body i loop) ≡ true)
    → ((l : ℕ) → l < n → list_any g (map (drawn_loop blocks body i) (loops_from l loops)) ≡ true → list_any g (laid_below blocks (laid blocks) body i n) ≡ true)
    → n ≡ body.work.parts.locations → list_any f loops ≡ true → list_any g (laid_below blocks (laid blocks) body i n) ≡ true
back_of blocks body i n f g [] are each among e h = absurd (false≢true h)
back_of blocks body i n f g (loop ∷ loops) are each among e h = by (or_cases (f loop) (list_any f loops) h)
    (λ later. back_of blocks body i n f g loops are.1 each
    (λ l lt any. among l lt (later_from g (drawn_loop blocks body i) l loop loops any)) e later)
  where
    below : loop.first ≤ loop.last → loop.last < body.work.parts.locations → loop.first < n
    below a b = omega (arith, a, b, e)

    by : (f loop ≡ true) ⊎ (list_any f loops ≡ true) → (list_any f loops ≡ true → list_any g (laid_below blocks (laid blocks) body i n) ≡ true)
        → list_any g (laid_below blocks (laid blocks) body i n) ≡ true
    by (inl one) go = among loop.first (below (are.0).own.is.range (are.0).own.last)
        (any_from g (drawn_loop blocks body i) loop.first loop loops (eq-eqb loop.first loop.first refl) (each loop are.0 one))
    by (inr later) go = go later

-- ---- edges of the whole

abbrev LeadsWell : List Loop → ℕ → ℕ → ℕ → Type 0
LeadsWell loops n from to = leads_well loops (Some n) from to ≡ true

forward_leads : (loops : List Loop) (n from to : ℕ) → from < to → LeadsWell loops n from to
forward_leads loops n from to lt = or_left (nat_lt from to) (leads_back loops (Some n) from to) (lt-ltb from to lt)

back_leads : (loops : List Loop) (n from to : ℕ) → leads_back loops (Some n) from to ≡ true → LeadsWell loops n from to
back_leads loops n from to h = or_right (nat_lt from to) (leads_back loops (Some n) from to) h

-- what stands among the loops of the copy stands among those of the whole
abbrev AreAmong : Blocks → List Loop → Body → ℕ → Type 0
AreAmong blocks loops body i =
    (f : Loop → Bool) → list_any f (laid_below blocks (laid blocks) body i body.work.parts.locations) ≡ true → list_any f loops ≡ true

-- where the copy leads out, an edge from where it is done leads well
abbrev OutLeads : Blocks → ℕ → List Loop → Body → Option Aim → Type 0
OutLeads blocks top loops body None = Unit {0}
OutLeads blocks top loops body (Some aim) =
    (n from to : ℕ) → body.start ≤ from → from < end_of_body blocks body → IsTo top aim to → LeadsWell loops n from to

-- to a location that stands after one that takes room
aim_after : (blocks : Blocks) (body : Body) (top l m from to : ℕ) → l < m → m ≤ body.work.parts.locations → end_of_body blocks body ≤ top
    → from < number_in blocks body (suc l) → IsTo top (aim_in blocks body m) to → from < to
aim_after blocks body top l m from to lt le high below leads = by (end_at body.work.parts m) leads
  where
    up : l < m → suc l ≤ m
    up h = omega (arith, h)

    chain : (a b : ℕ) → from < a → a ≤ b → to ≡ b → from < to
    chain a b h g e = omega (arith, h, g, e)

    far : (a b : ℕ) → from < a → a ≤ b → b ≤ top → top ≤ to → from < to
    far a b h g k j = omega (arith, h, g, k, j)

    to_end : top ≤ to → from < to
    to_end e = far (number_in blocks body (suc l)) (end_of_body blocks body) below
        (rises_in blocks body (suc l) body.work.parts.locations (low lt le)) high e
      where
        low : l < m → m ≤ body.work.parts.locations → suc l ≤ body.work.parts.locations
        low h g = omega (arith, h, g)

    by : (end : Option End) → IsTo top (aim_by end (number_in blocks body m)) to → from < to
    by None e = chain (number_in blocks body (suc l)) (number_in blocks body m) below (rises_in blocks body (suc l) m (up lt)) e
    by (Some done) e = chain (number_in blocks body (suc l)) (number_in blocks body m) below (rises_in blocks body (suc l) m (up lt)) e
    by (Some (trap kind place)) e = to_end e
    by (Some (over place)) e = to_end e

-- what stands at a location stands below those after it
any_part : (blocks : Blocks) (f : Loop → Bool) (body : Body) (i l n : ℕ) → l < n
    → list_any f (laid_by blocks (laid blocks) body i l (end_at body.work.parts l)) ≡ true → list_any f (laid_below blocks (laid blocks) body i n) ≡ true
any_part blocks f body i l zero lt h = absurd (omega (arith, lt))
any_part blocks f body i l (suc n) lt h = by (cases_lt l n) (λ small. any_part blocks f body i l n small h)
  where
    here : ℕ → List Loop
    here m = map (drawn_loop blocks body i) (loops_from m body.work.parts.loops)

    rest : ℕ → List Loop
    rest m = laid_by blocks (laid blocks) body i m (end_at body.work.parts m)

    by : (l < n) ⊎ (n ≤ l) → (l < n → list_any f (laid_below blocks (laid blocks) body i n) ≡ true)
        → list_any f (laid_below blocks (laid blocks) body i n ++ (here n ++ rest n)) ≡ true
    by (inl small) go = any_append_left f (laid_below blocks (laid blocks) body i n) (here n ++ rest n) (go small)
    by (inr ge) go = any_append_right f (laid_below blocks (laid blocks) body i n) (here n ++ rest n)
        (any_append_right f (here n) (rest n) (subst (λ (m : ℕ). list_any f (rest m) ≡ true) (equal lt ge) h))
      where
        equal : l < suc n → n ≤ l → l ≡ n
        equal a b = omega (arith, a, b)

abbrev LeadsIn : Blocks → Parts → List Loop → ℕ → Type 0
LeadsIn blocks entry loops c =
    (body : Body) (front back : List Drawn) → Site blocks entry body front back → block_at blocks c ≡ Some body.work.parts
    → AreAmong blocks loops body (length front) → OutLeads blocks (text_size blocks entry) loops body body.out
    → (n l k : ℕ) (d : Drawn) (edge : Edge) → slice_get (drawn_all blocks entry) n ≡ Some d → l < body.work.parts.locations
    → slice_get (drawn_at blocks body l) k ≡ Some d → n ≡ length front + (drawn_before blocks body l + k)
    → IsNumbered (text_size blocks entry) d edge → LeadsWell loops n edge.from edge.to

body_leads : (blocks : Blocks) → AreFitting blocks → AreSound blocks → (entry : Parts) (loops : List Loop) (b : ℕ)
    → ((p : Parts) → block_at blocks b ≡ Some p → (c : ℕ) → IsCalled p.calls c → LeadsIn blocks entry loops c) → LeadsIn blocks entry loops b
body_leads blocks fit sound entry loops b inner body front back site at among out n l k d edge there lt here e is = by_end (end_at p l) refl
  where
    p : Parts
    p = body.work.parts

    s : IsSound p
    s = sound_at blocks sound b p at

    i : ℕ
    i = length front

    top : ℕ
    top = text_size blocks entry

    le : end_of_body blocks body ≤ top
    le = site.placed.fits

    good : AllByRecursion (IsGoodLoop blocks body) p.loops
    good = good_loops blocks body s

    -- back to a loop, as the block's edge or call edge leads
    returns : (m from to : ℕ) (f : Loop → Bool)
        → ((loop : Loop) → IsGoodLoop blocks body loop → f loop ≡ true → LeadsBack (Some m) from to (drawn_loop blocks body i loop) ≡ true)
        → list_any f p.loops ≡ true → LeadsWell loops m from to
    returns m from to f each any = back_leads loops m from to (among (LeadsBack (Some m) from to)
        (back_of blocks body i p.locations f (LeadsBack (Some m) from to) p.loops good each
        (λ j below found. any_below blocks (LeadsBack (Some m) from to) body i j p.locations below found) refl any))

    own : IsOwn p l → LeadsWell loops n edge.from edge.to
    own is_own = by (or_cases (nat_lt mine.from mine.to) (leads_back p.loops (Some h.number) mine.from mine.to)
        (subst (λ (o : Option Edge). IfSome o (λ x. leads_well p.loops (Some h.number) x.from x.to ≡ true)) h.at (s.well_made.forward h.number)))
      where
        h : IsCopyOfOwn blocks body i n l d
        h = own_copied blocks body s i n l k d is_own here e

        mine : Edge
        mine = h.edge

        from_is : edge.from ≡ number_in blocks body mine.from
        from_is = is.from ∙ ap (λ (x : Drawn). x.from) (sym h.is)

        free : IsOpen (end_at p mine.from)
        free = subst IsOpen (sym (ap (λ (x : ℕ). end_at p x) h.begins ∙ is_own.goes_on)) tt

        leads : IsTo top (aim_in blocks body mine.to) edge.to
        leads = subst (λ (x : Drawn). IsTo top x.aim edge.to) (sym h.is) is.to

        to_exists : mine.to < p.locations
        to_exists = ltb-true mine.to p.locations (and_parts (nat_lt mine.from p.locations) (nat_lt mine.to p.locations)
            (edge_so (λ (y : Edge). nat_lt y.from p.locations && nat_lt y.to p.locations) p.edges h.number mine (are_below p s.faultless).edges h.at)).1

        weaken : mine.to < p.locations → mine.to ≤ p.locations
        weaken g = omega (arith, g)

        turning : (loop : Loop) → IsGoodLoop blocks body loop → (not loop.entry_turn || is_turn loop h.number) ≡ true
            → (not loop.entry_turn || is_turn (drawn_loop blocks body i loop) n) ≡ true
        turning loop is_good g = ap (λ (c : Bool). not loop.entry_turn || c) (h.turn loop is_good) ∙ g

        by : (nat_lt mine.from mine.to ≡ true) ⊎ (leads_back p.loops (Some h.number) mine.from mine.to ≡ true) → LeadsWell loops n edge.from edge.to
        by (inl less) = forward_leads loops n edge.from edge.to
            (aim_after blocks body top mine.from mine.to edge.from edge.to (ltb-true mine.from mine.to less) (weaken to_exists) le
            (subst (λ (m : ℕ). m < number_in blocks body (suc mine.from)) (sym from_is) (open_rises blocks body mine.from free)) leads)
        by (inr back_to) = returns n edge.from edge.to (LeadsBack (Some h.number) mine.from mine.to)
            (λ loop is_good g. back_alike blocks body i loop (Some h.number) (Some n) mine.from edge.from mine.to edge.to
            (alike_to blocks body i loop is_good.own top le mine.to edge.to leads)
            (ap (λ (m : ℕ). holds (drawn_loop blocks body i loop) m) from_is ∙ (alike_at blocks body i loop is_good.own mine.from free).held)
            (turning loop is_good) g) back_to

    called : end_at p l ≡ None → (c : Numbered) → call_from l 0 p.calls ≡ Some c → (o : Option Parts) → block_at blocks c.call.block ≡ o
        → LeadsWell loops n edge.from edge.to
    called none c call None f = absurd (there_of blocks fit b p at c.call.block (found_called l 0 p.calls c call) f)
    called none c call (Some q) f = by_index k (subst (λ (ds : List Drawn). slice_get ds k ≡ Some d) (call_drawn blocks fit body l c q none call f) here)
      where
        callee : Body
        callee = callee_body blocks body l c q

        call_in : IsCallIn blocks body l c q
        call_in = record { exists = lt; goes_on = none; call = call; there = f }

        fronts : List Drawn
        fronts = front ++ (drawn_below blocks (drawn blocks) body l ++ (edge_in blocks callee (number_in blocks body l) ∷ []))

        backs : List Drawn
        backs = (body_split blocks fit body l call_in.exists).rest ++ back

        callee_there : Site blocks entry callee fronts backs
        callee_there = callee_site blocks fit sound entry body front back l c q site call_in

        ends : end_of_body blocks callee ≡ number_in blocks body (suc l)
        ends = callee_ends blocks fit body l c q none call f

        index : length fronts ≡ suc (i + drawn_before blocks body l)
        index = length-append front _ ∙ (ap (λ (m : ℕ). i + m) (length-append (drawn_below blocks (drawn blocks) body l) _) ∙ sum i (drawn_before blocks body l))
          where
            sum : (a b : ℕ) → a + (b + 1) ≡ suc (a + b)
            sum a b = omega arith

        called_loops : laid_by blocks (laid blocks) body i l (end_at p l) ≡ laid_below blocks (laid blocks) callee (length fronts) q.locations
        called_loops = ap (λ (end : Option End). laid_by blocks (laid blocks) body i l end) none
            ∙ (ap (λ (o : Option Numbered). laid_call blocks (laid blocks) body i l o) call
            ∙ (ap (λ (o : Option Parts). laid_callee blocks (laid blocks) body i l c o) f
            ∙ (ap (λ (m : ℕ). laid blocks c.call.block callee m) (sym index) ∙ laid_is blocks fit c.call.block callee (length fronts) f)))

        inner_among : AreAmong blocks loops callee (length fronts)
        inner_among g any = among g (any_part blocks g body i l p.locations lt (subst (λ (ls : List Loop). list_any g ls ≡ true) (sym called_loops) any))

        forward_call : (leads_well p.loops None l c.call.to ≡ true)
        forward_call = subst (λ (m : ℕ). leads_well p.loops None m c.call.to ≡ true) so.1 so.0
          where
            so : (leads_well p.loops None c.call.from c.call.to ≡ true) × (c.call.from ≡ l)
            so = call_so (λ (x : CallEdge). leads_well p.loops None x.from x.to) l 0 p.calls c
                (all_true (λ (x : CallEdge). leads_well p.loops None x.from x.to) p.calls
                (recursion_from_All (λ (x : CallEdge). leads_well p.loops None x.from x.to ≡ true) p.calls s.well_made.calls_forward)) call

        inner_out : (m from to : ℕ) → callee.start ≤ from → from < end_of_body blocks callee → IsTo top (aim_in blocks body c.call.to) to
            → LeadsWell loops m from to
        inner_out m from to low high leads = by (or_cases (nat_lt l c.call.to) (leads_back p.loops None l c.call.to) forward_call)
          where
            low_from : suc (number_in blocks body l) ≤ from → number_in blocks body l < from
            low_from g = omega (arith, g)

            high_from : from < number_in blocks body (suc l)
            high_from = subst (λ (x : ℕ). from < x) ends high

            weaken : c.call.to < p.locations → c.call.to ≤ p.locations
            weaken g = omega (arith, g)

            turning : (entry_turn turn : Bool) → (not entry_turn || false) ≡ true → (not entry_turn || turn) ≡ true
            turning true turn g = absurd (false≢true g)
            turning false turn g = refl

            by : (nat_lt l c.call.to ≡ true) ⊎ (leads_back p.loops None l c.call.to ≡ true) → LeadsWell loops m from to
            by (inl less) = forward_leads loops m from to (aim_after blocks body top l c.call.to from to (ltb-true l c.call.to less)
                (weaken (call_leads p s l c call)) le high_from leads)
            by (inr back_to) = returns m from to (LeadsBack None l c.call.to)
                (λ loop is_good g. back_alike blocks body i loop None (Some m) l from c.call.to to
                (alike_to blocks body i loop is_good.own top le c.call.to to leads)
                (behind_at blocks body i loop is_good.own l from (low_from low) high_from).held
                (turning loop.entry_turn (is_turn (drawn_loop blocks body i loop) m)) g) back_to

        -- an edge of the callee
        deeper : IsFrom callee.start (end_of_body blocks callee) d → Where blocks callee (length fronts) n d → LeadsWell loops n edge.from edge.to
        deeper stand (away around never) = absurd (outside around.from)
          where
            outside : (d.from < callee.start) ⊎ (end_of_body blocks callee ≤ d.from) → ⊥
            outside (inl g) = apart d.from callee.start g stand.from
              where
                apart : (x y : ℕ) → x < y → y ≤ x → ⊥
                apart x y g k = omega (arith, g, k)
            outside (inr g) = apart d.from (end_of_body blocks callee) stand.below g
              where
                apart : (x y : ℕ) → x < y → y ≤ x → ⊥
                apart x y g k = omega (arith, g, k)
        deeper stand (stands m j below found number) =
            inner p at c.call.block (found_called l 0 p.calls c call) callee fronts backs callee_there f inner_among inner_out n m j d edge there below found
            number is

        by_index : (j : ℕ) → slice_get (edge_in blocks callee (number_in blocks body l) ∷ drawn_below blocks (drawn blocks) callee q.locations) j ≡ Some d
            → LeadsWell loops n edge.from edge.to
        by_index (suc j) g = deeper (all_here (IsFrom callee.start (end_of_body blocks callee)) (drawn_below blocks (drawn blocks) callee q.locations) j d
            (below_stands blocks (drawn blocks) callee q.locations (inner_stands blocks fit callee)) g)
            (where_is blocks entry callee n d fronts backs callee_there there)
        by_index zero g = forward_leads loops n edge.from edge.to (less edge.from edge.to (number_in blocks body l)
            (is.from ∙ ap (λ (x : Drawn). x.from) (sym first))
            (subst (λ (a : Aim). IsTo top a edge.to) (ap (λ (x : Drawn). x.aim) (sym first) ∙ first_aim blocks sound callee c.call.block f) is.to))
          where
            first : edge_in blocks callee (number_in blocks body l) ≡ d
            first = same_Some (edge_in blocks callee (number_in blocks body l)) d g

            less : (x y h : ℕ) → x ≡ h → y ≡ suc h → x < y
            less x y h g k = omega (arith, g, k)

    by_call : end_at p l ≡ None → (o : Option Numbered) → call_from l 0 p.calls ≡ o → LeadsWell loops n edge.from edge.to
    by_call none None f = own (record { goes_on = none; no_call = f })
    by_call none (Some c) f = called none c f (block_at blocks c.call.block) refl

    leaving : (o : Option Aim) → body.out ≡ o → end_at p l ≡ Some done → slice_get (edges_out o (number_in blocks body l)) k ≡ Some d
        → LeadsWell loops n edge.from edge.to
    leaving None f is_done g = absurd (none-some d g)
    leaving (Some aim) f is_done g = by_index k g
      where
        by_index : (j : ℕ) → slice_get (edges_out (Some aim) (number_in blocks body l)) j ≡ Some d → LeadsWell loops n edge.from edge.to
        by_index (suc j) h = absurd (none-some d h)
        by_index zero h = subst (λ (o : Option Aim). OutLeads blocks top loops body o) f out n edge.from edge.to
            (subst (λ (m : ℕ). body.start ≤ m) (sym from_is) (least body.start (before (span blocks) p l)))
            (subst (λ (m : ℕ). m < end_of_body blocks body) (sym from_is) (less_in blocks body l p.locations (subst IsOpen (sym is_done) tt) lt))
            (subst (λ (a : Aim). IsTo top a edge.to) (ap (λ (x : Drawn). x.aim) (sym found)) is.to)
          where
            found : record { from = number_in blocks body l; aim = aim; guard = true_term; sets = [] } ≡ d
            found = same_Some _ d h

            from_is : edge.from ≡ number_in blocks body l
            from_is = is.from ∙ ap (λ (x : Drawn). x.from) (sym found)

            least : (a b : ℕ) → a ≤ a + b
            least a b = omega arith

    by_end : (end : Option End) → end_at p l ≡ end → LeadsWell loops n edge.from edge.to
    by_end None f = by_call f (call_from l 0 p.calls) refl
    by_end (Some done) f = leaving body.out refl f (subst (λ (ds : List Drawn). slice_get ds k ≡ Some d)
        (ap (λ (end : Option End). drawn_by blocks (drawn blocks) body l end) f) here)
    by_end (Some (trap kind place)) f = absurd (none-some d (subst (λ (ds : List Drawn). slice_get ds k ≡ Some d)
        (ap (λ (end : Option End). drawn_by blocks (drawn blocks) body l end) f) here))
    by_end (Some (over place)) f = absurd (none-some d (subst (λ (ds : List Drawn). slice_get ds k ≡ Some d)
        (ap (λ (end : Option End). drawn_by blocks (drawn blocks) body l end) f) here))

copies_lead : (blocks : Blocks) → AreFitting blocks → AreSound blocks → (entry : Parts) (loops : List Loop) (b : ℕ) → LeadsIn blocks entry loops b
copies_lead blocks fit sound entry loops b =
    deep (λ n c. LeadsIn blocks entry loops c) blocks fit
    (λ n c none body front back site at. absurd (none-some body.work.parts (sym none ∙ at))) step b
  where
    step : (n c : ℕ) (q : Parts) → block_at blocks c ≡ Some q → ((d : ℕ) → runs_block blocks c d ≡ true → LeadsIn blocks entry loops d)
        → LeadsIn blocks entry loops c
    step n c q e below = body_leads blocks fit sound entry loops c (λ p at d any. below d (is_run blocks c p at d any))

pub edges_lead : (blocks : Blocks) → AreFitting blocks → AreSound blocks → (b : ℕ) (p : Parts) → block_at blocks b ≡ Some p → (n : ℕ) (edge : Edge)
    → slice_get (inlined blocks p).edges n ≡ Some edge → leads_well (inlined blocks p).loops (Some n) edge.from edge.to ≡ true
edges_lead blocks fit sound b p at n edge found = by (where_is blocks p (entry_body p) n x.d [] [] site x.at)
  where
    top : ℕ
    top = text_size blocks p

    x : FoundDrawn top (drawn_all blocks p) n edge
    x = drawn_of top top (drawn_all blocks p) n edge (omega arith) found

    site : Site blocks p (entry_body p) [] []
    site = entry_site blocks b p at

    by : Where blocks (entry_body p) 0 n x.d → leads_well (inlined blocks p).loops (Some n) edge.from edge.to ≡ true
    by (stands l k lt here e) = copies_lead blocks fit sound p (inlined blocks p).loops b (entry_body p) [] [] site at (λ f any. any) tt n l k x.d edge
        x.at lt here e x.is
    by (away around never) = absurd (outside around.from)
      where
        stand : IsFrom 0 top x.d
        stand = all_here (IsFrom 0 top) (drawn_all blocks p) n x.d (all_stand blocks fit p) x.at

        outside : (x.d.from < 0) ⊎ (end_of_body blocks (entry_body p) ≤ x.d.from) → ⊥
        outside (inl lt) = none x.d.from lt
          where
            none : (a : ℕ) → a < 0 → ⊥
            none a h = omega (arith, h)
        outside (inr le) = late x.d.from (text_size blocks p) stand.below le
          where
            late : (a t : ℕ) → a < t → 0 + t ≤ a → ⊥
            late a t h g = omega (arith, h, g)
