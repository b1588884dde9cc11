-- Edges of the whole and the copies of loops: each edge enters a loop's copy at its first location, and is a turn edge of it as the edge
-- that it is a copy of.
use Rattle.std.proofs.Common.{◌≡◌, ℕ, zero, suc, ◌+◌, ◌<◌, ◌≤◌, ◌⊎◌, inl, inr, List, [], ◌∷◌, map, length, slice_get, Bool, true, false, not, ◌&&◌, ◌||◌, ◌==◌, nat_lt, cond, IfSome, Option, Some, None, refl, sym, subst, ap, ◌∙◌, arith}
use Rattle.std.specs.List.{AllByRecursion, list_all}
use Rattle.std.proofs.lemmas.Bool.{false≢true, eqb-true, eq-eqb, ne_eqb, ltb-true, and_parts}
use Rattle.std.proofs.lemmas.List.Elements.{recursion_from_All}
use Rattle.std.proofs.lemmas.Option.{same_Some, none-some, slice_get_within}
use Rattle.pv_flow.specs.Automata.{Edge, CallEdge, Loop, Parts, edges_from, holds, is_turn}
use Rattle.pv_flow.specs.Faults.{enters_well}
use Rattle.pv_flow.specs.WellMade.{turns_well}
use Rattle.pv_flow.specs.Runs.{End, done, trap, over, end_at}
use Rattle.pv_flow.specs.Calls.{Blocks, block_at, Numbered, numbered, call_from}
use Rattle.pv_flow.specs.Fitting.{AreFitting, IsSound, AreSound}
use Rattle.pv_call_copies.specs.Renaming.{true_term}
use Rattle.pv_call_copies.specs.Inlined.{Aim, to_location, to_trap, to_over, Body, number_in, aim_by, aim_in, callee_body, Drawn, drawn_edge, edge_in, edges_out, drawn_by, drawn_below, drawn, drawn_all, drawn_before, turn_number, drawn_loop, location_by, next_by, edges_of, text_size}
use Rattle.pv_call_copies.specs.Correct.{IsFrom}
use Rattle.pv_call_copies.proofs.Edges.{are_below, there_of, sound_at}
use Rattle.pv_call_copies.proofs.Levels.{found_called, drawn_is}
use Rattle.pv_call_copies.proofs.Placing.{below_stands}
use Rattle.pv_call_copies.proofs.Placed.{end_of_body, inner_stands, call_drawn, callee_ends, IsOpen}
use Rattle.pv_call_copies.proofs.Aims.{AimsWithin, AreWithin, AimsAround, LeavesAround, some_room, first_aim, copies_within, Site}
use Rattle.pv_call_copies.proofs.Turns.{rank, HasRank, of_rank, one_rank, drawn_at, one_location, IsOwn, own_location, own_drawn, HasNumber, has_number, never_turns, same_turns, all_here, Where, away, stands, where_is}
use Rattle.pv_call_copies.proofs.Holding.{goes_on_inside, end_not_held, of_held, IsOwnLoop, of_copy, IsAlikeAt, alike_at, IsBehind, behind_at, outside_copy, not_first}

-- ---- edges with numbers

-- where an edge leads, with the ends' numbers from `top` on
abbrev pub IsTo : ℕ → Aim → ℕ → Type 0
IsTo top (to_location m) to = to ≡ m
IsTo top (to_trap kind place) to = top ≤ to
IsTo top (to_over place) to = top ≤ to

pub record IsNumbered (top : ℕ) (d : Drawn) (edge : Edge) : Type 0 where
  pub from : edge.from ≡ d.from
  pub to : IsTo top d.aim edge.to

pub record FoundDrawn (top : ℕ) (ds : List Drawn) (n : ℕ) (edge : Edge) : Type 0 where
  pub d : Drawn
  pub at : slice_get ds n ≡ Some d
  pub is : IsNumbered top d edge

pub drawn_of : (top next : ℕ) (ds : List Drawn) (n : ℕ) (edge : Edge) → top ≤ next → slice_get (edges_of next ds) n ≡ Some edge
    → FoundDrawn top ds n edge
drawn_of top next [] n edge le at = absurd (none-some edge at)
drawn_of top next (d ∷ ds) zero edge le at = record {
  d = d;
  at = refl;
  is = subst (λ (e : Edge). IsNumbered top d e) (same_Some first edge at) (record { from = refl; to = led d.aim });
}
  where
    first : Edge
    first = record { from = d.from; to = location_by d.aim next; guard = d.guard; sets = d.sets }

    led : (aim : Aim) → IsTo top aim (location_by aim next)
    led (to_location m) = refl
    led (to_trap kind place) = le
    led (to_over place) = le
drawn_of top next (d ∷ ds) (suc n) edge le at =
    let h : FoundDrawn top ds n edge = drawn_of top (next_by d.aim next) ds n edge (later d.aim) at in
    record { d = h.d; at = h.at; is = h.is }
  where
    later : (aim : Aim) → top ≤ next_by aim next
    later (to_location m) = le
    later (to_trap kind place) = omega (arith, le)
    later (to_over place) = omega (arith, le)

-- ---- a block's loops

pub record IsGoodLoop (blocks : Blocks) (body : Body) (loop : Loop) : Type 0 where
  pub own : IsOwnLoop blocks body loop
  pub turns : list_all (λ e. nat_lt e (length body.work.parts.edges)) loop.turns ≡ true
  pub edges : list_all (λ (edge : Edge). enters_well loop edge.from edge.to) body.work.parts.edges ≡ true
  pub calls : list_all (λ (call : CallEdge). enters_well loop call.from call.to) body.work.parts.calls ≡ true

-- ---- one edge and one loop

pub record IsWellAt (other : Loop) (n : ℕ) (edge : Edge) : Type 0 where
  pub enters : enters_well other edge.from edge.to ≡ true
  pub turns : turns_well other n edge ≡ true

pub or_true : (a : Bool) → (a || true) ≡ true
or_true true = refl
or_true false = refl

-- the condition on turns, by what it looks at
abbrev turns_by : Bool → Bool → Bool → Bool → Bool → Bool → Bool
turns_by entry turn from_held to_first from_first to_held =
    cond turn (cond entry (from_held && to_first) (from_first && to_held)) (entry || not (from_first && to_held))

no_turn : (entry from_held to_first to_held : Bool) → turns_by entry false from_held to_first false to_held ≡ true
no_turn entry from_held to_first to_held = or_true entry

-- an edge that isn't the copy of an own one, and doesn't begin where the loop does
elsewhere : (other : Loop) (n : ℕ) (edge : Edge) → is_turn other n ≡ false → (edge.from == other.first) ≡ false → turns_well other n edge ≡ true
elsewhere other n edge turn first =
    ap (λ (b : Bool). turns_by other.entry_turn b (holds other edge.from) (edge.to == other.first) (edge.from == other.first) (holds other edge.to)) turn
    ∙ (ap (λ (b : Bool). turns_by other.entry_turn false (holds other edge.from) (edge.to == other.first) b (holds other edge.to)) first
    ∙ no_turn other.entry_turn (holds other edge.from) (edge.to == other.first) (holds other edge.to))

-- an edge with both ends held alike
both_alike : (other : Loop) (a : Bool) (from to : ℕ) → holds other from ≡ a → holds other to ≡ a → enters_well other from to ≡ true
both_alike other a from to e f =
    ap (λ (b : Bool). (b || not (holds other to)) || (to == other.first)) e ∙ (ap (λ (b : Bool). (a || not b) || (to == other.first)) f ∙ by a)
  where
    by : (b : Bool) → ((b || not b) || (to == other.first)) ≡ true
    by true = refl
    by false = refl

-- one that leads to no location that is held
to_none : (other : Loop) (from to : ℕ) → holds other to ≡ false → enters_well other from to ≡ true
to_none other from to e =
    ap (λ (b : Bool). (holds other from || not b) || (to == other.first)) e ∙ ap (λ (b : Bool). b || (to == other.first)) (or_true (holds other from))

-- one that begins outside and leads to where the copy begins, or around it
from_outside : (blocks : Blocks) (body : Body) (i : ℕ) (loop : Loop) → IsOwnLoop blocks body loop → (top : ℕ) → end_of_body blocks body ≤ top
    → (from to : ℕ) (aim : Aim) → AimsAround body.start (end_of_body blocks body) aim → IsTo top aim to
    → enters_well (drawn_loop blocks body i loop) from to ≡ true
from_outside blocks body i loop own top le from to aim around leads = by aim around leads
  where
    other : Loop
    other = drawn_loop blocks body i loop

    none : (to < body.start) ⊎ (end_of_body blocks body ≤ to) → enters_well other from to ≡ true
    none side = to_none other from to (outside_copy blocks body i loop own to side)

    at_start : to ≤ body.start → enters_well other from to ≡ true
    at_start small = by_held (holds other to) refl
      where
        by_held : (b : Bool) → holds other to ≡ b → enters_well other from to ≡ true
        by_held false e = to_none other from to e
        by_held true e = ap (λ (b : Bool). (holds other from || not (holds other to)) || b)
            (eq-eqb to other.first (least body.start other.first (first_after body.start _) small (of_copy blocks body i loop own to e).from))
            ∙ or_true (holds other from || not (holds other to))
          where
            first_after : (s b : ℕ) → s ≤ s + b
            first_after s b = omega arith

            least : (s f : ℕ) → s ≤ f → to ≤ s → f ≤ to → to ≡ f
            least s f h g k = omega (arith, h, g, k)

    by : (a : Aim) → AimsAround body.start (end_of_body blocks body) a → IsTo top a to → enters_well other from to ≡ true
    by (to_location m) (inl small) e = at_start (omega (arith, small, e))
    by (to_location m) (inr large) e = none (inr (omega (arith, large, e)))
    by (to_trap kind place) h e = none (inr (omega (arith, le, e)))
    by (to_over place) h e = none (inr (omega (arith, le, e)))

-- what leads to a location of the copy is as the loop is there
pub alike_to : (blocks : Blocks) (body : Body) (i : ℕ) (loop : Loop) → IsOwnLoop blocks body loop → (top : ℕ) → end_of_body blocks body ≤ top
    → (l n : ℕ) → IsTo top (aim_in blocks body l) n → IsAlikeAt loop (drawn_loop blocks body i loop) l n
alike_to blocks body i loop own top le l n leads = by (end_at p l) refl leads
  where
    p : Parts
    p = body.work.parts

    other : Loop
    other = drawn_loop blocks body i loop

    standing : IsOpen (end_at p l) → n ≡ number_in blocks body l → IsAlikeAt loop other l n
    standing free e = subst (λ (m : ℕ). IsAlikeAt loop other l m) (sym e) (alike_at blocks body i loop own l free)

    ending : (end : Option End) (some : End) → end ≡ Some some → end_at p l ≡ end → top ≤ n → IsAlikeAt loop other l n
    ending end some e f high = record {
      held = out ∙ sym (end_not_held p loop own.is l some (f ∙ e));
      first = not_first blocks body i loop own n out
          ∙ sym (ne_eqb l loop.first (λ same. absurd (none-some some (sym (goes_on_inside p loop own.is loop.first
          (of_held loop loop.first (omega arith) own.is.range)) ∙ (ap (λ (m : ℕ). end_at p m) (sym same) ∙ (f ∙ e))))));
    }
      where
        out : holds other n ≡ false
        out = outside_copy blocks body i loop own n (inr (omega (arith, le, high)))

    by : (end : Option End) → end_at p l ≡ end → IsTo top (aim_by end (number_in blocks body l)) n → IsAlikeAt loop other l n
    by None e h = standing (subst IsOpen (sym e) tt) h
    by (Some done) e h = standing (subst IsOpen (sym e) tt) h
    by (Some (trap kind place)) e h = ending (Some (trap kind place)) (trap kind place) refl e h
    by (Some (over place)) e h = ending (Some (over place)) (over place) refl e h

-- an element of a list that is mapped
record IsMapped (blocks : Blocks) (body : Body) (edges : List Edge) (k : ℕ) (d : Drawn) : Type 0 where
  edge : Edge
  at : slice_get edges k ≡ Some edge
  is : drawn_edge blocks body edge ≡ d

mapped_of : (blocks : Blocks) (body : Body) (edges : List Edge) (k : ℕ) (d : Drawn) → slice_get (map (drawn_edge blocks body) edges) k ≡ Some d
    → IsMapped blocks body edges k d
mapped_of blocks body [] k d at = absurd (none-some d at)
mapped_of blocks body (x ∷ edges) zero d at = record { edge = x; at = refl; is = same_Some (drawn_edge blocks body x) d at }
mapped_of blocks body (x ∷ edges) (suc k) d at =
    let h : IsMapped blocks body edges k d = mapped_of blocks body edges k d at in record { edge = h.edge; at = h.at; is = h.is }

pub edge_so : (f : Edge → Bool) (edges : List Edge) (n : ℕ) (edge : Edge) → list_all f edges ≡ true → slice_get edges n ≡ Some edge → f edge ≡ true
edge_so f [] n edge all at = absurd (none-some edge at)
edge_so f (x ∷ edges) zero edge all at = subst (λ (y : Edge). f y ≡ true) (same_Some x edge at) (and_parts (f x) (list_all f edges) all).0
edge_so f (x ∷ edges) (suc n) edge all at = edge_so f edges n edge (and_parts (f x) (list_all f edges) all).1 at

-- of the call edge at a location
pub all_true : (f : CallEdge → Bool) (calls : List CallEdge) → AllByRecursion (λ (x : CallEdge). f x ≡ true) calls → list_all f calls ≡ true
all_true f [] are = refl
all_true f (x ∷ calls) are = ap (λ (b : Bool). b && list_all f calls) are.0 ∙ all_true f calls are.1

pub call_so : (f : CallEdge → Bool) (l j : ℕ) (calls : List CallEdge) (c : Numbered) → list_all f calls ≡ true → call_from l j calls ≡ Some c
    → (f c.call ≡ true) × (c.call.from ≡ l)
call_so f l j [] c all e = absurd (none-some c e)
call_so f l j (call ∷ calls) c all e = by (call.from == l) refl e (λ g. call_so f l (suc j) calls c (and_parts (f call) (list_all f calls) all).1 g)
  where
    by : (b : Bool) → (call.from == l) ≡ b → cond b (Some (numbered j call)) (call_from l (suc j) calls) ≡ Some c
        → (call_from l (suc j) calls ≡ Some c → (f c.call ≡ true) × (c.call.from ≡ l)) → (f c.call ≡ true) × (c.call.from ≡ l)
    by true on g go = subst (λ (d : Numbered). (f d.call ≡ true) × (d.call.from ≡ l)) (same_Some (numbered j call) c g)
        ((and_parts (f call) (list_all f calls) all).0, eqb-true call.from l on)
    by false on g go = go g

-- ---- turns

-- no own edge has this number
turn_none : (blocks : Blocks) (body : Body) → IsSound body.work.parts → (i n : ℕ) (loop : Loop) → IsGoodLoop blocks body loop
    → ((e : ℕ) (edge : Edge) → slice_get body.work.parts.edges e ≡ Some edge
    → n ≡ i + (drawn_before blocks body edge.from + rank body.work.parts.edges edge.from e) → ⊥)
    → is_turn (drawn_loop blocks body i loop) n ≡ false
turn_none blocks body s i n loop good never = never_turns blocks body i n loop.turns good.turns
    (λ e edge at same. never e edge at (sym same ∙ (has_number blocks body s i e edge at).is))

-- at a location that isn't an own edge's
pub turn_at_none : (blocks : Blocks) (body : Body) → IsSound body.work.parts → (i n l k : ℕ) (loop : Loop) → IsGoodLoop blocks body loop
    → k < length (drawn_at blocks body l) → n ≡ i + (drawn_before blocks body l + k) → (IsOwn body.work.parts l → ⊥)
    → is_turn (drawn_loop blocks body i loop) n ≡ false
turn_at_none blocks body s i n l k loop good lt e never =
    turn_none blocks body s i n loop good (λ f edge at same. never (subst (λ (m : ℕ). IsOwn body.work.parts m)
    (one_location blocks body edge.from (rank body.work.parts.edges edge.from f) l k (has_number blocks body s i f edge at).small lt
    (peeled (drawn_before blocks body edge.from + rank body.work.parts.edges edge.from f) (drawn_before blocks body l + k) same e))
    (own_location body.work.parts s f edge at)))
  where
    peeled : (a b : ℕ) → n ≡ i + a → n ≡ i + b → a ≡ b
    peeled a b h g = omega (arith, h, g)

-- ---- an own edge

-- the edge of which an own edge is the copy
pub record IsCopyOfOwn (blocks : Blocks) (body : Body) (i n l : ℕ) (d : Drawn) : Type 0 where
  pub edge : Edge
  pub number : ℕ
  pub at : slice_get body.work.parts.edges number ≡ Some edge
  pub begins : edge.from ≡ l
  pub is : drawn_edge blocks body edge ≡ d
  pub turn : (loop : Loop) → IsGoodLoop blocks body loop → is_turn (drawn_loop blocks body i loop) n ≡ is_turn loop number

pub own_copied : (blocks : Blocks) (body : Body) → IsSound body.work.parts → (i n l k : ℕ) (d : Drawn) → IsOwn body.work.parts l
    → slice_get (drawn_at blocks body l) k ≡ Some d → n ≡ i + (drawn_before blocks body l + k) → IsCopyOfOwn blocks body i n l d
own_copied blocks body s i n l k d own at e = record {
  edge = mine;
  number = h.number;
  at = h.at;
  begins = begins;
  is = m.is;
  turn = λ loop good. same_turns blocks body i n h.number loop.turns good.turns here only;
}
  where
    p : Parts
    p = body.work.parts

    m : IsMapped blocks body (edges_from l p.edges) k d
    m = mapped_of blocks body (edges_from l p.edges) k d (ap (λ (ds : List Drawn). slice_get ds k) (sym (own_drawn blocks body l own)) ∙ at)

    mine : Edge
    mine = m.edge

    h : HasRank p.edges l k mine
    h = of_rank l k p.edges mine m.at

    begins : mine.from ≡ l
    begins = eqb-true mine.from l h.from

    number : HasNumber blocks body i h.number mine
    number = has_number blocks body s i h.number mine h.at

    here : turn_number blocks body i h.number ≡ n
    here = number.is ∙ (ap (λ (x : ℕ). i + (drawn_before blocks body x + rank p.edges x h.number)) begins
        ∙ (ap (λ (x : ℕ). i + (drawn_before blocks body l + x)) h.is ∙ sym e))

    peeled : (a b : ℕ) → i + a ≡ i + b → a ≡ b
    peeled a b g = omega (arith, g)

    only : (f : ℕ) (x : Edge) → slice_get p.edges f ≡ Some x → turn_number blocks body i f ≡ n → f ≡ h.number
    only f x there same = one_rank l f h.number p.edges x mine there (eq-eqb x.from l at_l) h.at h.from (same_rank ∙ sym h.is)
      where
        its : HasNumber blocks body i f x
        its = has_number blocks body s i f x there

        sums : drawn_before blocks body x.from + rank p.edges x.from f ≡ drawn_before blocks body l + k
        sums = peeled (drawn_before blocks body x.from + rank p.edges x.from f) (drawn_before blocks body l + k) (sym its.is ∙ (same ∙ e))

        at_l : x.from ≡ l
        at_l = one_location blocks body x.from (rank p.edges x.from f) l k its.small (slice_get_within (drawn_at blocks body l) k d at) sums

        same_rank : rank p.edges l f ≡ k
        same_rank = peeled_after (drawn_before blocks body l) (rank p.edges l f)
            (subst (λ (y : ℕ). drawn_before blocks body y + rank p.edges y f ≡ drawn_before blocks body l + k) at_l sums)
          where
            peeled_after : (a r : ℕ) → a + r ≡ a + k → r ≡ k
            peeled_after a r g = omega (arith, g)

own_at : (blocks : Blocks) (body : Body) → IsSound body.work.parts → (i n l k top : ℕ) (d : Drawn) (edge : Edge) (loop : Loop) → IsGoodLoop blocks body loop
    → end_of_body blocks body ≤ top → IsOwn body.work.parts l → slice_get (drawn_at blocks body l) k ≡ Some d
    → n ≡ i + (drawn_before blocks body l + k) → IsNumbered top d edge → IsWellAt (drawn_loop blocks body i loop) n edge
own_at blocks body s i n l k top d edge loop good le own at e numbered_edge = record {
  enters = ap (λ (b : Bool). (b || not (holds other edge.to)) || (edge.to == other.first)) from_alike.held
      ∙ (ap (λ (b : Bool). (holds loop mine.from || not b) || (edge.to == other.first)) to_alike.held
      ∙ (ap (λ (b : Bool). (holds loop mine.from || not (holds loop mine.to)) || b) to_alike.first
      ∙ edge_so (λ (x : Edge). enters_well loop x.from x.to) p.edges h.number mine good.edges h.at));
  turns = ap (λ (b : Bool). turns_by loop.entry_turn b (holds other edge.from) (edge.to == other.first) (edge.from == other.first) (holds other edge.to))
      (h.turn loop good)
      ∙ (ap (λ (b : Bool). turns_by loop.entry_turn (is_turn loop h.number) b (edge.to == other.first) (edge.from == other.first) (holds other edge.to)) from_alike.held
      ∙ (ap (λ (b : Bool). turns_by loop.entry_turn (is_turn loop h.number) (holds loop mine.from) b (edge.from == other.first) (holds other edge.to)) to_alike.first
      ∙ (ap (λ (b : Bool). turns_by loop.entry_turn (is_turn loop h.number) (holds loop mine.from) (mine.to == loop.first) b (holds other edge.to)) from_alike.first
      ∙ (ap (λ (b : Bool). turns_by loop.entry_turn (is_turn loop h.number) (holds loop mine.from) (mine.to == loop.first) (mine.from == loop.first) b) to_alike.held
      ∙ subst (λ (o : Option Edge). IfSome o (λ x. turns_well loop h.number x ≡ true)) h.at (good.own.is.turns h.number)))));
}
  where
    p : Parts
    p = body.work.parts

    other : Loop
    other = drawn_loop blocks body i loop

    h : IsCopyOfOwn blocks body i n l d
    h = own_copied blocks body s i n l k d own at e

    mine : Edge
    mine = h.edge

    from_alike : IsAlikeAt loop other mine.from edge.from
    from_alike = subst (λ (x : ℕ). IsAlikeAt loop other mine.from x) (sym (numbered_edge.from ∙ ap (λ (x : Drawn). x.from) (sym h.is)))
        (alike_at blocks body i loop good.own mine.from (subst IsOpen (sym (ap (λ (x : ℕ). end_at p x) h.begins ∙ own.goes_on)) tt))

    to_alike : IsAlikeAt loop other mine.to edge.to
    to_alike = alike_to blocks body i loop good.own top le mine.to edge.to
        (subst (λ (x : Drawn). IsTo top x.aim edge.to) (sym h.is) numbered_edge.to)

-- ---- what stands at a call edge

-- in what is called both ends are held where the call edge's location is
in_call : (blocks : Blocks) (body : Body) (i n l : ℕ) (edge : Edge) (loop : Loop) → IsGoodLoop blocks body loop
    → is_turn (drawn_loop blocks body i loop) n ≡ false → number_in blocks body l < edge.from → edge.from < number_in blocks body (suc l)
    → number_in blocks body l < edge.to → edge.to < number_in blocks body (suc l) → IsWellAt (drawn_loop blocks body i loop) n edge
in_call blocks body i n l edge loop good turn low high from_low to_high = record {
  enters = both_alike (drawn_loop blocks body i loop) (holds loop l) edge.from edge.to from.held to.held;
  turns = elsewhere (drawn_loop blocks body i loop) n edge turn from.first;
}
  where
    from : IsBehind loop (drawn_loop blocks body i loop) l edge.from
    from = behind_at blocks body i loop good.own l edge.from low high

    to : IsBehind loop (drawn_loop blocks body i loop) l edge.to
    to = behind_at blocks body i loop good.own l edge.to from_low to_high

-- the edge in
way_in_at : (blocks : Blocks) (body : Body) (i n l : ℕ) (c : Numbered) (edge : Edge) (loop : Loop) → IsGoodLoop blocks body loop
    → end_at body.work.parts l ≡ None → call_from l 0 body.work.parts.calls ≡ Some c
    → is_turn (drawn_loop blocks body i loop) n ≡ false → edge.from ≡ number_in blocks body l
    → number_in blocks body l < edge.to → edge.to < number_in blocks body (suc l) → IsWellAt (drawn_loop blocks body i loop) n edge
way_in_at blocks body i n l c edge loop good none call turn begins low high = record {
  enters = both_alike other (holds loop l) edge.from edge.to from.held to.held;
  turns = ap (λ (b : Bool). turns_by other.entry_turn b (holds other edge.from) (edge.to == other.first) (edge.from == other.first) (holds other edge.to)) turn
      ∙ by loop.entry_turn (edge.from == other.first) (holds other edge.to) alone;
}
  where
    other : Loop
    other = drawn_loop blocks body i loop

    from : IsAlikeAt loop other l edge.from
    from = subst (λ (x : ℕ). IsAlikeAt loop other l x) (sym begins) (alike_at blocks body i loop good.own l (subst IsOpen (sym none) tt))

    to : IsBehind loop other l edge.to
    to = behind_at blocks body i loop good.own l edge.to low high

    called : ((loop.entry_turn || not (c.call.from == loop.first)) ≡ true) × (c.call.from ≡ l)
    called = call_so (λ (x : CallEdge). loop.entry_turn || not (x.from == loop.first)) l 0 body.work.parts.calls c
        (all_true (λ (x : CallEdge). loop.entry_turn || not (x.from == loop.first)) body.work.parts.calls
        (recursion_from_All (λ (x : CallEdge). (loop.entry_turn || not (x.from == loop.first)) ≡ true) body.work.parts.calls good.own.is.calls)) call

    alone : (loop.entry_turn || not (edge.from == other.first)) ≡ true
    alone = ap (λ (b : Bool). loop.entry_turn || not b) from.first
        ∙ subst (λ (m : ℕ). (loop.entry_turn || not (m == loop.first)) ≡ true) called.1 called.0

    by : (entry first held : Bool) → (entry || not first) ≡ true → (entry || not (first && held)) ≡ true
    by true first held g = refl
    by false true held g = absurd (false≢true g)
    by false false held g = refl

-- what leads out of the called copy leads where the call edge does
way_out_at : (blocks : Blocks) (body : Body) (i n l top : ℕ) (c : Numbered) (edge : Edge) (loop : Loop) → IsGoodLoop blocks body loop
    → end_of_body blocks body ≤ top → call_from l 0 body.work.parts.calls ≡ Some c → is_turn (drawn_loop blocks body i loop) n ≡ false
    → number_in blocks body l < edge.from → edge.from < number_in blocks body (suc l) → IsTo top (aim_in blocks body c.call.to) edge.to
    → IsWellAt (drawn_loop blocks body i loop) n edge
way_out_at blocks body i n l top c edge loop good le call turn low high leads = record {
  enters = ap (λ (b : Bool). (b || not (holds other edge.to)) || (edge.to == other.first)) from.held
      ∙ (ap (λ (b : Bool). (holds loop l || not b) || (edge.to == other.first)) to.held
      ∙ (ap (λ (b : Bool). (holds loop l || not (holds loop c.call.to)) || b) to.first
      ∙ subst (λ (m : ℕ). enters_well loop m c.call.to ≡ true) called.1 called.0));
  turns = elsewhere other n edge turn from.first;
}
  where
    other : Loop
    other = drawn_loop blocks body i loop

    from : IsBehind loop other l edge.from
    from = behind_at blocks body i loop good.own l edge.from low high

    to : IsAlikeAt loop other c.call.to edge.to
    to = alike_to blocks body i loop good.own top le c.call.to edge.to leads

    called : (enters_well loop c.call.from c.call.to ≡ true) × (c.call.from ≡ l)
    called = call_so (λ (x : CallEdge). enters_well loop x.from x.to) l 0 body.work.parts.calls c good.calls call

-- ---- each edge

pub well_at : (blocks : Blocks) → AreFitting blocks → AreSound blocks → (entry : Parts) (body : Body) (n : ℕ) (d : Drawn) (edge : Edge) (loop : Loop)
    (front back : List Drawn) → Site blocks entry body front back → IsGoodLoop blocks body loop → slice_get (drawn_all blocks entry) n ≡ Some d
    → IsNumbered (text_size blocks entry) d edge → IsWellAt (drawn_loop blocks body (length front) loop) n edge
well_at blocks fit sound entry body n d edge loop front back site good at is = by_where (where_is blocks entry body n d front back site at)
  where
    p : Parts
    p = body.work.parts

    s : IsSound p
    s = sound_at blocks sound site.placed.block p site.placed.known

    i : ℕ
    i = length front

    top : ℕ
    top = text_size blocks entry

    other : Loop
    other = drawn_loop blocks body i loop

    le : end_of_body blocks body ≤ top
    le = site.placed.fits

    -- from outside, by what is held where it begins
    outer : is_turn other n ≡ false → holds other edge.from ≡ false → AimsAround body.start (end_of_body blocks body) d.aim → IsWellAt other n edge
    outer turn out around = record {
      enters = from_outside blocks body i loop good.own top le edge.from edge.to d.aim around is.to;
      turns = elsewhere other n edge turn (not_first blocks body i loop good.own edge.from out);
    }

    at_call : (l k : ℕ) → end_at p l ≡ None → slice_get (drawn_at blocks body l) k ≡ Some d → n ≡ i + (drawn_before blocks body l + k) → (c : Numbered)
        → call_from l 0 p.calls ≡ Some c → (o : Option Parts) → block_at blocks c.call.block ≡ o → IsWellAt other n edge
    at_call l k none here e c call None there =
        absurd (there_of blocks fit site.placed.block p site.placed.known c.call.block (found_called l 0 p.calls c call) there)
    at_call l k none here e c call (Some q) there = by_index k refl (subst (λ (ds : List Drawn). slice_get ds k ≡ Some d)
        (call_drawn blocks fit body l c q none call there) here)
      where
        callee : Body
        callee = callee_body blocks body l c q

        inner : List Drawn
        inner = drawn_below blocks (drawn blocks) callee q.locations

        ends : end_of_body blocks callee ≡ number_in blocks body (suc l)
        ends = callee_ends blocks fit body l c q none call there

        turn : is_turn other n ≡ false
        turn = turn_at_none blocks body s i n l k loop good (slice_get_within (drawn_at blocks body l) k d here) e
            (λ own. absurd (none-some c (sym own.no_call ∙ call)))

        before_end : callee.start < number_in blocks body (suc l)
        before_end = subst (λ (m : ℕ). callee.start < m) ends (some_room blocks sound callee c.call.block there)

        FirstEdge : Type 0
        FirstEdge = (d.from ≡ number_in blocks body l) × (d.aim ≡ aim_in blocks callee 0)

        into : FirstEdge → IsWellAt other n edge
        into e = way_in_at blocks body i n l c edge loop good none call turn (is.from ∙ e.0)
            (subst (λ (m : ℕ). number_in blocks body l < m) (sym (leads e)) (omega arith))
            (subst (λ (m : ℕ). m < number_in blocks body (suc l)) (sym (leads e)) before_end)
          where
            leads : FirstEdge → edge.to ≡ callee.start
            leads h = subst (λ (aim : Aim). IsTo top aim edge.to) (h.1 ∙ first_aim blocks sound callee c.call.block there) is.to

        within : IsFrom callee.start (end_of_body blocks callee) d → AimsWithin blocks callee d.aim → IsWellAt other n edge
        within stand aim = by d.aim aim is.to
          where
            low : number_in blocks body l < edge.from
            low = subst (λ (m : ℕ). number_in blocks body l < m) (sym is.from) (above (number_in blocks body l) d.from stand.from)
              where
                above : (a b : ℕ) → suc a ≤ b → a < b
                above a b h = omega (arith, h)

            high : edge.from < number_in blocks body (suc l)
            high = subst (λ (m : ℕ). m < number_in blocks body (suc l)) (sym is.from) (subst (λ (m : ℕ). d.from < m) ends stand.below)

            out : (aim : Aim) → aim_in blocks body c.call.to ≡ aim → IsTo top aim edge.to → IsWellAt other n edge
            out aim f leads = way_out_at blocks body i n l top c edge loop good le call turn low high
                (subst (λ (a : Aim). IsTo top a edge.to) (sym f) leads)

            -- what leads to an end is held nowhere
            to_end : top ≤ edge.to → IsWellAt other n edge
            to_end far = record {
              enters = to_none other edge.from edge.to (outside_copy blocks body i loop good.own edge.to (inr (omega (arith, le, far))));
              turns = elsewhere other n edge turn (behind_at blocks body i loop good.own l edge.from low high).first;
            }

            by : (aim : Aim) → AimsWithin blocks callee aim → IsTo top aim edge.to → IsWellAt other n edge
            by (to_location m) (inl both) leads = in_call blocks body i n l edge loop good turn low high
                (subst (λ (x : ℕ). number_in blocks body l < x) (sym leads) (above (number_in blocks body l) m both.0))
                (subst (λ (x : ℕ). x < number_in blocks body (suc l)) (sym leads) (subst (λ (x : ℕ). m < x) ends both.1))
              where
                above : (a b : ℕ) → suc a ≤ b → a < b
                above a b h = omega (arith, h)
            by (to_location m) (inr f) leads = out (to_location m) (same_Some (aim_in blocks body c.call.to) (to_location m) f) leads
            by (to_trap kind place) h leads = to_end leads
            by (to_over place) h leads = to_end leads

        by_index : (j : ℕ) → k ≡ j
            → slice_get (edge_in blocks callee (number_in blocks body l) ∷ inner) j ≡ Some d → IsWellAt other n edge
        by_index zero f h = into (
          ap (λ (x : Drawn). x.from) (sym (same_Some (edge_in blocks callee (number_in blocks body l)) d h)),
          ap (λ (x : Drawn). x.aim) (sym (same_Some (edge_in blocks callee (number_in blocks body l)) d h)),
        )
        by_index (suc j) f h = within
            (all_here (IsFrom callee.start (end_of_body blocks callee)) inner j d
            (below_stands blocks (drawn blocks) callee q.locations (inner_stands blocks fit callee)) h)
            (all_here (λ (x : Drawn). AimsWithin blocks callee x.aim) inner j d
            (subst (λ (ds : List Drawn). AreWithin blocks callee ds) (drawn_is blocks fit c.call.block callee there)
            (copies_within blocks fit sound c.call.block callee there)) h)

    by_call : (l k : ℕ) → end_at p l ≡ None → slice_get (drawn_at blocks body l) k ≡ Some d → n ≡ i + (drawn_before blocks body l + k)
        → (o : Option Numbered) → call_from l 0 p.calls ≡ o → IsWellAt other n edge
    by_call l k none here e None call = own_at blocks body s i n l k top d edge loop good le (record { goes_on = none; no_call = call }) here e is
    by_call l k none here e (Some c) call = at_call l k none here e c call (block_at blocks c.call.block) refl

    at_done : (l k : ℕ) → end_at p l ≡ Some done → slice_get (drawn_at blocks body l) k ≡ Some d → n ≡ i + (drawn_before blocks body l + k)
        → IsWellAt other n edge
    at_done l k is_done here e = led body.out refl (subst (λ (ds : List Drawn). slice_get ds k ≡ Some d)
        (ap (λ (end : Option End). drawn_by blocks (drawn blocks) body l end) is_done) here)
      where
        turn : is_turn other n ≡ false
        turn = turn_at_none blocks body s i n l k loop good (slice_get_within (drawn_at blocks body l) k d here) e
            (λ own. absurd (none-some done (sym own.goes_on ∙ is_done)))

        led : (out : Option Aim) → body.out ≡ out → slice_get (edges_out out (number_in blocks body l)) k ≡ Some d → IsWellAt other n edge
        led None f h = absurd (none-some d h)
        led (Some aim) f h = by_index k h
          where
            by_index : (j : ℕ) → slice_get (edges_out (Some aim) (number_in blocks body l)) j ≡ Some d → IsWellAt other n edge
            by_index (suc j) g = absurd (none-some d g)
            by_index zero g = outer turn
                (subst (λ (m : ℕ). holds other m ≡ false) (sym (is.from ∙ sym (ap (λ (x : Drawn). x.from) found)))
                ((alike_at blocks body i loop good.own l (subst IsOpen (sym is_done) tt)).held ∙ end_not_held p loop good.own.is l done is_done))
                (subst (λ (a : Aim). AimsAround body.start (end_of_body blocks body) a) (ap (λ (x : Drawn). x.aim) found)
                (subst (λ (o : Option Aim). LeavesAround body.start (end_of_body blocks body) o) f site.out))
              where
                found : record { from = number_in blocks body l; aim = aim; guard = true_term; sets = [] } ≡ d
                found = same_Some _ d g

    by_end : (l k : ℕ) (end : Option End) → end_at p l ≡ end → slice_get (drawn_at blocks body l) k ≡ Some d
        → n ≡ i + (drawn_before blocks body l + k) → IsWellAt other n edge
    by_end l k None f here e = by_call l k f here e (call_from l 0 p.calls) refl
    by_end l k (Some done) f here e = at_done l k f here e
    by_end l k (Some (trap kind place)) f here e = absurd (none-some d (subst (λ (ds : List Drawn). slice_get ds k ≡ Some d)
        (ap (λ (end : Option End). drawn_by blocks (drawn blocks) body l end) f) here))
    by_end l k (Some (over place)) f here e = absurd (none-some d (subst (λ (ds : List Drawn). slice_get ds k ≡ Some d)
        (ap (λ (end : Option End). drawn_by blocks (drawn blocks) body l end) f) here))

    by_where : Where blocks body i n d → IsWellAt other n edge
    by_where (away around never) = outer
        (turn_none blocks body s i n loop good (λ e x there same.
        never x.from (rank p.edges x.from e)
        (ltb-true x.from p.locations (and_parts (nat_lt x.from p.locations) (nat_lt x.to p.locations)
        (edge_so (λ (y : Edge). nat_lt y.from p.locations && nat_lt y.to p.locations) p.edges e x (are_below p s.faultless).edges there)).0)
        (has_number blocks body s i e x there).small same))
        (outside_copy blocks body i loop good.own edge.from (subst (λ (m : ℕ). (m < body.start) ⊎ (end_of_body blocks body ≤ m)) (sym is.from) around.from))
        around.aim
    by_where (stands l k lt here e) = by_end l k (end_at p l) refl here e
