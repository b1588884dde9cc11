-- Where what is drawn leads: an edge of a copy leads to a location of the copy, or to where the copy leads once it is done; and no edge from
-- outside leads into a copy but to its first location.
use Rattle.std.proofs.Common.{◌≡◌, ℕ, zero, suc, ◌+◌, ◌<◌, ◌≤◌, ◌⊎◌, inl, inr, List, [], ◌∷◌, ◌++◌, map, Bool, true, false, ◌&&◌, ◌==◌, nat_lt, cond, Option, Some, None, refl, sym, subst, ap, ◌∙◌, arith}
use Rattle.std.specs.List.{AllByRecursion, list_all}
use Rattle.std.proofs.lemmas.Bool.{true≢false, ltb-true, cases_lt, and_parts}
use Rattle.std.proofs.lemmas.Option.{same_Some, none-some}
use Rattle.pv_flow.specs.Automata.{Edge, CallEdge, Parts, edges_from}
use Rattle.pv_flow.specs.Runs.{End, done, trap, over, end_at}
use Rattle.pv_flow.specs.Calls.{Blocks, block_at, Numbered, numbered, call_from}
use Rattle.pv_flow.specs.Fitting.{runs_block, AreFitting, IsSound, AreSound}
use Rattle.pv_flow.proofs.ForCallers.{deep}
use Rattle.pv_call_copies.specs.Inlined.{width_by, called_at, before, span, Aim, to_location, to_trap, to_over, Body, entry_body, number_in, aim_by, aim_in, callee_body, Drawn, drawn_edge, edge_in, edges_out, drawn_call, drawn_from, drawn_by, drawn_below, drawn, drawn_all, text_size}
use Rattle.pv_call_copies.specs.Correct.{AreFrom}
use Rattle.pv_call_copies.proofs.Levels.{IsCalled, is_run, found_called, drawn_is}
use Rattle.pv_call_copies.proofs.Counting.{ends_are_ends}
use Rattle.pv_call_copies.proofs.Edges.{AreBelow, are_below, sound_at}
use Rattle.pv_call_copies.proofs.Placing.{drawn_within_width, before_rises, Split}
use Rattle.pv_call_copies.proofs.Placed.{end_of_body, inner_stands, body_split, callee_ends, Placed, entry_placed, callee_placed, IsCallIn, IsOpen}
use Rattle.pv_call_copies.proofs.Ending.{entry_numbers}

-- ---- numbers of a copy's locations

pub rises_in : (blocks : Blocks) (body : Body) (l m : ℕ) → l ≤ m → number_in blocks body l ≤ number_in blocks body m
rises_in blocks body l m le = raised body.start (before_rises (span blocks) body.work.parts l m le)
  where
    raised : (s : ℕ) {a b : ℕ} → a ≤ b → s + a ≤ s + b
    raised s h = omega (arith, h)

-- what takes room stands before what follows it
pub open_rises : (blocks : Blocks) (body : Body) (l : ℕ) → IsOpen (end_at body.work.parts l) → number_in blocks body l < number_in blocks body (suc l)
open_rises blocks body l free =
    sum body.start (before (span blocks) body.work.parts l) (width_by (end_at body.work.parts l) (called_at (span blocks) body.work.parts l))
    (wide (end_at body.work.parts l) (called_at (span blocks) body.work.parts l) free)
  where
    sum : (s b w : ℕ) → 0 < w → s + b < s + (b + w)
    sum s b w e = omega (arith, e)

    wide : (end : Option End) (n : ℕ) → IsOpen end → 0 < width_by end n
    wide None n o = omega arith
    wide (Some done) n o = omega arith
    wide (Some (trap kind place)) n o = absurd o
    wide (Some (over place)) n o = absurd o

pub less_in : (blocks : Blocks) (body : Body) (l m : ℕ) → IsOpen (end_at body.work.parts l) → l < m → number_in blocks body l < number_in blocks body m
less_in blocks body l m free lt =
    chain (number_in blocks body l) (number_in blocks body (suc l)) (number_in blocks body m) (open_rises blocks body l free)
    (rises_in blocks body (suc l) m (omega (arith, lt)))
  where
    chain : (a b c : ℕ) → a < b → b ≤ c → a < c
    chain a b c h g = omega (arith, h, g)

-- ---- aims

-- what an edge from location l of a copy leads to: within what stands there, to a location of the copy that takes room, or out
pub data LeadsTo (blocks : Blocks) (body : Body) (l m : ℕ) : Type 0 where
  stays : number_in blocks body l < m → m < number_in blocks body (suc l) → LeadsTo blocks body l m
  goes : (to : ℕ) → to < body.work.parts.locations → IsOpen (end_at body.work.parts to) → m ≡ number_in blocks body to → LeadsTo blocks body l m
  leaves : body.out ≡ Some (to_location m) → LeadsTo blocks body l m

abbrev pub AimsAt : Blocks → Body → ℕ → Aim → Type 0
AimsAt blocks body l (to_location m) = LeadsTo blocks body l m
AimsAt blocks body l (to_trap kind place) = Unit {0}
AimsAt blocks body l (to_over place) = Unit {0}

-- within a copy, or where it leads
abbrev pub AimsWithin : Blocks → Body → Aim → Type 0
AimsWithin blocks body (to_location m) = ((body.start ≤ m) × (m < end_of_body blocks body)) ⊎ (body.out ≡ Some (to_location m))
AimsWithin blocks body (to_trap kind place) = Unit {0}
AimsWithin blocks body (to_over place) = Unit {0}

abbrev pub AreWithin : Blocks → Body → List Drawn → Type 0
AreWithin blocks body ds = AllByRecursion (λ (d : Drawn). AimsWithin blocks body d.aim) ds

abbrev pub AreAt : Blocks → Body → ℕ → List Drawn → Type 0
AreAt blocks body l ds = AllByRecursion (λ (d : Drawn). AimsAt blocks body l d.aim) ds

-- what leads to a location of a copy
pub named_aim : (blocks : Blocks) (body : Body) (l to : ℕ) → to < body.work.parts.locations → AimsAt blocks body l (aim_in blocks body to)
named_aim blocks body l to lt = by (end_at body.work.parts to) refl
  where
    by : (end : Option End) → end_at body.work.parts to ≡ end → AimsAt blocks body l (aim_by end (number_in blocks body to))
    by None e = goes to lt (subst IsOpen (sym e) tt) refl
    by (Some done) e = goes to lt (subst IsOpen (sym e) tt) refl
    by (Some (trap kind place)) e = tt
    by (Some (over place)) e = tt

within_of : (blocks : Blocks) (body : Body) (l : ℕ) → l < body.work.parts.locations → (aim : Aim) → AimsAt blocks body l aim → AimsWithin blocks body aim
within_of blocks body l lt (to_location m) (stays low high) =
    inl (
      least body.start (before (span blocks) body.work.parts l) m low,
      most m (number_in blocks body (suc l)) (end_of_body blocks body) high (rises_in blocks body (suc l) body.work.parts.locations (omega (arith, lt))),
    )
  where
    least : (s b m : ℕ) → s + b < m → s ≤ m
    least s b m h = omega (arith, h)

    most : (a b c : ℕ) → a < b → b ≤ c → a < c
    most a b c h g = omega (arith, h, g)
within_of blocks body l lt (to_location m) (goes to exists free e) =
    inl (
      subst (λ (k : ℕ). body.start ≤ k) (sym e) (least body.start (before (span blocks) body.work.parts to)),
      subst (λ (k : ℕ). k < end_of_body blocks body) (sym e) (less_in blocks body to body.work.parts.locations free exists),
    )
  where
    least : (s b : ℕ) → s ≤ s + b
    least s b = omega arith
within_of blocks body l lt (to_location m) (leaves e) = inr e
within_of blocks body l lt (to_trap kind place) h = tt
within_of blocks body l lt (to_over place) h = tt

all_within : (blocks : Blocks) (body : Body) (l : ℕ) → l < body.work.parts.locations → (ds : List Drawn) → AreAt blocks body l ds → AreWithin blocks body ds
all_within blocks body l lt [] are = tt
all_within blocks body l lt (d ∷ ds) are = (within_of blocks body l lt d.aim are.0, all_within blocks body l lt ds are.1)

within_append : (blocks : Blocks) (body : Body) (xs ys : List Drawn) → AreWithin blocks body xs → AreWithin blocks body ys → AreWithin blocks body (xs ++ ys)
within_append blocks body [] ys are more = more
within_append blocks body (x ∷ xs) ys are more = (are.0, within_append blocks body xs ys are.1 more)

own_at : (blocks : Blocks) (body : Body) (l : ℕ) (edges : List Edge)
    → list_all (λ (edge : Edge). nat_lt edge.from body.work.parts.locations && nat_lt edge.to body.work.parts.locations) edges ≡ true
    → AreAt blocks body l (map (drawn_edge blocks body) (edges_from l edges))
own_at blocks body l [] below = tt
own_at blocks body l (edge ∷ edges) below =
    let parts = and_parts (nat_lt edge.from body.work.parts.locations && nat_lt edge.to body.work.parts.locations)
    (list_all (λ (other : Edge). nat_lt other.from body.work.parts.locations && nat_lt other.to body.work.parts.locations) edges) below in
    by (edge.from == l)
    (named_aim blocks body l edge.to (ltb-true edge.to body.work.parts.locations
    (and_parts (nat_lt edge.from body.work.parts.locations) (nat_lt edge.to body.work.parts.locations) parts.0).1))
    (own_at blocks body l edges parts.1)
  where
    by : (b : Bool) → AimsAt blocks body l (aim_in blocks body edge.to) → AreAt blocks body l (map (drawn_edge blocks body) (edges_from l edges))
        → AreAt blocks body l (map (drawn_edge blocks body) (cond b (edge ∷ edges_from l edges) (edges_from l edges)))
    by true first rest = (first, rest)
    by false first rest = rest

-- a call edge leads to a location of its automaton
call_to : (p : Parts) (l j : ℕ) (calls : List CallEdge) (c : Numbered)
    → list_all (λ (call : CallEdge). nat_lt call.from p.locations && nat_lt call.to p.locations) calls ≡ true
    → call_from l j calls ≡ Some c → c.call.to < p.locations
call_to p l j [] c below e = absurd (none-some c e)
call_to p l j (call ∷ calls) c below e =
    let parts = and_parts (nat_lt call.from p.locations && nat_lt call.to p.locations)
    (list_all (λ (other : CallEdge). nat_lt other.from p.locations && nat_lt other.to p.locations) calls) below in
    by (call.from == l) e (ltb-true call.to p.locations (and_parts (nat_lt call.from p.locations) (nat_lt call.to p.locations) parts.0).1)
    (λ f. call_to p l (suc j) calls c parts.1 f)
  where
    by : (b : Bool) → cond b (Some (numbered j call)) (call_from l (suc j) calls) ≡ Some c → call.to < p.locations
        → (call_from l (suc j) calls ≡ Some c → c.call.to < p.locations) → c.call.to < p.locations
    by true f first go = subst (λ (d : Numbered). d.call.to < p.locations) (same_Some (numbered j call) c f) first
    by false f first go = go f

pub call_leads : (p : Parts) → IsSound p → (l : ℕ) (c : Numbered) → call_from l 0 p.calls ≡ Some c → c.call.to < p.locations
call_leads p s l c call = call_to p l 0 p.calls c (are_below p s.faultless).calls call

-- a scan doesn't end where it begins
pub open_first : {p : Parts} → IsSound p → end_at p 0 ≡ None
open_first {p} s = by (end_at p 0) refl
  where
    by : (end : Option End) → end_at p 0 ≡ end → end_at p 0 ≡ None
    by None e = e
    by (Some end) e = absurd (true≢false (sym (ends_are_ends p 0 end e) ∙ s.well_made.begins))

-- the first location of a copy is where it begins
pub first_aim : (blocks : Blocks) → AreSound blocks → (body : Body) (b : ℕ) → block_at blocks b ≡ Some body.work.parts
    → aim_in blocks body 0 ≡ to_location body.start
first_aim blocks sound body b at =
    ap (λ (end : Option End). aim_by end (number_in blocks body 0)) (open_first (sound_at blocks sound b body.work.parts at))
    ∙ ap to_location (none body.start)
  where
    none : (s : ℕ) → s + 0 ≡ s
    none s = omega arith

-- a copy takes room
pub some_room : (blocks : Blocks) → AreSound blocks → (body : Body) (b : ℕ) → block_at blocks b ≡ Some body.work.parts
    → body.start < end_of_body blocks body
some_room blocks sound body b at = more body.start (before (span blocks) q q.locations)
    (sized (before (span blocks) q q.done) (before (span blocks) q q.locations) (entry_numbers blocks q (sound_at blocks sound b q at)).1)
  where
    q : Parts
    q = body.work.parts

    more : (a n : ℕ) → 0 < n → a < a + n
    more a n h = omega (arith, h)

    sized : (a n : ℕ) → a < n → 0 < n
    sized a n h = omega (arith, h)

abbrev pub CopyWithin : Blocks → ℕ → Type 0
CopyWithin blocks c = (body : Body) → block_at blocks c ≡ Some body.work.parts → AreWithin blocks body (drawn blocks c body)

-- what stands in a called copy
inner_at : (blocks : Blocks) (body callee : Body) (l : ℕ) (ds : List Drawn) → number_in blocks body l < callee.start
    → end_of_body blocks callee ≡ number_in blocks body (suc l)
    → ((m : ℕ) → callee.out ≡ Some (to_location m) → LeadsTo blocks body l m)
    → AreWithin blocks callee ds → AreAt blocks body l ds
inner_at blocks body callee l [] low ends out are = tt
inner_at blocks body callee l (d ∷ ds) low ends out are = (one d.aim are.0, inner_at blocks body callee l ds low ends out are.1)
  where
    one : (aim : Aim) → AimsWithin blocks callee aim → AimsAt blocks body l aim
    one (to_location m) (inl both) = stays (above (number_in blocks body l) callee.start m low both.0) (subst (λ (k : ℕ). m < k) ends both.1)
      where
        above : (a b c : ℕ) → a < b → b ≤ c → a < c
        above a b c h g = omega (arith, h, g)
    one (to_location m) (inr e) = out m e
    one (to_trap kind place) h = tt
    one (to_over place) h = tt

-- at a location
pub drawn_at_location : (blocks : Blocks) → AreFitting blocks → AreSound blocks → (b : ℕ) (body : Body) → block_at blocks b ≡ Some body.work.parts
    → ((c : ℕ) → IsCalled body.work.parts.calls c → CopyWithin blocks c) → (l : ℕ)
    → AreAt blocks body l (drawn_by blocks (drawn blocks) body l (end_at body.work.parts l))
drawn_at_location blocks fit sound b body at inner l = by_end (end_at p l) refl
  where
    p : Parts
    p = body.work.parts

    s : IsSound p
    s = sound_at blocks sound b p at

    below : AreBelow p
    below = are_below p s.faultless

    called : end_at p l ≡ None → (c : Numbered) → call_from l 0 p.calls ≡ Some c → (o : Option Parts) → block_at blocks c.call.block ≡ o
        → AreAt blocks body l (drawn_call blocks (drawn blocks) body l c o)
    called none c call None e = tt
    called none c call (Some q) e = (
      subst (λ (aim : Aim). AimsAt blocks body l aim) (sym (first_aim blocks sound callee c.call.block e))
          (stays (next (number_in blocks body l)) (subst (λ (k : ℕ). suc (number_in blocks body l) < k)
          (callee_ends blocks fit body l c q none call e) (some_room blocks sound callee c.call.block e))),
      inner_at blocks body callee l (drawn blocks c.call.block callee) (next (number_in blocks body l)) (callee_ends blocks fit body l c q none call e)
          (λ m out. subst (λ (aim : Aim). AimsAt blocks body l aim) (same_Some (aim_in blocks body c.call.to) (to_location m) out)
          (named_aim blocks body l c.call.to (call_leads p s l c call)))
          (inner c.call.block (found_called l 0 p.calls c call) callee e),
    )
      where
        callee : Body
        callee = callee_body blocks body l c q

        next : (n : ℕ) → n < suc n
        next n = omega arith

    by_call : end_at p l ≡ None → (o : Option Numbered) → call_from l 0 p.calls ≡ o → AreAt blocks body l (drawn_from blocks (drawn blocks) body l o)
    by_call none None call = own_at blocks body l p.edges below.edges
    by_call none (Some c) call = called none c call (block_at blocks c.call.block) refl

    out : (o : Option Aim) → body.out ≡ o → AreAt blocks body l (edges_out o (number_in blocks body l))
    out None e = tt
    out (Some (to_location m)) e = (leaves e, tt)
    out (Some (to_trap kind place)) e = (tt, tt)
    out (Some (to_over place)) e = (tt, tt)

    by_end : (end : Option End) → end_at p l ≡ end → AreAt blocks body l (drawn_by blocks (drawn blocks) body l end)
    by_end None e = by_call e (call_from l 0 p.calls) refl
    by_end (Some done) e = out body.out refl
    by_end (Some (trap kind place)) e = tt
    by_end (Some (over place)) e = tt

below_within : (blocks : Blocks) → AreFitting blocks → AreSound blocks → (b : ℕ) (body : Body) → block_at blocks b ≡ Some body.work.parts
    → ((c : ℕ) → IsCalled body.work.parts.calls c → CopyWithin blocks c) → (n : ℕ) → n ≤ body.work.parts.locations
    → AreWithin blocks body (drawn_below blocks (drawn blocks) body n)
below_within blocks fit sound b body at inner zero le = tt
below_within blocks fit sound b body at inner (suc n) le =
    within_append blocks body (drawn_below blocks (drawn blocks) body n) (drawn_by blocks (drawn blocks) body n (end_at body.work.parts n))
    (below_within blocks fit sound b body at inner n (omega (arith, le)))
    (all_within blocks body n (omega (arith, le)) (drawn_by blocks (drawn blocks) body n (end_at body.work.parts n))
    (drawn_at_location blocks fit sound b body at inner n))

pub copies_within : (blocks : Blocks) → AreFitting blocks → AreSound blocks → (b : ℕ) → CopyWithin blocks b
copies_within blocks fit sound b =
    deep (λ n c. CopyWithin blocks c) blocks fit (λ n c none body at. absurd (none-some body.work.parts (sym none ∙ at))) step b
  where
    step : (n c : ℕ) (p : Parts) → block_at blocks c ≡ Some p → ((d : ℕ) → runs_block blocks c d ≡ true → CopyWithin blocks d) → CopyWithin blocks c
    step n c p e below = λ body at.
        subst (λ (ds : List Drawn). AreWithin blocks body ds) (sym (drawn_is blocks fit c body at))
        (below_within blocks fit sound c body at (λ d any. below d (is_run blocks c body.work.parts at d any)) body.work.parts.locations (omega arith))

pub each_at : (blocks : Blocks) → AreFitting blocks → AreSound blocks → (b : ℕ) (body : Body) → block_at blocks b ≡ Some body.work.parts → (l : ℕ)
    → AreAt blocks body l (drawn_by blocks (drawn blocks) body l (end_at body.work.parts l))
each_at blocks fit sound b body at l = drawn_at_location blocks fit sound b body at (λ c any. copies_within blocks fit sound c) l

-- ---- around a copy

-- no location strictly within these
abbrev pub AimsAround : ℕ → ℕ → Aim → Type 0
AimsAround low high (to_location m) = (m ≤ low) ⊎ (high ≤ m)
AimsAround low high (to_trap kind place) = Unit {0}
AimsAround low high (to_over place) = Unit {0}

-- the edge begins outside, and leads to the first location at most
pub record IsAround (low high : ℕ) (d : Drawn) : Type 0 where
  pub from : (d.from < low) ⊎ (high ≤ d.from)
  pub aim : AimsAround low high d.aim

abbrev pub AreAround : ℕ → ℕ → List Drawn → Type 0
AreAround low high ds = AllByRecursion (IsAround low high) ds

narrower_aim : (low high least most : ℕ) → low ≤ least → most ≤ high → (aim : Aim) → AimsAround low high aim → AimsAround least most aim
narrower_aim low high least most le more (to_location m) (inl h) = inl (omega (arith, le, h))
narrower_aim low high least most le more (to_location m) (inr h) = inr (omega (arith, more, h))
narrower_aim low high least most le more (to_trap kind place) h = tt
narrower_aim low high least most le more (to_over place) h = tt

narrower : (low high least most : ℕ) → low ≤ least → most ≤ high → (ds : List Drawn) → AreAround low high ds → AreAround least most ds
narrower low high least most le more [] are = tt
narrower low high least most le more (d ∷ ds) are = (
  record { from = side (are.0).from; aim = narrower_aim low high least most le more d.aim (are.0).aim },
  narrower low high least most le more ds are.1,
)
  where
    side : (d.from < low) ⊎ (high ≤ d.from) → (d.from < least) ⊎ (most ≤ d.from)
    side (inl h) = inl (omega (arith, le, h))
    side (inr h) = inr (omega (arith, more, h))

around_append : (low high : ℕ) (xs ys : List Drawn) → AreAround low high xs → AreAround low high ys → AreAround low high (xs ++ ys)
around_append low high [] ys are more = more
around_append low high (x ∷ xs) ys are more = (are.0, around_append low high xs ys are.1 more)

-- where a copy leads is around it
abbrev pub LeavesAround : ℕ → ℕ → Option Aim → Type 0
LeavesAround low high None = Unit {0}
LeavesAround low high (Some aim) = AimsAround low high aim

-- a location of the copy is around what is called at another one
named_around : (blocks : Blocks) (body : Body) (l k to : ℕ) → k ≡ number_in blocks body to
    → (k ≤ suc (number_in blocks body l)) ⊎ (number_in blocks body (suc l) ≤ k)
named_around blocks body l k to e = by (cases_lt l to)
  where
    by : (l < to) ⊎ (to ≤ l) → (k ≤ suc (number_in blocks body l)) ⊎ (number_in blocks body (suc l) ≤ k)
    by (inl after) = inr (subst (λ (n : ℕ). number_in blocks body (suc l) ≤ n) (sym e) (rises_in blocks body (suc l) to (omega (arith, after))))
    by (inr low) = inl (subst (λ (n : ℕ). n ≤ suc (number_in blocks body l)) (sym e)
        (more (number_in blocks body to) (number_in blocks body l) (rises_in blocks body to l low)))
      where
        more : (a b : ℕ) → a ≤ b → a ≤ suc b
        more a b h = omega (arith, h)

-- what is drawn at location m of a copy is around what is called at location l
other_around : (blocks : Blocks) (body : Body) (l m : ℕ) → (l < m) ⊎ (m < l)
    → LeavesAround body.start (end_of_body blocks body) body.out → l < body.work.parts.locations
    → (aim : Aim) → AimsAt blocks body m aim → AimsAround (suc (number_in blocks body l)) (number_in blocks body (suc l)) aim
other_around blocks body l m side out lt (to_location k) (stays low high) = by side
  where
    by : (l < m) ⊎ (m < l) → (k ≤ suc (number_in blocks body l)) ⊎ (number_in blocks body (suc l) ≤ k)
    by (inl after) = inr (least (number_in blocks body (suc l)) (number_in blocks body m) k (rises_in blocks body (suc l) m (omega (arith, after))) low)
      where
        least : (a b c : ℕ) → a ≤ b → b < c → a ≤ c
        least a b c h g = omega (arith, h, g)
    by (inr before_it) = inl (most k (number_in blocks body (suc m)) (number_in blocks body l) high (rises_in blocks body (suc m) l (omega (arith, before_it))))
      where
        most : (a b c : ℕ) → a < b → b ≤ c → a ≤ suc c
        most a b c h g = omega (arith, h, g)
other_around blocks body l m side out lt (to_location k) (goes to exists free e) = named_around blocks body l k to e
other_around blocks body l m side out lt (to_location k) (leaves e) =
    narrower_aim body.start (end_of_body blocks body) (suc (number_in blocks body l)) (number_in blocks body (suc l))
    (least body.start (before (span blocks) body.work.parts l)) (rises_in blocks body (suc l) body.work.parts.locations (omega (arith, lt)))
    (to_location k) (subst (λ (o : Option Aim). LeavesAround body.start (end_of_body blocks body) o) e out)
  where
    least : (s b : ℕ) → s ≤ suc (s + b)
    least s b = omega arith
other_around blocks body l m side out lt (to_trap kind place) h = tt
other_around blocks body l m side out lt (to_over place) h = tt

-- what is drawn at a location stands in what it takes
pub at_stands : (blocks : Blocks) → AreFitting blocks → (body : Body) (m : ℕ)
    → AreFrom (number_in blocks body m) (number_in blocks body (suc m)) (drawn_by blocks (drawn blocks) body m (end_at body.work.parts m))
at_stands blocks fit body m =
    subst (λ (k : ℕ). AreFrom (number_in blocks body m) k (drawn_by blocks (drawn blocks) body m (end_at body.work.parts m)))
    (sum body.start (before (span blocks) body.work.parts m) (width_by (end_at body.work.parts m) (called_at (span blocks) body.work.parts m)))
    (drawn_within_width blocks (drawn blocks) body m (end_at body.work.parts m) (inner_stands blocks fit body))
  where
    sum : (s b w : ℕ) → (s + b) + w ≡ s + (b + w)
    sum s b w = omega arith

at_others : (blocks : Blocks) (body : Body) (l m : ℕ) → (l < m) ⊎ (m < l) → LeavesAround body.start (end_of_body blocks body) body.out
    → l < body.work.parts.locations → IsOpen (end_at body.work.parts l) → (ds : List Drawn)
    → AreFrom (number_in blocks body m) (number_in blocks body (suc m)) ds → AreAt blocks body m ds
    → AreAround (suc (number_in blocks body l)) (number_in blocks body (suc l)) ds
at_others blocks body l m side out lt free [] from are = tt
at_others blocks body l m side out lt free (d ∷ ds) from are = (
  record { from = by side; aim = other_around blocks body l m side out lt d.aim are.0 },
  at_others blocks body l m side out lt free ds from.1 are.1,
)
  where
    by : (l < m) ⊎ (m < l) → (d.from < suc (number_in blocks body l)) ⊎ (number_in blocks body (suc l) ≤ d.from)
    by (inl after) = inr (least (number_in blocks body (suc l)) (number_in blocks body m) d.from (rises_in blocks body (suc l) m (omega (arith, after))) (from.0).from)
      where
        least : (a b c : ℕ) → a ≤ b → b ≤ c → a ≤ c
        least a b c h g = omega (arith, h, g)
    by (inr earlier) = inl (most d.from (number_in blocks body (suc m)) (number_in blocks body l) (from.0).below (rises_in blocks body (suc m) l (omega (arith, earlier))))
      where
        most : (a b c : ℕ) → a < b → b ≤ c → a < suc c
        most a b c h g = omega (arith, h, g)

-- so is all that is drawn before the location, and after it
below_around : (blocks : Blocks) → AreFitting blocks → AreSound blocks → (b : ℕ) (body : Body) → block_at blocks b ≡ Some body.work.parts → (l n : ℕ)
    → LeavesAround body.start (end_of_body blocks body) body.out → l < body.work.parts.locations → IsOpen (end_at body.work.parts l) → n ≤ l
    → AreAround (suc (number_in blocks body l)) (number_in blocks body (suc l)) (drawn_below blocks (drawn blocks) body n)
below_around blocks fit sound b body at l zero out lt free le = tt
below_around blocks fit sound b body at l (suc n) out lt free le =
    around_append (suc (number_in blocks body l)) (number_in blocks body (suc l)) (drawn_below blocks (drawn blocks) body n)
    (drawn_by blocks (drawn blocks) body n (end_at body.work.parts n)) (below_around blocks fit sound b body at l n out lt free (omega (arith, le)))
    (at_others blocks body l n (inr (omega (arith, le))) out lt free (drawn_by blocks (drawn blocks) body n (end_at body.work.parts n))
    (at_stands blocks fit body n) (each_at blocks fit sound b body at n))

-- it is around, or stands before what follows the location
abbrev pub AroundOrBefore : Blocks → Body → ℕ → Drawn → Type 0
AroundOrBefore blocks body l d =
    IsAround (suc (number_in blocks body l)) (number_in blocks body (suc l)) d ⊎ (d.from < number_in blocks body (suc l))

or_append : (P : Drawn → Type 0) (xs ys : List Drawn) → AllByRecursion P xs → AllByRecursion P ys → AllByRecursion P (xs ++ ys)
or_append P [] ys are more = more
or_append P (x ∷ xs) ys are more = (are.0, or_append P xs ys are.1 more)

right_of : (P : Drawn → Type 0) (xs ys : List Drawn) → AllByRecursion P (xs ++ ys) → AllByRecursion P ys
right_of P [] ys are = are
right_of P (x ∷ xs) ys are = right_of P xs ys are.1

each_left : (blocks : Blocks) (body : Body) (l high : ℕ) (low : ℕ) (ds : List Drawn) → high ≤ number_in blocks body (suc l) → AreFrom low high ds
    → AllByRecursion (AroundOrBefore blocks body l) ds
each_left blocks body l high low [] le from = tt
each_left blocks body l high low (d ∷ ds) le from =
    (inr (chain d.from high (number_in blocks body (suc l)) (from.0).below le), each_left blocks body l high low ds le from.1)
  where
    chain : (a b c : ℕ) → a < b → b ≤ c → a < c
    chain a b c h g = omega (arith, h, g)

each_around : (blocks : Blocks) (body : Body) (l : ℕ) (ds : List Drawn) → AreAround (suc (number_in blocks body l)) (number_in blocks body (suc l)) ds
    → AllByRecursion (AroundOrBefore blocks body l) ds
each_around blocks body l [] are = tt
each_around blocks body l (d ∷ ds) are = (inl are.0, each_around blocks body l ds are.1)

all_or : (blocks : Blocks) → AreFitting blocks → AreSound blocks → (b : ℕ) (body : Body) → block_at blocks b ≡ Some body.work.parts → (l n : ℕ)
    → LeavesAround body.start (end_of_body blocks body) body.out → l < body.work.parts.locations → IsOpen (end_at body.work.parts l)
    → AllByRecursion (AroundOrBefore blocks body l) (drawn_below blocks (drawn blocks) body n)
all_or blocks fit sound b body at l zero out lt free = tt
all_or blocks fit sound b body at l (suc n) out lt free =
    or_append (AroundOrBefore blocks body l) (drawn_below blocks (drawn blocks) body n) here (all_or blocks fit sound b body at l n out lt free)
    (by (cases_lt l n))
  where
    here : List Drawn
    here = drawn_by blocks (drawn blocks) body n (end_at body.work.parts n)

    by : (l < n) ⊎ (n ≤ l) → AllByRecursion (AroundOrBefore blocks body l) here
    by (inl after) = each_around blocks body l here
        (at_others blocks body l n (inl after) out lt free here (at_stands blocks fit body n) (each_at blocks fit sound b body at n))
    by (inr le) = each_left blocks body l (number_in blocks body (suc n)) (number_in blocks body n) here
        (rises_in blocks body (suc n) (suc l) (omega (arith, le))) (at_stands blocks fit body n)

only_around : (blocks : Blocks) (body : Body) (l top : ℕ) (ds : List Drawn) → AllByRecursion (AroundOrBefore blocks body l) ds
    → AreFrom (number_in blocks body (suc l)) top ds → AreAround (suc (number_in blocks body l)) (number_in blocks body (suc l)) ds
only_around blocks body l top [] are from = tt
only_around blocks body l top (d ∷ ds) are from = (by are.0, only_around blocks body l top ds are.1 from.1)
  where
    never : (a b : ℕ) → a < b → b ≤ a → ⊥
    never a b h g = omega (arith, h, g)

    by : AroundOrBefore blocks body l d → IsAround (suc (number_in blocks body l)) (number_in blocks body (suc l)) d
    by (inl h) = h
    by (inr lt) = absurd (never d.from (number_in blocks body (suc l)) lt (from.0).from)

-- ---- a copy in the whole

-- where a copy stands in the whole, and what is drawn before it and after it is around it
pub record Site (blocks : Blocks) (p : Parts) (body : Body) (front back : List Drawn) : Type 0 where
  pub placed : Placed blocks (entry_body p) (text_size blocks p) (drawn_all blocks p) body front back
  pub before_it : AreAround body.start (end_of_body blocks body) front
  pub after_it : AreAround body.start (end_of_body blocks body) back
  pub out : LeavesAround body.start (end_of_body blocks body) body.out

pub entry_site : (blocks : Blocks) (b : ℕ) (p : Parts) → block_at blocks b ≡ Some p → Site blocks p (entry_body p) [] []
entry_site blocks b p at = record { placed = entry_placed blocks b p at; before_it = tt; after_it = tt; out = tt }

pub callee_site : (blocks : Blocks) → (fit : AreFitting blocks) → AreSound blocks → (p : Parts) (body : Body) (front back : List Drawn) (l : ℕ) (c : Numbered)
    (q : Parts) → Site blocks p body front back → (h : IsCallIn blocks body l c q) → Site blocks p (callee_body blocks body l c q)
    (front ++ (drawn_below blocks (drawn blocks) body l ++ (edge_in blocks (callee_body blocks body l c q) (number_in blocks body l) ∷ [])))
    ((body_split blocks fit body l h.exists).rest ++ back)
callee_site blocks fit sound p body front back l c q site h = record {
  placed = callee_placed blocks fit (entry_body p) (text_size blocks p) (drawn_all blocks p) body front back l c q site.placed h.exists h.goes_on h.call h.there;
  before_it = subst (λ (n : ℕ). AreAround (suc here) n (front ++ (below ++ (first ∷ [])))) (sym ends)
      (around_append (suc here) after front (below ++ (first ∷ []))
      (narrower body.start (end_of_body blocks body) (suc here) after reach rises front site.before_it)
      (around_append (suc here) after below (first ∷ [])
      (below_around blocks fit sound site.placed.block body site.placed.known l l site.out h.exists free (omega arith)) (entering, tt)));
  after_it = subst (λ (n : ℕ). AreAround (suc here) n (cut.rest ++ back)) (sym ends)
      (around_append (suc here) after cut.rest back
      (only_around blocks body l (end_of_body blocks body) cut.rest
      (right_of (AroundOrBefore blocks body l) (drawn_by blocks (drawn blocks) body l (end_at body.work.parts l)) cut.rest
      (right_of (AroundOrBefore blocks body l) below (drawn_by blocks (drawn blocks) body l (end_at body.work.parts l) ++ cut.rest)
      (subst (λ (ds : List Drawn). AllByRecursion (AroundOrBefore blocks body l) ds) cut.is
      (all_or blocks fit sound site.placed.block body site.placed.known l body.work.parts.locations site.out h.exists free)))) cut.later)
      (narrower body.start (end_of_body blocks body) (suc here) after reach rises back site.after_it));
  out = subst (λ (n : ℕ). AimsAround (suc here) n (aim_in blocks body c.call.to)) (sym ends) (named (end_at body.work.parts c.call.to));
}
  where
    here : ℕ
    here = number_in blocks body l

    after : ℕ
    after = number_in blocks body (suc l)

    below : List Drawn
    below = drawn_below blocks (drawn blocks) body l

    callee : Body
    callee = callee_body blocks body l c q

    first : Drawn
    first = edge_in blocks callee here

    cut : Split blocks (drawn blocks) body l body.work.parts.locations
    cut = body_split blocks fit body l h.exists

    free : IsOpen (end_at body.work.parts l)
    free = subst IsOpen (sym h.goes_on) tt

    ends : end_of_body blocks callee ≡ after
    ends = callee_ends blocks fit body l c q h.goes_on h.call h.there

    reach : body.start ≤ suc here
    reach = least body.start (before (span blocks) body.work.parts l)
      where
        least : (s b : ℕ) → s ≤ suc (s + b)
        least s b = omega arith

    up : l < body.work.parts.locations → suc l ≤ body.work.parts.locations
    up g = omega (arith, g)

    rises : after ≤ end_of_body blocks body
    rises = rises_in blocks body (suc l) body.work.parts.locations (up h.exists)

    entering : IsAround (suc here) after first
    entering = record {
      from = inl (omega arith);
      aim = subst (λ (aim : Aim). AimsAround (suc here) after aim) (sym (first_aim blocks sound callee c.call.block h.there)) (inl (omega arith));
    }

    named : (end : Option End) → AimsAround (suc here) after (aim_by end (number_in blocks body c.call.to))
    named None = named_around blocks body l (number_in blocks body c.call.to) c.call.to refl
    named (Some done) = named_around blocks body l (number_in blocks body c.call.to) c.call.to refl
    named (Some (trap kind place)) = tt
    named (Some (over place)) = tt
