-- The walk draws what is defined: location by location, and level by level of calls.
use Rattle.std.proofs.Common.{◌≡◌, ℕ, zero, suc, ◌+◌, ◌<◌, ◌≤◌, List, [], ◌∷◌, ◌++◌, map, length, slice_get, true, nat_lt, Option, Some, None, refl, sym, subst, ap, ◌∙◌, arith}
use Rattle.std.specs.Prelude.{slice_index_or}
use Rattle.std.specs.List.{AllByRecursion, list_all}
use Rattle.std.proofs.lemmas.Bool.{ltb-true, and_parts}
use Rattle.std.proofs.lemmas.Option.{same_Some, none-some}
use Rattle.pv_flow.specs.declared.parts.Edge.{Edge as CodeEdge}
use Rattle.pv_flow.specs.declared.parts.Loop.{Loop as CodeLoop}
use Rattle.pv_flow.specs.declared.parts.CallEdge.{CallEdge as CodeCallEdge}
use Rattle.pv_flow.specs.declared.parts.Parts.{Parts as CodeParts}
use Rattle.pv_flow.specs.Automata.{Variable, CallEdge, Loop, Parts, edges_from}
use Rattle.pv_flow.specs.Faults.{edge_below}
use Rattle.pv_flow.specs.Runs.{End, done, trap, over, end_at}
use Rattle.pv_flow.specs.Calls.{Blocks, block_at, own_count, Work, Numbered, numbered, call_from, base_of, callee_work}
use Rattle.pv_flow.specs.Fitting.{IsFit, IsSound}
use Rattle.pv_flow.specs.Tables.{AreTabled}
use Rattle.pv_flow.specs.View.{terms_of, variable_of, edge_of, call_edge_of, loop_of, parts_of}
use Rattle.pv_call_copies.specs.Levels.{down}
use Rattle.pv_call_copies.specs.Inlined.{Aim as Plain_aim, Body, number_in, callee_body, Drawn as Plain_drawn, drawn_edge, edge_in, drawn_call, drawn_from, drawn_by, drawn_below, drawn_in, drawn_before, drawn_loop, loops_from, laid_callee, laid_call, laid_by, laid_below, laid_in}
use Rattle.pv_call_tables.specs.declared.marks.Standing.{Standing}
use Rattle.pv_call_tables.specs.declared.marks.Standing.TheVariants as standing
use Rattle.pv_call_tables.specs.Drawing.{aim_seen}
use Rattle.pv_call_tables.specs.Known.{standing_of, number_of}
use Rattle.pv_call_tables.specs.Chains.{from_of, first_of, numbers_from}
use Rattle.pv_call_tables.proofs.ForCallers.{standings_are, calls_are, numbers_are}
use Rattle.pv_inline.specs.Numbers.{MOST}
use Rattle.pv_inline.specs.Blocks.{block_in, blocks_in, code_at}
use Rattle.pv_inline.specs.Tables.{Table, table_in}
use Rattle.pv_inline.specs.Walking.{Making, Copy, number, aim, all_drawn, all_looped, numbers_at, tables_copied, edge_in_made, base, callee_copy, block_made, call_made, goes_on, made_by, location_made, locations_made, with_deeds, copy_made, below}
use Rattle.pv_inline.specs.Reading.{IsGood, Added}
use Rattle.pv_inline.specs.Copies.{aim_out, work_of, body_of, IsHeld, IsCode, IsWhole}
use Rattle.pv_call_copies.proofs.ForCallers.{call_fits, HasRoom, callee_room, outs_of, sound_at}
use Rattle.pv_inline.proofs.Tabling.{AreThere, are_there, IsCallOf, call_of, bases_are, drawn_are}
use Rattle.pv_inline.proofs.Lying.{Lies, callee_lies}
use Rattle.pv_inline.proofs.Reading.{nothing_added, added_then}
use Rattle.pv_inline.proofs.Steps.{number_is, aim_is, IsEdgeThere, IsLoopThere, AreBefore, edges_added, loops_added, tables_good, tables_added, tables_held, held_added, edge_in_added, out_added}
use Rattle.pv_inline.proofs.Growing.{GrowsBy, location_grows, locations_grow, below_grows}

abbrev pub work_with : Parts → (ℕ → ℕ) → ℕ → Work
work_with p place free = record { parts = p; place = place; free = free }

abbrev pub body_with : Work → ℕ → Option Plain_aim → Body
body_with work start out = record { work = work; start = start; out = out }

-- the copy of block b, whose variables lie so among all
pub record IsCopy (blocks : List (Option CodeParts)) (vars : List Variable) (b : ℕ) (c : Copy) (place : ℕ → ℕ) : Type 0 where
  pub at : block_at (blocks_in blocks) b ≡ Some (parts_of c.parts)
  pub tabled : AreTabled c.parts
  pub table : c.table ≡ table_in blocks c.parts (outs_of (aim_out c.out))
  pub lies : Lies (length (map variable_of c.parts.vars.items)) (work_of c place) c.place c.shared_at
  pub room : HasRoom (blocks_in blocks) vars (work_of c place)

-- ---- what is so of each copy

edges_there : (p : CodeParts) (edges : List CodeEdge) → AllByRecursion (λ (from : ℕ). from < p.locations) (map from_of edges)
    → AllByRecursion (λ (edge : CodeEdge). edge.to < p.locations) edges
    → list_all (λ (edge : CodeEdge). nat_lt edge.deed (length p.deeds.items)) edges ≡ true
    → list_all (edge_below (length (map variable_of p.vars.items))) (map (edge_of (terms_of p.nodes.items) p.deeds.items) edges) ≡ true
    → AllByRecursion (IsEdgeThere p) edges
edges_there p [] froms tos deeds below = tt
edges_there p (edge ∷ edges) froms tos deeds below =
    let d = and_parts (nat_lt edge.deed (length p.deeds.items)) (list_all (λ (e : CodeEdge). nat_lt e.deed (length p.deeds.items)) edges) deeds in
    let w = and_parts (edge_below (length (map variable_of p.vars.items)) (edge_of (terms_of p.nodes.items) p.deeds.items edge))
    (list_all (edge_below (length (map variable_of p.vars.items))) (map (edge_of (terms_of p.nodes.items) p.deeds.items) edges)) below in (
      record { from = froms.0; to = tos.0; deed = ltb-true edge.deed (length p.deeds.items) d.0; below = w.0 },
      edges_there p edges froms.1 tos.1 d.1 w.1,
    )

loops_there : (p : CodeParts) (loops : List CodeLoop) → AllByRecursion (λ (from : ℕ). from < p.locations) (map first_of loops)
    → AllByRecursion (λ (loop : CodeLoop). loop.last < p.locations) loops → AllByRecursion (IsLoopThere p) loops
loops_there p [] firsts lasts = tt
loops_there p (loop ∷ loops) firsts lasts = (record { first = firsts.0; last = lasts.0 }, loops_there p loops firsts.1 lasts.1)

pub record IsReady (blocks : List (Option CodeParts)) (c : Copy) (place : ℕ → ℕ) : Type 0 where
  pub sound : IsSound (parts_of c.parts)
  pub there : AreThere c.parts
  pub before : AreBefore blocks c place
  pub edges : AllByRecursion (IsEdgeThere c.parts) c.parts.edges.items
  pub loops : AllByRecursion (IsLoopThere c.parts) c.parts.loops.items

ready : (blocks : List (Option CodeParts)) (vars : List Variable) (b : ℕ) (c : Copy) (place : ℕ → ℕ) → IsWhole blocks vars
    → IsCopy blocks vars b c place → IsReady blocks c place
ready blocks vars b c place whole is = record {
  sound = sound;
  there = there;
  before = λ l le. ap (λ (t : Table). slice_index_or t.drawn l 0) is.table
      ∙ drawn_are (blocks_in blocks) whole.fit whole.sound b c.parts (body_of c place) refl is.at l le;
  edges = edges_there c.parts c.parts.edges.items there.froms there.tos is.tabled.edges
      (and_parts (list_all (edge_below (length (map variable_of c.parts.vars.items))) (parts_of c.parts).edges) _ sound.faultless.variables).0;
  loops = loops_there c.parts c.parts.loops.items there.firsts there.lasts;
}
  where
    sound : IsSound (parts_of c.parts)
    sound = sound_at (blocks_in blocks) whole.sound b (parts_of c.parts) is.at

    there : AreThere c.parts
    there = are_there c.parts sound.faultless

zero_on : (i : ℕ) → 0 + i ≡ i
zero_on i = omega arith

-- a block without code has no parts
no_code : (blocks : List (Option CodeParts)) (b : ℕ) → block_at (blocks_in blocks) b ≡ None → code_at blocks b ≡ None
no_code [] b none = refl
no_code (o ∷ blocks) zero none = by o none
  where
    by : (x : Option CodeParts) → block_in x ≡ None → x ≡ None
    by None e = refl
    by (Some p) e = absurd (none-some (parts_of p) (sym e))
no_code (o ∷ blocks) (suc b) none = no_code blocks b none

-- ---- called blocks

-- what makes a copy of a block once the edge into it is there adds these edges and loops
abbrev pub InnerAdds : List (Option CodeParts) → List Variable → (Copy → Making → Making) → (ℕ → Body → List Plain_drawn)
    → (ℕ → Body → ℕ → List Loop) → Type 0
InnerAdds blocks vars inner ds ls =
    (b : ℕ) (c : Copy) (place : ℕ → ℕ) (m : Making) → IsCopy blocks vars b c place → IsGood m → length (inner c m).nodes ≤ MOST
    → Added m (inner c m) (ds b (body_of c place)) (ls b (body_of c place) c.edges)

-- the callee of call edge j from location l
record IsCallee (blocks : List (Option CodeParts)) (vars : List Variable) (b : ℕ) (c : Copy) (place : ℕ → ℕ) (l j : ℕ) (call : CodeCallEdge)
    (q : CodeParts) : Type 0 where
  pub places : ℕ → ℕ
  pub copy : IsCopy blocks vars call.block (callee_copy blocks c l j call q) places
  pub body : body_of (callee_copy blocks c l j call q) places ≡ callee_body (blocks_in blocks) (body_of c place) l (numbered j (call_edge_of call)) (parts_of q)
  pub edges : (callee_copy blocks c l j call q).edges ≡ suc (c.edges + drawn_before (blocks_in blocks) (body_of c place) l)

callee_is : (blocks : List (Option CodeParts)) (vars : List Variable) (b : ℕ) (c : Copy) (place : ℕ → ℕ) → IsWhole blocks vars
    → IsCopy blocks vars b c place → IsReady blocks c place → (l j : ℕ) (call : CodeCallEdge) (q : CodeParts) → l < c.parts.locations
    → call_from l 0 (parts_of c.parts).calls ≡ Some (numbered j (call_edge_of call)) → slice_get c.parts.calls.items j ≡ Some call
    → call.to < c.parts.locations → block_at (blocks_in blocks) call.block ≡ Some (parts_of q) → AreTabled q
    → IsCallee blocks vars b c place l j call q
callee_is blocks vars b c place whole is r l j call q lt from at to there tabled = record {
  places = places;
  copy = record {
    at = there;
    tabled = tabled;
    table = refl;
    lies = record { own = lies.own; shared = lies.shared };
    room = subst (λ (w : Work). HasRoom (blocks_in blocks) vars w) works room;
  };
  body = ap (λ (w : Work). body_with w (number c l + 1) (Some (aim_seen (aim c call.to)))) (sym works)
      ∙ (ap (λ (n : ℕ). body_with callee n (Some (aim_seen (aim c call.to)))) (next (number c l) ∙ ap suc here)
      ∙ ap (λ (a : Plain_aim). body_with callee (suc (number_in (blocks_in blocks) (body_of c place) l)) (Some a))
      (aim_is blocks c place (outs_of (aim_out c.out)) is.table call.to to));
  edges = ap (λ (n : ℕ). (c.edges + n) + 1) (r.before l (weaker l c.parts.locations lt))
      ∙ next (c.edges + drawn_before (blocks_in blocks) (body_of c place) l);
}
  where
    k : Work
    k = work_of c place

    cc : Numbered
    cc = numbered j (call_edge_of call)

    callee : Work
    callee = callee_work (blocks_in blocks) k cc (parts_of q)

    places : ℕ → ℕ
    places = callee.place

    next : (n : ℕ) → n + 1 ≡ suc n
    next n = omega arith

    weaker : (a b : ℕ) → a < b → a ≤ b
    weaker a b h = omega (arith, h)

    here : number c l ≡ number_in (blocks_in blocks) (body_of c place) l
    here = number_is blocks c place (outs_of (aim_out c.out)) is.table l (weaker l c.parts.locations lt)

    based : base c j ≡ base_of (blocks_in blocks) k j
    based = ap (λ (t : Table). c.free + slice_index_or t.bases j 0) is.table
        ∙ ap (λ (n : ℕ). c.free + n) (bases_are (blocks_in blocks) c.parts j call at)

    fits : IsFit (parts_of c.parts) (call_edge_of call) (parts_of q)
    fits = call_fits (blocks_in blocks) whole.fit b (parts_of c.parts) (parts_of q) l cc is.at from there

    room : HasRoom (blocks_in blocks) vars callee
    room = callee_room (blocks_in blocks) whole.fit vars k l cc (parts_of q) is.room from there fits r.sound.well_made.counts

    works : callee ≡ work_of (callee_copy blocks c l j call q) places
    works = ap (λ (n : ℕ). work_with (parts_of q) places (n + own_count (parts_of q))) (sym based)

    small : (x : ℕ) → x < length (parts_of q).vars → places x ≤ MOST
    small x h = below_most (places x) (length vars) (room.placed x h).exists whole.few
      where
        below_most : (a n : ℕ) → a < n → n ≤ MOST → a ≤ MOST
        below_most a n h le = by MOST le
          where
            by : (most : ℕ) → n ≤ most → a ≤ most
            by most le = omega (arith, h, le)

    lies : Lies (length (parts_of q).vars) callee (callee_copy blocks c l j call q).place c.shared_at
    lies = callee_lies (blocks_in blocks) k cc (parts_of q) c.place c.shared_at (base c j) is.lies fits based small

-- ---- one location

called_added : (blocks : List (Option CodeParts)) (vars : List Variable) (b : ℕ) (c : Copy) (place : ℕ → ℕ) → IsWhole blocks vars
    → IsCopy blocks vars b c place → IsReady blocks c place
    → (inner : Copy → Making → Making) (ds : ℕ → Body → List Plain_drawn) (ls : ℕ → Body → ℕ → List Loop) → InnerAdds blocks vars inner ds ls
    → GrowsBy inner → (l j : ℕ) (call : CodeCallEdge) (q : CodeParts) → l < c.parts.locations
    → call_from l 0 (parts_of c.parts).calls ≡ Some (numbered j (call_edge_of call)) → slice_get c.parts.calls.items j ≡ Some call
    → call.to < c.parts.locations → block_at (blocks_in blocks) call.block ≡ Some (parts_of q) → AreTabled q → (m : Making) → IsGood m
    → length (block_made blocks inner c l j call (Some q) m).nodes ≤ MOST
    → Added m (block_made blocks inner c l j call (Some q) m)
    (drawn_call (blocks_in blocks) ds (body_of c place) l (numbered j (call_edge_of call)) (Some (parts_of q)))
    (laid_callee (blocks_in blocks) ls (body_of c place) c.edges l (numbered j (call_edge_of call)) (Some (parts_of q)))
called_added blocks vars b c place whole is r inner ds ls adds grows l j call q lt from at to there tabled m good small =
    subst (λ (i : ℕ). Added m made (first ∷ ds call.block body) (ls call.block body i)) h.edges
    (subst (λ (x : Body). Added m made (edge_in (blocks_in blocks) x here ∷ ds call.block x) (ls call.block x copy.edges)) h.body
    (subst (λ (n : ℕ). Added m made (edge_in (blocks_in blocks) (body_of copy h.places) n ∷ ds call.block (body_of copy h.places))
    (ls call.block (body_of copy h.places) copy.edges)) at_here
    (added_then m entered made (edge_in (blocks_in blocks) (body_of copy h.places) (number c l) ∷ []) (ds call.block (body_of copy h.places)) []
    (ls call.block (body_of copy h.places) copy.edges) one
    (adds call.block copy h.places entered h.copy one.good small))))
  where
    h : IsCallee blocks vars b c place l j call q
    h = callee_is blocks vars b c place whole is r l j call q lt from at to there tabled

    copy : Copy
    copy = callee_copy blocks c l j call q

    body : Body
    body = callee_body (blocks_in blocks) (body_of c place) l (numbered j (call_edge_of call)) (parts_of q)

    here : ℕ
    here = number_in (blocks_in blocks) (body_of c place) l

    first : Plain_drawn
    first = edge_in (blocks_in blocks) body here

    weaker : (a b : ℕ) → a < b → a ≤ b
    weaker a b h = omega (arith, h)

    at_here : number c l ≡ here
    at_here = number_is blocks c place (outs_of (aim_out c.out)) is.table l (weaker l c.parts.locations lt)

    entered : Making
    entered = edge_in_made copy (number c l) m

    made : Making
    made = block_made blocks inner c l j call (Some q) m

    fewer : (a b n : ℕ) → a ≤ b → b ≤ n → a ≤ n
    fewer a b n h g = omega (arith, h, g)

    one : Added m entered (edge_in (blocks_in blocks) (body_of copy h.places) (number c l) ∷ []) []
    one = edge_in_added blocks copy h.places 1 (number c l) m refl h.copy.lies.own
        (are_there q (sound_at (blocks_in blocks) whole.sound call.block (parts_of q) there).faultless) good
        (fewer (length entered.nodes) (length made.nodes) MOST (grows copy entered).nodes small)

-- the numbers of what begins at a location
edges_here : (blocks : List (Option CodeParts)) (c : Copy) (outs l : ℕ) → c.table ≡ table_in blocks c.parts outs → AreThere c.parts
    → numbers_at c.table.edges l ≡ numbers_from l 0 (map from_of c.parts.edges.items)
edges_here blocks c outs l table there =
    ap (λ (t : Table). numbers_at t.edges l) table ∙ numbers_are c.parts.locations l (map from_of c.parts.edges.items) there.froms

loops_here : (blocks : List (Option CodeParts)) (c : Copy) (outs l : ℕ) → c.table ≡ table_in blocks c.parts outs → AreThere c.parts
    → numbers_at c.table.loops l ≡ numbers_from l 0 (map first_of c.parts.loops.items)
loops_here blocks c outs l table there =
    ap (λ (t : Table). numbers_at t.loops l) table ∙ numbers_are c.parts.locations l (map first_of c.parts.loops.items) there.firsts

call_leads : (n : ℕ) (calls : List CodeCallEdge) (j : ℕ) (call : CodeCallEdge) → AllByRecursion (λ (x : CodeCallEdge). x.to < n) calls
    → slice_get calls j ≡ Some call → call.to < n
call_leads n [] j call all at = absurd (none-some call at)
call_leads n (x ∷ xs) zero call all at = subst (λ (y : CodeCallEdge). y.to < n) (same_Some x call at) all.0
call_leads n (x ∷ xs) (suc j) call all at = call_leads n xs j call all.1 at

location_added : (blocks : List (Option CodeParts)) (vars : List Variable) (b : ℕ) (c : Copy) (place : ℕ → ℕ) → IsWhole blocks vars
    → IsCopy blocks vars b c place → IsReady blocks c place
    → (inner : Copy → Making → Making) (ds : ℕ → Body → List Plain_drawn) (ls : ℕ → Body → ℕ → List Loop) → InnerAdds blocks vars inner ds ls
    → GrowsBy inner → (l : ℕ) → l < c.parts.locations → (m : Making) → IsGood m → IsHeld c m.nodes m.deeds
    → length (location_made blocks inner c l m).nodes ≤ MOST
    → Added m (location_made blocks inner c l m)
    (drawn_by (blocks_in blocks) ds (body_of c place) l (end_at (parts_of c.parts) l))
    (map (drawn_loop (blocks_in blocks) (body_of c place) c.edges) (loops_from l (parts_of c.parts).loops)
    ++ laid_by (blocks_in blocks) ls (body_of c place) c.edges l (end_at (parts_of c.parts) l))
location_added blocks vars b c place whole is r inner ds ls adds grows l lt m good held small =
    added_then m middle (location_made blocks inner c l m) [] (drawn_by (blocks_in blocks) ds body l (end_at p l))
    (map (drawn_loop (blocks_in blocks) body c.edges) (loops_from l p.loops))
    (laid_by (blocks_in blocks) ls body c.edges l (end_at p l)) first
    (subst (λ (s : Standing). Added middle (made_by blocks inner c l s middle) (drawn_by (blocks_in blocks) ds body l (end_at p l))
    (laid_by (blocks_in blocks) ls body c.edges l (end_at p l))) (sym standing_is)
    (by_end (end_at p l) (subst (λ (s : Standing). length (made_by blocks inner c l s middle).nodes ≤ MOST) standing_is small)))
  where
    p : Parts
    p = parts_of c.parts

    body : Body
    body = body_of c place

    outs : ℕ
    outs = outs_of (aim_out c.out)

    middle : Making
    middle = all_looped c (numbers_at c.table.loops l) m

    first : Added m middle [] (map (drawn_loop (blocks_in blocks) body c.edges) (loops_from l p.loops))
    first = subst (λ (ns : List ℕ). Added m (all_looped c ns m) [] (map (drawn_loop (blocks_in blocks) body c.edges) (loops_from l p.loops)))
        (sym (loops_here blocks c outs l is.table r.there))
        (loops_added blocks c place outs is.table r.there r.before l 0 c.parts.loops.items
        (λ i. ap (λ (n : ℕ). slice_get (map loop_of c.parts.loops.items) n) (zero_on i)) r.loops m good)

    still : IsHeld c middle.nodes middle.deeds
    still = held_added c m middle [] (map (drawn_loop (blocks_in blocks) body c.edges) (loops_from l p.loops)) good first held

    standing_is : slice_index_or c.table.ends l standing.Nothing ≡ standing_of (end_at p l)
    standing_is = ap (λ (t : Table). slice_index_or t.ends l standing.Nothing) is.table ∙ standings_are c.parts l lt

    call_is : slice_index_or c.table.calls l None ≡ number_of (call_from l 0 p.calls)
    call_is = ap (λ (t : Table). slice_index_or t.calls l None) is.table ∙ calls_are c.parts l lt

    -- by the called block, if it is there
    by_block : (j : ℕ) (call : CodeCallEdge) → call_from l 0 p.calls ≡ Some (numbered j (call_edge_of call)) → slice_get c.parts.calls.items j ≡ Some call
        → (o : Option Parts) → block_at (blocks_in blocks) call.block ≡ o
        → length (block_made blocks inner c l j call (code_at blocks call.block) middle).nodes ≤ MOST
        → Added middle (block_made blocks inner c l j call (code_at blocks call.block) middle)
        (drawn_call (blocks_in blocks) ds body l (numbered j (call_edge_of call)) o)
        (laid_callee (blocks_in blocks) ls body c.edges l (numbered j (call_edge_of call)) o)
    by_block j call from at None there few =
        subst (λ (o : Option CodeParts). Added middle (block_made blocks inner c l j call o middle) [] []) (sym (no_code blocks call.block there))
        (nothing_added middle first.good)
    by_block j call from at (Some q) there few =
        subst (λ (x : Parts). Added middle (block_made blocks inner c l j call (code_at blocks call.block) middle)
        (drawn_call (blocks_in blocks) ds body l (numbered j (call_edge_of call)) (Some x))
        (laid_callee (blocks_in blocks) ls body c.edges l (numbered j (call_edge_of call)) (Some x))) code.same
        (subst (λ (o : Option CodeParts). Added middle (block_made blocks inner c l j call o middle)
        (drawn_call (blocks_in blocks) ds body l (numbered j (call_edge_of call)) (Some (parts_of code.parts)))
        (laid_callee (blocks_in blocks) ls body c.edges l (numbered j (call_edge_of call)) (Some (parts_of code.parts)))) (sym code.at)
        (called_added blocks vars b c place whole is r inner ds ls adds grows l j call code.parts lt from at
        (call_leads c.parts.locations c.parts.calls.items j call r.there.calls at)
        (there ∙ ap (λ (x : Parts). Some x) (sym code.same)) code.tabled middle first.good
        (subst (λ (o : Option CodeParts). length (block_made blocks inner c l j call o middle).nodes ≤ MOST) code.at few)))
      where
        code : IsCode blocks call.block q
        code = whole.code call.block q there

    by_call : (o : Option Numbered) → call_from l 0 p.calls ≡ o → length (goes_on blocks inner c l (number_of o) middle).nodes ≤ MOST
        → Added middle (goes_on blocks inner c l (number_of o) middle) (drawn_from (blocks_in blocks) ds body l o)
        (laid_call (blocks_in blocks) ls body c.edges l o)
    by_call None e few =
        subst (λ (ns : List ℕ). Added middle (all_drawn c ns middle) (map (drawn_edge (blocks_in blocks) body) (edges_from l p.edges)) [])
        (sym (edges_here blocks c outs l is.table r.there))
        (edges_added blocks c place outs is.table is.lies.own l 0 c.parts.edges.items
        (λ i. ap (λ (n : ℕ). slice_get c.parts.edges.items n) (zero_on i)) r.edges middle first.good still)
    by_call (Some d) e few =
        subst (λ (x : Numbered). Added middle (call_made blocks inner c l d.number (slice_get c.parts.calls.items d.number) middle)
        (drawn_from (blocks_in blocks) ds body l (Some x)) (laid_call (blocks_in blocks) ls body c.edges l (Some x))) same
        (subst (λ (o : Option CodeCallEdge). Added middle (call_made blocks inner c l d.number o middle)
        (drawn_from (blocks_in blocks) ds body l (Some (numbered d.number (call_edge_of found.call))))
        (laid_call (blocks_in blocks) ls body c.edges l (Some (numbered d.number (call_edge_of found.call))))) (sym found.at)
        (by_block d.number found.call (e ∙ ap (λ (x : Numbered). Some x) (sym same)) found.at
        (block_at (blocks_in blocks) found.call.block) refl
        (subst (λ (o : Option CodeCallEdge). length (call_made blocks inner c l d.number o middle).nodes ≤ MOST) found.at few)))
      where
        found : IsCallOf c.parts d
        found = call_of c.parts l d e

        same : numbered d.number (call_edge_of found.call) ≡ d
        same = ap (λ (x : CallEdge). numbered d.number x) found.same

    by_end : (o : Option End) → length (made_by blocks inner c l (standing_of o) middle).nodes ≤ MOST
        → Added middle (made_by blocks inner c l (standing_of o) middle) (drawn_by (blocks_in blocks) ds body l o)
        (laid_by (blocks_in blocks) ls body c.edges l o)
    by_end None few =
        subst (λ (o : Option ℕ). Added middle (goes_on blocks inner c l o middle) (drawn_from (blocks_in blocks) ds body l (call_from l 0 p.calls))
        (laid_call (blocks_in blocks) ls body c.edges l (call_from l 0 p.calls))) (sym call_is)
        (by_call (call_from l 0 p.calls) refl (subst (λ (o : Option ℕ). length (goes_on blocks inner c l o middle).nodes ≤ MOST) call_is few))
    by_end (Some done) few = out_added blocks c place outs l middle is.table lt first.good c.out
    by_end (Some (trap kind there)) few = nothing_added middle first.good
    by_end (Some (over there)) few = nothing_added middle first.good

-- ---- a copy

locations_added : (blocks : List (Option CodeParts)) (vars : List Variable) (b : ℕ) (c : Copy) (place : ℕ → ℕ) → IsWhole blocks vars
    → IsCopy blocks vars b c place → IsReady blocks c place
    → (inner : Copy → Making → Making) (ds : ℕ → Body → List Plain_drawn) (ls : ℕ → Body → ℕ → List Loop) → InnerAdds blocks vars inner ds ls
    → GrowsBy inner → (n : ℕ) → n ≤ c.parts.locations → (m : Making) → IsGood m → IsHeld c m.nodes m.deeds
    → length (locations_made blocks inner c n m).nodes ≤ MOST
    → Added m (locations_made blocks inner c n m) (drawn_below (blocks_in blocks) ds (body_of c place) n)
    (laid_below (blocks_in blocks) ls (body_of c place) c.edges n)
locations_added blocks vars b c place whole is r inner ds ls adds grows zero le m good held small = nothing_added m good
locations_added blocks vars b c place whole is r inner ds ls adds grows (suc n) le m good held small =
    then_it (locations_added blocks vars b c place whole is r inner ds ls adds grows n (omega (arith, le)) m good held
    (fewer (length middle.nodes) (length (locations_made blocks inner c (suc n) m).nodes) MOST (location_grows blocks inner grows c n middle).nodes small))
  where
    body : Body
    body = body_of c place

    middle : Making
    middle = locations_made blocks inner c n m

    fewer : (a b n : ℕ) → a ≤ b → b ≤ n → a ≤ n
    fewer a b n h g = omega (arith, h, g)

    then_it : Added m middle (drawn_below (blocks_in blocks) ds body n) (laid_below (blocks_in blocks) ls body c.edges n)
        → Added m (locations_made blocks inner c (suc n) m) (drawn_below (blocks_in blocks) ds body (suc n))
        (laid_below (blocks_in blocks) ls body c.edges (suc n))
    then_it h =
        added_then m middle (locations_made blocks inner c (suc n) m) (drawn_below (blocks_in blocks) ds body n)
        (drawn_by (blocks_in blocks) ds body n (end_at (parts_of c.parts) n)) (laid_below (blocks_in blocks) ls body c.edges n)
        (map (drawn_loop (blocks_in blocks) body c.edges) (loops_from n (parts_of c.parts).loops)
        ++ laid_by (blocks_in blocks) ls body c.edges n (end_at (parts_of c.parts) n)) h
        (location_added blocks vars b c place whole is r inner ds ls adds grows n (omega (arith, le)) middle h.good
        (held_added c m middle (drawn_below (blocks_in blocks) ds body n) (laid_below (blocks_in blocks) ls body c.edges n) good h held) small)

pub copy_added : (blocks : List (Option CodeParts)) (vars : List Variable) (b : ℕ) (c : Copy) (place : ℕ → ℕ) → IsWhole blocks vars
    → IsCopy blocks vars b c place
    → (inner : Copy → Making → Making) (ds : ℕ → Body → List Plain_drawn) (ls : ℕ → Body → ℕ → List Loop) → InnerAdds blocks vars inner ds ls
    → GrowsBy inner → (m : Making) → IsGood m → length (copy_made blocks inner c m).nodes ≤ MOST
    → Added m (copy_made blocks inner c m) (drawn_below (blocks_in blocks) ds (body_of c place) c.parts.locations)
    (laid_below (blocks_in blocks) ls (body_of c place) c.edges c.parts.locations)
copy_added blocks vars b c place whole is inner ds ls adds grows m good small =
    added_then m tables (copy_made blocks inner c m) [] (drawn_below (blocks_in blocks) ds (body_of c place) c.parts.locations) []
    (laid_below (blocks_in blocks) ls (body_of c place) c.edges c.parts.locations)
    (tables_added c m is.tabled good)
    (locations_added blocks vars b own place whole is_own (ready blocks vars b own place whole is_own) inner ds ls adds grows c.parts.locations
    (same_le c.parts.locations) tables (tables_good c m is.tabled good)
    (tables_held c m is.tabled (fewer (length tables.nodes) (length (copy_made blocks inner c m).nodes) MOST
    (locations_grow blocks inner grows own c.parts.locations tables).nodes small)) small)
  where
    tables : Making
    tables = tables_copied c m

    own : Copy
    own = with_deeds (length m.deeds) c

    fewer : (a b n : ℕ) → a ≤ b → b ≤ n → a ≤ n
    fewer a b n h g = omega (arith, h, g)

    same_le : (n : ℕ) → n ≤ n
    same_le n = omega arith

    is_own : IsCopy blocks vars b own place
    is_own = record {
      at = is.at;
      tabled = is.tabled;
      table = is.table;
      lies = record { own = is.lies.own; shared = is.lies.shared };
      room = is.room;
    }

-- ---- all levels

abbrev pub drawn_down : Blocks → ℕ → ℕ → Body → List Plain_drawn
drawn_down blocks levels b = down {X = Body → List Plain_drawn} (λ body. []) (drawn_in blocks) blocks levels b

abbrev pub laid_down : Blocks → ℕ → ℕ → Body → ℕ → List Loop
laid_down blocks levels b = down {X = Body → ℕ → List Loop} (λ body i. []) (laid_in blocks) blocks levels b

pub levels_added : (blocks : List (Option CodeParts)) (vars : List Variable) → IsWhole blocks vars → (levels : ℕ)
    → InnerAdds blocks vars (below blocks levels) (drawn_down (blocks_in blocks) levels) (laid_down (blocks_in blocks) levels)
levels_added blocks vars whole zero b c place m is good small = nothing_added m good
levels_added blocks vars whole (suc levels) b c place m is good small =
    subst (λ (o : Option Parts). Added m (copy_made blocks (below blocks levels) c m)
    (drawn_in (blocks_in blocks) (drawn_down (blocks_in blocks) levels) o (body_of c place))
    (laid_in (blocks_in blocks) (laid_down (blocks_in blocks) levels) o (body_of c place) c.edges)) (sym is.at)
    (copy_added blocks vars b c place whole is (below blocks levels) (drawn_down (blocks_in blocks) levels) (laid_down (blocks_in blocks) levels)
    (levels_added blocks vars whole levels) (below_grows blocks levels) m good small)
