-- What the parts of the whole mean: variables and edges are typed, and at each location with edges one guard is true. A copy's own guards
-- are true where the block's are, in the valuation that the block sees.
use Rattle.std.proofs.Common.{◌≡◌, ℕ, ◌+◌, ◌<◌, ◌≤◌, ◌⊎◌, inl, inr, List, [], ◌∷◌, ◌++◌, map, length, length-append, Bool, true, ◌&&◌, cond, Option, Some, None, refl, sym, subst, ap, ◌∙◌, arith}
use Rattle.std.specs.List.{AllByRecursion}
use Rattle.std.proofs.lemmas.Bool.{eq-eqb, cases_lt}
use Rattle.std.proofs.lemmas.List.{length-map}
use Rattle.std.proofs.lemmas.List.Elements.{recursion_from_All, All-from_recursion}
use Rattle.pv_word.specs.Types.{InRange}
use Rattle.pv_word.specs.declared.types.Ty.{Ty}
use Rattle.pv_flow.specs.Terms.{Valuation, holds_in}
use Rattle.pv_flow.specs.Automata.{Variable, Set, Edge, Parts, types_of, HasValues, edges_from}
use Rattle.pv_flow.specs.WellMade.{IsVariable, IsEdge, true_guards}
use Rattle.pv_flow.specs.Runs.{End, done, trap, over, end_at}
use Rattle.pv_flow.specs.Calls.{Blocks, block_at, Numbered, call_from, seen}
use Rattle.pv_flow.specs.Fitting.{AreFitting, IsSound, AreSound}
use Rattle.pv_flow.proofs.ForCallers.{zero_fits}
use Rattle.pv_call_copies.specs.Renaming.{true_term}
use Rattle.pv_call_copies.specs.Inlined.{added_by_calls, added, Aim, Body, entry_body, number_in, callee_body, Drawn, drawn_edge, edge_in, edges_out, drawn_from, drawn_by, drawn_below, drawn, drawn_all, location_by, next_by, edges_of, text_size, inlined}
use Rattle.pv_call_copies.specs.Correct.{PartsAreMade}
use Rattle.pv_call_copies.proofs.Levels.{found_called}
use Rattle.pv_call_copies.proofs.Renaming.{holds_renamed}
use Rattle.pv_call_copies.proofs.Edges.{there_of, sound_at, edges_long}
use Rattle.pv_call_copies.proofs.Placing.{below_stands}
use Rattle.pv_call_copies.proofs.Placed.{end_of_body, inner_stands, call_drawn, Path, starts, deeper, IsKnown, known_of, PlacedIn, placed_of, Located, located, none_below, none_above, BeginHere, begin_here}
use Rattle.pv_call_copies.proofs.Ending.{own_edges, HasEnds, all_stand, locations_are_made}
use Rattle.pv_call_copies.proofs.Rooms.{call_fits, HasRoom, entry_room, callee_room}
use Rattle.pv_call_copies.proofs.Typed.{AreTypedDrawn, edges_typed, all_typed}
use Rattle.pv_call_copies.proofs.Variables.{AreOwn, own_added}

-- ---- rooms of copies

abbrev all_vars : Blocks → Parts → List Variable
all_vars blocks p = p.vars ++ added_by_calls (added blocks) p.calls

pub room_of : (blocks : Blocks) → AreFitting blocks → AreSound blocks → (b : ℕ) (p : Parts) (body : Body) → Path blocks b p body
    → HasRoom blocks (p.vars ++ added_by_calls (added blocks) p.calls) body.work
room_of blocks fit sound b p body (starts at e) = subst (λ (x : Body). HasRoom blocks (all_vars blocks p) x.work) e (entry_room blocks p)
room_of blocks fit sound b p body (deeper outer l c q path h e) =
    subst (λ (x : Body). HasRoom blocks (all_vars blocks p) x.work) e
    (callee_room blocks fit (all_vars blocks p) outer.work l c q (room_of blocks fit sound b p outer path) h.call h.there
    (call_fits blocks fit known.block outer.work.parts q l c known.is h.call h.there)
    (sound_at blocks sound known.block outer.work.parts known.is).well_made.counts)
  where
    known : IsKnown blocks outer.work.parts
    known = known_of blocks b p outer path

-- ---- guards

guards_alike : (blocks : Blocks) (body : Body) (w : Valuation) (next : ℕ) (edges : List Edge)
    → true_guards w (edges_of next (map (drawn_edge blocks body) edges)) ≡ true_guards (seen body.work w) edges
guards_alike blocks body w next [] = refl
guards_alike blocks body w next (edge ∷ edges) =
    ap (λ (b : Bool). cond b (1 + true_guards w rest) (true_guards w rest)) (holds_renamed body.work w edge.guard)
    ∙ ap (λ (n : ℕ). cond (holds_in (seen body.work w) edge.guard) (1 + n) n)
    (guards_alike blocks body w (next_by (drawn_edge blocks body edge).aim next) edges)
  where
    rest : List Edge
    rest = edges_of (next_by (drawn_edge blocks body edge).aim next) (map (drawn_edge blocks body) edges)

-- an edge that is always taken, and no other
one_guard : (w : Valuation) (from next : ℕ) (aim : Aim) (sets : List Set) (ds : List Drawn)
    → edges_from from (edges_of (next_by aim next) ds) ≡ []
    → true_guards w (edges_from from (edges_of next (record { from = from; aim = aim; guard = true_term; sets = sets } ∷ ds))) ≡ 1
one_guard w from next aim sets ds none =
    ap (λ (b : Bool). true_guards w (cond b (first ∷ others) others)) (eq-eqb from from refl)
    ∙ ap (λ (edges : List Edge). 1 + true_guards w edges) none
  where
    first : Edge
    first = record { from = from; to = location_by aim next; guard = true_term; sets = sets }

    others : List Edge
    others = edges_from from (edges_of (next_by aim next) ds)

-- at a copy's location
one_true_at : (blocks : Blocks) → AreFitting blocks → AreSound blocks → (b : ℕ) (entry : Parts) (body : Body) (l start : ℕ) (w : Valuation)
    → Path blocks b entry body → HasValues body.work.parts (seen body.work w)
    → 0 < length (edges_from (number_in blocks body l) (edges_of start (drawn_by blocks (drawn blocks) body l (end_at body.work.parts l))))
    → true_guards w (edges_from (number_in blocks body l) (edges_of start (drawn_by blocks (drawn blocks) body l (end_at body.work.parts l)))) ≡ 1
one_true_at blocks fit sound b entry body l start w path have = by_end (end_at p l) refl
  where
    p : Parts
    p = body.work.parts

    number : ℕ
    number = number_in blocks body l

    known : IsKnown blocks p
    known = known_of blocks b entry body path

    s : IsSound p
    s = sound_at blocks sound known.block p known.is

    found : List Drawn → List Edge
    found ds = edges_from number (edges_of start ds)

    One : List Drawn → Type 0
    One ds = 0 < length (found ds) → true_guards w (found ds) ≡ 1

    own : One (map (drawn_edge blocks body) (edges_from l p.edges))
    own some =
        ap (λ (edges : List Edge). true_guards w edges) (own_edges blocks body l start p.edges)
        ∙ (guards_alike blocks body w start (edges_from l p.edges) ∙ s.well_made.guards l (seen body.work w) have (subst (λ (n : ℕ). 0 < n) long some))
      where
        long : length (found (map (drawn_edge blocks body) (edges_from l p.edges))) ≡ length (edges_from l p.edges)
        long = ap (λ (edges : List Edge). length edges) (own_edges blocks body l start p.edges)
            ∙ (edges_long start (map (drawn_edge blocks body) (edges_from l p.edges))
            ∙ length-map (edges_from l p.edges) (drawn_edge blocks body))

    called : end_at p l ≡ None → (c : Numbered) → call_from l 0 p.calls ≡ Some c → (o : Option Parts) → block_at blocks c.call.block ≡ o
        → One (drawn_by blocks (drawn blocks) body l (end_at p l))
    called none c call None e = absurd (there_of blocks fit known.block p known.is c.call.block (found_called l 0 p.calls c call) e)
    called none c call (Some q) e =
        subst One (sym (call_drawn blocks fit body l c q none call e))
        (λ some. one_guard w number start (edge_in blocks callee number).aim (edge_in blocks callee number).sets inner
        (none_above number (next_by (edge_in blocks callee number).aim start) callee.start (end_of_body blocks callee) inner (omega arith)
        (below_stands blocks (drawn blocks) callee q.locations (inner_stands blocks fit callee))))
      where
        callee : Body
        callee = callee_body blocks body l c q

        inner : List Drawn
        inner = drawn_below blocks (drawn blocks) callee q.locations

    by_call : end_at p l ≡ None → (o : Option Numbered) → call_from l 0 p.calls ≡ o → One (drawn_by blocks (drawn blocks) body l (end_at p l))
    by_call none None call = subst (λ (end : Option End). One (drawn_by blocks (drawn blocks) body l end)) (sym none)
        (subst (λ (o : Option Numbered). One (drawn_from blocks (drawn blocks) body l o)) (sym call) own)
    by_call none (Some c) call = called none c call (block_at blocks c.call.block) refl

    out : (aim : Option Aim) → One (edges_out aim number)
    out None some = absurd (omega (arith, some))
    out (Some aim) some = one_guard w number start aim [] [] refl

    by_end : (end : Option End) → end_at p l ≡ end → One (drawn_by blocks (drawn blocks) body l (end_at p l))
    by_end None e = by_call e (call_from l 0 p.calls) refl
    by_end (Some done) e = subst (λ (end : Option End). One (drawn_by blocks (drawn blocks) body l end)) (sym e) (out body.out)
    by_end (Some (trap kind place)) e = subst (λ (end : Option End). One (drawn_by blocks (drawn blocks) body l end)) (sym e)
        (λ some. absurd (omega (arith, some)))
    by_end (Some (over place)) e = subst (λ (end : Option End). One (drawn_by blocks (drawn blocks) body l end)) (sym e)
        (λ some. absurd (omega (arith, some)))

-- ---- variables

own_typed : (vars : List Variable) → AreOwn vars → AllByRecursion IsVariable vars
own_typed [] are = tt
own_typed (v ∷ vars) are =
    (subst IsVariable (sym are.0) (record { start = zero_fits v.ty; only = tt }), own_typed vars are.1)

vars_append : (xs ys : List Variable) → AllByRecursion IsVariable xs → AllByRecursion IsVariable ys → AllByRecursion IsVariable (xs ++ ys)
vars_append [] ys are more = more
vars_append (x ∷ xs) ys are more = (are.0, vars_append xs ys are.1 more)

-- ---- the whole

pub parts_are_made : PartsAreMade
parts_are_made blocks b p fit sound at = record {
  variables = ap (λ (c : Bool). c && true) (edges_typed (length vars) types top ds typed).1;
  vars = All-from_recursion IsVariable vars
      (vars_append p.vars extra (recursion_from_All IsVariable p.vars s.well_made.vars) (own_typed extra (own_added blocks p.calls)));
  counts = subst (λ (n : ℕ). p.bound + p.shared ≤ n) (sym (length-append p.vars extra)) (longer (length p.vars) (length extra) s.well_made.counts);
  edges = All-from_recursion (IsEdge types) edges (edges_typed (length vars) types top ds typed).0;
  guards = λ l w have some. one_true l w have some (cases_lt l top);
  calls = λ l some. absurd (omega (arith, some));
  ends = λ l end. none (length (edges_from l edges)) (ap (λ (es : List Edge). length es) (ended.ends l end));
  others = λ l lt off. there (length (edges_from l edges)) (ended.others l lt off);
  different = ended.different;
  begins = ended.begins;
}
  where
    s : IsSound p
    s = sound_at blocks sound b p at

    extra : List Variable
    extra = added_by_calls (added blocks) p.calls

    vars : List Variable
    vars = p.vars ++ extra

    types : ℕ → Ty
    types = types_of (inlined blocks p)

    top : ℕ
    top = text_size blocks p

    ds : List Drawn
    ds = drawn_all blocks p

    edges : List Edge
    edges = edges_of top ds

    typed : AreTypedDrawn vars ds
    typed = all_typed blocks fit sound b p at

    ended : HasEnds (inlined blocks p)
    ended = locations_are_made blocks fit sound b p at

    longer : (n k : ℕ) → p.bound + p.shared ≤ n → p.bound + p.shared ≤ n + k
    longer n k h = omega (arith, h)

    none : (n : ℕ) → n ≡ 0 → 0 + n ≡ 0
    none n e = omega (arith, e)

    there : (n : ℕ) → 0 < n → 0 < 0 + n
    there n h = omega (arith, h)

    one_true : (l : ℕ) (w : Valuation) → HasValues (inlined blocks p) w → 0 < length (edges_from l edges) → (l < top) ⊎ (top ≤ l)
        → true_guards w (edges_from l edges) ≡ 1
    one_true l w have some (inr le) =
        absurd (nothing (length (edges_from l edges)) some (ap (λ (es : List Edge). length es) (none_below l top 0 top ds le (all_stand blocks fit p))))
      where
        nothing : (n : ℕ) → 0 < n → n ≡ 0 → ⊥
        nothing n h g = omega (arith, h, g)
    one_true l w have some (inl low) =
        ap (λ (k : ℕ). true_guards w (edges_from k edges)) x.is
        ∙ (ap (λ (es : List Edge). true_guards w es) from.are
        ∙ one_true_at blocks fit sound b p x.body x.location from.start w x.path values
        (subst (λ (es : List Edge). 0 < length es) from.are (subst (λ (k : ℕ). 0 < length (edges_from k edges)) x.is some)))
      where
        x : Located blocks b p l
        x = located blocks fit b p at l low

        from : BeginHere blocks top ds x.body x.location
        from = begin_here blocks fit (entry_body p) top top ds x.body at_x.front at_x.back x.location at_x.placed x.exists x.opens
          where
            at_x : PlacedIn blocks p x.body
            at_x = placed_of blocks fit b p x.body x.path

        room : HasRoom blocks vars x.body.work
        room = room_of blocks fit sound b p x.body x.path

        values : HasValues x.body.work.parts (seen x.body.work w)
        values y lt = subst (λ (ty : Ty). InRange ty (w (x.body.work.place y))) (room.placed y lt).has_type
            (have (x.body.work.place y) (room.placed y lt).exists)
