-- The automaton of a text whose spots and loops keep what a flow's do has no fault and is well made; and so is that of a typed flow.
use Rattle.std.proofs.Common.{◌≡◌, ℕ, zero, suc, ◌+◌, ◌<◌, ◌≤◌, ◌⊎◌, inl, inr, List, [], ◌∷◌, ◌++◌, map, length, slice_get, Bool as Truth, true, false, not, ◌&&◌, ◌||◌, ◌==◌, nat_lt, nat_le, IfSome, Option, Some, None, All, refl, sym, subst, ap, ◌∙◌, arith}
use Rattle.std.specs.List.{list_any, list_all}
use Rattle.std.proofs.lemmas.Bool.{false≢true, lt-ltb, le-leb, and_from, cases_lt}
use Rattle.std.proofs.lemmas.List.Elements.{All-from_recursion, recursion_from_All}
use Rattle.std.proofs.lemmas.Option.{none-some, same_Some}
use Rattle.pv_flow.specs.Terms.{Types}
use Rattle.pv_flow.specs.Automata.{Edge, CallEdge, Loop, TrapEnd, type_at, edges_from, calls_from, holds}
use Rattle.pv_flow.specs.Faults.{has_ends, edge_below, cross, enters_well, is_entered_well, is_loop, IsFaultless}
use Rattle.pv_flow.specs.WellMade.{IsVariable, IsEdge, true_guards, OneIsTrue, leads_well, turns_well, IsLoop, AreApart, IsWellMade}
use Rattle.pv_layout.specs.Spots.{Spot, edges_at}
use Rattle.pv_layout.specs.Layout.{width, to_done, spots_of, loops_of, Text, text_of, checks_in, traps_of, marks_of, Head, parts_of}
use Rattle.pv_layout.specs.Flows.{Flow}
use Rattle.pv_layout.specs.Sound.{EachWay, IsLed, SpotFits, LiesWithin, IsPair, IsTypedSpot, IsSoundText}
use Rattle.pv_layout.specs.Bodies.{IsTypedFlow, Body, laid, IsTypedBody}
use Rattle.pv_layout.proofs.Lists.{for_some, all_map}
use Rattle.pv_layout.proofs.Turns.{holds_none}
use Rattle.pv_layout.proofs.Laying.{some_width, length_spots}
use Rattle.pv_layout.proofs.Ends.{traps_numbered}
use Rattle.pv_layout.proofs.FlowFits.{flow_fits}
use Rattle.pv_layout.proofs.Each.{EachFrom}
use Rattle.pv_layout.proofs.Fits.{AllFit}
use Rattle.pv_layout.proofs.Led.{AreLed, flow_led}
use Rattle.pv_layout.proofs.LoopPairs.{IsSpan, Pairs, loop_spans, loop_pairs}
use Rattle.pv_layout.proofs.Located.{edges_past, HasEdges, edges_located, call_list, calls_past, calls_located, guards_of, call_alone, some_edge}
use Rattle.pv_layout.proofs.TypedParts.{IsTypedEdge, edges_typed, spots_typed}
use Rattle.pv_layout.proofs.Consecutive.{AreInRow, row_has, row_from, row_differs, row_all, row_lacks, traps_in_row, traps_below, traps_total, row_length}
use Rattle.pv_layout.proofs.PartRuns.{past_all}
use Rattle.pv_layout.proofs.BlockRuns.{text_leads}
use Rattle.pv_layout.proofs.Whole.{laid_all}
use Rattle.pv_layout.proofs.LegalEdges.{at_index, all_at, some_all, IsSoundCall, edge_at, calls_sound, edge_leads, call_leads}
use Rattle.pv_layout.proofs.LegalLoops.{the_edges, the_calls, turned, turned_loop, all_by, all_true, each_turned, edge_turns, edges_enter, calls_enter, calls_begin, turns_there, apart_turned, none_cross}

abbrev the_traps : Text → List TrapEnd
the_traps text = traps_of (length text.spots) 0 text.spots

abbrev limit : Text → ℕ
limit text = length text.spots + suc (checks_in text.spots)

-- ---- ends

abbrev ends : Text → List ℕ
ends text = length text.spots ∷ (map (λ (end : TrapEnd). end.location) (the_traps text) ++ [])

ends_in_row : (text : Text) → AreInRow (length text.spots) (ends text)
ends_in_row text = (
  refl,
  subst (λ (m : ℕ). AreInRow m (map (λ (end : TrapEnd). end.location) (the_traps text) ++ [])) (omega arith)
      (traps_in_row (length text.spots) 0 (the_traps text) (traps_numbered (length text.spots) 0 text.spots)),
)

ends_count : (text : Text) → length text.spots + length (ends text) ≡ limit text
ends_count text =
    let one = row_length (the_traps text) in
    let two = traps_total (length text.spots) 0 text.spots in
    omega (arith, one, two)

ends_there : (text : Text) → (nat_lt (length text.spots) (limit text)
    && list_all (λ (trap : TrapEnd). nat_lt trap.location (limit text)) (the_traps text) && true) ≡ true
ends_there text = and_from (nat_lt (length text.spots) (limit text)
    && list_all (λ (trap : TrapEnd). nat_lt trap.location (limit text)) (the_traps text)) true
    (and_from (nat_lt (length text.spots) (limit text)) (list_all (λ (trap : TrapEnd). nat_lt trap.location (limit text)) (the_traps text))
    (lt-ltb (length text.spots) (limit text) (omega arith))
    (traps_below (length text.spots) 0 (limit text) (the_traps text) (traps_numbered (length text.spots) 0 text.spots)
    (let total = traps_total (length text.spots) 0 text.spots in omega (arith, total)))) refl

-- ---- a location

-- what begins there: where a spot lies, its edges and calls, and else nothing
here_or_past : (text : Text) (l : ℕ) (P : Type 0)
    → ((spot : Spot) (trap : ℕ) → edges_from l (the_edges text) ≡ edges_at (length text.spots) trap l spot
    → calls_from l (the_calls text) ≡ call_list l spot → l < length text.spots → P)
    → (edges_from l (the_edges text) ≡ [] → calls_from l (the_calls text) ≡ [] → length text.spots ≤ l → P) → P
here_or_past text l P one other = by (cases_lt l (length text.spots))
  where
    found : (o : Option Spot) → slice_get text.spots l ≡ o → l < length text.spots → P
    found None gone lt = absurd (let le = past_all text.spots l gone in omega (arith, le, lt))
    found (Some spot) here lt =
        let has = subst (λ (m : ℕ). HasEdges (length text.spots) (the_edges text) m spot) (omega arith)
        (edges_located (length text.spots) 0 0 l text.spots spot here) in
        one spot has.trap has.edges
        (subst (λ (m : ℕ). calls_from m (the_calls text) ≡ call_list m spot) (omega arith) (calls_located 0 l text.spots spot here)) lt

    by : (l < length text.spots) ⊎ (length text.spots ≤ l) → P
    by (inl lt) = found (slice_get text.spots l) refl lt
    by (inr le) = other (edges_past (length text.spots) 0 0 l text.spots (omega (arith, le)))
        (calls_past 0 l text.spots (omega (arith, le))) le

abbrev counted : Text → ℕ → ℕ
counted text l = length (calls_from l (the_calls text)) + length (edges_from l (the_edges text))

counted_as : (text : Text) (l : ℕ) (edges : List Edge) (calls : List CallEdge) → edges_from l (the_edges text) ≡ edges
    → calls_from l (the_calls text) ≡ calls → counted text l ≡ length calls + length edges
counted_as text l edges calls e c =
    let one = ap (λ (xs : List Edge). length xs) e in let two = ap (λ (xs : List CallEdge). length xs) c in omega (arith, one, two)

one_guard : (head : Head) (text : Text) → OneIsTrue (parts_of head text)
one_guard head text l w values some = here_or_past text l (true_guards w (edges_from l (the_edges text)) ≡ 1)
    (λ spot trap edges calls lt. ap (λ (xs : List Edge). true_guards w xs) edges
    ∙ guards_of w (length text.spots) trap l spot (subst (λ (xs : List Edge). 0 < length xs) edges some))
    (λ edges calls le. absurd (nothing (subst (λ (xs : List Edge). 0 < length xs) edges some)))
  where
    nothing : 0 < 0 → ⊥
    nothing lt = omega (arith, lt)

calls_alone : (text : Text) (l : ℕ) → 0 < length (calls_from l (the_calls text)) → counted text l ≡ 1
calls_alone text l some = here_or_past text l (counted text l ≡ 1)
    (λ spot trap edges calls lt. counted_as text l (edges_at (length text.spots) trap l spot) (call_list l spot) edges calls
    ∙ call_alone (length text.spots) trap l spot (subst (λ (xs : List CallEdge). 0 < length xs) calls some))
    (λ edges calls le. absurd (nothing (subst (λ (xs : List CallEdge). 0 < length xs) calls some)))
  where
    nothing : 0 < 0 → ⊥
    nothing lt = omega (arith, lt)

ends_empty : (text : Text) (l : ℕ) → list_any (λ end. end == l) (ends text) ≡ true → counted text l ≡ 0
ends_empty text l is =
    let low = row_from (length text.spots) (ends text) l (ends_in_row text) is in
    here_or_past text l (counted text l ≡ 0) (λ spot trap edges calls lt. absurd (omega (arith, low, lt)))
    (λ edges calls le. counted_as text l [] [] edges calls)

others_some : (text : Text) (l : ℕ) → l < limit text → list_any (λ end. end == l) (ends text) ≡ false → 0 < counted text l
others_some text l lt is = here_or_past text l (0 < counted text l)
    (λ spot trap edges calls lower.
    let same = counted_as text l (edges_at (length text.spots) trap l spot) (call_list l spot) edges calls in
    let some = some_edge (length text.spots) trap l spot in omega (arith, same, some))
    (λ edges calls le. absurd (false≢true (sym is ∙ row_has (length text.spots) (ends text) l (ends_in_row text) le
    (let count = ends_count text in omega (arith, lt, count)))))

-- ---- loops

outside : (n : ℕ) (types : Types) (text : Text) → IsSoundText n types text → (k : ℕ) (loop : Loop) → slice_get text.loops k ≡ Some loop
    → list_all (λ end. not (holds loop end)) (ends text) ≡ true
outside n types text sound k loop here = row_all (λ end. not (holds loop end)) (length text.spots) (ends text) (ends_in_row text)
    (λ end low high. ap not (holds_none 0 (length text.spots) end loop (omega arith, is.high) (inr low)))
  where
    is : LiesWithin (length text.spots) loop
    is = some_all (LiesWithin (length text.spots)) text.loops k loop sound.loops here

loop_made : (n : ℕ) (types : Types) (head : Head) (text : Text) → IsSoundText n types text → (k : ℕ) (loop : Loop)
    → slice_get text.loops k ≡ Some loop → IsLoop (parts_of head text) (turned_loop text k loop)
loop_made n types head text sound k loop here = record {
  range = (some_all (LiesWithin (length text.spots)) text.loops k loop sound.loops here).range;
  turns = λ e. for_some (λ (edge : Edge). turns_well (turned_loop text k loop) e edge ≡ true) (slice_get (the_edges text) e)
      (λ edge there. edge_turns n types text sound k loop here e edge there);
  calls = All-from_recursion (λ (call : CallEdge). (loop.entry_turn || not (call.from == loop.first)) ≡ true) (the_calls text)
      (calls_begin n types text sound k loop here);
  outside = outside n types text sound k loop here;
}

loop_faultless : (n : ℕ) (types : Types) (head : Head) (text : Text) → IsSoundText n types text → (k : ℕ) (loop : Loop)
    → slice_get text.loops k ≡ Some loop → is_loop (parts_of head text) (turned_loop text k loop) ≡ true
loop_faultless n types head text sound k loop here = and_from
    (list_all (λ e. nat_lt e (length (the_edges text))) (turned_loop text k loop).turns
    && list_all (λ other. not (cross (turned_loop text k loop) other)) (turned text))
    (is_entered_well (parts_of head text) (turned_loop text k loop))
    (and_from (list_all (λ e. nat_lt e (length (the_edges text))) (turned_loop text k loop).turns)
    (list_all (λ other. not (cross (turned_loop text k loop) other)) (turned text)) (turns_there n types text sound (0 + k))
    (all_true (λ other. not (cross (turned_loop text k loop) other)) (turned text)
    (all_by (λ (other : Loop). not (cross (turned_loop text k loop) other) ≡ true) (turned text)
    (each_turned text (λ j other. not (cross (turned_loop text k loop) other) ≡ true)
    (λ j other there. ap not (none_cross n types text sound k loop here j other there))))))
    (and_from (list_all (λ (edge : Edge). enters_well (turned_loop text k loop) edge.from edge.to) (the_edges text))
    (list_all (λ (call : CallEdge). enters_well (turned_loop text k loop) call.from call.to) (the_calls text))
    (all_true (λ (edge : Edge). enters_well (turned_loop text k loop) edge.from edge.to) (the_edges text)
    (edges_enter n types text sound k loop here))
    (all_true (λ (call : CallEdge). enters_well (turned_loop text k loop) call.from call.to) (the_calls text)
    (calls_enter n types text sound k loop here)))

-- ---- the whole

faultless : (head : Head) (text : Text) → IsSoundText (length head.vars) (type_at head.vars) text → IsFaultless (parts_of head text)
faultless head text sound = record {
  locations = and_from
      ((list_all edge_within (the_edges text) && list_all call_within (the_calls text)) && list_all loop_within (turned text))
      (has_ends (parts_of head text))
      (and_from (list_all edge_within (the_edges text) && list_all call_within (the_calls text)) (list_all loop_within (turned text))
      (and_from (list_all edge_within (the_edges text)) (list_all call_within (the_calls text))
      (all_true edge_within (the_edges text) (all_by (λ (edge : Edge). edge_within edge ≡ true) (the_edges text)
      (λ e edge here. let is = (edge_at n types text sound e edge here).so in within edge.from edge.to is.from is.aims)))
      (all_true call_within (the_calls text) (all_map (λ (call : CallEdge). IsSoundCall n text call.from call.to call.instance)
      (λ (call : CallEdge). call_within call ≡ true) (the_calls text)
      (λ call is. within call.from call.to (is.edge).from (is.edge).aims) (calls_sound n types text sound))))
      (all_true loop_within (turned text) (all_by (λ (loop : Loop). loop_within loop ≡ true) (turned text)
      (each_turned text (λ k loop. loop_within loop ≡ true) loop_lies))))
      (ends_there text);
  variables = and_from (list_all (edge_below n) (the_edges text)) (list_all (λ (call : CallEdge). nat_le call.instance n) (the_calls text))
      (all_true (edge_below n) (the_edges text) (all_map (IsTypedEdge n types) (λ (edge : Edge). edge_below n edge ≡ true) (the_edges text)
      (λ edge is. is.below) (edges_typed n types (length text.spots) 0 0 text.spots
      (recursion_from_All (IsTypedSpot n types) text.spots sound.typed))))
      (all_true (λ (call : CallEdge). nat_le call.instance n) (the_calls text)
      (all_map (λ (call : CallEdge). IsSoundCall n text call.from call.to call.instance)
      (λ (call : CallEdge). nat_le call.instance n ≡ true)
      (the_calls text) (λ call is. le-leb call.instance n is.room) (calls_sound n types text sound)));
  loops = all_true (is_loop (parts_of head text)) (turned text)
      (all_by (λ (loop : Loop). is_loop (parts_of head text) loop ≡ true) (turned text)
      (each_turned text (λ k loop. is_loop (parts_of head text) loop ≡ true) (loop_faultless n types head text sound)));
}
  where
    n : ℕ
    n = length head.vars

    types : Types
    types = type_at head.vars

    edge_within : Edge → Truth
    edge_within edge = nat_lt edge.from (limit text) && nat_lt edge.to (limit text)

    call_within : CallEdge → Truth
    call_within call = nat_lt call.from (limit text) && nat_lt call.to (limit text)

    loop_within : Loop → Truth
    loop_within loop = nat_lt loop.first (limit text) && nat_lt loop.last (limit text)

    within : (l to : ℕ) → l < length text.spots → to < limit text → (nat_lt l (limit text) && nat_lt to (limit text)) ≡ true
    within l to lt aims = and_from (nat_lt l (limit text)) (nat_lt to (limit text)) (lt-ltb l (limit text) (omega (arith, lt)))
        (lt-ltb to (limit text) aims)

    loop_lies : (k : ℕ) (loop : Loop) → slice_get text.loops k ≡ Some loop → loop_within (turned_loop text k loop) ≡ true
    loop_lies k loop here =
        let is = some_all (LiesWithin (length text.spots)) text.loops k loop sound.loops here in
        let range = is.range in
        let high = is.high in
        within loop.first loop.last (omega (arith, range, high)) (omega (arith, high))

well_made : (head : Head) (text : Text) → All IsVariable head.vars → head.bound + head.shared ≤ length head.vars
    → IsSoundText (length head.vars) (type_at head.vars) text → IsWellMade (parts_of head text)
well_made head text vars counts sound = record {
  vars = vars;
  counts = counts;
  edges = All-from_recursion (IsEdge types) (the_edges text) (all_map (IsTypedEdge n types) (IsEdge types) (the_edges text)
      (λ edge is. is.typed) (edges_typed n types (length text.spots) 0 0 text.spots
      (recursion_from_All (IsTypedSpot n types) text.spots sound.typed)));
  guards = one_guard head text;
  calls = calls_alone text;
  ends = ends_empty text;
  others = others_some text;
  different = row_differs (length text.spots) (ends text) (ends_in_row text);
  begins = row_lacks (length text.spots) (ends text) 0 (ends_in_row text) sound.some;
  loops = All-from_recursion (IsLoop (parts_of head text)) (turned text) (all_by (IsLoop (parts_of head text)) (turned text)
      (each_turned text (λ k loop. IsLoop (parts_of head text) loop) (loop_made n types head text sound)));
  apart = λ i j lt. for_some (λ (loop : Loop). IfSome (slice_get (turned text) j) (λ other. AreApart loop other))
      (slice_get (turned text) i)
      (λ loop here. for_some (λ (other : Loop). AreApart loop other) (slice_get (turned text) j)
      (λ other there. apart_turned n types text sound i j lt loop other here there));
  forward = λ e. for_some (λ (edge : Edge). leads_well (turned text) (Some e) edge.from edge.to ≡ true) (slice_get (the_edges text) e)
      (λ edge here. let m = edge_at n types text sound e edge here in
      edge_leads (marks_of text.spots) text.loops e m.mark edge.from edge.to m.stands (m.so).led);
  calls_forward = All-from_recursion (λ (call : CallEdge). leads_well (turned text) None call.from call.to ≡ true) (the_calls text)
      (all_map (λ (call : CallEdge). IsSoundCall n text call.from call.to call.instance)
      (λ (call : CallEdge). leads_well (turned text) None call.from call.to ≡ true) (the_calls text)
      (λ call is. call_leads (marks_of text.spots) text.loops call.from call.to (is.edge).led) (calls_sound n types text sound));
}
  where
    n : ℕ
    n = length head.vars

    types : Types
    types = type_at head.vars

-- ---- a flow

pairs_at : (xs : List Loop) → Pairs xs → (i j : ℕ) → i < j → (x y : Loop) → slice_get xs i ≡ Some x → slice_get xs j ≡ Some y → IsPair x y
pairs_at [] are i j lt x y here there = absurd (none-some x here)
pairs_at (z ∷ xs) are zero zero lt x y here there = absurd (omega (arith, lt))
pairs_at (z ∷ xs) are zero (suc j) lt x y here there =
    subst (λ (l : Loop). IsPair l y) (same_Some z x here) (all_at (IsPair z) xs j y are.0 there)
pairs_at (z ∷ xs) are (suc i) zero lt x y here there = absurd (omega (arith, lt))
pairs_at (z ∷ xs) are (suc i) (suc j) lt x y here there = pairs_at xs are.1 i j (omega (arith, lt)) x y here there

pub flow_sound : (n : ℕ) (types : Types) (f : Flow) → IsTypedFlow n types f → IsSoundText n types (text_of f)
flow_sound n types f typed = record {
  some = let low = some_width f in omega (arith, low, long);
  leads = text_leads f;
  led = λ l. for_some (EachWay (IsLed loops l)) (slice_get spots l)
      (λ spot here. at_index (λ m other. EachWay (IsLed loops m) other) spots l spot led here);
  fits = λ k l. for_some (λ (loop : Loop). IfSome (slice_get spots l) (SpotFits k loop l)) (slice_get loops k)
      (λ loop here. for_some (SpotFits k loop l) (slice_get spots l)
      (λ spot there. at_index (SpotFits k loop) spots l spot
      (at_index (λ m other. EachFrom (SpotFits m other) 0 spots) loops k loop fits here) there));
  loops = All-from_recursion (LiesWithin (length spots)) loops (all_map (IsSpan 0 (0 + width f)) (LiesWithin (length spots)) loops
      (λ loop is. record { range = is.range; high = let high = is.high in omega (arith, high, long) }) (loop_spans f 0));
  pairs = λ i j lt. for_some (λ (one : Loop). IfSome (slice_get loops j) (IsPair one)) (slice_get loops i)
      (λ one here. for_some (IsPair one) (slice_get loops j)
      (λ other there. pairs_at loops (loop_pairs f 0) i j lt one other here there));
  typed = All-from_recursion (IsTypedSpot n types) spots (spots_typed n types f 0 0 (to_done (width f)) typed);
}
  where
    spots : List Spot
    spots = spots_of f 0 0 (to_done (width f))

    long : length spots ≡ width f
    long = length_spots f 0 0 (to_done (width f))

    loops : List Loop
    loops = loops_of f 0

    led : AreLed loops 0 spots
    led = flow_led loops f 0 0 (to_done (width f)) (laid_all loops) (record {
      next = λ l low high. inl (omega (arith, high));
      on_exit = λ l low high. inl (omega (arith, high));
      on_continue = λ l low high. inl (omega (arith, high));
      on_return = λ l low high. inl (omega (arith, high));
    })

    fits : AllFit 0 loops 0 spots
    fits = flow_fits f 0 0 (to_done (width f)) (record {
      next = inr (omega arith);
      on_exit = inr (omega arith);
      on_continue = inr (omega arith);
      on_return = inr (omega arith);
    })

pub texts_are_legal : (head : Head) (text : Text) → All IsVariable head.vars → head.bound + head.shared ≤ length head.vars
    → IsSoundText (length head.vars) (type_at head.vars) text → IsFaultless (parts_of head text) × IsWellMade (parts_of head text)
texts_are_legal head text vars counts sound = (faultless head text sound, well_made head text vars counts sound)

pub layouts_are_legal : (body : Body) → IsTypedBody body → IsFaultless (laid body) × IsWellMade (laid body)
layouts_are_legal body is = texts_are_legal body.head (text_of body.code) is.vars is.counts
    (flow_sound (length body.head.vars) (type_at body.head.vars) body.code is.code)
