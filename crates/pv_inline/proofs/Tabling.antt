-- What a block's table says.
use Rattle.std.proofs.Common.{◌≡◌, ℕ, zero, suc, ◌+◌, ◌<◌, ◌≤◌, List, [], ◌∷◌, map, length, length-append, take, slice_get, replicate, Bool, true, false, ◌&&◌, ◌==◌, nat_lt, cond, Option, Some, None, refl, sym, subst, ap, ◌∙◌, arith}
use Rattle.std.specs.Prelude.{slice_index_or}
use Rattle.std.specs.List.{AllByRecursion, list_all}
use Rattle.std.proofs.lemmas.Bool.{ltb-true, and_parts}
use Rattle.std.proofs.lemmas.List.{length-map}
use Rattle.std.proofs.lemmas.Option.{same_Some, none-some}
use Rattle.pv_flow.specs.declared.parts.Edge.{Edge as CodeEdge}
use Rattle.pv_flow.specs.declared.parts.Loop.{Loop as CodeLoop}
use Rattle.pv_flow.specs.declared.parts.CallEdge.{CallEdge as CodeCallEdge}
use Rattle.pv_flow.specs.declared.parts.Parts.{Parts as CodeParts}
use Rattle.pv_flow.specs.Automata.{Edge, CallEdge, Loop, TrapEnd, OverEnd, Parts, edges_from}
use Rattle.pv_flow.specs.Faults.{has_ends, IsFaultless}
use Rattle.pv_flow.specs.Runs.{End, done, trap, over, end_at}
use Rattle.pv_flow.specs.Calls.{Blocks, block_at, needed_by_calls, needed, Numbered, numbered, call_from}
use Rattle.pv_flow.specs.Fitting.{AreFitting, AreSound}
use Rattle.pv_flow.specs.View.{terms_of, edge_of, call_edge_of, loop_of, parts_of}
use Rattle.pv_call_copies.specs.Inlined.{inlined_size, width_by, span_by, called_at, before, span, Body, number_in, callee_body, drawn_edge, drawn_call, drawn_from, drawn_by as plain_drawn_by, drawn_below, drawn, drawn_before}
use Rattle.pv_call_copies.proofs.ForCallers.{found_called, outs_of, outs_long, there_of, copy_long}
use Rattle.pv_call_tables.specs.declared.marks.Standing.{Standing}
use Rattle.pv_call_tables.specs.Known.{standing_of, number_of}
use Rattle.pv_call_tables.specs.Standings.{standings_of, calls_of}
use Rattle.pv_call_tables.specs.Chains.{from_of, first_of}
use Rattle.pv_call_tables.specs.Ranks.{counted}
use Rattle.pv_call_tables.specs.Widths.{of_call, text_by, text_at, drawn_here, drawn_by, drawn_at, summed}
use Rattle.pv_call_tables.proofs.ForCallers.{standings_are, calls_are, counts_are, sums_are, summed_alike}
use Rattle.pv_inline.specs.Tables.{spans_of, copy_size, sizes_of, bases_of, starts_in, drawn_in}

-- ---- locations that are named are there

pub record AreThere (p : CodeParts) : Type 0 where
  pub froms : AllByRecursion (λ (from : ℕ). from < p.locations) (map from_of p.edges.items)
  pub tos : AllByRecursion (λ (edge : CodeEdge). edge.to < p.locations) p.edges.items
  pub calls : AllByRecursion (λ (call : CodeCallEdge). call.to < p.locations) p.calls.items
  pub firsts : AllByRecursion (λ (from : ℕ). from < p.locations) (map first_of p.loops.items)
  pub lasts : AllByRecursion (λ (loop : CodeLoop). loop.last < p.locations) p.loops.items
  pub is_done : p.done < p.locations

both_below : (a b n : ℕ) → (nat_lt a n && nat_lt b n) ≡ true → (a < n) × (b < n)
both_below a b n e = let h = and_parts (nat_lt a n) (nat_lt b n) e in (ltb-true a n h.0, ltb-true b n h.1)

froms_there : (n : ℕ) (p : CodeParts) (edges : List CodeEdge)
    → list_all (λ (edge : Edge). nat_lt edge.from n && nat_lt edge.to n) (map (edge_of (terms_of p.nodes.items) p.deeds.items) edges) ≡ true
    → AllByRecursion (λ (from : ℕ). from < n) (map from_of edges)
froms_there n p [] all = tt
froms_there n p (edge ∷ edges) all =
    let h = and_parts (nat_lt edge.from n && nat_lt edge.to n)
    (list_all (λ (e : Edge). nat_lt e.from n && nat_lt e.to n) (map (edge_of (terms_of p.nodes.items) p.deeds.items) edges)) all in
    ((both_below edge.from edge.to n h.0).0, froms_there n p edges h.1)

tos_there : (n : ℕ) (p : CodeParts) (edges : List CodeEdge)
    → list_all (λ (edge : Edge). nat_lt edge.from n && nat_lt edge.to n) (map (edge_of (terms_of p.nodes.items) p.deeds.items) edges) ≡ true
    → AllByRecursion (λ (edge : CodeEdge). edge.to < n) edges
tos_there n p [] all = tt
tos_there n p (edge ∷ edges) all =
    let h = and_parts (nat_lt edge.from n && nat_lt edge.to n)
    (list_all (λ (e : Edge). nat_lt e.from n && nat_lt e.to n) (map (edge_of (terms_of p.nodes.items) p.deeds.items) edges)) all in
    ((both_below edge.from edge.to n h.0).1, tos_there n p edges h.1)

calls_there : (n : ℕ) (calls : List CodeCallEdge)
    → list_all (λ (call : CallEdge). nat_lt call.from n && nat_lt call.to n) (map call_edge_of calls) ≡ true
    → AllByRecursion (λ (call : CodeCallEdge). call.to < n) calls
calls_there n [] all = tt
calls_there n (call ∷ calls) all =
    let h = and_parts (nat_lt call.from n && nat_lt call.to n)
    (list_all (λ (c : CallEdge). nat_lt c.from n && nat_lt c.to n) (map call_edge_of calls)) all in
    ((both_below call.from call.to n h.0).1, calls_there n calls h.1)

firsts_there : (n : ℕ) (loops : List CodeLoop)
    → list_all (λ (loop : Loop). nat_lt loop.first n && nat_lt loop.last n) (map loop_of loops) ≡ true
    → AllByRecursion (λ (from : ℕ). from < n) (map first_of loops)
firsts_there n [] all = tt
firsts_there n (loop ∷ loops) all =
    let h = and_parts (nat_lt loop.first n && nat_lt loop.last n)
    (list_all (λ (k : Loop). nat_lt k.first n && nat_lt k.last n) (map loop_of loops)) all in
    ((both_below loop.first loop.last n h.0).0, firsts_there n loops h.1)

lasts_there : (n : ℕ) (loops : List CodeLoop)
    → list_all (λ (loop : Loop). nat_lt loop.first n && nat_lt loop.last n) (map loop_of loops) ≡ true
    → AllByRecursion (λ (loop : CodeLoop). loop.last < n) loops
lasts_there n [] all = tt
lasts_there n (loop ∷ loops) all =
    let h = and_parts (nat_lt loop.first n && nat_lt loop.last n)
    (list_all (λ (k : Loop). nat_lt k.first n && nat_lt k.last n) (map loop_of loops)) all in
    ((both_below loop.first loop.last n h.0).1, lasts_there n loops h.1)

pub are_there : (p : CodeParts) → IsFaultless (parts_of p) → AreThere p
are_there p f = record {
  froms = froms_there p.locations p p.edges.items first.0;
  tos = tos_there p.locations p p.edges.items first.0;
  calls = calls_there p.locations p.calls.items first.1;
  firsts = firsts_there p.locations p.loops.items parts.1;
  lasts = lasts_there p.locations p.loops.items parts.1;
  is_done = ltb-true p.done p.locations (and_parts (nat_lt p.done p.locations) traps
      (and_parts (nat_lt p.done p.locations && traps) overs whole.1).0).0;
}
  where
    q : Parts
    q = parts_of p

    edges : Bool
    edges = list_all (λ (edge : Edge). nat_lt edge.from q.locations && nat_lt edge.to q.locations) q.edges

    calls : Bool
    calls = list_all (λ (call : CallEdge). nat_lt call.from q.locations && nat_lt call.to q.locations) q.calls

    loops : Bool
    loops = list_all (λ (loop : Loop). nat_lt loop.first q.locations && nat_lt loop.last q.locations) q.loops

    traps : Bool
    traps = list_all (λ (end : TrapEnd). nat_lt end.location q.locations) q.traps

    overs : Bool
    overs = list_all (λ (end : OverEnd). nat_lt end.location q.locations) q.overs

    whole : (((edges && calls) && loops) ≡ true) × (has_ends q ≡ true)
    whole = and_parts ((edges && calls) && loops) (has_ends q) f.locations

    parts : ((edges && calls) ≡ true) × (loops ≡ true)
    parts = and_parts (edges && calls) loops whole.0

    first : (edges ≡ true) × (calls ≡ true)
    first = and_parts edges calls parts.0

-- ---- call edges by their numbers

number_least : (l j : ℕ) (calls : List CodeCallEdge) (c : Numbered) → call_from l j (map call_edge_of calls) ≡ Some c → j ≤ c.number
number_least l j [] c e = absurd (none-some c e)
number_least l j (call ∷ calls) c e = by (call.from == l) e (λ f. number_least l (suc j) calls c f)
  where
    weaker : (a b : ℕ) → suc a ≤ b → a ≤ b
    weaker a b h = omega (arith, h)

    same_le : (a : ℕ) → a ≤ a
    same_le a = omega arith

    by : (b : Bool) → cond b (Some (numbered j (call_edge_of call))) (call_from l (suc j) (map call_edge_of calls)) ≡ Some c
        → (call_from l (suc j) (map call_edge_of calls) ≡ Some c → suc j ≤ c.number) → j ≤ c.number
    by true f go = subst (λ (n : Numbered). j ≤ n.number) (same_Some (numbered j (call_edge_of call)) c f) (same_le j)
    by false f go = weaker j c.number (go f)

-- the call edge of that number, as the code has it
found_at : (l j k : ℕ) (calls : List CodeCallEdge) (c : Numbered) → call_from l j (map call_edge_of calls) ≡ Some c → j + k ≡ c.number
    → (call : CodeCallEdge) × (slice_get calls k ≡ Some call) × (call_edge_of call ≡ c.call)
found_at l j k [] c e is = absurd (none-some c e)
found_at l j k (call ∷ calls) c e is = by (call.from == l) e k is (λ m h f. found_at l (suc j) m calls c f h)
  where
    shifted : (j k n : ℕ) → j + suc k ≡ n → suc j + k ≡ n
    shifted j k n h = omega (arith, h)

    none : (j k : ℕ) → j + k ≡ j → k ≡ 0
    none j k h = omega (arith, h)

    past : (j n : ℕ) → j + 0 ≡ n → suc j ≤ n → ⊥
    past j n h le = absurd (omega (arith, h, le))

    by : (b : Bool) → cond b (Some (numbered j (call_edge_of call))) (call_from l (suc j) (map call_edge_of calls)) ≡ Some c
        → (m : ℕ) → j + m ≡ c.number
        → ((n : ℕ) → suc j + n ≡ c.number → call_from l (suc j) (map call_edge_of calls) ≡ Some c
        → (other : CodeCallEdge) × (slice_get calls n ≡ Some other) × (call_edge_of other ≡ c.call))
        → (other : CodeCallEdge) × (slice_get (call ∷ calls) m ≡ Some other) × (call_edge_of other ≡ c.call)
    by true f m h go =
        let same = same_Some (numbered j (call_edge_of call)) c f in
        let zero_is = none j m (h ∙ sym (ap (λ (n : Numbered). n.number) same)) in
        (call, ap (λ (n : ℕ). slice_get (call ∷ calls) n) zero_is, ap (λ (n : Numbered). n.call) same)
    by false f zero h go = absurd (past j c.number h (number_least l (suc j) calls c f))
    by false f (suc m) h go = go m (shifted j m c.number h) f

pub record IsCallOf (p : CodeParts) (c : Numbered) : Type 0 where
  pub call : CodeCallEdge
  pub at : slice_get p.calls.items c.number ≡ Some call
  pub same : call_edge_of call ≡ c.call

pub call_of : (p : CodeParts) (l : ℕ) (c : Numbered) → call_from l 0 (parts_of p).calls ≡ Some c → IsCallOf p c
call_of p l c e =
    let found = found_at l 0 c.number p.calls.items c e (none c.number) in record { call = found.0; at = found.1; same = found.2 }
  where
    none : (n : ℕ) → 0 + n ≡ n
    none n = omega arith

mapped_at : (f : ℕ → ℕ) (calls : List CodeCallEdge) (j : ℕ) (call : CodeCallEdge) → slice_get calls j ≡ Some call
    → slice_index_or (spans_of f calls) j 0 ≡ f call.block
mapped_at f [] j call at = absurd (none-some call at)
mapped_at f (x ∷ xs) zero call at = ap (λ (c : CodeCallEdge). f c.block) (same_Some x call at)
mapped_at f (x ∷ xs) (suc j) call at = mapped_at f xs j call at

-- of what is told of each called block, that of the one here
of_call_is : (f : ℕ → ℕ) (p : CodeParts) (l : ℕ) (o : Option Numbered) → call_from l 0 (parts_of p).calls ≡ o
    → of_call (spans_of f p.calls.items) (number_of o) ≡ span_by f o
of_call_is f p l None e = refl
of_call_is f p l (Some c) e = let h = call_of p l c e in
    mapped_at f p.calls.items c.number h.call h.at ∙ ap (λ (d : CallEdge). f d.block) h.same

pub called_is : (f : ℕ → ℕ) (p : CodeParts) (l : ℕ) → l < p.locations
    → of_call (spans_of f p.calls.items) (slice_index_or (calls_of p) l None) ≡ called_at f (parts_of p) l
called_is f p l lt =
    ap (λ (o : Option ℕ). of_call (spans_of f p.calls.items) o) (calls_are p l lt) ∙ of_call_is f p l (call_from l 0 (parts_of p).calls) refl

-- from where on the call edge's variables lie
bases_from : (blocks : Blocks) (total j : ℕ) (calls : List CodeCallEdge) (call : CodeCallEdge) → slice_get calls j ≡ Some call
    → slice_index_or (bases_of blocks total calls) j 0 ≡ total + needed_by_calls (needed blocks) (take j (map call_edge_of calls))
bases_from blocks total j [] call at = absurd (none-some call at)
bases_from blocks total zero (x ∷ xs) call at = none total
  where
    none : (n : ℕ) → n ≡ n + 0
    none n = omega arith
bases_from blocks total (suc j) (x ∷ xs) call at =
    bases_from blocks (total + needed blocks x.block) j xs call at
    ∙ shifted total (needed blocks x.block) (needed_by_calls (needed blocks) (take j (map call_edge_of xs)))
  where
    shifted : (a b c : ℕ) → (a + b) + c ≡ a + (b + c)
    shifted a b c = omega arith

pub bases_are : (blocks : Blocks) (p : CodeParts) (j : ℕ) (call : CodeCallEdge) → slice_get p.calls.items j ≡ Some call
    → slice_index_or (bases_of blocks 0 p.calls.items) j 0 ≡ needed_by_calls (needed blocks) (take j (parts_of p).calls)
bases_are blocks p j call at = bases_from blocks 0 j p.calls.items call at ∙ none (needed_by_calls (needed blocks) (take j (parts_of p).calls))
  where
    none : (n : ℕ) → 0 + n ≡ n
    none n = omega arith

-- ---- text

text_is : (f : ℕ → ℕ) (p : CodeParts) (l : ℕ) → l < p.locations
    → text_at (standings_of p) (calls_of p) (spans_of f p.calls.items) l ≡ width_by (end_at (parts_of p) l) (called_at f (parts_of p) l)
text_is f p l lt =
    ap (λ (s : Standing). text_by s (of_call (spans_of f p.calls.items) (slice_index_or (calls_of p) l None))) (standings_are p l lt)
    ∙ (ap (λ (n : ℕ). text_by (standing_of (end_at (parts_of p) l)) n) (called_is f p l lt)
    ∙ by (end_at (parts_of p) l) (called_at f (parts_of p) l))
  where
    next : (n : ℕ) → n + 1 ≡ suc n
    next n = omega arith

    by : (o : Option End) (n : ℕ) → text_by (standing_of o) n ≡ width_by o n
    by None n = next n
    by (Some done) n = refl
    by (Some (trap kind place)) n = refl
    by (Some (over place)) n = refl

before_sums : (f : ℕ → ℕ) (p : Parts) (n : ℕ) → before f p n ≡ summed (λ l. width_by (end_at p l) (called_at f p l)) n
before_sums f p zero = refl
before_sums f p (suc n) = ap (λ (k : ℕ). k + width_by (end_at p n) (called_at f p n)) (before_sums f p n)

pub text_sums : (f : ℕ → ℕ) (p : CodeParts) (n : ℕ) → n ≤ p.locations
    → summed (text_at (standings_of p) (calls_of p) (spans_of f p.calls.items)) n ≡ before f (parts_of p) n
text_sums f p n le =
    summed_alike (text_at (standings_of p) (calls_of p) (spans_of f p.calls.items)) (λ l. width_by (end_at (parts_of p) l) (called_at f (parts_of p) l)) n
    (λ l lt. text_is f p l (within l lt))
    ∙ sym (before_sums f (parts_of p) n)
  where
    within : (l : ℕ) → l < n → l < p.locations
    within l lt = omega (arith, lt, le)

pub starts_are : (blocks : Blocks) (p : CodeParts) (l : ℕ) → l ≤ p.locations
    → slice_index_or (starts_in blocks p) l 0 ≡ before (span blocks) (parts_of p) l
starts_are blocks p l le =
    sums_are (text_at (standings_of p) (calls_of p) (spans_of (span blocks) p.calls.items)) p.locations l le
    ∙ text_sums (span blocks) p l le

-- ---- drawn edges

drawn_sums : (blocks : Blocks) (body : Body) (n : ℕ)
    → drawn_before blocks body n ≡ summed (λ l. length (plain_drawn_by blocks (drawn blocks) body l (end_at body.work.parts l))) n
drawn_sums blocks body zero = refl
drawn_sums blocks body (suc n) =
    length-append (drawn_below blocks (drawn blocks) body n) (plain_drawn_by blocks (drawn blocks) body n (end_at body.work.parts n))
    ∙ ap (λ (m : ℕ). m + length (plain_drawn_by blocks (drawn blocks) body n (end_at body.work.parts n))) (drawn_sums blocks body n)

drawn_there : (blocks : Blocks) → AreFitting blocks → AreSound blocks → (b : ℕ) (p : CodeParts) (body : Body) → body.work.parts ≡ parts_of p
    → block_at blocks b ≡ Some (parts_of p) → (l : ℕ) → l < p.locations
    → drawn_at (standings_of p) (calls_of p) (sizes_of blocks p.calls.items) (counted (replicate p.locations 0) p.edges.items) (outs_of body.out) l
    ≡ length (plain_drawn_by blocks (drawn blocks) body l (end_at body.work.parts l))
drawn_there blocks fit sound b p body same at l lt =
    ap (λ (s : Standing). drawn_by sizes counts (outs_of body.out) s (slice_index_or (calls_of p) l None) l) (standings_are p l lt)
    ∙ (ap (λ (o : Option ℕ). drawn_by sizes counts (outs_of body.out) (standing_of (end_at (parts_of p) l)) o l) (calls_are p l lt)
    ∙ (by_end (end_at (parts_of p) l)
    ∙ sym (ap (λ (q : Parts). length (plain_drawn_by blocks (drawn blocks) body l (end_at q l))) same)))
  where
    sizes : List ℕ
    sizes = sizes_of blocks p.calls.items

    counts : List ℕ
    counts = counted (replicate p.locations 0) p.edges.items

    one : {a b : ℕ} → a ≡ b → (a + 1) + 1 ≡ suc (b + 1)
    one {a} {b} e = omega (arith, e)

    called : (c : Numbered) → call_from l 0 (parts_of p).calls ≡ Some c → (o : Option Parts) → block_at blocks c.call.block ≡ o
        → drawn_here sizes counts (Some c.number) l ≡ length (drawn_call blocks (drawn blocks) body l c o)
    called c e None none = absurd (there_of blocks fit b (parts_of p) at c.call.block (found_called l 0 (parts_of p).calls c e) none)
    called c e (Some q) there = let h = call_of p l c e in
        ap (λ (n : ℕ). n + 1) (mapped_at (copy_size blocks) p.calls.items c.number h.call h.at)
        ∙ (one (ap (λ (d : CallEdge). inlined_size blocks d.block) h.same)
        ∙ ap suc (sym (copy_long blocks fit sound c.call.block (callee_body blocks body l c q) there)))

    by_call : (o : Option Numbered) → call_from l 0 (parts_of p).calls ≡ o
        → drawn_here sizes counts (number_of o) l ≡ length (drawn_from blocks (drawn blocks) body l o)
    by_call None e =
        counts_are (terms_of p.nodes.items) p.deeds.items p.locations l p.edges.items lt
        ∙ (ap (λ (q : Parts). length (edges_from l q.edges)) (sym same)
        ∙ sym (length-map (edges_from l body.work.parts.edges) (drawn_edge blocks body)))
    by_call (Some c) e = called c e (block_at blocks c.call.block) refl

    by_from : drawn_here sizes counts (number_of (call_from l 0 (parts_of p).calls)) l
        ≡ length (drawn_from blocks (drawn blocks) body l (call_from l 0 body.work.parts.calls))
    by_from = by_call (call_from l 0 (parts_of p).calls) refl
        ∙ ap (λ (q : Parts). length (drawn_from blocks (drawn blocks) body l (call_from l 0 q.calls))) (sym same)

    by_end : (end : Option End) → drawn_by sizes counts (outs_of body.out) (standing_of end) (number_of (call_from l 0 (parts_of p).calls)) l
        ≡ length (plain_drawn_by blocks (drawn blocks) body l end)
    by_end None = by_from
    by_end (Some done) = sym (outs_long body.out (number_in blocks body l))
    by_end (Some (trap kind place)) = refl
    by_end (Some (over place)) = refl

pub drawn_are : (blocks : Blocks) → AreFitting blocks → AreSound blocks → (b : ℕ) (p : CodeParts) (body : Body) → body.work.parts ≡ parts_of p
    → block_at blocks b ≡ Some (parts_of p) → (l : ℕ) → l ≤ p.locations
    → slice_index_or (drawn_in blocks p (outs_of body.out)) l 0 ≡ drawn_before blocks body l
drawn_are blocks fit sound b p body same at l le =
    sums_are drawn_of p.locations l le
    ∙ (summed_alike drawn_of (λ k. length (plain_drawn_by blocks (drawn blocks) body k (end_at body.work.parts k))) l
    (λ k lt. drawn_there blocks fit sound b p body same at k (within k lt))
    ∙ sym (drawn_sums blocks body l))
  where
    drawn_of : ℕ → ℕ
    drawn_of = drawn_at (standings_of p) (calls_of p) (sizes_of blocks p.calls.items) (counted (replicate p.locations 0) p.edges.items) (outs_of body.out)

    within : (k : ℕ) → k < l → k < p.locations
    within k lt = omega (arith, lt, le)
