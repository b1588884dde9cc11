-- Own edges one by one: each way of the innermost copy is a way of the whole, with the same guard and the same sets, and leads there too.
use Rattle.std.proofs.Common.{◌≡◌, ℕ, suc, ◌+◌, ◌<◌, ◌≤◌, append_assoc, List, [], ◌∷◌, ◌++◌, map, length, length-append, take, slice_get, Bool, true, false, ◌&&◌, ◌==◌, nat_lt, cond, Some, refl, sym, subst, ap, ◌∙◌, arith}
use Rattle.std.proofs.Math.Seq.{take-append_seam}
use Rattle.std.proofs.lemmas.Bool.{eqb-true, eq-eqb, ltb-true, and_parts}
use Rattle.pv_flow.specs.Automata.{Edge, Loop, Parts, edges_from}
use Rattle.pv_flow.specs.Runs.{end_at, Counts, led, way_of, ways_by}
use Rattle.pv_flow.specs.Calls.{Blocks, Work}
use Rattle.pv_flow.specs.Fitting.{AreFitting, IsSound, AreSound}
use Rattle.pv_flow.proofs.ForCallers.{ArePaired}
use Rattle.pv_call_copies.specs.Nests.{way_within}
use Rattle.pv_call_copies.specs.Inlined.{Body, number_in, Drawn, drawn_edge, drawn_all, drawn_before, location_by, next_by, edges_of, behind, text_size, inlined}
use Rattle.pv_call_copies.proofs.Edges.{are_below}
use Rattle.pv_call_copies.proofs.Placing.{behind_append}
use Rattle.pv_call_copies.proofs.Placed.{IsOpen, from_append_edges}
use Rattle.pv_call_copies.proofs.Rooms.{get_behind}
use Rattle.pv_call_copies.proofs.Turns.{rank, IsOwn}
use Rattle.pv_call_copies.proofs.LoopEdges.{edge_so}
use Rattle.pv_call_copies.proofs.Chains.{Chain, body_of, callers_of, index_of, IsChain, known}
use Rattle.pv_call_copies.proofs.Counted.{AreCounted}
use Rattle.pv_call_copies.proofs.Moves.{IsOwnStep}
use Rattle.pv_call_copies.proofs.Here.{turn_copied}
use Rattle.pv_call_copies.proofs.Leading.{Match, own_led}

-- ---- the ways from a copy's location

-- of own edges, one by one: of the block's edges after those that were seen, those that begin there are drawn next
abbrev pub AreOwnWays : Blocks → ℕ → Parts → ℕ → Chain → ℕ → Counts → Counts → List Edge → List Edge → Type 0
AreOwnWays blocks b p n chain l counts wholes seen edges =
    (xs ys : List Drawn) → drawn_all blocks p ≡ xs ++ (map (drawn_edge blocks (body_of blocks p chain)) (edges_from l edges) ++ ys)
    → (e f next : ℕ) → e ≡ length seen → f ≡ length xs → next ≡ behind (text_size blocks p) xs
    → f ≡ index_of blocks p chain + (drawn_before blocks (body_of blocks p chain) l + length (edges_from l seen))
    → f + length (edges_from l edges) ≡ index_of blocks p chain + drawn_before blocks (body_of blocks p chain) (suc l)
    → ArePaired (Match blocks b p n)
    (map (way_within (body_of blocks p chain).work (callers_of blocks p chain))
    (ways_by (body_of blocks p chain).work.parts.loops n l counts e edges))
    (ways_by (inlined blocks p).loops n (number_in blocks (body_of blocks p chain) l) wholes f
    (edges_of next (map (drawn_edge blocks (body_of blocks p chain)) (edges_from l edges))))

-- one more of the block's edges
own_way : (blocks : Blocks) → AreFitting blocks → AreSound blocks → (b : ℕ) (p : Parts) (n : ℕ) (chain : Chain) → IsChain blocks b p chain
    → (l : ℕ) → l < (body_of blocks p chain).work.parts.locations → IsOwn (body_of blocks p chain).work.parts l
    → (counts wholes : Counts) → AreCounted blocks p chain counts (inlined blocks p).loops wholes
    → (seen edges : List Edge) (edge : Edge) → (body_of blocks p chain).work.parts.edges ≡ seen ++ (edge ∷ edges)
    → AreOwnWays blocks b p n chain l counts wholes (seen ++ (edge ∷ [])) edges
    → AreOwnWays blocks b p n chain l counts wholes seen (edge ∷ edges)
own_way blocks fit sound b p n chain is l lt own counts wholes are seen edges edge cut go xs ys split e f next e_is f_is next_is place to =
    by (edge.from == l) refl split to
  where
    body : Body
    body = body_of blocks p chain

    i : ℕ
    i = index_of blocks p chain

    q : Parts
    q = body.work.parts

    s : IsSound q
    s = known blocks sound b p chain is

    k : Work
    k = body.work

    W : List Loop
    W = (inlined blocks p).loops

    m : ℕ
    m = number_in blocks body l

    d : Drawn
    d = drawn_edge blocks body edge

    own_of : List Edge → List Drawn
    own_of es = map (drawn_edge blocks body) (edges_from l es)

    e_next : suc e ≡ length (seen ++ (edge ∷ []))
    e_next = ap suc e_is ∙ (one (length seen) ∙ sym (length-append seen (edge ∷ [])))
      where
        one : (a : ℕ) → suc a ≡ a + 1
        one a = omega arith

    there : slice_get q.edges e ≡ Some edge
    there = ap (λ (es : List Edge). slice_get es e) cut ∙ (ap (λ (a : ℕ). slice_get (seen ++ (edge ∷ edges)) a) (e_is ∙ plain (length seen))
        ∙ get_behind seen (edge ∷ edges) 0)
      where
        plain : (a : ℕ) → a ≡ a + 0
        plain a = omega arith

    rank_is : rank q.edges l e ≡ length (edges_from l seen)
    rank_is = ap (λ (es : List Edge). length (edges_from l es))
        (ap (λ (a : ℕ). take a q.edges) e_is ∙ (ap (λ (es : List Edge). take (length seen) es) cut ∙ take-append_seam seen (edge ∷ edges)))

    seen_next : (c : Bool) → (edge.from == l) ≡ c
        → length (edges_from l (seen ++ (edge ∷ []))) ≡ length (edges_from l seen) + length (cond c (edge ∷ []) [])
    seen_next c h = ap (λ (es : List Edge). length es) (from_append_edges l seen (edge ∷ []))
        ∙ (length-append (edges_from l seen) (edges_from l (edge ∷ []))
        ∙ ap (λ (u : Bool). length (edges_from l seen) + length (cond u (edge ∷ []) [])) h)

    reaches : edge.to < q.locations
    reaches = ltb-true edge.to q.locations (and_parts (nat_lt edge.from q.locations) (nat_lt edge.to q.locations)
        (edge_so (λ (y : Edge). nat_lt y.from q.locations && nat_lt y.to q.locations) q.edges e edge
        (are_below q s.faultless).edges there)).1

    from_open : IsOpen (end_at q l)
    from_open = subst IsOpen (sym own.goes_on) tt

    step : edge.from ≡ l → f + suc (length (edges_from l edges)) ≡ i + drawn_before blocks body (suc l)
        → IsOwnStep blocks body i l edge.to e f
    step from all = record {
      from_open = from_open;
      exists = lt;
      reaches = reaches;
      no_call = own.no_call;
      low = low f i (drawn_before blocks body l) (length (edges_from l seen)) place;
      high = high f (length (edges_from l edges)) (i + drawn_before blocks body (suc l)) all;
      turn = λ loop good. turn_copied blocks body s i e f edge there
          (place ∙ (ap (λ (a : ℕ). i + (drawn_before blocks body l + a)) (sym rank_is)
          ∙ ap (λ (a : ℕ). i + (drawn_before blocks body a + rank q.edges a e)) (sym from))) loop good;
    }
      where
        low : (f a b r : ℕ) → f ≡ a + (b + r) → a + b ≤ f
        low f a b r h = omega (arith, h)

        high : (f a t : ℕ) → f + suc a ≡ t → f < t
        high f a t h = omega (arith, h)

    Goal : Bool → Bool → Type 0
    Goal c u = ArePaired (Match blocks b p n)
        (map (way_within k (callers_of blocks p chain)) (cond c
        (way_of q.loops n l counts e edge ∷ ways_by q.loops n l counts (suc e) edges) (ways_by q.loops n l counts (suc e) edges)))
        (ways_by W n m wholes f (edges_of next (map (drawn_edge blocks body) (cond u (edge ∷ edges_from l edges) (edges_from l edges)))))

    first : Edge
    first = record { from = d.from; to = location_by d.aim next; guard = d.guard; sets = d.sets }

    taking : edge.from ≡ l → (edge.from == l) ≡ true → drawn_all blocks p ≡ xs ++ ((d ∷ own_of edges) ++ ys)
        → f + suc (length (edges_from l edges)) ≡ i + drawn_before blocks body (suc l) → Goal true true
    taking from on cut_here all =
        subst (λ (u : Bool). ArePaired (Match blocks b p n)
        (way_within k (callers_of blocks p chain) (way_of q.loops n l counts e edge) ∷ map (way_within k (callers_of blocks p chain))
        (ways_by q.loops n l counts (suc e) edges))
        (cond u (way_of W n m wholes f first ∷ ways_by W n m wholes (suc f) (edges_of (next_by d.aim next) (own_of edges)))
        (ways_by W n m wholes (suc f) (edges_of (next_by d.aim next) (own_of edges)))))
        (sym (eq-eqb d.from m (ap (λ (a : ℕ). number_in blocks body a) from))) (
          refl,
          refl,
          subst (λ (a : ℕ). Match blocks b p n
              (record { work = k; spot = led q.loops n e l edge.to counts; callers = callers_of blocks p chain })
              (led W n f m (location_by d.aim a) wholes))
              (sym next_is)
              (own_led blocks fit sound b p n chain is l e f edge there (step from all) counts wholes are xs
              (own_of edges ++ ys) d cut_here refl),
          go (xs ++ (d ∷ [])) ys
              (cut_here ∙ sym (append_assoc xs (d ∷ []) (own_of edges ++ ys))) (suc e) (suc f) (next_by d.aim next) e_next
              (ap suc f_is ∙ (one (length xs) ∙ sym (length-append xs (d ∷ []))))
              (ap (λ (a : ℕ). next_by d.aim a) next_is ∙ sym (behind_append (text_size blocks p) xs (d ∷ [])))
              (more f i (drawn_before blocks body l) (length (edges_from l seen)) (length (edges_from l (seen ++ (edge ∷ [])))) place
              (seen_next true on))
              (over_one f (length (edges_from l edges)) (i + drawn_before blocks body (suc l)) all),
        )
      where
        one : (a : ℕ) → suc a ≡ a + 1
        one a = omega arith

        more : (f a b r t : ℕ) → f ≡ a + (b + r) → t ≡ r + 1 → suc f ≡ a + (b + t)
        more f a b r t h g = omega (arith, h, g)

        over_one : (f a t : ℕ) → f + suc a ≡ t → suc f + a ≡ t
        over_one f a t h = omega (arith, h)

    passing : (edge.from == l) ≡ false → drawn_all blocks p ≡ xs ++ (own_of edges ++ ys)
        → f + length (edges_from l edges) ≡ i + drawn_before blocks body (suc l) → Goal false false
    passing off cut_here all = go xs ys cut_here (suc e) f next e_next f_is next_is
        (more f i (drawn_before blocks body l) (length (edges_from l seen)) (length (edges_from l (seen ++ (edge ∷ [])))) place
        (seen_next false off)) all
      where
        more : (f a b r t : ℕ) → f ≡ a + (b + r) → t ≡ r + 0 → f ≡ a + (b + t)
        more f a b r t h g = omega (arith, h, g)

    by : (c : Bool) → (edge.from == l) ≡ c
        → drawn_all blocks p ≡ xs ++ (map (drawn_edge blocks body) (cond c (edge ∷ edges_from l edges) (edges_from l edges)) ++ ys)
        → f + length (cond c (edge ∷ edges_from l edges) (edges_from l edges)) ≡ i + drawn_before blocks body (suc l) → Goal c c
    by true on cut_here all = taking (eqb-true edge.from l on) on cut_here all
    by false off cut_here all = passing off cut_here all

pub own_ways : (blocks : Blocks) → AreFitting blocks → AreSound blocks → (b : ℕ) (p : Parts) (n : ℕ) (chain : Chain)
    → IsChain blocks b p chain
    → (l : ℕ) → l < (body_of blocks p chain).work.parts.locations → IsOwn (body_of blocks p chain).work.parts l
    → (counts wholes : Counts) → AreCounted blocks p chain counts (inlined blocks p).loops wholes
    → (seen edges : List Edge) → (body_of blocks p chain).work.parts.edges ≡ seen ++ edges
    → AreOwnWays blocks b p n chain l counts wholes seen edges
own_ways blocks fit sound b p n chain is l lt own counts wholes are seen [] cut = λ xs ys split e f next e_is f_is next_is place upto. tt
own_ways blocks fit sound b p n chain is l lt own counts wholes are seen (edge ∷ edges) cut =
    own_way blocks fit sound b p n chain is l lt own counts wholes are seen edges edge cut
    (own_ways blocks fit sound b p n chain is l lt own counts wholes are (seen ++ (edge ∷ [])) edges
    (cut ∙ sym (append_assoc seen (edge ∷ []) edges)))
