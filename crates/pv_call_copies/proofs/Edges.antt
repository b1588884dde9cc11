-- How many edges the copy of a block has: as many as are counted, and one more where it leads out.
use Rattle.std.proofs.Common.{◌≡◌, ℕ, zero, suc, ◌+◌, ◌<◌, ◌⊎◌, inl, inr, List, [], ◌∷◌, length, length-append, Bool, true, false, ◌&&◌, ◌==◌, nat_lt, cond, IfSome, MatchOption, Option, Some, None, All, refl, sym, subst, ap, ◌∙◌, arith}
use Rattle.std.specs.List.{AllByRecursion, list_any, list_all}
use Rattle.std.proofs.lemmas.Bool.{false≢true, eqb-true, ltb-true, and_parts, or_cases}
use Rattle.std.proofs.lemmas.List.{length-map}
use Rattle.std.proofs.lemmas.List.Elements.{recursion_from_All}
use Rattle.std.proofs.lemmas.Option.{none-some}
use Rattle.pv_flow.specs.Automata.{Edge, CallEdge, Loop, TrapEnd, OverEnd, Parts, edges_from, calls_from}
use Rattle.pv_flow.specs.Faults.{has_ends, IsFaultless}
use Rattle.pv_flow.specs.WellMade.{is_end, IsWellMade}
use Rattle.pv_flow.specs.Runs.{End, done, trap, over, trap_at, over_at, or_else, end_at}
use Rattle.pv_flow.specs.Calls.{Blocks, block_at, Numbered, call_from}
use Rattle.pv_flow.specs.Fitting.{IsFit, FitsIn, runs_block, AreFitting, IsSound, AreSound}
use Rattle.pv_flow.proofs.ForCallers.{deep}
use Rattle.pv_call_copies.specs.Inlined.{size_by_calls, size_in, inlined_size, Aim, Body, entry_body, number_in, callee_body, Drawn, drawn_edge, edges_out, drawn_call, drawn_from, drawn_by, drawn_below, drawn, drawn_all, next_by, edges_of, text_size}
use Rattle.pv_call_copies.specs.Correct.{EdgesAreCounted}
use Rattle.pv_call_copies.proofs.Levels.{IsCalled, is_run, found_called, size_is, drawn_is}
use Rattle.pv_call_copies.proofs.Counting.{summed, summed_alike, summed_plus, summed_one, summed_edges, summed_calls, first_call, no_calls, ends_are_ends}

-- how many edges lead out
abbrev pub outs_of : Option Aim → ℕ
outs_of None = 0
outs_of (Some aim) = 1

pub outs_long : (out : Option Aim) (here : ℕ) → length (edges_out out here) ≡ outs_of out
outs_long None here = refl
outs_long (Some aim) here = refl

-- ---- lists that have nothing

empty : {X : Type 0} (xs : List X) → length xs ≡ 0 → xs ≡ []
empty [] e = refl
empty (x ∷ xs) e = absurd (omega (arith, e))

both_empty : (a b : ℕ) → a + b ≡ 0 → (a ≡ 0) × (b ≡ 0)
both_empty a b e = (omega (arith, e), omega (arith, e))

-- a trap's or a bound's location ends nothing else
abbrev NotDone : Option End → Type 0
NotDone None = Unit {0}
NotDone (Some done) = ⊥
NotDone (Some (trap kind place)) = Unit {0}
NotDone (Some (over place)) = Unit {0}

pub trap_not_done : (l : ℕ) (traps : List TrapEnd) → trap_at l traps ≡ Some done → ⊥
trap_not_done l [] e = none-some done e
trap_not_done l (t ∷ more) e = by (t.location == l) e (λ h. trap_not_done l more h)
  where
    by : (b : Bool) → cond b (Some (trap t.kind t.place)) (trap_at l more) ≡ Some done → (trap_at l more ≡ Some done → ⊥) → ⊥
    by true h go = subst NotDone h tt
    by false h go = go h

pub over_not_done : (l : ℕ) (overs : List OverEnd) → over_at l overs ≡ Some done → ⊥
over_not_done l [] e = none-some done e
over_not_done l (t ∷ more) e = by (t.location == l) e (λ h. over_not_done l more h)
  where
    by : (b : Bool) → cond b (Some (over t.place)) (over_at l more) ≡ Some done → (over_at l more ≡ Some done → ⊥) → ⊥
    by true h go = subst NotDone h tt
    by false h go = go h

not_done : (l : ℕ) (traps : List TrapEnd) (overs : List OverEnd) (o : Option End) → trap_at l traps ≡ o → or_else o (over_at l overs) ≡ Some done → ⊥
not_done l traps overs None e h = over_not_done l overs h
not_done l traps overs (Some end) e h = trap_not_done l traps (e ∙ h)

-- ---- one location

-- what is counted there: its edges, what its call edges become, and what leads out where the block is done
abbrev counted : (ℕ → ℕ) → Parts → ℕ → ℕ → ℕ
counted sizes p out l =
    length (edges_from l p.edges) + (size_by_calls sizes (calls_from l p.calls) + cond (p.done == l) out 0)

-- there is nothing else where something ends
nothing_else : (sizes : ℕ → ℕ) (p : Parts) (out l : ℕ) (b : Bool) (n : ℕ) → IsWellMade p → is_end p l ≡ true → (p.done == l) ≡ b → n ≡ cond b out 0
    → n ≡ counted sizes p out l
nothing_else sizes p out l b n w end at e =
    total (length (edges_from l p.edges)) (size_by_calls sizes (calls_from l p.calls)) (cond (p.done == l) out 0) none.1
    (ap (λ (calls : List CallEdge). size_by_calls sizes calls) (empty (calls_from l p.calls) none.0))
    (e ∙ ap (λ (c : Bool). cond c out 0) (sym at))
  where
    none : (length (calls_from l p.calls) ≡ 0) × (length (edges_from l p.edges) ≡ 0)
    none = both_empty (length (calls_from l p.calls)) (length (edges_from l p.edges)) (w.ends l end)

    total : (a b c : ℕ) → a ≡ 0 → b ≡ 0 → n ≡ c → n ≡ a + (b + c)
    total a b c f g h = omega (arith, f, g, h)

-- a call edge stands alone
alone : (sizes : ℕ → ℕ) (p : Parts) (out l : ℕ) (c : Numbered) (n : ℕ) → IsWellMade p → (p.done == l) ≡ false → call_from l 0 p.calls ≡ Some c
    → n ≡ suc (sizes c.call.block + 1) → n ≡ counted sizes p out l
alone sizes p out l c n w off at e =
    total (length (edges_from l p.edges)) (size_by_calls sizes (calls_from l p.calls)) (cond (p.done == l) out 0) (sizes c.call.block)
    others.1
    (ap (λ (calls : List CallEdge). size_by_calls sizes calls) found.1
    ∙ ap (λ (calls : List CallEdge). (2 + sizes c.call.block) + size_by_calls sizes calls) (empty found.0 others.0))
    (ap (λ (b : Bool). cond b out 0) off) e
  where
    found : (rest : List CallEdge) × (calls_from l p.calls ≡ c.call ∷ rest)
    found = first_call l 0 p.calls c at

    long : length (calls_from l p.calls) ≡ suc (length found.0)
    long = ap (λ (calls : List CallEdge). length calls) found.1

    one : length (calls_from l p.calls) + length (edges_from l p.edges) ≡ 1
    one = w.calls l (some (length (calls_from l p.calls)) (length found.0) long)
      where
        some : (a b : ℕ) → a ≡ suc b → 0 < a
        some a b h = omega (arith, h)

    others : (length found.0 ≡ 0) × (length (edges_from l p.edges) ≡ 0)
    others = none (length (calls_from l p.calls)) (length found.0) (length (edges_from l p.edges)) long one
      where
        none : (a b d : ℕ) → a ≡ suc b → a + d ≡ 1 → (b ≡ 0) × (d ≡ 0)
        none a b d h g = (omega (arith, h, g), omega (arith, h, g))

    total : (a b d s : ℕ) → a ≡ 0 → b ≡ (2 + s) + 0 → d ≡ 0 → n ≡ suc (s + 1) → n ≡ a + (b + d)
    total a b d s f g h i = omega (arith, f, g, h, i)

-- the copy of a called block leads out
abbrev HasSizes : Blocks → (ℕ → ℕ) → (ℕ → Body → List Drawn) → ℕ → Type 0
HasSizes blocks sizes inner c =
    (body : Body) → block_at blocks c ≡ Some body.work.parts → length (inner c body) ≡ sizes c + outs_of body.out

drawn_here : (blocks : Blocks) (sizes : ℕ → ℕ) (inner : ℕ → Body → List Drawn) (body : Body) (l : ℕ)
    → IsWellMade body.work.parts
    → ((c : ℕ) → IsCalled body.work.parts.calls c → HasSizes blocks sizes inner c)
    → ((c : ℕ) → IsCalled body.work.parts.calls c → block_at blocks c ≡ None → ⊥)
    → length (drawn_by blocks inner body l (end_at body.work.parts l)) ≡ counted sizes body.work.parts (outs_of body.out) l
drawn_here blocks sizes inner body l w sized there = by (body.work.parts.done == l) refl
  where
    p : Parts
    p = body.work.parts

    long : Option End → ℕ
    long end = length (drawn_by blocks inner body l end)

    rest : Option End
    rest = or_else (trap_at l p.traps) (over_at l p.overs)

    is_rest : (p.done == l) ≡ false → end_at p l ≡ rest
    is_rest off = ap (λ (b : Bool). cond b (Some done) rest) off

    called : (p.done == l) ≡ false → (c : Numbered) → call_from l 0 p.calls ≡ Some c → (o : Option Parts) → block_at blocks c.call.block ≡ o
        → length (drawn_call blocks inner body l c o) ≡ counted sizes p (outs_of body.out) l
    called off c at None e = absurd (there c.call.block (found_called l 0 p.calls c at) e)
    called off c at (Some q) e = alone sizes p (outs_of body.out) l c (length (drawn_call blocks inner body l c (Some q))) w off at
        (ap suc (sized c.call.block (found_called l 0 p.calls c at) (callee_body blocks body l c q) e))

    from : (p.done == l) ≡ false → (o : Option Numbered) → call_from l 0 p.calls ≡ o
        → length (drawn_from blocks inner body l o) ≡ counted sizes p (outs_of body.out) l
    from off None at = length-map (edges_from l p.edges) (drawn_edge blocks body)
        ∙ total (length (edges_from l p.edges)) (size_by_calls sizes (calls_from l p.calls)) (cond (p.done == l) (outs_of body.out) 0)
        (ap (λ (calls : List CallEdge). size_by_calls sizes calls) (no_calls l 0 p.calls at))
        (ap (λ (b : Bool). cond b (outs_of body.out) 0) off)
      where
        total : (a b c : ℕ) → b ≡ 0 → c ≡ 0 → a ≡ a + (b + c)
        total a b c f g = omega (arith, f, g)
    from off (Some c) at = called off c at (block_at blocks c.call.block) refl

    otherwise : (p.done == l) ≡ false → (end : Option End) → rest ≡ end → long end ≡ counted sizes p (outs_of body.out) l
    otherwise off None e = from off (call_from l 0 p.calls) refl
    otherwise off (Some done) e = absurd (not_done l p.traps p.overs (trap_at l p.traps) refl e)
    otherwise off (Some (trap kind place)) e =
        nothing_else sizes p (outs_of body.out) l false 0 w (ends_are_ends p l (trap kind place) (is_rest off ∙ e)) off refl
    otherwise off (Some (over place)) e =
        nothing_else sizes p (outs_of body.out) l false 0 w (ends_are_ends p l (over place) (is_rest off ∙ e)) off refl

    by : (b : Bool) → (p.done == l) ≡ b → long (end_at p l) ≡ counted sizes p (outs_of body.out) l
    by true on = ap long (ap (λ (b : Bool). cond b (Some done) rest) on)
        ∙ nothing_else sizes p (outs_of body.out) l true (long (Some done)) w
        (ends_are_ends p l done (ap (λ (b : Bool). cond b (Some done) rest) on)) on (outs_long body.out (number_in blocks body l))
    by false off = ap long (is_rest off) ∙ otherwise off rest refl

-- ---- all locations

below_sums : (blocks : Blocks) (inner : ℕ → Body → List Drawn) (body : Body) (n : ℕ)
    → length (drawn_below blocks inner body n) ≡ summed (λ l. length (drawn_by blocks inner body l (end_at body.work.parts l))) n
below_sums blocks inner body zero = refl
below_sums blocks inner body (suc n) =
    length-append (drawn_below blocks inner body n) (drawn_by blocks inner body n (end_at body.work.parts n))
    ∙ ap (λ (m : ℕ). m + length (drawn_by blocks inner body n (end_at body.work.parts n))) (below_sums blocks inner body n)

-- the first three of the four tests of locations, and that `done` is one
pub record AreBelow (p : Parts) : Type 0 where
  pub edges : list_all (λ (edge : Edge). nat_lt edge.from p.locations && nat_lt edge.to p.locations) p.edges ≡ true
  pub calls : list_all (λ (call : CallEdge). nat_lt call.from p.locations && nat_lt call.to p.locations) p.calls ≡ true
  pub is_done : p.done < p.locations

pub are_below : (p : Parts) → IsFaultless p → AreBelow p
are_below p f = record {
  edges = first.0;
  calls = first.1;
  is_done = ltb-true p.done p.locations (and_parts (nat_lt p.done p.locations) traps
      (and_parts (nat_lt p.done p.locations && traps) overs whole.1).0).0;
}
  where
    edges : Bool
    edges = list_all (λ (edge : Edge). nat_lt edge.from p.locations && nat_lt edge.to p.locations) p.edges

    calls : Bool
    calls = list_all (λ (call : CallEdge). nat_lt call.from p.locations && nat_lt call.to p.locations) p.calls

    loops : Bool
    loops = list_all (λ (loop : Loop). nat_lt loop.first p.locations && nat_lt loop.last p.locations) p.loops

    traps : Bool
    traps = list_all (λ (end : TrapEnd). nat_lt end.location p.locations) p.traps

    overs : Bool
    overs = list_all (λ (end : OverEnd). nat_lt end.location p.locations) p.overs

    whole : (((edges && calls) && loops) ≡ true) × (has_ends p ≡ true)
    whole = and_parts ((edges && calls) && loops) (has_ends p) f.locations

    first : (edges ≡ true) × (calls ≡ true)
    first = and_parts edges calls (and_parts (edges && calls) loops whole.0).0

pub block_sums : (blocks : Blocks) (sizes : ℕ → ℕ) (inner : ℕ → Body → List Drawn) (body : Body) → IsFaultless body.work.parts
    → IsWellMade body.work.parts
    → ((c : ℕ) → IsCalled body.work.parts.calls c → HasSizes blocks sizes inner c)
    → ((c : ℕ) → IsCalled body.work.parts.calls c → block_at blocks c ≡ None → ⊥)
    → length (drawn_below blocks inner body body.work.parts.locations)
    ≡ (length body.work.parts.edges + size_by_calls sizes body.work.parts.calls) + outs_of body.out
block_sums blocks sizes inner body f w sized there =
    below_sums blocks inner body n
    ∙ (summed_alike (λ l. length (drawn_by blocks inner body l (end_at p l))) (λ l. counted sizes p (outs_of body.out) l) n
    (λ l lt. drawn_here blocks sizes inner body l w sized there)
    ∙ (summed_plus (λ l. length (edges_from l p.edges)) (λ l. size_by_calls sizes (calls_from l p.calls) + cond (p.done == l) (outs_of body.out) 0) n
    ∙ all (summed_edges n p.edges below.edges)
    (summed_plus (λ l. size_by_calls sizes (calls_from l p.calls)) (λ l. cond (p.done == l) (outs_of body.out) 0) n)
    (summed_calls sizes n p.calls below.calls) (summed_one p.done (outs_of body.out) n below.is_done)))
  where
    p : Parts
    p = body.work.parts

    n : ℕ
    n = p.locations

    below : AreBelow p
    below = are_below p f

    all : {a b c d e g h : ℕ} → a ≡ e → b ≡ c + d → c ≡ g → d ≡ h → a + b ≡ (e + g) + h
    all {a} {b} {c} {d} {e} {g} {h} i j k m = omega (arith, i, j, k, m)

-- ---- all blocks

called_is_there : (blocks : Blocks) (p : Parts) (calls : List CallEdge) → AllByRecursion (FitsIn blocks p) calls → (c : ℕ) → IsCalled calls c
    → block_at blocks c ≡ None → ⊥
called_is_there blocks p [] all c any none = false≢true any
called_is_there blocks p (call ∷ calls) all c any none =
    by (or_cases (call.block == c) (list_any (λ (other : CallEdge). other.block == c) calls) any)
    (λ later. called_is_there blocks p calls all.1 c later none)
  where
    by : ((call.block == c) ≡ true) ⊎ IsCalled calls c → (IsCalled calls c → ⊥) → ⊥
    by (inl same) go = subst (λ (o : Option Parts). MatchOption o ⊥ (λ callee. IsFit p call callee))
        (ap (λ (d : ℕ). block_at blocks d) (eqb-true call.block c same) ∙ none) all.0
    by (inr later) go = go later

-- of blocks that fit, each call's is there
pub there_of : (blocks : Blocks) → AreFitting blocks → (b : ℕ) (p : Parts) → block_at blocks b ≡ Some p → (c : ℕ) → IsCalled p.calls c
    → block_at blocks c ≡ None → ⊥
there_of blocks fit b p at = called_is_there blocks p p.calls (recursion_from_All (FitsIn blocks p) p.calls fits)
  where
    fits : All (FitsIn blocks p) p.calls
    fits = subst (λ (o : Option Parts). IfSome o (λ q. All (FitsIn blocks q) q.calls)) at (fit.calls b)

pub sound_at : (blocks : Blocks) → AreSound blocks → (b : ℕ) (p : Parts) → block_at blocks b ≡ Some p → IsSound p
sound_at blocks sound b p at = subst (λ (o : Option Parts). IfSome o IsSound) at (sound b)

-- the copy of a block, in the order of calls
pub copy_long : (blocks : Blocks) → AreFitting blocks → AreSound blocks → (b : ℕ) → HasSizes blocks (inlined_size blocks) (drawn blocks) b
copy_long blocks fit sound b =
    deep (λ n c. HasSizes blocks (inlined_size blocks) (drawn blocks) c) blocks fit
    (λ n c none body at. absurd (none-some body.work.parts (sym none ∙ at))) step b
  where
    step : (n c : ℕ) (p : Parts) → block_at blocks c ≡ Some p
        → ((d : ℕ) → runs_block blocks c d ≡ true → HasSizes blocks (inlined_size blocks) (drawn blocks) d)
        → HasSizes blocks (inlined_size blocks) (drawn blocks) c
    step n c p e below = λ body at.
        let s : IsSound body.work.parts = sound_at blocks sound c body.work.parts at in
        ap (λ (ds : List Drawn). length ds) (drawn_is blocks fit c body at)
        ∙ (block_sums blocks (inlined_size blocks) (drawn blocks) body s.faultless s.well_made
        (λ d any. below d (is_run blocks c body.work.parts at d any)) (there_of blocks fit c body.work.parts at)
        ∙ ap (λ (m : ℕ). m + outs_of body.out)
        (sym (size_is blocks fit c ∙ ap (λ (o : Option Parts). size_in (inlined_size blocks) o) at)))

pub edges_long : (next : ℕ) (ds : List Drawn) → length (edges_of next ds) ≡ length ds
edges_long next [] = refl
edges_long next (d ∷ ds) = ap suc (edges_long (next_by d.aim next) ds)

pub edges_are_counted : EdgesAreCounted
edges_are_counted blocks b p fit sound at =
    edges_long (text_size blocks p) (drawn_all blocks p)
    ∙ (block_sums blocks (inlined_size blocks) (drawn blocks) (entry_body p) s.faultless s.well_made
    (λ c any. copy_long blocks fit sound c) (there_of blocks fit b p at)
    ∙ (no_more (length p.edges + size_by_calls (inlined_size blocks) p.calls)
    ∙ sym (size_is blocks fit b ∙ ap (λ (o : Option Parts). size_in (inlined_size blocks) o) at)))
  where
    s : IsSound p
    s = sound_at blocks sound b p at

    no_more : (n : ℕ) → n + 0 ≡ n
    no_more n = omega arith
