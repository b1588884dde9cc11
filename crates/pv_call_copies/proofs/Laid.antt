-- Loops of the whole: each is the copy of a loop of a block, in a copy that stands in the whole. So each is entered at its first location,
-- has the turns that its block's loop has, and no scan ends in it.
use Rattle.std.proofs.Common.{◌≡◌, ℕ, zero, suc, ◌+◌, ◌≤◌, List, [], ◌∷◌, ◌++◌, map, length, length-append, slice_get, Bool, true, false, not, ◌&&◌, ◌==◌, nat_lt, cond, Option, Some, None, refl, sym, subst, ap, ◌∙◌, arith}
use Rattle.std.specs.List.{AllByRecursion, list_all}
use Rattle.std.proofs.lemmas.Bool.{ltb-true, and_parts}
use Rattle.std.proofs.lemmas.List.Elements.{recursion_from_All, All-from_recursion}
use Rattle.std.proofs.lemmas.Option.{none-some}
use Rattle.pv_flow.specs.Automata.{Edge, CallEdge, Loop, Parts}
use Rattle.pv_flow.specs.Faults.{cross, enters_well, is_entered_well, is_loop, has_ends}
use Rattle.pv_flow.specs.WellMade.{IsLoop}
use Rattle.pv_flow.specs.Runs.{End, end_at}
use Rattle.pv_flow.specs.Calls.{Blocks, block_at, Numbered, call_from}
use Rattle.pv_flow.specs.Fitting.{runs_block, AreFitting, IsSound, AreSound}
use Rattle.pv_flow.proofs.ForCallers.{deep}
use Rattle.pv_call_copies.specs.Levels.{down}
use Rattle.pv_call_copies.specs.Inlined.{edge_in, Body, entry_body, number_in, callee_body, Drawn, drawn_below, drawn, drawn_all, drawn_before, drawn_loop, loops_from, laid_callee, laid_call, laid_by, laid_below, laid_in, laid, text_size, inlined}
use Rattle.pv_call_copies.specs.Correct.{LoopsAreEntered, AreEntered}
use Rattle.pv_call_copies.proofs.Levels.{IsCalled, is_run, found_called}
use Rattle.pv_call_copies.proofs.Edges.{sound_at}
use Rattle.pv_call_copies.proofs.Placed.{body_split, IsCallIn}
use Rattle.pv_call_copies.proofs.Aims.{Site, entry_site, callee_site}
use Rattle.pv_call_copies.proofs.LoopEdges.{FoundDrawn, drawn_of, IsGoodLoop, IsWellAt, well_at}

-- ---- the loops of a copy, with those of all copies in it

abbrev AreLaid : Blocks → (ℕ → Body → ℕ → List Loop) → (ℕ → Body → ℕ → List Loop) → ℕ → Type 0
AreLaid blocks f g c = (body : Body) (i : ℕ) → block_at blocks c ≡ Some body.work.parts → f c body i ≡ g c body i

laid_callee_alike : (blocks : Blocks) (f g : ℕ → Body → ℕ → List Loop) (body : Body) (i l : ℕ) (c : Numbered) (o : Option Parts)
    → block_at blocks c.call.block ≡ o → AreLaid blocks f g c.call.block → laid_callee blocks f body i l c o ≡ laid_callee blocks g body i l c o
laid_callee_alike blocks f g body i l c None e same = refl
laid_callee_alike blocks f g body i l c (Some p) e same = same (callee_body blocks body l c p) (suc (i + drawn_before blocks body l)) e

laid_call_alike : (blocks : Blocks) (f g : ℕ → Body → ℕ → List Loop) (body : Body) (i l : ℕ) (o : Option Numbered)
    → call_from l 0 body.work.parts.calls ≡ o → ((c : ℕ) → IsCalled body.work.parts.calls c → AreLaid blocks f g c)
    → laid_call blocks f body i l o ≡ laid_call blocks g body i l o
laid_call_alike blocks f g body i l None e same = refl
laid_call_alike blocks f g body i l (Some c) e same =
    laid_callee_alike blocks f g body i l c (block_at blocks c.call.block) refl (same c.call.block (found_called l 0 body.work.parts.calls c e))

laid_by_alike : (blocks : Blocks) (f g : ℕ → Body → ℕ → List Loop) (body : Body) (i l : ℕ) (end : Option End)
    → ((c : ℕ) → IsCalled body.work.parts.calls c → AreLaid blocks f g c) → laid_by blocks f body i l end ≡ laid_by blocks g body i l end
laid_by_alike blocks f g body i l None same = laid_call_alike blocks f g body i l (call_from l 0 body.work.parts.calls) refl same
laid_by_alike blocks f g body i l (Some end) same = refl

laid_below_alike : (blocks : Blocks) (f g : ℕ → Body → ℕ → List Loop) (body : Body) (i : ℕ)
    → ((c : ℕ) → IsCalled body.work.parts.calls c → AreLaid blocks f g c) → (l : ℕ) → laid_below blocks f body i l ≡ laid_below blocks g body i l
laid_below_alike blocks f g body i same zero = refl
laid_below_alike blocks f g body i same (suc l) =
    ap (λ (loops : List Loop). loops ++ (map (drawn_loop blocks body i) (loops_from l body.work.parts.loops)
    ++ laid_by blocks f body i l (end_at body.work.parts l))) (laid_below_alike blocks f g body i same l)
    ∙ ap (λ (loops : List Loop). laid_below blocks g body i l ++ (map (drawn_loop blocks body i) (loops_from l body.work.parts.loops) ++ loops))
    (laid_by_alike blocks f g body i l (end_at body.work.parts l) same)

abbrev laid_down : Blocks → ℕ → ℕ → Body → ℕ → List Loop
laid_down blocks levels b = down {X = Body → ℕ → List Loop} (λ body i. []) (laid_in blocks) blocks levels b

abbrev EqualLaid : Blocks → ℕ → ℕ → Type 0
EqualLaid blocks n b = (x y : ℕ) → n ≤ x → n ≤ y → AreLaid blocks (laid_down blocks x) (laid_down blocks y) b

laid_step : (blocks : Blocks) (n b : ℕ) (p : Parts) → block_at blocks b ≡ Some p
    → ((c : ℕ) → runs_block blocks b c ≡ true → EqualLaid blocks n c) → EqualLaid blocks (suc n) b
laid_step blocks n b p e below zero y low high = absurd (omega (arith, low))
laid_step blocks n b p e below (suc x) zero low high = absurd (omega (arith, high))
laid_step blocks n b p e below (suc x) (suc y) low high = λ body i at.
    ap (λ (o : Option Parts). laid_in blocks (laid_down blocks x) o body i) at
    ∙ (laid_below_alike blocks (laid_down blocks x) (laid_down blocks y) body i
    (λ c any. below c (is_run blocks b body.work.parts at c any) x y (omega (arith, low)) (omega (arith, high))) body.work.parts.locations
    ∙ ap (λ (o : Option Parts). laid_in blocks (laid_down blocks y) o body i) (sym at))

pub laid_is : (blocks : Blocks) → AreFitting blocks → (b : ℕ) (body : Body) (i : ℕ) → block_at blocks b ≡ Some body.work.parts
    → laid blocks b body i ≡ laid_below blocks (laid blocks) body i body.work.parts.locations
laid_is blocks fit b body i at =
    deep (EqualLaid blocks) blocks fit (λ n c none x y low high other j is. absurd (none-some other.work.parts (sym none ∙ is)))
    (laid_step blocks) b (length blocks) (suc (length blocks)) (omega arith) (omega arith) body i at
    ∙ ap (λ (o : Option Parts). laid_in blocks (laid blocks) o body i) at

-- ---- a block's loops

pub good_loops : (blocks : Blocks) (body : Body) → IsSound body.work.parts → AllByRecursion (IsGoodLoop blocks body) body.work.parts.loops
good_loops blocks body s = each p.loops (recursion_from_All (IsLoop p) p.loops s.well_made.loops) s.faultless.loops within
  where
    p : Parts
    p = body.work.parts

    within : list_all (λ (loop : Loop). nat_lt loop.first p.locations && nat_lt loop.last p.locations) p.loops ≡ true
    within = (and_parts _ (list_all (λ (loop : Loop). nat_lt loop.first p.locations && nat_lt loop.last p.locations) p.loops)
        (and_parts _ (has_ends p) s.faultless.locations).0).1

    each : (loops : List Loop) → AllByRecursion (IsLoop p) loops → list_all (is_loop p) loops ≡ true
        → list_all (λ (loop : Loop). nat_lt loop.first p.locations && nat_lt loop.last p.locations) loops ≡ true
        → AllByRecursion (IsGoodLoop blocks body) loops
    each [] are faultless low = tt
    each (loop ∷ loops) are faultless low =
        let one = and_parts (is_loop p loop) (list_all (is_loop p) loops) faultless in
        let parts = and_parts (list_all (λ e. nat_lt e (length p.edges)) loop.turns && list_all (λ other. not (cross loop other)) p.loops)
        (is_entered_well p loop) one.0 in
        let first = and_parts (list_all (λ e. nat_lt e (length p.edges)) loop.turns) (list_all (λ other. not (cross loop other)) p.loops) parts.0 in
        let entered = and_parts (list_all (λ (edge : Edge). enters_well loop edge.from edge.to) p.edges)
        (list_all (λ (call : CallEdge). enters_well loop call.from call.to) p.calls) parts.1 in
        let lies = and_parts (nat_lt loop.first p.locations && nat_lt loop.last p.locations)
        (list_all (λ (other : Loop). nat_lt other.first p.locations && nat_lt other.last p.locations) loops) low in (
          record {
            own = record { is = are.0; last = ltb-true loop.last p.locations (and_parts (nat_lt loop.first p.locations) (nat_lt loop.last p.locations) lies.0).1 };
            turns = first.0;
            edges = entered.0;
            calls = entered.1;
          },
          each loops are.1 one.1 lies.1,
        )

-- ---- the loops of the whole

pub record IsLaid (blocks : Blocks) (p : Parts) (other : Loop) : Type 0 where
  pub body : Body
  pub front : List Drawn
  pub back : List Drawn
  pub site : Site blocks p body front back
  pub loop : Loop
  pub good : IsGoodLoop blocks body loop
  pub is : drawn_loop blocks body (length front) loop ≡ other

own_laid : (blocks : Blocks) (p : Parts) (body : Body) (front back : List Drawn) (site : Site blocks p body front back) (l : ℕ) (loops : List Loop) → AllByRecursion (IsGoodLoop blocks body) loops
    → AllByRecursion (IsLaid blocks p) (map (drawn_loop blocks body (length front)) (loops_from l loops))
own_laid blocks p body front back site l [] are = tt
own_laid blocks p body front back site l (loop ∷ loops) are = by (loop.first == l) (own_laid blocks p body front back site l loops are.1)
  where
    by : (b : Bool) → AllByRecursion (IsLaid blocks p) (map (drawn_loop blocks body (length front)) (loops_from l loops))
        → AllByRecursion (IsLaid blocks p) (map (drawn_loop blocks body (length front)) (cond b (loop ∷ loops_from l loops) (loops_from l loops)))
    by true h = (record { body = body; front = front; back = back; site = site; loop = loop; good = are.0; is = refl }, h)
    by false h = h

loops_append : (P : Loop → Type 0) (xs ys : List Loop) → AllByRecursion P xs → AllByRecursion P ys → AllByRecursion P (xs ++ ys)
loops_append P [] ys are more = more
loops_append P (x ∷ xs) ys are more = (are.0, loops_append P xs ys are.1 more)

abbrev LaidCopy : Blocks → Parts → ℕ → Type 0
LaidCopy blocks p c = (body : Body) (front back : List Drawn) (site : Site blocks p body front back) → block_at blocks c ≡ Some body.work.parts
    → AllByRecursion (IsLaid blocks p) (laid blocks c body (length front))

below_laid : (blocks : Blocks) → AreFitting blocks → AreSound blocks → (p : Parts) (body : Body) (front back : List Drawn) (site : Site blocks p body front back)
    → ((c : ℕ) → IsCalled body.work.parts.calls c → LaidCopy blocks p c) → (n : ℕ) → n ≤ body.work.parts.locations
    → AllByRecursion (IsLaid blocks p) (laid_below blocks (laid blocks) body (length front) n)
below_laid blocks fit sound p body front back site inner zero le = tt
below_laid blocks fit sound p body front back site inner (suc n) le =
    loops_append (IsLaid blocks p) (laid_below blocks (laid blocks) body i n)
    (map (drawn_loop blocks body i) (loops_from n q.loops) ++ laid_by blocks (laid blocks) body i n (end_at q n))
    (below_laid blocks fit sound p body front back site inner n (omega (arith, le)))
    (loops_append (IsLaid blocks p) (map (drawn_loop blocks body i) (loops_from n q.loops)) (laid_by blocks (laid blocks) body i n (end_at q n))
    (own_laid blocks p body front back site n q.loops (good_loops blocks body (sound_at blocks sound site.placed.block q site.placed.known))) (by_end (end_at q n) refl))
  where
    q : Parts
    q = body.work.parts

    i : ℕ
    i = length front

    called : end_at q n ≡ None → (c : Numbered) → call_from n 0 q.calls ≡ Some c → (o : Option Parts) → block_at blocks c.call.block ≡ o
        → AllByRecursion (IsLaid blocks p) (laid_callee blocks (laid blocks) body i n c o)
    called none c call None e = tt
    called none c call (Some r) e = subst (λ (k : ℕ). AllByRecursion (IsLaid blocks p) (laid blocks c.call.block (callee_body blocks body n c r) k)) index
        (inner c.call.block (found_called n 0 q.calls c call) (callee_body blocks body n c r) fronts backs there e)
      where
        callee : Body
        callee = callee_body blocks body n c r

        call_in : IsCallIn blocks body n c r
        call_in = record { exists = omega (arith, le); goes_on = none; call = call; there = e }

        fronts : List Drawn
        fronts = front ++ (drawn_below blocks (drawn blocks) body n ++ (edge_in blocks callee (number_in blocks body n) ∷ []))

        backs : List Drawn
        backs = (body_split blocks fit body n call_in.exists).rest ++ back

        there : Site blocks p callee fronts backs
        there = callee_site blocks fit sound p body front back n c r site call_in

        index : length fronts ≡ suc (i + drawn_before blocks body n)
        index = length-append front _
            ∙ (ap (λ (m : ℕ). i + m) (length-append (drawn_below blocks (drawn blocks) body n) _) ∙ sum i (drawn_before blocks body n))
          where
            sum : (a b : ℕ) → a + (b + 1) ≡ suc (a + b)
            sum a b = omega arith

    by_call : end_at q n ≡ None → (o : Option Numbered) → call_from n 0 q.calls ≡ o
        → AllByRecursion (IsLaid blocks p) (laid_call blocks (laid blocks) body i n o)
    by_call none None e = tt
    by_call none (Some c) e = called none c e (block_at blocks c.call.block) refl

    by_end : (end : Option End) → end_at q n ≡ end → AllByRecursion (IsLaid blocks p) (laid_by blocks (laid blocks) body i n end)
    by_end None e = by_call e (call_from n 0 q.calls) refl
    by_end (Some end) e = tt

copies_laid : (blocks : Blocks) → AreFitting blocks → AreSound blocks → (p : Parts) (b : ℕ) → LaidCopy blocks p b
copies_laid blocks fit sound p b =
    deep (λ n c. LaidCopy blocks p c) blocks fit (λ n c none body front back site at. absurd (none-some body.work.parts (sym none ∙ at))) step b
  where
    step : (n c : ℕ) (q : Parts) → block_at blocks c ≡ Some q → ((d : ℕ) → runs_block blocks c d ≡ true → LaidCopy blocks p d) → LaidCopy blocks p c
    step n c q e below = λ body front back site at.
        subst (λ (loops : List Loop). AllByRecursion (IsLaid blocks p) loops) (sym (laid_is blocks fit c body (length front) at))
        (below_laid blocks fit sound p body front back site (λ d any. below d (is_run blocks c body.work.parts at d any)) body.work.parts.locations (omega arith))

pub all_laid : (blocks : Blocks) → AreFitting blocks → AreSound blocks → (b : ℕ) (p : Parts) → block_at blocks b ≡ Some p
    → AllByRecursion (IsLaid blocks p) (inlined blocks p).loops
all_laid blocks fit sound b p at =
    below_laid blocks fit sound p (entry_body p) [] [] (entry_site blocks b p at) (λ c any. copies_laid blocks fit sound p c) p.locations (omega arith)

-- ---- what is so of each

entered : (blocks : Blocks) → AreFitting blocks → AreSound blocks → (p : Parts) (other : Loop) → IsLaid blocks p other
    → (n : ℕ) (edge : Edge) → slice_get (inlined blocks p).edges n ≡ Some edge → IsWellAt other n edge
entered blocks fit sound p other h n edge at =
    subst (λ (loop : Loop). IsWellAt loop n edge) h.is (well_at blocks fit sound p h.body n found.d edge h.loop h.front h.back h.site h.good found.at found.is)
  where
    found : FoundDrawn (text_size blocks p) (drawn_all blocks p) n edge
    found = drawn_of (text_size blocks p) (text_size blocks p) (drawn_all blocks p) n edge (omega arith) at

each_entered : (blocks : Blocks) → AreFitting blocks → AreSound blocks → (p : Parts) (loops : List Loop) → AllByRecursion (IsLaid blocks p) loops
    → AllByRecursion (AreEntered (inlined blocks p)) loops
each_entered blocks fit sound p [] are = tt
each_entered blocks fit sound p (loop ∷ loops) are = (
  record {
    enters = λ n edge at. (entered blocks fit sound p loop are.0 n edge at).enters;
    turns = λ n edge at. (entered blocks fit sound p loop are.0 n edge at).turns;
  },
  each_entered blocks fit sound p loops are.1,
)

pub loops_are_entered : LoopsAreEntered
loops_are_entered blocks b p fit sound at =
    All-from_recursion (AreEntered (inlined blocks p)) (inlined blocks p).loops
    (each_entered blocks fit sound p (inlined blocks p).loops (all_laid blocks fit sound b p at))
