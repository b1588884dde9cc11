-- Copies that are at work: the entry's, and within each the one that it calls and waits for. A chain of them says which nest it is, where
-- the innermost copy stands in the text, and from which number on its edges are numbered.
use Rattle.std.proofs.Common.{◌≡◌, ℕ, suc, ◌+◌, ◌<◌, ◌≤◌, ◌⊎◌, inl, inr, List, [], ◌∷◌, ◌++◌, length, length-append, slice_get, false, ◌==◌, Option, Some, refl, sym, subst, ap, ◌∙◌, arith}
use Rattle.std.proofs.lemmas.Bool.{ne_eqb, cases_lt}
use Rattle.pv_flow.specs.Automata.{Loop, Parts, holds}
use Rattle.pv_flow.specs.Runs.{End, at, Counts}
use Rattle.pv_flow.specs.Calls.{Blocks, block_at, Numbered}
use Rattle.pv_flow.specs.Fitting.{AreFitting, IsSound, AreSound}
use Rattle.pv_call_copies.specs.Inlined.{before, span, Body, entry_body, number_in, callee_body, Drawn, edge_in, drawn_below, drawn, drawn_before, laid_call, laid_callee, laid_by, laid_below, laid, inlined}
use Rattle.pv_call_copies.specs.Nests.{Waiting, Nest, waiting}
use Rattle.pv_call_copies.proofs.Edges.{sound_at}
use Rattle.pv_call_copies.proofs.Placed.{end_of_body, call_drawn, callee_ends, IsCallIn}
use Rattle.pv_call_copies.proofs.Aims.{rises_in, Site, entry_site, callee_site}
use Rattle.pv_call_copies.proofs.Turns.{drawn_at, next_before, before_grows}
use Rattle.pv_call_copies.proofs.Laid.{laid_is}
use Rattle.pv_call_copies.proofs.Ends.{done_number}
use Rattle.pv_call_copies.proofs.Among.{IsIn, laid_at, called_among}

pub data Chain : Type 0 where
  alone : Chain
  -- the outer copies, the location where the innermost of them waits, its call edge, the called block, and the counts with which it waits
  called : Chain → ℕ → Numbered → Parts → Counts → Chain

abbrev pub body_of : Blocks → Parts → Chain → Body
body_of blocks p alone = entry_body p
body_of blocks p (called outer l c q counts) = callee_body blocks (body_of blocks p outer) l c q

abbrev pub callers_of : Blocks → Parts → Chain → List Waiting
callers_of blocks p alone = []
callers_of blocks p (called outer l c q counts) = waiting (body_of blocks p outer).work c.call (at l counts) ∷ callers_of blocks p outer

-- how many edges stand before those of the innermost copy
abbrev pub index_of : Blocks → Parts → Chain → ℕ
index_of blocks p alone = 0
index_of blocks p (called outer l c q counts) = suc (index_of blocks p outer + drawn_before blocks (body_of blocks p outer) l)

-- the nest, with the innermost copy at this location with these counts
abbrev pub nest_of : Blocks → Parts → Chain → ℕ → Counts → Nest
nest_of blocks p chain l counts =
    record { work = (body_of blocks p chain).work; spot = at l counts; callers = callers_of blocks p chain }

-- loops that don't hold the location have the count 0
abbrev pub AreZero : Parts → ℕ → Counts → Type 0
AreZero p l counts = (j : ℕ) (loop : Loop) → slice_get p.loops j ≡ Some loop → holds loop l ≡ false → counts j ≡ 0

pub record IsCalling (blocks : Blocks) (body : Body) (l : ℕ) (c : Numbered) (q : Parts) (counts : Counts) : Type 0 where
  pub call : IsCallIn blocks body l c q
  pub zero : AreZero body.work.parts l counts

abbrev pub IsChain : Blocks → ℕ → Parts → Chain → Type 0
IsChain blocks b p alone = block_at blocks b ≡ Some p
IsChain blocks b p (called outer l c q counts) = IsCalling blocks (body_of blocks p outer) l c q counts × IsChain blocks b p outer

pub entry_there : (blocks : Blocks) (b : ℕ) (p : Parts) (chain : Chain) → IsChain blocks b p chain → block_at blocks b ≡ Some p
entry_there blocks b p alone is = is
entry_there blocks b p (called outer l c q counts) is = entry_there blocks b p outer is.1

-- ---- where the copies stand

pub record HasSite (blocks : Blocks) (p : Parts) (body : Body) (i : ℕ) : Type 0 where
  pub front : List Drawn
  pub back : List Drawn
  pub site : Site blocks p body front back
  pub long : length front ≡ i

callee_has_site : (blocks : Blocks) → AreFitting blocks → AreSound blocks → (p : Parts) (body : Body) (i l : ℕ) (c : Numbered) (q : Parts)
    → IsCallIn blocks body l c q → HasSite blocks p body i
    → HasSite blocks p (callee_body blocks body l c q) (suc (i + drawn_before blocks body l))
callee_has_site blocks fit sound p body i l c q h found = record {
  front = found.front ++ (below ++ (first ∷ []));
  back = _;
  site = callee_site blocks fit sound p body found.front found.back l c q found.site h;
  long = length-append found.front (below ++ (first ∷ []))
      ∙ (ap (λ (m : ℕ). length found.front + m) (length-append below (first ∷ []))
      ∙ (ap (λ (m : ℕ). m + (length below + 1)) found.long ∙ sum i (length below)));
}
  where
    below : List Drawn
    below = drawn_below blocks (drawn blocks) body l

    first : Drawn
    first = edge_in blocks (callee_body blocks body l c q) (number_in blocks body l)

    sum : (a b : ℕ) → a + (b + 1) ≡ suc (a + b)
    sum a b = omega arith

pub site_of : (blocks : Blocks) → AreFitting blocks → AreSound blocks → (b : ℕ) (p : Parts) (chain : Chain) → IsChain blocks b p chain
    → HasSite blocks p (body_of blocks p chain) (index_of blocks p chain)
site_of blocks fit sound b p alone is = record { front = []; back = []; site = entry_site blocks b p is; long = refl }
site_of blocks fit sound b p (called outer l c q counts) is =
    callee_has_site blocks fit sound p (body_of blocks p outer) (index_of blocks p outer) l c q (is.0).call
    (site_of blocks fit sound b p outer is.1)

pub known : (blocks : Blocks) → AreSound blocks → (b : ℕ) (p : Parts) (chain : Chain) → IsChain blocks b p chain
    → IsSound (body_of blocks p chain).work.parts
known blocks sound b p alone is = sound_at blocks sound b p is
known blocks sound b p (called outer l c q counts) is = sound_at blocks sound c.call.block q (is.0).call.there

-- ---- a called copy in the copy that calls it

pub record IsNested (blocks : Blocks) (body callee : Body) (i l : ℕ) : Type 0 where
  -- its locations
  pub low : suc (number_in blocks body l) ≤ callee.start
  pub high : end_of_body blocks callee ≡ number_in blocks body (suc l)
  pub first : body.start ≤ callee.start
  pub last : end_of_body blocks callee ≤ end_of_body blocks body
  -- and edges
  pub edges : suc (i + drawn_before blocks body l) + drawn_before blocks callee callee.work.parts.locations
      ≡ i + drawn_before blocks body (suc l)
  pub edges_last : i + drawn_before blocks body (suc l) ≤ i + drawn_before blocks body body.work.parts.locations

pub nested : (blocks : Blocks) → AreFitting blocks → (body : Body) (i l : ℕ) (c : Numbered) (q : Parts) → IsCallIn blocks body l c q
    → IsNested blocks body (callee_body blocks body l c q) i l
nested blocks fit body i l c q h = record {
  low = omega arith;
  high = ends;
  first = reach body.start (before (span blocks) body.work.parts l);
  last = subst (λ (n : ℕ). n ≤ end_of_body blocks body) (sym ends) (rises_in blocks body (suc l) body.work.parts.locations (up h.exists));
  edges = sum i (drawn_before blocks body l) (drawn_before blocks callee q.locations) (drawn_before blocks body (suc l))
      (length (drawn_at blocks body l)) (next_before blocks body l)
      (ap (λ (ds : List Drawn). length ds) (call_drawn blocks fit body l c q h.goes_on h.call h.there));
  edges_last = raised (drawn_before blocks body (suc l)) (drawn_before blocks body body.work.parts.locations)
      (before_grows blocks body (suc l) body.work.parts.locations (up h.exists));
}
  where
    callee : Body
    callee = callee_body blocks body l c q

    ends : end_of_body blocks callee ≡ number_in blocks body (suc l)
    ends = callee_ends blocks fit body l c q h.goes_on h.call h.there

    reach : (s b : ℕ) → s ≤ suc (s + b)
    reach s b = omega arith

    up : l < body.work.parts.locations → suc l ≤ body.work.parts.locations
    up g = omega (arith, g)

    raised : (a b : ℕ) → a ≤ b → i + a ≤ i + b
    raised a b g = omega (arith, g)

    sum : (a b k d w : ℕ) → d ≡ b + w → w ≡ suc k → suc (a + b) + k ≡ a + d
    sum a b k d w f g = omega (arith, f, g)

-- all of a called copy stands after one location of the entry, before the next
pub record IsAfter (blocks : Blocks) (p : Parts) (body : Body) : Type 0 where
  pub location : ℕ
  pub low : number_in blocks (entry_body p) location < body.start
  pub high : end_of_body blocks body ≤ number_in blocks (entry_body p) (suc location)

-- one that the entry calls
after_entry : (blocks : Blocks) → AreFitting blocks → (p : Parts) (l : ℕ) (c : Numbered) (q : Parts) → IsCallIn blocks (entry_body p) l c q
    → IsAfter blocks p (callee_body blocks (entry_body p) l c q)
after_entry blocks fit p l c q h = record { location = l; low = up _ _ in_it.low; high = same in_it.high }
  where
    in_it : IsNested blocks (entry_body p) (callee_body blocks (entry_body p) l c q) 0 l
    in_it = nested blocks fit (entry_body p) 0 l c q h

    up : (a b : ℕ) → suc a ≤ b → a < b
    up a b g = omega (arith, g)

    same : {a b : ℕ} → a ≡ b → a ≤ b
    same e = omega (arith, e)

-- and one that such a copy calls
after_called : (blocks : Blocks) → AreFitting blocks → (p : Parts) (body : Body) (l : ℕ) (c : Numbered) (q : Parts)
    → IsCallIn blocks body l c q
    → IsAfter blocks p body → IsAfter blocks p (callee_body blocks body l c q)
after_called blocks fit p body l c q h there = record {
  location = there.location;
  low = chain_low (number_in blocks (entry_body p) there.location) body.start _ there.low in_it.first;
  high = chain_high _ (end_of_body blocks body) (number_in blocks (entry_body p) (suc there.location)) in_it.last there.high;
}
  where
    in_it : IsNested blocks body (callee_body blocks body l c q) 0 l
    in_it = nested blocks fit body 0 l c q h

    chain_low : (x y z : ℕ) → x < y → y ≤ z → x < z
    chain_low x y z f g = omega (arith, f, g)

    chain_high : (x y z : ℕ) → x ≤ y → y ≤ z → x ≤ z
    chain_high x y z f g = omega (arith, f, g)

stands_after : (blocks : Blocks) → AreFitting blocks
    → (b : ℕ) (p : Parts) (outer : Chain) (l : ℕ) (c : Numbered) (q : Parts) (counts : Counts)
    → IsChain blocks b p (called outer l c q counts) → IsAfter blocks p (body_of blocks p (called outer l c q counts))
stands_after blocks fit b p alone l c q counts is = after_entry blocks fit p l c q (is.0).call
stands_after blocks fit b p (called further m d r others) l c q counts is =
    after_called blocks fit p (body_of blocks p (called further m d r others)) l c q (is.0).call
    (stands_after blocks fit b p further m d r others is.1)

-- no location of a called copy is where the entry is done
pub not_done : (blocks : Blocks) → AreFitting blocks
    → (b : ℕ) (p : Parts) (outer : Chain) (l : ℕ) (c : Numbered) (q : Parts) (counts : Counts)
    → IsChain blocks b p (called outer l c q counts) → (m : ℕ) → (body_of blocks p (called outer l c q counts)).start ≤ m
    → m < end_of_body blocks (body_of blocks p (called outer l c q counts)) → (done_number blocks p == m) ≡ false
not_done blocks fit b p outer l c q counts is m low high = ne_eqb (done_number blocks p) m
    (λ e. absurd (by e (cases_lt there.location p.done)))
  where
    there : IsAfter blocks p (body_of blocks p (called outer l c q counts))
    there = stands_after blocks fit b p outer l c q counts is

    above : (a s e n : ℕ) → s ≤ m → m < e → e ≤ n → n ≤ a → a ≡ m → ⊥
    above a s e n f g h k j = omega (arith, f, g, h, k, j)

    below : (a s n : ℕ) → s ≤ m → n < s → a ≤ n → a ≡ m → ⊥
    below a s n f g h k = omega (arith, f, g, h, k)

    up : there.location < p.done → suc there.location ≤ p.done
    up f = omega (arith, f)

    by : done_number blocks p ≡ m → (there.location < p.done) ⊎ (p.done ≤ there.location) → ⊥
    by e (inl lt) = above (done_number blocks p) _ _ (number_in blocks (entry_body p) (suc there.location)) low high there.high
        (rises_in blocks (entry_body p) (suc there.location) p.done (up lt)) e
    by e (inr le) = below (done_number blocks p) _ (number_in blocks (entry_body p) there.location) low there.low
        (rises_in blocks (entry_body p) p.done there.location le) e

-- ---- what a copy's loops are among

-- those of a called copy stand at its location in the copy that calls it
pub called_loops : (blocks : Blocks) → AreFitting blocks → (body : Body) (i l : ℕ) (c : Numbered) (q : Parts) → IsCallIn blocks body l c q
    → laid_at blocks body i l
    ≡ laid_below blocks (laid blocks) (callee_body blocks body l c q) (suc (i + drawn_before blocks body l)) q.locations
called_loops blocks fit body i l c q h =
    ap (λ (end : Option End). laid_by blocks (laid blocks) body i l end) h.goes_on
    ∙ (ap (λ (o : Option Numbered). laid_call blocks (laid blocks) body i l o) h.call
    ∙ (ap (λ (o : Option Parts). laid_callee blocks (laid blocks) body i l c o) h.there
    ∙ laid_is blocks fit c.call.block (callee_body blocks body l c q) (suc (i + drawn_before blocks body l)) h.there))

pub among : (blocks : Blocks) → AreFitting blocks → (b : ℕ) (p : Parts) (chain : Chain) → IsChain blocks b p chain → (x : Loop)
    → IsIn x (laid_below blocks (laid blocks) (body_of blocks p chain) (index_of blocks p chain)
    (body_of blocks p chain).work.parts.locations)
    → IsIn x (inlined blocks p).loops
among blocks fit b p alone is x h = h
among blocks fit b p (called outer l c q counts) is x h = among blocks fit b p outer is.1 x
    (called_among blocks (body_of blocks p outer) (index_of blocks p outer) l x (is.0).call.exists
    (subst (λ (loops : List Loop). IsIn x loops)
    (sym (called_loops blocks fit (body_of blocks p outer) (index_of blocks p outer) l c q (is.0).call)) h))
