-- Where copies stand: the edges of a body begin within its stretch of the text, those drawn at one location after those of the locations
-- before it; and lists of edges that are put one after another, with their ends and their ways.
use Rattle.std.proofs.Common.{◌≡◌, ℕ, zero, suc, ◌+◌, ◌<◌, ◌≤◌, ◌⊎◌, inl, inr, append-nil, append_assoc, List, [], ◌∷◌, ◌++◌, map, length, Bool, true, false, ◌==◌, cond, Option, Some, None, refl, sym, subst, ap, ◌∙◌, arith}
use Rattle.std.specs.List.{AllByRecursion}
use Rattle.std.proofs.lemmas.Bool.{eqb-true, cases_lt}
use Rattle.std.proofs.lemmas.Option.{none-some}
use Rattle.pv_flow.specs.Automata.{Edge, Loop, TrapEnd, OverEnd, Parts, edges_from}
use Rattle.pv_flow.specs.Runs.{End, done, trap, over, end_at, Counts, Spot, Way, way_of, ways_by}
use Rattle.pv_flow.specs.Calls.{Blocks, block_at, Numbered, call_from}
use Rattle.pv_flow.specs.Fitting.{runs_block, AreFitting}
use Rattle.pv_flow.proofs.ForCallers.{deep}
use Rattle.pv_call_copies.specs.Inlined.{width_by, span_by, called_at, before, span_in, span, Aim, to_location, to_trap, to_over, Body, number_in, callee_body, Drawn, drawn_edge, edges_out, drawn_call, drawn_from, drawn_by, drawn_below, drawn, location_by, next_by, with_trap, with_over, edges_of, traps_of, overs_of, behind}
use Rattle.pv_call_copies.specs.Correct.{IsFrom, AreFrom, CopiesStand}
use Rattle.pv_call_copies.proofs.Levels.{IsCalled, is_run, found_called, span_is, drawn_is}

-- ---- stretches

pub from_wider : (low high least most : ℕ) (ds : List Drawn) → least ≤ low → high ≤ most → AreFrom low high ds → AreFrom least most ds
from_wider low high least most [] le more are = tt
from_wider low high least most (d ∷ ds) le more are =
    (wider are.0.from are.0.below, from_wider low high least most ds le more are.1)
  where
    wider : low ≤ d.from → d.from < high → IsFrom least most d
    wider h lt = record { from = omega (arith, le, h); below = omega (arith, more, lt) }

pub from_append : (low high : ℕ) (xs ys : List Drawn) → AreFrom low high xs → AreFrom low high ys → AreFrom low high (xs ++ ys)
from_append low high [] ys are more = more
from_append low high (x ∷ xs) ys are more = (are.0, from_append low high xs ys are.1 more)

-- what is drawn of a block stands in its stretch
abbrev pub StandIn : Blocks → (ℕ → Body → List Drawn) → ℕ → Type 0
StandIn blocks inner c =
    (body : Body) → block_at blocks c ≡ Some body.work.parts → AreFrom body.start (body.start + span blocks c) (inner c body)

-- the edges of one location
edges_here : (blocks : Blocks) (body : Body) (l high : ℕ) (edges : List Edge) → number_in blocks body l < high
    → AreFrom (number_in blocks body l) high (map (drawn_edge blocks body) (edges_from l edges))
edges_here blocks body l high [] lt = tt
edges_here blocks body l high (edge ∷ edges) lt = by (edge.from == l) refl (edges_here blocks body l high edges lt)
  where
    same : edge.from ≡ l → IsFrom (number_in blocks body l) high (drawn_edge blocks body edge)
    same e = subst (λ (k : ℕ). IsFrom (number_in blocks body k) high (drawn_edge blocks body edge)) e (record {
      from = omega arith;
      below = subst (λ (k : ℕ). number_in blocks body k < high) (sym e) lt;
    })

    by : (b : Bool) → (edge.from == l) ≡ b → AreFrom (number_in blocks body l) high (map (drawn_edge blocks body) (edges_from l edges))
        → AreFrom (number_in blocks body l) high (map (drawn_edge blocks body) (cond b (edge ∷ edges_from l edges) (edges_from l edges)))
    by true e are = (same (eqb-true edge.from l e), are)
    by false e are = are

outs_here : (out : Option Aim) (here high : ℕ) → here < high → AreFrom here high (edges_out out here)
outs_here None here high lt = tt
outs_here (Some aim) here high lt = (record { from = omega arith; below = lt }, tt)

call_here : (blocks : Blocks) (inner : ℕ → Body → List Drawn) (body : Body) (l : ℕ) (c : Numbered) (o : Option Parts)
    → block_at blocks c.call.block ≡ o → StandIn blocks inner c.call.block
    → AreFrom (number_in blocks body l) (number_in blocks body l + suc (span blocks c.call.block)) (drawn_call blocks inner body l c o)
call_here blocks inner body l c None e stand = tt
call_here blocks inner body l c (Some p) e stand = (
  record { from = omega arith; below = omega arith },
  from_wider (suc here) (suc here + size) here (here + suc size) (inner c.call.block (callee_body blocks body l c p)) (omega arith) (omega arith)
      (stand (callee_body blocks body l c p) e),
)
  where
    here : ℕ
    here = number_in blocks body l

    size : ℕ
    size = span blocks c.call.block

-- what is drawn at a location stands in what it takes
pub drawn_within_width : (blocks : Blocks) (inner : ℕ → Body → List Drawn) (body : Body) (l : ℕ) (end : Option End)
    → ((c : ℕ) → IsCalled body.work.parts.calls c → StandIn blocks inner c)
    → AreFrom (number_in blocks body l) (number_in blocks body l + width_by end (called_at (span blocks) body.work.parts l))
    (drawn_by blocks inner body l end)
drawn_within_width blocks inner body l None stand = by (call_from l 0 body.work.parts.calls) refl
  where
    by : (o : Option Numbered) → call_from l 0 body.work.parts.calls ≡ o
        → AreFrom (number_in blocks body l) (number_in blocks body l + suc (span_by (span blocks) o)) (drawn_from blocks inner body l o)
    by None e = edges_here blocks body l (number_in blocks body l + 1) body.work.parts.edges (omega arith)
    by (Some c) e = call_here blocks inner body l c (block_at blocks c.call.block) refl
        (stand c.call.block (found_called l 0 body.work.parts.calls c e))
drawn_within_width blocks inner body l (Some done) stand =
    outs_here body.out (number_in blocks body l) (number_in blocks body l + 1) (omega arith)
drawn_within_width blocks inner body l (Some (trap kind place)) stand = tt
drawn_within_width blocks inner body l (Some (over place)) stand = tt

pub below_stands : (blocks : Blocks) (inner : ℕ → Body → List Drawn) (body : Body) (n : ℕ)
    → ((c : ℕ) → IsCalled body.work.parts.calls c → StandIn blocks inner c)
    → AreFrom body.start (body.start + before (span blocks) body.work.parts n) (drawn_below blocks inner body n)
below_stands blocks inner body zero stand = tt
below_stands blocks inner body (suc n) stand =
    from_append body.start (body.start + (so_far + width)) (drawn_below blocks inner body n)
    (drawn_by blocks inner body n (end_at body.work.parts n))
    (from_wider body.start (body.start + so_far) body.start (body.start + (so_far + width)) (drawn_below blocks inner body n) (omega arith)
    (omega arith) (below_stands blocks inner body n stand))
    (from_wider (body.start + so_far) ((body.start + so_far) + width) body.start (body.start + (so_far + width))
    (drawn_by blocks inner body n (end_at body.work.parts n)) (omega arith) (omega arith)
    (drawn_within_width blocks inner body n (end_at body.work.parts n) stand))
  where
    so_far : ℕ
    so_far = before (span blocks) body.work.parts n

    width : ℕ
    width = width_by (end_at body.work.parts n) (called_at (span blocks) body.work.parts n)

-- each copy stands in its stretch
pub copies_stand : (blocks : Blocks) → AreFitting blocks → (b : ℕ) → StandIn blocks (drawn blocks) b
copies_stand blocks fit b =
    deep (λ n c. StandIn blocks (drawn blocks) c) blocks fit (λ n c none body at. absurd (none-some body.work.parts (sym none ∙ at))) step b
  where
    step : (n c : ℕ) (p : Parts) → block_at blocks c ≡ Some p
        → ((d : ℕ) → runs_block blocks c d ≡ true → StandIn blocks (drawn blocks) d) → StandIn blocks (drawn blocks) c
    step n c p e below = λ body at.
        subst (λ (ds : List Drawn). AreFrom body.start (body.start + span blocks c) ds) (sym (drawn_is blocks fit c body at))
        (subst (λ (k : ℕ). AreFrom body.start (body.start + k) (drawn_below blocks (drawn blocks) body body.work.parts.locations))
        (sym (span_is blocks fit c ∙ ap (λ (o : Option Parts). span_in (span blocks) o) at))
        (below_stands blocks (drawn blocks) body body.work.parts.locations (λ d any. below d (is_run blocks c body.work.parts at d any))))

pub copies_stand_there : CopiesStand
copies_stand_there blocks b body fit at = copies_stand blocks fit b body at

-- ---- a body's edges, split at a location

-- what is drawn below location n: below l, at l, and the rest, which begins after what l takes
pub record Split (blocks : Blocks) (inner : ℕ → Body → List Drawn) (body : Body) (l n : ℕ) : Type 0 where
  pub rest : List Drawn
  pub is : drawn_below blocks inner body n
      ≡ drawn_below blocks inner body l ++ (drawn_by blocks inner body l (end_at body.work.parts l) ++ rest)
  pub later : AreFrom (number_in blocks body (suc l)) (number_in blocks body n) rest

pub before_rises : (f : ℕ → ℕ) (p : Parts) (l n : ℕ) → l ≤ n → before f p l ≤ before f p n
before_rises f p l zero le = let e : l ≡ 0 = omega (arith, le) in subst (λ (k : ℕ). before f p k ≤ before f p 0) (sym e) (omega arith)
before_rises f p l (suc n) le = by (cases_lt l (suc n)) (λ small. before_rises f p l n small)
  where
    by : (l < suc n) ⊎ (suc n ≤ l) → (l ≤ n → before f p l ≤ before f p n) → before f p l ≤ before f p (suc n)
    by (inl lt) go = wider (before f p l) (before f p n) (width_by (end_at p n) (called_at f p n)) (go (omega (arith, lt)))
      where
        wider : (a b w : ℕ) → a ≤ b → a ≤ b + w
        wider a b w h = omega (arith, h)
    by (inr high) go = let e : l ≡ suc n = omega (arith, le, high) in
        subst (λ (k : ℕ). before f p k ≤ before f p (suc n)) (sym e) (omega arith)

pub split_at : (blocks : Blocks) (inner : ℕ → Body → List Drawn) (body : Body) (l n : ℕ) → l < n
    → ((c : ℕ) → IsCalled body.work.parts.calls c → StandIn blocks inner c) → Split blocks inner body l n
split_at blocks inner body l zero lt stand = absurd (omega (arith, lt))
split_at blocks inner body l (suc n) lt stand = by (cases_lt l n) (λ below. split_at blocks inner body l n below stand)
  where
    drawn_at : ℕ → List Drawn
    drawn_at k = drawn_by blocks inner body k (end_at body.work.parts k)

    last : l ≡ n → Split blocks inner body l (suc n)
    last e = subst (λ (k : ℕ). Split blocks inner body k (suc n)) (sym e) (record {
      rest = [];
      is = ap (λ (ds : List Drawn). drawn_below blocks inner body n ++ ds) (sym (append-nil (drawn_at n)));
      later = tt;
    })

    more : l < n → Split blocks inner body l n → Split blocks inner body l (suc n)
    more below h = record {
      rest = h.rest ++ drawn_at n;
      is = ap (λ (ds : List Drawn). ds ++ drawn_at n) h.is
          ∙ (append_assoc (drawn_below blocks inner body l) (drawn_at l ++ h.rest) (drawn_at n)
          ∙ ap (λ (ds : List Drawn). drawn_below blocks inner body l ++ ds) (append_assoc (drawn_at l) h.rest (drawn_at n)));
      later = from_append (number_in blocks body (suc l)) (number_in blocks body (suc n)) h.rest (drawn_at n)
          (from_wider (number_in blocks body (suc l)) (number_in blocks body n) (number_in blocks body (suc l)) (number_in blocks body (suc n))
          h.rest (omega arith) (ahead body.start (before (span blocks) body.work.parts n)) h.later)
          (from_wider (number_in blocks body n) (number_in blocks body n + width) (number_in blocks body (suc l)) (number_in blocks body (suc n))
          (drawn_at n) (raised body.start (before_rises (span blocks) body.work.parts (suc l) n (next below))) (omega arith)
          (drawn_within_width blocks inner body n (end_at body.work.parts n) stand));
    }
      where
        width : ℕ
        width = width_by (end_at body.work.parts n) (called_at (span blocks) body.work.parts n)

        ahead : (a b : ℕ) → a + b ≤ a + (b + width)
        ahead a b = omega arith

        next : l < n → suc l ≤ n
        next h = omega (arith, h)

        raised : {b c : ℕ} (a : ℕ) → b ≤ c → a + b ≤ a + c
        raised a h = omega (arith, h)

    by : (l < n) ⊎ (n ≤ l) → (l < n → Split blocks inner body l n) → Split blocks inner body l (suc n)
    by (inl below) go = more below (go below)
    by (inr high) go = last (omega (arith, lt, high))

-- ---- lists one after another

pub behind_append : (next : ℕ) (xs ys : List Drawn) → behind next (xs ++ ys) ≡ behind (behind next xs) ys
behind_append next [] ys = refl
behind_append next (x ∷ xs) ys = behind_append (next_by x.aim next) xs ys

pub edges_append : (next : ℕ) (xs ys : List Drawn) → edges_of next (xs ++ ys) ≡ edges_of next xs ++ edges_of (behind next xs) ys
edges_append next [] ys = refl
edges_append next (x ∷ xs) ys =
    ap (λ (edges : List Edge). record { from = x.from; to = location_by x.aim next; guard = x.guard; sets = x.sets } ∷ edges)
    (edges_append (next_by x.aim next) xs ys)

with_trap_append : (aim : Aim) (next : ℕ) (xs ys : List TrapEnd) → with_trap aim next (xs ++ ys) ≡ with_trap aim next xs ++ ys
with_trap_append (to_location l) next xs ys = refl
with_trap_append (to_trap kind place) next xs ys = refl
with_trap_append (to_over place) next xs ys = refl

pub traps_append : (next : ℕ) (xs ys : List Drawn) → traps_of next (xs ++ ys) ≡ traps_of next xs ++ traps_of (behind next xs) ys
traps_append next [] ys = refl
traps_append next (x ∷ xs) ys = ap (λ (ends : List TrapEnd). with_trap x.aim next ends) (traps_append (next_by x.aim next) xs ys)
    ∙ with_trap_append x.aim next (traps_of (next_by x.aim next) xs) (traps_of (behind (next_by x.aim next) xs) ys)

with_over_append : (aim : Aim) (next : ℕ) (xs ys : List OverEnd) → with_over aim next (xs ++ ys) ≡ with_over aim next xs ++ ys
with_over_append (to_location l) next xs ys = refl
with_over_append (to_trap kind place) next xs ys = refl
with_over_append (to_over place) next xs ys = refl

pub overs_append : (next : ℕ) (xs ys : List Drawn) → overs_of next (xs ++ ys) ≡ overs_of next xs ++ overs_of (behind next xs) ys
overs_append next [] ys = refl
overs_append next (x ∷ xs) ys = ap (λ (ends : List OverEnd). with_over x.aim next ends) (overs_append (next_by x.aim next) xs ys)
    ∙ with_over_append x.aim next (overs_of (next_by x.aim next) xs) (overs_of (behind (next_by x.aim next) xs) ys)

-- ---- ways

pub ways_append : (loops : List Loop) (n l : ℕ) (counts : Counts) (e : ℕ) (xs ys : List Edge)
    → ways_by loops n l counts e (xs ++ ys) ≡ ways_by loops n l counts e xs ++ ways_by loops n l counts (e + length xs) ys
ways_append loops n l counts e [] ys = ap (λ (k : ℕ). ways_by loops n l counts k ys) (none e)
  where
    none : (e : ℕ) → e ≡ e + 0
    none e = omega arith
ways_append loops n l counts e (x ∷ xs) ys =
    by (x.from == l) (ways_append loops n l counts (suc e) xs ys
    ∙ ap (λ (k : ℕ). ways_by loops n l counts (suc e) xs ++ ways_by loops n l counts k ys) (one e (length xs)))
  where
    one : (e k : ℕ) → suc e + k ≡ e + suc k
    one e k = omega arith

    tail : List (Way Spot)
    tail = ways_by loops n l counts (suc e) xs

    late : List (Way Spot)
    late = ways_by loops n l counts (e + suc (length xs)) ys

    by : (b : Bool) → ways_by loops n l counts (suc e) (xs ++ ys) ≡ tail ++ late
        → cond b (way_of loops n l counts e x ∷ ways_by loops n l counts (suc e) (xs ++ ys)) (ways_by loops n l counts (suc e) (xs ++ ys))
        ≡ cond b (way_of loops n l counts e x ∷ tail) tail ++ late
    by true h = ap (λ (ways : List (Way Spot)). way_of loops n l counts e x ∷ ways) h
    by false h = h

-- edges that begin elsewhere give none
pub no_ways : (loops : List Loop) (n l : ℕ) (counts : Counts) (e : ℕ) (xs : List Edge) → AllByRecursion (λ (x : Edge). (x.from == l) ≡ false) xs
    → ways_by loops n l counts e xs ≡ []
no_ways loops n l counts e [] are = refl
no_ways loops n l counts e (x ∷ xs) are =
    ap (λ (b : Bool). cond b (way_of loops n l counts e x ∷ ways_by loops n l counts (suc e) xs) (ways_by loops n l counts (suc e) xs)) are.0
    ∙ no_ways loops n l counts (suc e) xs are.1
