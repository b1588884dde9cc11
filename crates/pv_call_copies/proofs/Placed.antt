-- Bodies in the whole: what is drawn before a copy's edges and after them. Each location of the text is one of a copy, in which it takes
-- room; and the edges that begin there are those that are drawn there.
use Rattle.std.proofs.Common.{◌≡◌, ℕ, zero, suc, ◌+◌, ◌<◌, ◌≤◌, ◌⊎◌, inl, inr, append-nil, append_assoc, List, [], ◌∷◌, ◌++◌, Bool, true, false, ◌==◌, cond, Option, Some, None, refl, sym, subst, ap, ◌∙◌, arith}
use Rattle.std.specs.List.{AllByRecursion}
use Rattle.std.proofs.lemmas.Bool.{ne_eqb, cases_lt}
use Rattle.std.proofs.lemmas.Option.{none-some}
use Rattle.pv_flow.specs.Automata.{Edge, Parts, edges_from}
use Rattle.pv_flow.specs.Runs.{End, done, trap, over, end_at}
use Rattle.pv_flow.specs.Calls.{Blocks, block_at, Numbered, call_from}
use Rattle.pv_flow.specs.Fitting.{runs_block, AreFitting}
use Rattle.pv_flow.proofs.ForCallers.{deep}
use Rattle.pv_call_copies.specs.Inlined.{Aim, width_by, span_by, called_at, before, span_in, span, Body, entry_body, number_in, callee_body, Drawn, edge_in, drawn_call, drawn_from, drawn_by, drawn_below, drawn, drawn_all, location_by, next_by, edges_of, behind, text_size}
use Rattle.pv_call_copies.specs.Correct.{AreFrom}
use Rattle.pv_call_copies.proofs.Levels.{IsCalled, is_run, found_called, span_is, drawn_is}
use Rattle.pv_call_copies.proofs.Placing.{StandIn, from_wider, from_append, below_stands, copies_stand, before_rises, Split, split_at, edges_append}

-- ---- bodies

-- the number after the copy's last location
abbrev pub end_of_body : Blocks → Body → ℕ
end_of_body blocks body = number_in blocks body body.work.parts.locations

-- what leads nowhere once it is done is the entry's
abbrev pub LeadsOut : Body → Body → Option Aim → Type 0
LeadsOut entry body None = entry ≡ body
LeadsOut entry body (Some aim) = Unit {0}

-- the copy of a block that there is, with what is drawn before it and after it, up to the end of the text
pub record Placed (blocks : Blocks) (entry : Body) (top : ℕ) (whole : List Drawn) (body : Body) (front back : List Drawn) : Type 0 where
  pub block : ℕ
  pub known : block_at blocks block ≡ Some body.work.parts
  pub is : whole ≡ front ++ (drawn_below blocks (drawn blocks) body body.work.parts.locations ++ back)
  pub lower : AreFrom 0 body.start front
  pub upper : AreFrom (end_of_body blocks body) top back
  pub fits : end_of_body blocks body ≤ top
  pub rooted : LeadsOut entry body body.out

pub entry_placed : (blocks : Blocks) (b : ℕ) (p : Parts) → block_at blocks b ≡ Some p
    → Placed blocks (entry_body p) (text_size blocks p) (drawn_all blocks p) (entry_body p) [] []
entry_placed blocks b p at = record {
  block = b;
  known = at;
  is = sym (append-nil (drawn_all blocks p));
  lower = tt;
  upper = tt;
  fits = plain (text_size blocks p);
  rooted = refl;
}
  where
    plain : (n : ℕ) → 0 + n ≤ n
    plain n = omega arith

-- what is drawn of called blocks stands in its stretch
pub inner_stands : (blocks : Blocks) → AreFitting blocks → (body : Body) → (c : ℕ) → IsCalled body.work.parts.calls c
    → StandIn blocks (drawn blocks) c
inner_stands blocks fit body c any = copies_stand blocks fit c

pub body_split : (blocks : Blocks) → AreFitting blocks → (body : Body) (l : ℕ) → l < body.work.parts.locations
    → Split blocks (drawn blocks) body l body.work.parts.locations
body_split blocks fit body l lt = split_at blocks (drawn blocks) body l body.work.parts.locations lt (inner_stands blocks fit body)

-- at a location with a call edge stand the edge in and the copy of the called block
pub call_drawn : (blocks : Blocks) → AreFitting blocks → (body : Body) (l : ℕ) (c : Numbered) (q : Parts)
    → end_at body.work.parts l ≡ None → call_from l 0 body.work.parts.calls ≡ Some c → block_at blocks c.call.block ≡ Some q
    → drawn_by blocks (drawn blocks) body l (end_at body.work.parts l)
    ≡ edge_in blocks (callee_body blocks body l c q) (number_in blocks body l)
    ∷ drawn_below blocks (drawn blocks) (callee_body blocks body l c q) q.locations
call_drawn blocks fit body l c q none call at =
    ap (λ (e : Option End). drawn_by blocks (drawn blocks) body l e) none
    ∙ (ap (λ (o : Option Numbered). drawn_from blocks (drawn blocks) body l o) call
    ∙ (ap (λ (o : Option Parts). drawn_call blocks (drawn blocks) body l c o) at
    ∙ ap (λ (ds : List Drawn). edge_in blocks (callee_body blocks body l c q) (number_in blocks body l) ∷ ds)
    (drawn_is blocks fit c.call.block (callee_body blocks body l c q) at)))

-- the called block's copy takes what its location has after it
pub callee_ends : (blocks : Blocks) → AreFitting blocks → (body : Body) (l : ℕ) (c : Numbered) (q : Parts)
    → end_at body.work.parts l ≡ None → call_from l 0 body.work.parts.calls ≡ Some c → block_at blocks c.call.block ≡ Some q
    → end_of_body blocks (callee_body blocks body l c q) ≡ number_in blocks body (suc l)
callee_ends blocks fit body l c q none call at = sum body.start (before (span blocks) body.work.parts l) (before (span blocks) q q.locations)
    (width_by (end_at body.work.parts l) (called_at (span blocks) body.work.parts l)) wide
  where
    wide : width_by (end_at body.work.parts l) (called_at (span blocks) body.work.parts l) ≡ suc (before (span blocks) q q.locations)
    wide = ap (λ (e : Option End). width_by e (called_at (span blocks) body.work.parts l)) none
        ∙ (ap (λ (o : Option Numbered). suc (span_by (span blocks) o)) call
        ∙ ap (λ (n : ℕ). suc n) (span_is blocks fit c.call.block ∙ ap (λ (o : Option Parts). span_in (span blocks) o) at))

    sum : (s b q w : ℕ) → w ≡ suc q → suc (s + b) + q ≡ s + (b + w)
    sum s b q w e = omega (arith, e)

regroup : {X : Type 0} (front below : List X) (e : X) (copy rest back : List X)
    → front ++ ((below ++ ((e ∷ copy) ++ rest)) ++ back) ≡ (front ++ (below ++ (e ∷ []))) ++ (copy ++ (rest ++ back))
regroup {X = X} front below e copy rest back =
    ap (λ (xs : List X). front ++ xs)
    (append_assoc below (e ∷ (copy ++ rest)) back
    ∙ (ap (λ (xs : List X). below ++ (e ∷ xs)) (append_assoc copy rest back)
    ∙ sym (append_assoc below (e ∷ []) (copy ++ (rest ++ back)))))
    ∙ sym (append_assoc front (below ++ (e ∷ [])) (copy ++ (rest ++ back)))

pub callee_placed : (blocks : Blocks) → (fit : AreFitting blocks) → (entry : Body) (top : ℕ) (whole : List Drawn) (body : Body) (front back : List Drawn) (l : ℕ) (c : Numbered) (q : Parts)
    → Placed blocks entry top whole body front back → (lt : l < body.work.parts.locations) → end_at body.work.parts l ≡ None
    → call_from l 0 body.work.parts.calls ≡ Some c → block_at blocks c.call.block ≡ Some q
    → Placed blocks entry top whole (callee_body blocks body l c q)
    (front ++ (drawn_below blocks (drawn blocks) body l ++ (edge_in blocks (callee_body blocks body l c q) (number_in blocks body l) ∷ [])))
    ((body_split blocks fit body l lt).rest ++ back)
callee_placed blocks fit entry top whole body front back l c q h lt none call at = record {
  block = c.call.block;
  known = at;
  is = h.is
      ∙ (ap (λ (ds : List Drawn). front ++ (ds ++ back))
      (cut.is ∙ ap (λ (ds : List Drawn). below ++ (ds ++ cut.rest)) (call_drawn blocks fit body l c q none call at))
      ∙ regroup front below first inner cut.rest back);
  lower = from_append 0 (suc here) front (below ++ (first ∷ []))
      (from_wider 0 body.start 0 (suc here) front (omega arith) (reach body.start (before (span blocks) body.work.parts l)) h.lower)
      (from_append 0 (suc here) below (first ∷ [])
      (from_wider body.start here 0 (suc here) below (omega arith) (omega arith)
      (below_stands blocks (drawn blocks) body l (inner_stands blocks fit body)))
      (record { from = omega arith; below = omega arith }, tt));
  upper = subst (λ (n : ℕ). AreFrom n top (cut.rest ++ back)) (sym ends)
      (from_append (number_in blocks body (suc l)) top cut.rest back
      (from_wider (number_in blocks body (suc l)) (end_of_body blocks body) (number_in blocks body (suc l)) top cut.rest (omega arith) h.fits cut.later)
      (from_wider (end_of_body blocks body) top (number_in blocks body (suc l)) top back rises (omega arith) h.upper));
  fits = subst (λ (n : ℕ). n ≤ top) (sym ends) (within (number_in blocks body (suc l)) (end_of_body blocks body) rises h.fits);
  rooted = tt;
}
  where
    here : ℕ
    here = number_in blocks body l

    below : List Drawn
    below = drawn_below blocks (drawn blocks) body l

    first : Drawn
    first = edge_in blocks (callee_body blocks body l c q) (number_in blocks body l)

    inner : List Drawn
    inner = drawn_below blocks (drawn blocks) (callee_body blocks body l c q) q.locations

    cut : Split blocks (drawn blocks) body l body.work.parts.locations
    cut = body_split blocks fit body l lt

    ends : end_of_body blocks (callee_body blocks body l c q) ≡ number_in blocks body (suc l)
    ends = callee_ends blocks fit body l c q none call at

    reach : (s b : ℕ) → s ≤ suc (s + b)
    reach s b = omega arith

    raised : (s : ℕ) {a b : ℕ} → a ≤ b → s + a ≤ s + b
    raised s h = omega (arith, h)

    next : l < body.work.parts.locations → suc l ≤ body.work.parts.locations
    next h = omega (arith, h)

    rises : number_in blocks body (suc l) ≤ end_of_body blocks body
    rises = raised body.start (before_rises (span blocks) body.work.parts (suc l) body.work.parts.locations (next lt))

    within : (a b : ℕ) → a ≤ b → b ≤ top → a ≤ top
    within a b h g = omega (arith, h, g)

-- ---- the copies that there are

-- a call edge from location l, which runs this block
pub record IsCallIn (blocks : Blocks) (body : Body) (l : ℕ) (c : Numbered) (q : Parts) : Type 0 where
  pub exists : l < body.work.parts.locations
  pub goes_on : end_at body.work.parts l ≡ None
  pub call : call_from l 0 body.work.parts.calls ≡ Some c
  pub there : block_at blocks c.call.block ≡ Some q

-- calls lead from the entry to this copy
pub data Path (blocks : Blocks) (b : ℕ) (p : Parts) : Body → Type 0 where
  starts : {body : Body} → block_at blocks b ≡ Some p → entry_body p ≡ body → Path blocks b p body
  deeper : {body : Body} (outer : Body) (l : ℕ) (c : Numbered) (q : Parts) → Path blocks b p outer → IsCallIn blocks outer l c q
      → callee_body blocks outer l c q ≡ body → Path blocks b p body

pub record IsKnown (blocks : Blocks) (q : Parts) : Type 0 where
  pub block : ℕ
  pub is : block_at blocks block ≡ Some q

pub known_of : (blocks : Blocks) (b : ℕ) (p : Parts) (body : Body) → Path blocks b p body → IsKnown blocks body.work.parts
known_of blocks b p body (starts at e) = subst (λ (x : Body). IsKnown blocks x.work.parts) e (record { block = b; is = at })
known_of blocks b p body (deeper outer l c q path h e) =
    subst (λ (x : Body). IsKnown blocks x.work.parts) e (record { block = c.call.block; is = h.there })

-- what is drawn before it and after it
pub record PlacedIn (blocks : Blocks) (p : Parts) (body : Body) : Type 0 where
  pub front : List Drawn
  pub back : List Drawn
  pub placed : Placed blocks (entry_body p) (text_size blocks p) (drawn_all blocks p) body front back

pub placed_of : (blocks : Blocks) → AreFitting blocks → (b : ℕ) (p : Parts) (body : Body) → Path blocks b p body → PlacedIn blocks p body
placed_of blocks fit b p body (starts at e) =
    subst (λ (x : Body). PlacedIn blocks p x) e (record { front = []; back = []; placed = entry_placed blocks b p at })
placed_of blocks fit b p body (deeper outer l c q path h e) =
    let x : PlacedIn blocks p outer = placed_of blocks fit b p outer path in
    subst (λ (y : Body). PlacedIn blocks p y) e (record {
      front = x.front ++ (drawn_below blocks (drawn blocks) outer l ++ (edge_in blocks (callee_body blocks outer l c q) (number_in blocks outer l) ∷ []));
      back = (body_split blocks fit outer l h.exists).rest ++ x.back;
      placed = callee_placed blocks fit (entry_body p) (text_size blocks p) (drawn_all blocks p) outer x.front x.back l c q x.placed h.exists h.goes_on
          h.call h.there;
    })

-- ---- locations of the text

-- what ends there is that the block is done, if anything
abbrev pub IsOpen : Option End → Type 0
IsOpen None = Unit {0}
IsOpen (Some done) = Unit {0}
IsOpen (Some (trap kind place)) = ⊥
IsOpen (Some (over place)) = ⊥

-- the location of a copy that has this number
pub record Located (blocks : Blocks) (b : ℕ) (p : Parts) (number : ℕ) : Type 0 where
  pub body : Body
  pub path : Path blocks b p body
  pub location : ℕ
  pub exists : location < body.work.parts.locations
  pub is : number ≡ number_in blocks body location
  pub opens : IsOpen (end_at body.work.parts location)

abbrev LocatesIn : Blocks → ℕ → Parts → ℕ → Type 0
LocatesIn blocks b p d =
    (body : Body) → Path blocks b p body → block_at blocks d ≡ Some body.work.parts → (number : ℕ) → body.start ≤ number
    → number < end_of_body blocks body → Located blocks b p number

located_below : (blocks : Blocks) → AreFitting blocks → (b : ℕ) (p : Parts) (body : Body) → Path blocks b p body
    → ((c : ℕ) → IsCalled body.work.parts.calls c → LocatesIn blocks b p c)
    → (n : ℕ) → n ≤ body.work.parts.locations → (number : ℕ) → body.start ≤ number → number < number_in blocks body n
    → Located blocks b p number
located_below blocks fit b p body h inner zero le number low high = absurd (none body.start number low high)
  where
    none : (s m : ℕ) → s ≤ m → m < s + 0 → ⊥
    none s m a b = omega (arith, a, b)
located_below blocks fit b p body h inner (suc n) le number low high =
    by (cases_lt number (number_in blocks body n))
    (λ small. located_below blocks fit b p body h inner n (omega (arith, le)) number low small)
  where
    parts : Parts
    parts = body.work.parts

    here_is : ℕ
    here_is = number_in blocks body n

    within : n < parts.locations
    within = omega (arith, le)

    wide : Option End → ℕ
    wide end = width_by end (called_at (span blocks) parts n)

    high_by : (w : ℕ) → wide (end_at parts n) ≡ w → number < here_is + w
    high_by w e = sum body.start (before (span blocks) parts n) (wide (end_at parts n)) high e
      where
        sum : (s b v : ℕ) → number < s + (b + v) → v ≡ w → number < (s + b) + w
        sum s b v g f = omega (arith, g, f)

    found : number ≡ here_is → IsOpen (end_at parts n) → Located blocks b p number
    found e free = record { body = body; path = h; location = n; exists = within; is = e; opens = free }

    one : here_is ≤ number → number < here_is + 1 → number ≡ here_is
    one a b = omega (arith, a, b)

    called : here_is ≤ number → end_at parts n ≡ None → (c : Numbered) → call_from n 0 parts.calls ≡ Some c → (o : Option Parts)
        → block_at blocks c.call.block ≡ o → Located blocks b p number
    called at none c call None e = found (one at (high_by 1 narrow)) (subst IsOpen (sym none) tt)
      where
        narrow : wide (end_at parts n) ≡ 1
        narrow = ap wide none
            ∙ (ap (λ (o : Option Numbered). suc (span_by (span blocks) o)) call
            ∙ ap (λ (m : ℕ). suc m) (span_is blocks fit c.call.block ∙ ap (λ (o : Option Parts). span_in (span blocks) o) e))
    called at none c call (Some q) e = either (cases_lt here_is number)
      where
        call_in : IsCallIn blocks body n c q
        call_in = record { exists = within; goes_on = none; call = call; there = e }

        inside : here_is < number → Located blocks b p number
        inside lt = inner c.call.block (found_called n 0 parts.calls c call) (callee_body blocks body n c q)
            (deeper body n c q h call_in refl) e number lt
            (subst (λ (m : ℕ). number < m) (sym (callee_ends blocks fit body n c q none call e)) high)

        either : (here_is < number) ⊎ (number ≤ here_is) → Located blocks b p number
        either (inl lt) = inside lt
        either (inr same) = found (equal at same) (subst IsOpen (sym none) tt)
          where
            equal : here_is ≤ number → number ≤ here_is → number ≡ here_is
            equal a b = omega (arith, a, b)

    by_call : here_is ≤ number → end_at parts n ≡ None → (o : Option Numbered) → call_from n 0 parts.calls ≡ o → Located blocks b p number
    by_call at none None call = found (one at (high_by 1 narrow)) (subst IsOpen (sym none) tt)
      where
        narrow : wide (end_at parts n) ≡ 1
        narrow = ap wide none ∙ ap (λ (o : Option Numbered). suc (span_by (span blocks) o)) call
    by_call at none (Some c) call = called at none c call (block_at blocks c.call.block) refl

    empty : here_is ≤ number → number < here_is + 0 → ⊥
    empty a b = omega (arith, a, b)

    by_end : here_is ≤ number → (end : Option End) → end_at parts n ≡ end → Located blocks b p number
    by_end at None e = by_call at e (call_from n 0 parts.calls) refl
    by_end at (Some done) e = found (one at (high_by 1 (ap wide e))) (subst IsOpen (sym e) tt)
    by_end at (Some (trap kind place)) e = absurd (empty at (high_by 0 (ap wide e)))
    by_end at (Some (over place)) e = absurd (empty at (high_by 0 (ap wide e)))

    by : (number < here_is) ⊎ (here_is ≤ number) → (number < here_is → Located blocks b p number) → Located blocks b p number
    by (inl small) go = go small
    by (inr at) go = by_end at (end_at parts n) refl

each_located : (blocks : Blocks) → AreFitting blocks → (b : ℕ) (p : Parts) (d : ℕ) → LocatesIn blocks b p d
each_located blocks fit b p d =
    deep (λ n c. LocatesIn blocks b p c) blocks fit (λ n c none body h at. absurd (none-some body.work.parts (sym none ∙ at))) step d
  where
    step : (n c : ℕ) (q : Parts) → block_at blocks c ≡ Some q → ((d : ℕ) → runs_block blocks c d ≡ true → LocatesIn blocks b p d)
        → LocatesIn blocks b p c
    step n c q e below = λ body h at number low high.
        located_below blocks fit b p body h (λ d any. below d (is_run blocks c body.work.parts at d any)) body.work.parts.locations
        (omega arith) number low high

-- each number below the end of the text is that of a copy's location
pub located : (blocks : Blocks) → AreFitting blocks → (b : ℕ) (p : Parts) → block_at blocks b ≡ Some p → (number : ℕ)
    → number < text_size blocks p → Located blocks b p number
located blocks fit b p at number lt =
    each_located blocks fit b p b (entry_body p) (starts at refl) at number (omega arith) (shifted (text_size blocks p) lt)
  where
    shifted : (n : ℕ) → number < n → number < 0 + n
    shifted n h = omega (arith, h)

-- ---- edges by their beginnings

pub from_append_edges : (l : ℕ) (xs ys : List Edge) → edges_from l (xs ++ ys) ≡ edges_from l xs ++ edges_from l ys
from_append_edges l [] ys = refl
from_append_edges l (x ∷ xs) ys = by (x.from == l) (from_append_edges l xs ys)
  where
    by : (b : Bool) → edges_from l (xs ++ ys) ≡ edges_from l xs ++ edges_from l ys
        → cond b (x ∷ edges_from l (xs ++ ys)) (edges_from l (xs ++ ys)) ≡ cond b (x ∷ edges_from l xs) (edges_from l xs) ++ edges_from l ys
    by true h = ap (λ (edges : List Edge). x ∷ edges) h
    by false h = h

none_from : (l next : ℕ) (ds : List Drawn) → AllByRecursion (λ (d : Drawn). (d.from == l) ≡ false) ds → edges_from l (edges_of next ds) ≡ []
none_from l next [] are = refl
none_from l next (d ∷ ds) are =
    ap (λ (b : Bool). cond b (record { from = d.from; to = location_by d.aim next; guard = d.guard; sets = d.sets }
    ∷ edges_from l (edges_of (next_by d.aim next) ds)) (edges_from l (edges_of (next_by d.aim next) ds))) are.0
    ∙ none_from l (next_by d.aim next) ds are.1

pub all_below : (l low high : ℕ) (ds : List Drawn) → high ≤ l → AreFrom low high ds → AllByRecursion (λ (d : Drawn). (d.from == l) ≡ false) ds
all_below l low high [] le are = tt
all_below l low high (d ∷ ds) le are = (ne_eqb d.from l (λ e. apart e le are.0.below), all_below l low high ds le are.1)
  where
    apart : d.from ≡ l → high ≤ l → d.from < high → ⊥
    apart e a b = omega (arith, e, a, b)

pub all_above : (l low high : ℕ) (ds : List Drawn) → l < low → AreFrom low high ds → AllByRecursion (λ (d : Drawn). (d.from == l) ≡ false) ds
all_above l low high [] lt are = tt
all_above l low high (d ∷ ds) lt are = (ne_eqb d.from l (λ e. apart e lt are.0.from), all_above l low high ds lt are.1)
  where
    apart : d.from ≡ l → l < low → low ≤ d.from → ⊥
    apart e a b = omega (arith, e, a, b)

pub none_below : (l next low high : ℕ) (ds : List Drawn) → high ≤ l → AreFrom low high ds → edges_from l (edges_of next ds) ≡ []
none_below l next low high ds le are = none_from l next ds (all_below l low high ds le are)

pub none_above : (l next low high : ℕ) (ds : List Drawn) → l < low → AreFrom low high ds → edges_from l (edges_of next ds) ≡ []
none_above l next low high ds lt are = none_from l next ds (all_above l low high ds lt are)

-- only the middle one of these lists has edges from there
pub amid : (l next : ℕ) (xs ys zs : List Drawn) → ((m : ℕ) → edges_from l (edges_of m xs) ≡ []) → ((m : ℕ) → edges_from l (edges_of m zs) ≡ [])
    → edges_from l (edges_of next (xs ++ (ys ++ zs))) ≡ edges_from l (edges_of (behind next xs) ys)
amid l next xs ys zs no_first no_last =
    ap (λ (edges : List Edge). edges_from l edges) (edges_append next xs (ys ++ zs))
    ∙ (from_append_edges l (edges_of next xs) (edges_of (behind next xs) (ys ++ zs))
    ∙ (ap (λ (edges : List Edge). edges ++ edges_from l (edges_of (behind next xs) (ys ++ zs))) (no_first next)
    ∙ (ap (λ (edges : List Edge). edges_from l edges) (edges_append (behind next xs) ys zs)
    ∙ (from_append_edges l (edges_of (behind next xs) ys) (edges_of (behind (behind next xs) ys) zs)
    ∙ (ap (λ (edges : List Edge). edges_from l (edges_of (behind next xs) ys) ++ edges) (no_last (behind (behind next xs) ys))
    ∙ append-nil (edges_from l (edges_of (behind next xs) ys)))))))

-- the edges of the whole that begin at a copy's location are those of what is drawn there; ends are numbered from some number on
pub record BeginHere (blocks : Blocks) (next : ℕ) (whole : List Drawn) (body : Body) (l : ℕ) : Type 0 where
  pub start : ℕ
  pub are : edges_from (number_in blocks body l) (edges_of next whole)
      ≡ edges_from (number_in blocks body l) (edges_of start (drawn_by blocks (drawn blocks) body l (end_at body.work.parts l)))

pub begin_here : (blocks : Blocks) → AreFitting blocks → (entry : Body) (top next : ℕ) (whole : List Drawn) (body : Body) (front back : List Drawn) (l : ℕ)
    → Placed blocks entry top whole body front back
    → l < body.work.parts.locations → IsOpen (end_at body.work.parts l) → BeginHere blocks next whole body l
begin_here blocks fit entry top next whole body front back l h lt opens = record {
  start = behind (behind next front) below;
  are = ap (λ (ds : List Drawn). edges_from here (edges_of next ds)) h.is
      ∙ (amid here next front (drawn_below blocks (drawn blocks) body body.work.parts.locations) back
      (λ m. none_below here m 0 body.start front (reach body.start (before (span blocks) body.work.parts l)) h.lower)
      (λ m. none_above here m (end_of_body blocks body) top back (more rises) h.upper)
      ∙ (ap (λ (ds : List Drawn). edges_from here (edges_of (behind next front) ds)) cut.is
      ∙ amid here (behind next front) below (drawn_by blocks (drawn blocks) body l (end_at body.work.parts l)) cut.rest
      (λ m. none_below here m body.start here below (omega arith) (below_stands blocks (drawn blocks) body l (inner_stands blocks fit body)))
      (λ m. none_above here m (number_in blocks body (suc l)) (end_of_body blocks body) cut.rest after cut.later)));
}
  where
    here : ℕ
    here = number_in blocks body l

    below : List Drawn
    below = drawn_below blocks (drawn blocks) body l

    cut : Split blocks (drawn blocks) body l body.work.parts.locations
    cut = body_split blocks fit body l lt

    reach : (s b : ℕ) → s ≤ s + b
    reach s b = omega arith

    wide : (end : Option End) (n : ℕ) → IsOpen end → 0 < width_by end n
    wide None n o = omega arith
    wide (Some done) n o = omega arith
    wide (Some (trap kind place)) n o = absurd o
    wide (Some (over place)) n o = absurd o

    after : here < number_in blocks body (suc l)
    after = sum body.start (before (span blocks) body.work.parts l) (width_by (end_at body.work.parts l) (called_at (span blocks) body.work.parts l))
        (wide (end_at body.work.parts l) (called_at (span blocks) body.work.parts l) opens)
      where
        sum : (s b w : ℕ) → 0 < w → s + b < s + (b + w)
        sum s b w e = omega (arith, e)

    raised : (s : ℕ) {a b : ℕ} → a ≤ b → s + a ≤ s + b
    raised s h = omega (arith, h)

    follows : l < body.work.parts.locations → suc l ≤ body.work.parts.locations
    follows h = omega (arith, h)

    rises : number_in blocks body (suc l) ≤ end_of_body blocks body
    rises = raised body.start (before_rises (span blocks) body.work.parts (suc l) body.work.parts.locations (follows lt))

    more : number_in blocks body (suc l) ≤ end_of_body blocks body → here < end_of_body blocks body
    more r = less here (number_in blocks body (suc l)) (end_of_body blocks body) after r
      where
        less : (a b c : ℕ) → a < b → b ≤ c → a < c
        less a b c f g = omega (arith, f, g)
