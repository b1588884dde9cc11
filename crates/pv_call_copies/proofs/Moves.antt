-- Counts of the whole's loops are those of the copies at work after an own edge; which loops have turns at an edge; and where counts are 0.
use Rattle.std.proofs.Common.{◌≡◌, ℕ, suc, ◌+◌, ◌<◌, ◌≤◌, ◌⊎◌, inl, inr, length, slice_get, Bool, true, false, not, ◌&&◌, ◌||◌, ◌==◌, cond, IfSome, Option, Some, None, refl, sym, subst, ap, ◌∙◌, arith}
use Rattle.std.proofs.lemmas.Bool.{true≢false, eqb-true, cases_lt, and_parts}
use Rattle.std.proofs.lemmas.Option.{none-some}
use Rattle.pv_flow.specs.Automata.{Edge, Loop, Parts, holds, is_turn}
use Rattle.pv_flow.specs.WellMade.{turns_well}
use Rattle.pv_flow.specs.Runs.{end_at, Counts, entry_count, kept, kept_in, moved, entered, turned}
use Rattle.pv_flow.specs.Calls.{Blocks, call_from}
use Rattle.pv_flow.specs.Fitting.{AreFitting, IsSound, AreSound}
use Rattle.pv_call_copies.specs.Inlined.{before, span, Body, number_in, drawn_before, drawn_loop}
use Rattle.pv_call_copies.proofs.Placed.{IsOpen}
use Rattle.pv_call_copies.proofs.Aims.{less_in}
use Rattle.pv_call_copies.proofs.Turns.{drawn_at, next_before, before_grows, IsOwn}
use Rattle.pv_call_copies.proofs.Holding.{of_held, alike_at}
use Rattle.pv_call_copies.proofs.LoopEdges.{IsGoodLoop, turn_at_none}
use Rattle.pv_call_copies.proofs.Paired.{IsCalledAt}
use Rattle.pv_call_copies.proofs.Chains.{Chain, body_of, index_of, AreZero, IsChain, known}
use Rattle.pv_call_copies.proofs.Counted.{count_after, after_is, after_none, after_same, after_alike, IsOwnCount, IsInner, IsOuter, IsCounted, of_own, of_inner, of_outer, called_there, called_holds_none, called_turns, called_turns_other, good_of, IsEven, outer_even}

-- ---- counts of 0

-- a turn edge ends in its loop
turn_ends : (loop : Loop) (e : ℕ) (edge : Edge) → loop.first ≤ loop.last → turns_well loop e edge ≡ true → holds loop edge.to ≡ false
    → is_turn loop e ≡ false
turn_ends loop e edge range well out = by (is_turn loop e) refl
  where
    led : (entry : Bool) → cond entry (holds loop edge.from && (edge.to == loop.first)) ((edge.from == loop.first) && holds loop edge.to)
        ≡ true → ⊥
    led true h = true≢false (sym (subst (λ (m : ℕ). holds loop m ≡ true) (sym (eqb-true edge.to loop.first
        (and_parts (holds loop edge.from) (edge.to == loop.first) h).1)) (of_held loop loop.first (omega arith) range)) ∙ out)
    led false h = true≢false (sym (and_parts (edge.from == loop.first) (holds loop edge.to) h).1 ∙ out)

    by : (b : Bool) → is_turn loop e ≡ b → b ≡ false
    by true on = absurd (led loop.entry_turn (subst (λ (b : Bool). cond b
        (cond loop.entry_turn (holds loop edge.from && (edge.to == loop.first)) ((edge.from == loop.first) && holds loop edge.to))
        (loop.entry_turn || not ((edge.from == loop.first) && holds loop edge.to)) ≡ true) on well))
    by false off = refl

-- after an own edge
pub zero_on : (blocks : Blocks) (body : Body) → IsSound body.work.parts → (l e : ℕ) (edge : Edge) (counts : Counts)
    → slice_get body.work.parts.edges e ≡ Some edge
    → AreZero body.work.parts edge.to (turned body.work.parts.loops e (moved body.work.parts.loops l edge.to counts))
zero_on blocks body s l e edge counts there = λ j loop at out.
    after_is body.work.parts.loops j l edge.to e counts loop at
    ∙ after_none loop l edge.to e (counts j) out (turn_ends loop e edge (good j loop at).own.is.range
    (subst (λ (o : Option Edge). IfSome o (λ x. turns_well loop e x ≡ true)) there ((good j loop at).own.is.turns e)) out)
  where
    good : (j : ℕ) (loop : Loop) → slice_get body.work.parts.loops j ≡ Some loop → IsGoodLoop blocks body loop
    good j loop at = good_of blocks body s j loop at

pub zero_first : (p : Parts) → AreZero p 0 (entered p.loops 0)
zero_first p = λ j loop at out. ap (λ (o : Option Loop). kept_in o (λ (x : Loop). false) 0 0) at
    ∙ ap (λ (b : Bool). kept b false 0 (entry_count loop)) out

pub zero_back : (p : Parts) (l to : ℕ) (counts : Counts) → AreZero p to (moved p.loops l to counts)
zero_back p l to counts = λ j loop at out. ap (λ (o : Option Loop). kept_in o (λ (x : Loop). holds x l) to (counts j)) at
    ∙ ap (λ (b : Bool). kept b (holds loop l) (counts j) (entry_count loop)) out

-- ---- locations and edges of a copy

pub in_low : (blocks : Blocks) (body : Body) (l : ℕ) → body.start ≤ number_in blocks body l
in_low blocks body l = least body.start (before (span blocks) body.work.parts l)
  where
    least : (s b : ℕ) → s ≤ s + b
    least s b = omega arith

-- an edge of location l is one of the copy
edge_low : (blocks : Blocks) (body : Body) (i l f : ℕ) → i + drawn_before blocks body l ≤ f → i ≤ f
edge_low blocks body i l f le = least (drawn_before blocks body l) le
  where
    least : (a : ℕ) → i + a ≤ f → i ≤ f
    least a h = omega (arith, h)

edge_high : (blocks : Blocks) (body : Body) (i l f : ℕ) → l < body.work.parts.locations → f < i + drawn_before blocks body (suc l)
    → f < i + drawn_before blocks body body.work.parts.locations
edge_high blocks body i l f lt small = most (drawn_before blocks body (suc l)) (drawn_before blocks body body.work.parts.locations) small
    (before_grows blocks body (suc l) body.work.parts.locations (up lt))
  where
    up : l < body.work.parts.locations → suc l ≤ body.work.parts.locations
    up h = omega (arith, h)

    most : (a b : ℕ) → f < i + a → a ≤ b → f < i + b
    most a b h g = omega (arith, h, g)

-- ---- an own edge

-- the copy goes from location l to another by its edge e, which is edge f of the whole
pub record IsOwnStep (blocks : Blocks) (body : Body) (i l to e f : ℕ) : Type 0 where
  pub from_open : IsOpen (end_at body.work.parts l)
  pub exists : l < body.work.parts.locations
  pub reaches : to < body.work.parts.locations
  pub no_call : call_from l 0 body.work.parts.calls ≡ None
  pub low : i + drawn_before blocks body l ≤ f
  pub high : f < i + drawn_before blocks body (suc l)
  pub turn : (loop : Loop) → IsGoodLoop blocks body loop → is_turn (drawn_loop blocks body i loop) f ≡ is_turn loop e

-- no turn of a loop of what is called
pub inner_no_turn : (blocks : Blocks) → AreFitting blocks → AreSound blocks → (body : Body) (i l to e f : ℕ)
    → IsOwnStep blocks body i l to e f
    → (x : Loop) (v : ℕ) → IsInner blocks body i x v → is_turn x f ≡ false
inner_no_turn blocks fit sound body i l to e f step x v g = called_turns_other blocks body i g.location l f x there apart step.low step.high
  where
    there : IsCalledAt blocks body i g.location x
    there = called_there blocks fit sound body i x v g

    apart : g.location ≡ l → ⊥
    apart same = none-some there.c (sym step.no_call ∙ (ap (λ (n : ℕ). call_from n 0 body.work.parts.calls) (sym same) ∙ there.call))

-- nor of a caller's loop
pub even_no_turn : (blocks : Blocks) (body : Body) (i l to e f : ℕ) → IsOwnStep blocks body i l to e f → (x : Loop) (v : ℕ)
    → IsEven blocks body i x v → is_turn x f ≡ false
even_no_turn blocks body i l to e f step x v even =
    even.turns f (edge_low blocks body i l f step.low) (edge_high blocks body i l f step.exists step.high)

pub counted_on : (blocks : Blocks) → AreFitting blocks → AreSound blocks → (b : ℕ) (p : Parts) (chain : Chain) → IsChain blocks b p chain
    → (l to e f : ℕ) → IsOwnStep blocks (body_of blocks p chain) (index_of blocks p chain) l to e f
    → IsOpen (end_at (body_of blocks p chain).work.parts to) → (counts : Counts) (x : Loop) (v : ℕ) → IsCounted blocks p chain counts x v
    → IsCounted blocks p chain
    (turned (body_of blocks p chain).work.parts.loops e (moved (body_of blocks p chain).work.parts.loops l to counts)) x
    (count_after x (number_in blocks (body_of blocks p chain) l) (number_in blocks (body_of blocks p chain) to) f v)
counted_on blocks fit sound b p chain is l to e f step to_open counts x v h = by h
  where
    body : Body
    body = body_of blocks p chain

    i : ℕ
    i = index_of blocks p chain

    q : Parts
    q = body.work.parts

    m : ℕ
    m = number_in blocks body l

    k : ℕ
    k = number_in blocks body to

    new : Counts
    new = turned q.loops e (moved q.loops l to counts)

    its : IsOwnCount blocks body i counts x v → IsOwnCount blocks body i new x (count_after x m k f v)
    its g = record {
      copied = g.copied;
      count = after_is q.loops g.copied.number l to e counts loop g.copied.at
          ∙ after_alike loop x l to e m k f v (counts g.copied.number)
          (subst (λ (y : Loop). holds y m ≡ holds loop l) g.copied.is (alike_at blocks body i loop good.own l step.from_open).held)
          (subst (λ (y : Loop). holds y k ≡ holds loop to) g.copied.is (alike_at blocks body i loop good.own to to_open).held)
          (subst (λ (y : Loop). entry_count y ≡ entry_count loop) g.copied.is refl)
          (subst (λ (y : Loop). is_turn y f ≡ is_turn loop e) g.copied.is (step.turn loop good)) g.count;
    }
      where
        loop : Loop
        loop = g.copied.loop

        good : IsGoodLoop blocks body loop
        good = good_of blocks body (known blocks sound b p chain is) g.copied.number loop g.copied.at

    inside : IsInner blocks body i x v → IsInner blocks body i x (count_after x m k f v)
    inside g = record {
      location = g.location;
      exists = g.exists;
      there = g.there;
      none = after_none x m k f v (called_holds_none blocks body i g.location to x (called_there blocks fit sound body i x v g))
          (inner_no_turn blocks fit sound body i l to e f step x v g);
    }

    by : IsCounted blocks p chain counts x v → IsCounted blocks p chain new x (count_after x m k f v)
    by (of_own g) = of_own (its g)
    by (of_inner g) = of_inner (inside g)
    by (of_outer g) = of_outer (subst (λ (n : ℕ). IsOuter blocks p chain x n) (sym (after_same x m k f v even.held
        (even.holds_it m (in_low blocks body l) (less_in blocks body l q.locations step.from_open step.exists))
        (even.holds_it k (in_low blocks body to) (less_in blocks body to q.locations to_open step.reaches)) even.none
        (even_no_turn blocks body i l to e f step x v even))) g)
      where
        even : IsEven blocks body i x v
        even = outer_even blocks fit sound b p chain is x v g

-- ---- edges that are no own ones

-- an edge of location l, where no own one begins; where a call edge does, it is the edge in
pub record IsOtherStep (blocks : Blocks) (body : Body) (i l f : ℕ) : Type 0 where
  pub exists : l < body.work.parts.locations
  pub is : f ≡ i + drawn_before blocks body l
  pub some : 0 < length (drawn_at blocks body l)
  pub no_own : IsOwn body.work.parts l → ⊥

other_low : (blocks : Blocks) (body : Body) (i l f : ℕ) → IsOtherStep blocks body i l f → i + drawn_before blocks body l ≤ f
other_low blocks body i l f step = same f (i + drawn_before blocks body l) step.is
  where
    same : (a n : ℕ) → a ≡ n → n ≤ a
    same a n g = omega (arith, g)

other_high : (blocks : Blocks) (body : Body) (i l f : ℕ) → IsOtherStep blocks body i l f → f < i + drawn_before blocks body (suc l)
other_high blocks body i l f step = small (drawn_before blocks body l) (drawn_before blocks body (suc l)) (length (drawn_at blocks body l))
    (next_before blocks body l) step.some step.is
  where
    small : (a d w : ℕ) → d ≡ a + w → 0 < w → f ≡ i + a → f < i + d
    small a d w g t r = omega (arith, g, t, r)

-- a location is the one or it isn't
pub data IsSame (l m : ℕ) : Type 0 where
  same : l ≡ m → IsSame l m
  other : (l ≡ m → ⊥) → IsSame l m

pub is_same : (l m : ℕ) → IsSame l m
is_same l m = by (cases_lt l m) (cases_lt m l)
  where
    below : l < m → l ≡ m → ⊥
    below a d = omega (arith, a, d)

    above : m < l → l ≡ m → ⊥
    above a d = omega (arith, a, d)

    by : (l < m) ⊎ (m ≤ l) → (m < l) ⊎ (l ≤ m) → IsSame l m
    by (inl lt) side = other (below lt)
    by (inr ge) (inl lt) = other (above lt)
    by (inr ge) (inr le) = same (omega (arith, ge, le))

-- it is a turn of no loop
pub no_turn : (blocks : Blocks) → AreFitting blocks → AreSound blocks → (b : ℕ) (p : Parts) (chain : Chain) → IsChain blocks b p chain
    → (l f : ℕ) → IsOtherStep blocks (body_of blocks p chain) (index_of blocks p chain) l f → (counts : Counts) (x : Loop) (v : ℕ)
    → IsCounted blocks p chain counts x v → is_turn x f ≡ false
no_turn blocks fit sound b p chain is l f step counts x v (of_own g) =
    subst (λ (y : Loop). is_turn y f ≡ false) g.copied.is (turn_at_none blocks body s (index_of blocks p chain) f l 0 g.copied.loop
    (good_of blocks body s g.copied.number g.copied.loop g.copied.at) step.some
    (step.is ∙ ap (λ (n : ℕ). index_of blocks p chain + n) (plain (drawn_before blocks body l))) step.no_own)
  where
    body : Body
    body = body_of blocks p chain

    s : IsSound body.work.parts
    s = known blocks sound b p chain is

    plain : (a : ℕ) → a ≡ a + 0
    plain a = omega arith
no_turn blocks fit sound b p chain is l f step counts x v (of_inner g) = by (is_same g.location l)
  where
    body : Body
    body = body_of blocks p chain

    i : ℕ
    i = index_of blocks p chain

    there : IsCalledAt blocks body i g.location x
    there = called_there blocks fit sound body i x v g

    le : f ≡ i + drawn_before blocks body l → f ≤ i + drawn_before blocks body l
    le e = same_le f (i + drawn_before blocks body l) e
      where
        same_le : (a n : ℕ) → a ≡ n → a ≤ n
        same_le a n h = omega (arith, h)

    by : IsSame g.location l → is_turn x f ≡ false
    by (same e) = called_turns blocks body i g.location f x there (inl
        (subst (λ (n : ℕ). f ≤ i + drawn_before blocks body n) (sym e) (le step.is)))
    by (other apart) = called_turns_other blocks body i g.location l f x there apart (other_low blocks body i l f step)
        (other_high blocks body i l f step)
no_turn blocks fit sound b p chain is l f step counts x v (of_outer g) =
    (outer_even blocks fit sound b p chain is x v g).turns f
    (edge_low blocks (body_of blocks p chain) (index_of blocks p chain) l f
    (other_low blocks (body_of blocks p chain) (index_of blocks p chain) l f step))
    (edge_high blocks (body_of blocks p chain) (index_of blocks p chain) l f step.exists
    (other_high blocks (body_of blocks p chain) (index_of blocks p chain) l f step))
