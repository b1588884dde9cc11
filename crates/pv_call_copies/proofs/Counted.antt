-- Counts of the whole's loops, by those of the copies at work: an own loop's copy has its loop's count, a caller's the one with which that
-- caller waits, and any other loop, which holds neither, has 0. So it is kept along each edge.
use Rattle.std.proofs.Common.{◌≡◌, ℕ, suc, ◌+◌, ◌-◌, ◌<◌, ◌≤◌, ◌⊎◌, inl, inr, List, length, slice_get, Bool, true, false, cond, Option, Some, refl, sym, subst, ap, ◌∙◌, arith}
use Rattle.std.proofs.lemmas.Bool.{cases_lt}
use Rattle.std.proofs.lemmas.Option.{none-some}
use Rattle.pv_flow.specs.Automata.{Loop, Parts, holds, is_turn}
use Rattle.pv_flow.specs.Runs.{Counts, entry_count, kept, kept_in, moved, turn_in, turned}
use Rattle.pv_flow.specs.Calls.{Blocks, Numbered}
use Rattle.pv_flow.specs.Fitting.{AreFitting, IsSound, AreSound}
use Rattle.pv_call_copies.specs.Inlined.{Body, number_in, callee_body, drawn_before, drawn_loop}
use Rattle.pv_call_copies.proofs.Placed.{end_of_body, IsCallIn}
use Rattle.pv_call_copies.proofs.Aims.{rises_in}
use Rattle.pv_call_copies.proofs.Turns.{drawn_at, next_before, before_grows}
use Rattle.pv_call_copies.proofs.Holding.{is_false, held_of, IsHeld, behind_at}
use Rattle.pv_call_copies.proofs.LoopEdges.{IsGoodLoop, turn_at_none}
use Rattle.pv_call_copies.proofs.Laid.{good_loops}
use Rattle.pv_call_copies.proofs.Pairs.{none_in}
use Rattle.pv_call_copies.proofs.Paired.{IsCalledAt, called_part, copies_pairs}
use Rattle.pv_call_copies.proofs.Among.{IsIn, of_all, of_get, IsCopied, laid_at}
use Rattle.pv_call_copies.proofs.Chains.{Chain, alone, called, body_of, index_of, IsCalling, IsChain, known, IsNested, nested}

-- ---- along an edge

-- the count of a loop after edge f from number m to number k
abbrev pub count_after : Loop → ℕ → ℕ → ℕ → ℕ → ℕ
count_after x m k f v = kept (holds x k) (holds x m) v (entry_count x) + turn_in (Some x) f

pub after_is : (loops : List Loop) (i m k f : ℕ) (counts : Counts) (x : Loop) → slice_get loops i ≡ Some x
    → turned loops f (moved loops m k counts) i ≡ count_after x m k f (counts i)
after_is loops i m k f counts x at = ap (λ (o : Option Loop). kept_in o (λ (loop : Loop). holds loop m) k (counts i) + turn_in o f) at

-- one that holds neither end and has no turn there
pub after_none : (x : Loop) (m k f v : ℕ) → holds x k ≡ false → is_turn x f ≡ false → count_after x m k f v ≡ 0
after_none x m k f v out turn =
    ap (λ (b : Bool). kept b (holds x m) v (entry_count x) + turn_in (Some x) f) out ∙ ap (λ (b : Bool). 0 + cond b 1 0) turn

-- one that holds both ends or neither, and has no turn there, keeps its count, where what it doesn't hold has none
pub after_same : (x : Loop) (m k f v : ℕ) (held : Bool) → holds x m ≡ held → holds x k ≡ held → (held ≡ false → v ≡ 0) → is_turn x f ≡ false
    → count_after x m k f v ≡ v
after_same x m k f v held from to none turn =
    ap (λ (b : Bool). kept (holds x k) (holds x m) v (entry_count x) + cond b 1 0) turn
    ∙ (ap (λ (b : Bool). kept b (holds x m) v (entry_count x) + 0) to
    ∙ (ap (λ (b : Bool). kept held b v (entry_count x) + 0) from ∙ by held none))
  where
    plain : (n : ℕ) → n + 0 ≡ n
    plain n = omega arith

    nothing : v ≡ 0 → 0 + 0 ≡ v
    nothing e = omega (arith, e)

    by : (b : Bool) → (b ≡ false → v ≡ 0) → kept b b v (entry_count x) + 0 ≡ v
    by true h = plain v
    by false h = nothing (h refl)

-- the copy of a loop is at two numbers as the loop is at two locations, and has the turn that it has
pub after_alike : (loop x : Loop) (l to e m k f v w : ℕ) → holds x m ≡ holds loop l → holds x k ≡ holds loop to → entry_count x
    ≡ entry_count loop
    → is_turn x f ≡ is_turn loop e → w ≡ v → count_after loop l to e w ≡ count_after x m k f v
after_alike loop x l to e m k f v w from there entry turn same = sym (
    ap (λ (b : Bool). kept b (holds x m) v (entry_count x) + turn_in (Some x) f) there
    ∙ (ap (λ (b : Bool). kept (holds loop to) b v (entry_count x) + turn_in (Some x) f) from
    ∙ (ap (λ (n : ℕ). kept (holds loop to) (holds loop l) v n + turn_in (Some x) f) entry
    ∙ (ap (λ (b : Bool). kept (holds loop to) (holds loop l) v (entry_count loop) + cond b 1 0) turn
    ∙ ap (λ (n : ℕ). kept (holds loop to) (holds loop l) n (entry_count loop) + turn_in (Some loop) e) (sym same)))))

-- ---- counts

-- of the copy of an own loop
pub record IsOwnCount (blocks : Blocks) (body : Body) (i : ℕ) (counts : Counts) (x : Loop) (v : ℕ) : Type 0 where
  pub copied : IsCopied blocks body i x
  pub count : counts copied.number ≡ v

-- of a loop of what is called at a location
pub record IsInner (blocks : Blocks) (body : Body) (i : ℕ) (x : Loop) (v : ℕ) : Type 0 where
  pub location : ℕ
  pub exists : location < body.work.parts.locations
  pub there : IsIn x (laid_at blocks body i location)
  pub none : v ≡ 0

-- at another location than that of the call
pub record IsBeside (blocks : Blocks) (body : Body) (i l : ℕ) (x : Loop) (v : ℕ) : Type 0 where
  pub inner : IsInner blocks body i x v
  pub apart : inner.location ≡ l → ⊥

-- of a loop that isn't the innermost copy's
abbrev pub IsOuter : Blocks → Parts → Chain → Loop → ℕ → Type 0
IsOuter blocks p alone x v = ⊥
IsOuter blocks p (called outer l c q counts) x v =
    IsOwnCount blocks (body_of blocks p outer) (index_of blocks p outer) counts x v
    ⊎ (IsBeside blocks (body_of blocks p outer) (index_of blocks p outer) l x v ⊎ IsOuter blocks p outer x v)

pub data IsCounted (blocks : Blocks) (p : Parts) (chain : Chain) (counts : Counts) (x : Loop) (v : ℕ) : Type 0 where
  of_own : IsOwnCount blocks (body_of blocks p chain) (index_of blocks p chain) counts x v → IsCounted blocks p chain counts x v
  of_inner : IsInner blocks (body_of blocks p chain) (index_of blocks p chain) x v → IsCounted blocks p chain counts x v
  of_outer : IsOuter blocks p chain x v → IsCounted blocks p chain counts x v

-- of the whole's loops, whose counts are these
abbrev pub AreCounted : Blocks → Parts → Chain → Counts → List Loop → Counts → Type 0
AreCounted blocks p chain counts loops wholes = (i : ℕ) (x : Loop) → slice_get loops i ≡ Some x → IsCounted blocks p chain counts x
    (wholes i)

-- ---- loops of what is called at a location

pub called_there : (blocks : Blocks) → AreFitting blocks → AreSound blocks → (body : Body) (i : ℕ) (x : Loop) (v : ℕ)
    → (h : IsInner blocks body i x v)
    → IsCalledAt blocks body i h.location x
called_there blocks fit sound body i x v h = of_all (IsCalledAt blocks body i h.location) x (laid_at blocks body i h.location)
    (called_part blocks fit body i h.location (λ c any. copies_pairs blocks fit sound c)).each h.there

-- such a loop holds only what stands after the location, before the next
called_holds : (blocks : Blocks) (body : Body) (i l m : ℕ) (x : Loop) → IsCalledAt blocks body i l x
    → (m ≤ number_in blocks body l) ⊎ (number_in blocks body (suc l) ≤ m) → holds x m ≡ false
called_holds blocks body i l m x h side = is_false (holds x m) (λ held. by (held_of x m held) side)
  where
    low : (a : ℕ) → m ≤ a → suc a ≤ x.first → x.first ≤ m → ⊥
    low a f g k = omega (arith, f, g, k)

    high : (a : ℕ) → a ≤ m → x.last < a → m ≤ x.last → ⊥
    high a f g k = omega (arith, f, g, k)

    by : IsHeld x m → (m ≤ number_in blocks body l) ⊎ (number_in blocks body (suc l) ≤ m) → ⊥
    by held (inl le) = low (number_in blocks body l) le h.within.first held.from
    by held (inr ge) = high (number_in blocks body (suc l)) ge h.within.last held.to

-- no location of the copy itself
pub called_holds_none : (blocks : Blocks) (body : Body) (i l m : ℕ) (x : Loop) → IsCalledAt blocks body i l x
    → holds x (number_in blocks body m) ≡ false
called_holds_none blocks body i l m x h = called_holds blocks body i l (number_in blocks body m) x h (by (cases_lt l m))
  where
    up : l < m → suc l ≤ m
    up f = omega (arith, f)

    by : (l < m) ⊎ (m ≤ l) → (number_in blocks body m ≤ number_in blocks body l) ⊎ (number_in blocks body (suc l) ≤ number_in blocks body m)
    by (inl lt) = inr (rises_in blocks body (suc l) m (up lt))
    by (inr le) = inl (rises_in blocks body m l le)

-- and nothing of what is called elsewhere
pub called_holds_other : (blocks : Blocks) (body : Body) (i l other m : ℕ) (x : Loop) → IsCalledAt blocks body i l x → (l ≡ other → ⊥)
    → number_in blocks body other ≤ m → m < number_in blocks body (suc other) → holds x m ≡ false
called_holds_other blocks body i l other m x h apart low high = called_holds blocks body i l m x h
    (by (cases_lt l other) (cases_lt other l))
  where
    up : (a b : ℕ) → a < b → suc a ≤ b
    up a b f = omega (arith, f)

    above : (a b : ℕ) → a ≤ b → b ≤ m → a ≤ m
    above a b f g = omega (arith, f, g)

    under : (a b : ℕ) → m < a → a ≤ b → m ≤ b
    under a b f g = omega (arith, f, g)

    by : (l < other) ⊎ (other ≤ l) → (other < l) ⊎ (l ≤ other)
        → (m ≤ number_in blocks body l) ⊎ (number_in blocks body (suc l) ≤ m)
    by (inl lt) side = inr (above (number_in blocks body (suc l)) (number_in blocks body other)
        (rises_in blocks body (suc l) other (up l other lt)) low)
    by (inr ge) (inl lt) = inl (under (number_in blocks body (suc other)) (number_in blocks body l) high
        (rises_in blocks body (suc other) l (up other l lt)))
    by (inr ge) (inr le) = absurd (apart (omega (arith, ge, le)))

-- its turns are among the edges of what is called
pub called_turns : (blocks : Blocks) (body : Body) (i l f : ℕ) (x : Loop) → IsCalledAt blocks body i l x
    → (f ≤ i + drawn_before blocks body l) ⊎ (i + drawn_before blocks body (suc l) ≤ f) → is_turn x f ≡ false
called_turns blocks body i l f x h side =
    none_in (λ (t : ℕ). (suc (i + drawn_before blocks body l) ≤ t) × (t < i + drawn_before blocks body (suc l))) f x.turns h.within.turns
    (λ t within e. by t within e side)
  where
    low : (a t : ℕ) → f ≤ a → suc a ≤ t → t ≡ f → ⊥
    low a t g k e = omega (arith, g, k, e)

    high : (a t : ℕ) → a ≤ f → t < a → t ≡ f → ⊥
    high a t g k e = omega (arith, g, k, e)

    by : (t : ℕ) → (suc (i + drawn_before blocks body l) ≤ t) × (t < i + drawn_before blocks body (suc l)) → t ≡ f
        → (f ≤ i + drawn_before blocks body l) ⊎ (i + drawn_before blocks body (suc l) ≤ f) → ⊥
    by t within e (inl le) = low (i + drawn_before blocks body l) t le within.0 e
    by t within e (inr ge) = high (i + drawn_before blocks body (suc l)) t ge within.1 e

-- so none is an edge of another location
pub called_turns_other : (blocks : Blocks) (body : Body) (i l other f : ℕ) (x : Loop) → IsCalledAt blocks body i l x → (l ≡ other → ⊥)
    → i + drawn_before blocks body other ≤ f → f < i + drawn_before blocks body (suc other) → is_turn x f ≡ false
called_turns_other blocks body i l other f x h apart low high = called_turns blocks body i l f x h
    (by (cases_lt l other) (cases_lt other l))
  where
    up : (a b : ℕ) → a < b → suc a ≤ b
    up a b g = omega (arith, g)

    above : (a b : ℕ) → a ≤ b → i + b ≤ f → i + a ≤ f
    above a b g k = omega (arith, g, k)

    under : (a b : ℕ) → f < i + a → a ≤ b → f ≤ i + b
    under a b g k = omega (arith, g, k)

    by : (l < other) ⊎ (other ≤ l) → (other < l) ⊎ (l ≤ other)
        → (f ≤ i + drawn_before blocks body l) ⊎ (i + drawn_before blocks body (suc l) ≤ f)
    by (inl lt) side = inr (above (drawn_before blocks body (suc l)) (drawn_before blocks body other)
        (before_grows blocks body (suc l) other (up l other lt)) low)
    by (inr ge) (inl lt) = inl (under (drawn_before blocks body (suc other)) (drawn_before blocks body l) high
        (before_grows blocks body (suc other) l (up other l lt)))
    by (inr ge) (inr le) = absurd (apart (omega (arith, ge, le)))

-- ---- loops of callers

pub good_of : (blocks : Blocks) (body : Body) → IsSound body.work.parts → (j : ℕ) (loop : Loop) → slice_get body.work.parts.loops j
    ≡ Some loop
    → IsGoodLoop blocks body loop
good_of blocks body s j loop at = of_all (IsGoodLoop blocks body) loop body.work.parts.loops (good_loops blocks body s)
    (of_get j loop body.work.parts.loops at)

-- the loop holds all of the copy or nothing of it, and has no turn there
pub record IsEven (blocks : Blocks) (body : Body) (i : ℕ) (x : Loop) (v : ℕ) : Type 0 where
  pub held : Bool
  pub holds_it : (m : ℕ) → body.start ≤ m → m < end_of_body blocks body → holds x m ≡ held
  pub none : held ≡ false → v ≡ 0
  pub turns : (f : ℕ) → i ≤ f → f < i + drawn_before blocks body body.work.parts.locations → is_turn x f ≡ false

-- an own loop and what is called at a location
own_even : (blocks : Blocks) → AreFitting blocks → (body : Body) → IsSound body.work.parts
    → (i l : ℕ) (c : Numbered) (q : Parts) (counts : Counts)
    → IsCalling blocks body l c q counts → (j : ℕ) (loop : Loop) → slice_get body.work.parts.loops j ≡ Some loop → (v : ℕ) → counts j ≡ v
    → IsEven blocks (callee_body blocks body l c q) (suc (i + drawn_before blocks body l)) (drawn_loop blocks body i loop) v
own_even blocks fit body s i l c q counts h j loop at v count = record {
  held = holds loop l;
  holds_it = λ m low high. (behind_at blocks body i loop good.own l m (up (number_in blocks body l) m low)
      (subst (λ (n : ℕ). m < n) in_it.high high)).held;
  none = λ out. sym count ∙ h.zero j loop at out;
  turns = λ f low high. turn_at_none blocks body s i f l (f - (i + drawn_before blocks body l)) loop good
      (small f (drawn_before blocks body l) (drawn_before blocks body (suc l)) (length (drawn_at blocks body l))
      (next_before blocks body l) low
      (subst (λ (n : ℕ). f < n) in_it.edges high))
      (split f (drawn_before blocks body l) low)
      (λ is_own. none-some c (sym is_own.no_call ∙ h.call.call));
}
  where
    good : IsGoodLoop blocks body loop
    good = good_of blocks body s j loop at

    in_it : IsNested blocks body (callee_body blocks body l c q) i l
    in_it = nested blocks fit body i l c q h.call

    up : (a m : ℕ) → suc a ≤ m → a < m
    up a m f = omega (arith, f)

    small : (f a b w : ℕ) → b ≡ a + w → suc (i + a) ≤ f → f < i + b → f - (i + a) < w
    small f a b w e g k = omega (arith, e, g, k)

    split : (f a : ℕ) → suc (i + a) ≤ f → f ≡ i + (a + (f - (i + a)))
    split f a g = omega (arith, g)

-- what is called elsewhere
beside_even : (blocks : Blocks) → AreFitting blocks → AreSound blocks
    → (body : Body) (i l : ℕ) (c : Numbered) (q : Parts) (x : Loop) (v : ℕ)
    → IsCallIn blocks body l c q → IsBeside blocks body i l x v
    → IsEven blocks (callee_body blocks body l c q) (suc (i + drawn_before blocks body l)) x v
beside_even blocks fit sound body i l c q x v h beside = record {
  held = false;
  holds_it = λ m low high. called_holds_other blocks body i other l m x there beside.apart (weak (number_in blocks body l) m low)
      (subst (λ (n : ℕ). m < n) in_it.high high);
  none = λ out. beside.inner.none;
  turns = λ f low high. called_turns_other blocks body i other l f x there beside.apart (weak (i + drawn_before blocks body l) f low)
      (subst (λ (n : ℕ). f < n) in_it.edges high);
}
  where
    other : ℕ
    other = beside.inner.location

    there : IsCalledAt blocks body i other x
    there = called_there blocks fit sound body i x v beside.inner

    in_it : IsNested blocks body (callee_body blocks body l c q) i l
    in_it = nested blocks fit body i l c q h

    weak : (a m : ℕ) → suc a ≤ m → a ≤ m
    weak a m f = omega (arith, f)

-- what holds all of a copy or nothing, so of a copy in it
even_inside : (blocks : Blocks) → AreFitting blocks → (body : Body) (i l : ℕ) (c : Numbered) (q : Parts) (x : Loop) (v : ℕ)
    → IsCallIn blocks body l c q → IsEven blocks body i x v
    → IsEven blocks (callee_body blocks body l c q) (suc (i + drawn_before blocks body l)) x v
even_inside blocks fit body i l c q x v h even = record {
  held = even.held;
  holds_it = λ m low high. even.holds_it m (chain body.start callee.start m in_it.first low)
      (under m (end_of_body blocks callee) (end_of_body blocks body) high in_it.last);
  none = even.none;
  turns = λ f low high. even.turns f (after f (drawn_before blocks body l) low)
      (ahead f (drawn_before blocks body (suc l)) (drawn_before blocks body body.work.parts.locations)
      (subst (λ (n : ℕ). f < n) in_it.edges high) in_it.edges_last);
}
  where
    callee : Body
    callee = callee_body blocks body l c q

    in_it : IsNested blocks body callee i l
    in_it = nested blocks fit body i l c q h

    chain : (a d m : ℕ) → a ≤ d → d ≤ m → a ≤ m
    chain a d m f g = omega (arith, f, g)

    under : (m a d : ℕ) → m < a → a ≤ d → m < d
    under m a d f g = omega (arith, f, g)

    after : (f a : ℕ) → suc (i + a) ≤ f → i ≤ f
    after f a g = omega (arith, g)

    ahead : (f a d : ℕ) → f < i + a → i + a ≤ i + d → f < i + d
    ahead f a d g k = omega (arith, g, k)

pub outer_even : (blocks : Blocks) → AreFitting blocks → AreSound blocks → (b : ℕ) (p : Parts) (chain : Chain) → IsChain blocks b p chain
    → (x : Loop) (v : ℕ)
    → IsOuter blocks p chain x v → IsEven blocks (body_of blocks p chain) (index_of blocks p chain) x v
outer_even blocks fit sound b p alone is x v h = absurd h
outer_even blocks fit sound b p (called outers l c q counts) is x v (inl h) =
    subst (λ (y : Loop). IsEven blocks (callee_body blocks body l c q) (suc (i + drawn_before blocks body l)) y v) h.copied.is
    (own_even blocks fit body (known blocks sound b p outers is.1) i l c q counts is.0 h.copied.number h.copied.loop h.copied.at v h.count)
  where
    body : Body
    body = body_of blocks p outers

    i : ℕ
    i = index_of blocks p outers
outer_even blocks fit sound b p (called outers l c q counts) is x v (inr (inl h)) =
    beside_even blocks fit sound (body_of blocks p outers) (index_of blocks p outers) l c q x v (is.0).call h
outer_even blocks fit sound b p (called outers l c q counts) is x v (inr (inr h)) =
    even_inside blocks fit (body_of blocks p outers) (index_of blocks p outers) l c q x v (is.0).call
    (outer_even blocks fit sound b p outers is.1 x v h)
