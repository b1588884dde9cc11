-- Counts of the whole's loops are those of the copies at work where the entry begins, and after an edge into a called block: its caller's
-- own loops are from then on a caller's.
use Rattle.std.proofs.Common.{◌≡◌, ℕ, suc, ◌+◌, ◌<◌, ◌≤◌, inl, inr, List, slice_get, Bool, true, false, cond, Option, Some, refl, sym, subst, ap, ◌∙◌, arith}
use Rattle.pv_flow.specs.Automata.{Loop, Parts, holds, is_turn}
use Rattle.pv_flow.specs.Runs.{end_at, Counts, entry_count, kept, kept_in, entered}
use Rattle.pv_flow.specs.Calls.{Blocks, Numbered}
use Rattle.pv_flow.specs.Fitting.{AreFitting, IsSound, AreSound}
use Rattle.pv_call_copies.specs.Inlined.{Body, entry_body, number_in, callee_body, drawn_before, inlined}
use Rattle.pv_call_copies.proofs.Placed.{end_of_body, IsOpen}
use Rattle.pv_call_copies.proofs.Aims.{less_in, open_first, some_room}
use Rattle.pv_call_copies.proofs.Holding.{alike_at, behind_at}
use Rattle.pv_call_copies.proofs.LoopEdges.{IsGoodLoop}
use Rattle.pv_call_copies.proofs.Among.{IsIn, of_get, laid_at, Kind, is_own, is_called, kind_of}
use Rattle.pv_call_copies.proofs.Chains.{Chain, alone, called, body_of, index_of, IsCalling, IsChain, known, IsNested, nested, called_loops}
use Rattle.pv_call_copies.proofs.Counted.{count_after, after_none, after_same, IsOwnCount, IsInner, IsBeside, IsOuter, IsCounted, of_own, of_inner, of_outer, called_there, called_holds_none, called_holds_other, good_of, IsEven, outer_even}
use Rattle.pv_call_copies.proofs.Moves.{in_low, IsSame, same, other, is_same}

-- ---- where the entry begins

pub counted_first : (blocks : Blocks) → AreFitting blocks → AreSound blocks → (b : ℕ) (p : Parts) → IsChain blocks b p alone
    → (i : ℕ) (x : Loop)
    → slice_get (inlined blocks p).loops i ≡ Some x
    → IsCounted blocks p alone (entered p.loops 0) x (entered (inlined blocks p).loops 0 i)
counted_first blocks fit sound b p is i x at =
    subst (λ (n : ℕ). IsCounted blocks p alone (entered p.loops 0) x n) (sym value_is)
    (by (kind_of blocks body 0 p.locations x (of_get i x (inlined blocks p).loops at)))
  where
    body : Body
    body = entry_body p

    s : IsSound p
    s = known blocks sound b p alone is

    value : ℕ
    value = kept (holds x 0) false 0 (entry_count x)

    value_is : entered (inlined blocks p).loops 0 i ≡ value
    value_is = ap (λ (o : Option Loop). kept_in o (λ (y : Loop). false) 0 0) at

    by : Kind blocks body 0 p.locations x → IsCounted blocks p alone (entered p.loops 0) x value
    by (is_own copied) = of_own (record {
      copied = copied;
      count = ap (λ (o : Option Loop). kept_in o (λ (y : Loop). false) 0 0) copied.at
          ∙ sym (ap (λ (d : Bool). kept d false 0 (entry_count x)) (subst (λ (y : Loop). holds y 0 ≡ holds copied.loop 0) copied.is
          (alike_at blocks body 0 copied.loop good.own 0 (subst IsOpen (sym (open_first s)) tt)).held)
          ∙ ap (λ (n : ℕ). kept (holds copied.loop 0) false 0 n)
          (subst (λ (y : Loop). entry_count y ≡ entry_count copied.loop) copied.is refl));
    })
      where
        good : IsGoodLoop blocks body copied.loop
        good = good_of blocks body s copied.number copied.loop copied.at
    by (is_called l lt there) = of_inner (record {
      location = l;
      exists = lt;
      there = there;
      none = ap (λ (d : Bool). kept d false 0 (entry_count x)) (called_holds_none blocks body 0 l 0 x
          (called_there blocks fit sound body 0 x 0 (record { location = l; exists = lt; there = there; none = refl })));
    })

-- ---- the edge into a called block

kept_entering : (held : Bool) (v entry : ℕ) → kept held false 0 entry ≡ kept held false v entry + 0
kept_entering true v entry = omega arith
kept_entering false v entry = omega arith

pub counted_in : (blocks : Blocks) → AreFitting blocks → AreSound blocks → (b : ℕ) (p : Parts) (chain : Chain) → IsChain blocks b p chain
    → (l : ℕ) (c : Numbered) (q : Parts) (counts : Counts) → IsCalling blocks (body_of blocks p chain) l c q counts
    → (f : ℕ) (x : Loop) (v : ℕ) → is_turn x f ≡ false → IsCounted blocks p chain counts x v
    → IsCounted blocks p (called chain l c q counts) (entered q.loops 0) x
    (count_after x (number_in blocks (body_of blocks p chain) l)
    (number_in blocks (callee_body blocks (body_of blocks p chain) l c q) 0) f v)
counted_in blocks fit sound b p chain is l c q counts calling f x v turn h = by h
  where
    body : Body
    body = body_of blocks p chain

    s : IsSound body.work.parts
    s = known blocks sound b p chain is

    i : ℕ
    i = index_of blocks p chain

    callee : Body
    callee = callee_body blocks body l c q

    index : ℕ
    index = suc (i + drawn_before blocks body l)

    m : ℕ
    m = number_in blocks body l

    k : ℕ
    k = number_in blocks callee 0

    after : ℕ
    after = count_after x m k f v

    in_it : IsNested blocks body callee i l
    in_it = nested blocks fit body i l c q calling.call

    known_callee : IsSound q
    known_callee = known blocks sound b p (called chain l c q counts) (calling, is)

    first_open : IsOpen (end_at q 0)
    first_open = subst IsOpen (sym (open_first known_callee)) tt

    from_open : IsOpen (end_at body.work.parts l)
    from_open = subst IsOpen (sym calling.call.goes_on) tt

    k_is : k ≡ callee.start
    k_is = plain callee.start
      where
        plain : (a : ℕ) → a + 0 ≡ a
        plain a = omega arith

    k_low : m < k
    k_low = up (number_in blocks body l) k k_is
      where
        up : (a n : ℕ) → n ≡ suc a → a < n
        up a n g = omega (arith, g)

    k_below : k < end_of_body blocks callee
    k_below = subst (λ (n : ℕ). n < end_of_body blocks callee) (sym k_is) (some_room blocks sound callee c.call.block calling.call.there)

    k_high : k < number_in blocks body (suc l)
    k_high = subst (λ (n : ℕ). k < n) in_it.high k_below

    weak : (a n : ℕ) → a < n → a ≤ n
    weak a n g = omega (arith, g)

    -- a caller's own from now on
    its : IsOwnCount blocks body i counts x v → IsOwnCount blocks body i counts x after
    its g = record { copied = g.copied; count = g.count ∙ sym (after_same x m k f v (holds loop l) from there none turn) }
      where
        loop : Loop
        loop = g.copied.loop

        good : IsGoodLoop blocks body loop
        good = good_of blocks body s g.copied.number loop g.copied.at

        from : holds x m ≡ holds loop l
        from = subst (λ (y : Loop). holds y m ≡ holds loop l) g.copied.is (alike_at blocks body i loop good.own l from_open).held

        there : holds x k ≡ holds loop l
        there = subst (λ (y : Loop). holds y k ≡ holds loop l) g.copied.is (behind_at blocks body i loop good.own l k k_low k_high).held

        none : holds loop l ≡ false → v ≡ 0
        none out = sym g.count ∙ calling.zero g.copied.number loop g.copied.at out

    -- of what is called here
    entering : (g : IsInner blocks body i x v) → IsIn x (laid_at blocks body i l)
        → IsCounted blocks p (called chain l c q counts) (entered q.loops 0) x after
    entering g there = kinds (kind_of blocks callee index q.locations x
        (subst (λ (loops : List Loop). IsIn x loops) (called_loops blocks fit body i l c q calling.call) there))
      where
        out : holds x m ≡ false
        out = called_holds_none blocks body i g.location l x (called_there blocks fit sound body i x v g)

        kinds : Kind blocks callee index q.locations x → IsCounted blocks p (called chain l c q counts) (entered q.loops 0) x after
        kinds (is_own copied) = of_own (record { copied = copied; count = count })
          where
            loop : Loop
            loop = copied.loop

            good : IsGoodLoop blocks callee loop
            good = good_of blocks callee known_callee copied.number loop copied.at

            held : holds x k ≡ holds loop 0
            held = subst (λ (y : Loop). holds y k ≡ holds loop 0) copied.is (alike_at blocks callee index loop good.own 0 first_open).held

            count : entered q.loops 0 copied.number ≡ after
            count = ap (λ (o : Option Loop). kept_in o (λ (y : Loop). false) 0 0) copied.at
                ∙ (kept_entering (holds loop 0) v (entry_count loop)
                ∙ sym (ap (λ (d : Bool). kept (holds x k) (holds x m) v (entry_count x) + cond d 1 0) turn
                ∙ (ap (λ (d : Bool). kept (holds x k) d v (entry_count x) + 0) out
                ∙ (ap (λ (d : Bool). kept d false v (entry_count x) + 0) held
                ∙ ap (λ (n : ℕ). kept (holds loop 0) false v n + 0)
                (subst (λ (y : Loop). entry_count y ≡ entry_count loop) copied.is refl)))))
        kinds (is_called further lt inside) = of_inner (record {
          location = further;
          exists = lt;
          there = inside;
          none = after_none x m k f v (called_holds_none blocks callee index further 0 x
              (called_there blocks fit sound callee index x 0
              (record { location = further; exists = lt; there = inside; none = refl }))) turn;
        })

    elsewhere : (g : IsInner blocks body i x v) → (g.location ≡ l → ⊥) → IsBeside blocks body i l x after
    elsewhere g apart = record {
      inner = record {
        location = g.location;
        exists = g.exists;
        there = g.there;
        none = after_none x m k f v (called_holds_other blocks body i g.location l k x (called_there blocks fit sound body i x v g) apart
            (weak m k k_low) k_high) turn;
      };
      apart = apart;
    }

    inside : (g : IsInner blocks body i x v) → IsSame g.location l
        → IsCounted blocks p (called chain l c q counts) (entered q.loops 0) x after
    inside g (same e) = entering g (subst (λ (n : ℕ). IsIn x (laid_at blocks body i n)) e g.there)
    inside g (other apart) = of_outer (inr (inl (elsewhere g apart)))

    by : IsCounted blocks p chain counts x v → IsCounted blocks p (called chain l c q counts) (entered q.loops 0) x after
    by (of_own g) = of_outer (inl (its g))
    by (of_inner g) = inside g (is_same g.location l)
    by (of_outer g) = of_outer (inr (inr (subst (λ (n : ℕ). IsOuter blocks p chain x n) (sym (after_same x m k f v even.held
        (even.holds_it m (in_low blocks body l) (less_in blocks body l body.work.parts.locations from_open calling.call.exists))
        (even.holds_it k (low body.start callee.start k in_it.first k_is)
        (high k (end_of_body blocks callee) (end_of_body blocks body) k_below in_it.last))
        even.none turn)) g)))
      where
        even : IsEven blocks body i x v
        even = outer_even blocks fit sound b p chain is x v g

        low : (a d n : ℕ) → a ≤ d → n ≡ d → a ≤ n
        low a d n t r = omega (arith, t, r)

        high : (n a d : ℕ) → n < a → a ≤ d → n < d
        high n a d t r = omega (arith, t, r)
