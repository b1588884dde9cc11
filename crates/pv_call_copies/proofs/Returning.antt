-- Counts of the whole's loops are those of the copies at work after the edge out of a called block: its loops are what is called at a
-- location again, and the caller's own go on from there.
use Rattle.std.proofs.Common.{◌≡◌, ℕ, suc, ◌+◌, ◌<◌, ◌≤◌, inl, inr, List, Bool, false, cond, Option, Some, refl, sym, subst, ap, ◌∙◌, arith}
use Rattle.pv_flow.specs.Automata.{Loop, Parts, holds, is_turn}
use Rattle.pv_flow.specs.Runs.{done, end_at, Counts, entry_count, kept, kept_in, moved}
use Rattle.pv_flow.specs.Calls.{Blocks, Numbered}
use Rattle.pv_flow.specs.Fitting.{AreFitting, IsSound, AreSound}
use Rattle.pv_call_copies.specs.Inlined.{Body, number_in, callee_body, drawn_before, laid_below, laid}
use Rattle.pv_call_copies.proofs.Placed.{end_of_body, IsCallIn, IsOpen}
use Rattle.pv_call_copies.proofs.Aims.{less_in}
use Rattle.pv_call_copies.proofs.Holding.{alike_at, behind_at}
use Rattle.pv_call_copies.proofs.LoopEdges.{IsGoodLoop}
use Rattle.pv_call_copies.proofs.Among.{IsIn, of_get, laid_at, own_among, called_among}
use Rattle.pv_call_copies.proofs.Chains.{Chain, called, body_of, index_of, IsChain, known, IsNested, nested, called_loops}
use Rattle.pv_call_copies.proofs.Counted.{count_after, after_none, after_same, IsOwnCount, IsInner, IsBeside, IsOuter, IsCounted, of_own, of_inner, of_outer, called_there, called_holds_none, good_of, IsEven, outer_even}
use Rattle.pv_call_copies.proofs.Moves.{in_low}

-- ---- the edge out of it

pub counted_out : (blocks : Blocks) → AreFitting blocks → AreSound blocks
    → (b : ℕ) (p : Parts) (chain : Chain) (l : ℕ) (c : Numbered) (q : Parts)
    (counts : Counts) → IsChain blocks b p (called chain l c q counts) → (r f to : ℕ) (others : Counts) → end_at q r ≡ Some done
    → r < q.locations
    → IsOpen (end_at (body_of blocks p chain).work.parts to) → to < (body_of blocks p chain).work.parts.locations
    → (x : Loop) (v : ℕ) → is_turn x f ≡ false → IsCounted blocks p (called chain l c q counts) others x v
    → IsCounted blocks p chain (moved (body_of blocks p chain).work.parts.loops l to counts) x
    (count_after x (number_in blocks (callee_body blocks (body_of blocks p chain) l c q) r)
    (number_in blocks (body_of blocks p chain) to) f v)
counted_out blocks fit sound b p chain l c q counts is r f to others is_done exists to_open reaches x v turn h = by h
  where
    body : Body
    body = body_of blocks p chain

    s : IsSound body.work.parts
    s = known blocks sound b p chain is.1

    i : ℕ
    i = index_of blocks p chain

    callee : Body
    callee = callee_body blocks body l c q

    index : ℕ
    index = suc (i + drawn_before blocks body l)

    m : ℕ
    m = number_in blocks callee r

    k : ℕ
    k = number_in blocks body to

    after : ℕ
    after = count_after x m k f v

    call_in : IsCallIn blocks body l c q
    call_in = (is.0).call

    in_it : IsNested blocks body callee i l
    in_it = nested blocks fit body i l c q call_in

    known_callee : IsSound q
    known_callee = known blocks sound b p (called chain l c q counts) is

    from_open : IsOpen (end_at q r)
    from_open = subst IsOpen (sym is_done) tt

    m_low : callee.start ≤ m
    m_low = in_low blocks callee r

    m_below : m < end_of_body blocks callee
    m_below = less_in blocks callee r q.locations from_open exists

    -- of the called block, which is left
    left : IsIn x (laid_at blocks body i l) → IsInner blocks body i x after
    left there = record {
      location = l;
      exists = call_in.exists;
      there = there;
      none = after_none x m k f v (called_holds_none blocks body i l to x
          (called_there blocks fit sound body i x 0 (record { location = l; exists = call_in.exists; there = there; none = refl }))) turn;
    }

    up_to : IsIn x (laid_below blocks (laid blocks) callee index q.locations) → IsIn x (laid_at blocks body i l)
    up_to there = subst (λ (loops : List Loop). IsIn x loops) (sym (called_loops blocks fit body i l c q call_in)) there

    leaving : IsOwnCount blocks callee index others x v → IsInner blocks body i x after
    leaving g = left (up_to (subst (λ (y : Loop). IsIn y (laid_below blocks (laid blocks) callee index q.locations)) g.copied.is
        (own_among blocks callee index loop (of_get g.copied.number loop q.loops g.copied.at)
        (below loop.first loop.last q.locations good.own.is.range good.own.last))))
      where
        loop : Loop
        loop = g.copied.loop

        good : IsGoodLoop blocks callee loop
        good = good_of blocks callee known_callee g.copied.number loop g.copied.at

        below : (a d n : ℕ) → a ≤ d → d < n → a < n
        below a d n t j = omega (arith, t, j)

    deeper : IsInner blocks callee index x v → IsInner blocks body i x after
    deeper g = left (up_to (called_among blocks callee index g.location x g.exists g.there))

    -- the caller's own
    its : IsOwnCount blocks body i counts x v → IsOwnCount blocks body i (moved body.work.parts.loops l to counts) x after
    its g = record { copied = g.copied; count = count }
      where
        loop : Loop
        loop = g.copied.loop

        good : IsGoodLoop blocks body loop
        good = good_of blocks body s g.copied.number loop g.copied.at

        from : holds x m ≡ holds loop l
        from = subst (λ (y : Loop). holds y m ≡ holds loop l) g.copied.is (behind_at blocks body i loop good.own l m
            (low (number_in blocks body l) m m_low) (subst (λ (n : ℕ). m < n) in_it.high m_below)).held
          where
            low : (a n : ℕ) → suc a ≤ n → a < n
            low a n t = omega (arith, t)

        there : holds x k ≡ holds loop to
        there = subst (λ (y : Loop). holds y k ≡ holds loop to) g.copied.is (alike_at blocks body i loop good.own to to_open).held

        plain : (a : ℕ) → a + 0 ≡ a
        plain a = omega arith

        count : moved body.work.parts.loops l to counts g.copied.number ≡ after
        count = ap (λ (o : Option Loop). kept_in o (λ (y : Loop). holds y l) to (counts g.copied.number)) g.copied.at
            ∙ sym (ap (λ (d : Bool). kept (holds x k) (holds x m) v (entry_count x) + cond d 1 0) turn
            ∙ (plain (kept (holds x k) (holds x m) v (entry_count x))
            ∙ (ap (λ (d : Bool). kept d (holds x m) v (entry_count x)) there
            ∙ (ap (λ (d : Bool). kept (holds loop to) d v (entry_count x)) from
            ∙ (ap (λ (n : ℕ). kept (holds loop to) (holds loop l) v n)
            (subst (λ (y : Loop). entry_count y ≡ entry_count loop) g.copied.is refl)
            ∙ ap (λ (n : ℕ). kept (holds loop to) (holds loop l) n (entry_count loop)) (sym g.count))))))

    beside : IsBeside blocks body i l x v → IsInner blocks body i x after
    beside g = record {
      location = g.inner.location;
      exists = g.inner.exists;
      there = g.inner.there;
      none = after_none x m k f v (called_holds_none blocks body i g.inner.location to x
          (called_there blocks fit sound body i x v g.inner)) turn;
    }

    outside : IsOuter blocks p (called chain l c q counts) x v
        → IsCounted blocks p chain (moved body.work.parts.loops l to counts) x after
    outside (inl g) = of_own (its g)
    outside (inr (inl g)) = of_inner (beside g)
    outside (inr (inr g)) = of_outer (subst (λ (n : ℕ). IsOuter blocks p chain x n) (sym (after_same x m k f v even.held
        (even.holds_it m (low body.start callee.start m in_it.first m_low)
        (high m (end_of_body blocks callee) (end_of_body blocks body) m_below in_it.last))
        (even.holds_it k (in_low blocks body to) (less_in blocks body to body.work.parts.locations to_open reaches)) even.none turn)) g)
      where
        even : IsEven blocks body i x v
        even = outer_even blocks fit sound b p chain is.1 x v g

        low : (a d n : ℕ) → a ≤ d → d ≤ n → a ≤ n
        low a d n t j = omega (arith, t, j)

        high : (n a d : ℕ) → n < a → a ≤ d → n < d
        high n a d t j = omega (arith, t, j)

    by : IsCounted blocks p (called chain l c q counts) others x v
        → IsCounted blocks p chain (moved body.work.parts.loops l to counts) x after
    by (of_own g) = of_inner (leaving g)
    by (of_inner g) = of_inner (deeper g)
    by (of_outer g) = outside g
