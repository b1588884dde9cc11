-- A run goes on to a copy of a location behind the one where it is: how counts of turns change along an edge or a call edge, loop by
-- loop, and what that makes of the copies.
use Rattle.std.proofs.Common.{◌≡◌, ℕ, zero, suc, ◌+◌, ◌-◌, ◌<◌, ◌≤◌, ◌⊎◌, inl, inr, List, [], ◌∷◌, length, slice_get, Bool, true, false, not, ◌&&◌, ◌||◌, ◌==◌, nat_lt, nat_le, cond, Option, Some, None, IfSome, refl, sym, subst, ap, ◌∙◌, arith}
use Rattle.std.specs.List.{AllByRecursion, list_all}
use Rattle.std.proofs.lemmas.Bool.{false≢true, both_ways, cases_lt, and_parts, and_from, and_left, and_right, or_cases, not-true, not_from_false, not_from_true, eqb-true, eq-eqb, ne_eqb, ltb-true, ltb-false, cond-true, cond-false, cases_Bool, le-leb, leb-true}
use Rattle.std.proofs.lemmas.List.Elements.{recursion_from_All}
use Rattle.std.proofs.lemmas.Option.{same_Some, none-some}
use Rattle.pv_flow.specs.Automata.{Edge, CallEdge, Loop, Parts, holds, holds_loop}
use Rattle.pv_flow.specs.Faults.{cross, enters_well, is_entered_well, is_loop, has_ends, IsFaultless}
use Rattle.pv_flow.specs.WellMade.{turns_by, leads_well, AreApart, IsLoop, IsWellMade}
use Rattle.pv_flow.specs.Runs.{Counts, entry_count, kept, kept_in, entered, copies}
use Rattle.pv_flow.specs.Walks.{Hop}
use Rattle.pv_flow.proofs.ClosedWalks.{all_at, all_listed, listed_at, at_some, Found, found, IsTurning, Keeps, leading_back}
use Rattle.pv_flow.proofs.Sums.{is_lead, holds_by, holds_first, holds_last}
use Rattle.pv_flow.proofs.Places.{Below, AreNested, place, IsCopy, AreCopies, AreRising, rises_forward, rises_back, place_below}

-- ---- leads

abbrev pub lead : Loop → ℕ → ℕ
lead loop l = cond (is_lead loop l) 1 0

lead_off : (loop : Loop) (l : ℕ) → loop.entry_turn ≡ true → lead loop l ≡ 0
lead_off loop l entry = cond-false (is_lead loop l) 1 0 (and_left (not loop.entry_turn) (loop.first == l) (not_from_true loop.entry_turn entry))

lead_away : (loop : Loop) (l : ℕ) → (l ≡ loop.first → ⊥) → lead loop l ≡ 0
lead_away loop l away = cond-false (is_lead loop l) 1 0 (and_right (not loop.entry_turn) (loop.first == l) (ne_eqb loop.first l (λ e. away (sym e))))

lead_on : (loop : Loop) (l : ℕ) → loop.entry_turn ≡ false → l ≡ loop.first → lead loop l ≡ 1
lead_on loop l entry first = cond-true (is_lead loop l) 1 0
    (and_from (not loop.entry_turn) (loop.first == l) (not_from_false loop.entry_turn entry) (eq-eqb loop.first l (sym first)))

-- ---- counts at a location

-- a count of turns that a run may have where it is at l in the loop, with loop bound m + 1
pub record IsCount (m : ℕ) (loop : Loop) (l k : ℕ) : Type 0 where
  pub most : k ≤ suc m
  pub some : 1 ≤ k + lead loop l

abbrev pub HasCount : ℕ → Loop → ℕ → ℕ → Type 0
HasCount m loop l k = holds loop l ≡ true → IsCount m loop l k

abbrev pub index : Loop → ℕ → ℕ → ℕ
index loop l k = k + lead loop l - 1

abbrev pub index_in : Option Loop → ℕ → ℕ → ℕ
index_in None l k = 0
index_in (Some loop) l k = index loop l k

abbrev pub indexes : List Loop → ℕ → Counts → ℕ → ℕ
indexes loops l counts i = index_in (slice_get loops i) l (counts i)

abbrev pub HaveCounts : ℕ → List Loop → ℕ → Counts → Type 0
HaveCounts m loops l counts = (i : ℕ) → IfSome (slice_get loops i) (λ loop. HasCount m loop l (counts i))

copy_of : (m : ℕ) (loop : Loop) (l k : ℕ) → HasCount m loop l k → IsCopy m loop l (index loop l k)
copy_of m loop l k has held = by (is_lead loop l) refl
  where
    is : IsCount m loop l k
    is = has held

    turn : (k d : ℕ) → k ≤ suc m → d ≡ 0 → k + d - 1 ≤ m
    turn k d le e = omega (arith, le, e)

    first : (k d : ℕ) → k ≤ suc m → d ≡ 1 → (k + d - 1 ≤ m) ⊎ (k + d - 1 ≡ suc m)
    first k d le e = by (cases_lt m k)
      where
        by : (m < k) ⊎ (k ≤ m) → (k + d - 1 ≤ m) ⊎ (k + d - 1 ≡ suc m)
        by (inl lt) = inr (omega (arith, lt, le, e))
        by (inr small) = inl (omega (arith, small, e))

    with_lead : is_lead loop l ≡ true → (index loop l k ≤ m) ⊎ (index loop l k ≡ suc m)
        → (index loop l k ≤ m) ⊎ ((index loop l k ≡ suc m) × (is_lead loop l ≡ true))
    with_lead on (inl le) = inl le
    with_lead on (inr e) = inr (e, on)

    by : (b : Bool) → is_lead loop l ≡ b → (index loop l k ≤ m) ⊎ ((index loop l k ≡ suc m) × (is_lead loop l ≡ true))
    by true on = with_lead on (first k (lead loop l) is.most (cond-true (is_lead loop l) 1 0 on))
    by false off = inl (turn k (lead loop l) is.most (cond-false (is_lead loop l) 1 0 off))

pub are_copies : (m : ℕ) (loops : List Loop) (l : ℕ) (counts : Counts) → HaveCounts m loops l counts → AreCopies m loops l (indexes loops l counts)
are_copies m [] l counts have = tt
are_copies m (loop ∷ more) l counts have = (copy_of m loop l (counts 0) (have 0), are_copies m more l (λ i. counts (suc i)) (λ i. have (suc i)))

-- ---- counts along a hop

-- what a loop knows of a hop
pub record IsHop (loop : Loop) (from to : ℕ) (turn : Bool) : Type 0 where
  pub enters : holds loop from ≡ false → holds loop to ≡ true → to ≡ loop.first
  pub starts : loop.entry_turn ≡ false → from ≡ loop.first → holds loop to ≡ true → turn ≡ true
  pub turning : turn ≡ true → IsTurning loop from to

-- the count behind it
abbrev pub next_count : Loop → ℕ → ℕ → Bool → ℕ → ℕ
next_count loop from to turn k = kept (holds loop to) (holds loop from) k (entry_count loop) + cond turn 1 0

entered_fresh : (m : ℕ) (loop : Loop) (to k : ℕ) (turn : Bool) → to ≡ loop.first → turn ≡ false → k ≡ entry_count loop + cond turn 1 0
    → IsCount m loop to k
entered_fresh m loop to k turn first off e = by loop.entry_turn refl
  where
    none : ◌≡◌ {A = ℕ} (cond turn 1 0) 0
    none = cond-false turn 1 0 off

    counted : (k c t d x : ℕ) → k ≡ c + t → t ≡ 0 → c ≡ x → d + x ≡ 1 → (k ≤ suc m) × (1 ≤ k + d)
    counted k c t d x a b f g = (omega (arith, a, b, f, g), omega (arith, a, b, f, g))

    one : 0 + 1 ≡ 1
    one = refl

    made : (k ≤ suc m) × (1 ≤ k + lead loop to) → IsCount m loop to k
    made both = record { most = both.0; some = both.1 }

    by : (b : Bool) → loop.entry_turn ≡ b → IsCount m loop to k
    by true entry = made (counted k (entry_count loop) (cond turn 1 0) (lead loop to) 1 e none (cond-true loop.entry_turn 1 0 entry)
        (ap (λ (x : ℕ). x + 1) (lead_off loop to entry) ∙ one))
    by false entry = made (counted k (entry_count loop) (cond turn 1 0) (lead loop to) 0 e none (cond-false loop.entry_turn 1 0 entry)
        (ap (λ (x : ℕ). x + 0) (lead_on loop to entry first) ∙ one))

-- within the loop, without a turn: the lead is 0 before, as from the first location each edge that stays starts a turn
no_lead_of : (loop : Loop) (from to : ℕ) (turn : Bool) → IsHop loop from to turn → holds loop to ≡ true → turn ≡ false → lead loop from ≡ 0
no_lead_of loop from to turn hop held off = by loop.entry_turn refl
  where
    by : (b : Bool) → loop.entry_turn ≡ b → lead loop from ≡ 0
    by true entry = lead_off loop from entry
    by false entry = lead_away loop from (λ first. both_ways turn off (hop.starts entry first held))

lead_most : (loop : Loop) (l : ℕ) → lead loop l ≤ 1
lead_most loop l = most (is_lead loop l)
  where
    most : (b : Bool) → cond b 1 0 ≤ 1
    most true = omega arith
    most false = omega arith

-- what the loop's count becomes, and whether its copies rise
pub record Moves (m : ℕ) (loop : Loop) (from to : ℕ) (turn : Bool) (k next : ℕ) : Type 0 where
  pub counts : IsCount m loop to next
  pub rises : index loop from k ≤ index loop to next
  pub turns : (loop.entry_turn ≡ true → turn ≡ true) → (loop.entry_turn ≡ false → to ≡ loop.first) → suc (index loop from k) ≤ index loop to next

-- d and f are the leads where the hop begins and ends, t the turn that it starts
moves_by_turn : (m : ℕ) (loop : Loop) (from to : ℕ) (turn : Bool) (k next d f t : ℕ) → d ≡ lead loop from → f ≡ lead loop to → d ≤ 1
    → IsCount m loop from k → k ≤ m → next ≡ k + t → t ≡ 1 → Moves m loop from to turn k next
moves_by_turn m loop from to turn k next d f t d_is f_is low is le e one = record {
  counts = record { most = most k next t e one le; some = subst (λ (x : ℕ). 1 ≤ next + x) f_is (some k next t f e one) };
  rises = subst (λ (x : ℕ). k + x - 1 ≤ index loop to next) d_is (subst (λ (x : ℕ). k + d - 1 ≤ next + x - 1) f_is (rise k next t d f e one low));
  turns = λ entry first. by loop.entry_turn refl first;
}
  where
    most : (k next t : ℕ) → next ≡ k + t → t ≡ 1 → k ≤ m → next ≤ suc m
    most k next t e one le = omega (arith, e, one, le)

    some : (k next t f : ℕ) → next ≡ k + t → t ≡ 1 → 1 ≤ next + f
    some k next t f e one = omega (arith, e, one)

    rise : (k next t d f : ℕ) → next ≡ k + t → t ≡ 1 → d ≤ 1 → k + d - 1 ≤ next + f - 1
    rise k next t d f e one low = omega (arith, e, one, low)

    off : (k next t d f : ℕ) → next ≡ k + t → t ≡ 1 → d ≡ 0 → 1 ≤ k + d → suc (k + d - 1) ≤ next + f - 1
    off k next t d f e one z least = omega (arith, e, one, z, least)

    on : (k next t d f : ℕ) → next ≡ k + t → t ≡ 1 → d ≤ 1 → f ≡ 1 → suc (k + d - 1) ≤ next + f - 1
    on k next t d f e one low z = omega (arith, e, one, low, z)

    by : (b : Bool) → loop.entry_turn ≡ b → (loop.entry_turn ≡ false → to ≡ loop.first) → suc (index loop from k) ≤ index loop to next
    by true entry first = off k next t (lead loop from) (lead loop to) e one (lead_off loop from entry) is.some
    by false entry first = on k next t (lead loop from) (lead loop to) e one (lead_most loop from) (lead_on loop to entry (first entry))

moves_plainly : (m : ℕ) (loop : Loop) (from to : ℕ) (turn : Bool) (k next t : ℕ) → lead loop from ≡ 0 → IsCount m loop from k
    → turn ≡ false → next ≡ k + t → t ≡ 0 → Moves m loop from to turn k next
moves_plainly m loop from to turn k next t no_lead is none e zero_turns = record {
  counts = record { most = most k next t e zero_turns is.most; some = some k next t (lead loop from) (lead loop to) e zero_turns no_lead is.some };
  rises = rise k next t (lead loop from) (lead loop to) e zero_turns no_lead;
  turns = λ entry first. by loop.entry_turn refl entry first;
}
  where
    most : (k next t : ℕ) → next ≡ k + t → t ≡ 0 → k ≤ suc m → next ≤ suc m
    most k next t e z le = omega (arith, e, z, le)

    some : (k next t d f : ℕ) → next ≡ k + t → t ≡ 0 → d ≡ 0 → 1 ≤ k + d → 1 ≤ next + f
    some k next t d f e z y least = omega (arith, e, z, y, least)

    rise : (k next t d f : ℕ) → next ≡ k + t → t ≡ 0 → d ≡ 0 → k + d - 1 ≤ next + f - 1
    rise k next t d f e z y = omega (arith, e, z, y)

    on : (k next t d f : ℕ) → next ≡ k + t → t ≡ 0 → d ≡ 0 → 1 ≤ k + d → f ≡ 1 → suc (k + d - 1) ≤ next + f - 1
    on k next t d f e z y least x = omega (arith, e, z, y, least, x)

    by : (b : Bool) → loop.entry_turn ≡ b → (loop.entry_turn ≡ true → turn ≡ true) → (loop.entry_turn ≡ false → to ≡ loop.first)
        → suc (index loop from k) ≤ index loop to next
    by true entry starts first = absurd (both_ways turn none (starts entry))
    by false entry starts first = on k next t (lead loop from) (lead loop to) e zero_turns no_lead is.some (lead_on loop to entry (first entry))

-- where the hop stays within the loop
stays_within : (m : ℕ) (loop : Loop) (from to : ℕ) (turn : Bool) (k next : ℕ) → IsHop loop from to turn → IsCount m loop from k
    → (turn ≡ true → k ≤ m) → holds loop to ≡ true → next ≡ k + cond turn 1 0 → Moves m loop from to turn k next
stays_within m loop from to turn k next hop is below held e = by (cases_Bool turn)
  where
    by : (turn ≡ true) ⊎ (turn ≡ false) → Moves m loop from to turn k next
    by (inl on) = moves_by_turn m loop from to turn k next (lead loop from) (lead loop to) (cond turn 1 0) refl refl (lead_most loop from) is
        (below on) e (cond-true turn 1 0 on)
    by (inr off) = moves_plainly m loop from to turn k next (cond turn 1 0) (no_lead_of loop from to turn hop held off) is off e (cond-false turn 1 0 off)

kept_on : (to from : Bool) (k entry : ℕ) → to ≡ true → from ≡ true → kept to from k entry ≡ k
kept_on to from k entry e f = ap (λ (b : Bool). kept b from k entry) e ∙ ap (λ (b : Bool). kept true b k entry) f

kept_new : (to from : Bool) (k entry : ℕ) → to ≡ true → from ≡ false → kept to from k entry ≡ entry
kept_new to from k entry e f = ap (λ (b : Bool). kept b from k entry) e ∙ ap (λ (b : Bool). kept true b k entry) f

-- the count of a loop behind a hop
pub counted : (m : ℕ) (loop : Loop) (from to : ℕ) (turn : Bool) (k next : ℕ) → IsHop loop from to turn → HasCount m loop from k
    → (turn ≡ true → k ≤ m) → next ≡ next_count loop from to turn k → HasCount m loop to next
counted m loop from to turn k next hop has below e held = by (cases_Bool (holds loop from))
  where
    by : (holds loop from ≡ true) ⊎ (holds loop from ≡ false) → IsCount m loop to next
    by (inl on) = (stays_within m loop from to turn k next hop (has on) below held
        (e ∙ ap (λ (x : ℕ). x + cond turn 1 0) (kept_on (holds loop to) (holds loop from) k (entry_count loop) held on))).counts
    by (inr off) = entered_fresh m loop to next turn (hop.enters off held)
        (true_from_ne_false_of turn (λ on. both_ways (holds loop from) off (hop.turning on).begins))
        (e ∙ ap (λ (x : ℕ). x + cond turn 1 0) (kept_new (holds loop to) (holds loop from) k (entry_count loop) held off))
      where
        true_from_ne_false_of : (b : Bool) → (b ≡ true → ⊥) → b ≡ false
        true_from_ne_false_of true f = absurd (f refl)
        true_from_ne_false_of false f = refl

pub moved_within : (m : ℕ) (loop : Loop) (from to : ℕ) (turn : Bool) (k next : ℕ) → IsHop loop from to turn → HasCount m loop from k
    → (turn ≡ true → k ≤ m) → next ≡ next_count loop from to turn k → holds loop from ≡ true → holds loop to ≡ true
    → Moves m loop from to turn k next
moved_within m loop from to turn k next hop has below e on held =
    stays_within m loop from to turn k next hop (has on) below held
    (e ∙ ap (λ (x : ℕ). x + cond turn 1 0) (kept_on (holds loop to) (holds loop from) k (entry_count loop) held on))

-- ---- all loops

-- the hop, as each loop sees it, and the counts behind it
pub record Hops (m : ℕ) (loops : List Loop) (o : Option ℕ) (from to : ℕ) (counts next : Counts) : Type 0 where
  pub hops : (i : ℕ) → IfSome (slice_get loops i) (λ loop. IsHop loop from to (turns_by loop o))
  pub below : (i : ℕ) → IfSome (slice_get loops i) (λ loop. turns_by loop o ≡ true → counts i ≤ m)
  pub becomes : (i : ℕ) → IfSome (slice_get loops i) (λ loop. next i ≡ next_count loop from to (turns_by loop o) (counts i))

further : (m : ℕ) (loop : Loop) (more : List Loop) (o : Option ℕ) (from to : ℕ) (counts next : Counts) → Hops m (loop ∷ more) o from to counts next
    → Hops m more o from to (λ i. counts (suc i)) (λ i. next (suc i))
further m loop more o from to counts next h = record {
  hops = λ i. h.hops (suc i);
  below = λ i. h.below (suc i);
  becomes = λ i. h.becomes (suc i);
}

pub have_counts : (m : ℕ) (loops : List Loop) (o : Option ℕ) (from to : ℕ) (counts next : Counts) → Hops m loops o from to counts next
    → HaveCounts m loops from counts → HaveCounts m loops to next
have_counts m [] o from to counts next h have i = tt
have_counts m (loop ∷ more) o from to counts next h have zero =
    counted m loop from to (turns_by loop o) (counts 0) (next 0) (h.hops 0) (have 0) (h.below 0) (h.becomes 0)
have_counts m (loop ∷ more) o from to counts next h have (suc i) =
    have_counts m more o from to (λ i. counts (suc i)) (λ i. next (suc i)) (further m loop more o from to counts next h) (λ i. have (suc i)) i

are_rising : (m : ℕ) (loops : List Loop) (o : Option ℕ) (from to : ℕ) (counts next : Counts) → Hops m loops o from to counts next
    → HaveCounts m loops from counts → AreRising loops from to (indexes loops from counts) (indexes loops to next)
are_rising m [] o from to counts next h have = tt
are_rising m (loop ∷ more) o from to counts next h have = (
  (λ on held. (moved_within m loop from to (turns_by loop o) (counts 0) (next 0) (h.hops 0) (have 0) (h.below 0) (h.becomes 0) on held).rises),
  are_rising m more o from to (λ i. counts (suc i)) (λ i. next (suc i)) (further m loop more o from to counts next h) (λ i. have (suc i)),
)

-- of the loop of this number a turn starts
rises_at : (m : ℕ) (loops : List Loop) (o : Option ℕ) (from to : ℕ) (counts next : Counts) → Hops m loops o from to counts next
    → HaveCounts m loops from counts → (t : ℕ) (loop : Loop) → slice_get loops t ≡ Some loop → holds loop from ≡ true → holds loop to ≡ true
    → (loop.entry_turn ≡ true → turns_by loop o ≡ true) → (loop.entry_turn ≡ false → to ≡ loop.first)
    → suc (indexes loops from counts t) ≤ indexes loops to next t
rises_at m [] o from to counts next h have t loop at on held entry first = absurd (none-some loop at)
rises_at m (one ∷ more) o from to counts next h have zero loop at on held entry first =
    let e : loop ≡ one = sym (same_Some one loop at) in
    (moved_within m one from to (turns_by one o) (counts 0) (next 0) (h.hops 0) (have 0) (h.below 0) (h.becomes 0)
    (subst (λ (x : Loop). holds x from ≡ true) e on) (subst (λ (x : Loop). holds x to ≡ true) e held)).turns
    (subst (λ (x : Loop). x.entry_turn ≡ true → turns_by x o ≡ true) e entry) (subst (λ (x : Loop). x.entry_turn ≡ false → to ≡ x.first) e first)
rises_at m (one ∷ more) o from to counts next h have (suc t) loop at on held entry first =
    rises_at m more o from to (λ i. counts (suc i)) (λ i. next (suc i)) (further m one more o from to counts next h) (λ i. have (suc i)) t loop at on held
    entry first

-- how far the run has come
abbrev pub come : ℕ → List Loop → ℕ → Counts → ℕ
come m loops l counts = place m loops l (indexes loops l counts)

pub goes_on : (m : ℕ) (loops : List Loop) (o : Option ℕ) (from to : ℕ) (counts next : Counts) → AreNested loops
    → AllByRecursion (λ (loop : Loop). loop.first ≤ loop.last) loops → leads_well loops o from to ≡ true
    → Hops m loops o from to counts next → HaveCounts m loops from counts → suc (come m loops from counts) ≤ come m loops to next
goes_on m loops o from to counts next nested ranges well h have = by (cases_lt from to)
  where
    entry_turns : (loop : Loop) → loop.entry_turn ≡ true → (not loop.entry_turn ≡ true) ⊎ (turns_by loop o ≡ true) → turns_by loop o ≡ true
    entry_turns loop entry (inl off) = absurd (both_ways loop.entry_turn (not-true loop.entry_turn off) entry)
    entry_turns loop entry (inr on) = on

    back : (it : Found (λ (loop : Loop). (to == loop.first) && holds loop from && (not loop.entry_turn || turns_by loop o)) loops)
        → (it.element).first ≤ (it.element).last → suc (come m loops from counts) ≤ come m loops to next
    back it range =
        let outer = and_parts ((to == (it.element).first) && holds it.element from) (not (it.element).entry_turn || turns_by it.element o) it.passes in
        let inner = and_parts (to == (it.element).first) (holds it.element from) outer.0 in
        let first : to ≡ (it.element).first = eqb-true to (it.element).first inner.0 in
        let low : (it.element).first ≤ to = omega (arith, first) in
        let high : to ≤ (it.element).last = omega (arith, first, range) in
        rises_back m loops from to (indexes loops from counts) (indexes loops to next) nested (are_copies m loops from counts have)
        (are_rising m loops o from to counts next h have) it.number it.element it.stands (holds_first it.element from inner.1)
        (holds_last it.element from inner.1) first range
        (rises_at m loops o from to counts next h have it.number it.element it.stands inner.1 (holds_by it.element to low high)
        (λ entry. entry_turns it.element entry (or_cases (not (it.element).entry_turn) (turns_by it.element o) outer.1)) (λ entry. first))

    by : (from < to) ⊎ (to ≤ from) → suc (come m loops from counts) ≤ come m loops to next
    by (inl lt) = rises_forward m loops from to (indexes loops from counts) (indexes loops to next) nested (are_copies m loops from counts have) lt
        (are_rising m loops o from to counts next h have)
    by (inr le) =
        let it = found (λ (loop : Loop). (to == loop.first) && holds loop from && (not loop.entry_turn || turns_by loop o)) loops
        (leading_back loops o from to le well) in
        back it (at_some (λ (loop : Loop). loop.first ≤ loop.last) (slice_get loops it.number) it.element it.stands
        (listed_at (λ (loop : Loop). loop.first ≤ loop.last) loops it.number ranges))

-- ---- of automata that have no fault and are well made

apart_at : (p : Parts) → IsWellMade p → (i j : ℕ) → i < j → (loop other : Loop) → slice_get p.loops i ≡ Some loop → slice_get p.loops j ≡ Some other
    → AreApart loop other
apart_at p w i j lt loop other e f =
    at_some (λ (o : Loop). AreApart loop o) (slice_get p.loops j) other f
    (at_some (λ (l : Loop). IfSome (slice_get p.loops j) (λ o. AreApart l o)) (slice_get p.loops i) loop e (w.apart i j lt))

-- neither crosses the other, and they stand in order
below_of : (loop other : Loop) → loop.first ≤ loop.last → other.first ≤ other.last → AreApart loop other → cross loop other ≡ false → Below loop other
below_of loop other range range_too apart uncrossed = record {
  from = from;
  within = within;
  apart = alone;
}
  where
    ordered : (nat_lt loop.first other.first ≡ true) ⊎ (((loop.first == other.first) && not (nat_lt loop.last other.last)) ≡ true)
        → (loop.first < other.first) ⊎ ((loop.first ≡ other.first) × (other.last ≤ loop.last))
    ordered (inl lt) = inl (ltb-true loop.first other.first lt)
    ordered (inr same) =
        let both = and_parts (loop.first == other.first) (not (nat_lt loop.last other.last)) same in
        inr (eqb-true loop.first other.first both.0, ltb-false loop.last other.last (not-true (nat_lt loop.last other.last) both.1))

    order : (loop.first < other.first) ⊎ ((loop.first ≡ other.first) × (other.last ≤ loop.last))
    order = ordered (or_cases (nat_lt loop.first other.first) ((loop.first == other.first) && not (nat_lt loop.last other.last)) apart.order)

    from : loop.first ≤ other.first
    from = by order
      where
        by : (loop.first < other.first) ⊎ ((loop.first ≡ other.first) × (other.last ≤ loop.last)) → loop.first ≤ other.first
        by (inl lt) = omega (arith, lt)
        by (inr same) = omega (arith, same.0)

    -- that they meet, and neither holds the other, is crossing
    inner : other.first ≤ loop.last → (holds_loop loop other ≡ true) ⊎ (holds_loop other loop ≡ true)
    inner meets = by (cases_Bool (holds_loop loop other)) (cases_Bool (holds_loop other loop))
      where
        crossing : holds_loop loop other ≡ false → holds_loop other loop ≡ false → cross loop other ≡ true
        crossing a b =
            and_from (nat_le loop.first other.last && nat_le other.first loop.last && not (holds_loop loop other)) (not (holds_loop other loop))
            (and_from (nat_le loop.first other.last && nat_le other.first loop.last) (not (holds_loop loop other))
            (and_from (nat_le loop.first other.last) (nat_le other.first loop.last)
            (le-leb loop.first other.last (omega (arith, from, range_too))) (le-leb other.first loop.last meets))
            (not_from_false (holds_loop loop other) a)) (not_from_false (holds_loop other loop) b)

        by : (holds_loop loop other ≡ true) ⊎ (holds_loop loop other ≡ false) → (holds_loop other loop ≡ true) ⊎ (holds_loop other loop ≡ false)
            → (holds_loop loop other ≡ true) ⊎ (holds_loop other loop ≡ true)
        by (inl holding) x = inl holding
        by (inr off) (inl holding) = inr holding
        by (inr a) (inr b) = absurd (both_ways (cross loop other) uncrossed (crossing a b))

    within : other.first ≤ loop.last → other.last ≤ loop.last
    within meets = by (inner meets) order
      where
        by : (holds_loop loop other ≡ true) ⊎ (holds_loop other loop ≡ true)
            → (loop.first < other.first) ⊎ ((loop.first ≡ other.first) × (other.last ≤ loop.last)) → other.last ≤ loop.last
        by (inl holding) x = leb-true other.last loop.last (and_parts (nat_le loop.first other.first) (nat_le other.last loop.last) holding).1
        by (inr holding) (inl lt) =
            let low : other.first ≤ loop.first = leb-true other.first loop.first (and_parts (nat_le other.first loop.first) (nat_le loop.last other.last) holding).0 in
            absurd (omega (arith, low, lt))
        by (inr holding) (inr same) = same.1

    alone : loop.entry_turn ≡ false → loop.first < other.first
    alone entry = by order
      where
        by : (loop.first < other.first) ⊎ ((loop.first ≡ other.first) × (other.last ≤ loop.last)) → loop.first < other.first
        by (inl lt) = lt
        by (inr same) =
            let meets : ((other.first == loop.first) && holds_loop loop other) ≡ true =
            and_from (other.first == loop.first) (holds_loop loop other) (eq-eqb other.first loop.first (sym same.0))
            (and_from (nat_le loop.first other.first) (nat_le other.last loop.last) (le-leb loop.first other.first from) (le-leb other.last loop.last same.1)) in
            absurd (false≢true (sym (ap (λ (b : Bool). loop.entry_turn || not b) meets ∙ ap (λ (b : Bool). b || false) entry) ∙ apart.firsts))

-- of a list of loops whose elements keep this one by one
nested_of : (loops : List Loop) → AllByRecursion (λ (loop : Loop). loop.first ≤ loop.last) loops
    → ((i j : ℕ) → i < j → (loop other : Loop) → slice_get loops i ≡ Some loop → slice_get loops j ≡ Some other → Below loop other) → AreNested loops
nested_of [] ranges all = tt
nested_of (loop ∷ more) ranges all = (
  ranges.0,
  heads more (λ j other e. all 0 (suc j) (omega arith) loop other refl e),
  nested_of more ranges.1 (λ i j lt one other e f. all (suc i) (suc j) (omega (arith, lt)) one other e f),
)
  where
    heads : (xs : List Loop) → ((j : ℕ) (other : Loop) → slice_get xs j ≡ Some other → Below loop other) → AllByRecursion (Below loop) xs
    heads [] h = tt
    heads (x ∷ xs) h = (h 0 x refl, heads xs (λ j other e. h (suc j) other e))

pub ranges_of : (p : Parts) → IsWellMade p → AllByRecursion (λ (loop : Loop). loop.first ≤ loop.last) p.loops
ranges_of p w = by p.loops (recursion_from_All (IsLoop p) p.loops w.loops)
  where
    by : (loops : List Loop) → AllByRecursion (IsLoop p) loops → AllByRecursion (λ (loop : Loop). loop.first ≤ loop.last) loops
    by [] all = tt
    by (loop ∷ more) all = ((all.0).range, by more all.1)

uncrossed_of : (p : Parts) → IsFaultless p → (i j : ℕ) (loop other : Loop) → slice_get p.loops i ≡ Some loop → slice_get p.loops j ≡ Some other
    → cross loop other ≡ false
uncrossed_of p f i j loop other e g =
    let is : is_loop p loop ≡ true = at_some (λ (l : Loop). is_loop p l ≡ true) (slice_get p.loops i) loop e (all_at (is_loop p) p.loops i f.loops) in
    let turns = (and_parts (list_all (λ (n : ℕ). nat_lt n (length p.edges)) loop.turns && list_all (λ (o : Loop). not (cross loop o)) p.loops)
    (is_entered_well p loop) is).0 in
    let others = (and_parts (list_all (λ (n : ℕ). nat_lt n (length p.edges)) loop.turns) (list_all (λ (o : Loop). not (cross loop o)) p.loops) turns).1 in
    not-true (cross loop other)
    (at_some (λ (o : Loop). not (cross loop o) ≡ true) (slice_get p.loops j) other g (all_at (λ (o : Loop). not (cross loop o)) p.loops j others))

pub are_nested : (p : Parts) → IsFaultless p → IsWellMade p → AreNested p.loops
are_nested p f w = nested_of p.loops (ranges_of p w)
    (λ i j lt loop other e g. below_of loop other
    (at_some (λ (l : Loop). l.first ≤ l.last) (slice_get p.loops i) loop e (listed_at (λ (l : Loop). l.first ≤ l.last) p.loops i (ranges_of p w)))
    (at_some (λ (l : Loop). l.first ≤ l.last) (slice_get p.loops j) other g (listed_at (λ (l : Loop). l.first ≤ l.last) p.loops j (ranges_of p w)))
    (apart_at p w i j lt loop other e g) (uncrossed_of p f i j loop other e g))

-- what each loop sees of a hop
pub is_hop : (p : Parts) (hop : Hop) → Keeps p hop → (i : ℕ) → IfSome (slice_get p.loops i) (λ loop. IsHop loop hop.from hop.to (turns_by loop hop.edge))
is_hop p hop keeps i = by (slice_get p.loops i) (keeps.enters i) (keeps.turns i) (keeps.turning i)
  where
    entered_at : (loop : Loop) → enters_well loop hop.from hop.to ≡ true → holds loop hop.from ≡ false → holds loop hop.to ≡ true → hop.to ≡ loop.first
    entered_at loop well off held = by (or_cases (holds loop hop.from || not (holds loop hop.to)) (hop.to == loop.first) well)
      where
        neither : (holds loop hop.from ≡ true) ⊎ (not (holds loop hop.to) ≡ true) → ⊥
        neither (inl on) = both_ways (holds loop hop.from) off on
        neither (inr out) = both_ways (holds loop hop.to) (not-true (holds loop hop.to) out) held

        by : ((holds loop hop.from || not (holds loop hop.to)) ≡ true) ⊎ ((hop.to == loop.first) ≡ true) → hop.to ≡ loop.first
        by (inl x) = absurd (neither (or_cases (holds loop hop.from) (not (holds loop hop.to)) x))
        by (inr e) = eqb-true hop.to loop.first e

    by : (o : Option Loop) → IfSome o (λ loop. enters_well loop hop.from hop.to ≡ true)
        → IfSome o (λ loop. loop.entry_turn ≡ false → hop.from ≡ loop.first → holds loop hop.to ≡ true → turns_by loop hop.edge ≡ true)
        → IfSome o (λ loop. turns_by loop hop.edge ≡ true → IsTurning loop hop.from hop.to)
        → IfSome o (λ loop. IsHop loop hop.from hop.to (turns_by loop hop.edge))
    by None a b c = tt
    by (Some loop) a b c = record { enters = entered_at loop a; starts = b; turning = c }

-- ---- the beginning, and how far runs can come

pub begins : (m : ℕ) (loops : List Loop) → HaveCounts m loops 0 (entered loops 0)
begins m loops i = by (slice_get loops i)
  where
    fresh : (loop : Loop) → HasCount m loop 0 (kept (holds loop 0) false 0 (entry_count loop))
    fresh loop held =
        let first : 0 ≡ loop.first = omega (arith, holds_first loop 0 held) in
        entered_fresh m loop 0 (kept (holds loop 0) false 0 (entry_count loop)) false first refl
        (kept_new (holds loop 0) false 0 (entry_count loop) held refl ∙ plain (entry_count loop))
      where
        plain : (c : ℕ) → c ≡ c + 0
        plain c = omega arith

    by : (o : Option Loop) → IfSome o (λ loop. HasCount m loop 0 (kept_in o (λ loop. false) 0 0))
    by None = tt
    by (Some loop) = fresh loop

lasts_below : (p : Parts) → IsFaultless p → AllByRecursion (λ (loop : Loop). loop.last < p.locations) p.loops
lasts_below p f = by p.loops (all_listed (λ (loop : Loop). nat_lt loop.first p.locations && nat_lt loop.last p.locations) p.loops ranges)
  where
    ways : (list_all (λ (edge : Edge). nat_lt edge.from p.locations && nat_lt edge.to p.locations) p.edges
        && list_all (λ (call : CallEdge). nat_lt call.from p.locations && nat_lt call.to p.locations) p.calls
        && list_all (λ (loop : Loop). nat_lt loop.first p.locations && nat_lt loop.last p.locations) p.loops) ≡ true
    ways = (and_parts (list_all (λ (edge : Edge). nat_lt edge.from p.locations && nat_lt edge.to p.locations) p.edges
        && list_all (λ (call : CallEdge). nat_lt call.from p.locations && nat_lt call.to p.locations) p.calls
        && list_all (λ (loop : Loop). nat_lt loop.first p.locations && nat_lt loop.last p.locations) p.loops) (has_ends p) f.locations).0

    ranges : list_all (λ (loop : Loop). nat_lt loop.first p.locations && nat_lt loop.last p.locations) p.loops ≡ true
    ranges = (and_parts (list_all (λ (edge : Edge). nat_lt edge.from p.locations && nat_lt edge.to p.locations) p.edges
        && list_all (λ (call : CallEdge). nat_lt call.from p.locations && nat_lt call.to p.locations) p.calls)
        (list_all (λ (loop : Loop). nat_lt loop.first p.locations && nat_lt loop.last p.locations) p.loops) ways).1

    by : (loops : List Loop) → AllByRecursion (λ (loop : Loop). (nat_lt loop.first p.locations && nat_lt loop.last p.locations) ≡ true) loops
        → AllByRecursion (λ (loop : Loop). loop.last < p.locations) loops
    by [] all = tt
    by (loop ∷ more) all =
        (ltb-true loop.last p.locations (and_parts (nat_lt loop.first p.locations) (nat_lt loop.last p.locations) all.0).1, by more all.1)

pub comes_no_further : (p : Parts) → IsFaultless p → IsWellMade p → (m l : ℕ) (counts : Counts) → HaveCounts m p.loops l counts → l < p.locations
    → suc (come m p.loops l counts) ≤ copies (suc m) p.loops p.locations
comes_no_further p f w m l counts have lt =
    place_below m p.loops l p.locations (indexes p.loops l counts) (are_nested p f w) (are_copies m p.loops l counts have) lt (lasts_below p f)
