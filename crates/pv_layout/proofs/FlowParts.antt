-- What lies as a flow has parts that lie as the flow's parts: their spots and loops, no others that begin or end in them, and exits
-- outside.
use Rattle.std.proofs.Common.{◌≡◌, ℕ, suc, ◌+◌, ◌<◌, ◌≤◌, ◌⊎◌, inl, inr, List, [], ◌∷◌, slice_get, true, false, Option, Some, None, IfSome, sym, subst, ap, ◌∙◌, arith}
use Rattle.pv_place.specs.declared.place.Place.{Place}
use Rattle.pv_flow.specs.Terms.{Term}
use Rattle.pv_flow.specs.Automata.{Set, Loop}
use Rattle.pv_layout.specs.Spots.{Check, Act, Branch, way}
use Rattle.pv_layout.specs.Flows.{Flow, then_, if_, choice, while_, for_, repeat_, calls_in}
use Rattle.pv_layout.specs.Layout.{width, loops_in, Exits, before, in_loop, spots_of, loops_of, bare, Text}
use Rattle.pv_layout.specs.SpotRuns.{calls_before}
use Rattle.pv_layout.specs.Correct.{IsLaid, IsOutside, AreOutside, HoldsAlike, IsFlowAt}
use Rattle.pv_layout.proofs.Lists.{for_some, some_at, laid_front, laid_back, each_laid}
use Rattle.pv_layout.proofs.Turns.{IsWithin, OwnWithin, IsRegion, apart_alike, around_alike, nest_part}
use Rattle.pv_layout.proofs.Laying.{length_spots, length_loops, loops_within, one_call, calls_after}

-- ---- a flow's region

pub own_of : (loops : List Loop) (f : Flow) (a i : ℕ) → IsLaid loops i (loops_of f a) → OwnWithin loops i (i + loops_in f) a (a + width f)
own_of loops f a i laid k low high = each_laid (IsWithin a (a + width f)) loops i (loops_of f a) laid (loops_within f a) k low
    (subst (λ (n : ℕ). k < i + n) (sym (length_loops f a)) high)

pub region_of : (text : Text) (f : Flow) (a i j : ℕ) (to : Exits) → IsFlowAt text f a i j to
    → IsRegion text.loops i (i + loops_in f) a (a + width f)
region_of text f a i j to is = record { nest = is.nest; own = own_of text.loops f a i is.loops }

-- ---- exits

pub narrow_out : (a b c d x : ℕ) → a ≤ c → d ≤ b → IsOutside a b x → IsOutside c d x
narrow_out a b c d x low high (inl lt) = inl (omega (arith, low, lt))
narrow_out a b c d x low high (inr le) = inr (omega (arith, high, le))

pub narrow_exits : (a b c d : ℕ) (to : Exits) → a ≤ c → d ≤ b → AreOutside a b to → AreOutside c d to
narrow_exits a b c d to low high out = record {
  next = narrow_out a b c d to.next low high out.next;
  on_exit = narrow_out a b c d to.on_exit low high out.on_exit;
  on_continue = narrow_out a b c d to.on_continue low high out.on_continue;
  on_return = narrow_out a b c d to.on_return low high out.on_return;
}

pub before_exits : (a b c d n : ℕ) (to : Exits) → a ≤ c → d ≤ b → IsOutside c d n → AreOutside a b to → AreOutside c d (before n to)
before_exits a b c d n to low high next out = record {
  next = next;
  on_exit = narrow_out a b c d to.on_exit low high out.on_exit;
  on_continue = narrow_out a b c d to.on_continue low high out.on_continue;
  on_return = narrow_out a b c d to.on_return low high out.on_return;
}

pub loop_exits : (a b c d n : ℕ) (to : Exits) → a ≤ c → d ≤ b → IsOutside c d n → AreOutside a b to → AreOutside c d (in_loop n to)
loop_exits a b c d n to low high next out = record {
  next = next;
  on_exit = narrow_out a b c d to.next low high out.next;
  on_continue = next;
  on_return = narrow_out a b c d to.on_return low high out.on_return;
}

-- ---- loops of other parts

-- of the loops from i on, below m, and from m on, below j, the first ones are the part's
not_first : (i m j n : ℕ) → i ≤ n → n < j → IsOutside i m n → (m ≤ n) × (n < j)
not_first i m j n low high (inl lt) = absurd (omega (arith, low, lt))
not_first i m j n low high (inr le) = (le, high)

not_second : (i m j n : ℕ) → i ≤ n → n < j → IsOutside m j n → (i ≤ n) × (n < m)
not_second i m j n low high (inl lt) = (low, lt)
not_second i m j n low high (inr le) = absurd (omega (arith, high, le))

apart_own : (loops : List Loop) (i j a b c d n : ℕ) → OwnWithin loops i j c d → (b ≤ c) ⊎ (d ≤ a) → i ≤ n → n < j
    → IfSome (slice_get loops n) (HoldsAlike a b)
apart_own loops i j a b c d n own apart low high = for_some (HoldsAlike a b) (slice_get loops n)
    (λ loop e. apart_alike a b c d loop (some_at (IsWithin c d) (slice_get loops n) loop e (own n low high)) apart)

-- the loop of this number itself
around_own : (loops : List Loop) (i n : ℕ) (loop : Loop) (a b : ℕ) → slice_get loops i ≡ Some loop → n ≡ i → loop.first ≤ a
    → b ≤ suc loop.last
    → IfSome (slice_get loops n) (HoldsAlike a b)
around_own loops i n loop a b at same low high =
    subst (λ (o : Option Loop). IfSome o (HoldsAlike a b)) (sym (ap (λ (m : ℕ). slice_get loops m) same ∙ at))
    (around_alike a b loop low high)

only_first : (i j n : ℕ) → i ≤ n → n < j → IsOutside (suc i) j n → n ≡ i
only_first i j n low high (inl lt) = omega (arith, low, lt)
only_first i j n low high (inr le) = absurd (omega (arith, high, le))

-- ---- one after the other

pub first_of : (text : Text) (f g : Flow) (a i j : ℕ) (to : Exits) → IsFlowAt text (then_ f g) a i j to
    → IsFlowAt text f a i j (before (a + width f) to)
first_of text f g a i j to is = record {
  spots = laid_front text.spots a (spots_of f a i (before (a + width f) to)) (spots_of g (a + width f) (i + loops_in f) to) is.spots;
  loops = laid_front text.loops i (loops_of f a) (loops_of g (a + width f)) is.loops;
  nest = nest_part text.loops i (i + (loops_in f + loops_in g)) a (a + (width f + width g)) i (i + loops_in f) a (a + width f)
      (omega arith) (omega arith) is.nest (λ n low high out.
      let which = not_first i (i + loops_in f) (i + (loops_in f + loops_in g)) n low high out in
      apart_own text.loops (i + loops_in f) (i + loops_in f + loops_in g) a (a + width f) (a + width f) (a + width f + width g) n
      (own_of text.loops g (a + width f) (i + loops_in f)
      (laid_back text.loops i (loops_in f) (loops_of f a) (loops_of g (a + width f)) (length_loops f a) is.loops))
      (inl (omega arith)) which.0 (omega (arith, which.1)));
  exits = before_exits a (a + (width f + width g)) a (a + width f) (a + width f) to (omega arith) (omega arith)
      (inr (omega arith)) is.exits;
  calls = is.calls;
}

pub second_of : (text : Text) (f g : Flow) (a i j : ℕ) (to : Exits) → IsFlowAt text (then_ f g) a i j to
    → IsFlowAt text g (a + width f) (i + loops_in f) (j + calls_in f) to
second_of text f g a i j to is = record {
  spots = laid_back text.spots a (width f) (spots_of f a i (before (a + width f) to)) (spots_of g (a + width f) (i + loops_in f) to)
      (length_spots f a i (before (a + width f) to)) is.spots;
  loops = laid_back text.loops i (loops_in f) (loops_of f a) (loops_of g (a + width f)) (length_loops f a) is.loops;
  nest = nest_part text.loops i (i + (loops_in f + loops_in g)) a (a + (width f + width g)) (i + loops_in f) (i + loops_in f + loops_in g)
      (a + width f) (a + width f + width g) (omega arith) (omega arith) is.nest (λ n low high out.
      let which = not_second i (i + loops_in f) (i + loops_in f + loops_in g) n low (omega (arith, high)) out in
      apart_own text.loops i (i + loops_in f) (a + width f) (a + width f + width g) a (a + width f) n
      (own_of text.loops f a i (laid_front text.loops i (loops_of f a) (loops_of g (a + width f)) is.loops))
      (inr (omega arith)) which.0 which.1);
  exits = narrow_exits a (a + (width f + width g)) (a + width f) (a + width f + width g) to (omega arith) (omega arith) is.exits;
  calls = calls_after text.spots f a i j (before (a + width f) to)
      (laid_front text.spots a (spots_of f a i (before (a + width f) to)) (spots_of g (a + width f) (i + loops_in f) to) is.spots) is.calls;
}

-- ---- what a condition chooses

-- after a spot that is no call
after_branch : (text : Text) (checks : List Check) (c : Term) (a j m n : ℕ) (t : Option ℕ)
    → slice_get text.spots a ≡ Some (Branch checks c (way m [] t) (way n [] None)) → calls_before text.spots a ≡ j
    → calls_before text.spots (suc a) ≡ j
after_branch text checks c a j m n t at calls =
    let one = one_call text.spots a (Branch checks c (way m [] t) (way n [] None)) at in omega (arith, one, calls)

pub chosen_of : (text : Text) (checks : List Check) (c : Term) (f : Flow) (a i j : ℕ) (to : Exits) → IsFlowAt text (if_ checks c f) a i j to
    → IsFlowAt text f (suc a) i j to
chosen_of text checks c f a i j to is = record {
  spots = is.spots.1;
  loops = is.loops;
  nest = nest_part text.loops i (i + loops_in f) a (a + suc (width f)) i (i + loops_in f) (suc a) (suc a + width f)
      (omega arith) (omega arith) is.nest (λ n low high out. neither i (i + loops_in f) n low high out);
  exits = narrow_exits a (a + suc (width f)) (suc a) (suc a + width f) to (omega arith) (omega arith) is.exits;
  calls = after_branch text checks c a j (suc a) to.next None is.spots.0 is.calls;
}
  where
    neither : (i j n : ℕ) → i ≤ n → n < j → IsOutside i j n → IfSome (slice_get text.loops n) (HoldsAlike (suc a) (suc a + width f))
    neither i j n low high (inl lt) = absurd (omega (arith, low, lt))
    neither i j n low high (inr le) = absurd (omega (arith, high, le))

-- two parts after a test lie as one after the other
pub one_of : (text : Text) (checks : List Check) (c : Term) (f g : Flow) (a i j : ℕ) (to : Exits)
    → IsFlowAt text (choice checks c f g) a i j to
    → IsFlowAt text f (suc a) i j to
one_of text checks c f g a i j to is = record {
  spots = laid_front text.spots (suc a) (spots_of f (suc a) i to) (spots_of g (suc a + width f) (i + loops_in f) to) is.spots.1;
  loops = laid_front text.loops i (loops_of f (suc a)) (loops_of g (suc a + width f)) is.loops;
  nest = nest_part text.loops i (i + (loops_in f + loops_in g)) a (a + suc (width f + width g)) i (i + loops_in f) (suc a) (suc a + width f)
      (omega arith) (omega arith) is.nest (λ n low high out.
      let which = not_first i (i + loops_in f) (i + (loops_in f + loops_in g)) n low high out in
      apart_own text.loops (i + loops_in f) (i + loops_in f + loops_in g) (suc a) (suc a + width f) (suc a + width f)
      (suc a + width f + width g) n
      (own_of text.loops g (suc a + width f) (i + loops_in f)
      (laid_back text.loops i (loops_in f) (loops_of f (suc a)) (loops_of g (suc a + width f)) (length_loops f (suc a)) is.loops))
      (inl (omega arith)) which.0 (omega (arith, which.1)));
  exits = narrow_exits a (a + suc (width f + width g)) (suc a) (suc a + width f) to (omega arith) (omega arith) is.exits;
  calls = after_branch text checks c a j (suc a) (suc a + width f) None is.spots.0 is.calls;
}

pub other_of : (text : Text) (checks : List Check) (c : Term) (f g : Flow) (a i j : ℕ) (to : Exits)
    → IsFlowAt text (choice checks c f g) a i j to
    → IsFlowAt text g (suc a + width f) (i + loops_in f) (j + calls_in f) to
other_of text checks c f g a i j to is = record {
  spots = laid_back text.spots (suc a) (width f) (spots_of f (suc a) i to) (spots_of g (suc a + width f) (i + loops_in f) to)
      (length_spots f (suc a) i to) is.spots.1;
  loops = laid_back text.loops i (loops_in f) (loops_of f (suc a)) (loops_of g (suc a + width f)) (length_loops f (suc a)) is.loops;
  nest = nest_part text.loops i (i + (loops_in f + loops_in g)) a (a + suc (width f + width g)) (i + loops_in f)
      (i + loops_in f + loops_in g)
      (suc a + width f) (suc a + width f + width g) (omega arith) (omega arith) is.nest (λ n low high out.
      let which = not_second i (i + loops_in f) (i + loops_in f + loops_in g) n low (omega (arith, high)) out in
      apart_own text.loops i (i + loops_in f) (suc a + width f) (suc a + width f + width g) (suc a) (suc a + width f) n
      (own_of text.loops f (suc a) i (laid_front text.loops i (loops_of f (suc a)) (loops_of g (suc a + width f)) is.loops))
      (inr (omega arith)) which.0 which.1);
  exits = narrow_exits a (a + suc (width f + width g)) (suc a + width f) (suc a + width f + width g) to (omega arith)
      (omega arith) is.exits;
  calls = calls_after text.spots f (suc a) i j to
      (laid_front text.spots (suc a) (spots_of f (suc a) i to) (spots_of g (suc a + width f) (i + loops_in f) to) is.spots.1)
      (after_branch text checks c a j (suc a) (suc a + width f) None is.spots.0 is.calls);
}

-- ---- bodies of loops

pub while_body : (text : Text) (checks : List Check) (c : Term) (f : Flow) (place : Place) (a i j : ℕ) (to : Exits)
    → IsFlowAt text (while_ checks c f place) a i j to → IsFlowAt text f (suc a) (suc i) j (in_loop a to)
while_body text checks c f place a i j to is = record {
  spots = is.spots.1;
  loops = is.loops.1;
  nest = nest_part text.loops i (i + suc (loops_in f)) a (a + suc (width f)) (suc i) (suc i + loops_in f) (suc a) (suc a + width f)
      (omega arith) (omega arith) is.nest
      (λ n low high out. around_own text.loops i n (bare a (a + width f) false place) (suc a) (suc a + width f)
      is.loops.0 (only_first i (suc i + loops_in f) n low (omega (arith, high)) out) (omega arith) (omega arith));
  exits = loop_exits a (a + suc (width f)) (suc a) (suc a + width f) a to (omega arith) (omega arith) (inl (omega arith)) is.exits;
  calls = after_branch text checks c a j (suc a) to.next (Some i) is.spots.0 is.calls;
}

pub for_body : (text : Text) (checks : List Check) (c : Term) (f : Flow) (sets : List Set) (place : Place) (a i j : ℕ) (to : Exits)
    → IsFlowAt text (for_ checks c f sets place) a i j to → IsFlowAt text f (suc a) (suc i) j (in_loop (suc a + width f) to)
for_body text checks c f sets place a i j to is = record {
  spots = laid_front text.spots (suc a) (spots_of f (suc a) (suc i) (in_loop (suc a + width f) to))
      (Act [] (way a sets None) ∷ []) is.spots.1;
  loops = is.loops.1;
  nest = nest_part text.loops i (i + suc (loops_in f)) a (a + suc (width f + 1)) (suc i) (suc i + loops_in f) (suc a) (suc a + width f)
      (omega arith) (omega arith) is.nest
      (λ n low high out. around_own text.loops i n (bare a (suc (a + width f)) false place) (suc a) (suc a + width f)
      is.loops.0 (only_first i (suc i + loops_in f) n low (omega (arith, high)) out) (omega arith) (omega arith));
  exits = loop_exits a (a + suc (width f + 1)) (suc a) (suc a + width f) (suc a + width f) to (omega arith) (omega arith)
      (inr (omega arith)) is.exits;
  calls = after_branch text checks c a j (suc a) to.next (Some i) is.spots.0 is.calls;
}

-- the step after a FOR's body
pub for_step : (text : Text) (checks : List Check) (c : Term) (f : Flow) (sets : List Set) (place : Place) (a i j : ℕ) (to : Exits)
    → IsFlowAt text (for_ checks c f sets place) a i j to → slice_get text.spots (suc a + width f) ≡ Some (Act [] (way a sets None))
for_step text checks c f sets place a i j to is =
    (laid_back text.spots (suc a) (width f) (spots_of f (suc a) (suc i) (in_loop (suc a + width f) to)) (Act [] (way a sets None) ∷ [])
    (length_spots f (suc a) (suc i) (in_loop (suc a + width f) to)) is.spots.1).0

pub repeat_body : (text : Text) (f : Flow) (checks : List Check) (c : Term) (place : Place) (a i j : ℕ) (to : Exits)
    → IsFlowAt text (repeat_ f checks c place) a i j to → IsFlowAt text f a (suc i) j (in_loop (a + width f) to)
repeat_body text f checks c place a i j to is = record {
  spots = laid_front text.spots a (spots_of f a (suc i) (in_loop (a + width f) to))
      (Branch checks c (way to.next [] None) (way a [] (Some i)) ∷ []) is.spots;
  loops = is.loops.1;
  nest = nest_part text.loops i (i + suc (loops_in f)) a (a + (width f + 1)) (suc i) (suc i + loops_in f) a (a + width f)
      (omega arith) (omega arith) is.nest (λ n low high out. around_own text.loops i n (bare a (a + width f) true place) a (a + width f)
      is.loops.0 (only_first i (suc i + loops_in f) n low (omega (arith, high)) out) (omega arith) (omega arith));
  exits = loop_exits a (a + (width f + 1)) a (a + width f) (a + width f) to (omega arith) (omega arith) (inr (omega arith)) is.exits;
  calls = is.calls;
}

-- the test after a REPEAT's body
pub repeat_test : (text : Text) (f : Flow) (checks : List Check) (c : Term) (place : Place) (a i j : ℕ) (to : Exits)
    → IsFlowAt text (repeat_ f checks c place) a i j to
    → slice_get text.spots (a + width f) ≡ Some (Branch checks c (way to.next [] None) (way a [] (Some i)))
repeat_test text f checks c place a i j to is =
    (laid_back text.spots a (width f) (spots_of f a (suc i) (in_loop (a + width f) to))
    (Branch checks c (way to.next [] None) (way a [] (Some i)) ∷ [])
    (length_spots f a (suc i) (in_loop (a + width f) to)) is.spots).0
