-- All loops of a flow against all of its spots: loops of one part lie apart from the spots of another, and a loop lies around its body.
use Rattle.std.proofs.Common.{ℕ, suc, ◌+◌, ◌<◌, ◌≤◌, inl, inr, List, [], ◌∷◌, ◌++◌, true, false, IfSome, Option, Some, None, refl, arith}
use Rattle.pv_place.specs.declared.place.Place.{Place}
use Rattle.pv_flow.specs.Terms.{Term}
use Rattle.pv_flow.specs.Automata.{Set, Loop}
use Rattle.pv_layout.specs.Spots.{Check, Spot, Act, Branch, way}
use Rattle.pv_layout.specs.Flows.{Flow, act, enter, leave, then_, if_, choice, while_, for_, repeat_}
use Rattle.pv_layout.specs.Layout.{width, loops_in, Exits, before, in_loop, spots_of, loops_of, bare}
use Rattle.pv_layout.specs.Correct.{IsOutside, AreOutside}
use Rattle.pv_layout.proofs.Laying.{some_width, length_spots, length_loops}
use Rattle.pv_layout.proofs.FlowParts.{narrow_out, narrow_exits, before_exits, loop_exits}
use Rattle.pv_layout.proofs.Each.{EachFrom, each_append}
use Rattle.pv_layout.proofs.Leads.{IsSpotIn, LeadTo, spots_in, loops_in_flow}
use Rattle.pv_layout.specs.Sound.{SpotFits}
use Rattle.pv_layout.proofs.Fits.{AimsPast, apart_all, inside_all, test_fits, until_fits, AllFit, fits_append, fits_cons, exits_past, inside_flow, two_ways}

-- two parts, one after the other
two_fit : (f g : Flow) (a i : ℕ) (one other : Exits) → LeadTo (AimsPast (a + width f) (a + width f + width g)) one
    → LeadTo (AimsPast a (a + width f)) other → AllFit i (loops_of f a) a (spots_of f a i one)
    → AllFit (i + loops_in f) (loops_of g (a + width f)) (a + width f) (spots_of g (a + width f) (i + loops_in f) other)
    → AllFit i (loops_of f a ++ loops_of g (a + width f)) a (spots_of f a i one ++ spots_of g (a + width f) (i + loops_in f) other)
two_fit f g a i one other past before_it h k = each_append (λ n loop. EachFrom (SpotFits n loop) a whole) i (loops_in f) (loops_of f a)
    (loops_of g (a + width f)) (length_loops f a)
    (fits_append i (loops_of f a) a (width f) (spots_of f a i one) (spots_of g (a + width f) (i + loops_in f) other)
    (length_spots f a i one) h
    (apart_all (a + width f) (a + width f + width g) (i + loops_in f) (i + loops_in f + loops_in g) a (a + width f) i (i + loops_in f)
    (record { place = inr (omega arith); numbers = inr (omega arith) }) i (loops_of f a) (a + width f)
    (spots_of g (a + width f) (i + loops_in f) other) (loops_in_flow f a i)
    (spots_in (AimsPast a (a + width f)) g (a + width f) (i + loops_in f) other (λ x low high. inl (inr low)) before_it)))
    (fits_append (i + loops_in f) (loops_of g (a + width f)) a (width f) (spots_of f a i one)
    (spots_of g (a + width f) (i + loops_in f) other)
    (length_spots f a i one)
    (apart_all a (a + width f) i (i + loops_in f) (a + width f) (a + width f + width g) (i + loops_in f) (i + loops_in f + loops_in g)
    (record { place = inl (omega arith); numbers = inl (omega arith) }) (i + loops_in f) (loops_of g (a + width f)) a (spots_of f a i one)
    (loops_in_flow g (a + width f) (i + loops_in f))
    (spots_in (AimsPast (a + width f) (a + width f + width g)) f a i one (λ x low high. inl (inl high)) past)) k)
  where
    whole : List Spot
    whole = spots_of f a i one ++ spots_of g (a + width f) (i + loops_in f) other

-- a test before a part: with ways to the part and past it
before_part : (f : Flow) (a i k : ℕ) (checks : List Check) (c : Term) (x y : ℕ) (m : Option ℕ) → AimsPast (suc a) (suc a + width f) x
    → AimsPast (suc a) (suc a + width f) y → IfSome m (λ n. (k ≤ n) × (n < i)) → k ≤ i
    → AllFit i (loops_of f (suc a)) a (Branch checks c (way x [] m) (way y [] None) ∷ [])
before_part f a i k checks c x y m one other mark le = apart_all a (suc a) k i (suc a) (suc a + width f) i (i + loops_in f)
    (record { place = inl (omega arith); numbers = inl (omega arith) }) i (loops_of f (suc a)) a
    (Branch checks c (way x [] m) (way y [] None) ∷ [])
    (loops_in_flow f (suc a) i)
    (two_ways (AimsPast (suc a) (suc a + width f)) a (suc a) k i a checks c x y m None (omega arith) (omega arith) one other mark tt, tt)

step_in : (T : ℕ → Type 0) (a b i j l to : ℕ) (sets : List Set) → a ≤ l → l < b → T to → IsSpotIn T a b i j l (Act [] (way to sets None))
step_in T a b i j l to sets low high h = record { low = low; high = high; ways = record { leads = h; turn = tt } }

while_fits : (checks : List Check) (c : Term) (f : Flow) (place : Place) (a i : ℕ) (to : Exits) → IsOutside a (a + suc (width f)) to.next
    → AllFit (suc i) (loops_of f (suc a)) (suc a) (spots_of f (suc a) (suc i) (in_loop a to))
    → AllFit i (loops_of (while_ checks c f place) a) a (spots_of (while_ checks c f place) a i to)
while_fits checks c f place a i to out h =
    let some = some_width f in (
      (
        test_fits a (a + width f) i to.next place checks c (omega (arith, some))
            (narrow_out a (a + suc (width f)) a (suc (a + width f)) to.next (omega arith) (omega arith) out),
        inside_flow f (suc a) (suc i) (in_loop a to) i (bare a (a + width f) false place) (omega arith) (omega arith) (omega arith)
            (inr (omega arith)),
      ),
      fits_cons (suc i) (loops_of f (suc a)) a (Branch checks c (way (suc a) [] (Some i)) (way to.next [] None))
          (spots_of f (suc a) (suc i) (in_loop a to))
          (before_part f a (suc i) i checks c (suc a) to.next (Some i) (inr refl)
          (inl (narrow_out a (a + suc (width f)) (suc a) (suc a + width f) to.next (omega arith) (omega arith) out))
          (omega arith, omega arith) (omega arith)) h,
    )

for_fits : (checks : List Check) (c : Term) (f : Flow) (sets : List Set) (place : Place) (a i : ℕ) (to : Exits)
    → IsOutside a (a + suc (width f + 1)) to.next
    → AllFit (suc i) (loops_of f (suc a)) (suc a) (spots_of f (suc a) (suc i) (in_loop (suc a + width f) to))
    → AllFit i (loops_of (for_ checks c f sets place) a) a (spots_of (for_ checks c f sets place) a i to)
for_fits checks c f sets place a i to out h = (
  (
    test_fits a (suc (a + width f)) i to.next place checks c (omega arith)
        (narrow_out a (a + suc (width f + 1)) a (suc (suc (a + width f))) to.next (omega arith) (omega arith) out),
    each_append (SpotFits i loop) (suc a) (width f) body step (length_spots f (suc a) (suc i) (in_loop (suc a + width f) to))
        (inside_flow f (suc a) (suc i) (in_loop (suc a + width f) to) i loop (omega arith) (omega arith) (omega arith) (inr (omega arith)))
        (inside_all (λ x. Unit {0}) i loop (suc a + width f) (suc (suc a + width f)) (suc i) (suc i) (inl (omega arith)) (omega arith)
        (omega arith)
        (inr (omega arith)) (suc a + width f) step (
          step_in (λ x. Unit {0}) (suc a + width f) (suc (suc a + width f)) (suc i) (suc i) (suc a + width f) a sets (omega arith)
              (omega arith) tt,
          tt,
        )),
  ),
  fits_cons (suc i) (loops_of f (suc a)) a (Branch checks c (way (suc a) [] (Some i)) (way to.next [] None)) (body ++ step)
      (before_part f a (suc i) i checks c (suc a) to.next (Some i) (inr refl)
      (inl (narrow_out a (a + suc (width f + 1)) (suc a) (suc a + width f) to.next (omega arith) (omega arith) out))
      (omega arith, omega arith) (omega arith))
      (fits_append (suc i) (loops_of f (suc a)) (suc a) (width f) body step
      (length_spots f (suc a) (suc i) (in_loop (suc a + width f) to)) h
      (apart_all (suc a + width f) (suc (suc a + width f)) i (suc i) (suc a) (suc a + width f) (suc i) (suc i + loops_in f)
      (record { place = inr (omega arith); numbers = inl (omega arith) }) (suc i) (loops_of f (suc a)) (suc a + width f) step
      (loops_in_flow f (suc a) (suc i)) (
        step_in (AimsPast (suc a) (suc a + width f)) (suc a + width f) (suc (suc a + width f)) i (suc i) (suc a + width f) a sets
            (omega arith) (omega arith) (inl (inl (omega arith))),
        tt,
      ))),
)
  where
    loop : Loop
    loop = bare a (suc (a + width f)) false place

    body : List Spot
    body = spots_of f (suc a) (suc i) (in_loop (suc a + width f) to)

    step : List Spot
    step = Act [] (way a sets None) ∷ []

repeat_fits : (f : Flow) (checks : List Check) (c : Term) (place : Place) (a i : ℕ) (to : Exits) → IsOutside a (a + (width f + 1)) to.next
    → AllFit (suc i) (loops_of f a) a (spots_of f a (suc i) (in_loop (a + width f) to))
    → AllFit i (loops_of (repeat_ f checks c place) a) a (spots_of (repeat_ f checks c place) a i to)
repeat_fits f checks c place a i to out h = (
  each_append (SpotFits i loop) a (width f) body test (length_spots f a (suc i) (in_loop (a + width f) to))
      (inside_flow f a (suc i) (in_loop (a + width f) to) i loop (omega arith) (omega arith) (omega arith) (inl refl))
      (until_fits a (a + width f) i to.next place checks c (omega arith), tt),
  fits_append (suc i) (loops_of f a) a (width f) body test (length_spots f a (suc i) (in_loop (a + width f) to)) h
      (apart_all (a + width f) (suc (a + width f)) i (suc i) a (a + width f) (suc i) (suc i + loops_in f)
      (record { place = inr (omega arith); numbers = inl (omega arith) }) (suc i) (loops_of f a) (a + width f) test
      (loops_in_flow f a (suc i)) (
        two_ways (AimsPast a (a + width f)) (a + width f) (suc (a + width f)) i (suc i) (a + width f) checks c to.next a None (Some i)
            (omega arith) (omega arith) (inl (narrow_out a (a + (width f + 1)) a (a + width f) to.next (omega arith) (omega arith) out))
            (inr refl)
            tt (omega arith, omega arith),
        tt,
      )),
)
  where
    loop : Loop
    loop = bare a (a + width f) true place

    body : List Spot
    body = spots_of f a (suc i) (in_loop (a + width f) to)

    test : List Spot
    test = Branch checks c (way to.next [] None) (way a [] (Some i)) ∷ []

then_exits : (f g : Flow) (a : ℕ) (to : Exits) → AreOutside (a + width f) (a + width f + width g) to
    → LeadTo (AimsPast (a + width f) (a + width f + width g)) (before (a + width f) to)
then_exits f g a to out = record {
  next = inr refl;
  on_exit = inl out.on_exit;
  on_continue = inl out.on_continue;
  on_return = inl out.on_return;
}

pub flow_fits : (f : Flow) (a i : ℕ) (to : Exits) → AreOutside a (a + width f) to → AllFit i (loops_of f a) a (spots_of f a i to)
flow_fits (act checks sets) a i to out = tt
flow_fits (enter block instance place) a i to out = tt
flow_fits (leave which) a i to out = tt
flow_fits (then_ f g) a i to out = two_fit f g a i (before (a + width f) to) to
    (then_exits f g a to (narrow_exits a (a + (width f + width g)) (a + width f) (a + width f + width g) to (omega arith)
    (omega arith) out))
    (exits_past a (a + width f) to (narrow_exits a (a + (width f + width g)) a (a + width f) to (omega arith) (omega arith) out))
    (flow_fits f a i (before (a + width f) to)
    (before_exits a (a + (width f + width g)) a (a + width f) (a + width f) to (omega arith) (omega arith) (inr (omega arith)) out))
    (flow_fits g (a + width f) (i + loops_in f) to
    (narrow_exits a (a + (width f + width g)) (a + width f) (a + width f + width g) to (omega arith) (omega arith) out))
flow_fits (if_ checks c f) a i to out =
    fits_cons i (loops_of f (suc a)) a (Branch checks c (way (suc a) [] None) (way to.next [] None)) (spots_of f (suc a) i to)
    (before_part f a i i checks c (suc a) to.next None (inr refl)
    (inl (narrow_out a (a + suc (width f)) (suc a) (suc a + width f) to.next (omega arith) (omega arith) out.next)) tt (omega arith))
    (flow_fits f (suc a) i to (narrow_exits a (a + suc (width f)) (suc a) (suc a + width f) to (omega arith) (omega arith) out))
flow_fits (choice checks c f g) a i to out =
    fits_cons i (loops_of f (suc a) ++ loops_of g (suc a + width f)) a test
    (spots_of f (suc a) i to ++ spots_of g (suc a + width f) (i + loops_in f) to)
    (each_append (λ k loop. EachFrom (SpotFits k loop) a (test ∷ [])) i (loops_in f) (loops_of f (suc a)) (loops_of g (suc a + width f))
    (length_loops f (suc a))
    (before_part f a i i checks c (suc a) (suc a + width f) None (inr refl) (inl (inr (omega arith))) tt (omega arith))
    (apart_all a (suc a) i i (suc a + width f) (suc a + width f + width g) (i + loops_in f) (i + loops_in f + loops_in g)
    (record { place = inl (omega arith); numbers = inl (omega arith) }) (i + loops_in f) (loops_of g (suc a + width f)) a (test ∷ [])
    (loops_in_flow g (suc a + width f) (i + loops_in f)) (
      two_ways (AimsPast (suc a + width f) (suc a + width f + width g)) a (suc a) i i a checks c (suc a) (suc a + width f) None None
          (omega arith) (omega arith) first_aims (inr refl) tt tt,
      tt,
    )))
    (two_fit f g (suc a) i to to
    (exits_past (suc a + width f) (suc a + width f + width g) to
    (narrow_exits a (a + suc (width f + width g)) (suc a + width f) (suc a + width f + width g) to (omega arith) (omega arith) out))
    (exits_past (suc a) (suc a + width f) to
    (narrow_exits a (a + suc (width f + width g)) (suc a) (suc a + width f) to (omega arith) (omega arith) out))
    (flow_fits f (suc a) i to (narrow_exits a (a + suc (width f + width g)) (suc a) (suc a + width f) to (omega arith) (omega arith) out))
    (flow_fits g (suc a + width f) (i + loops_in f) to
    (narrow_exits a (a + suc (width f + width g)) (suc a + width f) (suc a + width f + width g) to (omega arith) (omega arith) out)))
  where
    test : Spot
    test = Branch checks c (way (suc a) [] None) (way (suc a + width f) [] None)

    first_aims : AimsPast (suc a + width f) (suc a + width f + width g) (suc a)
    first_aims = let some = some_width f in inl (inl (omega (arith, some)))
flow_fits (while_ checks c f place) a i to out = while_fits checks c f place a i to out.next
    (flow_fits f (suc a) (suc i) (in_loop a to)
    (loop_exits a (a + suc (width f)) (suc a) (suc a + width f) a to (omega arith) (omega arith) (inl (omega arith)) out))
flow_fits (for_ checks c f sets place) a i to out = for_fits checks c f sets place a i to out.next
    (flow_fits f (suc a) (suc i) (in_loop (suc a + width f) to)
    (loop_exits a (a + suc (width f + 1)) (suc a) (suc a + width f) (suc a + width f) to (omega arith) (omega arith)
    (inr (omega arith)) out))
flow_fits (repeat_ f checks c place) a i to out = repeat_fits f checks c place a i to out.next
    (flow_fits f a (suc i) (in_loop (a + width f) to)
    (loop_exits a (a + (width f + 1)) a (a + width f) (a + width f) to (omega arith) (omega arith) (inr (omega arith)) out))
