-- Which way a flow's ways lead: forward, or back to the first location of a loop that holds where they begin, as a turn of it where
-- entering it starts one.
use Rattle.std.proofs.Common.{◌≡◌, ℕ, suc, ◌+◌, ◌<◌, ◌≤◌, inl, inr, List, [], ◌∷◌, slice_get, true, false, Some, None, refl, arith}
use Rattle.pv_place.specs.declared.place.Place.{Place}
use Rattle.pv_flow.specs.Automata.{Loop}
use Rattle.pv_layout.specs.Spots.{Spot, Act, Branch, way}
use Rattle.pv_layout.specs.Flows.{Leaving, by_exit, by_continue, by_return, Flow, act, enter, leave, then_, if_, choice, while_, for_, repeat_}
use Rattle.pv_layout.specs.Layout.{width, loops_in, Exits, exit_by, before, in_loop, spots_of, loops_of, bare}
use Rattle.pv_layout.specs.Sound.{EachWay, IsLed}
use Rattle.pv_layout.specs.Correct.{IsLaid}
use Rattle.pv_layout.proofs.Lists.{laid_front, laid_back}
use Rattle.pv_layout.proofs.Turns.{holds_from}
use Rattle.pv_layout.proofs.Laying.{length_spots, length_loops}
use Rattle.pv_layout.proofs.Each.{EachFrom, each_append}

abbrev pub AreLed : List Loop → ℕ → List Spot → Type 0
AreLed loops a spots = EachFrom (λ l spot. EachWay (IsLed loops l) spot) a spots

-- from each location of a part its exits are led to
pub record ExitsLed (loops : List Loop) (a b : ℕ) (to : Exits) : Type 0 where
  pub next : (l : ℕ) → a ≤ l → l < b → IsLed loops l to.next None
  pub on_exit : (l : ℕ) → a ≤ l → l < b → IsLed loops l to.on_exit None
  pub on_continue : (l : ℕ) → a ≤ l → l < b → IsLed loops l to.on_continue None
  pub on_return : (l : ℕ) → a ≤ l → l < b → IsLed loops l to.on_return None

narrow : (loops : List Loop) (a b c d : ℕ) (to : Exits) → a ≤ c → d ≤ b → ExitsLed loops a b to → ExitsLed loops c d to
narrow loops a b c d to low high h = record {
  next = λ l from below. h.next l (omega (arith, low, from)) (omega (arith, high, below));
  on_exit = λ l from below. h.on_exit l (omega (arith, low, from)) (omega (arith, high, below));
  on_continue = λ l from below. h.on_continue l (omega (arith, low, from)) (omega (arith, high, below));
  on_return = λ l from below. h.on_return l (omega (arith, low, from)) (omega (arith, high, below));
}

narrow_before : (loops : List Loop) (a b c d n : ℕ) (to : Exits) → a ≤ c → d ≤ b → ((l : ℕ) → c ≤ l → l < d → IsLed loops l n None)
    → ExitsLed loops a b to → ExitsLed loops c d (before n to)
narrow_before loops a b c d n to low high next h = record {
  next = next;
  on_exit = λ l from below. h.on_exit l (omega (arith, low, from)) (omega (arith, high, below));
  on_continue = λ l from below. h.on_continue l (omega (arith, low, from)) (omega (arith, high, below));
  on_return = λ l from below. h.on_return l (omega (arith, low, from)) (omega (arith, high, below));
}

narrow_loop : (loops : List Loop) (a b c d n : ℕ) (to : Exits) → a ≤ c → d ≤ b → ((l : ℕ) → c ≤ l → l < d → IsLed loops l n None)
    → ExitsLed loops a b to → ExitsLed loops c d (in_loop n to)
narrow_loop loops a b c d n to low high next h = record {
  next = next;
  on_exit = λ l from below. h.next l (omega (arith, low, from)) (omega (arith, high, below));
  on_continue = next;
  on_return = λ l from below. h.on_return l (omega (arith, low, from)) (omega (arith, high, below));
}

leave_led : (loops : List Loop) (a b l : ℕ) (which : Leaving) (to : Exits) → ExitsLed loops a b to → a ≤ l → l < b
    → IsLed loops l (exit_by which to) None
leave_led loops a b l by_exit to h low high = h.on_exit l low high
leave_led loops a b l by_continue to h low high = h.on_continue l low high
leave_led loops a b l by_return to h low high = h.on_return l low high

-- back to the test of a loop that begins with it
back_to_test : (loops : List Loop) (i a last l : ℕ) (place : Place) → slice_get loops i ≡ Some (bare a last false place) → a ≤ l → l ≤ last
    → IsLed loops l a None
back_to_test loops i a last l place stands low high = inr (record {
  number = i;
  loop = bare a last false place;
  stands = stands;
  first = refl;
  held = holds_from (bare a last false place) l low high;
  turn = inl refl;
})

back_by_turn : (loops : List Loop) (i a last l : ℕ) (place : Place) → slice_get loops i ≡ Some (bare a last true place) → a ≤ l → l ≤ last
    → IsLed loops l a (Some i)
back_by_turn loops i a last l place stands low high = inr (record {
  number = i;
  loop = bare a last true place;
  stands = stands;
  first = refl;
  held = holds_from (bare a last true place) l low high;
  turn = inr refl;
})

pub flow_led : (loops : List Loop) (f : Flow) (a i : ℕ) (to : Exits) → IsLaid loops i (loops_of f a) → ExitsLed loops a (a + width f) to
    → AreLed loops a (spots_of f a i to)
flow_led loops (act checks sets) a i to laid out = (out.next a (omega arith) (omega arith), tt)
flow_led loops (enter block instance place) a i to laid out = (out.next a (omega arith) (omega arith), tt)
flow_led loops (leave which) a i to laid out = (leave_led loops a (a + 1) a which to out (omega arith) (omega arith), tt)
flow_led loops (then_ f g) a i to laid out =
    each_append (λ l spot. EachWay (IsLed loops l) spot) a (width f) (spots_of f a i (before (a + width f) to))
    (spots_of g (a + width f) (i + loops_in f) to) (length_spots f a i (before (a + width f) to))
    (flow_led loops f a i (before (a + width f) to) (laid_front loops i (loops_of f a) (loops_of g (a + width f)) laid)
    (narrow_before loops a (a + (width f + width g)) a (a + width f) (a + width f) to (omega arith) (omega arith)
    (λ l low high. inl high) out))
    (flow_led loops g (a + width f) (i + loops_in f) to
    (laid_back loops i (loops_in f) (loops_of f a) (loops_of g (a + width f)) (length_loops f a) laid)
    (narrow loops a (a + (width f + width g)) (a + width f) (a + width f + width g) to (omega arith) (omega arith) out))
flow_led loops (if_ checks c f) a i to laid out = (
  (inl (omega arith), out.next a (omega arith) (omega arith)),
  flow_led loops f (suc a) i to laid (narrow loops a (a + suc (width f)) (suc a) (suc a + width f) to (omega arith) (omega arith) out),
)
flow_led loops (choice checks c f g) a i to laid out = (
  (inl (omega arith), inl (omega arith)),
  each_append (λ l spot. EachWay (IsLed loops l) spot) (suc a) (width f) (spots_of f (suc a) i to)
      (spots_of g (suc a + width f) (i + loops_in f) to) (length_spots f (suc a) i to)
      (flow_led loops f (suc a) i to (laid_front loops i (loops_of f (suc a)) (loops_of g (suc a + width f)) laid)
      (narrow loops a (a + suc (width f + width g)) (suc a) (suc a + width f) to (omega arith) (omega arith) out))
      (flow_led loops g (suc a + width f) (i + loops_in f) to
      (laid_back loops i (loops_in f) (loops_of f (suc a)) (loops_of g (suc a + width f)) (length_loops f (suc a)) laid)
      (narrow loops a (a + suc (width f + width g)) (suc a + width f) (suc a + width f + width g) to (omega arith) (omega arith) out)),
)
flow_led loops (while_ checks c f place) a i to laid out = (
  (inl (omega arith), out.next a (omega arith) (omega arith)),
  flow_led loops f (suc a) (suc i) (in_loop a to) laid.1
      (narrow_loop loops a (a + suc (width f)) (suc a) (suc a + width f) a to (omega arith) (omega arith)
      (λ l low high. back_to_test loops i a (a + width f) l place laid.0 (omega (arith, low)) (omega (arith, high))) out),
)
flow_led loops (for_ checks c f sets place) a i to laid out = (
  (inl (omega arith), out.next a (omega arith) (omega arith)),
  each_append (λ l spot. EachWay (IsLed loops l) spot) (suc a) (width f) (spots_of f (suc a) (suc i) (in_loop (suc a + width f) to))
      (Act [] (way a sets None) ∷ []) (length_spots f (suc a) (suc i) (in_loop (suc a + width f) to))
      (flow_led loops f (suc a) (suc i) (in_loop (suc a + width f) to) laid.1
      (narrow_loop loops a (a + suc (width f + 1)) (suc a) (suc a + width f) (suc a + width f) to (omega arith) (omega arith)
      (λ l low high. inl high) out))
      (back_to_test loops i a (suc (a + width f)) (suc a + width f) place laid.0 (omega arith) (omega arith), tt),
)
flow_led loops (repeat_ f checks c place) a i to laid out =
    each_append (λ l spot. EachWay (IsLed loops l) spot) a (width f) (spots_of f a (suc i) (in_loop (a + width f) to))
    (Branch checks c (way to.next [] None) (way a [] (Some i)) ∷ []) (length_spots f a (suc i) (in_loop (a + width f) to))
    (flow_led loops f a (suc i) (in_loop (a + width f) to) laid.1
    (narrow_loop loops a (a + (width f + 1)) a (a + width f) (a + width f) to (omega arith) (omega arith) (λ l low high. inl high) out)) (
      (
        out.next (a + width f) (omega arith) (omega arith),
        back_by_turn loops i a (a + width f) (a + width f) place laid.0 (omega arith)
            (omega arith),
      ),
      tt,
    )
