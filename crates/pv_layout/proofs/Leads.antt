-- Where the ways of a flow's spots lead, and which turns they start: to locations of its own or to its exits, and turns of its own loops.
use Rattle.std.proofs.Common.{ℕ, suc, ◌+◌, ◌<◌, ◌≤◌, [], ◌∷◌, IfSome, Option, Some, None, arith}
use Rattle.pv_layout.specs.Spots.{Spot, Act, Branch, Enter, way}
use Rattle.pv_layout.specs.Flows.{Leaving, by_exit, by_continue, by_return, Flow, act, enter, leave, then_, if_, choice, while_, for_, repeat_}
use Rattle.pv_layout.specs.Layout.{width, loops_in, Exits, exit_by, before, in_loop, spots_of, loops_of}
use Rattle.pv_layout.specs.Sound.{EachWay}
use Rattle.pv_flow.specs.Automata.{Loop}
use Rattle.pv_layout.proofs.Laying.{some_width, length_spots, length_loops}
use Rattle.pv_layout.proofs.Each.{EachFrom, each_append, each_map}

pub way_map : (P Q : ℕ → Option ℕ → Type 0) (spot : Spot) → ((to : ℕ) (mark : Option ℕ) → P to mark → Q to mark) → EachWay P spot
    → EachWay Q spot
way_map P Q (Act checks on) go h = go on.to on.turn h
way_map P Q (Branch checks c one other) go h = (go one.to one.turn h.0, go other.to other.turn h.1)
way_map P Q (Enter block instance place to) go h = go to None h

-- ---- ways

-- the loop of which it starts a turn, if it does, is one of those from i on, below j
abbrev pub IsMarkIn : ℕ → ℕ → Option ℕ → Type 0
IsMarkIn i j mark = IfSome mark (λ k. (i ≤ k) × (k < j))

pub record IsWayIn (T : ℕ → Type 0) (i j to : ℕ) (mark : Option ℕ) : Type 0 where
  pub leads : T to
  pub turn : IsMarkIn i j mark

-- a spot at location l, among those from a on, below b
pub record IsSpotIn (T : ℕ → Type 0) (a b i j l : ℕ) (spot : Spot) : Type 0 where
  pub low : a ≤ l
  pub high : l < b
  pub ways : EachWay (IsWayIn T i j) spot

mark_wider : (i j k m : ℕ) (mark : Option ℕ) → k ≤ i → j ≤ m → IsMarkIn i j mark → IsMarkIn k m mark
mark_wider i j k m None low high h = tt
mark_wider i j k m (Some n) low high h = (omega (arith, low, h.0), omega (arith, high, h.1))

spot_wider : (T : ℕ → Type 0) (a b c d i j k m : ℕ) → c ≤ a → b ≤ d → k ≤ i → j ≤ m → (l : ℕ) (spot : Spot) → IsSpotIn T a b i j l spot
    → IsSpotIn T c d k m l spot
spot_wider T a b c d i j k m low high first last l spot h = record {
  low = let le = h.low in omega (arith, low, le);
  high = let lt = h.high in omega (arith, high, lt);
  ways = way_map (IsWayIn T i j) (IsWayIn T k m) spot
      (λ to mark w. record { leads = w.leads; turn = mark_wider i j k m mark first last w.turn }) h.ways;
}

abbrev pub AreSpotsIn : (ℕ → Type 0) → Flow → ℕ → ℕ → Exits → Type 0
AreSpotsIn T f a i to = EachFrom (IsSpotIn T a (a + width f) i (i + loops_in f)) a (spots_of f a i to)

pub part_wider : (T : ℕ → Type 0) (f : Flow) (a i : ℕ) (to : Exits) (c d k m : ℕ) → c ≤ a → a + width f ≤ d → k ≤ i → i + loops_in f ≤ m
    → AreSpotsIn T f a i to → EachFrom (IsSpotIn T c d k m) a (spots_of f a i to)
part_wider T f a i to c d k m low high first last h = each_map (IsSpotIn T a (a + width f) i (i + loops_in f)) (IsSpotIn T c d k m) a
    (spots_of f a i to) (spot_wider T a (a + width f) c d i (i + loops_in f) k m low high first last) h

pub record LeadTo (T : ℕ → Type 0) (to : Exits) : Type 0 where
  pub next : T to.next
  pub on_exit : T to.on_exit
  pub on_continue : T to.on_continue
  pub on_return : T to.on_return

leave_to : (T : ℕ → Type 0) (which : Leaving) (to : Exits) → LeadTo T to → T (exit_by which to)
leave_to T by_exit to h = h.on_exit
leave_to T by_continue to h = h.on_continue
leave_to T by_return to h = h.on_return

before_to : (T : ℕ → Type 0) (n : ℕ) (to : Exits) → T n → LeadTo T to → LeadTo T (before n to)
before_to T n to next h = record { next = next; on_exit = h.on_exit; on_continue = h.on_continue; on_return = h.on_return }

loop_to : (T : ℕ → Type 0) (n : ℕ) (to : Exits) → T n → LeadTo T to → LeadTo T (in_loop n to)
loop_to T n to next h = record { next = next; on_exit = h.next; on_continue = next; on_return = h.on_return }

plain_way : (T : ℕ → Type 0) (i j to : ℕ) → T to → IsWayIn T i j to None
plain_way T i j to h = record { leads = h; turn = tt }

turn_way : (T : ℕ → Type 0) (i j to : ℕ) → i < j → T to → IsWayIn T i j to (Some i)
turn_way T i j to lt h = record { leads = h; turn = (omega arith, lt) }

-- where T is so of the flow's own locations and of its exits, it is so of all that its ways lead to
pub spots_in : (T : ℕ → Type 0) (f : Flow) (a i : ℕ) (to : Exits) → ((x : ℕ) → a ≤ x → x < a + width f → T x) → LeadTo T to
    → AreSpotsIn T f a i to
spots_in T (act checks sets) a i to own out =
    (record { low = omega arith; high = omega arith; ways = plain_way T i (i + 0) to.next out.next }, tt)
spots_in T (enter block instance place) a i to own out =
    (record { low = omega arith; high = omega arith; ways = plain_way T i (i + 0) to.next out.next }, tt)
spots_in T (leave which) a i to own out =
    (record { low = omega arith; high = omega arith; ways = plain_way T i (i + 0) (exit_by which to) (leave_to T which to out) }, tt)
spots_in T (then_ f g) a i to own out =
    let some = some_width g in
    each_append (IsSpotIn T a (a + (width f + width g)) i (i + (loops_in f + loops_in g))) a (width f)
    (spots_of f a i (before (a + width f) to)) (spots_of g (a + width f) (i + loops_in f) to) (length_spots f a i (before (a + width f) to))
    (part_wider T f a i (before (a + width f) to) a (a + (width f + width g)) i (i + (loops_in f + loops_in g))
    (omega arith) (omega arith) (omega arith) (omega arith)
    (spots_in T f a i (before (a + width f) to) (λ x low high. own x low (omega (arith, high)))
    (before_to T (a + width f) to (own (a + width f) (omega arith) (omega (arith, some))) out)))
    (part_wider T g (a + width f) (i + loops_in f) to a (a + (width f + width g)) i (i + (loops_in f + loops_in g))
    (omega arith) (omega arith) (omega arith) (omega arith)
    (spots_in T g (a + width f) (i + loops_in f) to (λ x low high. own x (omega (arith, low)) (omega (arith, high))) out))
spots_in T (if_ checks c f) a i to own out =
    let some = some_width f in (
      record {
        low = omega arith;
        high = omega arith;
        ways = (
          plain_way T i (i + loops_in f) (suc a) (own (suc a) (omega arith) (omega (arith, some))),
          plain_way T i (i + loops_in f) to.next out.next,
        );
      },
      part_wider T f (suc a) i to a (a + suc (width f)) i (i + loops_in f) (omega arith) (omega arith) (omega arith) (omega arith)
          (spots_in T f (suc a) i to (λ x low high. own x (omega (arith, low)) (omega (arith, high))) out),
    )
spots_in T (choice checks c f g) a i to own out =
    let one = some_width f in
    let two = some_width g in (
      record {
        low = omega arith;
        high = omega arith;
        ways = (
          plain_way T i (i + (loops_in f + loops_in g)) (suc a) (own (suc a) (omega arith) (omega (arith, one))),
          plain_way T i (i + (loops_in f + loops_in g)) (suc a + width f) (own (suc a + width f) (omega arith) (omega (arith, two))),
        );
      },
      each_append (IsSpotIn T a (a + suc (width f + width g)) i (i + (loops_in f + loops_in g))) (suc a) (width f)
          (spots_of f (suc a) i to) (spots_of g (suc a + width f) (i + loops_in f) to) (length_spots f (suc a) i to)
          (part_wider T f (suc a) i to a (a + suc (width f + width g)) i (i + (loops_in f + loops_in g))
          (omega arith) (omega arith) (omega arith) (omega arith)
          (spots_in T f (suc a) i to (λ x low high. own x (omega (arith, low)) (omega (arith, high))) out))
          (part_wider T g (suc a + width f) (i + loops_in f) to a (a + suc (width f + width g)) i (i + (loops_in f + loops_in g))
          (omega arith) (omega arith) (omega arith) (omega arith)
          (spots_in T g (suc a + width f) (i + loops_in f) to (λ x low high. own x (omega (arith, low)) (omega (arith, high))) out)),
    )
spots_in T (while_ checks c f place) a i to own out =
    let some = some_width f in (
      record {
        low = omega arith;
        high = omega arith;
        ways = (
          turn_way T i (i + suc (loops_in f)) (suc a) (omega arith) (own (suc a) (omega arith) (omega (arith, some))),
          plain_way T i (i + suc (loops_in f)) to.next out.next,
        );
      },
      part_wider T f (suc a) (suc i) (in_loop a to) a (a + suc (width f)) i (i + suc (loops_in f))
          (omega arith) (omega arith) (omega arith) (omega arith)
          (spots_in T f (suc a) (suc i) (in_loop a to) (λ x low high. own x (omega (arith, low)) (omega (arith, high)))
          (loop_to T a to (own a (omega arith) (omega arith)) out)),
    )
spots_in T (for_ checks c f sets place) a i to own out =
    let some = some_width f in (
      record {
        low = omega arith;
        high = omega arith;
        ways = (
          turn_way T i (i + suc (loops_in f)) (suc a) (omega arith) (own (suc a) (omega arith) (omega (arith, some))),
          plain_way T i (i + suc (loops_in f)) to.next out.next,
        );
      },
      each_append (IsSpotIn T a (a + suc (width f + 1)) i (i + suc (loops_in f))) (suc a) (width f)
          (spots_of f (suc a) (suc i) (in_loop (suc a + width f) to)) (Act [] (way a sets None) ∷ [])
          (length_spots f (suc a) (suc i) (in_loop (suc a + width f) to))
          (part_wider T f (suc a) (suc i) (in_loop (suc a + width f) to) a (a + suc (width f + 1)) i (i + suc (loops_in f))
          (omega arith) (omega arith) (omega arith) (omega arith)
          (spots_in T f (suc a) (suc i) (in_loop (suc a + width f) to) (λ x low high. own x (omega (arith, low)) (omega (arith, high)))
          (loop_to T (suc a + width f) to (own (suc a + width f) (omega arith) (omega arith)) out))) (
            record {
              low = omega arith;
              high = omega arith;
              ways = plain_way T i (i + suc (loops_in f)) a (own a (omega arith) (omega arith));
            },
            tt,
          ),
    )
spots_in T (repeat_ f checks c place) a i to own out =
    each_append (IsSpotIn T a (a + (width f + 1)) i (i + suc (loops_in f))) a (width f)
    (spots_of f a (suc i) (in_loop (a + width f) to)) (Branch checks c (way to.next [] None) (way a [] (Some i)) ∷ [])
    (length_spots f a (suc i) (in_loop (a + width f) to))
    (part_wider T f a (suc i) (in_loop (a + width f) to) a (a + (width f + 1)) i (i + suc (loops_in f))
    (omega arith) (omega arith) (omega arith) (omega arith)
    (spots_in T f a (suc i) (in_loop (a + width f) to) (λ x low high. own x low (omega (arith, high)))
    (loop_to T (a + width f) to (own (a + width f) (omega arith) (omega arith)) out))) (
      record {
        low = omega arith;
        high = omega arith;
        ways = (
          plain_way T i (i + suc (loops_in f)) to.next out.next,
          turn_way T i (i + suc (loops_in f)) a (omega arith) (own a (omega arith) (omega arith)),
        );
      },
      tt,
    )

-- ---- loops

-- loop k, of those from i on, below j, in the locations from a on, below b
pub record IsLoopIn (a b i j k : ℕ) (loop : Loop) : Type 0 where
  pub low : a ≤ loop.first
  pub range : loop.first ≤ loop.last
  pub high : loop.last < b
  pub from : i ≤ k
  pub below : k < j

loop_wider : (a b c d i j k m : ℕ) → c ≤ a → b ≤ d → k ≤ i → j ≤ m → (n : ℕ) (loop : Loop) → IsLoopIn a b i j n loop
    → IsLoopIn c d k m n loop
loop_wider a b c d i j k m low high first last n loop h = record {
  low = let le = h.low in omega (arith, low, le);
  range = h.range;
  high = let lt = h.high in omega (arith, high, lt);
  from = let le = h.from in omega (arith, first, le);
  below = let lt = h.below in omega (arith, last, lt);
}

abbrev pub AreLoopsIn : Flow → ℕ → ℕ → Type 0
AreLoopsIn f a i = EachFrom (IsLoopIn a (a + width f) i (i + loops_in f)) i (loops_of f a)

pub part_loops : (f : Flow) (a i c d k m : ℕ) → c ≤ a → a + width f ≤ d → k ≤ i → i + loops_in f ≤ m → AreLoopsIn f a i
    → EachFrom (IsLoopIn c d k m) i (loops_of f a)
part_loops f a i c d k m low high first last h = each_map (IsLoopIn a (a + width f) i (i + loops_in f)) (IsLoopIn c d k m) i (loops_of f a)
    (loop_wider a (a + width f) c d i (i + loops_in f) k m low high first last) h

pub loops_in_flow : (f : Flow) (a i : ℕ) → AreLoopsIn f a i
loops_in_flow (act checks sets) a i = tt
loops_in_flow (enter block instance place) a i = tt
loops_in_flow (leave which) a i = tt
loops_in_flow (then_ f g) a i = each_append (IsLoopIn a (a + (width f + width g)) i (i + (loops_in f + loops_in g))) i (loops_in f)
    (loops_of f a) (loops_of g (a + width f)) (length_loops f a)
    (part_loops f a i a (a + (width f + width g)) i (i + (loops_in f + loops_in g)) (omega arith) (omega arith) (omega arith) (omega arith)
    (loops_in_flow f a i))
    (part_loops g (a + width f) (i + loops_in f) a (a + (width f + width g)) i (i + (loops_in f + loops_in g))
    (omega arith) (omega arith) (omega arith) (omega arith) (loops_in_flow g (a + width f) (i + loops_in f)))
loops_in_flow (if_ checks c f) a i = part_loops f (suc a) i a (a + suc (width f)) i (i + loops_in f)
    (omega arith) (omega arith) (omega arith) (omega arith) (loops_in_flow f (suc a) i)
loops_in_flow (choice checks c f g) a i = each_append (IsLoopIn a (a + suc (width f + width g)) i (i + (loops_in f + loops_in g))) i
    (loops_in f)
    (loops_of f (suc a)) (loops_of g (suc a + width f)) (length_loops f (suc a))
    (part_loops f (suc a) i a (a + suc (width f + width g)) i (i + (loops_in f + loops_in g))
    (omega arith) (omega arith) (omega arith) (omega arith) (loops_in_flow f (suc a) i))
    (part_loops g (suc a + width f) (i + loops_in f) a (a + suc (width f + width g)) i (i + (loops_in f + loops_in g))
    (omega arith) (omega arith) (omega arith) (omega arith) (loops_in_flow g (suc a + width f) (i + loops_in f)))
loops_in_flow (while_ checks c f place) a i = (
  record { low = omega arith; range = omega arith; high = omega arith; from = omega arith; below = omega arith },
  part_loops f (suc a) (suc i) a (a + suc (width f)) i (i + suc (loops_in f)) (omega arith) (omega arith) (omega arith) (omega arith)
      (loops_in_flow f (suc a) (suc i)),
)
loops_in_flow (for_ checks c f sets place) a i = (
  record { low = omega arith; range = omega arith; high = omega arith; from = omega arith; below = omega arith },
  part_loops f (suc a) (suc i) a (a + suc (width f + 1)) i (i + suc (loops_in f)) (omega arith) (omega arith) (omega arith) (omega arith)
      (loops_in_flow f (suc a) (suc i)),
)
loops_in_flow (repeat_ f checks c place) a i = (
  record { low = omega arith; range = omega arith; high = omega arith; from = omega arith; below = omega arith },
  part_loops f a (suc i) a (a + (width f + 1)) i (i + suc (loops_in f)) (omega arith) (omega arith) (omega arith) (omega arith)
      (loops_in_flow f a (suc i)),
)
