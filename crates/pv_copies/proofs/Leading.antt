-- What an edge is to a loop, of all that an automaton keeps: where it enters it, and which edges start its turns; and how loops lie to one
-- another and in a range of locations.
use Rattle.std.proofs.Common.{◌≡◌, ℕ, zero, suc, ◌≤◌, ◌⊎◌, inl, inr, List, [], ◌∷◌, length, slice_get, Bool, true, false, not, ◌&&◌, ◌||◌, ◌==◌, nat_lt, nat_le, cond, Option, Some, IfSome, refl, sym, subst, ap, ◌∙◌, arith}
use Rattle.std.specs.List.{AllByRecursion, list_all}
use Rattle.std.proofs.lemmas.Bool.{both_ways, le-leb, eqb-true, eq-eqb, and_parts, and_from, or_cases, not-true}
use Rattle.std.proofs.lemmas.List.Elements.{recursion_from_All}
use Rattle.pv_flow.specs.Automata.{Edge, Loop, Parts, holds, is_turn}
use Rattle.pv_flow.specs.Faults.{cross, enters_well, is_entered_well, is_loop, IsFaultless}
use Rattle.pv_flow.specs.WellMade.{turns_well, IsLoop, IsWellMade}

-- ---- an edge and a loop

pub record IsLed (loop : Loop) (e from to : ℕ) : Type 0 where
  pub range : loop.first ≤ loop.last
  pub enters : holds loop from ≡ false → holds loop to ≡ true → to ≡ loop.first
  pub entry : loop.entry_turn ≡ true → is_turn loop e ≡ true → (holds loop from ≡ true) × (to ≡ loop.first)
  pub test : loop.entry_turn ≡ false → is_turn loop e ≡ true → (from ≡ loop.first) × (holds loop to ≡ true)
  pub starts : loop.entry_turn ≡ false → from ≡ loop.first → holds loop to ≡ true → is_turn loop e ≡ true

holds_first : (loop : Loop) → loop.first ≤ loop.last → holds loop loop.first ≡ true
holds_first loop le = and_from (nat_le loop.first loop.first) (nat_le loop.first loop.last) (le-leb loop.first loop.first (omega arith)) (le-leb loop.first loop.last le)

-- a turn edge begins and ends in its loop
pub turn_begins : (loop : Loop) (e from to : ℕ) → IsLed loop e from to → is_turn loop e ≡ true → holds loop from ≡ true
turn_begins loop e from to led turn = by loop.entry_turn refl
  where
    by : (b : Bool) → loop.entry_turn ≡ b → holds loop from ≡ true
    by true on = (led.entry on turn).0
    by false off = ap (λ (l : ℕ). holds loop l) (led.test off turn).0 ∙ holds_first loop led.range

pub turn_ends : (loop : Loop) (e from to : ℕ) → IsLed loop e from to → is_turn loop e ≡ true → holds loop to ≡ true
turn_ends loop e from to led turn = by loop.entry_turn refl
  where
    by : (b : Bool) → loop.entry_turn ≡ b → holds loop to ≡ true
    by true on = ap (λ (l : ℕ). holds loop l) (led.entry on turn).1 ∙ holds_first loop led.range
    by false off = (led.test off turn).1

pub no_turn_outside : (loop : Loop) (e from to : ℕ) → IsLed loop e from to → holds loop from ≡ false → is_turn loop e ≡ false
no_turn_outside loop e from to led out = by (is_turn loop e) refl
  where
    by : (b : Bool) → is_turn loop e ≡ b → is_turn loop e ≡ false
    by true on = absurd (both_ways (holds loop from) out (turn_begins loop e from to led on))
    by false off = off

-- where entering starts no turn, the turn edges are those that begin at the first location and stay
pub turn_is_first : (loop : Loop) (e l to : ℕ) → IsLed loop e l to → holds loop to ≡ true → loop.entry_turn ≡ false → is_turn loop e ≡ (loop.first == l)
turn_is_first loop e l to is held off = by (is_turn loop e) refl (loop.first == l) refl
  where
    by : (b : Bool) → is_turn loop e ≡ b → (c : Bool) → (loop.first == l) ≡ c → is_turn loop e ≡ (loop.first == l)
    by true on c same = on ∙ sym (eq-eqb loop.first l (sym (is.test off on).0))
    by false none true same = is.starts off (sym (eqb-true loop.first l same)) held ∙ sym same
    by false none false same = none ∙ sym same

-- what parts keep says so
abbrev Turns : Loop → ℕ → ℕ → ℕ → Type 0
Turns loop e from to = cond (is_turn loop e)
    (cond loop.entry_turn (holds loop from && (to == loop.first)) ((from == loop.first) && holds loop to))
    (loop.entry_turn || not ((from == loop.first) && holds loop to)) ≡ true

led_of : (loop : Loop) (e from to : ℕ) → loop.first ≤ loop.last → enters_well loop from to ≡ true → Turns loop e from to → IsLed loop e from to
led_of loop e from to range enters turns = record {
  range = range;
  enters = λ out held. eqb-true to loop.first (enter out held (or_cases (holds loop from || not (holds loop to)) (to == loop.first) enters));
  entry = λ on turn.
      let both = and_parts (holds loop from) (to == loop.first) (of_entry on turn) in (both.0, eqb-true to loop.first both.1);
  test = λ off turn.
      let both = and_parts (from == loop.first) (holds loop to) (of_test off turn) in (eqb-true from loop.first both.0, both.1);
  starts = λ off first held. start off (and_from (from == loop.first) (holds loop to) (eq-eqb from loop.first first) held) (is_turn loop e) refl;
}
  where
    enter : holds loop from ≡ false → holds loop to ≡ true
        → ((holds loop from || not (holds loop to)) ≡ true) ⊎ ((to == loop.first) ≡ true) → (to == loop.first) ≡ true
    enter out held (inr e) = e
    enter out held (inl h) = absurd (neither (or_cases (holds loop from) (not (holds loop to)) h))
      where
        neither : (holds loop from ≡ true) ⊎ (not (holds loop to) ≡ true) → ⊥
        neither (inl g) = both_ways (holds loop from) out g
        neither (inr g) = both_ways (holds loop to) (not-true (holds loop to) g) held

    turned : is_turn loop e ≡ true
        → cond loop.entry_turn (holds loop from && (to == loop.first)) ((from == loop.first) && holds loop to) ≡ true
    turned on = subst (λ (b : Bool). cond b
        (cond loop.entry_turn (holds loop from && (to == loop.first)) ((from == loop.first) && holds loop to))
        (loop.entry_turn || not ((from == loop.first) && holds loop to)) ≡ true) on turns

    of_entry : loop.entry_turn ≡ true → is_turn loop e ≡ true → (holds loop from && (to == loop.first)) ≡ true
    of_entry on turn = subst (λ (b : Bool). cond b (holds loop from && (to == loop.first)) ((from == loop.first) && holds loop to) ≡ true) on (turned turn)

    of_test : loop.entry_turn ≡ false → is_turn loop e ≡ true → ((from == loop.first) && holds loop to) ≡ true
    of_test off turn = subst (λ (b : Bool). cond b (holds loop from && (to == loop.first)) ((from == loop.first) && holds loop to) ≡ true) off (turned turn)

    start : loop.entry_turn ≡ false → ((from == loop.first) && holds loop to) ≡ true → (b : Bool) → is_turn loop e ≡ b → is_turn loop e ≡ true
    start off there true on = on
    start off there false none = absurd (both_ways ((from == loop.first) && holds loop to)
        (not-true ((from == loop.first) && holds loop to) (subst (λ (b : Bool). (b || not ((from == loop.first) && holds loop to)) ≡ true) off
        (subst (λ (b : Bool). cond b
        (cond loop.entry_turn (holds loop from && (to == loop.first)) ((from == loop.first) && holds loop to))
        (loop.entry_turn || not ((from == loop.first) && holds loop to)) ≡ true) none turns))) there)

-- ---- all edges and all loops

pub all_listed : {X : Type 0} (f : X → Bool) (xs : List X) → list_all f xs ≡ true → AllByRecursion (λ x. f x ≡ true) xs
all_listed f [] h = tt
all_listed f (x ∷ xs) h = let both = and_parts (f x) (list_all f xs) h in (both.0, all_listed f xs both.1)

pub listed_at : {X : Type 0} (P : X → Type 0) (xs : List X) (i : ℕ) → AllByRecursion P xs → IfSome (slice_get xs i) P
listed_at P [] i h = tt
listed_at P (x ∷ xs) zero h = h.0
listed_at P (x ∷ xs) (suc i) h = listed_at P xs i h.1

pub at_some : {X : Type 0} (P : X → Type 0) (o : Option X) (x : X) → o ≡ Some x → IfSome o P → P x
at_some P o x e h = subst (λ (o : Option _). IfSome o P) e h

pub joined : {X : Type 0} (P Q R : X → Type 0) (xs : List X) → ((x : X) → P x → Q x → R x) → AllByRecursion P xs → AllByRecursion Q xs
    → AllByRecursion R xs
joined P Q R [] go a b = tt
joined P Q R (x ∷ xs) go a b = (go x a.0 b.0, joined P Q R xs go a.1 b.1)

pub mapped : {X : Type 0} (P Q : X → Type 0) (xs : List X) → ((x : X) → P x → Q x) → AllByRecursion P xs → AllByRecursion Q xs
mapped P Q [] go h = tt
mapped P Q (x ∷ xs) go h = (go x h.0, mapped P Q xs go h.1)

-- the loop is entered well by edges
edges_enter : (p : Parts) (loop : Loop) → is_loop p loop ≡ true → list_all (λ (edge : Edge). enters_well loop edge.from edge.to) p.edges ≡ true
edges_enter p loop h =
    (and_parts (list_all (λ (edge : Edge). enters_well loop edge.from edge.to) p.edges) (list_all (λ call. enters_well loop call.from call.to) p.calls)
    (and_parts (list_all (λ e. nat_lt e (length p.edges)) loop.turns && list_all (λ (other : Loop). not (cross loop other)) p.loops)
    (is_entered_well p loop) h).1).0

-- each edge of the automaton is led so by each loop
pub leads : (p : Parts) → IsFaultless p → IsWellMade p → (e : ℕ) (edge : Edge) → slice_get p.edges e ≡ Some edge
    → AllByRecursion (λ (loop : Loop). IsLed loop e edge.from edge.to) p.loops
leads p f w e edge at = joined (λ (loop : Loop). is_loop p loop ≡ true) (IsLoop p) (λ (loop : Loop). IsLed loop e edge.from edge.to) p.loops each
    (all_listed (is_loop p) p.loops f.loops) (recursion_from_All (IsLoop p) p.loops w.loops)
  where
    each : (loop : Loop) → is_loop p loop ≡ true → IsLoop p loop → IsLed loop e edge.from edge.to
    each loop well is = led_of loop e edge.from edge.to is.range
        (at_some (λ (other : Edge). enters_well loop other.from other.to ≡ true) (slice_get p.edges e) edge at
        (listed_at (λ (other : Edge). enters_well loop other.from other.to ≡ true) p.edges e
        (all_listed (λ (other : Edge). enters_well loop other.from other.to) p.edges (edges_enter p loop well))))
        (at_some (λ (other : Edge). turns_well loop e other ≡ true) (slice_get p.edges e) edge at (is.turns e))
