-- Loops are copies. A run with counts and a run along copies take the same ways: the number of a location's copy is the count of the
-- loop's turns, where turns start behind the location, and else one less.
use Rattle.std.proofs.Common.{◌≡◌, ℕ, suc, ◌+◌, ◌<◌, ◌≤◌, ◌⊎◌, inl, inr, List, [], ◌∷◌, slice_get, Bool, true, false, not, ◌&&◌, ◌==◌, nat_le, cond, Option, Some, None, refl, sym, subst, ap, ◌∙◌, arith}
use Rattle.std.specs.List.{AllByRecursion}
use Rattle.std.proofs.lemmas.Bool.{true≢false, false≢true, leb-true, le-leb, lt-leb, eqb-true, eq-eqb, cases_lt, and_parts, and_left}
use Rattle.pv_place.specs.declared.place.Place.{Place}
use Rattle.pv_flow.specs.Terms.{Valuation}
use Rattle.pv_flow.specs.Automata.{Edge, Loop, Parts, holds, is_turn}
use Rattle.pv_flow.specs.Faults.{IsFaultless}
use Rattle.pv_flow.specs.WellMade.{IsWellMade}
use Rattle.pv_flow.specs.Runs.{over, end_at, run, Counts, Spot, at, past, entry_count, kept, moved, entered, turn_in, turned, over_of, past_or, led, way_of, ways_by, control_of, first_spot}
use Rattle.pv_flow.proofs.ForCallers.{ArePaired, AreAlike, same_runs}
use Rattle.pv_copies.specs.Copies.{Copy, copy, beyond, within, front, lead, is_past, next, led_to, left, target, entered_copy, way_to, ways_to, copies_control, first_copy}
use Rattle.pv_copies.proofs.Leading.{IsLed, no_turn_outside, turn_is_first, leads}

-- ---- numbers and counts

-- by whether the loop holds the location: the first number is the count, and one less where no turn starts behind the location
abbrev NumbersBy : Bool → ℕ → ℕ → (List ℕ → Type 0) → List ℕ → Type 0
NumbersBy false ahead count Rest ks = Rest ks
NumbersBy true ahead count Rest [] = ⊥
NumbersBy true ahead count Rest (k ∷ ks) = (suc k ≡ count + ahead) × Rest ks

abbrev pub AreNumbers : List Loop → ℕ → Counts → List ℕ → Type 0
AreNumbers [] l counts ks = ks ≡ []
AreNumbers (loop ∷ loops) l counts ks =
    NumbersBy (holds loop l) (lead loop l) (counts 0) (AreNumbers loops l (λ i. counts (suc i))) ks

-- a spot and the copy that is there
abbrev pub IsCopyOf : List Loop → Spot → Copy → Type 0
IsCopyOf loops (at l counts) (copy m ks) = (l ≡ m) × AreNumbers loops l counts ks
IsCopyOf loops (at l counts) (beyond loop ks) = ⊥
IsCopyOf loops (past place) (copy m ks) = ⊥
IsCopyOf loops (past place) (beyond loop ks) = place ≡ loop.place

-- ---- Booleans and numbers, for one loop

entering : (entry turn same : Bool) → turn ≡ false → same ≡ true
    → suc 0 ≡ (cond entry 1 0 + cond turn 1 0) + cond (not entry && same) 1 0
entering entry true same e s = absurd (true≢false e)
entering entry false false e s = absurd (false≢true s)
entering true false true e s = refl
entering false false true e s = refl

staying : (entry turn from to : Bool) (k count : ℕ) → (entry ≡ false → turn ≡ from) → suc k ≡ count + cond (not entry && from) 1 0
    → suc (k + cond (cond entry turn to) 1 0) ≡ (count + cond turn 1 0) + cond (not entry && to) 1 0
staying true true from to k count e h = omega (arith, h)
staying true false from to k count e h = omega (arith, h)
staying false true true true k count e h = omega (arith, h)
staying false true true false k count e h = omega (arith, h)
staying false false false true k count e h = omega (arith, h)
staying false false false false k count e h = omega (arith, h)
staying false true false to k count e h = absurd (true≢false (e refl))
staying false false true to k count e h = absurd (false≢true (e refl))

le_alike : (n m d : ℕ) → nat_le (n + d) (m + d) ≡ nat_le n m
le_alike n m d = by (cases_lt m n)
  where
    by : (m < n) ⊎ (n ≤ m) → nat_le (n + d) (m + d) ≡ nat_le n m
    by (inl lt) = lt-leb (n + d) (m + d) (omega (arith, lt)) ∙ sym (lt-leb n m lt)
    by (inr le) = le-leb (n + d) (m + d) (omega (arith, le)) ∙ sym (le-leb n m le)

passing : (turn : Bool) (n k count ahead : ℕ) → suc k ≡ count + ahead → (turn && nat_le (n + ahead) (suc k)) ≡ (turn && nat_le n count)
passing turn n k count ahead h =
    ap (λ (b : Bool). turn && b) (ap (λ (m : ℕ). nat_le (n + ahead) m) h ∙ le_alike n count ahead)

-- ---- an edge

over_shifts : (n e : ℕ) (counts : Counts) (i : ℕ) (loops : List Loop)
    → over_of n e counts (suc i) loops ≡ over_of n e (λ j. counts (suc j)) i loops
over_shifts n e counts i [] = refl
over_shifts n e counts i (loop ∷ loops) = ap (λ (o : Option Place). elim (is_turn loop e && nat_le n (counts (suc i))) [
  | true ↦ Some loop.place
  | false ↦ o
]) (over_shifts n e counts (suc i) loops)

numbers_outside : (loop : Loop) (loops : List Loop) (m : ℕ) (counts : Counts) (ks : List ℕ) → holds loop m ≡ false
    → AreNumbers loops m (λ i. counts (suc i)) ks → AreNumbers (loop ∷ loops) m counts ks
numbers_outside loop loops m counts ks out h =
    subst (λ (b : Bool). NumbersBy b (lead loop m) (counts 0) (AreNumbers loops m (λ i. counts (suc i))) ks) (sym out) h

numbers_inside : (loop : Loop) (loops : List Loop) (m : ℕ) (counts : Counts) (k : ℕ) (ks : List ℕ) → holds loop m ≡ true
    → suc k ≡ counts 0 + lead loop m → AreNumbers loops m (λ i. counts (suc i)) ks → AreNumbers (loop ∷ loops) m counts (k ∷ ks)
numbers_inside loop loops m counts k ks held number h =
    subst (λ (b : Bool). NumbersBy b (lead loop m) (counts 0) (AreNumbers loops m (λ i. counts (suc i))) (k ∷ ks)) (sym held) (number, h)

copy_outside : (loop : Loop) (loops : List Loop) (o : Option Place) (m : ℕ) (counts : Counts) (c : Copy) → holds loop m ≡ false
    → IsCopyOf loops (past_or o (at m (λ i. counts (suc i)))) c → IsCopyOf (loop ∷ loops) (past_or o (at m counts)) c
copy_outside loop loops None m counts (copy l ks) out h = (h.0, numbers_outside loop loops m counts ks out h.1)
copy_outside loop loops None m counts (beyond other ks) out h = absurd h
copy_outside loop loops (Some place) m counts (copy l ks) out h = absurd h
copy_outside loop loops (Some place) m counts (beyond other ks) out h = h

copy_inside : (loop : Loop) (loops : List Loop) (o : Option Place) (m : ℕ) (counts : Counts) (k : ℕ) (c : Copy) → holds loop m ≡ true
    → suc k ≡ counts 0 + lead loop m
    → IsCopyOf loops (past_or o (at m (λ i. counts (suc i)))) c → IsCopyOf (loop ∷ loops) (past_or o (at m counts)) (within k c)
copy_inside loop loops None m counts k (copy l ks) held number h = (h.0, numbers_inside loop loops m counts k ks held number h.1)
copy_inside loop loops None m counts k (beyond other ks) held number h = absurd h
copy_inside loop loops (Some place) m counts k (copy l ks) held number h = absurd h
copy_inside loop loops (Some place) m counts k (beyond other ks) held number h = h

-- an edge that begins outside of the first loop
led_outside : (n : ℕ) (loop : Loop) (loops : List Loop) (e l to : ℕ) (counts : Counts) (ks : List ℕ) → IsLed loop e l to → holds loop l ≡ false
    → IsCopyOf loops (led loops n e l to (λ i. counts (suc i))) (target n loops e l to ks)
    → IsCopyOf (loop ∷ loops) (led (loop ∷ loops) n e l to counts) (target n (loop ∷ loops) e l to ks)
led_outside n loop loops e l to counts ks is out h =
    subst (λ (b : Bool). IsCopyOf (loop ∷ loops) (past_or (elim b [ true ↦ Some loop.place | false ↦ over_of n e counts 1 loops ]) there)
    (target n (loop ∷ loops) e l to ks)) (sym never)
    (subst (λ (b : Bool). IsCopyOf (loop ∷ loops) (past_or (over_of n e counts 1 loops) there)
    (led_to b (holds loop to) (is_past n loop e l (front ks)) loop (next loop e to (front ks)) (target n loops e l to (left b ks)))) (sym out)
    (by (holds loop to) refl))
  where
    there : Spot
    there = at to (turned (loop ∷ loops) e (moved (loop ∷ loops) l to counts))

    no_turn : is_turn loop e ≡ false
    no_turn = no_turn_outside loop e l to is out

    never : (is_turn loop e && nat_le n (counts 0)) ≡ false
    never = and_left (is_turn loop e) (nat_le n (counts 0)) no_turn

    inner : IsCopyOf loops (past_or (over_of n e counts 1 loops) (at to (turned loops e (moved loops l to (λ i. counts (suc i)))))) (target n loops e l to ks)
    inner = subst (λ (o : Option Place). IsCopyOf loops (past_or o (at to (turned loops e (moved loops l to (λ i. counts (suc i))))))
        (target n loops e l to ks)) (sym (over_shifts n e counts 0 loops)) h

    enters : holds loop to ≡ true → suc 0 ≡ turned (loop ∷ loops) e (moved (loop ∷ loops) l to counts) 0 + lead loop to
    enters held = subst (λ (b : Bool). suc 0 ≡ (kept b (holds loop l) (counts 0) (entry_count loop) + turn_in (Some loop) e) + lead loop to) (sym held)
        (subst (λ (b : Bool). suc 0 ≡ (kept true b (counts 0) (entry_count loop) + turn_in (Some loop) e) + lead loop to) (sym out)
        (entering loop.entry_turn (is_turn loop e) (loop.first == to) no_turn (eq-eqb loop.first to (sym (is.enters out held)))))

    by : (b : Bool) → holds loop to ≡ b → IsCopyOf (loop ∷ loops) (past_or (over_of n e counts 1 loops) there)
        (led_to false b (is_past n loop e l (front ks)) loop (next loop e to (front ks)) (target n loops e l to ks))
    by true held = copy_inside loop loops (over_of n e counts 1 loops) to (turned (loop ∷ loops) e (moved (loop ∷ loops) l to counts)) 0
        (target n loops e l to ks) held (enters held) inner
    by false apart = copy_outside loop loops (over_of n e counts 1 loops) to (turned (loop ∷ loops) e (moved (loop ∷ loops) l to counts))
        (target n loops e l to ks) apart inner

-- and one that begins in it
led_inside : (n : ℕ) (loop : Loop) (loops : List Loop) (e l to : ℕ) (counts : Counts) (k : ℕ) (ks : List ℕ) → IsLed loop e l to
    → holds loop l ≡ true → suc k ≡ counts 0 + lead loop l
    → IsCopyOf loops (led loops n e l to (λ i. counts (suc i))) (target n loops e l to ks)
    → IsCopyOf (loop ∷ loops) (led (loop ∷ loops) n e l to counts) (target n (loop ∷ loops) e l to (k ∷ ks))
led_inside n loop loops e l to counts k ks is held number h =
    subst (λ (b : Bool). IsCopyOf (loop ∷ loops) (led (loop ∷ loops) n e l to counts)
    (led_to b (holds loop to) (is_past n loop e l k) loop (next loop e to k) (target n loops e l to (left b (k ∷ ks))))) (sym held)
    (subst (λ (b : Bool). IsCopyOf (loop ∷ loops) (led (loop ∷ loops) n e l to counts)
    (led_to true (holds loop to) b loop (next loop e to k) (target n loops e l to ks)))
    (sym (passing (is_turn loop e) n k (counts 0) (lead loop l) number))
    (gone (is_turn loop e && nat_le n (counts 0))))
  where
    there : Spot
    there = at to (turned (loop ∷ loops) e (moved (loop ∷ loops) l to counts))

    inner : IsCopyOf loops (past_or (over_of n e counts 1 loops) (at to (turned loops e (moved loops l to (λ i. counts (suc i)))))) (target n loops e l to ks)
    inner = subst (λ (o : Option Place). IsCopyOf loops (past_or o (at to (turned loops e (moved loops l to (λ i. counts (suc i))))))
        (target n loops e l to ks)) (sym (over_shifts n e counts 0 loops)) h

    stays : holds loop to ≡ true → suc (next loop e to k) ≡ turned (loop ∷ loops) e (moved (loop ∷ loops) l to counts) 0 + lead loop to
    stays into =
        subst (λ (b : Bool). suc (next loop e to k) ≡ (kept b (holds loop l) (counts 0) (entry_count loop) + turn_in (Some loop) e) + lead loop to) (sym into)
        (subst (λ (b : Bool). suc (next loop e to k) ≡ (kept true b (counts 0) (entry_count loop) + turn_in (Some loop) e) + lead loop to) (sym held)
        (staying loop.entry_turn (is_turn loop e) (loop.first == l) (loop.first == to) k (counts 0) (turn_is_first loop e l to is into) number))

    by : (b : Bool) → holds loop to ≡ b → IsCopyOf (loop ∷ loops) (past_or (over_of n e counts 1 loops) there)
        (led_to true b false loop (next loop e to k) (target n loops e l to ks))
    by true into = copy_inside loop loops (over_of n e counts 1 loops) to (turned (loop ∷ loops) e (moved (loop ∷ loops) l to counts)) (next loop e to k)
        (target n loops e l to ks) into (stays into) inner
    by false apart = copy_outside loop loops (over_of n e counts 1 loops) to (turned (loop ∷ loops) e (moved (loop ∷ loops) l to counts))
        (target n loops e l to ks) apart inner

    gone : (b : Bool) → IsCopyOf (loop ∷ loops) (past_or (elim b [ true ↦ Some loop.place | false ↦ over_of n e counts 1 loops ]) there)
        (led_to true (holds loop to) b loop (next loop e to k) (target n loops e l to ks))
    gone true = refl
    gone false = by (holds loop to) refl

-- where an edge leads with counts, and where it leads from the copy
led_alike : (n : ℕ) (loops : List Loop) (e l to : ℕ) (counts : Counts) (ks : List ℕ)
    → AllByRecursion (λ (loop : Loop). IsLed loop e l to) loops → AreNumbers loops l counts ks
    → IsCopyOf loops (led loops n e l to counts) (target n loops e l to ks)
led_alike n [] e l to counts ks are h = (refl, refl)
led_alike n (loop ∷ loops) e l to counts ks are h =
    by (holds loop l) refl ks h (λ js g. led_alike n loops e l to (λ i. counts (suc i)) js are.1 g)
  where
    by : (b : Bool) → holds loop l ≡ b → (js : List ℕ)
        → NumbersBy b (lead loop l) (counts 0) (AreNumbers loops l (λ i. counts (suc i))) js
        → ((js : List ℕ) → AreNumbers loops l (λ i. counts (suc i)) js
        → IsCopyOf loops (led loops n e l to (λ i. counts (suc i))) (target n loops e l to js))
        → IsCopyOf (loop ∷ loops) (led (loop ∷ loops) n e l to counts) (target n (loop ∷ loops) e l to js)
    by false out js g go = led_outside n loop loops e l to counts js are.0 out (go js g)
    by true held [] g go = absurd g
    by true held (k ∷ js) g go = led_inside n loop loops e l to counts k js are.0 held g.0 (go js g.1)

-- ---- runs

abbrev AreLed : List Loop → ℕ → List Edge → Type 0
AreLed loops e [] = Unit {0}
AreLed loops e (edge ∷ edges) = AllByRecursion (λ (loop : Loop). IsLed loop e edge.from edge.to) loops × AreLed loops (suc e) edges

-- by the numbers of edges
are_led : (loops : List Loop) (e : ℕ) (edges : List Edge)
    → ((i : ℕ) (edge : Edge) → slice_get edges i ≡ Some edge → AllByRecursion (λ (loop : Loop). IsLed loop (e + i) edge.from edge.to) loops)
    → AreLed loops e edges
are_led loops e [] h = tt
are_led loops e (edge ∷ edges) h = (
  subst (λ (m : ℕ). AllByRecursion (λ (loop : Loop). IsLed loop m edge.from edge.to) loops) (omega arith) (h 0 edge refl),
  are_led loops (suc e) edges
      (λ i other at. subst (λ (m : ℕ). AllByRecursion (λ (loop : Loop). IsLed loop m other.from other.to) loops) (omega arith) (h (suc i) other at)),
)

ways_alike : (n : ℕ) (loops : List Loop) (e l : ℕ) (counts : Counts) (ks : List ℕ) (edges : List Edge) → AreLed loops e edges
    → AreNumbers loops l counts ks
    → ArePaired (IsCopyOf loops) (ways_by loops n l counts e edges) (ways_to n loops e l ks edges)
ways_alike n loops e l counts ks [] are h = tt
ways_alike n loops e l counts ks (edge ∷ edges) are h =
    by (edge.from == l) refl (ways_alike n loops (suc e) l counts ks edges are.1 h)
  where
    by : (b : Bool) → (edge.from == l) ≡ b
        → ArePaired (IsCopyOf loops) (ways_by loops n l counts (suc e) edges) (ways_to n loops (suc e) l ks edges)
        → ArePaired (IsCopyOf loops)
        (cond b (way_of loops n l counts e edge ∷ ways_by loops n l counts (suc e) edges) (ways_by loops n l counts (suc e) edges))
        (cond b (way_to n loops e l ks edge ∷ ways_to n loops (suc e) l ks edges) (ways_to n loops (suc e) l ks edges))
    by true from g = (
      refl,
      refl,
      led_alike n loops e l edge.to counts ks
          (subst (λ (m : ℕ). AllByRecursion (λ (loop : Loop). IsLed loop e m edge.to) loops) (eqb-true edge.from l from) are.0) h,
      g,
    )
    by false from g = g

alike : (p : Parts) (n : ℕ) → IsFaultless p → IsWellMade p → AreAlike (IsCopyOf p.loops) (control_of p n) (copies_control p n)
alike p n f w = record { exits = exits; ways = ways }
  where
    led_all : AreLed p.loops 0 p.edges
    led_all = are_led p.loops 0 p.edges
        (λ i edge at. subst (λ (m : ℕ). AllByRecursion (λ (loop : Loop). IsLed loop m edge.from edge.to) p.loops) (omega arith) (leads p f w i edge at))

    exits : (x : Spot) (y : Copy) → IsCopyOf p.loops x y → (control_of p n).exit x ≡ (copies_control p n).exit y
    exits (at l counts) (copy m ks) h = ap (λ (k : ℕ). end_at p k) h.0
    exits (at l counts) (beyond loop ks) h = absurd h
    exits (past place) (copy m ks) h = absurd h
    exits (past place) (beyond loop ks) h = ap (λ (here : Place). Some (over here)) h

    ways : (x : Spot) (y : Copy) → IsCopyOf p.loops x y
        → ArePaired (IsCopyOf p.loops) ((control_of p n).ways x) ((copies_control p n).ways y)
    ways (at l counts) (copy m ks) h = subst (λ (k : ℕ). ArePaired (IsCopyOf p.loops) (ways_by p.loops n l counts 0 p.edges) (ways_to n p.loops 0 k ks p.edges))
        h.0 (ways_alike n p.loops 0 l counts ks p.edges led_all h.1)
    ways (at l counts) (beyond loop ks) h = absurd h
    ways (past place) (copy m ks) h = absurd h
    ways (past place) (beyond loop ks) h = tt

-- ---- the beginning

first_alike : (loops : List Loop) (m : ℕ) → AllByRecursion (λ (loop : Loop). holds loop m ≡ true → m ≡ loop.first) loops
    → IsCopyOf loops (at m (entered loops m)) (entered_copy loops m)
first_alike [] m are = (refl, refl)
first_alike (loop ∷ loops) m are = by (holds loop m) refl (first_alike loops m are.1)
  where
    begins : holds loop m ≡ true → suc 0 ≡ entered (loop ∷ loops) m 0 + lead loop m
    begins held = subst (λ (b : Bool). suc 0 ≡ kept b false 0 (entry_count loop) + lead loop m) (sym held)
        (number loop.entry_turn (loop.first == m) (eq-eqb loop.first m (sym (are.0 held))))
      where
        number : (entry same : Bool) → same ≡ true → suc 0 ≡ cond entry 1 0 + cond (not entry && same) 1 0
        number entry false e = absurd (false≢true e)
        number true true e = refl
        number false true e = refl

    by : (b : Bool) → holds loop m ≡ b → IsCopyOf loops (at m (entered loops m)) (entered_copy loops m)
        → IsCopyOf (loop ∷ loops) (at m (entered (loop ∷ loops) m)) (cond b (within 0 (entered_copy loops m)) (entered_copy loops m))
    by true held h = copy_inside loop loops None m (entered (loop ∷ loops) m) 0 (entered_copy loops m) held (begins held) h
    by false out h = copy_outside loop loops None m (entered (loop ∷ loops) m) (entered_copy loops m) out h

at_first : (loop : Loop) → holds loop 0 ≡ true → 0 ≡ loop.first
at_first loop h = let le : loop.first ≤ 0 = leb-true loop.first 0 (and_parts (nat_le loop.first 0) (nat_le 0 loop.last) h).0 in omega (arith, le)

each_first : (loops : List Loop) → AllByRecursion (λ (loop : Loop). holds loop 0 ≡ true → 0 ≡ loop.first) loops
each_first [] = tt
each_first (loop ∷ loops) = (at_first loop, each_first loops)

-- a run with counts and one along copies
pub loops_are_copies : (p : Parts) (n : ℕ) → IsFaultless p → IsWellMade p → (steps : ℕ) (w : Valuation)
    → run (control_of p n) steps (first_spot p) w ≡ run (copies_control p n) steps (first_copy p) w
loops_are_copies p n f w steps begin = same_runs (IsCopyOf p.loops) (control_of p n) (copies_control p n) (alike p n f w) steps (first_spot p) (first_copy p)
    begin (first_alike p.loops 0 (each_first p.loops))
