-- Where the code says that a copy of an edge leads is the place of the copy to which it leads.
use Rattle.std.proofs.Common.{◌≡◌, ℕ, zero, suc, ◌+◌, ◌*◌, ◌<◌, ◌≤◌, ◌⊎◌, inl, inr, List, [], ◌∷◌, drop, slice_get, min, Bool, true, false, not, ◌&&◌, ◌==◌, nat_le, cond, Option, Some, refl, sym, subst, ap, ◌∙◌, arith}
use Rattle.std.specs.Prelude.{slice_index_or}
use Rattle.std.specs.List.{AllByRecursion}
use Rattle.std.proofs.lemmas.Bool.{both_ways, and_parts, le-leb, lt-leb, cases_lt}
use Rattle.pv_flow.specs.Automata.{Loop, holds, is_turn}
use Rattle.pv_copies.specs.Copies.{Copy, copy, beyond, within, front, back, lead, is_past, goes_round, next, led_to, left, target}
use Rattle.pv_copies.specs.Places.{size, turns_before}
use Rattle.pv_copies.proofs.ForCallers.{AreInOrder, IsLater, IsLed, held_low, held_high, in_here, out_behind, turn_ends, no_turns}
use Rattle.pv_unroll.specs.declared.lead.Open.{Open}
use Rattle.pv_unroll.specs.declared.lead.Way.{Way}
use Rattle.pv_unroll.specs.declared.lead.Lead.{Lead}
use Rattle.pv_unroll.specs.declared.lead.Lead.TheVariants.{On, Over}
use Rattle.pv_unroll.specs.declared.numbers.TheConstants.{MOST}
use Rattle.pv_unroll.specs.Counts.{capped}
use Rattle.pv_unroll.specs.Leading.{Table, is_of, limit_of, through, on_with, lead_from}
use Rattle.pv_unroll.specs.Leading as code
use Rattle.pv_unroll.proofs.Caps.{plus_capped, times_capped}
use Rattle.pv_unroll.proofs.Firsts.{none_is, some_is}
use Rattle.pv_unroll.proofs.Nest.{drop_one, get_drop}
use Rattle.pv_unroll.proofs.Turns.{TurnsFrom, turns_on, of_turn}

-- the loops of these that hold the location, with the numbers of its copy for them; they are numbered from i on
abbrev pub opens_from : ℕ → List Loop → ℕ → List ℕ → List Open
opens_from i [] l ks = []
opens_from i (loop ∷ loops) l ks = cond (holds loop l)
    (record { range = i; turn = front ks } ∷ opens_from (suc i) loops l (back ks))
    (opens_from (suc i) loops l ks)

-- what a turn of each loop takes is in the table
pub record HasTurns (w : ℕ → ℕ) (o n : ℕ) (all : List Loop) (t : Table) : Type 0 where
  pub loops : t.loops ≡ all
  pub bound : t.bound ≡ n
  pub few : n + 1 ≤ MOST
  pub turn : (r : ℕ) (loop : Loop) → slice_get all r ≡ Some loop
      → slice_index_or t.turns r 0 ≡ size w o n (drop (suc r) all) loop.first (suc loop.last)

-- by the copy: to the copy of a location, or to where the bound is gone over of the loop of a number
pub record LedOver (w : ℕ → ℕ) (o n : ℕ) (t : Table) (e i l to : ℕ) (loops : List Loop) (loop : Loop) (js : List ℕ) (sum : ℕ) (led : Lead) : Type 0 where
  pub number : ℕ
  pub at : slice_get loops number ≡ Some loop
  pub turn : is_turn loop e ≡ true
  pub from : holds loop l ≡ true
  pub ends : holds loop to ≡ true
  pub range : loop.first ≤ loop.last
  pub led_is : led ≡ Over (capped (slice_index_or t.overs (i + number) 0 + capped (sum + turns_before w o n loops loop.first js)))

abbrev pub Led : (ℕ → ℕ) → ℕ → ℕ → Table → ℕ → ℕ → ℕ → ℕ → List Loop → Copy → ℕ → Lead → Type 0
Led w o n t e i l to loops (copy m js) sum led =
    (m ≡ to) × (led ≡ On (capped (slice_index_or t.firsts to 0 + capped (sum + turns_before w o n loops m js))))
Led w o n t e i l to loops (beyond loop js) sum led = LedOver w o n t e i l to loops loop js sum led

pub at_in : (P : Loop → Type 0) (xs : List Loop) (r : ℕ) (loop : Loop) → AllByRecursion P xs → slice_get xs r ≡ Some loop → P loop
at_in P [] r loop all at = absurd (none_is loop at)
at_in P (x ∷ xs) zero loop all at = subst P (some_is x loop at) all.0
at_in P (x ∷ xs) (suc r) loop all at = at_in P xs r loop all.1 at

-- ---- numbers

limit_is : (n k x m : ℕ) → x ≤ m → nat_le x (min (k + 1) m) ≡ nat_le x (suc k)
limit_is n k x m le = by (cases_lt (suc k) x)
  where
    by : (suc k < x) ⊎ (x ≤ suc k) → nat_le x (min (k + 1) m) ≡ nat_le x (suc k)
    by (inl lt) = lt-leb x (min (k + 1) m) (omega (arith, lt)) ∙ sym (lt-leb x (suc k) lt)
    by (inr low) = le-leb x (min (k + 1) m) (omega (arith, low, le)) ∙ sym (le-leb x (suc k) low)

limit_same : (loop : Loop) (l n : ℕ) → n + 1 ≤ MOST → (limit_of loop l n ≡ n + lead loop l) × (n + lead loop l ≤ MOST)
limit_same loop l n few = by (not loop.entry_turn && (loop.first == l))
  where
    exact : (n most : ℕ) → n + 1 ≤ most → min (n + 1) most ≡ n + 1
    exact n most le = omega (arith, le)

    by : (t : Bool) → (cond t (capped (n + 1)) n ≡ n + cond t 1 0) × (n + cond t 1 0 ≤ MOST)
    by true = (exact n MOST few, few)
    by false = (omega arith, omega (arith, few))

past_is : (n e l k : ℕ) (loop : Loop) (around : Open) (way : Way) → n + 1 ≤ MOST → around.turn ≡ k → way.from ≡ l → is_of way.turning around.range ≡ is_turn loop e
    → code.is_past loop around way n ≡ is_past n loop e l k
past_is n e l k loop around way few turn from of =
    ap (λ (b : Bool). b && nat_le (limit_of loop way.from n) (capped (around.turn + 1))) of
    ∙ ap (λ (m : ℕ). is_turn loop e && nat_le (limit_of loop m n) (capped (around.turn + 1))) from
    ∙ ap (λ (m : ℕ). is_turn loop e && nat_le (limit_of loop l n) (capped (m + 1))) turn
    ∙ ap (λ (m : ℕ). is_turn loop e && nat_le m (capped (k + 1))) (limit_same loop l n few).0
    ∙ ap (λ (b : Bool). is_turn loop e && b) (limit_is n k (n + lead loop l) MOST (limit_same loop l n few).1)

flipped : (a b : ℕ) → capped (capped a * b) ≡ capped (a * b)
flipped a b = ap capped (swap (capped a) b) ∙ times_capped b a ∙ ap capped (swap b a)
  where
    swap : (x y : ℕ) → x * y ≡ y * x
    swap x y = omega arith

on_top_is : (t : Table) (e to k turn : ℕ) (loop : Loop) (around : Open) (way : Way) → around.turn ≡ k → way.to ≡ to
    → is_of way.turning around.range ≡ is_turn loop e → slice_index_or t.turns around.range 0 ≡ turn
    → code.on_top t loop around way ≡ cond (holds loop to) (capped (next loop e to k * turn)) 0
on_top_is t e to k turn loop around way same ends of takes =
    ap (λ (m : ℕ). cond (holds loop m) (capped (cond (cond loop.entry_turn (is_of way.turning around.range) (loop.first == m))
    (capped (around.turn + 1)) around.turn * slice_index_or t.turns around.range 0)) 0) ends
    ∙ ap (λ (b : Bool). cond (holds loop to) (capped (cond (cond loop.entry_turn b (loop.first == to))
    (capped (around.turn + 1)) around.turn * slice_index_or t.turns around.range 0)) 0) of
    ∙ ap (λ (m : ℕ). cond (holds loop to) (capped (cond (goes_round loop e to) (capped (m + 1)) m * slice_index_or t.turns around.range 0)) 0) same
    ∙ ap (λ (m : ℕ). cond (holds loop to) (capped (cond (goes_round loop e to) (capped (k + 1)) k * m)) 0) takes
    ∙ ap (λ (m : ℕ). cond (holds loop to) m 0) (by (goes_round loop e to))
  where
    stays : (k : ℕ) → k ≡ k + 0
    stays k = omega arith

    by : (b : Bool) → capped (cond b (capped (k + 1)) k * turn) ≡ capped ((k + cond b 1 0) * turn)
    by true = flipped (k + 1) turn
    by false = ap (λ (m : ℕ). capped (m * turn)) (stays k)

-- ---- loop by loop

abbrev size_in : (ℕ → ℕ) → ℕ → ℕ → Loop → List Loop → ℕ
size_in w o n loop loops = size w o n loops loop.first (suc loop.last)

before_by : (w : ℕ → ℕ) (o n : ℕ) (loop : Loop) (loops : List Loop) (m : ℕ) (js : List ℕ) (t : Bool) → holds loop m ≡ t
    → turns_before w o n (loop ∷ loops) m js
    ≡ cond t (front js * size_in w o n loop loops + turns_before w o n loops m (back js)) (turns_before w o n loops m js)
before_by w o n loop loops m js t e = ap (λ (b : Bool). cond b (front js * size_in w o n loop loops + turns_before w o n loops m (back js))
    (turns_before w o n loops m js)) e

-- of a copy that is no copy in this loop
past_loop : (w : ℕ → ℕ) (o n : ℕ) (t : Table) (e i l to : ℕ) (loop : Loop) (loops : List Loop) (c : Copy) (sum : ℕ) (led : Lead)
    → AllByRecursion (IsLater loop) loops → holds loop to ≡ false
    → Led w o n t e (suc i) l to loops c sum led → Led w o n t e i l to (loop ∷ loops) c sum led
past_loop w o n t e i l to loop loops (copy m js) sum led later out h = (
  h.0,
  h.1 ∙ ap (λ (x : ℕ). On (capped (slice_index_or t.firsts to 0 + capped (sum + x))))
      (sym (before_by w o n loop loops m js false (ap (λ (x : ℕ). holds loop x) h.0 ∙ out))),
)
past_loop w o n t e i l to loop loops (beyond other js) sum led later out h = record {
  number = suc h.number;
  at = h.at;
  turn = h.turn;
  from = h.from;
  ends = h.ends;
  range = h.range;
  led_is = h.led_is ∙ ap (λ (x : ℕ). Over (capped (slice_index_or t.overs x 0 + capped (sum + turns_before w o n loops other.first js)))) (more h.number)
      ∙ ap (λ (x : ℕ). Over (capped (slice_index_or t.overs (i + suc h.number) 0 + capped (sum + x))))
      (sym (before_by w o n loop loops other.first js false outside));
}
  where
    more : (m : ℕ) → suc i + m ≡ i + suc m
    more m = omega arith

    outside : holds loop other.first ≡ false
    outside = by (at_in (IsLater loop) loops h.number other later h.at)
      where
        by : IsLater loop other → holds loop other.first ≡ false
        by (inl g) = absurd (both_ways (holds loop to) out (in_here loop to (omega (arith, g.0, held_low other to h.ends))
            (omega (arith, g.1, held_high other to h.ends))))
        by (inr g) = out_behind loop other.first g

-- of one in this loop, in the turn of number k
in_loop : (w : ℕ → ℕ) (o n : ℕ) (t : Table) (e i l to k : ℕ) (loop : Loop) (loops : List Loop) (c : Copy) (sum : ℕ) (led : Lead)
    → AllByRecursion (IsLater loop) loops → holds loop to ≡ true
    → ((other : Loop) → IsLater loop other → other.first ≤ other.last → holds other l ≡ true → holds other to ≡ true → holds loop other.first ≡ true)
    → Led w o n t e (suc i) l to loops c (sum + k * size_in w o n loop loops) led → Led w o n t e i l to (loop ∷ loops) (within k c) sum led
in_loop w o n t e i l to k loop loops (copy m js) sum led later held inside h = (
  h.0,
  h.1 ∙ ap (λ (x : ℕ). On (capped (slice_index_or t.firsts to 0 + capped x)))
      (further sum (k * size_in w o n loop loops) (turns_before w o n loops m js)
      ∙ ap (λ (x : ℕ). sum + x) (sym (before_by w o n loop loops m (k ∷ js) true (ap (λ (x : ℕ). holds loop x) h.0 ∙ held)))),
)
  where
    further : (x y z : ℕ) → x + y + z ≡ x + (y + z)
    further x y z = omega arith
in_loop w o n t e i l to k loop loops (beyond other js) sum led later held inside h = record {
  number = suc h.number;
  at = h.at;
  turn = h.turn;
  from = h.from;
  ends = h.ends;
  range = h.range;
  led_is = h.led_is
      ∙ ap (λ (x : ℕ). Over (capped (slice_index_or t.overs x 0 + capped (sum + k * size_in w o n loop loops + turns_before w o n loops other.first js))))
      (more h.number)
      ∙ ap (λ (x : ℕ). Over (capped (slice_index_or t.overs (i + suc h.number) 0 + capped x)))
      (further sum (k * size_in w o n loop loops) (turns_before w o n loops other.first js)
      ∙ ap (λ (x : ℕ). sum + x) (sym (before_by w o n loop loops other.first (k ∷ js) true
      (inside other (at_in (IsLater loop) loops h.number other later h.at) h.range h.from h.ends))));
}
  where
    more : (m : ℕ) → suc i + m ≡ i + suc m
    more m = omega arith

    further : (x y z : ℕ) → x + y + z ≡ x + (y + z)
    further x y z = omega arith

pub leads_along : (w : ℕ → ℕ) (o n : ℕ) (all : List Loop) (t : Table) (e l to : ℕ) (turning : Option ℕ) (loops : List Loop) (i : ℕ) (ks : List ℕ) (sum : ℕ)
    → HasTurns w o n all t → AreInOrder loops → AllByRecursion (λ (loop : Loop). IsLed loop e l to) loops → drop i all ≡ loops
    → TurnsFrom e i loops turning
    → Led w o n t e i l to loops (target n loops e l to ks) sum
    (lead_from t (opens_from i loops l ks) (record { from = l; to = to; turning = turning }) (capped sum))
leads_along w o n all t e l to turning [] i ks sum has order led at turns =
    (refl, ap (λ (x : ℕ). On (capped (slice_index_or t.firsts to 0 + capped x))) (stays sum))
  where
    stays : (x : ℕ) → x ≡ x + 0
    stays x = omega arith
leads_along w o n all t e l to turning (loop ∷ loops) i ks sum has order led at turns =
    by (holds loop l) refl (holds loop to) refl (is_past n loop e l (front ks)) refl
    (λ js s. leads_along w o n all t e l to turning loops (suc i) js s has order.2 led.1
    (drop_one i all ∙ ap (λ (xs : List Loop). drop 1 xs) at) (turns_on e i loop loops turning turns))
  where
    way : Way
    way = record { from = l; to = to; turning = turning }

    around : Open
    around = record { range = i; turn = front ks }

    stands : slice_get all i ≡ Some loop
    stands = get_drop i all ∙ ap (λ (xs : List Loop). slice_get xs 0) at

    behind_it : drop (suc i) all ≡ loops
    behind_it = drop_one i all ∙ ap (λ (xs : List Loop). drop 1 xs) at

    takes : slice_index_or t.turns i 0 ≡ size_in w o n loop loops
    takes = has.turn i loop stands ∙ ap (λ (xs : List Loop). size w o n xs loop.first (suc loop.last)) behind_it

    of : is_of turning i ≡ is_turn loop e
    of = of_turn e i loop loops turning turns

    opened : (x : Bool) → holds loop l ≡ x → opens_from i (loop ∷ loops) l ks
        ≡ cond x (around ∷ opens_from (suc i) loops l (back ks)) (opens_from (suc i) loops l ks)
    opened x e = ap (λ (b : Bool). cond b (around ∷ opens_from (suc i) loops l (back ks)) (opens_from (suc i) loops l ks)) e

    past_code : code.is_past loop around way t.bound ≡ is_past n loop e l (front ks)
    past_code = ap (λ (m : ℕ). code.is_past loop around way m) has.bound ∙ past_is n e l (front ks) loop around way has.few refl refl of

    first_led : (p : Bool) → is_past n loop e l (front ks) ≡ p
        → lead_from t (around ∷ opens_from (suc i) loops l (back ks)) way (capped sum)
        ≡ cond p (Over (capped (slice_index_or t.overs i 0 + capped sum)))
        (lead_from t (opens_from (suc i) loops l (back ks)) way (capped (capped sum + code.on_top t loop around way)))
    first_led p e =
        ap (λ (o : Option Loop). on_with (through t o around way (capped sum)) (λ s. lead_from t (opens_from (suc i) loops l (back ks)) way s))
        (ap (λ (xs : List Loop). slice_get xs i) has.loops ∙ stands)
        ∙ ap (λ (b : Bool). on_with (cond b (Over (capped (slice_index_or t.overs i 0 + capped sum)))
        (On (capped (capped sum + code.on_top t loop around way)))) (λ s. lead_from t (opens_from (suc i) loops l (back ks)) way s)) (past_code ∙ e)
        ∙ by p
      where
        by : (b : Bool) → on_with (cond b (Over (capped (slice_index_or t.overs i 0 + capped sum)))
            (On (capped (capped sum + code.on_top t loop around way)))) (λ s. lead_from t (opens_from (suc i) loops l (back ks)) way s)
            ≡ cond b (Over (capped (slice_index_or t.overs i 0 + capped sum)))
            (lead_from t (opens_from (suc i) loops l (back ks)) way (capped (capped sum + code.on_top t loop around way)))
        by true = refl
        by false = refl

    top : (x : Bool) → holds loop to ≡ x
        → code.on_top t loop around way ≡ cond x (capped (next loop e to (front ks) * size_in w o n loop loops)) 0
    top x d = on_top_is t e to (front ks) (size_in w o n loop loops) loop around way refl refl of takes
        ∙ ap (λ (b : Bool). cond b (capped (next loop e to (front ks) * size_in w o n loop loops)) 0) d

    targets : (x y p : Bool) → holds loop l ≡ x → holds loop to ≡ y → is_past n loop e l (front ks) ≡ p
        → target n (loop ∷ loops) e l to ks
        ≡ led_to x y p loop (next loop e to (front ks)) (target n loops e l to (left x ks))
    targets x y p d f g =
        ap (λ (b : Bool). led_to b (holds loop to) (is_past n loop e l (front ks)) loop (next loop e to (front ks)) (target n loops e l to (left b ks))) d
        ∙ ap (λ (b : Bool). led_to x b (is_past n loop e l (front ks)) loop (next loop e to (front ks)) (target n loops e l to (left x ks))) f
        ∙ ap (λ (b : Bool). led_to x y b loop (next loop e to (front ks)) (target n loops e l to (left x ks))) g

    -- whatever the copy and what the code says are equal to
    carried : (c d : Copy) (a b : Lead) → c ≡ d → a ≡ b → Led w o n t e i l to (loop ∷ loops) d sum b → Led w o n t e i l to (loop ∷ loops) c sum a
    carried c d a b p q h = subst (λ (x : Copy). Led w o n t e i l to (loop ∷ loops) x sum a) (sym p)
        (subst (λ (x : Lead). Led w o n t e i l to (loop ∷ loops) d sum x) (sym q) h)

    own : (sum : ℕ) → sum ≡ sum + 0 * size_in w o n loop loops
    own sum = omega arith

    apart_from : holds loop l ≡ false → holds loop to ≡ true → (other : Loop) → IsLater loop other → other.first ≤ other.last
        → holds other l ≡ true → holds other to ≡ true → holds loop other.first ≡ true
    apart_from out in_ other (inl h) range from ends = absurd (both_ways (holds loop l) out (in_here loop l
        (omega (arith, h.0, held_low other l from)) (omega (arith, h.1, held_high other l from))))
    apart_from out in_ other (inr h) range from ends = absurd (omega (arith, h, held_low other to ends, held_high loop to in_))

    around_it : holds loop l ≡ true → (other : Loop) → IsLater loop other → other.first ≤ other.last
        → holds other l ≡ true → holds other to ≡ true → holds loop other.first ≡ true
    around_it in_ other (inl h) range from ends = in_here loop other.first h.0 (omega (arith, h.1, range))
    around_it in_ other (inr h) range from ends = absurd (omega (arith, h, held_low other l from, held_high loop l in_))

    over_it : (y : Bool) → holds loop l ≡ true → holds loop to ≡ y → is_past n loop e l (front ks) ≡ true
        → Led w o n t e i l to (loop ∷ loops) (beyond loop []) sum (Over (capped (slice_index_or t.overs i 0 + capped sum)))
    over_it y f g past =
        let turn = (and_parts (is_turn loop e) (nat_le (n + lead loop l) (suc (front ks))) past).0 in
        record {
          number = 0;
          at = refl;
          turn = turn;
          from = f;
          ends = turn_ends loop e l to led.0 turn;
          range = order.0;
          led_is = ap (λ (x : ℕ). Over (capped (slice_index_or t.overs x 0 + capped sum))) (same i)
              ∙ ap (λ (x : ℕ). Over (capped (slice_index_or t.overs (i + 0) 0 + capped x))) (same sum)
              ∙ ap (λ (x : ℕ). Over (capped (slice_index_or t.overs (i + 0) 0 + capped (sum + x)))) (sym (no_turns w o n (loop ∷ loops) loop.first));
        }
      where
        same : (x : ℕ) → x ≡ x + 0
        same x = omega arith

    by : (x : Bool) → holds loop l ≡ x → (y : Bool) → holds loop to ≡ y → (p : Bool) → is_past n loop e l (front ks) ≡ p
        → ((js : List ℕ) (s : ℕ) → Led w o n t e (suc i) l to loops (target n loops e l to js) s (lead_from t (opens_from (suc i) loops l js) way (capped s)))
        → Led w o n t e i l to (loop ∷ loops) (target n (loop ∷ loops) e l to ks) sum (lead_from t (opens_from i (loop ∷ loops) l ks) way (capped sum))
    by false f false g p q go =
        carried (target n (loop ∷ loops) e l to ks) (target n loops e l to ks)
        (lead_from t (opens_from i (loop ∷ loops) l ks) way (capped sum)) (lead_from t (opens_from (suc i) loops l ks) way (capped sum))
        (targets false false p f g q) (ap (λ (xs : List Open). lead_from t xs way (capped sum)) (opened false f))
        (past_loop w o n t e i l to loop loops (target n loops e l to ks) sum (lead_from t (opens_from (suc i) loops l ks) way (capped sum)) order.1 g (go ks sum))
    by false f true g p q go =
        carried (target n (loop ∷ loops) e l to ks) (within 0 (target n loops e l to ks))
        (lead_from t (opens_from i (loop ∷ loops) l ks) way (capped sum)) (lead_from t (opens_from (suc i) loops l ks) way (capped sum))
        (targets false true p f g q) (ap (λ (xs : List Open). lead_from t xs way (capped sum)) (opened false f))
        (in_loop w o n t e i l to 0 loop loops (target n loops e l to ks) sum (lead_from t (opens_from (suc i) loops l ks) way (capped sum)) order.1 g
        (apart_from f g)
        (subst (λ (m : ℕ). Led w o n t e (suc i) l to loops (target n loops e l to ks) m (lead_from t (opens_from (suc i) loops l ks) way (capped sum)))
        (own sum) (go ks sum)))
    by true f false g true q go =
        carried (target n (loop ∷ loops) e l to ks) (beyond loop [])
        (lead_from t (opens_from i (loop ∷ loops) l ks) way (capped sum)) (Over (capped (slice_index_or t.overs i 0 + capped sum)))
        (targets true false true f g q) (ap (λ (xs : List Open). lead_from t xs way (capped sum)) (opened true f) ∙ first_led true q)
        (over_it false f g q)
    by true f true g true q go =
        carried (target n (loop ∷ loops) e l to ks) (beyond loop [])
        (lead_from t (opens_from i (loop ∷ loops) l ks) way (capped sum)) (Over (capped (slice_index_or t.overs i 0 + capped sum)))
        (targets true true true f g q) (ap (λ (xs : List Open). lead_from t xs way (capped sum)) (opened true f) ∙ first_led true q)
        (over_it true f g q)
    by true f false g false q go =
        carried (target n (loop ∷ loops) e l to ks) (target n loops e l to (back ks))
        (lead_from t (opens_from i (loop ∷ loops) l ks) way (capped sum)) (lead_from t (opens_from (suc i) loops l (back ks)) way (capped sum))
        (targets true false false f g q)
        (ap (λ (xs : List Open). lead_from t xs way (capped sum)) (opened true f) ∙ first_led false q
        ∙ ap (λ (m : ℕ). lead_from t (opens_from (suc i) loops l (back ks)) way (capped (capped sum + m))) (top false g)
        ∙ ap (λ (m : ℕ). lead_from t (opens_from (suc i) loops l (back ks)) way m) (again sum))
        (past_loop w o n t e i l to loop loops (target n loops e l to (back ks)) sum (lead_from t (opens_from (suc i) loops l (back ks)) way (capped sum))
        order.1 g (go (back ks) sum))
      where
        again_by : (most x : ℕ) → min (min x most + 0) most ≡ min x most
        again_by most x = omega arith

        again : (x : ℕ) → capped (capped x + 0) ≡ capped x
        again x = again_by MOST x
    by true f true g false q go =
        carried (target n (loop ∷ loops) e l to ks) (within (next loop e to (front ks)) (target n loops e l to (back ks)))
        (lead_from t (opens_from i (loop ∷ loops) l ks) way (capped sum))
        (lead_from t (opens_from (suc i) loops l (back ks)) way (capped (sum + next loop e to (front ks) * size_in w o n loop loops)))
        (targets true true false f g q)
        (ap (λ (xs : List Open). lead_from t xs way (capped sum)) (opened true f) ∙ first_led false q
        ∙ ap (λ (m : ℕ). lead_from t (opens_from (suc i) loops l (back ks)) way (capped (capped sum + m))) (top true g)
        ∙ ap (λ (m : ℕ). lead_from t (opens_from (suc i) loops l (back ks)) way m) (plus_capped sum (next loop e to (front ks) * size_in w o n loop loops)))
        (in_loop w o n t e i l to (next loop e to (front ks)) loop loops (target n loops e l to (back ks)) sum
        (lead_from t (opens_from (suc i) loops l (back ks)) way (capped (sum + next loop e to (front ks) * size_in w o n loop loops))) order.1 g
        (around_it f) (go (back ks) (sum + next loop e to (front ks) * size_in w o n loop loops)))
