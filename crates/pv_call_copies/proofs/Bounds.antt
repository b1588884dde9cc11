-- An own edge goes over a bound in the whole where it does in its block: an edge is a turn of one loop at most, that of the whole is the
-- copy of the block's, and both have one count.
use Rattle.std.proofs.Common.{◌≡◌, ℕ, zero, suc, ◌+◌, ◌<◌, ◌≤◌, ◌⊎◌, inl, inr, List, [], ◌∷◌, slice_get, Bool, true, false, not, ◌&&◌, ◌||◌, ◌==◌, nat_le, IfSome, Option, Some, None, refl, sym, subst, ap, ◌∙◌, arith}
use Rattle.std.specs.List.{list_any}
use Rattle.std.proofs.lemmas.Bool.{true≢false, false≢true, eqb-true, cases_lt, and_parts, or_cases}
use Rattle.std.proofs.lemmas.Option.{same_Some, none-some}
use Rattle.pv_place.specs.declared.place.Place.{Place}
use Rattle.pv_flow.specs.Automata.{Loop, Parts, is_turn}
use Rattle.pv_flow.specs.WellMade.{AreApart}
use Rattle.pv_flow.specs.Runs.{Counts, over_of}
use Rattle.pv_flow.specs.Calls.{Blocks}
use Rattle.pv_flow.specs.Fitting.{AreFitting, IsSound, AreSound}
use Rattle.pv_call_copies.specs.Inlined.{Body, drawn_loop, inlined}
use Rattle.pv_call_copies.proofs.LoopEdges.{IsGoodLoop}
use Rattle.pv_call_copies.proofs.Among.{of_get, Stands, stands_of, own_among}
use Rattle.pv_call_copies.proofs.Chains.{Chain, body_of, index_of, IsChain, known, among}
use Rattle.pv_call_copies.proofs.Counted.{IsCounted, of_own, of_inner, of_outer, AreCounted, good_of, outer_even}
use Rattle.pv_call_copies.proofs.Moves.{IsOwnStep, inner_no_turn, even_no_turn}

-- ---- an edge's turns

-- no two loops share a turn
abbrev pub AreClear : List Loop → Type 0
AreClear loops = (j k : ℕ) → j < k → IfSome (slice_get loops j) (λ x. IfSome (slice_get loops k) (λ y. AreApart x y))

turns_once : (e : ℕ) (x y : Loop) → AreApart x y → is_turn x e ≡ true → is_turn y e ≡ true → ⊥
turns_once e x y apart one other = by x.turns one apart.turns
  where
    by : (turns : List ℕ) → list_any (λ n. n == e) turns ≡ true → not (list_any (λ n. is_turn y n) turns) ≡ true → ⊥
    by [] any none = false≢true any
    by (n ∷ turns) any none = each (or_cases (n == e) (list_any (λ m. m == e) turns) any) (is_turn y n) refl none (λ g h. by turns g h)
      where
        each : ((n == e) ≡ true) ⊎ (list_any (λ m. m == e) turns ≡ true) → (b : Bool) → is_turn y n ≡ b
            → not (b || list_any (λ m. is_turn y m) turns) ≡ true
            → (list_any (λ m. m == e) turns ≡ true → not (list_any (λ m. is_turn y m) turns) ≡ true → ⊥) → ⊥
        each side true on g go = false≢true g
        each (inl same) false off g go = true≢false (sym other ∙ (ap (λ (m : ℕ). is_turn y m) (sym (eqb-true n e same)) ∙ off))
        each (inr later) false off g go = go later g

apart_of : (loops : List Loop) (j k : ℕ) (x y : Loop) → AreClear loops → j < k → slice_get loops j ≡ Some x → slice_get loops k ≡ Some y
    → AreApart x y
apart_of loops j k x y clear lt at there =
    subst (λ (o : Option Loop). IfSome o (λ z. AreApart x z)) there
    (subst (λ (o : Option Loop). IfSome o (λ z. IfSome (slice_get loops k) (λ u. AreApart z u))) at (clear j k lt))

-- the edge is a turn of one loop at most
one_turn : (loops : List Loop) (e j k : ℕ) (x y : Loop) → AreClear loops → slice_get loops j ≡ Some x → slice_get loops k ≡ Some y
    → is_turn x e ≡ true → is_turn y e ≡ true → j ≡ k
one_turn loops e j k x y clear at there one other = by (cases_lt j k) (cases_lt k j)
  where
    by : (j < k) ⊎ (k ≤ j) → (k < j) ⊎ (j ≤ k) → j ≡ k
    by (inl lt) side = absurd (turns_once e x y (apart_of loops j k x y clear lt at there) one other)
    by (inr ge) (inl lt) = absurd (turns_once e y x (apart_of loops k j y x clear lt there at) other one)
    by (inr ge) (inr le) = omega (arith, ge, le)

-- ---- the first loop whose bound is gone over

pub record IsOver (n e : ℕ) (counts : Counts) (i : ℕ) (loops : List Loop) (place : Place) : Type 0 where
  pub number : ℕ
  pub loop : Loop
  pub at : slice_get loops number ≡ Some loop
  pub turn : is_turn loop e ≡ true
  pub over : nat_le n (counts (i + number)) ≡ true
  pub is : loop.place ≡ place

over_some : (n e : ℕ) (counts : Counts) (i : ℕ) (loops : List Loop) (place : Place) → over_of n e counts i loops ≡ Some place
    → IsOver n e counts i loops place
over_some n e counts i [] place h = absurd (none-some place h)
over_some n e counts i (x ∷ loops) place h =
    by (is_turn x e && nat_le n (counts i)) refl h (λ g. over_some n e counts (suc i) loops place g)
  where
    plain : i ≡ i + 0
    plain = omega arith

    one : (k : ℕ) → suc i + k ≡ i + suc k
    one k = omega arith

    by : (b : Bool) → (is_turn x e && nat_le n (counts i)) ≡ b
        → elim b [ true ↦ Some x.place | false ↦ over_of n e counts (suc i) loops ] ≡ Some place
        → (over_of n e counts (suc i) loops ≡ Some place → IsOver n e counts (suc i) loops place) → IsOver n e counts i (x ∷ loops) place
    by true on g go = record {
      number = 0;
      loop = x;
      at = refl;
      turn = (and_parts (is_turn x e) (nat_le n (counts i)) on).0;
      over = ap (λ (k : ℕ). nat_le n (counts k)) (sym plain) ∙ (and_parts (is_turn x e) (nat_le n (counts i)) on).1;
      is = same_Some x.place place g;
    }
    by false off g go =
        let later : IsOver n e counts (suc i) loops place = go g in record {
          number = suc later.number;
          loop = later.loop;
          at = later.at;
          turn = later.turn;
          over = ap (λ (k : ℕ). nat_le n (counts k)) (sym (one later.number)) ∙ later.over;
          is = later.is;
        }

over_none : (n e : ℕ) (counts : Counts) (i : ℕ) (loops : List Loop) → over_of n e counts i loops ≡ None → (j : ℕ) (x : Loop)
    → slice_get loops j ≡ Some x → is_turn x e ≡ true → nat_le n (counts (i + j)) ≡ true → ⊥
over_none n e counts i [] h j x at turn le = none-some x at
over_none n e counts i (y ∷ loops) h j x at turn le =
    by (is_turn y e && nat_le n (counts i)) refl h j at le (λ g k there held. over_none n e counts (suc i) loops g k x there turn held)
  where
    plain : i + 0 ≡ i
    plain = omega arith

    one : (k : ℕ) → i + suc k ≡ suc i + k
    one k = omega arith

    both : (a b : Bool) → a ≡ true → b ≡ true → (a && b) ≡ true
    both true true g k = refl
    both true false g k = k
    both false b g k = absurd (false≢true g)

    by : (b : Bool) → (is_turn y e && nat_le n (counts i)) ≡ b
        → ◌≡◌ {A = Option Place} (elim b [ true ↦ Some y.place | false ↦ over_of n e counts (suc i) loops ]) None → (m : ℕ) → slice_get
        (y ∷ loops) m ≡ Some x
        → nat_le n (counts (i + m)) ≡ true
        → (over_of n e counts (suc i) loops ≡ None → (k : ℕ) → slice_get loops k ≡ Some x → nat_le n (counts (suc i + k)) ≡ true → ⊥) → ⊥
    by true on g m there held go = none-some y.place (sym g)
    by false off g zero there held go = true≢false (sym (both (is_turn y e) (nat_le n (counts i))
        (ap (λ (z : Loop). is_turn z e) (same_Some y x there) ∙ turn) (ap (λ (k : ℕ). nat_le n (counts k)) (sym plain) ∙ held)) ∙ off)
    by false off g (suc k) there held go = go g k there (ap (λ (j : ℕ). nat_le n (counts j)) (sym (one k)) ∙ held)

-- one loop with the turn says it of all
pub over_is : (n e : ℕ) (counts : Counts) (loops : List Loop) → AreClear loops → (j : ℕ) (x : Loop) → slice_get loops j ≡ Some x
    → is_turn x e ≡ true
    → nat_le n (counts j) ≡ true → over_of n e counts 0 loops ≡ Some x.place
over_is n e counts loops clear j x at turn le = by (over_of n e counts 0 loops) refl
  where
    plain : (k : ℕ) → 0 + k ≡ k
    plain k = omega arith

    by : (o : Option Place) → over_of n e counts 0 loops ≡ o → o ≡ Some x.place
    by None h = absurd (over_none n e counts 0 loops h j x at turn (ap (λ (k : ℕ). nat_le n (counts k)) (plain j) ∙ le))
    by (Some place) h = ap (λ (o : Place). Some o) (sym found.is ∙ ap (λ (z : Loop). z.place) same)
      where
        found : IsOver n e counts 0 loops place
        found = over_some n e counts 0 loops place h

        same : found.loop ≡ x
        same = same_Some found.loop x (sym found.at ∙ (ap (λ (k : ℕ). slice_get loops k)
            (one_turn loops e found.number j found.loop x clear found.at at found.turn turn) ∙ at))

-- where no loop has the edge as a turn
pub over_nowhere : (n e : ℕ) (counts : Counts) (i : ℕ) (loops : List Loop)
    → ((j : ℕ) (x : Loop) → slice_get loops j ≡ Some x → is_turn x e ≡ false)
    → over_of n e counts i loops ≡ None
over_nowhere n e counts i [] none = refl
over_nowhere n e counts i (x ∷ loops) none =
    ap (λ (b : Bool). elim (b && nat_le n (counts i)) [ true ↦ Some x.place | false ↦ over_of n e counts (suc i) loops ]) (none 0 x refl)
    ∙ over_nowhere n e counts (suc i) loops (λ j y at. none (suc j) y at)

-- ---- an own edge

-- what has the turn is the copy of an own loop
record IsOwnTurn (body : Body) (e : ℕ) (counts : Counts) (x : Loop) (v : ℕ) : Type 0 where
  number : ℕ
  loop : Loop
  at : slice_get body.work.parts.loops number ≡ Some loop
  turn : is_turn loop e ≡ true
  place : loop.place ≡ x.place
  count : counts number ≡ v

own_turn : (blocks : Blocks) → AreFitting blocks → AreSound blocks → (b : ℕ) (p : Parts) (chain : Chain) → IsChain blocks b p chain
    → (l to e f : ℕ) → IsOwnStep blocks (body_of blocks p chain) (index_of blocks p chain) l to e f → (counts : Counts) (x : Loop) (v : ℕ)
    → is_turn x f ≡ true → IsCounted blocks p chain counts x v → IsOwnTurn (body_of blocks p chain) e counts x v
own_turn blocks fit sound b p chain is l to e f step counts x v on (of_own g) = record {
  number = g.copied.number;
  loop = g.copied.loop;
  at = g.copied.at;
  turn = sym (step.turn g.copied.loop
      (good_of blocks (body_of blocks p chain) (known blocks sound b p chain is) g.copied.number g.copied.loop g.copied.at))
      ∙ (ap (λ (y : Loop). is_turn y f) g.copied.is ∙ on);
  place = ap (λ (y : Loop). y.place) g.copied.is;
  count = g.count;
}
own_turn blocks fit sound b p chain is l to e f step counts x v on (of_inner g) = absurd (true≢false (sym on
    ∙ inner_no_turn blocks fit sound (body_of blocks p chain) (index_of blocks p chain) l to e f step x v g))
own_turn blocks fit sound b p chain is l to e f step counts x v on (of_outer g) = absurd (true≢false (sym on
    ∙ even_no_turn blocks (body_of blocks p chain) (index_of blocks p chain) l to e f step x v
    (outer_even blocks fit sound b p chain is x v g)))

pub over_alike : (blocks : Blocks) → AreFitting blocks → AreSound blocks → (b : ℕ) (p : Parts) (chain : Chain) → IsChain blocks b p chain
    → (n l to e f : ℕ) → IsOwnStep blocks (body_of blocks p chain) (index_of blocks p chain) l to e f → (counts wholes : Counts)
    → AreCounted blocks p chain counts (inlined blocks p).loops wholes
    → over_of n f wholes 0 (inlined blocks p).loops ≡ over_of n e counts 0 (body_of blocks p chain).work.parts.loops
over_alike blocks fit sound b p chain is n l to e f step counts wholes are = by (over_of n f wholes 0 W) refl
    (over_of n e counts 0 q.loops) refl
  where
    W : List Loop
    W = (inlined blocks p).loops

    body : Body
    body = body_of blocks p chain

    i : ℕ
    i = index_of blocks p chain

    q : Parts
    q = body.work.parts

    s : IsSound q
    s = known blocks sound b p chain is

    plain : (k : ℕ) → 0 + k ≡ k
    plain k = omega arith

    over_there : (place : Place) → IsOver n f wholes 0 W place → over_of n e counts 0 q.loops ≡ Some place
    over_there place found = over_is n e counts q.loops s.well_made.apart mine.number mine.loop mine.at mine.turn
        (ap (λ (k : ℕ). nat_le n k) (mine.count ∙ ap wholes (sym (plain found.number))) ∙ found.over)
        ∙ ap (λ (o : Place). Some o) (mine.place ∙ found.is)
      where
        mine : IsOwnTurn body e counts found.loop (wholes found.number)
        mine = own_turn blocks fit sound b p chain is l to e f step counts found.loop (wholes found.number) found.turn
            (are found.number found.loop found.at)

    never : over_of n f wholes 0 W ≡ None → (place : Place) → IsOver n e counts 0 q.loops place → ⊥
    never none place found = over_none n f wholes 0 W none there.number copy there.at turn
        (ap (λ (k : ℕ). nat_le n (wholes k)) (plain there.number) ∙ (ap (λ (k : ℕ). nat_le n k) (sym mine.count
        ∙ ap counts (one_turn q.loops e mine.number found.number mine.loop found.loop s.well_made.apart mine.at found.at mine.turn
        found.turn ∙ sym (plain found.number))) ∙ found.over))
      where
        good : IsGoodLoop blocks body found.loop
        good = good_of blocks body s found.number found.loop found.at

        copy : Loop
        copy = drawn_loop blocks body i found.loop

        turn : is_turn copy f ≡ true
        turn = step.turn found.loop good ∙ found.turn

        below : (a d m : ℕ) → a ≤ d → d < m → a < m
        below a d m h g = omega (arith, h, g)

        there : Stands copy W
        there = stands_of copy W (among blocks fit b p chain is copy
            (own_among blocks body i found.loop (of_get found.number found.loop q.loops found.at)
            (below found.loop.first found.loop.last q.locations good.own.is.range good.own.last)))

        mine : IsOwnTurn body e counts copy (wholes there.number)
        mine = own_turn blocks fit sound b p chain is l to e f step counts copy (wholes there.number) turn (are there.number copy there.at)

    by : (o : Option Place) → over_of n f wholes 0 W ≡ o → (u : Option Place) → over_of n e counts 0 q.loops ≡ u → o ≡ u
    by None h None g = refl
    by None h (Some place) g = absurd (never h place (over_some n e counts 0 q.loops place g))
    by (Some place) h u g = sym (over_there place (over_some n f wholes 0 W place h)) ∙ g
