-- The pass over the locations: what is taken before each is what the copies of the locations before it take, of which loops count that
-- end before. Where the pass is in a loop, what was taken since the loop began is what is in it takes.
use Rattle.std.proofs.Common.{◌≡◌, ℕ, zero, suc, ◌+◌, ◌-◌, ◌*◌, ◌<◌, ◌≤◌, ◌⊎◌, inl, inr, List, [], ◌∷◌, ◌++◌, length, map, take, drop, slice_get, min, Bool, true, false, ◌==◌, cond, Option, Some, None, refl, sym, subst, ap, ◌∙◌, arith}
use Rattle.std.specs.Prelude.{slice_index_or, slice_set}
use Rattle.std.specs.List.{AllByRecursion}
use Rattle.std.proofs.lemmas.Bool.{cases_lt, eqb-true, eqb-false}
use Rattle.std.proofs.lemmas.List.{length-append, length-replicate, length-take-le}
use Rattle.pv_flow.specs.declared.parts.Loop.{Loop as CodeLoop}
use Rattle.pv_flow.specs.Automata.{Loop}
use Rattle.pv_flow.specs.View.{loop_of}
use Rattle.pv_copies.specs.Places.{once, size}
use Rattle.pv_copies.proofs.ForCallers.{AreInOrder, IsLater, later_first, ranges_of, mapped, size_apart}
use Rattle.pv_unroll.specs.declared.sizing.Begun.{Begun}
use Rattle.pv_unroll.specs.Counts.{capped}
use Rattle.pv_unroll.specs.Sizing.{Taking, Sizing, unsized, loop_begun, begun_at, passed, top, ends_by, if_ends, last_ending, popped, ended, ended_by, ended_at, sized_location, sized_from, sized}
use Rattle.pv_unroll.specs.Sizing as code
use Rattle.pv_unroll.proofs.Caps.{at_least, plus_capped, turns_capped}
use Rattle.pv_unroll.proofs.Lists.{put_length, at_put, at_other}
use Rattle.pv_unroll.specs.declared.numbers.TheConstants.{MOST}
use Rattle.pv_unroll.proofs.Firsts.{OffEnd, OnSide, ends_out, size_more, size_split, none_size, over_at, some_is, none_is}
use Rattle.pv_unroll.proofs.Nest.{Held, Skips, none, Path, Around, EachHeld, end_by, drop_one, skips_all, skips_back, skips_over, later_path, path_left, path_order, path_all, path_back, path_size, path_end, range_of, range_is, behind_is, range_below, last_is, before_last}

-- what is so of the whole pass: each copy of location l takes `w l`, loops turn n times, and there are b locations
pub record Ground (w : ℕ → ℕ) (n b : ℕ) (all : List Loop) (weights : List ℕ) : Type 0 where
  pub some : 0 < n
  pub order : AreInOrder all
  pub below : AllByRecursion (λ (loop : Loop). loop.last < b) all
  pub weighed : (l : ℕ) → l < b → slice_index_or weights l 0 ≡ capped (w l)

abbrev pub begun_of : List Loop → List Held → List Begun
begun_of all [] = []
begun_of all (s ∷ outer) = begun_of all outer ++ (record { range = range_of all s; start = capped s.number }) ∷ []

-- what is taken before location l, in loops that began where so much was taken
abbrev pub Taken : (ℕ → ℕ) → ℕ → ℕ → List Loop → List Held → ℕ → ℕ → Type 0
Taken w o n all [] l here = here ≡ size w o n all 0 l
Taken w o n all (s ∷ outer) l here = (here ≡ s.number + size w o n s.more s.loop.first l) × Taken w o n all outer s.loop.first s.number

-- ---- tables

-- from where the first turn begins to where it ends
abbrev pub turn_at : (ℕ → ℕ) → ℕ → ℕ → ℕ → List Loop → Loop → ℕ
turn_at w o n r all loop =
    capped (size w o n all 0 loop.first + size w o n (drop (suc r) all) loop.first (suc loop.last)) - capped (size w o n all 0 loop.first)

-- and no more is taken before its bound is gone over than before here
pub record IsSized (w : ℕ → ℕ) (o n : ℕ) (all : List Loop) (turns overs : List ℕ) (here r : ℕ) (loop : Loop) : Type 0 where
  pub turn : slice_index_or turns r 0 ≡ turn_at w o n r all loop
  pub over : slice_index_or overs r 0 ≡ capped (over_at w o n 0 r all loop)
  pub low : over_at w o n 0 r all loop ≤ here

further_on : (w : ℕ → ℕ) (o n : ℕ) (all : List Loop) (turns overs : List ℕ) (here there r : ℕ) (loop : Loop) → here ≤ there
    → IsSized w o n all turns overs here r loop → IsSized w o n all turns overs there r loop
further_on w o n all turns overs here there r loop le is = record { turn = is.turn; over = is.over; low = omega (arith, le, is.low) }

abbrev pub NoneOf : List Loop → ℕ → List Held → Type 0
NoneOf all r [] = Unit {0}
NoneOf all r (s ∷ outer) = (r ≡ range_of all s → ⊥) × NoneOf all r outer

-- so much is taken before location l; the loops around hold location h
pub record IsAt (w : ℕ → ℕ) (o n b : ℕ) (all : List Loop) (around : List Held) (loops : List Loop) (h l here : ℕ) (s : Sizing) : Type 0 where
  pub begun : s.begun ≡ begun_of all around
  pub next : s.next + length loops ≡ length all
  pub at : s.here ≡ capped here
  pub path : Path l all around loops
  pub taken : Taken w o n all around l here
  pub held : Around b h around
  pub turns : length s.turns ≡ length all
  pub overs : length s.overs ≡ length all
  pub sized : (r : ℕ) (loop : Loop) → slice_get all r ≡ Some loop → r < s.next → NoneOf all r around → IsSized w o n all s.turns s.overs here r loop

-- ---- what is taken before a location, told from all loops

held_first : (b h : ℕ) (around : List Held) → Around b h around → (m : ℕ) → m ≤ h → EachHeld (λ (loop : Loop). m ≤ loop.last) around
held_first b h [] held m le = tt
held_first b h (s ∷ outer) held m le = (omega (arith, held.1, le), held_first b h outer held.3 m le)

pub taken_size : (w : ℕ → ℕ) (o n b : ℕ) (all : List Loop) (around : List Held) (loops : List Loop) (h l here : ℕ) → AreInOrder all
    → Path l all around loops → Around b h around → l ≤ h → Taken w o n all around l here → here ≡ size w o n all 0 l
taken_size w o n b all [] loops h l here order path held le taken = taken
taken_size w o n b all (s ∷ outer) loops h l here order path held le taken =
    sum (taken_size w o n b all outer (s.loop ∷ s.more) h s.loop.first s.number order path.2 held.3 (omega (arith, held.0)) taken.1)
    (size_split w o n l all 0 s.loop.first l (ranges_of all order) sides (omega arith) path.0 (omega arith))
    (path_size w o n s.loop.first l all outer (s.loop ∷ s.more) (ranges_of all order) path.2 (held_first b h outer held.3 l le)
    ∙ none_out)
  where
    own : AreInOrder (s.loop ∷ s.more)
    own = path_order s.loop.first all outer (s.loop ∷ s.more) path.2 order

    none_out : size w o n (s.loop ∷ s.more) s.loop.first l ≡ size w o n s.more s.loop.first l
    none_out = size_apart w o n s.loop s.more s.loop.first l (ends_out s.loop s.loop.first l (omega (arith, held.1, le)))

    sides : AllByRecursion (OnSide s.loop.first l) all
    sides = path_back (OnSide s.loop.first l) s.loop.first all outer (s.loop ∷ s.more) (λ loop lt. inl lt) path.2
        (goes_on outer (held_first b h outer held.3 l le)) (
          inr (inl (omega arith)),
          mapped (IsLater s.loop) (OnSide s.loop.first l) s.more
              (λ other g. inr (inl (later_first s.loop other own.0 g))) own.1,
        )
      where
        goes_on : (xs : List Held) → EachHeld (λ (loop : Loop). l ≤ loop.last) xs → EachHeld (OnSide s.loop.first l) xs
        goes_on [] g = tt
        goes_on (x ∷ xs) g = (inr (inr g.0), goes_on xs g.1)

    sum : s.number ≡ size w o n all 0 s.loop.first
        → size w o n all 0 s.loop.first + size w o n all s.loop.first l ≡ size w o n all 0 l
        → size w o n all s.loop.first l ≡ size w o n s.more s.loop.first l → here ≡ size w o n all 0 l
    sum e f g = omega (arith, taken.0, e, f, g)

-- ---- loops begin

pub record Begins (w : ℕ → ℕ) (o n b : ℕ) (all : List Loop) (l here : ℕ) (firsts : List ℕ) (s : Sizing) : Type 0 where
  pub around : List Held
  pub loops : List Loop
  pub is : IsAt w o n b all around loops l l here s
  pub later : AllByRecursion (λ (loop : Loop). l < loop.first) loops
  pub same : s.firsts ≡ firsts

opens : (w : ℕ → ℕ) (o n b : ℕ) (all : List Loop) (weights : List ℕ) (around : List Held) (loop : Loop) (loops : List Loop) (l here : ℕ) (s : Sizing)
    → Ground w n b all weights → loop.first ≡ l → IsAt w o n b all around (loop ∷ loops) l l here s
    → IsAt w o n b all ((record { loop = loop; more = loops; number = here }) ∷ around) loops l l here (loop_begun s)
opens w o n b all weights around loop loops l here s ground first is = record {
  begun = ap (λ (xs : List Begun). xs ++ (record { range = s.next; start = s.here }) ∷ []) is.begun
      ∙ ap (λ (r : ℕ). begun_of all around ++ (record { range = r; start = s.here }) ∷ []) range
      ∙ ap (λ (m : ℕ). begun_of all around ++ (record { range = length all - suc (length loops); start = m }) ∷ []) is.at;
  next = omega (arith, is.next);
  at = is.at;
  path = (omega (arith, first), none l loops, subst (λ (m : ℕ). Path m all around (loop ∷ loops)) (sym first) is.path);
  taken = (
    nothing (none_size w o n loops loop.first l (ranges_of loops order.2) (omega (arith, first))),
    subst (λ (m : ℕ). Taken w o n all around m here) (sym first) is.taken,
  );
  held = (omega (arith, first), omega (arith, first, order.0), inside around is.path is.held, is.held);
  turns = is.turns;
  overs = is.overs;
  sized = λ r other at lt apart. is.sized r other at (below r lt apart.0) apart.1;
}
  where
    order : AreInOrder (loop ∷ loops)
    order = path_order l all around (loop ∷ loops) is.path ground.order

    range : s.next ≡ length all - suc (length loops)
    range = omega (arith, is.next)

    below : (r : ℕ) → r < suc s.next → (r ≡ length all - suc (length loops) → ⊥) → r < s.next
    below r lt differ = by (cases_lt r s.next)
      where
        by : (r < s.next) ⊎ (s.next ≤ r) → r < s.next
        by (inl low) = low
        by (inr high) = absurd (differ (omega (arith, high, lt, is.next)))

    nothing : size w o n loops loop.first l ≡ 0 → here ≡ here + size w o n loops loop.first l
    nothing e = omega (arith, e)

    inside : (around : List Held) → Path l all around (loop ∷ loops) → Around b l around → loop.last < end_by b around
    inside [] path held = (skips_all (λ (other : Loop). other.last < b) l all (loop ∷ loops) path ground.below).0
    inside (t ∷ outer) path held =
        by (skips_all (IsLater t.loop) l t.more (loop ∷ loops) path.1 (path_order t.loop.first all outer (t.loop ∷ t.more) path.2 ground.order).1).0
      where
        by : IsLater t.loop loop → loop.last < suc t.loop.last
        by (inl h) = omega (arith, h.1)
        by (inr h) = absurd (omega (arith, h, held.1, first))

begins : (w : ℕ → ℕ) (o n b : ℕ) (all : List Loop) (weights : List ℕ) (around : List Held) (loops : List Loop) (l here : ℕ) (s : Sizing)
    → Ground w n b all weights → AllByRecursion (λ (loop : Loop). l ≤ loop.first) loops → IsAt w o n b all around loops l l here s
    → Begins w o n b all l here s.firsts (begun_at l loops s)
begins w o n b all weights around [] l here s ground low is = record { around = around; loops = []; is = is; later = tt; same = refl }
begins w o n b all weights around (loop ∷ loops) l here s ground low is =
    by (loop.first == l) refl (λ first. begins w o n b all weights ((record { loop = loop; more = loops; number = here }) ∷ around) loops l here (loop_begun s)
    ground low.1 (opens w o n b all weights around loop loops l here s ground first is))
  where
    order : AreInOrder (loop ∷ loops)
    order = path_order l all around (loop ∷ loops) is.path ground.order

    by : (t : Bool) → (loop.first == l) ≡ t → (loop.first ≡ l → Begins w o n b all l here s.firsts (begun_at l loops (loop_begun s)))
        → Begins w o n b all l here s.firsts (cond t (begun_at l loops (loop_begun s)) s)
    by true e go = go (eqb-true loop.first l e)
    by false e go = record {
      around = around;
      loops = loop ∷ loops;
      is = is;
      later = (lt, mapped (IsLater loop) (λ (other : Loop). l < other.first) loops (λ other h. further other (later_first loop other order.0 h)) order.1);
      same = refl;
    }
      where
        lt : l < loop.first
        lt = by_less (cases_lt l loop.first)
          where
            by_less : (l < loop.first) ⊎ (loop.first ≤ l) → l < loop.first
            by_less (inl h) = h
            by_less (inr h) = absurd (eqb-false loop.first l e (omega (arith, h, low.0)))

        further : (other : Loop) → loop.first ≤ other.first → l < other.first
        further other le = omega (arith, lt, le)

-- of the code's loop: it stops, or another loop begins
pub drop_at : (n : ℕ) (xs : List CodeLoop) (loop : CodeLoop) → n < length xs → slice_index_or xs n loop ≡ loop
    → drop n (map loop_of xs) ≡ loop_of loop ∷ drop (suc n) (map loop_of xs)
drop_at n [] loop lt at = absurd (omega (arith, lt))
drop_at zero (x ∷ xs) loop lt at = ap (λ (l : CodeLoop). loop_of l ∷ map loop_of xs) at
drop_at (suc n) (x ∷ xs) loop lt at = drop_at n xs loop (omega (arith, lt)) at

pub begun_stop : (at n : ℕ) (xs : List CodeLoop) (loop : CodeLoop) (s : Sizing) → n < length xs → slice_index_or xs n loop ≡ loop
    → (loop.first == at) ≡ false → begun_at at (drop n (map loop_of xs)) s ≡ s
begun_stop at n xs loop s lt stands off = ap (λ (ls : List Loop). begun_at at ls s) (drop_at n xs loop lt stands)
    ∙ ap (λ (t : Bool). cond t (begun_at at (drop (suc n) (map loop_of xs)) (loop_begun s)) s) off

pub begun_more : (at n : ℕ) (xs : List CodeLoop) (loop : CodeLoop) (s : Sizing) → n < length xs → slice_index_or xs n loop ≡ loop
    → (loop.first == at) ≡ true → begun_at at (drop n (map loop_of xs)) s ≡ begun_at at (drop (suc n) (map loop_of xs)) (loop_begun s)
begun_more at n xs loop s lt stands on = ap (λ (ls : List Loop). begun_at at ls s) (drop_at n xs loop lt stands)
    ∙ ap (λ (t : Bool). cond t (begun_at at (drop (suc n) (map loop_of xs)) (loop_begun s)) s) on

-- ---- the location

passes : (w : ℕ → ℕ) (o n b : ℕ) (all : List Loop) (weights : List ℕ) (around : List Held) (loops : List Loop) (l here weight : ℕ) (s : Sizing)
    → Ground w n b all weights → weight ≡ capped (w l) → AllByRecursion (λ (loop : Loop). l < loop.first) loops → IsAt w o n b all around loops l l here s
    → IsAt w o n b all around loops l (suc l) (here + w l) (passed weight s)
passes w o n b all weights around loops l here weight s ground weighs later is = record {
  begun = is.begun;
  next = is.next;
  at = ap (λ (m : ℕ). capped (m + weight)) is.at ∙ ap (λ (m : ℕ). capped (capped here + m)) weighs ∙ plus_capped here (w l);
  path = later_path l (suc l) all around loops (omega arith) is.path;
  taken = more around is.path is.taken;
  held = is.held;
  turns = is.turns;
  overs = is.overs;
  sized = λ r loop at lt apart. further_on w o n all s.turns s.overs here (here + w l) r loop (omega arith) (is.sized r loop at lt apart);
}
  where
    off : (xs : List Loop) → Skips l xs loops → AllByRecursion (OffEnd l) xs
    off xs skips = skips_back (OffEnd l) l xs loops (λ loop lt. inl lt) skips
        (mapped (λ (loop : Loop). l < loop.first) (OffEnd l) loops (λ loop lt. inr lt) later)

    sum : (x y z v : ℕ) → x ≡ y + z → x + v ≡ y + (z + v)
    sum x y z v e = omega (arith, e)

    more : (around : List Held) → Path l all around loops → Taken w o n all around l here → Taken w o n all around (suc l) (here + w l)
    more [] path taken = ap (λ (m : ℕ). m + w l) taken
        ∙ sym (size_more w o n all 0 l (ranges_of all ground.order) (off all path) (omega arith))
    more (t ∷ outer) path taken = (
      sum here t.number (size w o n t.more t.loop.first l) (w l) taken.0
          ∙ ap (λ (m : ℕ). t.number + m) (sym (size_more w o n t.more t.loop.first l
          (ranges_of t.more (path_order t.loop.first all outer (t.loop ∷ t.more) path.2 ground.order).2) (off t.more path.1) path.0)),
      taken.1,
    )

-- ---- loops end

-- what is taken behind a loop
abbrev over_here : (ℕ → ℕ) → ℕ → ℕ → Held → ℕ
over_here w o n t = t.number + n * size w o n t.more t.loop.first (suc t.loop.last) + once w t.loop

abbrev begun_at_end : List Loop → Held → Begun
begun_at_end all t = record { range = range_of all t; start = capped t.number }

closes : (w : ℕ → ℕ) (o n b : ℕ) (all : List Loop) (weights : List ℕ) (t : Held) (outer : List Held) (loops : List Loop) (l here : ℕ) (s : Sizing)
    → Ground w n b all weights → t.loop.last ≡ l → IsAt w o n b all (t ∷ outer) loops l (suc l) here s
    → IsAt w o n b all outer loops l (suc l) (over_here w o n t + o)
    (ended (record { turns = n; over = o }) weights t.loop (begun_at_end all t) (popped s))
closes w o n b all weights t outer loops l here s ground last is = record {
  begun = ap (λ (xs : List Begun). take (length xs - 1) xs) is.begun ∙ before_last (begun_of all outer) (begun_at_end all t);
  next = is.next;
  at = ap (λ (m : ℕ). capped (m + o)) over ∙ capped_sum (over_here w o n t) o;
  path = path_left (suc l) all t outer loops (omega (arith, last)) is.path;
  taken = behind outer (is.path).2 (is.taken).1;
  held = (is.held).3;
  turns = put_length (range_of all t) s.turns (s.here - capped t.number) ∙ is.turns;
  overs = put_length (range_of all t) s.overs (code.over_behind (record { turns = n; over = o }) weights t.loop (capped t.number) (s.here - capped t.number))
      ∙ is.overs;
  sized = λ r loop at lt apart. by r loop at lt apart (r == range_of all t) refl;
}
  where
    own : AreInOrder (t.loop ∷ t.more)
    own = path_order t.loop.first all outer (t.loop ∷ t.more) (is.path).2 ground.order

    turn : ℕ
    turn = size w o n t.more t.loop.first (suc t.loop.last)

    came : here ≡ t.number + turn
    came = (is.taken).0 ∙ ap (λ (m : ℕ). t.number + size w o n t.more t.loop.first (suc m)) (sym last)

    less : (x y : ℕ) → x + y - x ≡ y
    less x y = omega arith

    capped_by : (most x y : ℕ) → min (min x most + y) most ≡ min (x + y) most
    capped_by most x y = omega arith

    capped_sum : (x y : ℕ) → capped (capped x + y) ≡ capped (x + y)
    capped_sum x y = capped_by MOST x y

    last_below : t.loop.last < b
    last_below = (path_all (λ (loop : Loop). loop.last < b) t.loop.first all outer (t.loop ∷ t.more) (is.path).2 ground.below).0

    extra : code.once weights t.loop ≡ capped (once w t.loop)
    extra = by_entry t.loop.entry_turn
      where
        by_entry : (e : Bool) → cond e 0 (slice_index_or weights t.loop.first 0) ≡ capped (cond e 0 (w t.loop.first))
        by_entry true = refl
        by_entry false = ground.weighed t.loop.first (omega (arith, own.0, last_below))

    over : code.over_behind (record { turns = n; over = o }) weights t.loop (capped t.number) (s.here - capped t.number) ≡ capped (over_here w o n t)
    over = ap (λ (m : ℕ). capped (capped (capped t.number + capped (n * (m - capped t.number))) + code.once weights t.loop)) is.at
        ∙ ap (λ (m : ℕ). capped (capped (capped t.number + capped (n * (capped here - capped t.number))) + m)) extra
        ∙ ap (λ (m : ℕ). capped (capped (capped t.number + capped (n * (capped m - capped t.number))) + capped (once w t.loop))) came
        ∙ ap (λ (m : ℕ). capped (m + capped (once w t.loop))) (turns_capped n t.number (t.number + turn) ground.some (omega arith))
        ∙ ap (λ (m : ℕ). capped (capped (t.number + n * m) + capped (once w t.loop))) (less t.number turn)
        ∙ plus_capped (t.number + n * turn) (once w t.loop)

    sum : (x y z v u : ℕ) → u ≡ x + y + (z + v) → x + y + z + v ≡ u
    sum x y z v u e = omega (arith, e)

    behind : (xs : List Held) → Path t.loop.first all xs (t.loop ∷ t.more) → Taken w o n all xs t.loop.first t.number
        → Taken w o n all xs (suc l) (over_here w o n t + o)
    behind [] path taken =
        sum t.number (n * turn) (once w t.loop) o (size w o n all 0 (suc t.loop.last))
        (skips_over w o n t.loop all t.more 0 (ranges_of all ground.order) (ranges_of t.more own.2) own.0 path (omega arith)
        ∙ ap (λ (m : ℕ). m + n * turn + (once w t.loop + o)) (sym taken))
        ∙ ap (λ (m : ℕ). size w o n all 0 (suc m)) last
    behind (x ∷ xs) path taken = (
      sum t.number (n * turn) (once w t.loop) o (x.number + size w o n x.more x.loop.first (suc t.loop.last))
          (further x.number (size w o n x.more x.loop.first (suc t.loop.last)) (size w o n x.more x.loop.first t.loop.first) (n * turn) (once w t.loop + o)
          (skips_over w o n t.loop x.more t.more x.loop.first
          (ranges_of x.more (path_order x.loop.first all xs (x.loop ∷ x.more) path.2 ground.order).2) (ranges_of t.more own.2) own.0 path.1 path.0)
          ∙ ap (λ (m : ℕ). m + n * turn + (once w t.loop + o)) (sym taken.0))
          ∙ ap (λ (m : ℕ). x.number + size w o n x.more x.loop.first (suc m)) last,
      taken.1,
    )
      where
        further : (c y z v u : ℕ) → y ≡ z + v + u → c + y ≡ c + z + v + u
        further c y z v u e = omega (arith, e)

    started : t.number ≡ size w o n all 0 t.loop.first
    started = taken_size w o n b all outer (t.loop ∷ t.more) l t.loop.first t.number ground.order (is.path).2 (is.held).3
        (omega (arith, last, own.0)) (is.taken).1

    own_turn : s.here - capped t.number ≡ turn_at w o n (range_of all t) all t.loop
    own_turn =
        ap (λ (m : ℕ). m - capped t.number) is.at
        ∙ ap (λ (m : ℕ). capped m - capped t.number) came
        ∙ ap (λ (m : ℕ). capped (m + turn) - capped m) started
        ∙ ap (λ (xs : List Loop). capped (size w o n all 0 t.loop.first + size w o n xs t.loop.first (suc t.loop.last)) - capped (size w o n all 0 t.loop.first))
        (sym (behind_is (suc l) all t outer loops is.path))

    own_over : over_here w o n t ≡ over_at w o n 0 (range_of all t) all t.loop
    own_over =
        ap (λ (m : ℕ). m + n * turn + once w t.loop) started
        ∙ ap (λ (xs : List Loop). size w o n all 0 t.loop.first + n * size w o n xs t.loop.first (suc t.loop.last) + once w t.loop)
        (sym (behind_is (suc l) all t outer loops is.path))

    grown : (m : ℕ) → m ≤ here → m ≤ over_here w o n t + o
    grown m le = let more = at_least n turn ground.some in omega (arith, le, came, more)

    within : range_of all t < length all
    within = omega (arith, range_below (suc l) all t outer loops is.path)

    by : (r : ℕ) (loop : Loop) → slice_get all r ≡ Some loop → r < s.next → NoneOf all r outer → (c : Bool) → (r == range_of all t) ≡ c
        → IsSized w o n all (slice_set s.turns (range_of all t) (s.here - capped t.number))
        (slice_set s.overs (range_of all t)
        (code.over_behind (record { turns = n; over = o }) weights t.loop (capped t.number) (s.here - capped t.number))) (over_here w o n t + o) r loop
    by r loop at lt apart true e =
        subst (λ (m : ℕ). IsSized w o n all (slice_set s.turns (range_of all t) (s.here - capped t.number))
        (slice_set s.overs (range_of all t)
        (code.over_behind (record { turns = n; over = o }) weights t.loop (capped t.number) (s.here - capped t.number))) (over_here w o n t + o) m loop)
        (sym (eqb-true r (range_of all t) e))
        (subst (λ (other : Loop). IsSized w o n all (slice_set s.turns (range_of all t) (s.here - capped t.number))
        (slice_set s.overs (range_of all t)
        (code.over_behind (record { turns = n; over = o }) weights t.loop (capped t.number) (s.here - capped t.number))) (over_here w o n t + o) (range_of all t) other)
        (some_is t.loop loop (sym (range_is (suc l) all t outer loops is.path) ∙ ap (slice_get all) (sym (eqb-true r (range_of all t) e)) ∙ at))
        (record {
          turn = at_put (range_of all t) s.turns (s.here - capped t.number) 0 (omega (arith, within, is.turns)) ∙ own_turn;
          over = at_put (range_of all t) s.overs
              (code.over_behind (record { turns = n; over = o }) weights t.loop (capped t.number) (s.here - capped t.number)) 0
              (omega (arith, within, is.overs)) ∙ over ∙ ap capped own_over;
          low = omega (arith, own_over);
        }))
    by r loop at lt apart false e =
        let known = is.sized r loop at lt ((λ same. eqb-false r (range_of all t) e same), apart) in
        record {
          turn = at_other (range_of all t) r s.turns (s.here - capped t.number) 0 (λ same. eqb-false r (range_of all t) e (sym same)) ∙ known.turn;
          over = at_other (range_of all t) r s.overs
              (code.over_behind (record { turns = n; over = o }) weights t.loop (capped t.number) (s.here - capped t.number)) 0
              (λ same. eqb-false r (range_of all t) e (sym same)) ∙ known.over;
          low = grown (over_at w o n 0 r all loop) known.low;
        }

pub record Ends (w : ℕ → ℕ) (o n b : ℕ) (all : List Loop) (loops : List Loop) (l : ℕ) (firsts : List ℕ) (s : Sizing) : Type 0 where
  pub around : List Held
  pub here : ℕ
  pub is : IsAt w o n b all around loops (suc l) (suc l) here s
  pub same : s.firsts ≡ firsts

nothing_ends : (t : Taking) (weights : List ℕ) (all : List Loop) (l most : ℕ) (s : Sizing) → last_ending all l s ≡ None
    → ended_at t weights all l most s ≡ s
nothing_ends t weights all l zero s e = refl
nothing_ends t weights all l (suc most) s e = ap (λ (o : Option Begun). elim o [
  | None ↦ s
  | Some b ↦ ended_at t weights all l most (ended_by t weights (slice_get all b.range) b (popped s))
]) e

any_ends : (t : Taking) (weights : List ℕ) (all : List Loop) (l most : ℕ) (s : Sizing) (b : Begun) → last_ending all l s ≡ Some b
    → ended_at t weights all l (suc most) s ≡ ended_at t weights all l most (ended_by t weights (slice_get all b.range) b (popped s))
any_ends t weights all l most s b e = ap (λ (o : Option Begun). elim o [
  | None ↦ s
  | Some b ↦ ended_at t weights all l most (ended_by t weights (slice_get all b.range) b (popped s))
]) e

-- of the code's loop: what the loops do that are left, all of them do
pub loop_step : (t : Taking) (weights : List ℕ) (all : List Loop) (l : ℕ) (s next start : Sizing) (b : Begun) (o : Option Begun)
    → o ≡ last_ending all l s → o ≡ Some b → next ≡ ended_by t weights (slice_get all b.range) b (popped s)
    → ended_at t weights all l (length s.begun) s ≡ start → ended_at t weights all l (length next.begun) next ≡ start
loop_step t weights all l s next start b o same found is left =
    ap (λ (r : Sizing). ended_at t weights all l (length r.begun) r) is
    ∙ ap (λ (m : ℕ). ended_at t weights all l m (ended_by t weights (slice_get all b.range) b (popped s))) shorter
    ∙ sym (any_ends t weights all l (length s.begun - 1) s b (sym same ∙ found))
    ∙ ap (λ (m : ℕ). ended_at t weights all l m s) more ∙ left
  where
    some : (xs : List Begun) → if_ends all l (top xs) ≡ Some b → 0 < length xs
    some [] e = absurd (none_is b e)
    some (x ∷ xs) e = omega arith

    more : suc (length s.begun - 1) ≡ length s.begun
    more = let h = some s.begun (sym same ∙ found) in omega (arith, h)

    shape : (x : Option Loop) → (ended_by t weights x b (popped s)).begun ≡ take (length s.begun - 1) s.begun
    shape None = refl
    shape (Some loop) = refl

    shorter : length (ended_by t weights (slice_get all b.range) b (popped s)).begun ≡ length s.begun - 1
    shorter = ap (λ (xs : List Begun). length xs) (shape (slice_get all b.range)) ∙ length-take-le (length s.begun - 1) s.begun (omega arith)

one_ends : (t : Taking) (weights : List ℕ) (all : List Loop) (l most : ℕ) (s : Sizing) (b : Begun) (loop : Loop) → last_ending all l s ≡ Some b
    → slice_get all b.range ≡ Some loop
    → ended_at t weights all l (suc most) s ≡ ended_at t weights all l most (ended t weights loop b (popped s))
one_ends t weights all l most s b loop e f =
    ap (λ (o : Option Begun). elim o [
      | None ↦ s
      | Some b ↦ ended_at t weights all l most (ended_by t weights (slice_get all b.range) b (popped s))
    ]) e
    ∙ ap (λ (o : Option Loop). ended_at t weights all l most (ended_by t weights o b (popped s))) f

ends : (w : ℕ → ℕ) (o n b : ℕ) (all : List Loop) (weights : List ℕ) (around : List Held) (loops : List Loop) (l here most : ℕ) (s : Sizing)
    → Ground w n b all weights → length around ≤ most → IsAt w o n b all around loops l (suc l) here s
    → Ends w o n b all loops l s.firsts (ended_at (record { turns = n; over = o }) weights all l most s)
ends w o n b all weights [] loops l here most s ground fuel is =
    subst (λ (r : Sizing). Ends w o n b all loops l s.firsts r)
    (sym (nothing_ends (record { turns = n; over = o }) weights all l most s
    (ap (λ (xs : List Begun). if_ends all l (top xs)) is.begun)))
    (record {
      around = [];
      here = here;
      is = record { begun = is.begun; next = is.next; at = is.at; path = is.path; taken = is.taken; held = tt; turns = is.turns; overs = is.overs; sized = is.sized };
      same = refl;
    })
ends w o n b all weights (t ∷ outer) loops l here zero s ground fuel is = absurd (omega (arith, fuel))
ends w o n b all weights (t ∷ outer) loops l here (suc most) s ground fuel is =
    by (t.loop.last == l) refl
    (λ last. ends w o n b all weights outer loops l (over_here w o n t + o) most
    (ended (record { turns = n; over = o }) weights t.loop (begun_at_end all t) (popped s)) ground (omega (arith, fuel))
    (closes w o n b all weights t outer loops l here s ground last is))
  where
    found : last_ending all l s ≡ cond (t.loop.last == l) (Some (begun_at_end all t)) None
    found = ap (λ (xs : List Begun). if_ends all l (top xs)) is.begun
        ∙ ap (λ (x : Option Begun). if_ends all l x) (last_is (begun_of all outer) (begun_at_end all t))
        ∙ ap (λ (x : Option Loop). cond (ends_by x l) (Some (begun_at_end all t)) None) (range_is (suc l) all t outer loops is.path)

    by : (c : Bool) → (t.loop.last == l) ≡ c
        → (t.loop.last ≡ l → Ends w o n b all loops l s.firsts (ended_at (record { turns = n; over = o }) weights all l most
        (ended (record { turns = n; over = o }) weights t.loop (begun_at_end all t) (popped s))))
        → Ends w o n b all loops l s.firsts (ended_at (record { turns = n; over = o }) weights all l (suc most) s)
    by true e go = subst (λ (r : Sizing). Ends w o n b all loops l s.firsts r)
        (sym (one_ends (record { turns = n; over = o }) weights all l most s (begun_at_end all t) t.loop
        (found ∙ ap (λ (c : Bool). cond c (Some (begun_at_end all t)) None) e) (range_is (suc l) all t outer loops is.path)))
        (go (eqb-true t.loop.last l e))
    by false e go = subst (λ (r : Sizing). Ends w o n b all loops l s.firsts r)
        (sym (nothing_ends (record { turns = n; over = o }) weights all l (suc most) s (found ∙ ap (λ (c : Bool). cond c (Some (begun_at_end all t)) None) e)))
        (record {
          around = t ∷ outer;
          here = here;
          is = record {
            begun = is.begun;
            next = is.next;
            at = is.at;
            path = is.path;
            taken = is.taken;
            held = stays (t ∷ outer) is.held (by_less (cases_lt l t.loop.last));
            turns = is.turns;
            overs = is.overs;
            sized = is.sized;
          };
          same = refl;
        })
      where
        by_less : (l < t.loop.last) ⊎ (t.loop.last ≤ l) → suc l ≤ t.loop.last
        by_less (inl h) = h
        by_less (inr h) = absurd (eqb-false t.loop.last l e (omega (arith, h, (is.held).1)))

        last_of : List Held → ℕ
        last_of [] = suc l
        last_of (x ∷ xs) = x.loop.last

        stays : (xs : List Held) → Around b l xs → suc l ≤ last_of xs → Around b (suc l) xs
        stays [] held le = tt
        stays (x ∷ []) held le = (omega (arith, held.0), le, held.2, tt)
        stays (x ∷ y ∷ xs) held le = (omega (arith, held.0), le, held.2, stays (y ∷ xs) held.3 (omega (arith, held.2, le)))

-- ---- the pass

abbrev pub FirstsAre : (ℕ → ℕ) → ℕ → ℕ → List Loop → ℕ → List ℕ → Type 0
FirstsAre w o n all l firsts = (length firsts ≡ l) × ((m : ℕ) → m < l → slice_index_or firsts m 0 ≡ capped (size w o n all 0 m))

-- locations from `at` on
pub record IsPast (w : ℕ → ℕ) (o n b : ℕ) (all : List Loop) (l : ℕ) (s : Sizing) : Type 0 where
  pub around : List Held
  pub loops : List Loop
  pub here : ℕ
  pub is : IsAt w o n b all around loops l l here s
  pub low : AllByRecursion (λ (loop : Loop). l ≤ loop.first) loops
  pub firsts : FirstsAre w o n all l s.firsts

with_first : (w : ℕ → ℕ) (o n : ℕ) (all : List Loop) (l x : ℕ) (firsts : List ℕ) → x ≡ capped (size w o n all 0 l) → FirstsAre w o n all l firsts
    → FirstsAre w o n all (suc l) (firsts ++ x ∷ [])
with_first w o n all l x firsts e are = (
  length-append firsts (x ∷ []) ∙ omega (arith, are.0),
  λ m lt. by m (cases_lt m l) lt,
)
  where
    at_end : (xs : List ℕ) → slice_index_or (xs ++ x ∷ []) (length xs) 0 ≡ x
    at_end [] = refl
    at_end (y ∷ ys) = at_end ys

    at_low : (xs : List ℕ) (m : ℕ) → m < length xs → slice_index_or (xs ++ x ∷ []) m 0 ≡ slice_index_or xs m 0
    at_low [] m lt = absurd (omega (arith, lt))
    at_low (y ∷ ys) zero lt = refl
    at_low (y ∷ ys) (suc m) lt = at_low ys m (omega (arith, lt))

    by : (m : ℕ) → (m < l) ⊎ (l ≤ m) → m < suc l → slice_index_or (firsts ++ x ∷ []) m 0 ≡ capped (size w o n all 0 m)
    by m (inl low) lt = at_low firsts m (omega (arith, low, are.0)) ∙ are.1 m low
    by m (inr high) lt =
        ap (λ (k : ℕ). slice_index_or (firsts ++ x ∷ []) k 0) (same m high lt ∙ sym are.0) ∙ at_end firsts ∙ e
        ∙ ap (λ (k : ℕ). capped (size w o n all 0 k)) (sym (same m high lt))
      where
        same : (m : ℕ) → l ≤ m → m < suc l → m ≡ l
        same m high lt = omega (arith, high, lt)

drop_next : (all loops : List Loop) (next : ℕ) → next + length loops ≡ length all → drop (length all - length loops) all ≡ loops → drop next all ≡ loops
drop_next all loops next e f = ap (λ (k : ℕ). drop k all) same ∙ f
  where
    same : next ≡ length all - length loops
    same = omega (arith, e)

one_past : (w : ℕ → ℕ) (o n b : ℕ) (all : List Loop) (weights : List ℕ) (l weight : ℕ) (s : Sizing) → Ground w n b all weights → weight ≡ capped (w l)
    → IsPast w o n b all l s → IsPast w o n b all (suc l) (sized_location (record { turns = n; over = o }) all weights l weight s)
one_past w o n b all weights l weight s ground weighs past =
    let begun = begins w o n b all weights past.around past.loops l past.here s ground past.low past.is in
    subst (λ (xs : List Loop). IsPast w o n b all (suc l) (ended_at (record { turns = n; over = o }) weights all l
    (length (passed weight (begun_at l xs s)).begun) (passed weight (begun_at l xs s))))
    (sym (drop_next all past.loops s.next (past.is).next (path_end l all past.around past.loops (past.is).path).0))
    (finish begun)
  where
    as_many : (xs : List Held) → length (begun_of all xs) ≡ length xs
    as_many [] = refl
    as_many (x ∷ xs) = length-append (begun_of all xs) (begun_at_end all x ∷ []) ∙ omega (arith, as_many xs)

    fuel : (begun : Begins w o n b all l past.here s.firsts (begun_at l past.loops s)) → length begun.around ≤ length (begun_at l past.loops s).begun
    fuel begun = omega (arith, ap (λ (xs : List Begun). length xs) (begun.is).begun, as_many begun.around)

    finish : Begins w o n b all l past.here s.firsts (begun_at l past.loops s)
        → IsPast w o n b all (suc l) (ended_at (record { turns = n; over = o }) weights all l
        (length (passed weight (begun_at l past.loops s)).begun) (passed weight (begun_at l past.loops s)))
    finish begun =
        let inside = passes w o n b all weights begun.around begun.loops l past.here weight (begun_at l past.loops s) ground weighs begun.later begun.is in
        let end = ends w o n b all weights begun.around begun.loops l (past.here + w l) (length (passed weight (begun_at l past.loops s)).begun)
        (passed weight (begun_at l past.loops s)) ground (fuel begun) inside in
        record {
          around = end.around;
          loops = begun.loops;
          here = end.here;
          is = end.is;
          low = begun.later;
          firsts = subst (λ (xs : List ℕ). FirstsAre w o n all (suc l) xs) (sym end.same)
              (with_first w o n all l (begun_at l past.loops s).here (begun_at l past.loops s).firsts
              ((begun.is).at ∙ ap capped (taken_size w o n b all begun.around begun.loops l l past.here ground.order (begun.is).path (begun.is).held
              (omega arith) (begun.is).taken))
              (subst (λ (xs : List ℕ). FirstsAre w o n all l xs) (sym begun.same) past.firsts));
        }

past_all : (w : ℕ → ℕ) (o n b : ℕ) (all : List Loop) (weights more : List ℕ) (l : ℕ) (s : Sizing) → Ground w n b all weights → b ≤ 4294967295
    → drop l weights ≡ more → l + length more ≡ b
    → IsPast w o n b all l s → IsPast w o n b all b (sized_from (record { turns = n; over = o }) all weights l more s)
past_all w o n b all weights [] l s ground narrow rest long past = subst (λ (m : ℕ). IsPast w o n b all m s) (end long) past
  where
    end : l + 0 ≡ b → l ≡ b
    end e = omega (arith, e)
past_all w o n b all weights (weight ∷ more) l s ground narrow rest long past =
    subst (λ (m : ℕ). IsPast w o n b all b (sized_from (record { turns = n; over = o }) all weights m more
    (sized_location (record { turns = n; over = o }) all weights l weight s))) (sym next)
    (past_all w o n b all weights more (suc l) (sized_location (record { turns = n; over = o }) all weights l weight s) ground narrow
    (drop_one l weights ∙ ap (λ (xs : List ℕ). drop 1 xs) rest) (omega (arith, long))
    (one_past w o n b all weights l weight s ground (at_l ∙ ground.weighed l (omega (arith, long))) past))
  where
    next : min (suc l) 4294967295 ≡ suc l
    next = omega (arith, narrow, long)

    at_drop : (k : ℕ) (xs : List ℕ) → slice_index_or xs k 0 ≡ slice_index_or (drop k xs) 0 0
    at_drop zero xs = refl
    at_drop (suc k) [] = refl
    at_drop (suc k) (x ∷ xs) = at_drop k xs

    at_l : weight ≡ slice_index_or weights l 0
    at_l = sym (at_drop l weights ∙ ap (λ (xs : List ℕ). slice_index_or xs 0 0) rest)

-- ---- its result

pub record Passed (w : ℕ → ℕ) (o n b : ℕ) (all : List Loop) (s : Sizing) : Type 0 where
  pub here : s.here ≡ capped (size w o n all 0 b)
  pub firsts : (m : ℕ) → m < b → slice_index_or s.firsts m 0 ≡ capped (size w o n all 0 m)
  pub sized : (r : ℕ) (loop : Loop) → slice_get all r ≡ Some loop → IsSized w o n all s.turns s.overs (size w o n all 0 b) r loop

pub sizes_are : (w : ℕ → ℕ) (o n b : ℕ) (all : List Loop) (weights : List ℕ) → Ground w n b all weights → b ≤ 4294967295 → length weights ≡ b
    → Passed w o n b all (sized (record { turns = n; over = o }) all weights)
sizes_are w o n b all weights ground narrow long =
    finish (past_all w o n b all weights weights 0 (unsized (length all)) ground narrow refl (omega (arith, long)) start)
  where
    start : IsPast w o n b all 0 (unsized (length all))
    start = record {
      around = [];
      loops = all;
      here = 0;
      is = record {
        begun = refl;
        next = omega arith;
        at = refl;
        path = none 0 all;
        taken = sym (none_size w o n all 0 0 (ranges_of all ground.order) (omega arith));
        held = tt;
        turns = length-replicate (length all) 0;
        overs = length-replicate (length all) 0;
        sized = λ r loop at lt apart. absurd (omega (arith, lt));
      };
      low = any all;
      firsts = (refl, λ m lt. absurd (omega (arith, lt)));
    }
      where
        any : (xs : List Loop) → AllByRecursion (λ (loop : Loop). 0 ≤ loop.first) xs
        any [] = tt
        any (x ∷ xs) = (omega arith, any xs)

    finish : IsPast w o n b all b (sized (record { turns = n; over = o }) all weights)
        → Passed w o n b all (sized (record { turns = n; over = o }) all weights)
    finish past = by past.around past.loops past.here past.is past.low
      where
        nothing_left : (xs : List Held) → Around b b xs → end_by b xs ≤ b
        nothing_left [] held = omega arith
        nothing_left (x ∷ xs) held = let h = nothing_left xs held.3 in absurd (omega (arith, h, held.1, held.2))

        by : (around : List Held) (loops : List Loop) (here : ℕ)
            → IsAt w o n b all around loops b b here (sized (record { turns = n; over = o }) all weights)
            → AllByRecursion (λ (loop : Loop). b ≤ loop.first) loops → Passed w o n b all (sized (record { turns = n; over = o }) all weights)
        by (x ∷ xs) loops here is low = let h = nothing_left xs (is.held).3 in absurd (omega (arith, h, (is.held).1, (is.held).2))
        by [] (loop ∷ loops) here is low =
            let last = (path_all (λ (other : Loop). other.last < b) b all [] (loop ∷ loops) is.path ground.below).0 in
            let range = (path_order b all [] (loop ∷ loops) is.path ground.order).0 in
            absurd (omega (arith, last, range, low.0))
        by [] [] here is low = record {
          here = is.at ∙ ap capped is.taken;
          firsts = (past.firsts).1;
          sized = λ r loop at. subst (λ (m : ℕ). IsSized w o n all (sized (record { turns = n; over = o }) all weights).turns
              (sized (record { turns = n; over = o }) all weights).overs m r loop) is.taken (is.sized r loop at (within r loop all at is.next) tt);
        }
          where
            get_below : (r : ℕ) (loop : Loop) (xs : List Loop) → slice_get xs r ≡ Some loop → r < length xs
            get_below r loop [] at = absurd (none_is loop at)
            get_below zero loop (x ∷ xs) at = omega arith
            get_below (suc r) loop (x ∷ xs) at = let h = get_below r loop xs at in omega (arith, h)

            within : (r : ℕ) (loop : Loop) (xs : List Loop) → slice_get xs r ≡ Some loop
                → (sized (record { turns = n; over = o }) all weights).next + 0 ≡ length xs
                → r < (sized (record { turns = n; over = o }) all weights).next
            within r loop xs at e = let h = get_below r loop xs at in omega (arith, h, e)
