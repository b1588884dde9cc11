-- The walk lays the whole text: what is left of it where the walk is, is laid by what is left of the walk.
use Rattle.std.proofs.Common.{◌≡◌, ℕ, zero, suc, ◌+◌, ◌-◌, ◌*◌, ◌<◌, ◌≤◌, ◌⊎◌, inl, inr, List, [], ◌∷◌, ◌++◌, length, map, take, drop, slice_get, min, Bool, true, false, not, ◌||◌, ◌==◌, nat_lt, cond, Option, Some, None, refl, sym, subst, ap, ◌∙◌, arith}
use Rattle.std.specs.Prelude.{slice_index_or}
use Rattle.std.specs.List.{AllByRecursion, list_all, list_any}
use Rattle.std.proofs.lemmas.Bool.{both_ways, eqb-true, eqb-false, cases_lt, le-leb, lt-ltb, le-ltb, lt-leb, and_parts, not-true}
use Rattle.std.proofs.lemmas.List.{append-nil, append_assoc, length-append}
use Rattle.std.proofs.lemmas.List.Elements.{recursion_from_All}
use Rattle.pv_flow.specs.declared.parts.Parts.{Parts as CodeParts}
use Rattle.pv_flow.specs.Automata.{Loop, TrapEnd, OverEnd, Parts, holds}
use Rattle.pv_flow.specs.WellMade.{IsLoop}
use Rattle.pv_flow.specs.View.{trap_end_of, over_end_of, parts_of}
use Rattle.pv_copies.specs.Copies.{Copy, copy, beyond, front, back}
use Rattle.pv_copies.specs.Places.{rounds, once_more, text, stands_in}
use Rattle.pv_copies.specs.Unrolled.{whole_text, text_size}
use Rattle.pv_copies.proofs.ForCallers.{AreInOrder, IsLater, later_first, loops_in_order, ranges_of, mapped, in_here, out_before, out_behind, firsts_stand, text_is_long}
use Rattle.pv_unroll.specs.declared.lead.Open.{Open}
use Rattle.pv_unroll.specs.declared.numbers.TheConstants.{MOST}
use Rattle.pv_unroll.specs.Counts.{capped}
use Rattle.pv_unroll.specs.Endings.{ending_at}
use Rattle.pv_unroll.specs.Sizing.{ends_by}
use Rattle.pv_unroll.specs.Leading.{Table}
use Rattle.pv_unroll.specs.Laying.{Laid, copy_laid, over_laid}
use Rattle.pv_unroll.specs.Walking.{State, top, entered, entered_at, laid_there, if_ends, last_ending, turned_on, back_to, popped, last_laid, past_location, turned_walk, ended_by, ended_walk, laid_here, stepped, walked_from}
use Rattle.pv_unroll.specs.Tables.{plain_loops, copy_sizing, table_in, steps_in, laid_in}
use Rattle.pv_unroll.specs.Correct.{CanUnroll, IsSmall, IsLaid, CopiesAreLaid}
use Rattle.pv_unroll.proofs.Caps.{larger}
use Rattle.pv_unroll.proofs.Firsts.{Ranges, begins_out, fits_in}
use Rattle.pv_unroll.proofs.Leads.{opens_from}
use Rattle.pv_unroll.proofs.Nest.{Held, Skips, none, skips_length, Path, Around, end_by, skips_all, later_path, path_left, path_order, path_all, path_end, range_of, range_is, last_is, before_last}
use Rattle.pv_unroll.proofs.Rests.{put_in, past_turns, after, rest, text_none, rest_passed, rest_entered, rest_turned, rest_left}
use Rattle.pv_unroll.proofs.Lays.{plain_edge, LaidTo, copy_is_laid, over_is_laid, behind_is_laid}
use Rattle.pv_unroll.proofs.Replacing.{most_is, few_copies}
use Rattle.pv_unroll.proofs.Weights.{last_below, copies_are_sized}

-- ---- the loops around, as the code has them

abbrev pub open_of : List Loop → Held → Open
open_of all t = record { range = range_of all t; turn = t.number }

abbrev pub opens_of : List Loop → List Held → List Open
opens_of all [] = []
opens_of all (t ∷ outer) = opens_of all outer ++ open_of all t ∷ []

-- the numbers of a copy, outermost first
abbrev pub numbers_in : List Held → List ℕ → List ℕ
numbers_in [] ks = ks
numbers_in (t ∷ outer) ks = numbers_in outer (t.number ∷ ks)

put_copy : (around : List Held) (l : ℕ) (ks : List ℕ) → put_in around (copy l ks) ≡ copy l (numbers_in around ks)
put_copy [] l ks = refl
put_copy (t ∷ outer) l ks = put_copy outer l (t.number ∷ ks)

put_beyond : (around : List Held) (loop : Loop) (ks : List ℕ) → put_in around (beyond loop ks) ≡ beyond loop (numbers_in around ks)
put_beyond [] loop ks = refl
put_beyond (t ∷ outer) loop ks = put_beyond outer loop (t.number ∷ ks)

-- of loops that hold not the location nothing is open
none_open : (i l : ℕ) (loops : List Loop) (ks : List ℕ) → AllByRecursion (λ (loop : Loop). l < loop.first) loops → opens_from i loops l ks ≡ []
none_open i l [] ks off = refl
none_open i l (loop ∷ loops) ks off =
    ap (λ (b : Bool). cond b ((record { range = i; turn = front ks }) ∷ opens_from (suc i) loops l (back ks)) (opens_from (suc i) loops l ks))
    (out_before loop l off.0)
    ∙ none_open (suc i) l loops ks off.1

skips_open : (i l : ℕ) (xs ys : List Loop) (ks : List ℕ) → Skips l xs ys
    → opens_from i xs l ks ≡ opens_from (i + length xs - length ys) ys l ks
skips_open i l [] ys ks h = subst (λ (us : List Loop). opens_from i [] l ks ≡ opens_from (i + 0 - length us) us l ks) h refl
skips_open i l (loop ∷ xs) ys ks (inl e) =
    subst (λ (us : List Loop). opens_from i (loop ∷ xs) l ks ≡ opens_from (i + length (loop ∷ xs) - length us) us l ks) e
    (ap (λ (m : ℕ). opens_from m (loop ∷ xs) l ks) (same i (length xs)))
  where
    same : (i m : ℕ) → i ≡ i + suc m - suc m
    same i m = omega arith
skips_open i l (loop ∷ xs) ys ks (inr h) =
    ap (λ (b : Bool). cond b ((record { range = i; turn = front ks }) ∷ opens_from (suc i) xs l (back ks)) (opens_from (suc i) xs l ks))
    (out_behind loop l h.0)
    ∙ skips_open (suc i) l xs ys ks h.1 ∙ ap (λ (m : ℕ). opens_from m ys l ks) (more i (length xs) (length ys))
  where
    more : (i m k : ℕ) → suc i + m - k ≡ i + suc m - k
    more i m k = omega arith

opens_along : (b h l : ℕ) (all : List Loop) (around : List Held) (loops : List Loop) (ks : List ℕ) → Path l all around loops → Around b h around → l ≤ h
    → opens_from 0 all l (numbers_in around ks) ≡ opens_of all around ++ opens_from (length all - length loops) loops l ks
opens_along b h l all [] loops ks path held le = skips_open 0 l all loops ks path ∙ ap (λ (m : ℕ). opens_from m loops l ks) (first (length all) (length loops))
  where
    first : (m k : ℕ) → 0 + m - k ≡ m - k
    first m k = omega arith
opens_along b h l all (t ∷ outer) loops ks path held le =
    opens_along b h l all outer (t.loop ∷ t.more) (t.number ∷ ks) (later_path t.loop.first l all outer (t.loop ∷ t.more) path.0 path.2) held.3 le
    ∙ ap (λ (c : Bool). opens_of all outer ++ cond c (open_of all t ∷ opens_from (suc (range_of all t)) t.more l ks)
    (opens_from (suc (range_of all t)) t.more l (t.number ∷ ks))) (in_here t.loop l path.0 (omega (arith, held.1, le)))
    ∙ ap (λ (xs : List Open). opens_of all outer ++ (open_of all t ∷ xs))
    (skips_open (suc (range_of all t)) l t.more loops ks path.1
    ∙ ap (λ (m : ℕ). opens_from m loops l ks) (number (length all) (length t.more) (length loops) (path_end t.loop.first all outer (t.loop ∷ t.more) path.2).1
    (skips_length l t.more loops path.1)))
    ∙ sym (append_assoc (opens_of all outer) (open_of all t ∷ []) (opens_from (length all - length loops) loops l ks))
  where
    number : (n m k : ℕ) → suc m ≤ n → k ≤ m → suc (n - suc m) + m - k ≡ n - k
    number n m k le low = omega (arith, le, low)

-- at a location at which no further loop begins
opens_are : (b h l : ℕ) (all : List Loop) (around : List Held) (loops : List Loop) (ks : List ℕ) → Path l all around loops → Around b h around → l ≤ h
    → AllByRecursion (λ (loop : Loop). l < loop.first) loops → opens_of all around ≡ opens_from 0 all l (numbers_in around ks)
opens_are b h l all around loops ks path held le off = sym (opens_along b h l all around loops ks path held le
    ∙ ap (λ (xs : List Open). opens_of all around ++ xs) (none_open (length all - length loops) l loops ks off)
    ∙ append-nil (opens_of all around))

-- ---- where the walk is

abbrev EachTurn : ℕ → List Held → Type 0
EachTurn n [] = Unit {0}
EachTurn n (t ∷ outer) = (t.number < n) × EachTurn n outer

-- the loops around hold location h, and the rest of the text is what stands from location l on
pub record IsWalked (p : CodeParts) (n : ℕ) (around : List Held) (loops : List Loop) (h l at : ℕ) (s : State) : Type 0 where
  pub nest : s.walk.nest ≡ opens_of (plain_loops p) around
  pub next : s.walk.next + length loops ≡ length (plain_loops p)
  pub at_is : s.walk.at ≡ at
  pub path : Path l (plain_loops p) around loops
  pub held : Around p.locations h around
  pub turns : EachTurn n around
  pub laid : LaidTo p n s.laid (rest (stands_in (parts_of p)) n p.locations around loops l)

order_of : (p : CodeParts) (n : ℕ) → CanUnroll p n → AreInOrder (plain_loops p)
order_of p n can = loops_in_order (parts_of p) can.faultless can.well_made

-- ---- loops are entered

pub record Enters (p : CodeParts) (n l : ℕ) (laid : Laid) (s : State) : Type 0 where
  pub around : List Held
  pub loops : List Loop
  pub is : IsWalked p n around loops l l l s
  pub later : AllByRecursion (λ (loop : Loop). l < loop.first) loops
  pub same : s.laid ≡ laid

enters : (p : CodeParts) (n l : ℕ) (around : List Held) (loops : List Loop) (s : State) → CanUnroll p n
    → AllByRecursion (λ (loop : Loop). l ≤ loop.first) loops → IsWalked p n around loops l l l s
    → Enters p n l s.laid (record { walk = entered_at loops s.walk; laid = s.laid })
enters p n l around [] s can low is = record { around = around; loops = []; is = is; later = tt; same = refl }
enters p n l around (loop ∷ loops) s can low is =
    subst (λ (m : ℕ). Enters p n l s.laid (record { walk = cond (loop.first == m) (entered_at loops (entered s.walk)) s.walk; laid = s.laid })) (sym is.at_is)
    (by (loop.first == l) refl (λ first. enters p n l (new ∷ around) loops (record { walk = entered s.walk; laid = s.laid }) can low.1 (opened first)))
  where
    new : Held
    new = record { loop = loop; more = loops; number = 0 }

    order : AreInOrder (loop ∷ loops)
    order = path_order l (plain_loops p) around (loop ∷ loops) is.path (order_of p n can)

    opened : loop.first ≡ l → IsWalked p n (new ∷ around) loops l l l (record { walk = entered s.walk; laid = s.laid })
    opened first = record {
      nest = ap (λ (xs : List Open). xs ++ (record { range = s.walk.next; turn = 0 }) ∷ []) is.nest
          ∙ ap (λ (r : ℕ). opens_of (plain_loops p) around ++ (record { range = r; turn = 0 }) ∷ []) range;
      next = omega (arith, is.next);
      at_is = is.at_is;
      path = (omega (arith, first), none l loops, subst (λ (m : ℕ). Path m (plain_loops p) around (loop ∷ loops)) (sym first) is.path);
      held = (omega (arith, first), omega (arith, first, order.0), inside around is.path is.held, is.held);
      turns = ((can.inlined).1, is.turns);
      laid = subst (λ (xs : List Copy). LaidTo p n s.laid xs)
          (ap (λ (m : ℕ). rest (stands_in (parts_of p)) n p.locations around (loop ∷ loops) m) (sym first)
          ∙ rest_entered (stands_in (parts_of p)) n p.locations around loop loops (can.inlined).1 (ranges_of loops order.2)
          (fits_in loop loop.first (end_by p.locations around) (omega arith) (inside around is.path is.held))
          ∙ ap (λ (m : ℕ). rest (stands_in (parts_of p)) n p.locations (new ∷ around) loops m) first) is.laid;
    }
      where
        range : s.walk.next ≡ length (plain_loops p) - suc (length loops)
        range = omega (arith, is.next)

        inside : (around : List Held) → Path l (plain_loops p) around (loop ∷ loops) → Around p.locations l around → loop.last < end_by p.locations around
        inside [] path held = (skips_all (λ (other : Loop). other.last < p.locations) l (plain_loops p) (loop ∷ loops) path (last_below (parts_of p) can.faultless)).0
        inside (t ∷ outer) path held =
            by_later (skips_all (IsLater t.loop) l t.more (loop ∷ loops) path.1
            (path_order t.loop.first (plain_loops p) outer (t.loop ∷ t.more) path.2 (order_of p n can)).1).0
          where
            by_later : IsLater t.loop loop → loop.last < suc t.loop.last
            by_later (inl h) = omega (arith, h.1)
            by_later (inr h) = absurd (omega (arith, h, held.1, first))

    by : (c : Bool) → (loop.first == l) ≡ c
        → (loop.first ≡ l → Enters p n l s.laid (record { walk = entered_at loops (entered s.walk); laid = s.laid }))
        → Enters p n l s.laid (record { walk = cond c (entered_at loops (entered s.walk)) s.walk; laid = s.laid })
    by true e go = go (eqb-true loop.first l e)
    by false e go = record {
      around = around;
      loops = loop ∷ loops;
      is = is;
      later = (lt, mapped (IsLater loop) (λ (other : Loop). l < other.first) loops (λ other h. further other (later_first loop other order.0 h)) order.1);
      same = refl;
    }
      where
        lt : l < loop.first
        lt = by_less (cases_lt l loop.first)
          where
            by_less : (l < loop.first) ⊎ (loop.first ≤ l) → l < loop.first
            by_less (inl h) = h
            by_less (inr h) = absurd (eqb-false loop.first l e (omega (arith, h, low.0)))

        further : (other : Loop) → loop.first ≤ other.first → l < other.first
        further other le = omega (arith, lt, le)

-- ---- a copy

-- no location that a loop holds is behind the text
any_not : (f : ℕ → Bool) (g : TrapEnd → Bool) (traps : List TrapEnd) (others : List ℕ) (l : ℕ)
    → list_all (λ (m : ℕ). not (f m)) (map (λ (end : TrapEnd). end.location) traps ++ others) ≡ true → f l ≡ true
    → list_any (λ (end : TrapEnd). end.location == l) traps ≡ false
any_not f g [] others l all on = refl
any_not f g (end ∷ traps) others l all on =
    let both = and_parts (not (f end.location)) (list_all (λ (m : ℕ). not (f m)) (map (λ (other : TrapEnd). other.location) traps ++ others)) all in
    ap (λ (b : Bool). b || list_any (λ (other : TrapEnd). other.location == l) traps) (by (end.location == l) refl both.0)
    ∙ any_not f g traps others l both.1 on
  where
    by : (b : Bool) → (end.location == l) ≡ b → not (f end.location) ≡ true → (end.location == l) ≡ false
    by false e h = e
    by true e h = absurd (both_ways (f l) (ap f (sym (eqb-true end.location l e)) ∙ not-true (f end.location) h) on)

held_stands : (p : Parts) (loop : Loop) (l : ℕ) → IsLoop p loop → holds loop l ≡ true → stands_in p l ≡ true
held_stands p loop l is held =
    ap (λ (b : Bool). not (b || list_any (λ (end : TrapEnd). end.location == l) p.traps)) done
    ∙ ap not (any_not (λ (m : ℕ). holds loop m) (λ end. true) p.traps (map (λ (end : OverEnd). end.location) p.overs) l apart.1 held)
  where
    apart : (not (holds loop p.done) ≡ true) × (list_all (λ (m : ℕ). not (holds loop m))
        (map (λ (end : TrapEnd). end.location) p.traps ++ map (λ (end : OverEnd). end.location) p.overs) ≡ true)
    apart = and_parts (not (holds loop p.done)) (list_all (λ (m : ℕ). not (holds loop m))
        (map (λ (end : TrapEnd). end.location) p.traps ++ map (λ (end : OverEnd). end.location) p.overs)) is.outside

    done : (p.done == l) ≡ false
    done = by (p.done == l) refl
      where
        by : (b : Bool) → (p.done == l) ≡ b → (p.done == l) ≡ false
        by false e = e
        by true e = absurd (both_ways (holds loop l) (ap (λ (m : ℕ). holds loop m) (sym (eqb-true p.done l e)) ∙ not-true (holds loop p.done) apart.0) held)

-- by the copy or without it, on to the next location
pub record Lies (p : CodeParts) (n : ℕ) (around : List Held) (loops : List Loop) (l : ℕ) (before s : State) : Type 0 where
  pub is : IsWalked p n around loops l (suc l) l s
  -- more is laid, or the location lies in no loop
  pub more : (suc before.laid.here ≤ s.laid.here) ⊎ ((around ≡ []) × (s.laid.here ≡ before.laid.here))

lies : (p : CodeParts) (n l : ℕ) (around : List Held) (loops : List Loop) (s : State) → CanUnroll p n → IsSmall p n → l < p.locations
    → AllByRecursion (λ (loop : Loop). l < loop.first) loops → IsWalked p n around loops l l l s
    → Lies p n around loops l s (laid_here (table_in p n) s)
lies p n l around loops s can small below later is = by (stands_in (parts_of p) l) refl
  where
    left : List Copy
    left = rest (stands_in (parts_of p)) n p.locations around loops (suc l)

    ends : l < end_by p.locations around
    ends = by_around around is.held
      where
        by_around : (xs : List Held) → Around p.locations l xs → l < end_by p.locations xs
        by_around [] held = below
        by_around (t ∷ outer) held = omega (arith, held.1)

    parted : rest (stands_in (parts_of p)) n p.locations around loops l
        ≡ map (put_in around) (cond (stands_in (parts_of p) l) (copy l [] ∷ []) []) ++ left
    parted = rest_passed (stands_in (parts_of p)) n p.locations around loops l later ends

    head : ℕ
    head = slice_index_or (table_in p n).heads l 0

    at_l : laid_there (table_in p n) s.walk.nest s.walk.at s.laid
        ≡ copy_laid (table_in p n) s.walk.nest head (ending_at (table_in p n).endings l) s.laid
    at_l = ap (λ (m : ℕ). laid_there (table_in p n) s.walk.nest m s.laid) is.at_is

    by : (b : Bool) → stands_in (parts_of p) l ≡ b → Lies p n around loops l s (laid_here (table_in p n) s)
    by true e = record {
      is = record {
        nest = is.nest;
        next = is.next;
        at_is = is.at_is;
        path = later_path l (suc l) (plain_loops p) around loops (omega arith) is.path;
        held = is.held;
        turns = is.turns;
        laid = new;
      };
      more = inl (omega (arith, new.count, first.count));
    }
      where
        first : LaidTo p n s.laid (copy l (numbers_in around []) ∷ left)
        first = subst (λ (xs : List Copy). LaidTo p n s.laid xs)
            (parted ∙ ap (λ (b : Bool). map (put_in around) (cond b (copy l [] ∷ []) []) ++ left) e
            ∙ ap (λ (c : Copy). c ∷ left) (put_copy around l [])) is.laid

        new : LaidTo p n (laid_there (table_in p n) s.walk.nest s.walk.at s.laid) left
        new = subst (λ (r : Laid). LaidTo p n r left)
            (sym (at_l ∙ ap (λ (xs : List Open). copy_laid (table_in p n) xs head (ending_at (table_in p n).endings l) s.laid)
            (is.nest ∙ opens_are p.locations l l (plain_loops p) around loops [] is.path is.held (omega arith) later)))
            (copy_is_laid p n l (numbers_in around []) s.laid left can small below e first)
    by false e = record {
      is = record {
        nest = is.nest;
        next = is.next;
        at_is = is.at_is;
        path = later_path l (suc l) (plain_loops p) around loops (omega arith) is.path;
        held = is.held;
        turns = is.turns;
        laid = subst (λ (r : Laid). LaidTo p n r left) (sym same)
            (subst (λ (xs : List Copy). LaidTo p n s.laid xs)
            (parted ∙ ap (λ (b : Bool). map (put_in around) (cond b (copy l [] ∷ []) []) ++ left) e) is.laid);
      };
      more = inr (outside around is.path is.held, ap (λ (r : Laid). r.here) same);
    }
      where
        same : laid_there (table_in p n) s.walk.nest s.walk.at s.laid ≡ s.laid
        same = at_l ∙ behind_is_laid p n l s.walk.nest head s.laid below e

        outside : (xs : List Held) → Path l (plain_loops p) xs loops → Around p.locations l xs → xs ≡ []
        outside [] path held = refl
        outside (t ∷ outer) path held = absurd (both_ways (stands_in (parts_of p) l) e
            (held_stands (parts_of p) t.loop l
            (path_all (IsLoop (parts_of p)) t.loop.first (plain_loops p) outer (t.loop ∷ t.more) path.2
            (recursion_from_All (IsLoop (parts_of p)) (plain_loops p) (can.well_made).loops)).0
            (in_here t.loop l path.0 held.1)))

-- ---- turns

-- where loops end, or the next turn begins
pub record GoesOn (p : CodeParts) (n here l many : ℕ) (s : State) : Type 0 where
  pub around : List Held
  pub loops : List Loop
  pub at : ℕ
  pub is : IsWalked p n around loops at at at s
  pub low : AllByRecursion (λ (loop : Loop). at ≤ loop.first) loops
  pub more : here ≤ s.laid.here
  pub on : (at ≡ suc l) ⊎ (0 < many)

nothing_ends : (t : Table) (most : ℕ) (s : State) → last_ending t.loops s.walk ≡ None → ended_walk t most s ≡ past_location s
nothing_ends t zero s e = refl
nothing_ends t (suc most) s e = ap (λ (o : Option Open). ended_by t o s (λ next. ended_walk t most next)) e

one_ends : (t : Table) (most : ℕ) (s : State) (last : Open) (loop : Loop) → last_ending t.loops s.walk ≡ Some last → slice_get t.loops last.range ≡ Some loop
    → ended_walk t (suc most) s ≡ turned_walk t (Some loop) (turned_on last) (popped s) (λ next. ended_walk t most next)
one_ends t most s last loop e f =
    ap (λ (o : Option Open). ended_by t o s (λ next. ended_walk t most next)) e
    ∙ ap (λ (o : Option Loop). turned_walk t o (turned_on last) (popped s) (λ next. ended_walk t most next)) f

-- of what stands behind a location only loops count that are still to begin
skips_text : (stands : ℕ → Bool) (n a b : ℕ) (xs ys : List Loop) → Ranges xs → Skips a xs ys → text stands n xs a b ≡ text stands n ys a b
skips_text stands n a b [] ys are h = ap (λ (us : List Loop). text stands n us a b) h
skips_text stands n a b (loop ∷ xs) ys are (inl e) = ap (λ (us : List Loop). text stands n us a b) e
skips_text stands n a b (loop ∷ xs) ys are (inr h) =
    ap (λ (t : Bool). cond t (text stands n xs a loop.first ++ (rounds n (text stands n xs loop.first (suc loop.last))
    ++ (once_more n loop ++ (beyond loop [] ∷ text stands n xs (suc loop.last) b)))) (text stands n xs a b))
    (begins_out loop a b (omega (arith, h.0, are.0)))
    ∙ skips_text stands n a b xs ys are.1 h.1

around_at : (b h m : ℕ) (all : List Loop) (around : List Held) (loops : List Loop) → Path m all around loops → Around b h around → m ≤ h → Around b m around
around_at b h m all [] loops path held le = tt
around_at b h m all (t ∷ outer) loops path held le = (
  path.0,
  omega (arith, le, held.1),
  held.2,
  around_at b h m all outer (t.loop ∷ t.more) (later_path t.loop.first m all outer (t.loop ∷ t.more) path.0 path.2) held.3 le,
)

stays : (b l : ℕ) (t : Held) (outer : List Held) → Around b l (t ∷ outer) → l < t.loop.last → Around b (suc l) (t ∷ outer)
stays b l t [] held lt = (omega (arith, held.0), lt, held.2, tt)
stays b l t (x ∷ outer) held lt = (omega (arith, held.0), lt, held.2, stays b l x outer held.3 (omega (arith, held.2, lt)))

-- the loop that was entered last, if it ends here
found : (p : CodeParts) (n l : ℕ) (t : Held) (outer : List Held) (loops : List Loop) (s : State) → IsWalked p n (t ∷ outer) loops l (suc l) l s
    → last_ending (plain_loops p) s.walk ≡ cond (t.loop.last == l) (Some (open_of (plain_loops p) t)) None
found p n l t outer loops s is =
    ap (λ (m : ℕ). if_ends (plain_loops p) m (top s.walk.nest)) is.at_is
    ∙ ap (λ (xs : List Open). if_ends (plain_loops p) l (top xs)) is.nest
    ∙ ap (λ (x : Option Open). if_ends (plain_loops p) l x) (last_is (opens_of (plain_loops p) outer) (open_of (plain_loops p) t))
    ∙ ap (λ (x : Option Loop). cond (ends_by x l) (Some (open_of (plain_loops p) t)) None) (range_is (suc l) (plain_loops p) t outer loops is.path)

past_it : (p : CodeParts) (n l : ℕ) (around : List Held) (loops : List Loop) (s : State) → IsSmall p n → l < p.locations
    → AllByRecursion (λ (loop : Loop). l < loop.first) loops → Around p.locations (suc l) around
    → IsWalked p n around loops l (suc l) l s → IsWalked p n around loops (suc l) (suc l) (suc l) (past_location s)
past_it p n l around loops s small below later held is = record {
  nest = is.nest;
  next = is.next;
  at_is = ap (λ (m : ℕ). min (suc m) 4294967295) is.at_is ∙ omega (arith, below, small.locations);
  path = is.path;
  held = held;
  turns = is.turns;
  laid = is.laid;
}

one_more : (n k : ℕ) → k < n → n ≤ 4294967295 → capped (k + 1) ≡ suc k
one_more n k lt le = exact MOST k (omega (arith, lt, le, most_is))
  where
    exact : (most k : ℕ) → suc k ≤ most → min (k + 1) most ≡ suc k
    exact most k le = omega (arith, le)

-- back to the loop's first location
back_again : (p : CodeParts) (n l : ℕ) (t : Held) (outer : List Held) (loops : List Loop) (s : State) → CanUnroll p n → IsSmall p n → t.loop.last ≡ l
    → suc t.number < n → IsWalked p n (t ∷ outer) loops l (suc l) l s
    → IsWalked p n ((record { loop = t.loop; more = t.more; number = suc t.number }) ∷ outer) t.more t.loop.first t.loop.first t.loop.first
    (record { walk = back_to t.loop (turned_on (open_of (plain_loops p) t)) (popped s).walk; laid = s.laid })
back_again p n l t outer loops s can small last lt is = record {
  nest = ap (λ (xs : List Open). take (length xs - 1) xs ++ turned_on (open_of (plain_loops p) t) ∷ []) is.nest
      ∙ ap (λ (xs : List Open). xs ++ turned_on (open_of (plain_loops p) t) ∷ []) (before_last (opens_of (plain_loops p) outer) (open_of (plain_loops p) t))
      ∙ ap (λ (m : ℕ). opens_of (plain_loops p) outer ++ (record { range = range_of (plain_loops p) t; turn = m }) ∷ [])
      (one_more n t.number (is.turns).0 small.bound);
  next = omega (arith, (path_end t.loop.first (plain_loops p) outer (t.loop ∷ t.more) (is.path).2).1);
  at_is = refl;
  path = (omega arith, none t.loop.first t.more, (is.path).2);
  held = (omega arith, own.0, (is.held).2, around_at p.locations l t.loop.first (plain_loops p) outer (t.loop ∷ t.more) (is.path).2 (is.held).3 (is.held).0);
  turns = (lt, (is.turns).1);
  laid = subst (λ (xs : List Copy). LaidTo p n s.laid xs)
      (ap (λ (m : ℕ). rest (stands_in (parts_of p)) n p.locations (t ∷ outer) loops (suc m)) (sym last)
      ∙ rest_turned (stands_in (parts_of p)) n p.locations outer t.loop t.more loops t.number
      (ranges_of loops (path_order (suc l) (plain_loops p) (t ∷ outer) loops is.path (order_of p n can))) lt) is.laid;
}
  where
    own : AreInOrder (t.loop ∷ t.more)
    own = path_order t.loop.first (plain_loops p) outer (t.loop ∷ t.more) (is.path).2 (order_of p n can)

-- past the loop: its first location once more, where its bound is gone over, and what is left behind it
left_rest : (p : CodeParts) (n l : ℕ) (t : Held) (outer : List Held) (loops : List Loop) (s : State) → CanUnroll p n → t.loop.last ≡ l
    → n ≤ suc t.number → IsWalked p n (t ∷ outer) loops l (suc l) l s
    → rest (stands_in (parts_of p)) n p.locations (t ∷ outer) loops (suc l)
    ≡ map (put_in outer) (past_turns n t.loop) ++ rest (stands_in (parts_of p)) n p.locations outer loops (suc l)
left_rest p n l t outer loops s can last le is =
    ap (λ (m : ℕ). rest (stands_in (parts_of p)) n p.locations (t ∷ outer) loops (suc m)) (sym last)
    ∙ rest_left (stands_in (parts_of p)) n p.locations outer t.loop t.more loops t.number
    (ranges_of loops (path_order (suc l) (plain_loops p) (t ∷ outer) loops is.path (order_of p n can))) le
    ∙ ap (λ (m : ℕ). map (put_in outer) (past_turns n t.loop) ++ rest (stands_in (parts_of p)) n p.locations outer t.more (suc m)) last
    ∙ ap (λ (xs : List Copy). map (put_in outer) (past_turns n t.loop) ++ (map (put_in outer) xs ++ after (stands_in (parts_of p)) n p.locations outer))
    (skips_text (stands_in (parts_of p)) n (suc l) (end_by p.locations outer) t.more loops (ranges_of t.more own.2) (is.path).1)
  where
    own : AreInOrder (t.loop ∷ t.more)
    own = path_order t.loop.first (plain_loops p) outer (t.loop ∷ t.more) (is.path).2 (order_of p n can)

-- past the loop
left_it : (p : CodeParts) (n l : ℕ) (t : Held) (outer : List Held) (loops : List Loop) (s : State) → CanUnroll p n → IsSmall p n → t.loop.last ≡ l
    → n ≤ suc t.number → IsWalked p n (t ∷ outer) loops l (suc l) l s
    → IsWalked p n outer loops l (suc l) l
    (record { walk = (popped s).walk; laid = last_laid (table_in p n) t.loop (turned_on (open_of (plain_loops p) t)) (popped s).walk.nest s.laid })
left_it p n l t outer loops s can small last le is = record {
  nest = without;
  next = is.next;
  at_is = is.at_is;
  path = path_left (suc l) (plain_loops p) t outer loops (omega (arith, last)) is.path;
  held = (is.held).3;
  turns = (is.turns).1;
  laid = by t.loop.entry_turn refl;
}
  where
    own : AreInOrder (t.loop ∷ t.more)
    own = path_order t.loop.first (plain_loops p) outer (t.loop ∷ t.more) (is.path).2 (order_of p n can)

    without : (popped s).walk.nest ≡ opens_of (plain_loops p) outer
    without = ap (λ (xs : List Open). take (length xs - 1) xs) is.nest ∙ before_last (opens_of (plain_loops p) outer) (open_of (plain_loops p) t)

    laid : Laid
    laid = last_laid (table_in p n) t.loop (turned_on (open_of (plain_loops p) t)) (popped s).walk.nest s.laid

    behind : List Copy
    behind = rest (stands_in (parts_of p)) n p.locations outer loops (suc l)

    parted : LaidTo p n s.laid (map (put_in outer) (past_turns n t.loop) ++ behind)
    parted = subst (λ (xs : List Copy). LaidTo p n s.laid xs) (left_rest p n l t outer loops s can last le is) is.laid

    over_it : (r : Laid) → LaidTo p n r (put_in outer (beyond t.loop []) ∷ behind) → LaidTo p n (over_laid t.loop.place r) behind
    over_it r h = over_is_laid p n r t.loop (numbers_in outer []) behind small
        (subst (λ (c : Copy). LaidTo p n r (c ∷ behind)) (put_beyond outer t.loop []) h)

    last_turn : Held
    last_turn = record { loop = t.loop; more = t.more; number = n }

    there : t.loop.entry_turn ≡ false → (popped s).walk.nest ++ turned_on (open_of (plain_loops p) t) ∷ []
        ≡ opens_from 0 (plain_loops p) t.loop.first (numbers_in outer (n ∷ []))
    there off = ap (λ (xs : List Open). xs ++ turned_on (open_of (plain_loops p) t) ∷ []) without
        ∙ ap (λ (m : ℕ). opens_of (plain_loops p) outer ++ (record { range = range_of (plain_loops p) t; turn = m }) ∷ [])
        (one_more n t.number (is.turns).0 small.bound ∙ omega (arith, le, (is.turns).0))
        ∙ opens_are p.locations t.loop.first t.loop.first (plain_loops p) (last_turn ∷ outer) t.more []
        (omega arith, none t.loop.first t.more, (is.path).2)
        (omega arith, own.0, (is.held).2, around_at p.locations l t.loop.first (plain_loops p) outer (t.loop ∷ t.more) (is.path).2 (is.held).3 (is.held).0)
        (omega arith)
        (mapped (IsLater t.loop) (λ (other : Loop). t.loop.first < other.first) t.more further own.1)
      where
        further : (other : Loop) → IsLater t.loop other → t.loop.first < other.first
        further other (inl h) = h.2 off
        further other (inr h) = omega (arith, h, own.0)

    below : t.loop.first < p.locations
    below = omega (
      arith,
      own.0,
      (path_all (λ (loop : Loop). loop.last < p.locations) t.loop.first (plain_loops p) outer (t.loop ∷ t.more) (is.path).2 (last_below (parts_of p) can.faultless)).0,
    )

    stands : t.loop.entry_turn ≡ false → stands_in (parts_of p) t.loop.first ≡ true
    stands = (path_all (λ (loop : Loop). loop.entry_turn ≡ false → stands_in (parts_of p) loop.first ≡ true) t.loop.first (plain_loops p) outer (t.loop ∷ t.more)
        (is.path).2 (firsts_stand (parts_of p) can.well_made)).0

    by : (b : Bool) → t.loop.entry_turn ≡ b → LaidTo p n laid behind
    by true on = subst (λ (b : Bool). LaidTo p n (over_laid t.loop.place (cond b s.laid
        (laid_there (table_in p n) ((popped s).walk.nest ++ turned_on (open_of (plain_loops p) t) ∷ []) t.loop.first s.laid))) behind) (sym on)
        (over_it s.laid (subst (λ (b : Bool). LaidTo p n s.laid (map (put_in outer) (cond b [] (copy t.loop.first (n ∷ []) ∷ []) ++ (beyond t.loop [] ∷ [])) ++ behind)) on parted))
    by false off = subst (λ (b : Bool). LaidTo p n (over_laid t.loop.place (cond b s.laid
        (laid_there (table_in p n) ((popped s).walk.nest ++ turned_on (open_of (plain_loops p) t) ∷ []) t.loop.first s.laid))) behind) (sym off)
        (over_it (laid_there (table_in p n) ((popped s).walk.nest ++ turned_on (open_of (plain_loops p) t) ∷ []) t.loop.first s.laid)
        (subst (λ (xs : List Open). LaidTo p n (laid_there (table_in p n) xs t.loop.first s.laid) (put_in outer (beyond t.loop []) ∷ behind)) (sym (there off))
        (copy_is_laid p n t.loop.first (numbers_in outer (n ∷ [])) s.laid (put_in outer (beyond t.loop []) ∷ behind) can small below (stands off)
        (subst (λ (c : Copy). LaidTo p n s.laid (c ∷ (put_in outer (beyond t.loop []) ∷ behind))) (put_copy outer t.loop.first (n ∷ []))
        (subst (λ (b : Bool). LaidTo p n s.laid (map (put_in outer) (cond b [] (copy t.loop.first (n ∷ []) ∷ []) ++ (beyond t.loop [] ∷ [])) ++ behind)) off parted)))))

-- more is laid then
left_count : (p : CodeParts) (n l : ℕ) (t : Held) (outer : List Held) (loops : List Loop) (s : State) → CanUnroll p n → IsSmall p n → t.loop.last ≡ l
    → n ≤ suc t.number → IsWalked p n (t ∷ outer) loops l (suc l) l s
    → s.laid.here ≤ (last_laid (table_in p n) t.loop (turned_on (open_of (plain_loops p) t)) (popped s).walk.nest s.laid).here
left_count p n l t outer loops s can small last le is =
    let h = (left_it p n l t outer loops s can small last le is).laid in
    omega (arith, h.count, (is.laid).count, longer)
  where
    longer_by : (xs ys : List Copy) → length ys ≤ length (xs ++ ys)
    longer_by [] ys = omega arith
    longer_by (x ∷ xs) ys = let h = longer_by xs ys in omega (arith, h)

    longer : length (rest (stands_in (parts_of p)) n p.locations outer loops (suc l)) ≤ length (rest (stands_in (parts_of p)) n p.locations (t ∷ outer) loops (suc l))
    longer = subst (λ (xs : List Copy). length (rest (stands_in (parts_of p)) n p.locations outer loops (suc l)) ≤ length xs)
        (sym (left_rest p n l t outer loops s can last le is))
        (longer_by (map (put_in outer) (past_turns n t.loop)) (rest (stands_in (parts_of p)) n p.locations outer loops (suc l)))

goes_on : (p : CodeParts) (n l : ℕ) (around : List Held) (loops : List Loop) (most : ℕ) (s : State) → CanUnroll p n → IsSmall p n → l < p.locations
    → AllByRecursion (λ (loop : Loop). l < loop.first) loops → length around ≤ most → IsWalked p n around loops l (suc l) l s
    → GoesOn p n s.laid.here l (length around) (ended_walk (table_in p n) most s)
goes_on p n l [] loops most s can small below later fuel is =
    subst (λ (r : State). GoesOn p n s.laid.here l 0 r)
    (sym (nothing_ends (table_in p n) most s (ap (λ (xs : List Open). if_ends (plain_loops p) s.walk.at (top xs)) is.nest)))
    (record { around = []; loops = loops; at = suc l; is = past_it p n l [] loops s small below later tt is; low = later; more = omega arith; on = inl refl })
goes_on p n l (t ∷ outer) loops zero s can small below later fuel is = absurd (omega (arith, fuel))
goes_on p n l (t ∷ outer) loops (suc most) s can small below later fuel is =
    by (t.loop.last == l) refl
    (λ last le. goes_on p n l outer loops most
    (record { walk = (popped s).walk; laid = last_laid (table_in p n) t.loop (turned_on (open_of (plain_loops p) t)) (popped s).walk.nest s.laid })
    can small below later (omega (arith, fuel)) (left_it p n l t outer loops s can small last le is))
  where
    own : AreInOrder (t.loop ∷ t.more)
    own = path_order t.loop.first (plain_loops p) outer (t.loop ∷ t.more) (is.path).2 (order_of p n can)

    further : State → State
    further next = ended_walk (table_in p n) most next

    left : State
    left = record { walk = (popped s).walk; laid = last_laid (table_in p n) t.loop (turned_on (open_of (plain_loops p) t)) (popped s).walk.nest s.laid }

    back_at : State
    back_at = record { walk = back_to t.loop (turned_on (open_of (plain_loops p) t)) (popped s).walk; laid = s.laid }

    turns : (last : t.loop.last ≡ l) → (n ≤ suc t.number → GoesOn p n left.laid.here l (length outer) (further left))
        → (suc t.number < n) ⊎ (n ≤ suc t.number)
        → GoesOn p n s.laid.here l (suc (length outer)) (turned_walk (table_in p n) (Some t.loop) (turned_on (open_of (plain_loops p) t)) (popped s) further)
    turns last go (inl lt) = subst (λ (b : Bool). GoesOn p n s.laid.here l (suc (length outer)) (cond b back_at (further left)))
        (sym (ap (λ (m : ℕ). nat_lt m n) (one_more n t.number (is.turns).0 small.bound) ∙ lt-ltb (suc t.number) n lt))
        (record {
          around = (record { loop = t.loop; more = t.more; number = suc t.number }) ∷ outer;
          loops = t.more;
          at = t.loop.first;
          is = back_again p n l t outer loops s can small last lt is;
          low = mapped (IsLater t.loop) (λ (other : Loop). t.loop.first ≤ other.first) t.more (λ other h. later_first t.loop other own.0 h) own.1;
          more = omega arith;
          on = inr (omega arith);
        })
    turns last go (inr le) = subst (λ (b : Bool). GoesOn p n s.laid.here l (suc (length outer)) (cond b back_at (further left)))
        (sym (ap (λ (m : ℕ). nat_lt m n) (one_more n t.number (is.turns).0 small.bound) ∙ le-ltb (suc t.number) n le))
        (longer (go le))
      where
        grown : s.laid.here ≤ left.laid.here
        grown = omega (arith, left_count p n l t outer loops s can small last le is)

        longer : GoesOn p n left.laid.here l (length outer) (further left) → GoesOn p n s.laid.here l (suc (length outer)) (further left)
        longer h = record { around = h.around; loops = h.loops; at = h.at; is = h.is; low = h.low; more = omega (arith, h.more, grown); on = inr (omega arith) }

    by : (c : Bool) → (t.loop.last == l) ≡ c
        → ((last : t.loop.last ≡ l) → n ≤ suc t.number → GoesOn p n left.laid.here l (length outer) (further left))
        → GoesOn p n s.laid.here l (suc (length outer)) (ended_walk (table_in p n) (suc most) s)
    by true e go = subst (λ (r : State). GoesOn p n s.laid.here l (suc (length outer)) r)
        (sym (one_ends (table_in p n) most s (open_of (plain_loops p) t) t.loop
        (found p n l t outer loops s is ∙ ap (λ (c : Bool). cond c (Some (open_of (plain_loops p) t)) None) e)
        (range_is (suc l) (plain_loops p) t outer loops is.path)))
        (turns (eqb-true t.loop.last l e) (go (eqb-true t.loop.last l e)) (cases_lt (suc t.number) n))
    by false e go = subst (λ (r : State). GoesOn p n s.laid.here l (suc (length outer)) r)
        (sym (nothing_ends (table_in p n) (suc most) s (found p n l t outer loops s is ∙ ap (λ (c : Bool). cond c (Some (open_of (plain_loops p) t)) None) e)))
        (record {
          around = t ∷ outer;
          loops = loops;
          at = suc l;
          is = past_it p n l (t ∷ outer) loops s small below later (stays p.locations l t outer is.held (by_less (cases_lt l t.loop.last))) is;
          low = later;
          more = omega arith;
          on = inr (omega arith);
        })
      where
        by_less : (l < t.loop.last) ⊎ (t.loop.last ≤ l) → l < t.loop.last
        by_less (inl h) = h
        by_less (inr h) = absurd (eqb-false t.loop.last l e (omega (arith, h, (is.held).1)))

-- ---- one step

pub record Steps (p : CodeParts) (n l here : ℕ) (s : State) : Type 0 where
  pub around : List Held
  pub loops : List Loop
  pub at : ℕ
  pub is : IsWalked p n around loops at at at s
  pub low : AllByRecursion (λ (loop : Loop). at ≤ loop.first) loops
  pub more : (suc here ≤ s.laid.here) ⊎ ((at ≡ suc l) × (here ≤ s.laid.here))

opens_long : (all : List Loop) (around : List Held) → length (opens_of all around) ≡ length around
opens_long all [] = refl
opens_long all (t ∷ outer) = length-append (opens_of all outer) (open_of all t ∷ []) ∙ omega (arith, opens_long all outer)

step : (p : CodeParts) (n l : ℕ) (around : List Held) (loops : List Loop) (s : State) → CanUnroll p n → IsSmall p n → l < p.locations
    → AllByRecursion (λ (loop : Loop). l ≤ loop.first) loops → IsWalked p n around loops l l l s
    → Steps p n l s.laid.here (stepped (table_in p n) s)
step p n l around loops s can small below low is =
    subst (λ (xs : List Loop). Steps p n l s.laid.here (on (record { walk = entered_at xs s.walk; laid = s.laid }))) (sym begun)
    (finish (enters p n l around loops s can low is))
  where
    on : State → State
    on r = ended_walk (table_in p n) (length (laid_here (table_in p n) r).walk.nest) (laid_here (table_in p n) r)

    begun : drop s.walk.next (plain_loops p) ≡ loops
    begun = ap (λ (k : ℕ). drop k (plain_loops p)) (number is.next) ∙ (path_end l (plain_loops p) around loops is.path).0
      where
        number : s.walk.next + length loops ≡ length (plain_loops p) → s.walk.next ≡ length (plain_loops p) - length loops
        number e = omega (arith, e)

    finish : Enters p n l s.laid (record { walk = entered_at loops s.walk; laid = s.laid })
        → Steps p n l s.laid.here (on (record { walk = entered_at loops s.walk; laid = s.laid }))
    finish in_ =
        let there = lies p n l in_.around in_.loops (record { walk = entered_at loops s.walk; laid = s.laid }) can small below in_.later in_.is in
        let going = goes_on p n l in_.around in_.loops (length (entered_at loops s.walk).nest)
        (laid_here (table_in p n) (record { walk = entered_at loops s.walk; laid = s.laid })) can small below in_.later
        (omega (arith, ap (λ (xs : List Open). length xs) (in_.is).nest, opens_long (plain_loops p) in_.around)) there.is in
        record {
          around = going.around;
          loops = going.loops;
          at = going.at;
          is = going.is;
          low = going.low;
          more = by (laid_here (table_in p n) (record { walk = entered_at loops s.walk; laid = s.laid })).laid.here going.at (on (record { walk = entered_at loops s.walk; laid = s.laid })).laid.here
              there.more going.on going.more;
        }
      where
        by : (x at m : ℕ) → (suc s.laid.here ≤ x) ⊎ ((in_.around ≡ []) × (x ≡ s.laid.here))
            → (at ≡ suc l) ⊎ (0 < length in_.around) → x ≤ m → (suc s.laid.here ≤ m) ⊎ ((at ≡ suc l) × (s.laid.here ≤ m))
        by x at m (inl lt) on le = inl (omega (arith, lt, le))
        by x at m (inr h) (inl same) le = inr (same, omega (arith, h.1, le))
        by x at m (inr h) (inr some) le = let short = ap (λ (xs : List Held). length xs) h.0 in absurd (omega (arith, some, short))

-- ---- the whole walk

-- so many steps are enough: between two copies there are no more than locations
abbrev measure : ℕ → ℕ → ℕ → ℕ → ℕ
measure b t here l = suc b * (t - here) + (b - l)

falls : (b x y m l : ℕ) → suc x ≤ y → suc (suc b * x + (b - m)) ≤ suc b * y + (b - l)
falls b x y m l le = sum (suc b * x) (suc b * suc x) (suc b * y) b (b - m) (b - l) split (larger (suc b) (suc x) y le) (omega arith)
  where
    split : suc b * suc x ≡ suc b * x + suc b
    split = omega arith

    sum : (u v z b c d : ℕ) → v ≡ u + suc b → v ≤ z → c ≤ b → suc (u + c) ≤ z + d
    sum u v z b c d e le low = omega (arith, e, le, low)

falls_by_copy : (b t here there l m : ℕ) → suc here ≤ there → there ≤ t → suc (measure b t there m) ≤ measure b t here l
falls_by_copy b t here there l m lt le = falls b (t - there) (t - here) m l (omega (arith, lt, le))

falls_by_location : (b t here there l : ℕ) → here ≤ there → l < b → suc (measure b t there (suc l)) ≤ measure b t here l
falls_by_location b t here there l le lt = sum (suc b * (t - there)) (suc b * (t - here)) (larger (suc b) (t - there) (t - here) (omega (arith, le)))
  where
    sum : (u v : ℕ) → u ≤ v → suc (u + (b - suc l)) ≤ v + (b - l)
    sum u v h = omega (arith, h, lt)

-- behind all locations the whole text is laid
all_walked : (p : CodeParts) (n l : ℕ) (around : List Held) (loops : List Loop) (s : State) → CanUnroll p n
    → IsWalked p n around loops l l l s → p.locations ≤ l → LaidTo p n s.laid []
all_walked p n l around loops s can is le = subst (λ (xs : List Copy). LaidTo p n s.laid xs) (nothing around is.held) is.laid
  where
    high : (xs : List Held) → Around p.locations l xs → end_by p.locations xs ≤ p.locations
    high [] held = omega arith
    high (t ∷ outer) held = let h = high outer held.3 in absurd (omega (arith, h, held.1, held.2, le))

    nothing : (xs : List Held) → Around p.locations l xs → rest (stands_in (parts_of p)) n p.locations xs loops l ≡ []
    nothing [] held = ap (λ (ys : List Copy). map (put_in []) ys ++ [])
        (text_none (stands_in (parts_of p)) n loops l p.locations
        (ranges_of loops (path_order l (plain_loops p) around loops is.path (order_of p n can))) le)
    nothing (t ∷ outer) held = let h = high outer held.3 in absurd (omega (arith, h, held.1, held.2, le))

walks : (p : CodeParts) (n l fuel : ℕ) (around : List Held) (loops : List Loop) (s : State) → CanUnroll p n → IsSmall p n
    → AllByRecursion (λ (loop : Loop). l ≤ loop.first) loops → IsWalked p n around loops l l l s
    → measure p.locations (text_size (parts_of p) n) s.laid.here l ≤ fuel
    → LaidTo p n (walked_from (table_in p n) fuel s).laid []
walks p n l zero around loops s can small low is enough = by (cases_lt l p.locations)
  where
    by : (l < p.locations) ⊎ (p.locations ≤ l) → LaidTo p n s.laid []
    by (inl lt) = absurd (omega (arith, enough, lt))
    by (inr le) = all_walked p n l around loops s can is le
walks p n l (suc fuel) around loops s can small low is enough =
    by (cases_lt l p.locations) (λ next lt. walks p n next.at fuel next.around next.loops (stepped (table_in p n) s) can small next.low next.is (fallen next lt next.more))
  where
    fallen : (next : Steps p n l s.laid.here (stepped (table_in p n) s)) → l < p.locations
        → (suc s.laid.here ≤ (stepped (table_in p n) s).laid.here) ⊎ ((next.at ≡ suc l) × (s.laid.here ≤ (stepped (table_in p n) s).laid.here))
        → measure p.locations (text_size (parts_of p) n) (stepped (table_in p n) s).laid.here next.at ≤ fuel
    fallen next lt (inl more) =
        let h = falls_by_copy p.locations (text_size (parts_of p) n) s.laid.here (stepped (table_in p n) s).laid.here l next.at more
        (omega (arith, ((next.is).laid).count)) in omega (arith, h, enough)
    fallen next lt (inr more) =
        let h = subst (λ (m : ℕ). suc (measure p.locations (text_size (parts_of p) n) (stepped (table_in p n) s).laid.here m)
        ≤ measure p.locations (text_size (parts_of p) n) s.laid.here l) (sym more.0)
        (falls_by_location p.locations (text_size (parts_of p) n) s.laid.here (stepped (table_in p n) s).laid.here l more.1 lt) in
        omega (arith, h, enough)

    by : (l < p.locations) ⊎ (p.locations ≤ l)
        → (Steps p n l s.laid.here (stepped (table_in p n) s) → l < p.locations → LaidTo p n (walked_from (table_in p n) fuel (stepped (table_in p n) s)).laid [])
        → LaidTo p n (walked_from (table_in p n) (suc fuel) s).laid []
    by (inr le) go = subst (λ (b : Bool). LaidTo p n (cond b s (walked_from (table_in p n) fuel (stepped (table_in p n) s))).laid [])
        (sym (le-leb p.locations s.walk.at (omega (arith, le, is.at_is)))) (all_walked p n l around loops s can is le)
    by (inl lt) go = subst (λ (b : Bool). LaidTo p n (cond b s (walked_from (table_in p n) fuel (stepped (table_in p n) s))).laid [])
        (sym (lt-leb p.locations s.walk.at (omega (arith, lt, is.at_is)))) (go (step p n l around loops s can small lt low is) lt)

steps_enough : (p : CodeParts) (n : ℕ) → CanUnroll p n → IsSmall p n → measure p.locations (text_size (parts_of p) n) 0 0 ≤ steps_in p n
steps_enough p n can small =
    by MOST (text_size (parts_of p) n) p.locations (copy_sizing p n).here (copies_are_sized p n can small.locations) most_is (few_copies p n small) small.locations
  where
    by : (most t b here : ℕ) → here ≡ min t most → most ≡ 18446744073709551615 → t ≤ 4000000000 → b ≤ 4294967295
        → suc b * (t - 0) + (b - 0) ≤ min (min (here * min (b + 1) most) most + b) most
    by most t b here e m short locations = subst (λ (x : ℕ). suc b * x + (b - 0) ≤ min (min (here * min (b + 1) most) most + b) most) (whole t)
        (subst (λ (x : ℕ). suc b * t + x ≤ min (min (here * min (b + 1) most) most + b) most) (whole b) low)
      where
        whole : (x : ℕ) → x ≡ x - 0
        whole x = omega arith

        same : (x y z v : ℕ) → x ≡ v → y ≡ z → x * y ≡ z * v
        same x y z v e f = ap (λ (m : ℕ). m * y) e ∙ ap (λ (m : ℕ). v * m) f ∙ swap v z
          where
            swap : (x y : ℕ) → x * y ≡ y * x
            swap x y = omega arith

        exact : (most x z b : ℕ) → x ≡ z → z + b ≤ most → z + b ≤ min (min x most + b) most
        exact most x z b e le = omega (arith, e, le)

        low : suc b * t + b ≤ min (min (here * min (b + 1) most) most + b) most
        low =
            let h = larger (suc b) t 4000000000 short in
            exact most (here * min (b + 1) most) (suc b * t) b (same here (min (b + 1) most) (suc b) t (omega (arith, e, m, short)) (omega (arith, m, locations)))
            (omega (arith, h, m, locations))

pub copies_are_laid : CopiesAreLaid
copies_are_laid p n can small = finish
    (walks p n 0 (steps_in p n) [] (plain_loops p) start can small (any (plain_loops p)) is (steps_enough p n can small))
  where
    start : State
    start = record {
      walk = record { nest = []; next = 0; at = 0 };
      laid = record { edges = []; traps = []; overs = []; here = 0; done = (copy_sizing p n).here };
    }

    any : (xs : List Loop) → AllByRecursion (λ (loop : Loop). 0 ≤ loop.first) xs
    any [] = tt
    any (x ∷ xs) = (omega arith, any xs)

    same : (xs : List Copy) → map (put_in []) xs ++ [] ≡ xs
    same [] = refl
    same (x ∷ xs) = ap (λ (ys : List Copy). x ∷ ys) (same xs)

    done : (copy_sizing p n).here ≡ text_size (parts_of p) n
    done = copies_are_sized p n can small.locations ∙ exact MOST (text_size (parts_of p) n) (omega (arith, (few_copies p n small), most_is))
      where
        exact : (most t : ℕ) → t ≤ most → min t most ≡ t
        exact most t le = omega (arith, le)

    is : IsWalked p n [] (plain_loops p) 0 0 0 start
    is = record {
      nest = refl;
      next = omega arith;
      at_is = refl;
      path = none 0 (plain_loops p);
      held = tt;
      turns = tt;
      laid = subst (λ (xs : List Copy). LaidTo p n start.laid xs) (sym (same (whole_text (parts_of p) n))) (record {
        left = refl;
        count = let long = text_is_long (parts_of p) n can.faultless can.well_made in omega (arith, long);
        told = record { done = done; edges = refl; traps = refl; deeds = refl };
        overs = refl;
      });
    }

    finish : LaidTo p n (laid_in p n) [] → IsLaid p n (laid_in p n)
    finish h = record {
      done = (h.told).done;
      here = omega (arith, h.count);
      edges = sym (append-nil (map (plain_edge p) (laid_in p n).edges)) ∙ (h.told).edges;
      traps = sym (append-nil (map trap_end_of (laid_in p n).traps)) ∙ (h.told).traps;
      overs = sym (append-nil (map over_end_of (laid_in p n).overs)) ∙ h.overs;
      deeds = (h.told).deeds;
    }
