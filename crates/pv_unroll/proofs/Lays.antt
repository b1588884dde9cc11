-- What is laid of one copy of the text is what the automaton of the copies has of it.
use Rattle.std.proofs.Common.{◌≡◌, ℕ, zero, suc, ◌+◌, ◌-◌, ◌*◌, ◌<◌, ◌≤◌, inl, inr, List, [], ◌∷◌, ◌++◌, length, map, drop, slice_get, min, Bool, true, false, ◌&&◌, ◌==◌, nat_lt, cond, Option, Some, None, refl, sym, subst, ap, ◌∙◌, arith}
use Rattle.std.specs.Prelude.{slice_index_or, replicate}
use Rattle.std.specs.List.{AllByRecursion, list_all}
use Rattle.std.proofs.lemmas.Bool.{both_ways, eqb-true, ltb-true, and_parts}
use Rattle.std.proofs.lemmas.List.{length-append, length-map, length-replicate}
use Rattle.pv_place.specs.declared.place.Place.{Place}
use Rattle.pv_flow.specs.declared.parts.Edge.{Edge as CodeEdge}
use Rattle.pv_flow.specs.declared.parts.TrapEnd.{TrapEnd as CodeTrapEnd}
use Rattle.pv_flow.specs.declared.parts.OverEnd.{OverEnd as CodeOverEnd}
use Rattle.pv_flow.specs.declared.parts.Parts.{Parts as CodeParts}
use Rattle.pv_flow.specs.Automata.{Edge, CallEdge, Loop, TrapEnd, OverEnd, is_turn}
use Rattle.pv_flow.specs.Faults.{has_ends, IsFaultless}
use Rattle.pv_flow.specs.Runs.{End, done, trap, over, end_at}
use Rattle.pv_flow.specs.View.{edge_of, trap_end_of, over_end_of, terms_of, parts_of}
use Rattle.pv_copies.specs.Copies.{Copy, copy, beyond, target, exit_of_copy}
use Rattle.pv_copies.specs.Places.{once, size, turns_before, IsCopy, stands_in, one_each, Stands}
use Rattle.pv_copies.specs.Unrolled.{CopiedEdge, copied_edges, copied, whole_text, text_size, place_in_text, numbered_by, traps_by, with_trap, with_over, edges_of, traps_of, overs_of}
use Rattle.pv_copies.proofs.ForCallers.{IsLed, loops_in_order, loops_of, leads, all_listed, listed_at, at_some, copies_lead_to_copies, places_are_shifts, text_has_copies, text_has_places, text_is_long}
use Rattle.pv_unroll.specs.declared.lead.Open.{Open}
use Rattle.pv_unroll.specs.declared.lead.Lead.{Lead}
use Rattle.pv_unroll.specs.declared.lead.Lead.TheVariants.{On, Over}
use Rattle.pv_unroll.specs.declared.endings.Ending.{Ending}
use Rattle.pv_unroll.specs.declared.endings.Ending.TheVariants.{Goes, Done, Trapped, Gone}
use Rattle.pv_unroll.specs.declared.numbers.TheConstants.{MOST}
use Rattle.pv_unroll.specs.Counts.{capped}
use Rattle.pv_unroll.specs.Chains.{along}
use Rattle.pv_unroll.specs.Endings.{ending_at, endings_of, weight_of}
use Rattle.pv_unroll.specs.Leading.{Table, lead_from, turning_at}
use Rattle.pv_unroll.specs.Laying.{Laid, narrow, trap_number, led_by, laid_by, led_to, laid_to, led, led_laid, way_in, edge_put, edge_laid, one_laid_by, one_laid, edges_laid, over_put, moved_on, over_laid, copy_laid}
use Rattle.pv_unroll.specs.Tables.{plain_loops, copy_sizing, table_in}
use Rattle.pv_unroll.specs.Correct.{CanUnroll, IsSmall}
use Rattle.pv_unroll.proofs.Caps.{at_least, plus_capped, zero_capped}
use Rattle.pv_unroll.proofs.ChainLaws.{numbers_from, chain_is}
use Rattle.pv_unroll.proofs.Firsts.{OnlyTurn, first_places, over_places, over_at, none_is, some_is}
use Rattle.pv_unroll.proofs.Leads.{HasTurns, Led, at_in, opens_from, leads_along}
use Rattle.pv_unroll.proofs.Lists.{zero_at}
use Rattle.pv_unroll.proofs.Nest.{drop_one, get_drop}
use Rattle.pv_unroll.proofs.Replacing.{few_traps, most_is, few_copies}
use Rattle.pv_unroll.proofs.Sized.{IsSized}
use Rattle.pv_unroll.proofs.Turns.{TurnsFrom, table_turns}
use Rattle.pv_unroll.proofs.Weights.{ending_of, endings_are, copies_passed, weighs}

-- ---- tables

exact_turn : (most n s z x whole turn : ℕ) → 0 < n → s + n * z + x ≤ whole → whole ≤ most → turn ≡ min (s + z) most - min s most → turn ≡ z
exact_turn most n s z x whole turn some low high e = let h = at_least n z some in omega (arith, h, low, high, e)

text_most : (p : CodeParts) (n : ℕ) → IsSmall p n → text_size (parts_of p) n ≤ MOST
text_most p n small = omega (arith, (few_copies p n small), most_is)

pub has_turns : (p : CodeParts) (n : ℕ) → CanUnroll p n → IsSmall p n
    → HasTurns (one_each (stands_in (parts_of p))) 1 n (plain_loops p) (table_in p n)
has_turns p n can small = record {
  loops = refl;
  bound = refl;
  few = omega (arith, small.bound, most_is);
  turn = λ r loop at. by r loop ((copies_passed p n can small.locations).sized r loop at);
}
  where
    w : ℕ → ℕ
    w = one_each (stands_in (parts_of p))

    by : (r : ℕ) (loop : Loop)
        → IsSized w 1 n (plain_loops p) (copy_sizing p n).turns (copy_sizing p n).overs (size w 1 n (plain_loops p) 0 p.locations) r loop
        → slice_index_or (copy_sizing p n).turns r 0 ≡ size w 1 n (drop (suc r) (plain_loops p)) loop.first (suc loop.last)
    by r loop is = exact_turn MOST n (size w 1 n (plain_loops p) 0 loop.first) (size w 1 n (drop (suc r) (plain_loops p)) loop.first (suc loop.last))
        (once w loop) (text_size (parts_of p) n) (slice_index_or (copy_sizing p n).turns r 0) (can.inlined).1 is.low (text_most p n small) is.turn

-- ---- where an edge leads

abbrev pub lead_in : Copy → ℕ → Lead
lead_in (copy l ks) x = On x
lead_in (beyond loop ks) x = Over x

abbrev pub IsCopyOf : CodeParts → ℕ → Copy → Type 0
IsCopyOf p n c = IsCopy n (plain_loops p) 0 p.locations c

only_number : (e r m : ℕ) (loops : List Loop) (loop : Loop) → OnlyTurn e r loops → slice_get loops m ≡ Some loop → is_turn loop e ≡ true → OnlyTurn e m loops
only_number e r m [] loop only at turn = absurd only
only_number e zero zero (x ∷ xs) loop only at turn = only
only_number e zero (suc m) (x ∷ xs) loop only at turn = absurd (both_ways (is_turn loop e) (at_in (λ (other : Loop). is_turn other e ≡ false) xs m loop only.1 at) turn)
only_number e (suc r) zero (x ∷ xs) loop only at turn =
    absurd (both_ways (is_turn x e) only.0 (ap (λ (l : Loop). is_turn l e) (some_is x loop at) ∙ turn))
only_number e (suc r) (suc m) (x ∷ xs) loop only at turn = (only.0, only_number e r m xs loop only.1 at turn)

turns_only : (e m : ℕ) (loops : List Loop) (turning : Option ℕ) (loop : Loop) → TurnsFrom e 0 loops turning → slice_get loops m ≡ Some loop
    → is_turn loop e ≡ true → OnlyTurn e m loops
turns_only e m loops turning loop (inl h) at turn = absurd (both_ways (is_turn loop e) (at_in (λ (other : Loop). is_turn other e ≡ false) loops m loop h.0 at) turn)
turns_only e m loops turning loop (inr h) at turn = only_number e h.number m loops loop h.is at turn

sum_capped : (f x y z : ℕ) → f ≡ capped x → y ≡ x + z → capped (f + capped (0 + z)) ≡ capped y
sum_capped f x y z e g = ap (λ (m : ℕ). capped (m + capped (0 + z))) e ∙ plus_capped x (0 + z) ∙ ap capped (same x z ∙ sym g)
  where
    same : (x z : ℕ) → x + (0 + z) ≡ x + z
    same x z = omega arith

led_place : (p : CodeParts) (n e l to : ℕ) (turning : Option ℕ) (c : Copy) (led : Lead) → CanUnroll p n → IsSmall p n
    → to < p.locations → TurnsFrom e 0 (plain_loops p) turning
    → IsCopyOf p n c → Led (one_each (stands_in (parts_of p))) 1 n (table_in p n) e 0 l to (plain_loops p) c 0 led
    → led ≡ lead_in c (capped (place_in_text (parts_of p) n c))
led_place p n e l to turning (copy m js) led can small below turns is h =
    h.1 ∙ ap (λ (x : ℕ). On x) (sum_capped (slice_index_or (copy_sizing p n).firsts to 0)
    (size w 1 n (plain_loops p) 0 m) (place_in_text (parts_of p) n (copy m js)) (turns_before w 1 n (plain_loops p) m js)
    ((copies_passed p n can small.locations).firsts to below ∙ ap (λ (x : ℕ). capped (size w 1 n (plain_loops p) 0 x)) (sym h.0))
    (places_are_shifts (parts_of p) n (copy m js) w 1 can.faultless can.well_made is
    ∙ ap (λ (x : ℕ). x + turns_before w 1 n (plain_loops p) m js)
    (first_places w 1 n (plain_loops p) m js 0 p.locations (loops_in_order (parts_of p) can.faultless can.well_made)
    (loops_of (parts_of p) can.faultless) is)))
  where
    w : ℕ → ℕ
    w = one_each (stands_in (parts_of p))
led_place p n e l to turning (beyond loop js) led can small below turns is h =
    h.led_is
    ∙ ap (λ (x : ℕ). Over (capped (slice_index_or (copy_sizing p n).overs x 0 + capped (0 + turns_before w 1 n (plain_loops p) loop.first js)))) (first h.number)
    ∙ ap (λ (x : ℕ). Over x) (sum_capped (slice_index_or (copy_sizing p n).overs h.number 0)
    (over_at w 1 n 0 h.number (plain_loops p) loop) (place_in_text (parts_of p) n (beyond loop js)) (turns_before w 1 n (plain_loops p) loop.first js)
    ((copies_passed p n can small.locations).sized h.number loop h.at).over
    (places_are_shifts (parts_of p) n (beyond loop js) w 1 can.faultless can.well_made is
    ∙ ap (λ (x : ℕ). x + turns_before w 1 n (plain_loops p) loop.first js)
    (over_places w 1 n e h.number (plain_loops p) loop js 0 p.locations (loops_in_order (parts_of p) can.faultless can.well_made)
    (loops_of (parts_of p) can.faultless) (turns_only e h.number (plain_loops p) turning loop turns h.at h.turn) h.turn h.at is)))
  where
    first : (m : ℕ) → 0 + m ≡ m
    first m = omega arith

    w : ℕ → ℕ
    w = one_each (stands_in (parts_of p))

-- ---- by the ends of the copies

-- a copy that stands in the text is one of it
place_below : (p : CodeParts) (n : ℕ) (c : Copy) → CanUnroll p n → IsCopyOf p n c → Stands (stands_in (parts_of p)) c
    → place_in_text (parts_of p) n c < text_size (parts_of p) n
place_below p n c can is stands = omega (
  arith,
  get_below (place_in_text (parts_of p) n c) c (whole_text (parts_of p) n) (text_has_copies (parts_of p) n c can.faultless can.well_made is stands),
  text_is_long (parts_of p) n can.faultless can.well_made,
)
  where
    get_below : (i : ℕ) (c : Copy) (xs : List Copy) → slice_get xs i ≡ Some c → i < length xs
    get_below i c [] at = absurd (none_is c at)
    get_below zero c (x ∷ xs) at = omega arith
    get_below (suc i) c (x ∷ xs) at = let h = get_below i c xs at in omega (arith, h)

stands_at : (p : CodeParts) (l : ℕ) → weight_of (ending_of (end_at (parts_of p) l)) ≡ 1 → stands_in (parts_of p) l ≡ true
stands_at p l e = by (stands_in (parts_of p) l) refl (sym (weighs p l) ∙ e)
  where
    one : ◌≡◌ {A = ℕ} 0 1 → ⊥
    one e = omega (arith, e)

    by : (t : Bool) → stands_in (parts_of p) l ≡ t → ◌≡◌ {A = ℕ} (cond (stands_in (parts_of p) l) 1 0) 1 → stands_in (parts_of p) l ≡ true
    by true e h = e
    by false e h = absurd (one (sym (ap (λ (b : Bool). cond b 1 0) e) ∙ h))

within_most : (most x t : ℕ) → x < t → t ≤ most → min x most ≡ x
within_most most x t lt le = omega (arith, lt, le)

-- a number in 32 bits of one within the automaton
narrowed : (x t : ℕ) → t ≤ 4000000000 → x ≤ t + 200001 → narrow x ≡ x
narrowed x t le lt = omega (arith, le, lt)

-- what is known where so much is laid
pub record Known (p : CodeParts) (n : ℕ) (s : Laid) : Type 0 where
  pub done : s.done ≡ text_size (parts_of p) n
  pub few : length s.traps ≤ 200000

trap_is : (p : CodeParts) (n : ℕ) (s : Laid) → IsSmall p n → Known p n s → trap_number s ≡ text_size (parts_of p) n + suc (length s.traps)
trap_is p n s small known = ap (λ (m : ℕ). capped (capped (m + 1) + length s.traps)) known.done
    ∙ sum MOST (text_size (parts_of p) n) (length s.traps) (omega (arith, (few_copies p n small), known.few, most_is))
  where
    sum : (most t m : ℕ) → t + suc m ≤ most → min (min (t + 1) most + m) most ≡ t + suc m
    sum most t m le = omega (arith, le)

-- a trap's location, if the copy is one
abbrev ended_laid : Option End → ℕ → Laid → Laid
ended_laid None at s = s
ended_laid (Some done) at s = s
ended_laid (Some (trap kind place)) at s = record {
  edges = s.edges;
  traps = s.traps ++ (record { location = narrow at; kind = kind; place = place }) ∷ [];
  overs = s.overs;
  here = s.here;
  done = s.done;
}
ended_laid (Some (over place)) at s = s

pub record Leads (p : CodeParts) (n : ℕ) (c : Copy) (number : ℕ) (next s : Laid) : Type 0 where
  pub number_is : number ≡ numbered_by (exit_of_copy (parts_of p) c) (text_size (parts_of p) n) (length s.traps) (place_in_text (parts_of p) n c)
  pub next_is : next ≡ ended_laid (exit_of_copy (parts_of p) c) (text_size (parts_of p) n + suc (length s.traps)) s

abbrev EndsAt : Copy → ℕ → Type 0
EndsAt (copy m js) to = m ≡ to
EndsAt (beyond loop js) to = Unit {0}

leads_by : (p : CodeParts) (n to : ℕ) (c : Copy) (lead : Lead) (s : Laid) → CanUnroll p n → IsSmall p n → Known p n s → to < p.locations → IsCopyOf p n c
    → EndsAt c to → lead ≡ lead_in c (capped (place_in_text (parts_of p) n c))
    → Leads p n c (led_to lead (ending_at (endings_of p) to) s) (laid_to lead (ending_at (endings_of p) to) s) s
leads_by p n to (beyond loop js) lead s can small known below is same e = record {
  number_is = ap (λ (x : Lead). led_to x (ending_at (endings_of p) to) s) e
      ∙ within_most MOST (place_in_text (parts_of p) n (beyond loop js)) (text_size (parts_of p) n) (place_below p n (beyond loop js) can is tt)
      (text_most p n small);
  next_is = ap (λ (x : Lead). laid_to x (ending_at (endings_of p) to) s) e;
}
leads_by p n to (copy m js) lead s can small known below is same e =
    by (end_at (parts_of p) m) refl
  where
    here : ℕ
    here = place_in_text (parts_of p) n (copy m js)

    ends : ending_at (endings_of p) to ≡ ending_of (end_at (parts_of p) m)
    ends = endings_are p to below ∙ ap (λ (l : ℕ). ending_of (end_at (parts_of p) l)) (sym same)

    number : (x : Option End) → end_at (parts_of p) m ≡ x → led_to lead (ending_at (endings_of p) to) s ≡ led_by (ending_of x) (capped here) s
    number x f = ap (λ (y : Lead). led_to y (ending_at (endings_of p) to) s) e ∙ ap (λ (y : Ending). led_by y (capped here) s) (ends ∙ ap ending_of f)

    next : (x : Option End) → end_at (parts_of p) m ≡ x → laid_to lead (ending_at (endings_of p) to) s ≡ laid_by (ending_of x) s
    next x f = ap (λ (y : Lead). laid_to y (ending_at (endings_of p) to) s) e ∙ ap (λ (y : Ending). laid_by y s) (ends ∙ ap ending_of f)

    stays : weight_of (ending_of (end_at (parts_of p) m)) ≡ 1 → capped here ≡ here
    stays one = within_most MOST here (text_size (parts_of p) n) (place_below p n (copy m js) can is (stands_at p m one)) (text_most p n small)

    made : (x : Option End) → end_at (parts_of p) m ≡ x
        → led_by (ending_of x) (capped here) s ≡ numbered_by x (text_size (parts_of p) n) (length s.traps) here
        → laid_by (ending_of x) s ≡ ended_laid x (text_size (parts_of p) n + suc (length s.traps)) s
        → Leads p n (copy m js) (led_to lead (ending_at (endings_of p) to) s) (laid_to lead (ending_at (endings_of p) to) s) s
    made x f g h = record {
      number_is = number x f ∙ g ∙ ap (λ (y : Option End). numbered_by y (text_size (parts_of p) n) (length s.traps) here) (sym f);
      next_is = next x f ∙ h ∙ ap (λ (y : Option End). ended_laid y (text_size (parts_of p) n + suc (length s.traps)) s) (sym f);
    }

    by : (x : Option End) → end_at (parts_of p) m ≡ x
        → Leads p n (copy m js) (led_to lead (ending_at (endings_of p) to) s) (laid_to lead (ending_at (endings_of p) to) s) s
    by None f = made None f (stays (ap (λ (y : Option End). weight_of (ending_of y)) f)) refl
    by (Some done) f = made (Some done) f known.done refl
    by (Some (trap kind place)) f = made (Some (trap kind place)) f (trap_is p n s small known)
        (ap (λ (x : ℕ). ended_laid (Some (trap kind place)) x s) (trap_is p n s small known))
    by (Some (over place)) f = made (Some (over place)) f (stays (ap (λ (y : Option End). weight_of (ending_of y)) f)) refl

-- ---- one edge

abbrev pub plain_edge : CodeParts → CodeEdge → Edge
plain_edge p = edge_of (terms_of p.nodes.items) p.deeds.items

abbrev pub all_copied : CodeParts → ℕ → List CopiedEdge
all_copied p n = copied (parts_of p) n 0 (whole_text (parts_of p) n)

-- what is laid, and what is left of the copied edges, are all of them
pub record Told (p : CodeParts) (n : ℕ) (s : Laid) (todo : List CopiedEdge) : Type 0 where
  pub done : s.done ≡ text_size (parts_of p) n
  pub edges : map (plain_edge p) s.edges ++ edges_of (parts_of p) n (length s.traps) todo ≡ edges_of (parts_of p) n 0 (all_copied p n)
  pub traps : map trap_end_of s.traps ++ traps_of (parts_of p) n (length s.traps) todo ≡ traps_of (parts_of p) n 0 (all_copied p n)
  pub deeds : list_all (λ (edge : CodeEdge). nat_lt edge.deed (length p.deeds.items)) s.edges ≡ true

known_of : (p : CodeParts) (n : ℕ) (s : Laid) (todo : List CopiedEdge) → CanUnroll p n → IsSmall p n → Told p n s todo → Known p n s
known_of p n s todo can small told = record {
  done = told.done;
  few = shorter (few_traps p n can small) (ap (λ (xs : List TrapEnd). length xs) told.traps)
      (length-append (map trap_end_of s.traps) (traps_of (parts_of p) n (length s.traps) todo)) (length-map s.traps trap_end_of);
}
  where
    shorter : length (traps_of (parts_of p) n 0 (all_copied p n)) ≤ 200000
        → length (map trap_end_of s.traps ++ traps_of (parts_of p) n (length s.traps) todo) ≡ length (traps_of (parts_of p) n 0 (all_copied p n))
        → length (map trap_end_of s.traps ++ traps_of (parts_of p) n (length s.traps) todo)
        ≡ length (map trap_end_of s.traps) + length (traps_of (parts_of p) n (length s.traps) todo)
        → length (map trap_end_of s.traps) ≡ length s.traps → length s.traps ≤ 200000
    shorter few e f g = omega (arith, few, e, f, g)

map_on : {X Y : Type 0} (f : X → Y) (xs : List X) (x : X) (ys : List Y) → map f (xs ++ x ∷ []) ++ ys ≡ map f xs ++ (f x ∷ ys)
map_on f [] x ys = refl
map_on f (z ∷ xs) x ys = ap (λ zs. f z ∷ zs) (map_on f xs x ys)

all_on : {X : Type 0} (f : X → Bool) (xs : List X) (x : X) → list_all f xs ≡ true → f x ≡ true → list_all f (xs ++ x ∷ []) ≡ true
all_on f [] x all on = ap (λ (b : Bool). b && true) on
all_on f (z ∷ xs) x all on =
    let both = and_parts (f z) (list_all f xs) all in
    ap (λ (b : Bool). b && list_all f (xs ++ x ∷ [])) both.0 ∙ all_on f xs x both.1 on

one_longer : {X : Type 0} (xs : List X) (x : X) → length (xs ++ x ∷ []) ≡ suc (length xs)
one_longer [] x = refl
one_longer (y ∷ xs) x = ap suc (one_longer xs x)

-- the traps of the first copied edge are laid
trap_told : (p : CodeParts) (n : ℕ) (s : Laid) (x : CopiedEdge) (todo : List CopiedEdge) (end : Option End) → text_size (parts_of p) n ≤ 4000000000
    → length s.traps ≤ 200000 → exit_of_copy (parts_of p) x.to ≡ end
    → map trap_end_of s.traps ++ traps_of (parts_of p) n (length s.traps) (x ∷ todo) ≡ traps_of (parts_of p) n 0 (all_copied p n)
    → (map trap_end_of (ended_laid end (text_size (parts_of p) n + suc (length s.traps)) s).traps
    ++ traps_of (parts_of p) n (traps_by end (length s.traps)) todo ≡ traps_of (parts_of p) n 0 (all_copied p n))
    × (length (ended_laid end (text_size (parts_of p) n + suc (length s.traps)) s).traps ≡ traps_by end (length s.traps))
trap_told p n s x todo end small few e told = by end (sym (ap (λ (y : Option End). map trap_end_of s.traps
    ++ with_trap y (text_size (parts_of p) n + suc (length s.traps)) (traps_of (parts_of p) n (traps_by y (length s.traps)) todo)) e) ∙ told)
  where
    by : (end : Option End) → map trap_end_of s.traps
        ++ with_trap end (text_size (parts_of p) n + suc (length s.traps)) (traps_of (parts_of p) n (traps_by end (length s.traps)) todo)
        ≡ traps_of (parts_of p) n 0 (all_copied p n)
        → (map trap_end_of (ended_laid end (text_size (parts_of p) n + suc (length s.traps)) s).traps
        ++ traps_of (parts_of p) n (traps_by end (length s.traps)) todo ≡ traps_of (parts_of p) n 0 (all_copied p n))
        × (length (ended_laid end (text_size (parts_of p) n + suc (length s.traps)) s).traps ≡ traps_by end (length s.traps))
    by None h = (h, refl)
    by (Some done) h = (h, refl)
    by (Some (over place)) h = (h, refl)
    by (Some (trap kind place)) h = (
      map_on trap_end_of s.traps (record { location = narrow (text_size (parts_of p) n + suc (length s.traps)); kind = kind; place = place })
          (traps_of (parts_of p) n (suc (length s.traps)) todo)
          ∙ ap (λ (at : ℕ). map trap_end_of s.traps ++ (record { location = at; kind = kind; place = place }
          ∷ traps_of (parts_of p) n (suc (length s.traps)) todo))
          (narrowed (text_size (parts_of p) n + suc (length s.traps)) (text_size (parts_of p) n) small (omega (arith, few)))
          ∙ h,
      one_longer s.traps (record { location = narrow (text_size (parts_of p) n + suc (length s.traps)); kind = kind; place = place }),
    )

ended_edges : (end : Option End) (at : ℕ) (s : Laid) → (ended_laid end at s).edges ≡ s.edges
ended_edges None at s = refl
ended_edges (Some done) at s = refl
ended_edges (Some (trap kind place)) at s = refl
ended_edges (Some (over place)) at s = refl

ended_done : (end : Option End) (at : ℕ) (s : Laid) → (ended_laid end at s).done ≡ s.done
ended_done None at s = refl
ended_done (Some done) at s = refl
ended_done (Some (trap kind place)) at s = refl
ended_done (Some (over place)) at s = refl

number_small : (p : CodeParts) (n : ℕ) (s : Laid) (c : Copy) → CanUnroll p n → IsSmall p n → Known p n s → IsCopyOf p n c
    → narrow (numbered_by (exit_of_copy (parts_of p) c) (text_size (parts_of p) n) (length s.traps) (place_in_text (parts_of p) n c))
    ≡ numbered_by (exit_of_copy (parts_of p) c) (text_size (parts_of p) n) (length s.traps) (place_in_text (parts_of p) n c)
number_small p n s c can small known is =
    narrowed (numbered_by (exit_of_copy (parts_of p) c) (text_size (parts_of p) n) (length s.traps) (place_in_text (parts_of p) n c))
    (text_size (parts_of p) n) (few_copies p n small) (by_copy c is)
  where
    by_end : (end : Option End) (here : ℕ) → (weight_of (ending_of end) ≡ 1 → here < text_size (parts_of p) n)
        → numbered_by end (text_size (parts_of p) n) (length s.traps) here ≤ text_size (parts_of p) n + 200001
    by_end None here low = let h = low refl in omega (arith, h)
    by_end (Some done) here low = omega arith
    by_end (Some (trap kind place)) here low = omega (arith, known.few)
    by_end (Some (over place)) here low = let h = low refl in omega (arith, h)

    by_copy : (c : Copy) → IsCopyOf p n c
        → numbered_by (exit_of_copy (parts_of p) c) (text_size (parts_of p) n) (length s.traps) (place_in_text (parts_of p) n c)
        ≤ text_size (parts_of p) n + 200001
    by_copy (copy m js) is = by_end (end_at (parts_of p) m) (place_in_text (parts_of p) n (copy m js))
        (λ one. place_below p n (copy m js) can is (stands_at p m one))
    by_copy (beyond loop js) is = by_end (Some (over loop.place)) (place_in_text (parts_of p) n (beyond loop js))
        (λ one. place_below p n (beyond loop js) can is tt)

-- the first of what is left is laid
edge_told : (p : CodeParts) (n : ℕ) (s next : Laid) (edge : CodeEdge) (c : Copy) (number : ℕ) (todo : List CopiedEdge) → CanUnroll p n → IsSmall p n
    → IsCopyOf p n c → s.here < text_size (parts_of p) n → nat_lt edge.deed (length p.deeds.items) ≡ true
    → Leads p n c number next s
    → Told p n s ((record { from = s.here; to = c; guard = (plain_edge p edge).guard; sets = (plain_edge p edge).sets }) ∷ todo)
    → Told p n (edge_put (record { from = narrow s.here; to = narrow number; deed = edge.deed }) next) todo
edge_told p n s next edge c number todo can small is low deed leads told =
    subst (λ (r : Laid). Told p n (edge_put (record { from = narrow s.here; to = narrow number; deed = edge.deed }) r) todo) (sym leads.next_is)
    (record {
      done = ended_done (exit_of_copy (parts_of p) c) (text_size (parts_of p) n + suc (length s.traps)) s ∙ told.done;
      edges = ap (λ (xs : List CodeEdge). map (plain_edge p) (xs ++ new ∷ []) ++ edges_of (parts_of p) n (length next_traps) todo)
          (ended_edges (exit_of_copy (parts_of p) c) (text_size (parts_of p) n + suc (length s.traps)) s)
          ∙ map_on (plain_edge p) s.edges new (edges_of (parts_of p) n (length next_traps) todo)
          ∙ ap (λ (m : ℕ). map (plain_edge p) s.edges ++ (plain_edge p new ∷ edges_of (parts_of p) n m todo)) both.1
          ∙ ap (λ (m : ℕ). map (plain_edge p) s.edges ++ ((record { from = m; to = narrow number; guard = (plain_edge p edge).guard; sets = (plain_edge p edge).sets })
          ∷ edges_of (parts_of p) n (traps_by (exit_of_copy (parts_of p) c) (length s.traps)) todo))
          (narrowed s.here (text_size (parts_of p) n) (few_copies p n small) (omega (arith, low)))
          ∙ ap (λ (m : ℕ). map (plain_edge p) s.edges ++ ((record { from = s.here; to = m; guard = (plain_edge p edge).guard; sets = (plain_edge p edge).sets })
          ∷ edges_of (parts_of p) n (traps_by (exit_of_copy (parts_of p) c) (length s.traps)) todo))
          (ap narrow leads.number_is ∙ number_small p n s c can small known is)
          ∙ told.edges;
      traps = ap (λ (m : ℕ). map trap_end_of next_traps ++ traps_of (parts_of p) n m todo) both.1 ∙ both.0;
      deeds = ap (λ (xs : List CodeEdge). list_all (λ (other : CodeEdge). nat_lt other.deed (length p.deeds.items)) (xs ++ new ∷ []))
          (ended_edges (exit_of_copy (parts_of p) c) (text_size (parts_of p) n + suc (length s.traps)) s)
          ∙ all_on (λ (other : CodeEdge). nat_lt other.deed (length p.deeds.items)) s.edges new told.deeds deed;
    })
  where
    known : Known p n s
    known = known_of p n s ((record { from = s.here; to = c; guard = (plain_edge p edge).guard; sets = (plain_edge p edge).sets }) ∷ todo) can small told

    new : CodeEdge
    new = record { from = narrow s.here; to = narrow number; deed = edge.deed }

    next_traps : List CodeTrapEnd
    next_traps = (ended_laid (exit_of_copy (parts_of p) c) (text_size (parts_of p) n + suc (length s.traps)) s).traps

    both : (map trap_end_of next_traps ++ traps_of (parts_of p) n (traps_by (exit_of_copy (parts_of p) c) (length s.traps)) todo
        ≡ traps_of (parts_of p) n 0 (all_copied p n))
        × (length next_traps ≡ traps_by (exit_of_copy (parts_of p) c) (length s.traps))
    both = trap_told p n s (record { from = s.here; to = c; guard = (plain_edge p edge).guard; sets = (plain_edge p edge).sets }) todo
        (exit_of_copy (parts_of p) c) (few_copies p n small) known.few refl told.traps

-- ---- the edges of a location

abbrev edges_lie : CodeParts → Bool
edges_lie p = list_all (λ (edge : Edge). nat_lt edge.from p.locations && nat_lt edge.to p.locations) (parts_of p).edges

lies : (p : CodeParts) → IsFaultless (parts_of p) → AllByRecursion (λ (edge : Edge). (nat_lt edge.from p.locations && nat_lt edge.to p.locations) ≡ true) (parts_of p).edges
lies p f = all_listed (λ (edge : Edge). nat_lt edge.from p.locations && nat_lt edge.to p.locations) (parts_of p).edges edges
  where
    calls_lie : Bool
    calls_lie = list_all (λ (call : CallEdge). nat_lt call.from p.locations && nat_lt call.to p.locations) (parts_of p).calls

    loops_lie : Bool
    loops_lie = list_all (λ (loop : Loop). nat_lt loop.first p.locations && nat_lt loop.last p.locations) (parts_of p).loops

    edges : edges_lie p ≡ true
    edges = (and_parts (edges_lie p) calls_lie (and_parts (edges_lie p && calls_lie) loops_lie
        (and_parts (edges_lie p && calls_lie && loops_lie) (has_ends (parts_of p)) f.locations).0).0).0

get_map : {X Y : Type 0} (f : X → Y) (xs : List X) (i : ℕ) (x : X) → slice_get xs i ≡ Some x → slice_get (map f xs) i ≡ Some (f x)
get_map f [] i x at = absurd (none_is x at)
get_map f (y ∷ xs) zero x at = ap (λ z. Some (f z)) (some_is y x at)
get_map f (y ∷ xs) (suc i) x at = get_map f xs i x at

get_long : {X : Type 0} (xs : List X) (i : ℕ) (x : X) → slice_get xs i ≡ Some x → i < length xs
get_long [] i x at = absurd (none_is x at)
get_long (y ∷ xs) zero x at = omega arith
get_long (y ∷ xs) (suc i) x at = let h = get_long xs i x at in omega (arith, h)

-- one copy of edge e, of location l in the turns of these numbers
one_told : (p : CodeParts) (n l e : ℕ) (ks : List ℕ) (edge : CodeEdge) (s : Laid) (todo : List CopiedEdge) → CanUnroll p n → IsSmall p n
    → slice_get p.edges.items e ≡ Some edge → edge.from ≡ l → IsCopyOf p n (copy l ks) → s.here < text_size (parts_of p) n
    → Told p n s ((record { from = s.here; to = target n (plain_loops p) e l edge.to ks; guard = (plain_edge p edge).guard; sets = (plain_edge p edge).sets }) ∷ todo)
    → Told p n (edge_laid (table_in p n) (opens_from 0 (plain_loops p) l ks) e edge s) todo
one_told p n l e ks edge s todo can small at from is low told =
    edge_told p n s (led_laid (table_in p n) (opens_from 0 (plain_loops p) l ks) (way_in (table_in p n) e edge) s) edge
    (target n (plain_loops p) e l edge.to ks) (led (table_in p n) (opens_from 0 (plain_loops p) l ks) (way_in (table_in p n) e edge) s) todo can small
    there low deed
    (leads_by p n edge.to (target n (plain_loops p) e l edge.to ks)
    (lead_from (table_in p n) (opens_from 0 (plain_loops p) l ks) (way_in (table_in p n) e edge) 0) s can small known below there
    (ends_at (target n (plain_loops p) e l edge.to ks) (lead_from (table_in p n) (opens_from 0 (plain_loops p) l ks) (way_in (table_in p n) e edge) 0) along_it)
    (led_place p n e l edge.to turning (target n (plain_loops p) e l edge.to ks)
    (lead_from (table_in p n) (opens_from 0 (plain_loops p) l ks) (way_in (table_in p n) e edge) 0) can small below turns there along_it))
    told
  where
    turning : Option ℕ
    turning = turning_at (table_in p n).turned e

    plain : slice_get (parts_of p).edges e ≡ Some (plain_edge p edge)
    plain = get_map (plain_edge p) p.edges.items e edge at

    range : (nat_lt edge.from p.locations && nat_lt edge.to p.locations) ≡ true
    range = at_some (λ (other : Edge). (nat_lt other.from p.locations && nat_lt other.to p.locations) ≡ true) (slice_get (parts_of p).edges e) (plain_edge p edge)
        plain (listed_at (λ (other : Edge). (nat_lt other.from p.locations && nat_lt other.to p.locations) ≡ true) (parts_of p).edges e (lies p can.faultless))

    below : edge.to < p.locations
    below = ltb-true edge.to p.locations (and_parts (nat_lt edge.from p.locations) (nat_lt edge.to p.locations) range).1

    deed : nat_lt edge.deed (length p.deeds.items) ≡ true
    deed = at_some (λ (other : CodeEdge). nat_lt other.deed (length p.deeds.items) ≡ true) (slice_get p.edges.items e) edge at
        (listed_at (λ (other : CodeEdge). nat_lt other.deed (length p.deeds.items) ≡ true) p.edges.items e
        (all_listed (λ (other : CodeEdge). nat_lt other.deed (length p.deeds.items)) p.edges.items (can.tabled).edges))

    known : Known p n s
    known = known_of p n s ((record { from = s.here; to = target n (plain_loops p) e l edge.to ks; guard = (plain_edge p edge).guard; sets = (plain_edge p edge).sets }) ∷ todo)
        can small told

    there : IsCopyOf p n (target n (plain_loops p) e l edge.to ks)
    there = subst (λ (m : ℕ). IsCopyOf p n (target n (plain_loops p) e m edge.to ks)) from
        (copies_lead_to_copies (parts_of p) n e (plain_edge p edge) ks can.faultless can.well_made (can.inlined).1 plain
        (subst (λ (m : ℕ). IsCopyOf p n (copy m ks)) (sym from) is))

    turns : TurnsFrom e 0 (plain_loops p) turning
    turns = table_turns e (length p.edges.items) (plain_loops p) (can.well_made).apart (get_long p.edges.items e edge at)

    along_it : Led (one_each (stands_in (parts_of p))) 1 n (table_in p n) e 0 l edge.to (plain_loops p) (target n (plain_loops p) e l edge.to ks) 0
        (lead_from (table_in p n) (opens_from 0 (plain_loops p) l ks) (way_in (table_in p n) e edge) 0)
    along_it = subst (λ (m : ℕ). Led (one_each (stands_in (parts_of p))) 1 n (table_in p n) e 0 l edge.to (plain_loops p) (target n (plain_loops p) e l edge.to ks) 0
        (lead_from (table_in p n) (opens_from 0 (plain_loops p) l ks) (record { from = m; to = edge.to; turning = turning }) 0)) (sym from)
        (subst (λ (m : ℕ). Led (one_each (stands_in (parts_of p))) 1 n (table_in p n) e 0 l edge.to (plain_loops p) (target n (plain_loops p) e l edge.to ks) 0
        (lead_from (table_in p n) (opens_from 0 (plain_loops p) l ks) (record { from = l; to = edge.to; turning = turning }) m)) zero_capped
        (leads_along (one_each (stands_in (parts_of p))) 1 n (plain_loops p) (table_in p n) e l edge.to turning (plain_loops p) 0 ks 0
        (has_turns p n can small) (loops_in_order (parts_of p) can.faultless can.well_made)
        (subst (λ (m : ℕ). AllByRecursion (λ (loop : Loop). IsLed loop e m edge.to) (plain_loops p)) from
        (leads (parts_of p) can.faultless can.well_made e (plain_edge p edge) plain)) refl turns))

    ends_at : (c : Copy) (lead : Lead) → Led (one_each (stands_in (parts_of p))) 1 n (table_in p n) e 0 l edge.to (plain_loops p) c 0 lead → EndsAt c edge.to
    ends_at (copy m js) lead h = h.0
    ends_at (beyond loop js) lead h = tt

-- ---- along the chain

abbrev all_laid : Table → List Open → List ℕ → Laid → Laid
all_laid t nest [] s = s
all_laid t nest (number ∷ numbers) s = all_laid t nest numbers (one_laid t nest number s)

edges_along : (t : Table) (nest : List Open) (most head : ℕ) (s : Laid) → edges_laid t nest most head s ≡ all_laid t nest (along t.nexts most head) s
edges_along t nest zero head s = refl
edges_along t nest (suc most) zero s = refl
edges_along t nest (suc most) (suc number) s = edges_along t nest most (slice_index_or t.nexts number 0) (one_laid t nest number s)

-- laying edges moves not on
pub record Stays (before next : Laid) : Type 0 where
  pub here : next.here ≡ before.here
  pub overs : next.overs ≡ before.overs

laid_stays : (ending : Ending) (s : Laid) → Stays s (laid_by ending s)
laid_stays Goes s = record { here = refl; overs = refl }
laid_stays Done s = record { here = refl; overs = refl }
laid_stays (Trapped kind place) s = record { here = refl; overs = refl }
laid_stays (Gone place) s = record { here = refl; overs = refl }

to_stays : (lead : Lead) (ending : Ending) (s : Laid) → Stays s (laid_to lead ending s)
to_stays (On x) ending s = laid_stays ending s
to_stays (Over x) ending s = record { here = refl; overs = refl }

edge_stays : (t : Table) (nest : List Open) (e : ℕ) (edge : CodeEdge) (s : Laid) → Stays s (edge_laid t nest e edge s)
edge_stays t nest e edge s =
    let h = to_stays (lead_from t nest (way_in t e edge) 0) (ending_at t.endings edge.to) s in record { here = h.here; overs = h.overs }

one_is : (t : Table) (nest : List Open) (e : ℕ) (edge : CodeEdge) (s : Laid) → slice_get t.edges e ≡ Some edge
    → one_laid t nest e s ≡ edge_laid t nest e edge s
one_is t nest e edge s at = ap (λ (o : Option CodeEdge). one_laid_by t nest e o s) at

pub record ToldOn (p : CodeParts) (n : ℕ) (before next : Laid) (todo : List CopiedEdge) : Type 0 where
  pub told : Told p n next todo
  pub here : next.here ≡ before.here
  pub overs : next.overs ≡ before.overs

all_told : (p : CodeParts) (n l e : ℕ) (ks : List ℕ) (edges : List CodeEdge) (s : Laid) (todo : List CopiedEdge) → CanUnroll p n → IsSmall p n
    → drop e p.edges.items ≡ edges → IsCopyOf p n (copy l ks) → s.here < text_size (parts_of p) n
    → Told p n s (copied_edges n (plain_loops p) s.here e l ks (map (plain_edge p) edges) ++ todo)
    → ToldOn p n s (all_laid (table_in p n) (opens_from 0 (plain_loops p) l ks) (numbers_from l e edges) s) todo
all_told p n l e ks [] s todo can small at is low told = record { told = told; here = refl; overs = refl }
all_told p n l e ks (edge ∷ edges) s todo can small at is low told =
    by (edge.from == l) refl
    (λ r h low told. all_told p n l (suc e) ks edges r todo can small
    (drop_one e p.edges.items ∙ ap (λ (xs : List CodeEdge). drop 1 xs) at) is low told)
  where
    nest : List Open
    nest = opens_from 0 (plain_loops p) l ks

    stands : slice_get p.edges.items e ≡ Some edge
    stands = get_drop e p.edges.items ∙ ap (λ (xs : List CodeEdge). slice_get xs 0) at

    rest : ℕ → List CopiedEdge
    rest i = copied_edges n (plain_loops p) i (suc e) l ks (map (plain_edge p) edges)

    first : CopiedEdge
    first = record { from = s.here; to = target n (plain_loops p) e l edge.to ks; guard = (plain_edge p edge).guard; sets = (plain_edge p edge).sets }

    turned : (t : Bool) → (edge.from == l) ≡ t → Told p n s (cond t (first ∷ rest s.here) (rest s.here) ++ todo)
    turned t e = subst (λ (b : Bool). Told p n s (cond b (first ∷ rest s.here) (rest s.here) ++ todo)) e told

    by : (t : Bool) → (edge.from == l) ≡ t
        → ((r : Laid) → r.here ≡ s.here → r.here < text_size (parts_of p) n → Told p n r (rest r.here ++ todo)
        → ToldOn p n r (all_laid (table_in p n) nest (numbers_from l (suc e) edges) r) todo)
        → ToldOn p n s (all_laid (table_in p n) nest (cond (edge.from == l) (e ∷ numbers_from l (suc e) edges) (numbers_from l (suc e) edges)) s) todo
    by false f go = subst (λ (b : Bool). ToldOn p n s (all_laid (table_in p n) nest (cond b (e ∷ numbers_from l (suc e) edges) (numbers_from l (suc e) edges)) s) todo)
        (sym f) (go s refl low (turned false f))
    by true f go = subst (λ (b : Bool). ToldOn p n s (all_laid (table_in p n) nest (cond b (e ∷ numbers_from l (suc e) edges) (numbers_from l (suc e) edges)) s) todo)
        (sym f) (subst (λ (r : Laid). ToldOn p n s (all_laid (table_in p n) nest (numbers_from l (suc e) edges) r) todo)
        (sym (one_is (table_in p n) nest e edge s stands)) (on (edge_stays (table_in p n) nest e edge s)))
      where
        new : Laid
        new = edge_laid (table_in p n) nest e edge s

        on : Stays s new → ToldOn p n s (all_laid (table_in p n) nest (numbers_from l (suc e) edges) new) todo
        on stays =
            let h = go new stays.here (omega (arith, stays.here, low))
            (subst (λ (i : ℕ). Told p n new (rest i ++ todo)) (sym stays.here)
            (one_told p n l e ks edge s (rest s.here ++ todo) can small stands (eqb-true edge.from l f) is low (turned true f))) in
            record { told = h.told; here = h.here ∙ stays.here; overs = h.overs ∙ stays.overs }

froms_lie : (p : CodeParts) (heads : List ℕ) (edges : List CodeEdge) → length heads ≡ p.locations
    → AllByRecursion (λ (edge : Edge). (nat_lt edge.from p.locations && nat_lt edge.to p.locations) ≡ true) (map (plain_edge p) edges)
    → AllByRecursion (λ (edge : CodeEdge). edge.from < length heads) edges
froms_lie p heads [] long all = tt
froms_lie p heads (edge ∷ edges) long all = (
  subst (λ (m : ℕ). edge.from < m) (sym long)
      (ltb-true edge.from p.locations (and_parts (nat_lt edge.from p.locations) (nat_lt edge.to p.locations) all.0).0),
  froms_lie p heads edges long all.1,
)

pub chain_told : (p : CodeParts) (n l : ℕ) (ks : List ℕ) (s : Laid) (todo : List CopiedEdge) → CanUnroll p n → IsSmall p n
    → IsCopyOf p n (copy l ks) → s.here < text_size (parts_of p) n
    → Told p n s (copied_edges n (plain_loops p) s.here 0 l ks (parts_of p).edges ++ todo)
    → ToldOn p n s (edges_laid (table_in p n) (opens_from 0 (plain_loops p) l ks) (length p.edges.items) (slice_index_or (table_in p n).heads l 0) s) todo
chain_told p n l ks s todo can small is low told =
    subst (λ (r : Laid). ToldOn p n s r todo)
    (sym (edges_along (table_in p n) nest (length p.edges.items) (slice_index_or (table_in p n).heads l 0) s
    ∙ ap (λ (xs : List ℕ). all_laid (table_in p n) nest xs s) numbers))
    (all_told p n l 0 ks p.edges.items s todo can small refl is low told)
  where
    nest : List Open
    nest = opens_from 0 (plain_loops p) l ks

    numbers : along (table_in p n).nexts (length p.edges.items) (slice_index_or (table_in p n).heads l 0) ≡ numbers_from l 0 p.edges.items
    numbers = chain_is 0 p.edges.items (record { heads = replicate p.locations 0; nexts = replicate (length p.edges.items) 0 }) l (length p.edges.items)
        (λ k. zero_at k p.locations)
        (froms_lie p (replicate p.locations 0) p.edges.items (length-replicate {A = ℕ} p.locations 0) (lies p can.faultless))
        (omega (arith, length-replicate {A = ℕ} (length p.edges.items) 0)) (omega arith)

-- ---- one copy

-- what is laid, and what is left of the text, are the whole
pub record LaidTo (p : CodeParts) (n : ℕ) (s : Laid) (rest : List Copy) : Type 0 where
  pub left : drop s.here (whole_text (parts_of p) n) ≡ rest
  pub count : s.here + length rest ≡ text_size (parts_of p) n
  pub told : Told p n s (copied (parts_of p) n s.here rest)
  pub overs : map over_end_of s.overs ++ overs_of (parts_of p) s.here rest ≡ overs_of (parts_of p) 0 (whole_text (parts_of p) n)

moves : (p : CodeParts) (n here : ℕ) → IsSmall p n → here < text_size (parts_of p) n → capped (here + 1) ≡ suc here
moves p n here small low = exact MOST here (text_size (parts_of p) n) low (text_most p n small)
  where
    exact : (most here t : ℕ) → here < t → t ≤ most → min (here + 1) most ≡ suc here
    exact most here t lt le = omega (arith, lt, le)

-- behind the edges of a copy
moved_to : (p : CodeParts) (n : ℕ) (s next : Laid) (c : Copy) (rest : List Copy) → IsSmall p n → LaidTo p n s (c ∷ rest)
    → next.here ≡ s.here → Told p n next (copied (parts_of p) n (suc s.here) rest)
    → map over_end_of next.overs ++ overs_of (parts_of p) (suc s.here) rest ≡ overs_of (parts_of p) 0 (whole_text (parts_of p) n)
    → LaidTo p n (moved_on next) rest
moved_to p n s next c rest small laid here told overs = record {
  left = ap (λ (m : ℕ). drop m (whole_text (parts_of p) n)) number ∙ drop_one s.here (whole_text (parts_of p) n) ∙ ap (λ (xs : List Copy). drop 1 xs) laid.left;
  count = omega (arith, laid.count, number);
  told = subst (λ (m : ℕ). Told p n (moved_on next) (copied (parts_of p) n m rest)) (sym number)
      (record { done = told.done; edges = told.edges; traps = told.traps; deeds = told.deeds });
  overs = ap (λ (m : ℕ). map over_end_of next.overs ++ overs_of (parts_of p) m rest) number ∙ overs;
}
  where
    number : capped (next.here + 1) ≡ suc s.here
    number = ap (λ (m : ℕ). capped (m + 1)) here ∙ moves p n s.here small (omega (arith, laid.count))

-- an end where a bound is gone over
over_put_is : (p : CodeParts) (n : ℕ) (s : Laid) (place : Place) (rest : List OverEnd) → IsSmall p n → s.here < text_size (parts_of p) n
    → map over_end_of (over_put place s).overs ++ rest ≡ map over_end_of s.overs ++ (record { location = s.here; place = place } ∷ rest)
over_put_is p n s place rest small low =
    map_on over_end_of s.overs (record { location = narrow s.here; place = place }) rest
    ∙ ap (λ (m : ℕ). map over_end_of s.overs ++ (record { location = m; place = place } ∷ rest))
    (narrowed s.here (text_size (parts_of p) n) (few_copies p n small) (omega (arith, low)))

pub over_is_laid : (p : CodeParts) (n : ℕ) (s : Laid) (loop : Loop) (js : List ℕ) (rest : List Copy) → IsSmall p n
    → LaidTo p n s (beyond loop js ∷ rest) → LaidTo p n (over_laid loop.place s) rest
over_is_laid p n s loop js rest small laid =
    moved_to p n s (over_put loop.place s) (beyond loop js) rest small laid refl
    (let told = laid.told in record { done = told.done; edges = told.edges; traps = told.traps; deeds = told.deeds })
    (over_put_is p n s loop.place (overs_of (parts_of p) (suc s.here) rest) small (omega (arith, laid.count)) ∙ laid.overs)

pub copy_is_laid : (p : CodeParts) (n l : ℕ) (ks : List ℕ) (s : Laid) (rest : List Copy) → CanUnroll p n → IsSmall p n → l < p.locations
    → stands_in (parts_of p) l ≡ true → LaidTo p n s (copy l ks ∷ rest)
    → LaidTo p n (copy_laid (table_in p n) (opens_from 0 (plain_loops p) l ks) (slice_index_or (table_in p n).heads l 0)
    (ending_at (table_in p n).endings l) s) rest
copy_is_laid p n l ks s rest can small below stands laid =
    subst (λ (x : Ending). LaidTo p n (copy_laid (table_in p n) nest head x s) rest) (sym (endings_are p l below))
    (by (end_at (parts_of p) l) refl)
  where
    nest : List Open
    nest = opens_from 0 (plain_loops p) l ks

    head : ℕ
    head = slice_index_or (table_in p n).heads l 0

    low : s.here < text_size (parts_of p) n
    low = omega (arith, laid.count)

    is : IsCopyOf p n (copy l ks)
    is = (text_has_places (parts_of p) n s.here (copy l ks) can.faultless can.well_made (can.inlined).1
        (get_drop s.here (whole_text (parts_of p) n) ∙ ap (λ (xs : List Copy). slice_get xs 0) laid.left)).0

    weight : weight_of (ending_of (end_at (parts_of p) l)) ≡ 1
    weight = weighs p l ∙ ap (λ (b : Bool). cond b 1 0) stands

    none_weighs : ◌≡◌ {A = ℕ} 0 1 → ⊥
    none_weighs e = omega (arith, e)

    by : (x : Option End) → end_at (parts_of p) l ≡ x → LaidTo p n (copy_laid (table_in p n) nest head (ending_of (end_at (parts_of p) l)) s) rest
    by None e = subst (λ (x : Option End). LaidTo p n (copy_laid (table_in p n) nest head (ending_of x) s) rest) (sym e)
        (on (chain_told p n l ks s (copied (parts_of p) n (suc s.here) rest) can small is low laid.told))
      where
        next : Laid
        next = edges_laid (table_in p n) nest (length p.edges.items) head s

        on : ToldOn p n s next (copied (parts_of p) n (suc s.here) rest) → LaidTo p n (moved_on next) rest
        on h = moved_to p n s next (copy l ks) rest small laid h.here h.told
            (ap (λ (xs : List CodeOverEnd). map over_end_of xs ++ overs_of (parts_of p) (suc s.here) rest) h.overs
            ∙ ap (λ (x : Option End). map over_end_of s.overs ++ with_over x s.here (overs_of (parts_of p) (suc s.here) rest)) (sym e) ∙ laid.overs)
    by (Some (over place)) e = subst (λ (x : Option End). LaidTo p n (copy_laid (table_in p n) nest head (ending_of x) s) rest) (sym e)
        (on (chain_told p n l ks (over_put place s) (copied (parts_of p) n (suc s.here) rest) can small is low
        (let told = laid.told in record { done = told.done; edges = told.edges; traps = told.traps; deeds = told.deeds })))
      where
        next : Laid
        next = edges_laid (table_in p n) nest (length p.edges.items) head (over_put place s)

        on : ToldOn p n (over_put place s) next (copied (parts_of p) n (suc s.here) rest) → LaidTo p n (moved_on next) rest
        on h = moved_to p n s next (copy l ks) rest small laid h.here h.told
            (ap (λ (xs : List CodeOverEnd). map over_end_of xs ++ overs_of (parts_of p) (suc s.here) rest) h.overs
            ∙ over_put_is p n s place (overs_of (parts_of p) (suc s.here) rest) small low
            ∙ ap (λ (x : Option End). map over_end_of s.overs ++ with_over x s.here (overs_of (parts_of p) (suc s.here) rest)) (sym e) ∙ laid.overs)
    by (Some done) e = absurd (none_weighs (sym (ap (λ (x : Option End). weight_of (ending_of x)) e) ∙ weight))
    by (Some (trap kind place)) e = absurd (none_weighs (sym (ap (λ (x : Option End). weight_of (ending_of x)) e) ∙ weight))

-- a location behind the text is passed
pub behind_is_laid : (p : CodeParts) (n l : ℕ) (nest : List Open) (head : ℕ) (s : Laid) → l < p.locations → stands_in (parts_of p) l ≡ false
    → copy_laid (table_in p n) nest head (ending_at (table_in p n).endings l) s ≡ s
behind_is_laid p n l nest head s below off =
    ap (λ (x : Ending). copy_laid (table_in p n) nest head x s) (endings_are p l below) ∙ by (end_at (parts_of p) l) refl
  where
    weight : weight_of (ending_of (end_at (parts_of p) l)) ≡ 0
    weight = weighs p l ∙ ap (λ (b : Bool). cond b 1 0) off

    one_weighs : ◌≡◌ {A = ℕ} 1 0 → ⊥
    one_weighs e = omega (arith, e)

    by : (x : Option End) → end_at (parts_of p) l ≡ x → copy_laid (table_in p n) nest head (ending_of (end_at (parts_of p) l)) s ≡ s
    by None e = absurd (one_weighs (sym (ap (λ (x : Option End). weight_of (ending_of x)) e) ∙ weight))
    by (Some (over place)) e = absurd (one_weighs (sym (ap (λ (x : Option End). weight_of (ending_of x)) e) ∙ weight))
    by (Some done) e = ap (λ (x : Option End). copy_laid (table_in p n) nest head (ending_of x) s) e
    by (Some (trap kind place)) e = ap (λ (x : Option End). copy_laid (table_in p n) nest head (ending_of x) s) e
