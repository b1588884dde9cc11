-- What is known of each edge and call edge of a text whose spots and loops keep what a flow's do: where it leads, and how it meets loops.
use Rattle.std.proofs.Common.{◌≡◌, ℕ, zero, suc, ◌+◌, ◌<◌, ◌≤◌, ◌⊎◌, inl, inr, List, [], ◌∷◌, length, slice_get, Bool as Truth, true, false, not, ◌&&◌, ◌||◌, ◌==◌, nat_lt, IfSome, Option, Some, None, All, subst, ap, ◌∙◌, arith}
use Rattle.std.specs.List.{AllByRecursion, list_any}
use Rattle.std.proofs.lemmas.Bool.{eq-eqb, lt-ltb, and_from, or_left, or_right}
use Rattle.std.proofs.lemmas.List.Elements.{recursion_from_All}
use Rattle.std.proofs.lemmas.Option.{none-some, same_Some}
use Rattle.pv_flow.specs.Terms.{Types}
use Rattle.pv_flow.specs.Automata.{Edge, CallEdge, Loop, holds}
use Rattle.pv_flow.specs.WellMade.{leads_back, leads_well, turns_by}
use Rattle.pv_layout.specs.Spots.{Spot, Act, Branch, Enter}
use Rattle.pv_layout.specs.Layout.{Text, checks_in, edges_of, calls_of, marks_of, is_marked, turns_of, with_turns, turned_loops}
use Rattle.pv_layout.specs.Sound.{EachWay, LeadsWithin, LeadsBack, IsLed, FitsLoop, SpotFits, LiesWithin, IsTypedSpot, IsSoundText}
use Rattle.pv_layout.proofs.Marks.{turn_is_marked, turned_at}
use Rattle.pv_layout.proofs.Lists.{some_at}
use Rattle.pv_layout.proofs.PartRuns.{is_below}
use Rattle.pv_layout.proofs.Each.{EachFrom, each_index, each_by}
use Rattle.pv_layout.proofs.Fits.{past_fits}
use Rattle.pv_layout.proofs.Along.{Along, IsMarkedAt, along_index, along_spots, IfCall, calls_all}

-- ---- a text

pub at_index : {X : Type 0} (P : ℕ → X → Type 0) (xs : List X) (i : ℕ) (x : X) → EachFrom P 0 xs → slice_get xs i ≡ Some x → P i x
at_index {X} P xs i x h here = subst (λ (k : ℕ). P k x) (omega arith) (each_index P 0 xs i x h here)

pub all_at : {X : Type 0} (P : X → Type 0) (xs : List X) (i : ℕ) (x : X) → AllByRecursion P xs → slice_get xs i ≡ Some x → P x
all_at P [] i x all here = absurd (none-some x here)
all_at {X} P (y ∷ xs) zero x all here = subst (λ (z : X). P z) (same_Some y x here) all.0
all_at P (y ∷ xs) (suc i) x all here = all_at P xs i x all.1 here

-- ---- an edge

-- from location l to another, with its mark; loop k is the one of number 0 + k
pub record IsSoundEdge (text : Text) (l to : ℕ) (mark : Option ℕ) : Type 0 where
  pub from : l < length text.spots
  pub aims : to < length text.spots + suc (checks_in text.spots)
  pub led : IsLed text.loops l to mark
  pub fits : (k : ℕ) (loop : Loop) → slice_get text.loops k ≡ Some loop → FitsLoop (0 + k) loop l to mark

pub record IsSoundCall (n : ℕ) (text : Text) (l to instance : ℕ) : Type 0 where
  pub edge : IsSoundEdge text l to None
  pub alone : (k : ℕ) (loop : Loop) → slice_get text.loops k ≡ Some loop → (loop.entry_turn || not (l == loop.first)) ≡ true
  pub room : instance ≤ n

abbrev SpotFitsAll : Text → ℕ → Spot → Type 0
SpotFitsAll text l spot = (k : ℕ) (loop : Loop) → slice_get text.loops k ≡ Some loop → SpotFits (0 + k) loop l spot

-- at a text's element
pub some_all : {X : Type 0} (P : X → Type 0) (xs : List X) (i : ℕ) (x : X) → All P xs → slice_get xs i ≡ Some x → P x
some_all P xs i x all here = all_at P xs i x (recursion_from_All P xs all) here

spot_fits : (n : ℕ) (types : Types) (text : Text) → IsSoundText n types text → (i : ℕ) (spot : Spot) → slice_get text.spots i ≡ Some spot
    → SpotFitsAll text i spot
spot_fits n types text sound i spot here k loop there = subst (λ (m : ℕ). SpotFits m loop i spot) (omega arith)
    (some_at (SpotFits k loop i) (slice_get text.spots i) spot here
    (some_at (λ (other : Loop). IfSome (slice_get text.spots i) (SpotFits k other i)) (slice_get text.loops k) loop there (sound.fits k i)))

sound_edge : (text : Text) (l to : ℕ) (mark : Option ℕ) → l < length text.spots → to ≤ length text.spots → IsLed text.loops l to mark
    → ((k : ℕ) (loop : Loop) → slice_get text.loops k ≡ Some loop → FitsLoop (0 + k) loop l to mark) → IsSoundEdge text l to mark
sound_edge text l to mark lt le led fits = record { from = lt; aims = omega (arith, le); led = led; fits = fits }

sound_ways : (text : Text) (l : ℕ) (spot : Spot) → l < length text.spots → LeadsWithin (length text.spots) spot
    → EachWay (IsLed text.loops l) spot → SpotFitsAll text l spot → EachWay (IsSoundEdge text l) spot
sound_ways text l (Act checks on) lt leads led fits =
    sound_edge text l on.to on.turn lt leads led (λ k loop here. (fits k loop here).ways)
sound_ways text l (Branch checks c one other) lt leads led fits = (
  sound_edge text l one.to one.turn lt leads.0 led.0 (λ k loop here. ((fits k loop here).ways).0),
  sound_edge text l other.to other.turn lt leads.1 led.1 (λ k loop here. ((fits k loop here).ways).1),
)
sound_ways text l (Enter block instance place to) lt leads led fits =
    sound_edge text l to None lt leads led (λ k loop here. (fits k loop here).ways)

-- to a check's trap
trap_edge_sound : (n : ℕ) (types : Types) (text : Text) → IsSoundText n types text → (l s : ℕ) → l < length text.spots
    → s < checks_in text.spots → IsSoundEdge text l (length text.spots + suc s) None
trap_edge_sound n types text sound l s lt below = record {
  from = lt;
  aims = omega (arith, below);
  led = inl (omega (arith, lt));
  fits = λ k loop here. past (0 + k) loop (some_all (LiesWithin (length text.spots)) text.loops k loop sound.loops here);
}
  where
    past : (k : ℕ) (loop : Loop) → LiesWithin (length text.spots) loop → FitsLoop k loop l (length text.spots + suc s) None
    past k loop is = past_fits k loop l (length text.spots + suc s) (let high = is.high in omega (arith, high))

pub sound_at : (n : ℕ) (types : Types) (text : Text) → IsSoundText n types text → (i : ℕ) (spot : Spot) → slice_get text.spots i ≡ Some spot
    → EachWay (IsSoundEdge text i) spot
sound_at n types text sound i spot here = sound_ways text i spot
    (is_below text.spots i spot here)
    (some_at (LeadsWithin (length text.spots)) (slice_get text.spots i) spot here (sound.leads i))
    (some_at (EachWay (IsLed text.loops i)) (slice_get text.spots i) spot here (sound.led i)) (spot_fits n types text sound i spot here)

-- all edges with their marks
pub edges_along : (n : ℕ) (types : Types) (text : Text) → IsSoundText n types text
    → Along (IsSoundEdge text) (edges_of (length text.spots) 0 0 text.spots) (marks_of text.spots)
edges_along n types text sound = along_spots (IsSoundEdge text) (length text.spots) 0 0 text.spots
    (λ m s from below low high. trap_edge_sound n types text sound m s (omega (arith, below)) (omega (arith, high)))
    (each_by (λ m spot. EachWay (IsSoundEdge text m) spot) 0 text.spots
    (λ i spot here. subst (λ (m : ℕ). EachWay (IsSoundEdge text m) spot) (omega arith) (sound_at n types text sound i spot here)))

pub edge_at : (n : ℕ) (types : Types) (text : Text) → IsSoundText n types text → (e : ℕ) (edge : Edge)
    → slice_get (edges_of (length text.spots) 0 0 text.spots) e ≡ Some edge → IsMarkedAt (IsSoundEdge text) (marks_of text.spots) e edge
edge_at n types text sound e edge here = along_index (IsSoundEdge text) (edges_of (length text.spots) 0 0 text.spots)
    (marks_of text.spots) e edge
    (edges_along n types text sound) here

-- ---- a call

call_at : (n : ℕ) (types : Types) (text : Text) (l : ℕ) (spot : Spot) → EachWay (IsSoundEdge text l) spot → SpotFitsAll text l spot
    → IsTypedSpot n types spot → IfCall (IsSoundCall n text) l spot
call_at n types text l (Act checks on) way fits typed = tt
call_at n types text l (Branch checks c one other) way fits typed = tt
call_at n types text l (Enter block instance place to) way fits typed =
    record { edge = way; alone = λ k loop here. (fits k loop here).call; room = typed }

pub calls_sound : (n : ℕ) (types : Types) (text : Text) → IsSoundText n types text
    → AllByRecursion (λ (call : CallEdge). IsSoundCall n text call.from call.to call.instance) (calls_of 0 text.spots)
calls_sound n types text sound = calls_all (IsSoundCall n text) 0 text.spots
    (each_by (IfCall (IsSoundCall n text)) 0 text.spots (λ i spot here.
    subst (λ (m : ℕ). IfCall (IsSoundCall n text) m spot) (omega arith)
    (call_at n types text i spot (sound_at n types text sound i spot here) (spot_fits n types text sound i spot here)
    (some_all (IsTypedSpot n types) text.spots i spot sound.typed here))))

-- ---- which way it leads

any_at : {X : Type 0} (test : X → Truth) (xs : List X) (i : ℕ) (x : X) → slice_get xs i ≡ Some x → test x ≡ true → list_any test xs ≡ true
any_at test [] i x here so = absurd (none-some x here)
any_at {X} test (y ∷ xs) zero x here so =
    or_left (test y) (list_any test xs) (ap test (same_Some y x here) ∙ so)
any_at test (y ∷ xs) (suc i) x here so = or_right (test y) (list_any test xs) (any_at test xs i x here so)

back_in : (marks : List (Option ℕ)) (loops : List Loop) (e : Option ℕ) (mark : Option ℕ) (l to : ℕ) → (b : LeadsBack loops mark l to)
    → ((b.loop).entry_turn ≡ false) ⊎ (turns_by (with_turns b.loop (turns_of (0 + b.number) 0 marks)) e ≡ true)
    → leads_back (turned_loops marks 0 loops) e l to ≡ true
back_in marks loops e mark l to b turn = any_at
    (λ loop. (to == loop.first) && holds loop l && (not loop.entry_turn || turns_by loop e)) (turned_loops marks 0 loops) b.number
    (with_turns b.loop (turns_of (0 + b.number) 0 marks)) (turned_at marks 0 loops b.number b.loop b.stands)
    (and_from ((to == (b.loop).first) && holds b.loop l)
    (not (b.loop).entry_turn || turns_by (with_turns b.loop (turns_of (0 + b.number) 0 marks)) e)
    (and_from (to == (b.loop).first) (holds b.loop l) (eq-eqb to (b.loop).first b.first) b.held) (either turn))
  where
    either : ((b.loop).entry_turn ≡ false) ⊎ (turns_by (with_turns b.loop (turns_of (0 + b.number) 0 marks)) e ≡ true)
        → (not (b.loop).entry_turn || turns_by (with_turns b.loop (turns_of (0 + b.number) 0 marks)) e) ≡ true
    either (inl off) = or_left (not (b.loop).entry_turn) (turns_by (with_turns b.loop (turns_of (0 + b.number) 0 marks)) e) (ap not off)
    either (inr on) = or_right (not (b.loop).entry_turn) (turns_by (with_turns b.loop (turns_of (0 + b.number) 0 marks)) e) on

pub edge_leads : (marks : List (Option ℕ)) (loops : List Loop) (e : ℕ) (mark : Option ℕ) (l to : ℕ) → slice_get marks e ≡ Some mark
    → IsLed loops l to mark → leads_well (turned_loops marks 0 loops) (Some e) l to ≡ true
edge_leads marks loops e mark l to here (inl lt) = or_left (nat_lt l to) (leads_back (turned_loops marks 0 loops) (Some e) l to)
    (lt-ltb l to lt)
edge_leads marks loops e mark l to here (inr b) = or_right (nat_lt l to) (leads_back (turned_loops marks 0 loops) (Some e) l to)
    (back_in marks loops (Some e) mark l to b (by b.turn))
  where
    by : ((b.loop).entry_turn ≡ false) ⊎ (mark ≡ Some b.number)
        → ((b.loop).entry_turn ≡ false) ⊎ (turns_by (with_turns b.loop (turns_of (0 + b.number) 0 marks)) (Some e) ≡ true)
    by (inl off) = inl off
    by (inr same) = inr (turn_is_marked b.loop (0 + b.number) marks e mark here
        ∙ (ap (λ (m : Option ℕ). is_marked (0 + b.number) m) same ∙ eq-eqb b.number (0 + b.number) (omega arith)))

pub call_leads : (marks : List (Option ℕ)) (loops : List Loop) (l to : ℕ) → IsLed loops l to None
    → leads_well (turned_loops marks 0 loops) None l to ≡ true
call_leads marks loops l to (inl lt) = or_left (nat_lt l to) (leads_back (turned_loops marks 0 loops) None l to) (lt-ltb l to lt)
call_leads marks loops l to (inr b) = or_right (nat_lt l to) (leads_back (turned_loops marks 0 loops) None l to)
    (back_in marks loops None None l to b (by b.turn))
  where
    by : ((b.loop).entry_turn ≡ false) ⊎ (None ≡ Some b.number)
        → ((b.loop).entry_turn ≡ false) ⊎ (turns_by (with_turns b.loop (turns_of (0 + b.number) 0 marks)) None ≡ true)
    by (inl off) = inl off
    by (inr same) = absurd (none-some b.number same)
