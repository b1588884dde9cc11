-- Sound texts: spots and loops of which an automaton can be made, whether or not they are those of a flow. Of each way it is said where it
-- leads and how it meets each loop, of each loop where it lies, and of two loops how they lie to one another.
use Rattle.std.specs.Prelude.{◌≡◌, ℕ, ◌<◌, ◌≤◌, ◌⊎◌, List, length, slice_get, Bool as Truth, true, false, not, ◌&&◌, ◌||◌, ◌==◌, cond, IfSome, Option, Some, None, All}
use Rattle.pv_flow.specs.Terms.{Types}
use Rattle.pv_flow.specs.Automata.{Loop, holds}
use Rattle.pv_flow.specs.Faults.{cross, enters_well}
use Rattle.pv_flow.specs.WellMade.{begins_alone, stands_before}
use Rattle.pv_layout.specs.Spots.{Way, Spot, Act, Branch, Enter}
use Rattle.pv_layout.specs.Layout.{Text, is_marked}
use Rattle.pv_layout.specs.Bodies.{IsCondition, AreChecks, AreSets}

-- ---- ways

-- each way of the spot, by where it leads and the loop of which it starts a turn; after a call it starts none
abbrev pub EachWay : (ℕ → Option ℕ → Type 0) → Spot → Type 0
EachWay P (Act checks on) = P on.to on.turn
EachWay P (Branch checks c one other) = P one.to one.turn × P other.to other.turn
EachWay P (Enter block instance place to) = P to None

-- each leads to a spot, or where it is done
abbrev pub LeadsWithin : ℕ → Spot → Type 0
LeadsWithin done (Act checks on) = on.to ≤ done
LeadsWithin done (Branch checks c one other) = (one.to ≤ done) × (other.to ≤ done)
LeadsWithin done (Enter block instance place to) = to ≤ done

abbrev pub LeadWithin : Text → Type 0
LeadWithin text = (l : ℕ) → IfSome (slice_get text.spots l) (LeadsWithin (length text.spots))

-- back to the first location of a loop that holds where it begins, as a turn of it where entering starts one
pub record LeadsBack (loops : List Loop) (mark : Option ℕ) (l to : ℕ) : Type 0 where
  pub number : ℕ
  pub loop : Loop
  pub stands : slice_get loops number ≡ Some loop
  pub first : to ≡ loop.first
  pub held : holds loop l ≡ true
  pub turn : (loop.entry_turn ≡ false) ⊎ (mark ≡ Some number)

-- from location l on, or back so
abbrev pub IsLed : List Loop → ℕ → ℕ → Option ℕ → Type 0
IsLed loops l to mark = (l < to) ⊎ LeadsBack loops mark l to

-- ---- ways and loops

-- whether it may start a turn of the loop, or may not, as `turns_well` of pv_flow has it
abbrev pub turn_fits : Loop → ℕ → ℕ → Truth → Truth
turn_fits loop l to turn = cond turn
    (cond loop.entry_turn (holds loop l && (to == loop.first)) ((l == loop.first) && holds loop to))
    (loop.entry_turn || not ((l == loop.first) && holds loop to))

-- the way from location l, and loop k
pub record FitsLoop (k : ℕ) (loop : Loop) (l to : ℕ) (mark : Option ℕ) : Type 0 where
  pub enters : enters_well loop l to ≡ true
  pub turns : turn_fits loop l to (is_marked k mark) ≡ true

-- a call begins at the first location of no loop that begins a turn there
abbrev pub CallFits : Loop → ℕ → Spot → Type 0
CallFits loop l (Act checks on) = Unit {0}
CallFits loop l (Branch checks c one other) = Unit {0}
CallFits loop l (Enter block instance place to) = (loop.entry_turn || not (l == loop.first)) ≡ true

-- the spot at location l, and loop k
pub record SpotFits (k : ℕ) (loop : Loop) (l : ℕ) (spot : Spot) : Type 0 where
  pub ways : EachWay (FitsLoop k loop l) spot
  pub call : CallFits loop l spot

-- ---- loops

-- it isn't empty, and lies among so many spots
pub record LiesWithin (spots : ℕ) (loop : Loop) : Type 0 where
  pub range : loop.first ≤ loop.last
  pub high : loop.last < spots

-- the one before the other
pub record IsPair (x y : Loop) : Type 0 where
  pub firsts : begins_alone x y ≡ true
  pub back : begins_alone y x ≡ true
  pub order : stands_before x y ≡ true
  pub clear : cross x y ≡ false
  pub clear_back : cross y x ≡ false

-- ---- types

-- over the first n variables
pub record IsTypedWay (n : ℕ) (types : Types) (on : Way) : Type 0 where
  pub sets : AreSets n types on.sets

abbrev pub IsTypedSpot : ℕ → Types → Spot → Type 0
IsTypedSpot n types (Act checks on) = AreChecks n types checks × IsTypedWay n types on
IsTypedSpot n types (Branch checks c one other) =
    AreChecks n types checks × IsCondition n types c × IsTypedWay n types one × IsTypedWay n types other
IsTypedSpot n types (Enter block instance place to) = instance ≤ n

-- ---- the whole

pub record IsSoundText (n : ℕ) (types : Types) (text : Text) : Type 0 where
  -- a scan doesn't end where it begins
  pub some : 0 < length text.spots
  pub leads : LeadWithin text
  pub led : (l : ℕ) → IfSome (slice_get text.spots l) (EachWay (IsLed text.loops l))
  pub fits : (k l : ℕ) → IfSome (slice_get text.loops k) (λ loop. IfSome (slice_get text.spots l) (SpotFits k loop l))
  pub loops : All (LiesWithin (length text.spots)) text.loops
  pub pairs : (i j : ℕ) → i < j → IfSome (slice_get text.loops i) (λ one. IfSome (slice_get text.loops j) (IsPair one))
  pub typed : All (IsTypedSpot n types) text.spots
