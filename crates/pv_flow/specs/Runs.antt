-- Runs. A control says at which states of it a run ends, and which ways lead on from the others; of the ways the first is taken
-- whose guard is true. An automaton is a control whose states are its locations with a count for each loop: how many of its turns
-- have started since it was entered.
use Rattle.std.specs.Prelude.{ℕ, zero, suc, ◌+◌, ◌*◌, ℤ, List, [], ◌∷◌, slice_get, Bool, true, false, not, ◌&&◌, ◌==◌, nat_le, cond, Option, Some, None}
use Rattle.pv_place.specs.declared.place.Place.{Place}
use Rattle.pv_place.specs.declared.trap.TrapKind.{TrapKind}
use Rattle.pv_flow.specs.Terms.{Term, Valuation, value_of, holds_in}
use Rattle.pv_flow.specs.Automata.{Set, Edge, Loop, TrapEnd, OverEnd, Parts, holds, is_turn}

-- ---- sets

-- the valuation in which variable n has this value
abbrev pub put : Valuation → ℕ → ℤ → Valuation
put w n v = λ x. cond (x == n) v (w x)

-- all terms are read in the old valuation; of two sets of one variable the later one stands
abbrev pub set_over : Valuation → List Set → Valuation → Valuation
set_over old [] w = w
set_over old (set ∷ sets) w = set_over old sets (put w set.variable (value_of old set.value))

abbrev pub assigned : List Set → Valuation → Valuation
assigned sets w = set_over w sets w

-- ---- ends

-- what a state of the control ends, if it ends a run
pub data End : Type 0 where
  done : End
  trap : TrapKind → Place → End
  over : Place → End

-- how a run ends
pub data Outcome : Type 0 where
  done_with : Valuation → Outcome
  trapped : TrapKind → Place → Outcome
  gone_over : Place → Outcome

abbrev pub outcome_of : End → Valuation → Outcome
outcome_of done w = done_with w
outcome_of (trap kind place) w = trapped kind place
outcome_of (over place) w = gone_over place

-- ---- controls

pub record Way (X : Type 0) : Type 0 where
  pub guard : Term
  pub sets : List Set
  pub to : X

pub record Control (X : Type 0) : Type 0 where
  pub exit : X → Option End
  pub ways : X → List (Way X)

-- the first whose guard is true
abbrev pub taken : {X : Type 0} → Valuation → List (Way X) → Option (Way X)
taken w [] = None
taken w (way ∷ more) = elim (holds_in w way.guard) [ true ↦ Some way | false ↦ taken w more ]

abbrev pub ended : Option End → Valuation → Option Outcome
ended None w = None
ended (Some end) w = Some (outcome_of end w)

-- the end, or what follows the way that is taken; where none is taken the run stays without end
abbrev pub ended_or : {X : Type 0} → Option End → Option (Way X) → Valuation → (Way X → Option Outcome) → Option Outcome
ended_or (Some end) way w next = Some (outcome_of end w)
ended_or None None w next = None
ended_or None (Some way) w next = next way

-- the outcome of the run from a state with a valuation that takes so many ways at most, if it ends by then: ends are asked before ways
abbrev pub run : {X : Type 0} → Control X → ℕ → X → Valuation → Option Outcome
run c zero x w = ended (c.exit x) w
run c (suc n) x w = ended_or (c.exit x) (taken w (c.ways x)) w (λ way. run c n way.to (assigned way.sets w))

-- ---- automata as controls

-- how many turns of each loop have started, by its number
abbrev pub Counts : Type 0
Counts = ℕ → ℕ

pub data Spot : Type 0 where
  at : ℕ → Counts → Spot
  -- where a loop's bound was gone over
  past : Place → Spot

-- the count with which a loop is entered from outside
abbrev pub entry_count : Loop → ℕ
entry_count loop = cond loop.entry_turn 1 0

-- the count of a loop where an edge leads to, by whether the loop holds that location, and the one from which it leads
abbrev pub kept : Bool → Bool → ℕ → ℕ → ℕ
kept false from count entry = 0
kept true false count entry = entry
kept true true count entry = count

abbrev pub kept_in : Option Loop → (Loop → Bool) → ℕ → ℕ → ℕ
kept_in None from to count = 0
kept_in (Some loop) from to count = kept (holds loop to) (from loop) count (entry_count loop)

-- along an edge from one location to another
abbrev pub moved : List Loop → ℕ → ℕ → Counts → Counts
moved loops from to counts = λ i. kept_in (slice_get loops i) (λ loop. holds loop from) to (counts i)

-- at a location that is entered from outside of all loops
abbrev pub entered : List Loop → ℕ → Counts
entered loops to = λ i. kept_in (slice_get loops i) (λ loop. false) to 0

abbrev pub turn_in : Option Loop → ℕ → ℕ
turn_in None e = 0
turn_in (Some loop) e = cond (is_turn loop e) 1 0

-- taking edge e starts a turn of each loop of which it is a turn edge
abbrev pub turned : List Loop → ℕ → Counts → Counts
turned loops e counts = λ i. counts i + turn_in (slice_get loops i) e

-- the first loop of which edge e would start turn N + 1; the loops are numbered from i on
abbrev pub over_of : ℕ → ℕ → Counts → ℕ → List Loop → Option Place
over_of n e counts i [] = None
over_of n e counts i (loop ∷ more) =
    elim (is_turn loop e && nat_le n (counts i)) [ true ↦ Some loop.place | false ↦ over_of n e counts (suc i) more ]

abbrev pub past_or : Option Place → Spot → Spot
past_or None spot = spot
past_or (Some place) spot = past place

-- where edge e from one location to another leads, with loop bound N
abbrev pub led : List Loop → ℕ → ℕ → ℕ → ℕ → Counts → Spot
led loops n e from to counts = past_or (over_of n e counts 0 loops) (at to (turned loops e (moved loops from to counts)))

abbrev pub way_of : List Loop → ℕ → ℕ → Counts → ℕ → Edge → Way Spot
way_of loops n l counts e edge = record { guard = edge.guard; sets = edge.sets; to = led loops n e l edge.to counts }

-- the ways from a location, by the edges that begin there; the edges are numbered from e on
abbrev pub ways_by : List Loop → ℕ → ℕ → Counts → ℕ → List Edge → List (Way Spot)
ways_by loops n l counts e [] = []
ways_by loops n l counts e (edge ∷ more) = cond (edge.from == l)
    (way_of loops n l counts e edge ∷ ways_by loops n l counts (suc e) more)
    (ways_by loops n l counts (suc e) more)

abbrev pub trap_at : ℕ → List TrapEnd → Option End
trap_at l [] = None
trap_at l (end ∷ more) = cond (end.location == l) (Some (trap end.kind end.place)) (trap_at l more)

abbrev pub over_at : ℕ → List OverEnd → Option End
over_at l [] = None
over_at l (end ∷ more) = cond (end.location == l) (Some (over end.place)) (over_at l more)

abbrev pub or_else : Option End → Option End → Option End
or_else None other = other
or_else (Some end) other = Some end

-- what a location ends
abbrev pub end_at : Parts → ℕ → Option End
end_at p l = cond (p.done == l) (Some done) (or_else (trap_at l p.traps) (over_at l p.overs))

abbrev pub exit_of : Parts → Spot → Option End
exit_of p (at l counts) = end_at p l
exit_of p (past place) = Some (over place)

abbrev pub ways_of : Parts → ℕ → Spot → List (Way Spot)
ways_of p n (at l counts) = ways_by p.loops n l counts 0 p.edges
ways_of p n (past place) = []

-- the automaton with loop bound N; its call edges are no ways
abbrev pub control_of : Parts → ℕ → Control Spot
control_of p n = record { exit = exit_of p; ways = ways_of p n }

-- where each run begins
abbrev pub first_spot : Parts → Spot
first_spot p = at 0 (entered p.loops 0)

-- ---- how long runs are

-- how many copies of a location unrolling the loops makes: N for each that holds it, and, where entering starts no turn, one more of
-- the first location
abbrev pub copies_in : ℕ → Loop → ℕ → ℕ
copies_in n loop l = cond (holds loop l) (cond (not loop.entry_turn && (loop.first == l)) (n + 1) n) 1

abbrev pub copies_at : ℕ → List Loop → ℕ → ℕ
copies_at n [] l = 1
copies_at n (loop ∷ more) l = copies_in n loop l * copies_at n more l

-- of the first so many locations
abbrev pub copies : ℕ → List Loop → ℕ → ℕ
copies n loops zero = 0
copies n loops (suc l) = copies n loops l + copies_at n loops l
