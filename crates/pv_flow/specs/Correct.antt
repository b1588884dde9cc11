-- What is so of all automata and their runs: the statements of the laws.
use Rattle.std.specs.Prelude.{◌≡◌, ◌≢◌, ℕ, ◌+◌, ◌≤◌, ◌<◌, ◌⊎◌, Bool as Truth, true, false, List, ◌∷◌, length, Option, Some, None, IfSome, All, ◌==◌}
use Rattle.std.specs.List.{list_any}
use Rattle.pv_word.specs.Types.{InRange}
use Rattle.pv_machine.specs.Machines.{IsLawful}
use Rattle.pv_flow.specs.Terms.{Term, Valuation, value_of, Types, type_of, IsTyped, AreTyped, names_below}
use Rattle.pv_flow.specs.Automata.{Edge, Parts, types_of, HasValues}
use Rattle.pv_flow.specs.Faults.{has_variables, IsFaultless}
use Rattle.pv_flow.specs.WellMade.{IsVariable, IsEdge, IsWellMade}
use Rattle.pv_flow.specs.Runs.{Outcome, done_with, Spot, run, control_of, first_spot, copies}
use Rattle.pv_flow.specs.Calls.{Blocks, block_at, needed_within, needed, Work, entry_work, Numbered, callee_work, cleared, Stage, running, ComesTo, EndsAs}
use Rattle.pv_flow.specs.Fitting.{IsFit, AreFitting, AreSound}
use Rattle.pv_flow.specs.Walks.{Hop, IsClosedWalk, TakesTurn}
use Rattle.pv_flow.specs.Machines.{Attached, IsAttached, IsInlined, IsAcyclic, machine_of}

-- the edge sets variable x
abbrev pub sets_variable : ℕ → Edge → Truth
sets_variable x edge = list_any (λ set. set.variable == x) edge.sets

-- a typed term over variables that have values of their types has a value of its type
abbrev pub TermsAreTyped : Type 0
TermsAreTyped = (n : ℕ) (types : Types) (w : Valuation) (t : Term) → AreTyped n types w → names_below n t ≡ true → IsTyped types t
    → InRange (type_of types t) (value_of w t)

-- the outcome of an automaton's run, with a loop bound and so many steps
abbrev pub Ends : Parts → ℕ → ℕ → Valuation → Outcome → Type 0
Ends p n steps w out = run (control_of p n) steps (first_spot p) w ≡ Some out

-- a run whose edges are typed leaves typed variables
abbrev pub RunsKeepTypes : Type 0
RunsKeepTypes = (p : Parts) (n steps : ℕ) (w end : Valuation) → has_variables p ≡ true → All (IsEdge (types_of p)) p.edges
    → HasValues p w → Ends p n steps w (done_with end) → HasValues p end

-- with more steps the outcome stays
abbrev pub MoreStepsChangeNothing : Type 0
MoreStepsChangeNothing = (p : Parts) (n steps more : ℕ) (w : Valuation) (out : Outcome) → steps ≤ more
    → Ends p n steps w out → Ends p n more w out

-- a run has one outcome, whatever steps it may take
abbrev pub RunsEndOnce : Type 0
RunsEndOnce = (p : Parts) (n steps others : ℕ) (w : Valuation) (a b : Outcome) → Ends p n steps w a → Ends p n others w b → a ≡ b

-- a run ends within as many steps as there are copies of locations
abbrev pub RunsEnd : Type 0
RunsEnd = (p : Parts) (n : ℕ) (w : Valuation) → IsFaultless p → IsWellMade p → IsInlined p n → HasValues p w
    → run (control_of p n) (copies n p.loops p.locations) (first_spot p) w ≢ None

-- one of an acyclic automaton within as many as there are locations
abbrev pub AcyclicRunsEnd : Type 0
AcyclicRunsEnd = (p : Parts) (w : Valuation) → IsFaultless p → IsWellMade p → IsAcyclic p → HasValues p w
    → run (control_of p 1) p.locations (first_spot p) w ≢ None

-- a variable that no edge sets keeps its value
abbrev pub UntouchedStay : Type 0
UntouchedStay = (p : Parts) (n steps x : ℕ) (w end : Valuation) → All (λ edge. sets_variable x edge ≡ false) p.edges
    → Ends p n steps w (done_with end) → end x ≡ w x

-- ---- runs with calls

-- a run with calls has one outcome at most
abbrev pub CallsEndOnce : Type 0
CallsEndOnce = (blocks : Blocks) (n : ℕ) (k : Work) (s : Stage) (a b : Outcome) → ComesTo blocks n k s a → ComesTo blocks n k s b → a ≡ b

-- where no block calls itself, levels of calls beyond the number of blocks add no variables
abbrev pub MoreLevelsChangeNothing : Type 0
MoreLevelsChangeNothing = (blocks : Blocks) (levels b : ℕ) → AreFitting blocks → length blocks ≤ levels
    → needed_within blocks levels b ≡ needed blocks b

-- a run of a block of blocks that fit has an outcome
abbrev pub CallsEnd : Type 0
CallsEnd = (blocks : Blocks) (n b : ℕ) (p : Parts) (w : Valuation) → AreFitting blocks → AreSound blocks → 0 < n
    → block_at blocks b ≡ Some p → HasValues p w → (out : Outcome) × EndsAs blocks n p w out

-- and leaves typed variables
abbrev pub CallsKeepTypes : Type 0
CallsKeepTypes = (blocks : Blocks) (n b : ℕ) (p : Parts) (w end : Valuation) → AreFitting blocks → AreSound blocks → 0 < n
    → block_at blocks b ≡ Some p → HasValues p w → EndsAs blocks n p w (done_with end) → HasValues p end

-- ---- what calls leave alone

-- a place below the first number that neither the block at work nor its callers use, and where none of the block's variables lies
pub record IsBeside (k : Work) (y : ℕ) : Type 0 where
  pub below : y < k.free
  pub apart : (x : ℕ) → k.place x ≢ y

-- a run with calls that is done leaves such a place its value
abbrev pub CallsLeaveOthers : Type 0
CallsLeaveOthers = (blocks : Blocks) (n : ℕ) (k : Work) (x : Spot) (w end : Valuation) (y : ℕ) → IsBeside k y
    → ComesTo blocks n k (running x w) (done_with end) → end y ≡ w y

-- the block's variables lie below its first free number, and where one of its own lies no other does
pub record IsPlaced (k : Work) : Type 0 where
  pub below : (x : ℕ) → x < length k.parts.vars → k.place x < k.free
  pub own : (x z : ℕ) → k.parts.bound + k.parts.shared ≤ x → x < length k.parts.vars → z < length k.parts.vars
      → k.place z ≡ k.place x → z ≡ x

-- so do the entry's, and where a caller's do, those of a block that it calls
pub record WorksArePlaced : Type 0 where
  pub entry : (p : Parts) → IsPlaced (entry_work p)
  pub callee : (blocks : Blocks) (k : Work) (c : Numbered) (p : Parts) → IsPlaced k → IsFit k.parts c.call p
      → k.parts.bound + k.parts.shared ≤ length k.parts.vars → IsPlaced (callee_work blocks k c p)

-- a call that is done leaves its caller's own variables their values, but for those that it has as bound ones
abbrev pub OwnVariablesStay : Type 0
OwnVariablesStay = (blocks : Blocks) (n : ℕ) (k : Work) (c : Numbered) (p : Parts) (w end : Valuation) (x : ℕ) → IsPlaced k
    → IsFit k.parts c.call p → k.parts.bound + k.parts.shared ≤ x → x < length k.parts.vars
    → (x < c.call.instance) ⊎ (c.call.instance + p.bound ≤ x)
    → ComesTo blocks n (callee_work blocks k c p) (running (first_spot p) (cleared (callee_work blocks k c p) w)) (done_with end)
    → end (k.place x) ≡ w (k.place x)

-- ---- machines, walks

-- the machine of an automaton with typed parts is lawful
abbrev pub MachinesAreLawful : Type 0
MachinesAreLawful = (p : Parts) (n steps : ℕ) (attached : Option Attached) → has_variables p ≡ true → All IsVariable p.vars
    → All (IsEdge (types_of p)) p.edges → IfSome attached (IsAttached p) → IsLawful (machine_of p n steps attached)

-- a closed walk takes a turn edge of a loop whose range holds it
abbrev pub ClosedWalksTakeTurns : Type 0
ClosedWalksTakeTurns = (p : Parts) (l : ℕ) (hop : Hop) (hops : List Hop) → IsFaultless p → IsWellMade p → IsClosedWalk p l (hop ∷ hops)
    → TakesTurn p (hop ∷ hops)
