-- What is so of the copies of called blocks: the statements of the laws.
use Rattle.std.specs.Prelude.{◌≡◌, ℕ, ◌+◌, ◌<◌, ◌≤◌, List, length, slice_get, true, false, All, Some}
use Rattle.std.specs.List.{AllByRecursion}
use Rattle.pv_machine.specs.Machines.{Values}
use Rattle.pv_flow.specs.Terms.{Term, Valuation, value_of}
use Rattle.pv_flow.specs.Automata.{Set, Edge, Loop, Parts, types_of, HasValues, edges_from, calls_from, ends_of}
use Rattle.pv_flow.specs.Faults.{enters_well, has_variables, IsFaultless}
use Rattle.pv_flow.specs.WellMade.{IsVariable, IsEdge, OneIsTrue, turns_well, leads_well, is_end, are_different, IsWellMade}
use Rattle.pv_flow.specs.Runs.{Outcome, assigned, run, control_of, first_spot}
use Rattle.pv_flow.specs.Calls.{Blocks, block_at, needed, Work, assigned_in, cleared, EndsAs}
use Rattle.pv_flow.specs.Fitting.{AreFitting, AreSound}
use Rattle.pv_flow.specs.Machines.{state_ranges, input_ranges, param_ranges, start_of, begin_at, left_of, IsInlined, inlined_machine}
use Rattle.pv_flow.specs.CallMachines.{IsMachineWithCalls}
use Rattle.pv_flow.specs.Correct.{Ends}
use Rattle.pv_call_copies.specs.Renaming.{renamed, renamed_sets, resets}
use Rattle.pv_call_copies.specs.Nests.{nests_control, first_nest}
use Rattle.pv_call_copies.specs.Inlined.{added, span, Body, Drawn, drawn, inlined_size, inlined}

-- ---- terms and sets

-- a renamed term has the value that the term has where each variable is read at its place
abbrev pub TermsAreRenamed : Type 0
TermsAreRenamed = (place : ℕ → ℕ) (w : Valuation) (t : Term) → value_of w (renamed place t) ≡ value_of (λ x. w (place x)) t

-- renamed sets do what the block's sets do
abbrev pub SetsAreRenamed : Type 0
SetsAreRenamed = (k : Work) (sets : List Set) (w : Valuation) → assigned (renamed_sets k.place sets) w ≡ assigned_in k sets w

-- what is set on the way in is what a call begins with
abbrev pub ResetsClear : Type 0
ResetsClear = (k : Work) (w : Valuation) → assigned (resets k) w ≡ cleared k w

-- ---- runs

-- the entry's run with calls is one of nests
abbrev pub CallsAreNests : Type 0
CallsAreNests = (blocks : Blocks) (n : ℕ) (p : Parts) (w : Valuation) (out : Outcome) → EndsAs blocks n p w out
    → (steps : ℕ) × (run (nests_control blocks n) steps (first_nest p) w ≡ Some out)

-- a run of nests is one of the automaton with copies, with as many steps
abbrev pub NestsAreCopies : Type 0
NestsAreCopies = (blocks : Blocks) (n b : ℕ) (p : Parts) (steps : ℕ) (w : Valuation) → AreFitting blocks → AreSound blocks
    → block_at blocks b ≡ Some p
    → run (nests_control blocks n) steps (first_nest p) w ≡ run (control_of (inlined blocks p) n) steps (first_spot (inlined blocks p)) w

-- so the entry's run with calls is one of it, with the same end and the same valuation
abbrev pub CallsAreCopies : Type 0
CallsAreCopies = (blocks : Blocks) (n b : ℕ) (p : Parts) (w : Valuation) (out : Outcome) → AreFitting blocks → AreSound blocks
    → block_at blocks b ≡ Some p → EndsAs blocks n p w out → (steps : ℕ) × Ends (inlined blocks p) n steps w out

-- and as its run ends, where variables have values of their types, so does the entry's with calls
abbrev pub CopiesAreCalls : Type 0
CopiesAreCalls = (blocks : Blocks) (n b : ℕ) (p : Parts) (steps : ℕ) (w : Valuation) (out : Outcome) → AreFitting blocks → AreSound blocks → 0 < n
    → block_at blocks b ≡ Some p → HasValues p w → Ends (inlined blocks p) n steps w out → EndsAs blocks n p w out

-- ---- parts

-- a call adds as many variables as it needs
abbrev pub VariablesAreNeeded : Type 0
VariablesAreNeeded = (blocks : Blocks) (b : ℕ) → length (added blocks b) ≡ needed blocks b

-- the automaton with copies has no fault and is well made
abbrev pub InlinedIsWellMade : Type 0
InlinedIsWellMade = (blocks : Blocks) (b : ℕ) (p : Parts) → AreFitting blocks → AreSound blocks → block_at blocks b ≡ Some p
    → IsFaultless (inlined blocks p) × IsWellMade (inlined blocks p)

-- it begins at `low` or after it, and before `high`
pub record IsFrom (low high : ℕ) (d : Drawn) : Type 0 where
  pub from : low ≤ d.from
  pub below : d.from < high

abbrev pub AreFrom : ℕ → ℕ → List Drawn → Type 0
AreFrom low high ds = AllByRecursion (IsFrom low high) ds

-- the edges of a copy, with those of all copies in it, begin in the part of the text that it takes
abbrev pub CopiesStand : Type 0
CopiesStand = (blocks : Blocks) (b : ℕ) (body : Body) → AreFitting blocks → block_at blocks b ≡ Some body.work.parts
    → AreFrom body.start (body.start + span blocks b) (drawn blocks b body)

-- the automaton with copies has no call edges
abbrev pub InlinedHasNoCalls : Type 0
InlinedHasNoCalls = (blocks : Blocks) (n : ℕ) (p : Parts) → 0 < n → IsInlined (inlined blocks p) n

-- what the parts of the automaton with copies mean is as it is in each that is well made: variables and edges are typed, and name variables
-- that there are; exactly one guard is true at each location with edges, no edge begins where something ends, and one does at each other
-- location; what ends has a location of its own, and where a scan begins it doesn't end
pub record AreMade (p : Parts) : Type 0 where
  pub variables : has_variables p ≡ true
  pub vars : All IsVariable p.vars
  pub counts : p.bound + p.shared ≤ length p.vars
  pub edges : All (IsEdge (types_of p)) p.edges
  pub guards : OneIsTrue p
  pub calls : (l : ℕ) → 0 < length (calls_from l p.calls) → length (calls_from l p.calls) + length (edges_from l p.edges) ≡ 1
  pub ends : (l : ℕ) → is_end p l ≡ true → length (calls_from l p.calls) + length (edges_from l p.edges) ≡ 0
  pub others : (l : ℕ) → l < p.locations → is_end p l ≡ false → 0 < length (calls_from l p.calls) + length (edges_from l p.edges)
  pub different : are_different (ends_of p) ≡ true
  pub begins : is_end p 0 ≡ false

-- of blocks that fit
abbrev pub PartsAreMade : Type 0
PartsAreMade = (blocks : Blocks) (b : ℕ) (p : Parts) → AreFitting blocks → AreSound blocks → block_at blocks b ≡ Some p
    → AreMade (inlined blocks p)

-- each edge enters the loop at its first location, if it does, and is a turn edge of it as one of its block's loops is
pub record AreEntered (p : Parts) (loop : Loop) : Type 0 where
  pub enters : (e : ℕ) (edge : Edge) → slice_get p.edges e ≡ Some edge → enters_well loop edge.from edge.to ≡ true
  pub turns : (e : ℕ) (edge : Edge) → slice_get p.edges e ≡ Some edge → turns_well loop e edge ≡ true

-- so it is of each loop of the automaton with copies
abbrev pub LoopsAreEntered : Type 0
LoopsAreEntered = (blocks : Blocks) (b : ℕ) (p : Parts) → AreFitting blocks → AreSound blocks → block_at blocks b ≡ Some p
    → All (AreEntered (inlined blocks p)) (inlined blocks p).loops

-- each edge leads forward, or back to the first location of a loop
abbrev pub EdgesLead : Type 0
EdgesLead = (blocks : Blocks) (b : ℕ) (p : Parts) → AreFitting blocks → AreSound blocks → block_at blocks b ≡ Some p → (e : ℕ) (edge : Edge)
    → slice_get (inlined blocks p).edges e ≡ Some edge → leads_well (inlined blocks p).loops (Some e) edge.from edge.to ≡ true

-- it has as many edges as are counted, of blocks that fit
abbrev pub EdgesAreCounted : Type 0
EdgesAreCounted = (blocks : Blocks) (b : ℕ) (p : Parts) → AreFitting blocks → AreSound blocks → block_at blocks b ≡ Some p
    → length (inlined blocks p).edges ≡ inlined_size blocks b

-- ---- what a machine is made of

-- what calls add is no part of states, inputs and parameters, and begins with 0
pub record KeepsVariables (blocks : Blocks) (p : Parts) : Type 0 where
  pub state : state_ranges (inlined blocks p).vars ≡ state_ranges p.vars
  pub input : input_ranges (inlined blocks p).vars ≡ input_ranges p.vars
  pub params : param_ranges (inlined blocks p).vars ≡ param_ranges p.vars
  pub start : (params : Values) → start_of (inlined blocks p).vars params ≡ start_of p.vars params
  pub begin : (state input : Values) → begin_at (inlined blocks p) state input ≡ begin_at p state input
  pub left : (state : Values) (w : Valuation) → left_of 0 (inlined blocks p).vars state w ≡ left_of 0 p.vars state w

-- so the automaton with copies begins with what the entry's begins with, and leaves what that leaves
abbrev pub VariablesStay : Type 0
VariablesStay = (blocks : Blocks) (p : Parts) → KeepsVariables blocks p

-- the machine of the automaton with copies is that of the entry with calls
abbrev pub InlinedHasTheMachine : Type 0
InlinedHasTheMachine = (blocks : Blocks) (n b : ℕ) (p : Parts) → AreFitting blocks → AreSound blocks → 0 < n
    → block_at blocks b ≡ Some p → IsMachineWithCalls blocks n p (inlined_machine (inlined blocks p) n)
