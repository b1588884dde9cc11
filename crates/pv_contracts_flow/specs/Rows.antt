-- What the parts of the rows are.
use Rattle.std.specs.Prelude.{◌≡◌, ℕ, ◌≤◌, pos, List, [], ◌∷◌, length, Option, Some}
use Rattle.pv_word.specs.declared.types.Ty.TheVariants.{Bool}
use Rattle.pv_flow.specs.declared.term.Node.TheVariants as node
use Rattle.pv_flow.specs.declared.parts.Parts.{Parts}
use Rattle.pv_flow.specs.declared.parts.Edge.{Edge}
use Rattle.pv_flow.specs.declared.parts.CallEdge.{CallEdge}
use Rattle.pv_flow.specs.declared.parts.Deed.{Deed}
use Rattle.pv_flow.specs.declared.parts.Set.{Set}
use Rattle.pv_flow.specs.declared.parts.Loop.{Loop}
use Rattle.pv_call_tables.specs.Wanted.{MOST}

-- so many locations, of which one is the end, and nothing else
pub record IsBare (n end : ℕ) (p : Parts) : Type 0 where
  pub nodes : p.nodes.items ≡ []
  pub deeds : p.deeds.items ≡ []
  pub vars : p.vars.items ≡ []
  pub bound : p.bound ≡ 0
  pub shared : p.shared ≡ 0
  pub locations : p.locations ≡ n
  pub edges : p.edges.items ≡ []
  pub calls : p.calls.items ≡ []
  pub loops : p.loops.items ≡ []
  pub done : p.done ≡ end
  pub traps : p.traps.items ≡ []
  pub overs : p.overs.items ≡ []

-- one block of such parts, with no more locations than 32 bits number
pub record IsBareBlock (blocks : List (Option Parts)) : Type 0 where
  pub parts : Parts
  pub locations : ℕ
  pub end : ℕ
  pub block : blocks ≡ Some parts ∷ []
  pub bare : IsBare locations end parts
  pub few : locations ≤ MOST

-- a loop from the first location to the last, with an entry turn alone
pub record IsLoopOf (from to : ℕ) (loop : Loop) : Type 0 where
  pub first : loop.first ≡ from
  pub last : loop.last ≡ to
  pub turns : loop.turns.items ≡ []

-- the deed's guard is the first of the terms
pub record IsDeedOf (values : List Set) (deed : Deed) : Type 0 where
  pub guard : deed.guard ≡ 0
  pub sets : deed.sets.items ≡ values

abbrev pub edge : ℕ → ℕ → Edge
edge from to = record { from = from; to = to; deed = 0 }

-- loops of these ranges, one by one
abbrev pub AreLoopsOf : List (ℕ × ℕ) → List Loop → Type 0
AreLoopsOf [] [] = Unit {0}
AreLoopsOf [] (loop ∷ loops) = ⊥
AreLoopsOf (range ∷ ranges) [] = ⊥
AreLoopsOf (range ∷ ranges) (loop ∷ loops) = IsLoopOf range.0 range.1 loop × AreLoopsOf ranges loops

pub record IsEdgePast (p : Parts) : Type 0 where
  pub locations : p.locations ≡ 2
  pub edges : p.edges.items ≡ edge 0 2 ∷ []

-- the first of the deeds has these sets
abbrev pub BeginWith : List Set → List Deed → Type 0
BeginWith sets [] = ⊥
BeginWith sets (deed ∷ deeds) = IsDeedOf sets deed

pub record IsSetPast (p : Parts) : Type 0 where
  pub vars : length p.vars.items ≡ 3
  pub deeds : BeginWith ((record { variable = 3; value = 0 }) ∷ []) p.deeds.items
  pub edges : p.edges.items ≡ edge 0 1 ∷ []

abbrev pub IsCrossing : Parts → Type 0
IsCrossing p = AreLoopsOf ((0, 2) ∷ (1, 3) ∷ []) p.loops.items

pub record IsEnteredWithin (p : Parts) : Type 0 where
  pub edges : p.edges.items ≡ edge 3 1 ∷ []
  pub loops : AreLoopsOf ((0, 2) ∷ []) p.loops.items

-- one deed, without sets
abbrev pub IsBareDeed : List Deed → Type 0
IsBareDeed [] = ⊥
IsBareDeed (deed ∷ []) = IsDeedOf [] deed
IsBareDeed (deed ∷ other ∷ deeds) = ⊥

-- two locations, and an edge from the one to the other, whose guard is TRUE
pub record IsOneEdge (p : Parts) : Type 0 where
  pub nodes : p.nodes.items ≡ node.Constant Bool (pos 1) ∷ []
  pub deeds : IsBareDeed p.deeds.items
  pub vars : p.vars.items ≡ []
  pub bound : p.bound ≡ 0
  pub shared : p.shared ≡ 0
  pub locations : p.locations ≡ 2
  pub edges : p.edges.items ≡ edge 0 1 ∷ []
  pub calls : p.calls.items ≡ []
  pub loops : p.loops.items ≡ []
  pub done : p.done ≡ 1
  pub traps : p.traps.items ≡ []
  pub overs : p.overs.items ≡ []

abbrev pub run : CallEdge
run = record { from = 0; to = 1; block = 0; instance = 0; place = record { file = 0; offset = 0 } }

-- two locations, and a call edge from the one to the other, which runs block 0
pub record IsOneCall (p : Parts) : Type 0 where
  pub nodes : p.nodes.items ≡ []
  pub deeds : p.deeds.items ≡ []
  pub vars : p.vars.items ≡ []
  pub bound : p.bound ≡ 0
  pub shared : p.shared ≡ 0
  pub locations : p.locations ≡ 2
  pub edges : p.edges.items ≡ []
  pub calls : p.calls.items ≡ run ∷ []
  pub loops : p.loops.items ≡ []
  pub done : p.done ≡ 1
  pub traps : p.traps.items ≡ []
  pub overs : p.overs.items ≡ []
