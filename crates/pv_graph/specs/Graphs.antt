-- Graphs: for each node, counted from 0, the nodes that it leads to at once; steps from node to node, and chains of so many steps.
use Rattle.std.specs.Prelude.{ℕ, zero, suc, ◌<◌, ◌≤◌, List, [], map, length, slice_index_or}
use Rattle.pv_graph.specs.Members.{HasSome, Has}
use Rattle.pv_graph.specs.declared.targets.Targets.{Targets}

abbrev pub lists_of : List Targets → List (List ℕ)
lists_of targets = map (λ t. t.list.items) targets

-- a number that is no node leads nowhere
abbrev pub next_of : List (List ℕ) → ℕ → List ℕ
next_of g a = slice_index_or g a []

-- steps lead from the one node to the other, which may be the same
pub data Leads (g : List (List ℕ)) : ℕ → ℕ → Type 0 where
  here : {a : ℕ} → Leads g a a
  by : {a b c : ℕ} → Has (next_of g a) b → Leads g b c → Leads g a c

-- one of these leads to the node
abbrev pub LeadFrom : List (List ℕ) → List ℕ → ℕ → Type 0
LeadFrom g starts to = HasSome (λ a. Leads g a to) starts

-- a chain of so many steps from node to node, which may meet one again, ends at the node
abbrev pub EndsAt : List (List ℕ) → ℕ → ℕ → Type 0
EndsAt g zero a = a < length g
EndsAt g (suc n) a = (b : ℕ) × EndsAt g n b × Has (next_of g b) a × (a < length g)

-- nodes have numbers that no step raises
abbrev pub Falls : List (List ℕ) → List ℕ → Type 0
Falls g order = (a b : ℕ) → Has (next_of g a) b → slice_index_or order b 0 ≤ slice_index_or order a 0
