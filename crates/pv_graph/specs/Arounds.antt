-- What marks show of nodes each of which has a root: that it leads to the node, and the node to it.
use Rattle.std.specs.Prelude.{◌≡◌, ℕ, Bool as Truth, true, false, List, slice_index_or}
use Rattle.pv_graph.specs.Members.{Has}
use Rattle.pv_graph.specs.Graphs.{next_of, Leads}
use Rattle.pv_graph.specs.Searches.{Marks}
use Rattle.pv_graph.specs.declared.cycles.Around.{Around}

-- each step of the second graph is one of the first, back
abbrev pub AreBack : List (List ℕ) → List (List ℕ) → Type 0
AreBack g back = (a b : ℕ) → Has (next_of back b) a → Has (next_of g a) b

-- to each marked node its root leads
abbrev pub AreLed : List (List ℕ) → List ℕ → List Truth → Type 0
AreLed g roots marks = (a : ℕ) → slice_index_or marks a false ≡ true → Leads g (slice_index_or roots a 0) a

-- each marked node leads to its root
abbrev pub AreLeading : List (List ℕ) → List ℕ → List Truth → Type 0
AreLeading g roots marks = (a : ℕ) → slice_index_or marks a false ≡ true → Leads g a (slice_index_or roots a 0)

-- what was seen is led to by its root, and what is still to be left was seen
pub record IsSpread (g : List (List ℕ)) (roots : List ℕ) (m : Marks) : Type 0 where
  pub led : AreLed g roots m.seen
  pub queued : (a : ℕ) → Has m.work a → slice_index_or m.seen a false ≡ true

-- both marks of a graph
pub record AreAround (g : List (List ℕ)) (roots : List ℕ) (around : Around) : Type 0 where
  pub led : AreLed g roots around.led.items
  pub leading : AreLeading g roots around.leading.items
