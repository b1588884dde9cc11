-- The faults that an automaton may have, of which the first counts: a location that there isn't; a variable that there isn't; a loop
-- whose edges there aren't, that crosses another, or that an edge enters elsewhere than at its first location.
use Rattle.std.specs.Prelude.{◌≡◌, ℕ, length, Bool, true, false, not, ◌&&◌, ◌||◌, ◌==◌, nat_lt, nat_le}
use Rattle.std.specs.List.{list_all}
use Rattle.pv_flow.specs.declared.fault.FlowFault.{FlowFault}
use Rattle.pv_flow.specs.declared.fault.FlowFault.TheVariants.{BadLocation, BadVariable, BadLoop, NoMemory}
use Rattle.pv_flow.specs.Terms.{names_below}
use Rattle.pv_flow.specs.Automata.{Set, Edge, Loop, Parts, holds, holds_loop}

-- ---- locations

-- the locations where scans end
abbrev pub has_ends : Parts → Bool
has_ends p =
    nat_lt p.done p.locations
    && list_all (λ trap. nat_lt trap.location p.locations) p.traps
    && list_all (λ over. nat_lt over.location p.locations) p.overs

-- each location that is named is one of these many; there is one at least, since `done` names it
abbrev pub has_locations : Parts → Bool
has_locations p =
    list_all (λ edge. nat_lt edge.from p.locations && nat_lt edge.to p.locations) p.edges
    && list_all (λ call. nat_lt call.from p.locations && nat_lt call.to p.locations) p.calls
    && list_all (λ loop. nat_lt loop.first p.locations && nat_lt loop.last p.locations) p.loops
    && has_ends p

-- ---- variables

-- a set names variables below n alone, on both sides
abbrev pub set_below : ℕ → Set → Bool
set_below n set = nat_lt set.variable n && names_below n set.value

abbrev pub edge_below : ℕ → Edge → Bool
edge_below n edge = names_below n edge.guard && list_all (set_below n) edge.sets

-- a callee without bound variables has them nowhere: `instance` may be the number behind the last variable
abbrev pub has_variables : Parts → Bool
has_variables p =
    list_all (edge_below (length p.vars)) p.edges
    && list_all (λ call. nat_le call.instance (length p.vars)) p.calls

-- ---- loops

-- neither holds the other, and some location lies in both
abbrev pub cross : Loop → Loop → Bool
cross a b = nat_le a.first b.last && nat_le b.first a.last && not (holds_loop a b) && not (holds_loop b a)

-- an edge that begins outside the loop ends outside it, or at its first location
abbrev pub enters_well : Loop → ℕ → ℕ → Bool
enters_well loop from to = holds loop from || not (holds loop to) || (to == loop.first)

abbrev pub is_entered_well : Parts → Loop → Bool
is_entered_well p loop =
    list_all (λ edge. enters_well loop edge.from edge.to) p.edges
    && list_all (λ call. enters_well loop call.from call.to) p.calls

abbrev pub is_loop : Parts → Loop → Bool
is_loop p loop =
    list_all (λ e. nat_lt e (length p.edges)) loop.turns
    && list_all (λ other. not (cross loop other)) p.loops
    && is_entered_well p loop

abbrev pub has_loops : Parts → Bool
has_loops p = list_all (is_loop p) p.loops

-- ---- the first of the three

pub record IsFaultless (p : Parts) : Type 0 where
  pub locations : has_locations p ≡ true
  pub variables : has_variables p ≡ true
  pub loops : has_loops p ≡ true

-- the fault is the first that the parts have; running out of memory may come with any
abbrev pub IsFaultOf : Parts → FlowFault → Type 0
IsFaultOf p BadLocation = has_locations p ≡ false
IsFaultOf p BadVariable = (has_locations p ≡ true) × (has_variables p ≡ false)
IsFaultOf p BadLoop = (has_locations p ≡ true) × (has_variables p ≡ true) × (has_loops p ≡ false)
IsFaultOf p NoMemory = Unit {0}
