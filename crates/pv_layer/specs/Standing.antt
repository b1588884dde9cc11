-- A layer stands for spots and loops: each list of its parts is that of their layout so far. Terms and deeds that come later change none
-- of it, as what is named stands in the tables already.
use Rattle.std.specs.Prelude.{◌≡◌, ℕ, suc, ◌+◌, ◌*◌, ◌<◌, ◌≤◌, List, [], ◌∷◌, ◌++◌, map, length, Bool, true, ◌&&◌, nat_lt, IfSome, Option, Some, None}
use Rattle.std.specs.List.{list_all, AllByRecursion}
use Rattle.pv_flow.specs.declared.parts.Parts.{Parts as CodeParts}
use Rattle.pv_flow.specs.declared.parts.Variable.{Variable as CodeVariable}
use Rattle.pv_flow.specs.declared.parts.Set.{Set as CodeSet}
use Rattle.pv_flow.specs.Terms.{Term}
use Rattle.pv_flow.specs.Automata.{Loop}
use Rattle.pv_flow.specs.View.{terms_of, term_at, set_of, edge_of, call_edge_of, loop_of, trap_end_of, variable_of}
use Rattle.pv_flow.specs.Tables.{AreTabled}
use Rattle.pv_layout.specs.Spots.{Check, Way, Spot, Act, Branch, true_term}
use Rattle.pv_layout.specs.Layout.{Head, checks_in, edges_of, calls_of, traps_of, marks_of, turned_loops}
use Rattle.pv_layer.specs.declared.types.Check.{Check as CodeCheck}
use Rattle.pv_layer.specs.declared.types.Way.{Way as CodeWay}
use Rattle.pv_layer.specs.declared.layer.Layer.{Layer}

-- how many terms and loops there are
abbrev pub terms_in : Layer → ℕ
terms_in layer = length layer.parts.nodes.items

abbrev pub loops_in : Layer → ℕ
loops_in layer = length layer.parts.loops.items

abbrev pub the_terms : Layer → List Term
the_terms layer = terms_of layer.parts.nodes.items

abbrev pub check_of : List Term → CodeCheck → Check
check_of terms check = record { fails = term_at terms check.fails; kind = check.kind; place = check.place }

abbrev pub way_of : List Term → CodeWay → Way
way_of terms way = record { to = way.to; sets = map (set_of terms) way.sets.items; turn = way.turn }

abbrev pub head_by : List CodeVariable → ℕ → ℕ → Head
head_by vars bound shared = record { vars = map variable_of vars; bound = bound; shared = shared }

-- each mark is that of one of the first n loops
abbrev pub AreNamed : ℕ → List (Option ℕ) → Type 0
AreNamed n marks = AllByRecursion (λ (mark : Option ℕ). IfSome mark (λ i. i < n)) marks

-- by the parts so far, the location of the next spot, and the number of the term TRUE
pub record Stands (head : Head) (done : ℕ) (spots : List Spot) (loops : List Loop) (p : CodeParts) (here yes : ℕ) : Type 0 where
  pub heads : head_by p.vars.items p.bound p.shared ≡ head
  pub ends_at : p.done ≡ done
  pub location : here ≡ length spots
  pub made : map (edge_of (terms_of p.nodes.items) p.deeds.items) p.edges.items ≡ edges_of done 0 0 spots
  pub calling : map call_edge_of p.calls.items ≡ calls_of 0 spots
  pub ends : map trap_end_of p.traps.items ≡ traps_of done 0 spots
  pub turning : map loop_of p.loops.items ≡ turned_loops (marks_of spots) 0 loops
  -- a loop comes before the ways that start its turns
  pub named : AreNamed (length loops) (marks_of spots)
  pub count : p.locations ≡ done + suc (checks_in spots)
  pub none_over : p.overs.items ≡ []
  -- each edge has a deed of its own
  pub owned : length p.deeds.items ≡ length p.edges.items
  pub tabled : AreTabled p
  pub true_is : term_at (terms_of p.nodes.items) yes ≡ true_term
  pub true_there : yes < length p.nodes.items

abbrev pub StandsFor : Head → ℕ → List Spot → List Loop → Layer → Type 0
StandsFor head done spots loops layer = Stands head done spots loops layer.parts layer.here layer.yes

-- ---- what a push does

-- what it stood for it stands for still
abbrev pub Stays : Layer → Layer → Type 0
Stays old new = (head : Head) (done : ℕ) (spots : List Spot) (loops : List Loop)
    → StandsFor head done spots loops old → StandsFor head done spots loops new

-- and for this spot behind the others
abbrev pub Lays : Layer → Layer → Spot → Type 0
Lays old new spot = (head : Head) (done : ℕ) (spots : List Spot) (loops : List Loop)
    → StandsFor head done spots loops old → StandsFor head done (spots ++ spot ∷ []) loops new

-- and for this loop behind the others
abbrev pub Opens : Layer → Layer → Loop → Type 0
Opens old new loop = (head : Head) (done : ℕ) (spots : List Spot) (loops : List Loop)
    → StandsFor head done spots loops old → StandsFor head done spots (loops ++ loop ∷ []) new

abbrev pub act_of : List Term → List CodeCheck → CodeWay → Spot
act_of terms checks way = Act (map (check_of terms) checks) (way_of terms way)

abbrev pub branch_of : List Term → List CodeCheck → ℕ → CodeWay → CodeWay → Spot
branch_of terms checks condition one other =
    Branch (map (check_of terms) checks) (term_at terms condition) (way_of terms one) (way_of terms other)

-- the terms so far stay, and so many follow
pub record KeepsTerms (old new : Layer) (more : ℕ) : Type 0 where
  pub count : terms_in new ≡ terms_in old + more
  pub same : (i : ℕ) → i < terms_in old → term_at (the_terms new) i ≡ term_at (the_terms old) i

-- ---- what a push asks

-- a spot is still to come
pub record HasSpot (layer : Layer) : Type 0 where
  pub spot : layer.here < layer.parts.done
  pub fits : layer.here < 4294967295

-- what it names is among so many terms and loops
abbrev pub checks_below : ℕ → List CodeCheck → Bool
checks_below n checks = list_all (λ check. nat_lt check.fails n) checks

abbrev pub sets_below : ℕ → List CodeSet → Bool
sets_below n sets = list_all (λ set. nat_lt set.value n) sets

abbrev pub turn_below : ℕ → Option ℕ → Bool
turn_below n None = true
turn_below n (Some i) = nat_lt i n

abbrev pub way_below : ℕ → ℕ → CodeWay → Bool
way_below terms loops way = sets_below terms way.sets.items && turn_below loops way.turn

-- the numbers of what comes with so many checks lie in 32 bits
pub record HasRoom (layer : Layer) (checks : ℕ) : Type 0 where
  pub nodes : length layer.parts.nodes.items + 3 * checks + 3 ≤ 4294967295
  pub deeds : length layer.parts.deeds.items + checks + 2 ≤ 4294967295
  pub edges : length layer.parts.edges.items + checks + 2 ≤ 4294967295
  pub locations : layer.parts.locations + checks ≤ 4294967295

-- ---- what a part of a push leaves alone

pub record LeavesRest (old new : Layer) : Type 0 where
  pub vars : new.parts.vars.items ≡ old.parts.vars.items
  pub bound : new.parts.bound ≡ old.parts.bound
  pub shared : new.parts.shared ≡ old.parts.shared
  pub done : new.parts.done ≡ old.parts.done
  pub overs : new.parts.overs.items ≡ old.parts.overs.items
  pub calls : new.parts.calls.items ≡ old.parts.calls.items
  pub here : new.here ≡ old.here
  pub yes : new.yes ≡ old.yes

abbrev pub LeavesLoops : Layer → Layer → Type 0
LeavesLoops old new = new.parts.loops.items ≡ old.parts.loops.items

pub record LeavesTables (old new : Layer) : Type 0 where
  pub nodes : new.parts.nodes.items ≡ old.parts.nodes.items
  pub traps : new.parts.traps.items ≡ old.parts.traps.items
  pub locations : new.parts.locations ≡ old.parts.locations
