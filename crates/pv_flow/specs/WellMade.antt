-- What an automaton keeps besides that its numbers name something. The first group is what its parts mean. The second is local
-- and lets copies of its loops stand one after another, each edge leading forward: so each closed walk takes a turn edge of a loop
-- whose range holds the walk.
use Rattle.std.specs.Prelude.{◌≡◌, ℕ, ◌+◌, ◌<◌, ◌≤◌, List, [], ◌∷◌, length, slice_get, Bool as Truth, true, false, not, ◌&&◌, ◌||◌, ◌==◌, nat_lt, cond, IfSome, Option, Some, None, All}
use Rattle.std.specs.List.{list_any, list_all}
use Rattle.std.proofs.Props.{props}
use Rattle.pv_word.specs.declared.types.Ty.TheVariants.{Bool}
use Rattle.pv_word.specs.Types.{InRange}
use Rattle.pv_flow.specs.Terms.{Types, Valuation, type_of, IsTyped, IsTyped-prop, holds_in}
use Rattle.pv_flow.specs.Automata.{Variable, Set, Edge, Loop, Parts, types_of, HasValues, edges_from, calls_from, ends_of, holds, holds_loop, is_turn}

-- ---- parts

pub record IsVariable (v : Variable) : Type 0 where
  pub start : InRange v.ty v.start
  pub only : IfSome v.only (λ value. InRange v.ty value)

-- the set's term is of its variable's type
pub record IsSet (types : Types) (set : Set) : Type 0 where
  pub typed : IsTyped types set.value
  pub fits : type_of types set.value ≡ types set.variable

pub record IsEdge (types : Types) (edge : Edge) : Type 0 where
  pub guard : IsTyped types edge.guard
  pub condition : type_of types edge.guard ≡ Bool
  pub sets : All (IsSet types) edge.sets

-- how many of these edges have a true guard
abbrev pub true_guards : Valuation → List Edge → ℕ
true_guards w [] = 0
true_guards w (edge ∷ more) = cond (holds_in w edge.guard) (1 + true_guards w more) (true_guards w more)

-- at a location with edges exactly one guard is true, whatever values of their types the variables have
abbrev pub OneIsTrue : Parts → Type 0
OneIsTrue p = (l : ℕ) (w : Valuation) → HasValues p w → 0 < length (edges_from l p.edges)
    → true_guards w (edges_from l p.edges) ≡ 1

-- the location is one where a scan ends
abbrev pub is_end : Parts → ℕ → Truth
is_end p l = list_any (λ end. end == l) (ends_of p)

-- no two of these numbers are equal
abbrev pub are_different : List ℕ → Truth
are_different [] = true
are_different (n ∷ more) = not (list_any (λ m. m == n) more) && are_different more

-- ---- loops

-- along an edge from one location to another, with its number or, of a call edge, none
abbrev pub turns_by : Loop → Option ℕ → Truth
turns_by loop None = false
turns_by loop (Some e) = is_turn loop e

-- back to the first location of a loop that holds where it begins; where entering starts turn 1, it is a turn edge of it
abbrev pub leads_back : List Loop → Option ℕ → ℕ → ℕ → Truth
leads_back loops e from to =
    list_any (λ loop. (to == loop.first) && holds loop from && (not loop.entry_turn || turns_by loop e)) loops

-- each edge leads forward, or back so
abbrev pub leads_well : List Loop → Option ℕ → ℕ → ℕ → Truth
leads_well loops e from to = nat_lt from to || leads_back loops e from to

-- a turn edge begins and ends in the range, and ends at the first location where entering starts turn 1; where it doesn't, the turn
-- edges are exactly those that begin at the first location and end in the range
abbrev pub turns_well : Loop → ℕ → Edge → Truth
turns_well loop e edge = cond (is_turn loop e)
    (cond loop.entry_turn (holds loop edge.from && (edge.to == loop.first)) ((edge.from == loop.first) && holds loop edge.to))
    (loop.entry_turn || not ((edge.from == loop.first) && holds loop edge.to))

-- within a loop where entering starts no turn, no other begins at its first location
abbrev pub begins_alone : Loop → Loop → Truth
begins_alone loop other = loop.entry_turn || not ((other.first == loop.first) && holds_loop loop other)

-- no edge starts a turn of both
abbrev pub share_no_turn : Loop → Loop → Truth
share_no_turn loop other = not (list_any (λ e. is_turn other e) loop.turns)

-- the one stands before the other: it begins before, or is as long at least
abbrev pub stands_before : Loop → Loop → Truth
stands_before one other = nat_lt one.first other.first || ((one.first == other.first) && not (nat_lt one.last other.last))

pub record IsLoop (p : Parts) (loop : Loop) : Type 0 where
  pub range : loop.first ≤ loop.last
  pub turns : (e : ℕ) → IfSome (slice_get p.edges e) (λ edge. turns_well loop e edge ≡ true)
  -- a call edge is no turn edge, so it can't begin where each turn does
  pub calls : All (λ call. (loop.entry_turn || not (call.from == loop.first)) ≡ true) p.calls
  pub outside : list_all (λ end. not (holds loop end)) (ends_of p) ≡ true

pub record AreApart (loop other : Loop) : Type 0 where
  pub turns : share_no_turn loop other ≡ true
  pub firsts : begins_alone loop other ≡ true
  pub back : begins_alone other loop ≡ true
  pub order : stands_before loop other ≡ true

-- ---- the whole

pub record IsWellMade (p : Parts) : Type 0 where
  -- what the parts mean
  pub vars : All IsVariable p.vars
  pub counts : p.bound + p.shared ≤ length p.vars
  pub edges : All (IsEdge (types_of p)) p.edges
  pub guards : OneIsTrue p
  -- a call edge stands alone, an end has no edge, and every other location has one
  pub calls : (l : ℕ) → 0 < length (calls_from l p.calls) → length (calls_from l p.calls) + length (edges_from l p.edges) ≡ 1
  pub ends : (l : ℕ) → is_end p l ≡ true → length (calls_from l p.calls) + length (edges_from l p.edges) ≡ 0
  pub others : (l : ℕ) → l < p.locations → is_end p l ≡ false → 0 < length (calls_from l p.calls) + length (edges_from l p.edges)
  pub different : are_different (ends_of p) ≡ true
  -- where a scan begins it doesn't end
  pub begins : is_end p 0 ≡ false
  -- loops, and which way edges lead
  pub loops : All (IsLoop p) p.loops
  pub apart : (i j : ℕ) → i < j → IfSome (slice_get p.loops i) (λ loop. IfSome (slice_get p.loops j) (λ other. AreApart loop other))
  pub forward : (e : ℕ) → IfSome (slice_get p.edges e) (λ edge. leads_well p.loops (Some e) edge.from edge.to ≡ true)
  pub calls_forward : All (λ call. leads_well p.loops None call.from call.to ≡ true) p.calls

-- ---- facts that a struct may keep have one proof at most

IsSet-prop : (types : Types) (set : Set) → IsProp (IsSet types set)
IsSet-prop types set = hlevel (props, IsTyped-prop types set.value)

IsEdge-prop : (types : Types) (edge : Edge) → IsProp (IsEdge types edge)
IsEdge-prop types edge = hlevel (props, IsTyped-prop types edge.guard, IsSet-prop)

pub IsWellMade-prop : (p : Parts) → IsProp (IsWellMade p)
IsWellMade-prop p = hlevel (props, IsEdge-prop)
