-- Automata as plain data: locations by number, the first of which is 0, and edges between them, each with a guard and with what it
-- assigns. A call edge runs another block's automaton. A loop is a range of locations with the edges that start its turns.
use Rattle.std.specs.Prelude.{ℕ, ℤ, List, [], ◌∷◌, ◌++◌, map, length, slice_get, Bool as Truth, ◌&&◌, ◌==◌, nat_le, cond, Option, Some, None}
use Rattle.std.specs.List.{list_any}
use Rattle.pv_word.specs.declared.types.Ty.{Ty}
use Rattle.pv_word.specs.declared.types.Ty.TheVariants.{Bool}
use Rattle.pv_place.specs.declared.place.Place.{Place}
use Rattle.pv_place.specs.declared.trap.TrapKind.{TrapKind}
use Rattle.pv_place.specs.declared.role.Role.{Role}
use Rattle.pv_flow.specs.Terms.{Term, Valuation, Types, AreTyped}

pub record Variable : Type 0 where
  pub ty : Ty
  pub role : Role
  -- its value before the first scan, or, of a brief one, at each scan's beginning
  pub start : ℤ
  -- of a parameter, the one value that it may have, if the case binds it
  pub only : Option ℤ

-- a variable takes the value of a term
pub record Set : Type 0 where
  pub variable : ℕ
  pub value : Term

pub record Edge : Type 0 where
  pub from : ℕ
  pub to : ℕ
  pub guard : Term
  -- all at once; of two sets of one variable the later one stands
  pub sets : List Set

-- the block of this number runs; its bound variables are the caller's from `instance` on
pub record CallEdge : Type 0 where
  pub from : ℕ
  pub to : ℕ
  pub block : ℕ
  pub instance : ℕ
  pub place : Place

-- the locations from the first to the last; whether entering from outside starts turn 1; the numbers of the edges whose taking
-- starts a turn
pub record Loop : Type 0 where
  pub first : ℕ
  pub last : ℕ
  pub entry_turn : Truth
  pub turns : List ℕ
  pub place : Place

-- the location where a scan ends by a trap
pub record TrapEnd : Type 0 where
  pub location : ℕ
  pub kind : TrapKind
  pub place : Place

-- the location where a scan ends that went over a loop's bound
pub record OverEnd : Type 0 where
  pub location : ℕ
  pub place : Place

-- The variables are, in this order, the bound ones, which a caller's call edge says where they lie, the shared ones, which all
-- blocks have, and the block's own. Of the entry's automaton bound and shared ones are the visible cells in the order of the table.
pub record Parts : Type 0 where
  pub vars : List Variable
  -- how many are bound, and how many shared
  pub bound : ℕ
  pub shared : ℕ
  pub locations : ℕ
  pub edges : List Edge
  pub calls : List CallEdge
  pub loops : List Loop
  pub done : ℕ
  pub traps : List TrapEnd
  pub overs : List OverEnd

-- ---- what stands where

-- the type of each variable; of a number that names none, BOOL
abbrev pub type_in : Option Variable → Ty
type_in None = Bool
type_in (Some v) = v.ty

abbrev pub type_at : List Variable → ℕ → Ty
type_at vars n = type_in (slice_get vars n)

abbrev pub types_of : Parts → Types
types_of p = type_at p.vars

-- the automaton's variables have values of their types
abbrev pub HasValues : Parts → Valuation → Type 0
HasValues p w = AreTyped (length p.vars) (types_of p) w

-- the edges that begin at a location, in the order of their numbers
abbrev pub edges_from : ℕ → List Edge → List Edge
edges_from l [] = []
edges_from l (edge ∷ more) = cond (edge.from == l) (edge ∷ edges_from l more) (edges_from l more)

abbrev pub calls_from : ℕ → List CallEdge → List CallEdge
calls_from l [] = []
calls_from l (call ∷ more) = cond (call.from == l) (call ∷ calls_from l more) (calls_from l more)

-- the locations where a scan ends
abbrev pub ends_of : Parts → List ℕ
ends_of p = p.done ∷ map (λ trap. trap.location) p.traps ++ map (λ over. over.location) p.overs

-- ---- loops

-- the location lies in the loop's range
abbrev pub holds : Loop → ℕ → Truth
holds loop l = nat_le loop.first l && nat_le l loop.last

-- taking the edge of this number starts a turn of the loop
abbrev pub is_turn : Loop → ℕ → Truth
is_turn loop e = list_any (λ n. n == e) loop.turns

-- the range of the inner one lies in that of the outer one
abbrev pub holds_loop : Loop → Loop → Truth
holds_loop outer inner = nat_le outer.first inner.first && nat_le inner.last outer.last
