-- Walks along edges and call edges. A closed one takes a turn of a loop that holds it, so turns are all that goes round.
use Rattle.std.specs.Prelude.{◌≡◌, ℕ, List, [], ◌∷◌, slice_get, Bool, true, false, ◌&&◌, ◌==◌, Option, Some, None}
use Rattle.std.specs.List.{list_any, list_all}
use Rattle.pv_flow.specs.Automata.{Edge, Loop, Parts, holds}
use Rattle.pv_flow.specs.WellMade.{turns_by}

-- from one location to the next, by the edge of this number or by a call edge
pub record Hop : Type 0 where
  pub from : ℕ
  pub to : ℕ
  pub edge : Option ℕ

abbrev pub is_between : ℕ → ℕ → Option Edge → Bool
is_between from to None = false
is_between from to (Some edge) = (edge.from == from) && (edge.to == to)

abbrev pub leads_by : Parts → Option ℕ → ℕ → ℕ → Bool
leads_by p None from to = list_any (λ call. (call.from == from) && (call.to == to)) p.calls
leads_by p (Some e) from to = is_between from to (slice_get p.edges e)

-- the hops lead from the first location to the second, one after another
abbrev pub Follows : ℕ → List Hop → ℕ → Type 0
Follows l [] m = l ≡ m
Follows l (hop ∷ hops) m = (hop.from ≡ l) × Follows hop.to hops m

-- a walk of the automaton from a location back to it
pub record IsClosedWalk (p : Parts) (l : ℕ) (hops : List Hop) : Type 0 where
  pub leads : list_all (λ hop. leads_by p hop.edge hop.from hop.to) hops ≡ true
  pub follows : Follows l hops l

-- a loop whose range holds the whole walk, and a turn edge of which the walk takes
pub record TakesTurn (p : Parts) (hops : List Hop) : Type 0 where
  pub loop : Loop
  pub number : ℕ
  pub stands : slice_get p.loops number ≡ Some loop
  pub held : list_all (λ hop. holds loop hop.from) hops ≡ true
  pub turns : list_any (λ hop. turns_by loop hop.edge) hops ≡ true
