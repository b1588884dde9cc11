-- Small automata with calls, and where the edges and loops of their copies begin and end, by hand. Guards don't matter here.
use Rattle.std.proofs.Common.{◌≡◌, ℕ, pos, false, List, [], ◌∷◌, map, Some, None, refl}
use Rattle.pv_word.specs.declared.types.Ty.{Ty}
use Rattle.pv_word.specs.declared.types.Ty.TheVariants.{Bool, Int, Byte, Dint}
use Rattle.pv_place.specs.declared.place.Place.{Place}
use Rattle.pv_place.specs.declared.role.Role.{Role}
use Rattle.pv_place.specs.declared.role.Role.TheVariants.{Input, Kept, Brief}
use Rattle.pv_place.specs.declared.trap.TrapKind.TheVariants.{Unset}
use Rattle.pv_flow.specs.Terms.{constant}
use Rattle.pv_flow.specs.Automata.{Variable, Set, Edge, CallEdge, Loop, TrapEnd, Parts}
use Rattle.pv_flow.specs.Calls.{Blocks}
use Rattle.pv_call_copies.specs.Inlined.{inlined, inlined_size}

abbrev here : Place
here = record { file = 0; offset = 0 }

abbrev var : Ty → Role → Variable
var ty role = record { ty = ty; role = role; start = pos 0; only = None }

abbrev edge : ℕ → ℕ → Edge
edge from to = record { from = from; to = to; guard = constant Bool (pos 1); sets = [] }

abbrev setting : ℕ → ℕ → ℕ → Edge
setting from to x =
    record { from = from; to = to; guard = constant Bool (pos 1); sets = record { variable = x; value = constant Int (pos 7) } ∷ [] }

abbrev call : ℕ → ℕ → ℕ → ℕ → CallEdge
call from to block instance = record { from = from; to = to; block = block; instance = instance; place = here }

abbrev trap_end : ℕ → TrapEnd
trap_end l = record { location = l; kind = Unset; place = here }

abbrev automaton : List Variable → ℕ → ℕ → List Edge → List CallEdge → List Loop → ℕ → List TrapEnd → Parts
automaton vars bound locations edges calls loops done traps = record {
  vars = vars;
  bound = bound;
  shared = 0;
  locations = locations;
  edges = edges;
  calls = calls;
  loops = loops;
  done = done;
  traps = traps;
  overs = [];
}

abbrev begins : Parts → List ℕ
begins p = map (λ (e : Edge). e.from) p.edges

abbrev ends : Parts → List ℕ
ends p = map (λ (e : Edge). e.to) p.edges

abbrev targets : Edge → List ℕ
targets e = map (λ (s : Set). s.variable) e.sets

-- y := x
abbrev callee : Parts
callee = automaton (var Int Input ∷ var Int Kept ∷ []) 2 2 (edge 0 1 ∷ []) [] [] 1 []

abbrev three : List Variable
three = var Bool Input ∷ var Int Kept ∷ var Int Kept ∷ []

abbrev with_callee : Parts → Blocks
with_callee p = Some p ∷ Some callee ∷ []

-- IF go THEN inst(x := 5); ELSE inst(); END_IF
abbrev either : Parts
either = automaton three 3 5 (edge 0 1 ∷ edge 0 3 ∷ edge 1 2 ∷ []) (call 2 4 1 1 ∷ call 3 4 1 1 ∷ []) [] 4 []

either_begins : begins (inlined (with_callee either) either) ≡ 0 ∷ 0 ∷ 1 ∷ 2 ∷ 3 ∷ 4 ∷ 5 ∷ 6 ∷ 7 ∷ []
either_begins = refl

either_ends : ends (inlined (with_callee either) either) ≡ 1 ∷ 5 ∷ 2 ∷ 3 ∷ 4 ∷ 8 ∷ 6 ∷ 7 ∷ 8 ∷ []
either_ends = refl

either_done : (inlined (with_callee either) either).done ≡ 8
either_done = refl

either_locations : (inlined (with_callee either) either).locations ≡ 9
either_locations = refl

either_size : inlined_size (with_callee either) 0 ≡ 9
either_size = refl

-- WHILE go DO inst(); END_WHILE
abbrev while : Parts
while = automaton three 3 3 (edge 0 1 ∷ edge 0 2 ∷ []) (call 1 0 1 1 ∷ [])
    (record { first = 0; last = 1; entry_turn = false; turns = 0 ∷ []; place = here } ∷ []) 2 []

while_begins : begins (inlined (with_callee while) while) ≡ 0 ∷ 0 ∷ 1 ∷ 2 ∷ 3 ∷ []
while_begins = refl

while_ends : ends (inlined (with_callee while) while) ≡ 1 ∷ 4 ∷ 2 ∷ 3 ∷ 0 ∷ []
while_ends = refl

while_loops : (inlined (with_callee while) while).loops
    ≡ record { first = 0; last = 3; entry_turn = false; turns = 0 ∷ []; place = here } ∷ []
while_loops = refl

-- RETURN; inst();
abbrev unreached : Parts
unreached = automaton three 3 3 (edge 0 2 ∷ []) (call 1 2 1 1 ∷ []) [] 2 []

unreached_begins : begins (inlined (with_callee unreached) unreached) ≡ 0 ∷ 1 ∷ 2 ∷ 3 ∷ []
unreached_begins = refl

unreached_ends : ends (inlined (with_callee unreached) unreached) ≡ 4 ∷ 2 ∷ 3 ∷ 4 ∷ []
unreached_ends = refl

-- A calls B and C, B calls C: A's own variables, then those of B, of C called by B, and of C
abbrev c : Parts
c = automaton (var Int Brief ∷ []) 0 2 (setting 0 1 0 ∷ []) [] [] 1 []

abbrev b : Parts
b = automaton (var Byte Brief ∷ []) 0 2 [] (call 0 1 2 0 ∷ []) [] 1 []

abbrev a : Parts
a = automaton (var Bool Kept ∷ var Dint Brief ∷ []) 1 3 [] (call 0 1 1 0 ∷ call 1 2 2 0 ∷ []) [] 2 []

abbrev two_levels : Blocks
two_levels = Some a ∷ Some b ∷ Some c ∷ []

two_levels_types : map (λ (v : Variable). v.ty) (inlined two_levels a).vars ≡ Bool ∷ Dint ∷ Byte ∷ Int ∷ Int ∷ []
two_levels_types = refl

two_levels_sets : map targets (inlined two_levels a).edges ≡ (2 ∷ []) ∷ (3 ∷ []) ∷ (3 ∷ []) ∷ [] ∷ [] ∷ (4 ∷ []) ∷ (4 ∷ []) ∷ [] ∷ []
two_levels_sets = refl

-- two calls of a block that traps, and a trap of the caller's between them
abbrev trapping : Parts
trapping = automaton (var Int Input ∷ []) 1 3 (edge 0 2 ∷ edge 0 1 ∷ []) [] [] 1 (trap_end 2 ∷ [])

abbrev twice : Parts
twice = automaton (var Int Input ∷ []) 1 5 (edge 1 4 ∷ edge 1 2 ∷ []) (call 0 1 1 0 ∷ call 2 3 1 0 ∷ []) [] 3 (trap_end 4 ∷ [])

abbrev with_trapping : Blocks
with_trapping = Some twice ∷ Some trapping ∷ []

twice_begins : begins (inlined with_trapping twice) ≡ 0 ∷ 1 ∷ 1 ∷ 2 ∷ 3 ∷ 3 ∷ 4 ∷ 5 ∷ 5 ∷ 6 ∷ []
twice_begins = refl

twice_ends : ends (inlined with_trapping twice) ≡ 1 ∷ 8 ∷ 2 ∷ 3 ∷ 9 ∷ 4 ∷ 5 ∷ 10 ∷ 6 ∷ 7 ∷ []
twice_ends = refl

twice_traps : map (λ (end : TrapEnd). end.location) (inlined with_trapping twice).traps ≡ 8 ∷ 9 ∷ 10 ∷ []
twice_traps = refl
