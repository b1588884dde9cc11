-- Small automata, and how many edges and locations their copies have. Guards don't matter here.
use Rattle.std.proofs.Common.{◌≡◌, ℕ, pos, Bool as Truth, true, false, List, [], ◌∷◌, map, length, refl}
use Rattle.pv_word.specs.declared.types.Ty.TheVariants.{Bool}
use Rattle.pv_place.specs.declared.place.Place.{Place}
use Rattle.pv_place.specs.declared.trap.TrapKind.TheVariants.{Unset}
use Rattle.pv_flow.specs.Terms.{constant}
use Rattle.pv_flow.specs.Automata.{Edge, Loop, TrapEnd, OverEnd, Parts}
use Rattle.pv_copies.specs.Unrolled.{unrolled, unrolled_size}

abbrev here : Place
here = record { file = 0; offset = 0 }

abbrev edge : ℕ → ℕ → Edge
edge from to = record { from = from; to = to; guard = constant Bool (pos 1); sets = [] }

abbrev range : ℕ → ℕ → Truth → List ℕ → Loop
range first last entry_turn turns = record { first = first; last = last; entry_turn = entry_turn; turns = turns; place = here }

abbrev automaton : ℕ → List Edge → List Loop → ℕ → Parts
automaton locations edges loops done = record {
  vars = [];
  bound = 0;
  shared = 0;
  locations = locations;
  edges = edges;
  calls = [];
  loops = loops;
  done = done;
  traps = [];
  overs = [];
}

abbrev begins : Parts → List ℕ
begins p = map (λ (e : Edge). e.from) p.edges

abbrev ends : Parts → List ℕ
ends p = map (λ (e : Edge). e.to) p.edges

abbrev overs : Parts → List ℕ
overs p = map (λ (end : OverEnd). end.location) p.overs

-- WHILE x DO ; END_WHILE
abbrev while : Parts
while = automaton 3 (edge 0 1 ∷ edge 0 2 ∷ edge 1 0 ∷ []) (range 0 1 false (0 ∷ []) ∷ []) 2

while_begins : begins (unrolled while 2) ≡ 0 ∷ 0 ∷ 1 ∷ 2 ∷ 2 ∷ 3 ∷ 4 ∷ 4 ∷ []
while_begins = refl

while_ends : ends (unrolled while 2) ≡ 1 ∷ 6 ∷ 2 ∷ 3 ∷ 6 ∷ 4 ∷ 5 ∷ 6 ∷ []
while_ends = refl

while_over : overs (unrolled while 2) ≡ 5 ∷ []
while_over = refl

while_locations : (unrolled while 2).locations ≡ 7
while_locations = refl

while_16 : length (unrolled while 16).edges ≡ 50
while_16 = refl

while_16_locations : (unrolled while 16).locations ≡ 35
while_16_locations = refl

-- a loop from 0 to 0 without entry turn: on, or done
abbrev alone : Parts
alone = automaton 2 (edge 0 0 ∷ edge 0 1 ∷ []) (range 0 0 false (0 ∷ []) ∷ []) 1

alone_begins : begins (unrolled alone 2) ≡ 0 ∷ 0 ∷ 1 ∷ 1 ∷ 2 ∷ 2 ∷ []
alone_begins = refl

alone_ends : ends (unrolled alone 2) ≡ 1 ∷ 4 ∷ 2 ∷ 4 ∷ 3 ∷ 4 ∷ []
alone_ends = refl

-- FOR i := 1 TO 16 DO s := s + 1; END_FOR
abbrev counted : Parts
counted = automaton 6 (edge 0 1 ∷ edge 1 2 ∷ edge 2 3 ∷ edge 2 5 ∷ edge 3 4 ∷ edge 4 2 ∷ []) (range 2 4 false (2 ∷ []) ∷ []) 5

for_edges : length (unrolled counted 16).edges ≡ 68
for_edges = refl

for_locations : (unrolled counted 16).locations ≡ 53
for_locations = refl

-- FOR k := 3 TO 1 BY -1 DO n := n + k; END_FOR, where k may have no value: one turn
abbrev trapping : Parts
trapping = record {
  vars = [];
  bound = 0;
  shared = 0;
  locations = 7;
  edges = edge 0 1 ∷ edge 1 2 ∷ edge 2 3 ∷ edge 2 5 ∷ edge 3 6 ∷ edge 3 4 ∷ edge 4 2 ∷ [];
  calls = [];
  loops = range 2 4 false (2 ∷ []) ∷ [];
  done = 5;
  traps = record { location = 6; kind = Unset; place = here } ∷ [];
  overs = [];
}

abbrev traps : Parts → List ℕ
traps p = map (λ (end : TrapEnd). end.location) p.traps

trapping_begins : begins (unrolled trapping 1) ≡ 0 ∷ 1 ∷ 2 ∷ 2 ∷ 3 ∷ 3 ∷ 4 ∷ 5 ∷ 5 ∷ []
trapping_begins = refl

trapping_ends : ends (unrolled trapping 1) ≡ 1 ∷ 2 ∷ 3 ∷ 7 ∷ 8 ∷ 4 ∷ 5 ∷ 6 ∷ 7 ∷ []
trapping_ends = refl

trapping_traps : traps (unrolled trapping 1) ≡ 8 ∷ []
trapping_traps = refl

-- with two turns each copy of the edge has a location of its own
two_traps : traps (unrolled trapping 2) ≡ 11 ∷ 12 ∷ []
two_traps = refl

-- REPEAT REPEAT n := n + 1; UNTIL x END_REPEAT; UNTIL y END_REPEAT
abbrev twice : Parts
twice = automaton 4 (edge 0 1 ∷ edge 1 2 ∷ edge 1 0 ∷ edge 2 3 ∷ edge 2 0 ∷ []) (range 0 2 true (4 ∷ []) ∷ range 0 1 true (2 ∷ []) ∷ []) 3

twice_edges : length (unrolled twice 3).edges ≡ 33
twice_edges = refl

twice_locations : (unrolled twice 3).locations ≡ 26
twice_locations = refl

-- m: JU m, whose location where it would be done none enters
abbrev forever : Parts
forever = automaton 2 (edge 0 0 ∷ []) (range 0 0 true (0 ∷ []) ∷ []) 1

forever_edges : length (unrolled forever 16).edges ≡ 16
forever_edges = refl

forever_locations : (unrolled forever 16).locations ≡ 18
forever_locations = refl

-- a FOR around a FOR around one assignment
abbrev nested : Parts
nested = automaton 10
    (edge 0 1 ∷ edge 1 2 ∷ edge 2 3 ∷ edge 2 9 ∷ edge 3 4 ∷ edge 4 5 ∷ edge 5 6 ∷ edge 5 8 ∷ edge 6 7 ∷ edge 7 5 ∷ edge 8 2 ∷ [])
    (range 2 8 false (2 ∷ []) ∷ range 5 7 false (6 ∷ []) ∷ []) 9

nested_200 : unrolled_size nested 200 ≡ 161404
nested_200 = refl

nested_256 : unrolled_size nested 256 ≡ 263940
nested_256 = refl
