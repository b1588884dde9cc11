-- Small flows, laid out by hand. Terms don't matter here.
use Rattle.std.proofs.Common.{◌≡◌, ℕ, Bool, true, false, List, [], ◌∷◌, map, refl}
use Rattle.pv_place.specs.declared.place.Place.{Place}
use Rattle.pv_place.specs.declared.trap.TrapKind.TheVariants.{Unset, DivideByZero}
use Rattle.pv_flow.specs.Terms.{Term, variable}
use Rattle.pv_flow.specs.Automata.{Edge, Loop, TrapEnd, Parts}
use Rattle.pv_layout.specs.Spots.{Check}
use Rattle.pv_layout.specs.Flows.{by_exit, by_continue, Flow, act, leave, then_, if_, choice, while_, for_, repeat_}
use Rattle.pv_layout.specs.Layout.{width, plain}
use Rattle.pv_layout.specs.Bodies.{laid}

abbrev here : Place
here = record { file = 0; offset = 0 }

abbrev c : Term
c = variable 0

abbrev nothing : Flow
nothing = act [] []

abbrev two_checks : List Check
two_checks =
    record { fails = variable 1; kind = Unset; place = here } ∷ record { fails = variable 2; kind = DivideByZero; place = here } ∷ []

abbrev parts : Flow → Parts
parts f = laid (record { head = record { vars = []; bound = 0; shared = 0 }; code = f })

abbrev begins : Flow → List ℕ
begins f = map (λ (e : Edge). e.from) (parts f).edges

abbrev ends : Flow → List ℕ
ends f = map (λ (e : Edge). e.to) (parts f).edges

abbrev traps : Flow → List ℕ
traps f = map (λ (end : TrapEnd). end.location) (parts f).traps

abbrev firsts : Flow → List ℕ
firsts f = map (λ (loop : Loop). loop.first) (parts f).loops

abbrev lasts : Flow → List ℕ
lasts f = map (λ (loop : Loop). loop.last) (parts f).loops

abbrev turns : Flow → List (List ℕ)
turns f = map (λ (loop : Loop). loop.turns) (parts f).loops

abbrev entries : Flow → List Bool
entries f = map (λ (loop : Loop). loop.entry_turn) (parts f).loops

-- ---- a loop with the test before its turns

while_begins : begins (while_ [] c nothing here) ≡ 0 ∷ 0 ∷ 1 ∷ []
while_begins = refl

while_ends : ends (while_ [] c nothing here) ≡ 1 ∷ 2 ∷ 0 ∷ []
while_ends = refl

while_lasts : lasts (while_ [] c nothing here) ≡ 1 ∷ []
while_lasts = refl

while_turns : turns (while_ [] c nothing here) ≡ (0 ∷ []) ∷ []
while_turns = refl

while_entries : entries (while_ [] c nothing here) ≡ false ∷ []
while_entries = refl

while_done : (parts (while_ [] c nothing here)).done ≡ 2
while_done = refl

-- ---- a REPEAT around a REPEAT

abbrev twice : Flow
twice = repeat_ (repeat_ nothing [] c here) [] c here

twice_begins : begins twice ≡ 0 ∷ 1 ∷ 1 ∷ 2 ∷ 2 ∷ []
twice_begins = refl

twice_ends : ends twice ≡ 1 ∷ 2 ∷ 0 ∷ 3 ∷ 0 ∷ []
twice_ends = refl

twice_firsts : firsts twice ≡ 0 ∷ 0 ∷ []
twice_firsts = refl

twice_lasts : lasts twice ≡ 2 ∷ 1 ∷ []
twice_lasts = refl

twice_turns : turns twice ≡ (4 ∷ []) ∷ (2 ∷ []) ∷ []
twice_turns = refl

twice_entries : entries twice ≡ true ∷ true ∷ []
twice_entries = refl

twice_done : (parts twice).done ≡ 3
twice_done = refl

-- ---- a FOR: test, body, step

for_width : width (for_ [] c nothing [] here) ≡ 3
for_width = refl

for_begins : begins (for_ [] c nothing [] here) ≡ 0 ∷ 0 ∷ 1 ∷ 2 ∷ []
for_begins = refl

for_ends : ends (for_ [] c nothing [] here) ≡ 1 ∷ 3 ∷ 2 ∷ 0 ∷ []
for_ends = refl

for_turns : turns (for_ [] c nothing [] here) ≡ (0 ∷ []) ∷ []
for_turns = refl

for_lasts : lasts (for_ [] c nothing [] here) ≡ 2 ∷ []
for_lasts = refl

-- ---- checks

checked_ends : ends (if_ two_checks c nothing) ≡ 3 ∷ 4 ∷ 1 ∷ 2 ∷ 2 ∷ []
checked_ends = refl

checked_traps : traps (if_ two_checks c nothing) ≡ 3 ∷ 4 ∷ []
checked_traps = refl

checked_plain : plain (if_ two_checks c nothing) ≡ 5
checked_plain = refl

if_width : width (if_ [] c nothing) ≡ 2
if_width = refl

choice_width : width (choice [] c nothing nothing) ≡ 3
choice_width = refl

-- ---- CONTINUE, EXIT

continued_for : ends (for_ [] c (leave by_continue) [] here) ≡ 1 ∷ 3 ∷ 2 ∷ 0 ∷ []
continued_for = refl

continued_while : ends (while_ [] c (leave by_continue) here) ≡ 1 ∷ 2 ∷ 0 ∷ []
continued_while = refl

continued_repeat : ends (repeat_ (leave by_continue) [] c here) ≡ 1 ∷ 2 ∷ 0 ∷ []
continued_repeat = refl

exited_while : ends (while_ [] c (then_ (leave by_exit) nothing) here) ≡ 1 ∷ 3 ∷ 3 ∷ 0 ∷ []
exited_while = refl
