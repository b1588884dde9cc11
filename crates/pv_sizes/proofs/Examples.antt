-- Sizes of automata that were made by hand.
use Rattle.std.proofs.Common.{◌≡◌, ℕ, [], ◌∷◌, refl, true, false}
use Rattle.std.specs.Prelude.{◌==◌, if◌then◌else◌}
use Rattle.pv_sizes.specs.Automata.{Flow, size_of_automaton, inlined_size, unrolled_size}

-- FOR around one assignment: two locations before it, its test at 2, the assignment, the step
abbrev one_for : Flow
one_for = record {
  edges = 0 ∷ 1 ∷ 2 ∷ 2 ∷ 3 ∷ 4 ∷ [];
  calls = [];
  loops = record { first = 2; last = 4; entry_turn = false } ∷ [];
}

plain_for : size_of_automaton one_for ≡ 6
plain_for = refl

sixteen_turns : unrolled_size 16 one_for.loops one_for.edges ≡ 68
sixteen_turns = refl

-- FOR around FOR around one assignment
abbrev two_fors : Flow
two_fors = record {
  edges = 0 ∷ 1 ∷ 2 ∷ 2 ∷ 3 ∷ 4 ∷ 5 ∷ 5 ∷ 6 ∷ 7 ∷ 8 ∷ [];
  calls = [];
  loops = record { first = 2; last = 8; entry_turn = false } ∷ record { first = 5; last = 7; entry_turn = false } ∷ [];
}

two_hundred_turns : unrolled_size 200 two_fors.loops two_fors.edges ≡ 161404
two_hundred_turns = refl

most_turns : unrolled_size 256 two_fors.loops two_fors.edges ≡ 263940
most_turns = refl

-- two REPEATs around one assignment, whose ranges are the assignment with one test, and both tests
two_repeats : unrolled_size 3 (record { first = 0; last = 2; entry_turn = true } ∷ record { first = 0; last = 1; entry_turn = true } ∷ [])
    (0 ∷ 1 ∷ 1 ∷ 2 ∷ 2 ∷ []) ≡ 33
two_repeats = refl

-- IF with a call in each of its lists, the first of which copies a value in; the called block has one assignment
abbrev two_calls : ℕ → Flow
two_calls block =
    if block == 0 then record { edges = 0 ∷ 0 ∷ 1 ∷ []; calls = 1 ∷ 1 ∷ []; loops = [] }
    else record { edges = 0 ∷ []; calls = []; loops = [] }

plain_calls : size_of_automaton (two_calls 0) ≡ 5
plain_calls = refl

inlined_calls : inlined_size two_calls 1 0 ≡ 9
inlined_calls = refl
