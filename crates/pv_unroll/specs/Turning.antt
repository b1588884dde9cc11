-- Of each edge the loop whose turn it starts: numbers are one more, and 0 is none.
use Rattle.std.specs.Prelude.{ℕ, suc, List, [], ◌∷◌, replicate, slice_set}
use Rattle.pv_flow.specs.Automata.{Loop}

abbrev pub marked : List ℕ → ℕ → List ℕ → List ℕ
marked found number [] = found
marked found number (turn ∷ turns) = marked (slice_set found turn number) number turns

-- the loops are numbered from i on
abbrev pub all_marked : List ℕ → ℕ → List Loop → List ℕ
all_marked found i [] = found
all_marked found i (loop ∷ loops) = all_marked (marked found (suc i) loop.turns) (suc i) loops

abbrev pub turns_of : ℕ → List Loop → List ℕ
turns_of edges loops = all_marked (replicate edges 0) 0 loops
