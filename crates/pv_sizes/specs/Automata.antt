-- Sizes of automata, by where their edges begin: before anything is copied, with the automata of called blocks in place of the calls, and
-- with the turns of loops one after another.
use Rattle.std.specs.Prelude.{ℕ, zero, suc, ◌+◌, ◌*◌, nat_le, ◌==◌, List, [], ◌∷◌, length, Bool as Truth, ◌&&◌, not, if◌then◌else◌}

-- the locations from the first to the last; whether entering from outside starts the first turn
pub record Range : Type 0 where
  pub first : ℕ
  pub last : ℕ
  pub entry_turn : Truth

-- of each edge the location where it begins, of each call edge the number of the block that it runs, and the loops, outermost first
pub record Flow : Type 0 where
  pub edges : List ℕ
  pub calls : List ℕ
  pub loops : List Range

-- the plain size: edges and call edges
abbrev pub size_of_automaton : Flow → ℕ
size_of_automaton flow = length flow.edges + length flow.calls

-- ---- calls

-- a call edge becomes two edges, into its block and out of it, and the block's own
abbrev pub sum_of_calls : (ℕ → ℕ) → List ℕ → ℕ
sum_of_calls size [] = 0
sum_of_calls size (block ∷ more) = 2 + size block + sum_of_calls size more

-- the inlined size, where so many calls may stand behind one another, of the automata by their blocks' numbers
abbrev pub inlined_size : (ℕ → Flow) → ℕ → ℕ → ℕ
inlined_size blocks zero block = length (blocks block).edges
inlined_size blocks (suc calls) block =
    length (blocks block).edges + sum_of_calls (inlined_size blocks calls) (blocks block).calls

-- ---- loops

-- a range's locations are there once for each of N turns; where entering starts no turn, the first one, at which the loop is left, once
-- more
abbrev pub turns_at : ℕ → Range → ℕ → ℕ
turns_at turns loop at =
    if nat_le loop.first at && nat_le at loop.last
    then (if not loop.entry_turn && (at == loop.first) then turns + 1 else turns)
    else 1

-- how often a location is there behind the copying of all loops that hold it, one after another
abbrev pub copies_at : ℕ → List Range → ℕ → ℕ
copies_at turns [] at = 1
copies_at turns (loop ∷ inner) at = turns_at turns loop at * copies_at turns inner at

-- the unrolled size of an automaton without calls, for N turns
abbrev pub unrolled_size : ℕ → List Range → List ℕ → ℕ
unrolled_size turns loops [] = 0
unrolled_size turns loops (at ∷ more) = copies_at turns loops at + unrolled_size turns loops more
