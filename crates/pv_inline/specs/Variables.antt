-- The variables of an automaton with copies.
use Rattle.std.specs.Prelude.{ℕ, List, [], Option, Some, None}
use Rattle.pv_flow.specs.Automata.{Variable, Parts}
use Rattle.pv_flow.specs.Calls.{Blocks, block_at}
use Rattle.pv_call_copies.specs.Levels.{down}
use Rattle.pv_call_copies.specs.Inlined.{added_in, inlined}

abbrev pub variables_in : Blocks → Option Parts → List Variable
variables_in blocks None = []
variables_in blocks (Some p) = (inlined blocks p).vars

abbrev pub variables_at : Blocks → ℕ → List Variable
variables_at blocks b = variables_in blocks (block_at blocks b)

-- what a call of the block adds, down so many levels of calls
abbrev pub added_below : Blocks → ℕ → ℕ → List Variable
added_below blocks levels b = down [] added_in blocks levels b
