-- Numbers of edges as the code has them: exact up to the greatest number that there may be, and one more for any greater number; and what
-- is counted, going down so many levels of calls.
use Rattle.std.specs.Prelude.{ℕ, ◌+◌, List, min}
use Rattle.pv_flow.specs.Automata.{CallEdge}
use Rattle.pv_flow.specs.Calls.{Blocks}
use Rattle.pv_call_copies.specs.Levels.{down}
use Rattle.pv_call_copies.specs.Inlined.{size_by_calls, size_in}
use Rattle.pv_inline.specs.declared.fault.TheConstants.{BEYOND}

abbrev pub capped : ℕ → ℕ
capped n = min n BEYOND

abbrev pub size_below : Blocks → ℕ → ℕ → ℕ
size_below blocks levels b = down 0 size_in blocks levels b

-- the total with what a block has once its calls are copied
abbrev pub size_after : Blocks → ℕ → ℕ → ℕ → ℕ
size_after blocks levels b total = capped (total + size_below blocks levels b)

-- and with what call edges become
abbrev pub calls_after : Blocks → ℕ → List CallEdge → ℕ → ℕ
calls_after blocks levels calls total = capped (total + size_by_calls (size_below blocks levels) calls)
