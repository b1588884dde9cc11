-- What is said of a block by what is said of the blocks that it calls: down so many levels of calls, and below them as of no block.
-- Where no block calls itself there are no more levels than blocks, and what is said goes down so many.
use Rattle.std.specs.Prelude.{ℕ, zero, suc, length, Option}
use Rattle.pv_flow.specs.Automata.{Parts}
use Rattle.pv_flow.specs.Calls.{Blocks, block_at}

abbrev pub down : {X : Type 0} → X → ((ℕ → X) → Option Parts → X) → Blocks → ℕ → ℕ → X
down none step blocks zero b = none
down none step blocks (suc levels) b = step (λ c. down none step blocks levels c) (block_at blocks b)

abbrev pub through : {X : Type 0} → X → ((ℕ → X) → Option Parts → X) → Blocks → ℕ → X
through none step blocks b = down none step blocks (length blocks) b
