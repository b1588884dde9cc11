-- The automata of blocks, by the blocks' numbers, as plain data.
use Rattle.std.specs.Prelude.{ℕ, List, map, slice_index_or, Option, Some, None}
use Rattle.pv_flow.specs.declared.automaton.Automaton.{Automaton}
use Rattle.pv_flow.specs.declared.parts.Parts.{Parts as CodeParts}
use Rattle.pv_flow.specs.AutomatonView.{automaton_of, code_of}
use Rattle.pv_flow.specs.Automata.{Parts}
use Rattle.pv_flow.specs.Calls.{Blocks}
use Rattle.pv_flow.specs.View.{parts_of}
use Rattle.pv_inline.specs.declared.blocks.Blocks.{Blocks as CodeBlocks}
use Rattle.pv_inline.specs.declared.blocks.Blocks.TheVariants.{Automata, Codes}

-- ---- of automata

abbrev pub block_of : Option Automaton → Option Parts
block_of None = None
block_of (Some automaton) = Some (automaton_of automaton)

abbrev pub blocks_of : List (Option Automaton) → Blocks
blocks_of blocks = map block_of blocks

-- their parts as the code has them
abbrev pub code_in : Option Automaton → Option CodeParts
code_in None = None
code_in (Some automaton) = Some (code_of automaton)

abbrev pub codes_of : List (Option Automaton) → List (Option CodeParts)
codes_of blocks = map code_in blocks

-- ---- of parts as the code has them

abbrev pub block_in : Option CodeParts → Option Parts
block_in None = None
block_in (Some p) = Some (parts_of p)

abbrev pub blocks_in : List (Option CodeParts) → Blocks
blocks_in codes = map block_in codes

abbrev pub code_at : List (Option CodeParts) → ℕ → Option CodeParts
code_at codes b = slice_index_or codes b None

-- ---- of either

abbrev pub codes_in : CodeBlocks → List (Option CodeParts)
codes_in (Automata blocks) = codes_of blocks.now
codes_in (Codes codes) = codes.now
