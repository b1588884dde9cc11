-- What is answered of a block's size.
use Rattle.std.specs.Prelude.{◌≡◌, ℕ, ◌<◌, ◌≤◌}
use Rattle.pv_inline.specs.declared.fault.TooLarge.{TooLarge}
use Rattle.pv_inline.specs.declared.fault.TooLarge.TheVariants.{Edges}
use Rattle.pv_inline.specs.declared.fault.TheConstants.{MAX_EDGES}
use Rattle.pv_flow.specs.Calls.{Blocks}
use Rattle.pv_call_copies.specs.Inlined.{inlined_size}

-- the size, which is within the limit
abbrev pub IsSizeOf : Blocks → ℕ → ℕ → Type 0
IsSizeOf blocks b size = (size ≡ inlined_size blocks b) × (size ≤ MAX_EDGES)

-- the fault of a size that isn't: only edges are counted
abbrev pub IsTooLarge : Blocks → ℕ → TooLarge → Type 0
IsTooLarge blocks b fault = (fault ≡ Edges) × (MAX_EDGES < inlined_size blocks b)

-- ---- what private clauses cite

abbrev pub IsWithin : ℕ → ℕ → Type 0
IsWithin counted size = (size ≡ counted) × (size ≤ MAX_EDGES)

abbrev pub IsOver : ℕ → TooLarge → Type 0
IsOver counted fault = (fault ≡ Edges) × (MAX_EDGES < counted)
