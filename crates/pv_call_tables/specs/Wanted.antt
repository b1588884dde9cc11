-- What is answered where a table isn't made.
use Rattle.std.specs.Prelude.{◌≡◌, ℕ, ◌<◌}
use Rattle.pv_call_tables.specs.declared.fault.Wanting.{Wanting}
use Rattle.pv_call_tables.specs.declared.fault.Wanting.TheVariants.{Numbers, NoMemory}

-- the greatest number of 32 bits
abbrev pub MOST : ℕ
MOST = 4294967295

-- the number has more, and memory isn't asked for
abbrev pub IsBeyond : ℕ → Wanting → Type 0
IsBeyond n fault = (fault ≡ Numbers) × (MOST < n)

-- it is memory that is wanting
abbrev pub IsMemory : Wanting → Type 0
IsMemory fault = fault ≡ NoMemory
