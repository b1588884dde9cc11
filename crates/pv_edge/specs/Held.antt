-- What a text holds.
use Rattle.std.specs.Prelude.{ℕ, List, take}
use Rattle.pv_edge.specs.declared.held.Held.{Held}
use Rattle.pv_edge.specs.declared.held.Held.TheVariants.{Short, Long}

-- the bytes of a text
abbrev pub held_bytes : Held → List ℕ
held_bytes (Short len bytes) = take len bytes
held_bytes (Long bytes) = bytes.items
