-- The spots that operands of nodes name.
use Rattle.std.specs.Prelude.{ℕ, ◌+◌, ◌*◌, ◌<◌, ◌≤◌, ℤ, pos, ◌-ℤ◌, unsigned_abs, List, slice_index_or}
use Rattle.pv_mean.specs.Spots as m
use Rattle.pv_eval.specs.declared.node.Spot.{Spot}
use Rattle.pv_eval.specs.declared.node.Spot.TheVariants.{Visible, Brief, Bit, Bytes, Fixed, Nowhere}
use Rattle.pv_eval.specs.declared.node.Part.{Part}
use Rattle.pv_eval.specs.declared.node.Part.TheVariants as part
use Rattle.pv_eval.specs.declared.node.Operand.{Operand}
use Rattle.pv_eval.specs.declared.node.Operand.TheVariants.{At, Own, Element}

-- the code's spot as the definitions have it
abbrev pub spot_of : Spot → m.Spot
spot_of (Visible n) = m.visible n
spot_of (Brief ty n) = m.brief ty n
spot_of (Bit n b) = m.bit n b
spot_of (Bytes ty n count) = m.bytes ty n count
spot_of (Fixed v) = m.fixed v
spot_of Nowhere = m.nowhere

-- the cell of this number, of a block whose instance begins at the first
abbrev pub spot_in : Part → ℕ → ℕ → m.Spot
spot_in part.Own first n = m.visible (first + n)
spot_in part.Visible first n = m.visible n
spot_in (part.Brief ty) first n = m.brief ty n
spot_in part.Nowhere first n = m.nowhere

-- so many cells lie between the elements at two indexes
abbrev pub span : ℤ → ℤ → ℕ → ℕ
span low high stride = unsigned_abs (high -ℤ low) * stride

-- one of the values so far
abbrev pub at : List ℤ → ℕ → ℤ
at values n = slice_index_or values n (pos 0)

-- by the values of the nodes so far
abbrev pub spot_at : ℕ → List ℤ → Operand → m.Spot
spot_at first values (At spot) = spot_of spot
spot_at first values (Own n) = m.visible (first + n)
spot_at first values (Element part offset address) =
    spot_in part first (offset + unsigned_abs (at values address))

-- a bit of a byte, and at most four bytes
abbrev pub IsSpot : Spot → Type 0
IsSpot (Visible n) = Unit {0}
IsSpot (Brief ty n) = Unit {0}
IsSpot (Bit n b) = b < 8
IsSpot (Bytes ty n count) = count ≤ 4
IsSpot (Fixed v) = Unit {0}
IsSpot Nowhere = Unit {0}

-- the address is one of so many nodes
abbrev pub IsOperand : ℕ → Operand → Type 0
IsOperand n (At spot) = IsSpot spot
IsOperand n (Own k) = Unit {0}
IsOperand n (Element part offset address) = address < n
