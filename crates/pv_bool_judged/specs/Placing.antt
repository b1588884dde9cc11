-- Where the values of a state and of an input stand among those of all bits.
use Rattle.std.specs.Prelude.{◌≡◌, Bool, true, false, List, [], ◌∷◌, length, if◌then◌else◌}
use Rattle.pv_bool.specs.declared.program.BitRole.{BitRole}
use Rattle.pv_bool.specs.declared.program.Bit.{Bit}
use Rattle.pv_bool.specs.Roles.{is_input, is_kept}
use Rattle.pv_bool.specs.Scans.{Bits, first, others, state_len, start}
use Rattle.pv_bool.specs.Machine.{bits_of}
use Rattle.pv_stretch.specs.declared.ends.StretchStart.{StretchStart}
use Rattle.pv_stretch.specs.declared.ends.StretchStart.TheVariants as from

-- a bit of this role takes a value of a state, or of an input
abbrev pub takes : Bool → BitRole → Bool
takes true role = is_kept role
takes false role = is_input role

-- the frame in which the bits that take one have the next of these values, and the others their own
abbrev pub placed : Bool → List Bit → Bits → Bits → Bits
placed kept [] values frame = []
placed kept (b ∷ bits) values frame = if takes kept b.role then first values ∷ placed kept bits (others values) (others frame)
    else first frame ∷ placed kept bits values (others frame)

-- an image has a value for each kept bit
abbrev pub IsFitting : List Bit → StretchStart → Type 0
IsFitting bits (from.Params params) = Unit {0}
IsFitting bits (from.Image image prev) = length image.now ≡ state_len bits

-- the state with which a stretch begins
abbrev pub begun_bits : List Bit → StretchStart → Bits
begun_bits bits (from.Params params) = start bits
begun_bits bits (from.Image image prev) = bits_of image.now
