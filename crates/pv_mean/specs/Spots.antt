-- Spots: what is read and written at once. A visible or a brief cell; a bit of an area's byte; one, two or four bytes of an area
-- in a row, the high byte first (the areas of the manual S7-SCL for S7-300/S7-400, "Global Data"); the value of a constant.
use Rattle.std.specs.Prelude.{ℕ, zero, suc, ◌+◌, ◌-◌, ◌*◌, ◌/◌, ◌%◌, ◌^◌, ℤ, pos, Option, Some, None}
use Rattle.pv_word.specs.declared.types.Ty.{Ty}
use Rattle.pv_word.specs.declared.types.Ty.TheVariants.{Bool, Byte}
use Rattle.pv_word.specs.Types.{wrap_of, pattern_of, bit_of}
use Rattle.pv_place.specs.declared.place.Place.{Place}
use Rattle.pv_place.specs.declared.trap.TrapKind.TheVariants.{Unset}
use Rattle.pv_mean.specs.Sources.{Source}
use Rattle.pv_mean.specs.Frames.{Frame, visible_value, brief_value, with_visible, with_brief}
use Rattle.pv_mean.specs.Endings.{Value, got, trap}

pub data Spot : Type 0 where
  -- the visible cell of this number
  visible : ℕ → Spot
  -- the activation's brief cell of this number, of this type
  brief : Ty → ℕ → Spot
  -- this bit of the byte in the visible cell of this number
  bit : ℕ → ℕ → Spot
  -- as many bytes from the visible cell of this number on, as a value of the type
  bytes : Ty → ℕ → ℕ → Spot
  -- a constant
  fixed : ℤ → Spot
  -- what an operand that breaks a rule names: nothing is written there, and what is read is 0
  nowhere : Spot

-- ---- bytes in a row

abbrev pub byte_in : Frame → ℕ → ℕ
byte_in frame n = pattern_of Byte (visible_value frame n)

-- the number of as many bytes from cell n on, behind those that were read before
abbrev pub number_of_bytes : Frame → ℕ → ℕ → ℕ → ℕ
number_of_bytes frame n zero before = before
number_of_bytes frame n (suc count) before =
    number_of_bytes frame (n + 1) count (before * 256 + byte_in frame n)

-- the bytes of a number go to as many cells from n on
abbrev pub with_bytes : Source → Frame → ℕ → ℕ → ℕ → Frame
with_bytes source frame n zero number = frame
with_bytes source frame n (suc count) number =
    with_bytes source (with_visible source frame n (pos (number / 256 ^ count % 256))) (n + 1) count
    number

-- a byte with this bit as it was, or set, or not
abbrev pub with_bit : ℕ → ℕ → ℕ → ℕ
with_bit byte n value = byte - byte / 2 ^ n % 2 * 2 ^ n + value * 2 ^ n

-- ---- reads and writes

-- a brief cell that has no value is read in vain; the place is that of what is read
abbrev pub told : Option ℤ → Place → Value
told None place = trap Unset place
told (Some v) place = got v

abbrev pub read_spot : Frame → Place → Spot → Value
read_spot frame place (visible n) = got (visible_value frame n)
read_spot frame place (brief ty n) = told (brief_value frame n) place
read_spot frame place (bit n b) = got (pos (bit_of Byte (visible_value frame n) b))
read_spot frame place (bytes ty n count) =
    got (wrap_of ty (pos (number_of_bytes frame n count 0)))
read_spot frame place (fixed v) = got v
read_spot frame place nowhere = got (pos 0)

abbrev pub write_spot : Source → Frame → Spot → ℤ → Frame
write_spot source frame (visible n) v = with_visible source frame n v
write_spot source frame (brief ty n) v = with_brief frame ty n v
write_spot source frame (bit n b) v =
    with_visible source frame n (pos (with_bit (byte_in frame n) b (pattern_of Bool v)))
write_spot source frame (bytes ty n count) v =
    with_bytes source frame n count (pattern_of ty v)
write_spot source frame (fixed value) v = frame
write_spot source frame nowhere v = frame
