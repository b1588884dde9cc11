-- What is so of reads and writes: the statements of the laws, and what they are about. A block's variables lie at places in a valuation
-- that serves all blocks at work; terms see it through the places.
use Rattle.std.specs.Prelude.{◌≡◌, ℕ, zero, suc, ◌+◌, ◌*◌, ◌/◌, ◌%◌, ◌^◌, ◌<◌, ◌≤◌, ℤ, pos, ◌-ℤ◌, int_le, unsigned_abs, List, [], ◌∷◌, true, if◌then◌else◌, Option, Some, None}
use Rattle.pv_word.specs.declared.types.Ty.{Ty}
use Rattle.pv_word.specs.declared.types.Ty.TheVariants.{Bool, Byte}
use Rattle.pv_word.specs.Types.{width_of, InRange, pattern_of}
use Rattle.pv_place.specs.declared.place.Place.{Place}
use Rattle.pv_mean.specs.Frames.{Frame, visible_value, brief_value}
use Rattle.pv_mean.specs.Endings.{Tried, got, trap}
use Rattle.pv_mean.specs.Spots.{Spot, visible, brief, bit, bytes, fixed, nowhere, with_bit, read_spot}
use Rattle.pv_flow.specs.Terms.{Term, Valuation, value_of, holds_in}
use Rattle.pv_flow.specs.Runs.{put}
use Rattle.pv_flow.specs.Calls.{set_through}
use Rattle.pv_access.specs.declared.access.Storage.{Storage}
use Rattle.pv_access.specs.declared.access.Storage.TheVariants.{Cell, Brief, Bit, Bytes, Fixed, Nowhere}
use Rattle.pv_access.specs.Accesses.{Check, Move, steps_of, assigning, choosing, read_term, unset_checks, write_sets}

-- ---- checks

-- the first check that is true stops it
abbrev pub checked : {A : Type 0} → Valuation → List Check → A → Tried A
checked w [] a = got a
checked w (c ∷ checks) a = if holds_in w c.term then trap c.kind c.place else checked w checks a

-- ---- indexes

-- each index lies within its bounds
abbrev pub AreInside : Valuation → List Move → Type 0
AreInside w [] = Unit {0}
AreInside w (m ∷ more) =
    (int_le m.low (value_of w m.index) ≡ true) × (int_le (value_of w m.index) m.high ≡ true) × AreInside w more

-- so many cells they move what is named
abbrev pub moved_by : Valuation → List Move → ℕ
moved_by w [] = 0
moved_by w (m ∷ more) = unsigned_abs (value_of w m.index -ℤ m.low) * m.stride + moved_by w more

abbrev pub moved : ℕ → Storage → Storage
moved k (Cell ty n) = Cell ty (n + k)
moved k (Brief ty n) = Brief ty (n + k * 2)
moved k (Bit n b) = Bit n b
moved k (Bytes ty n count) = Bytes ty n count
moved k (Fixed v) = Fixed v
moved k Nowhere = Nowhere

-- ---- reads

-- a brief cell with a value is its variable, and its 'set' is 1; that of one without is 0
abbrev pub IsTold : Valuation → ℕ → Option ℤ → Type 0
IsTold w n None = w (suc n) ≡ pos 0
IsTold w n (Some v) = (w n ≡ v) × (w (suc n) ≡ pos 1)

-- so many variables from n on are the bytes in the visible cells from m on
abbrev pub AreBytes : Frame → Valuation → ℕ → ℕ → ℕ → Type 0
AreBytes frame w n m count =
    (k : ℕ) → k < count → (w (n + k) ≡ visible_value frame (m + k)) × InRange Byte (w (n + k))

-- in the valuation the storage is what the spot is in the frame
abbrev pub Shows : Frame → Valuation → Storage → Spot → Type 0
Shows frame w (Cell ty n) (visible m) = w n ≡ visible_value frame m
Shows frame w (Brief ty n) (brief own j) = IsTold w n (brief_value frame j)
Shows frame w (Bit n b) (bit m c) = (b ≡ c) × (b < 8) × AreBytes frame w n m 1
Shows frame w (Bytes ty n count) (bytes own m c) = (ty ≡ own) × (count ≡ c) × (count ≤ 4) × AreBytes frame w n m count
Shows frame w (Fixed v) (fixed u) = v ≡ u
Shows frame w Nowhere nowhere = Unit {0}
Shows frame w storage spot = ⊥

-- reading a spot traps exactly where the check is true, and else gives the value of the term
abbrev pub ReadsHold : Type 0
ReadsHold = (frame : Frame) (w : Valuation) (place : Place) (ty : Ty) (storage : Storage) (moves : List Move) (spot : Spot)
    → AreInside w moves → Shows frame w (moved (moved_by w moves) storage) spot
    → read_spot frame place spot ≡ checked w (unset_checks storage moves place) (value_of w (read_term ty storage moves))

-- ---- writes

-- so many cells from the first to the last that indexes may name
abbrev pub span : List Move → ℕ
span [] = 1
span (m ∷ more) = steps_of m * m.stride + span more

-- elements don't overlap
abbrev pub AreNested : List Move → Type 0
AreNested [] = Unit {0}
AreNested (m ∷ more) = (span more ≤ m.stride) × AreNested more

-- so many variables from n on lie at places of their own
abbrev pub AreApart : (ℕ → ℕ) → ℕ → ℕ → Type 0
AreApart place n count = (i j : ℕ) → i < count → j < count → place (n + i) ≡ place (n + j) → i ≡ j

-- what is written keeps its value: the variables of the storage are apart, and the value lies in its type, which has as many bits as
-- its bytes
abbrev pub CanTake : (ℕ → ℕ) → Storage → List Move → ℤ → Type 0
CanTake place (Cell ty n) moves v = AreNested moves × AreApart place n (span moves)
CanTake place (Brief ty n) moves v = AreNested moves × AreApart place n (span moves * 2)
CanTake place (Bit n b) moves v = (b < 8) × InRange Bool v
CanTake place (Bytes ty n count) moves v = (8 * count ≡ width_of ty) × InRange ty v
CanTake place (Fixed u) moves v = Unit {0}
CanTake place Nowhere moves v = Unit {0}

-- the bytes of a number go to as many variables from n on, the high one first
abbrev pub with_bytes : (ℕ → ℕ) → Valuation → ℕ → ℕ → ℕ → Valuation
with_bytes place w n zero number = w
with_bytes place w n (suc count) number =
    with_bytes place (put w (place n) (pos (number / 256 ^ count % 256))) (suc n) count number

-- the value is put there, and a brief cell has one then
abbrev pub written : (ℕ → ℕ) → Valuation → Storage → ℤ → Valuation
written place w (Cell ty n) v = put w (place n) v
written place w (Brief ty n) v = put (put w (place n) v) (place (suc n)) (pos 1)
written place w (Bit n b) v = put w (place n) (pos (with_bit (pattern_of Byte (w (place n))) b (pattern_of Bool v)))
written place w (Bytes ty n count) v = with_bytes place w n count (pattern_of ty v)
written place w (Fixed u) v = w
written place w Nowhere v = w

abbrev pub through : (ℕ → ℕ) → Valuation → Valuation
through place w = λ x. w (place x)

-- setting what a write sets puts the value into what the indexes lead to, and nothing else changes
abbrev pub WritesHold : Type 0
WritesHold = (place : ℕ → ℕ) (w : Valuation) (storage : Storage) (moves : List Move) (t : Term) (x : ℕ)
    → AreInside (through place w) moves → CanTake place storage moves (value_of (through place w) t)
    → set_through place (through place w) (write_sets storage moves (assigning t)) w x
    ≡ written place w (moved (moved_by (through place w) moves) storage) (value_of (through place w) t) x

-- ---- writes where a term is true

-- a bit's byte is one, and no bytes are written so
abbrev pub CanChoose : (ℕ → ℕ) → Valuation → Storage → Type 0
CanChoose place w (Cell ty n) = Unit {0}
CanChoose place w (Brief ty n) = Unit {0}
CanChoose place w (Bit n b) = InRange Byte (w (place n))
CanChoose place w (Bytes ty n count) = ⊥
CanChoose place w (Fixed u) = Unit {0}
CanChoose place w Nowhere = Unit {0}

-- setting what such a write sets puts the value where the term is true, and else changes nothing
abbrev pub ChoicesHold : Type 0
ChoicesHold = (place : ℕ → ℕ) (w : Valuation) (storage : Storage) (moves : List Move) (on t : Term) (x : ℕ)
    → AreInside (through place w) moves → CanTake place storage moves (value_of (through place w) t) → CanChoose place w storage
    → set_through place (through place w) (write_sets storage moves (choosing on t)) w x
    ≡ (if holds_in (through place w) on
    then written place w (moved (moved_by (through place w) moves) storage) (value_of (through place w) t) x else w x)
