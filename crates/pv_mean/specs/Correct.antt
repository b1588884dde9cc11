-- What the laws say of cells, spots and loops.
use Rattle.std.specs.Prelude.{◌≡◌, ◌≢◌, ◌⊎◌, ◌<◌, ◌≤◌, ℕ, zero, suc, ◌+◌, ℤ, ◌+ℤ◌, Bool, true, false, ⊤}
use Rattle.pv_place.specs.Ranges.{range_of, IsWithin}
use Rattle.pv_tree.specs.Tree.{OperandTree}
use Rattle.pv_tree.specs.Callees.{CallSite}
use Rattle.pv_mean.specs.declared.cell.Cell.{Cell}
use Rattle.pv_mean.specs.Sources.{Source}
use Rattle.pv_mean.specs.Frames.{Frame, visible_value, range_of_cell}
use Rattle.pv_mean.specs.Endings.{got, Ending, normal}
use Rattle.pv_mean.specs.Spots.{Spot, visible, brief, bit, bytes, fixed, nowhere, read_spot, write_spot}
use Rattle.pv_mean.specs.Activations.{Activation}
use Rattle.pv_mean.specs.Values.{locate}
use Rattle.pv_mean.specs.Statements.{Calls, Counting, is_on_the_way}
use Rattle.pv_mean.specs.Doings.{HoldsOf}

-- a value of the cell's range is one of its type: a parameter is bound to none other
abbrev pub BindsInRange : Cell → Type 0
BindsInRange c = (v : ℤ) → IsWithin (range_of_cell c) v → IsWithin (range_of c.ty) v

-- ---- spots apart from a cell

-- a write to the spot leaves this visible cell
abbrev pub Misses : ℕ → Spot → Type 0
Misses n (visible m) = n ≢ m
Misses n (brief ty m) = ⊤
Misses n (bit m b) = n ≢ m
Misses n (bytes ty m count) = (n < m) ⊎ (m + count ≤ n)
Misses n (fixed v) = ⊤
Misses n nowhere = ⊤

-- wherever the operand's indexes lead it names such a spot
abbrev pub IsApart : Source → Activation → ℕ → OperandTree → Type 0
IsApart source act n target = (frame : Frame) (spot : Spot)
    → locate source act frame target ≡ got spot → Misses n spot

-- the call leaves the cell
abbrev pub CallLeaves : Calls → Activation → ℕ → CallSite → Type 0
CallLeaves calls act n site = (frame : Frame) (v : ℤ) → visible_value frame n ≡ v
    → HoldsOf (λ back. visible_value back.frame n ≡ v) (calls act site frame)

-- ---- turns of a FOR

-- from this count on there are exactly so many turns
abbrev pub Takes : Counting → ℤ → ℕ → Type 0
Takes loop count zero = is_on_the_way loop.by count loop.last ≡ false
Takes loop count (suc n) =
    (is_on_the_way loop.by count loop.last ≡ true) × Takes loop (count +ℤ loop.by) n

-- the frame behind so many turns, by what one turn's statements do
abbrev pub behind_turns : Source → Counting → (Frame → Frame) → ℤ → ℕ → Frame → Frame
behind_turns source loop turn count zero frame = frame
behind_turns source loop turn count (suc n) frame = behind_turns source loop turn
    (count +ℤ loop.by) n (write_spot source (turn frame) loop.variable (count +ℤ loop.by))

-- in such frames a body that ends normally, and leaves the loop's variable, which holds each of such counts: frames that fit stay
-- so, and a count that is on the way follows on one
pub record LeavesVariable (source : Source) (loop : Counting) (fits : Frame → Bool)
    (is_count : ℤ → Bool) (body : Frame → Ending) (turn : Frame → Frame) : Type 0 where
  pub ends : (frame : Frame) → fits frame ≡ true → body frame ≡ normal (turn frame)
  pub keeps : (frame : Frame) → fits frame ≡ true → fits (turn frame) ≡ true
  pub writes : (frame : Frame) (v : ℤ) → fits frame ≡ true
      → fits (write_spot source frame loop.variable v) ≡ true
  pub leaves : (frame : Frame) (v : ℤ) → fits frame ≡ true
      → read_spot frame loop.variable_place loop.variable ≡ got v
      → read_spot (turn frame) loop.variable_place loop.variable ≡ got v
  pub follows : (v : ℤ) → is_count v ≡ true
      → is_on_the_way loop.by (v +ℤ loop.by) loop.last ≡ true → is_count (v +ℤ loop.by) ≡ true
  pub holds : (frame : Frame) (v : ℤ) → fits frame ≡ true → is_count v ≡ true
      → read_spot (write_spot source frame loop.variable v) loop.variable_place loop.variable ≡ got v
