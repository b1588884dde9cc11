-- Numbers that 64 bits hold; images and the visible cells at a scan's beginning, by the roles of the visible cells alone.
use Rattle.std.specs.Prelude.{ℕ, ◌^◌, ◌<◌, ℤ, pos, neg_ℤ, ◌≤ℤ◌, ◌<ℤ◌, List, [], ◌∷◌, map, length, filter, not, Bool, true, false, Option, Some, None, cond, slice_index_or, ◌≡◌}
use Rattle.pv_word.specs.Types.{InRange}
use Rattle.pv_place.specs.declared.role.Role.{Role}
use Rattle.pv_place.specs.declared.role.Role.TheVariants.{Input, Param, Kept, Brief}
use Rattle.pv_place.specs.Roles.{is_stored}
use Rattle.pv_mean.specs.declared.cell.Cell.{Cell}
use Rattle.pv_mean.specs.Frames.{first, others, visible_cells}
use Rattle.pv_mean.specs.Correct.{BindsInRange}

-- a number that 64 bits hold
abbrev pub IsLong : ℤ → Type 0
IsLong v = (neg_ℤ (pos (2 ^ 63)) ≤ℤ v) × (v <ℤ pos (2 ^ 63))

abbrev pub AreLong : List ℤ → Type 0
AreLong vs = (n : ℕ) → IsLong (slice_index_or vs n (pos 0))

-- the roles of the visible cells
abbrev pub roles_of : List Cell → List Role
roles_of cells = map (λ c. c.role) (visible_cells cells)

-- how many of them an image has
abbrev pub stored_count : List Role → ℕ
stored_count roles = length (filter is_stored roles)

-- ---- a scan's beginning

-- a stored cell takes the next value of the image, any other the next one of the scan's input
abbrev pub begun : Bool → ℤ → ℤ → ℤ
begun true stored given = stored
begun false stored given = given

-- what is left of the values, where the next one is taken
abbrev pub behind : Bool → List ℤ → List ℤ
behind true values = others values
behind false values = values

abbrev pub begin_by_roles : List Role → List ℤ → List ℤ → List ℤ
begin_by_roles [] image input = []
begin_by_roles (r ∷ rs) image input = begun (is_stored r) (first image) (first input)
    ∷ begin_by_roles rs (behind (is_stored r) image) (behind (not (is_stored r)) input)

-- ---- what a scan leaves

-- a kept cell its value at the end, a parameter its own
abbrev pub left : Role → ℤ → ℤ → ℤ
left Input own end = own
left Param own end = own
left Kept own end = end
left Brief own end = own

abbrev pub left_of : List Role → List ℤ → List ℤ → List ℤ
left_of [] image values = []
left_of (r ∷ rs) image values = cond (is_stored r)
    (left r (first image) (first values) ∷ left_of rs (others image) (others values))
    (left_of rs image (others values))

-- ---- a run's beginning

-- the value before the first scan of a cell that is stored: a free parameter takes the next one
abbrev pub started : Role → Option ℤ → ℤ → ℤ → ℤ
started Input bound start next = start
started Param None start next = next
started Param (Some v) start next = v
started Kept bound start next = start
started Brief bound start next = start

-- a cell whose values before the first scan lie in its type, and so 64 bits hold them
pub record BeginsLong (c : Cell) : Type 0 where
  pub start : InRange c.ty c.start
  pub bound : BindsInRange c

abbrev pub BeginLong : List Cell → Type 0
BeginLong cells = (n : ℕ) (c : Cell) → n < length cells → c ≡ slice_index_or cells n c → BeginsLong c
