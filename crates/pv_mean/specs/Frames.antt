-- Images, inputs and frames. An image has the values of the cells that are stored from scan to scan, an input those of the input
-- cells, both in the order of the table. A frame, on which a block works, has the values of all visible cells, and of each brief
-- cell of the block's activation a value or none.
use Rattle.std.specs.Prelude.{List, [], ◌∷◌, map, filter, length, ℕ, zero, suc, ℤ, pos, Bool, true, false, not, Option, Some, None, slice_set, slice_index_or}
use Rattle.pv_word.specs.declared.types.Ty.{Ty}
use Rattle.pv_word.specs.declared.types.Ty.TheVariants.{Dint}
use Rattle.pv_word.specs.Types.{wrap_of}
use Rattle.pv_place.specs.declared.role.Role.{Role}
use Rattle.pv_place.specs.declared.role.Role.TheVariants.{Input as InputRole, Param, Kept, Brief}
use Rattle.pv_place.specs.Roles.{is_input, is_stored}
use Rattle.pv_place.specs.Ranges.{Range, range_of, range_at}
use Rattle.pv_mean.specs.declared.cell.Cell.{Cell}
use Rattle.pv_mean.specs.Sources.{Source}

abbrev pub Image : Type 0
Image = List ℤ

abbrev pub Input : Type 0
Input = List ℤ

-- the values of the parameters that aren't bound, in the order of the table
abbrev pub Params : Type 0
Params = List ℤ

pub record Frame : Type 0 where
  pub visible : List ℤ
  pub brief : List (Option ℤ)

-- the first of the values, and the others
abbrev pub first : List ℤ → ℤ
first [] = pos 0
first (v ∷ vs) = v

abbrev pub others : List ℤ → List ℤ
others [] = []
others (v ∷ vs) = vs

-- ---- which cells have a value there

abbrev pub is_brief : Role → Bool
is_brief InputRole = false
is_brief Param = false
is_brief Kept = false
is_brief Brief = true

abbrev pub visible_cells : List Cell → List Cell
visible_cells cells = filter (λ c. not (is_brief c.role)) cells

abbrev pub stored_cells : List Cell → List Cell
stored_cells cells = filter (λ c. is_stored c.role) cells

abbrev pub input_cells : List Cell → List Cell
input_cells cells = filter (λ c. is_input c.role) cells

-- a parameter that no binding gives its value
abbrev pub is_free : Role → Option ℤ → Bool
is_free InputRole bound = false
is_free Param None = true
is_free Param (Some v) = false
is_free Kept bound = false
is_free Brief bound = false

abbrev pub free_cells : List Cell → List Cell
free_cells cells = filter (λ c. is_free c.role c.bound) cells

-- how many values an image has, an input, and a frame of visible ones
abbrev pub image_len : List Cell → ℕ
image_len cells = length (stored_cells cells)

abbrev pub input_len : List Cell → ℕ
input_len cells = length (input_cells cells)

abbrev pub visible_len : List Cell → ℕ
visible_len cells = length (visible_cells cells)

-- ---- their ranges

-- a bound parameter has its one value, every other cell those of its type
abbrev pub range_by : Role → Option ℤ → Ty → Range
range_by InputRole bound ty = range_of ty
range_by Param None ty = range_of ty
range_by Param (Some v) ty = range_at v
range_by Kept bound ty = range_of ty
range_by Brief bound ty = range_of ty

abbrev pub range_of_cell : Cell → Range
range_of_cell c = range_by c.role c.bound c.ty

-- those of visible cells are the types' alone: a block may write a parameter that is bound, and the next scan begins with the
-- bound value
abbrev pub visible_ranges : List Cell → List Range
visible_ranges cells = map (λ c. range_of c.ty) (visible_cells cells)

abbrev pub image_ranges : List Cell → List Range
image_ranges cells = map range_of_cell (stored_cells cells)

abbrev pub input_ranges : List Cell → List Range
input_ranges cells = map range_of_cell (input_cells cells)

abbrev pub param_ranges : List Cell → List Range
param_ranges cells = map range_of_cell (free_cells cells)

-- ---- the image before the first scan

-- a kept cell has its start value, a bound parameter its bound value, and a free one takes the next of the parameters
abbrev pub start_by : Role → Option ℤ → ℤ → (Params → Image) → Params → Image
start_by InputRole bound start rest params = rest params
start_by Param None start rest params = first params ∷ rest (others params)
start_by Param (Some v) start rest params = v ∷ rest params
start_by Kept bound start rest params = start ∷ rest params
start_by Brief bound start rest params = rest params

abbrev pub start_image : List Cell → Params → Image
start_image [] params = []
start_image (c ∷ cs) params =
    start_by c.role c.bound c.start (λ more. start_image cs more) params

-- ---- a scan's beginning and what it leaves

-- the visible cells at a scan's beginning: the image and the input stand in their cells
abbrev pub begin_by : Role → (Image → Input → List ℤ) → Image → Input → List ℤ
begin_by InputRole rest image input = first input ∷ rest image (others input)
begin_by Param rest image input = first image ∷ rest (others image) input
begin_by Kept rest image input = first image ∷ rest (others image) input
begin_by Brief rest image input = rest image input

abbrev pub begin : List Cell → Image → Input → List ℤ
begin [] image input = []
begin (c ∷ cs) image input = begin_by c.role (λ im inp. begin cs im inp) image input

-- the image that a scan leaves, by the visible cells at its beginning and its end: what is kept has its value of the end, and a
-- parameter that of the beginning
abbrev pub left_by : Role → (List ℤ → List ℤ → Image) → List ℤ → List ℤ → Image
left_by InputRole rest begun ended = rest (others begun) (others ended)
left_by Param rest begun ended = first begun ∷ rest (others begun) (others ended)
left_by Kept rest begun ended = first ended ∷ rest (others begun) (others ended)
left_by Brief rest begun ended = rest begun ended

abbrev pub image_after : List Cell → List ℤ → List ℤ → Image
image_after [] begun ended = []
image_after (c ∷ cs) begun ended = left_by c.role (λ b e. image_after cs b e) begun ended

-- ---- single cells

-- the type of the visible cell of this number; behind the table's last one it doesn't matter
abbrev pub type_of_visible : List Cell → ℕ → Ty
type_of_visible [] n = Dint
type_of_visible (c ∷ cs) zero = c.ty
type_of_visible (c ∷ cs) (suc n) = type_of_visible cs n

abbrev pub visible_value : Frame → ℕ → ℤ
visible_value frame n = slice_index_or frame.visible n (pos 0)

abbrev pub brief_value : Frame → ℕ → Option ℤ
brief_value frame n = slice_index_or frame.brief n None

-- a cell takes a value, wrapped to its type. By the rules a value that is assigned lies in the type already
abbrev pub with_visible : Source → Frame → ℕ → ℤ → Frame
with_visible source frame n v = record {
  visible = slice_set frame.visible n (wrap_of (type_of_visible (visible_cells source.cells) n) v);
  brief = frame.brief;
}

abbrev pub with_brief : Frame → Ty → ℕ → ℤ → Frame
with_brief frame ty n v = record {
  visible = frame.visible;
  brief = slice_set frame.brief n (Some (wrap_of ty v));
}
