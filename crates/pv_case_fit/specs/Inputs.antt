-- What a case says of a project's inputs, against the table of its cells.
use Rattle.std.specs.Prelude.{◌≡◌, ℕ, ◌==◌, ℤ, int_le, List, [], ◌∷◌, ◌++◌, map, filter_map, find, slice_get, Bool, false, not, ◌&&◌, if◌then◌else◌, is_some, Option, Some, None, option_map, option_and_then}
use Rattle.std.specs.List.{list_any}
use Rattle.pv_word.specs.Types.{least_of, greatest_of}
use Rattle.pv_place.specs.Roles.{is_input}
use Rattle.pv_mean.specs.declared.cell.Cell.{Cell}
use Rattle.pv_mean.specs.Paths.{number_of_path}

-- ---- inputs by their paths

abbrev pub input_where : Option Cell → ℕ → Option ℕ
input_where None n = None
input_where (Some cell) n = if is_input cell.role then Some n else None

-- the number of the first cell of this path, where it is an input
abbrev pub number_of_input : List Cell → List ℕ → Option ℕ
number_of_input cells path = option_and_then (λ n. input_where (slice_get cells n) n) (number_of_path cells path)

abbrev pub is_no_input : List Cell → List ℕ → Bool
is_no_input cells path = not (is_some (number_of_input cells path))

-- the first of the paths that is none of an input
abbrev pub first_stray : List Cell → List (List ℕ) → Option (List ℕ)
first_stray cells paths = find (is_no_input cells) paths

-- the paths that a case lists: its parameters, and then the inputs that it binds
abbrev pub listed : List (List ℕ) → List (List ℕ × ℤ) → List (List ℕ)
listed params bind = params ++ map (λ b. b.0) bind

-- ---- bound values

-- the value is one of the cell's type
abbrev pub holds : Option Cell → ℤ → Bool
holds None v = false
holds (Some cell) v = int_le (least_of cell.ty) v && int_le v (greatest_of cell.ty)

-- the input of this number has such a value, and is none of those that are bound already
abbrev pub fits_at : List Cell → List ℕ → ℤ → Option ℕ → Bool
fits_at cells earlier v None = false
fits_at cells earlier v (Some n) = holds (slice_get cells n) v && not (list_any (λ m. n == m) earlier)

-- one more, where there is one
abbrev pub with_some : {A : Type 0} → List A → Option A → List A
with_some xs None = xs
with_some xs (Some x) = xs ++ x ∷ []

-- the first of the bound inputs that doesn't fit, behind those of these numbers
abbrev pub first_misfit : List Cell → List ℕ → List (List ℕ × ℤ) → Option (List ℕ)
first_misfit cells earlier [] = None
first_misfit cells earlier (b ∷ more) =
    if fits_at cells earlier b.1 (number_of_input cells b.0)
    then first_misfit cells (with_some earlier (number_of_input cells b.0)) more
    else Some b.0

-- ---- what a case then says of the cells by their numbers

abbrev pub numbers_of : List Cell → List (List ℕ) → List ℕ
numbers_of cells params = filter_map (number_of_input cells) params

abbrev pub bound_number : List Cell → List ℕ × ℤ → Option (ℕ × ℤ)
bound_number cells b = option_map (λ n. (n, b.1)) (number_of_input cells b.0)

abbrev pub bounds_of : List Cell → List (List ℕ × ℤ) → List (ℕ × ℤ)
bounds_of cells bind = filter_map (bound_number cells) bind

-- each path is that of an input, each value fits, and these are the inputs by their numbers
pub record Views (cells : List Cell) (params : List (List ℕ)) (bind : List (List ℕ × ℤ)) (numbers : List ℕ) (bounds : List (ℕ × ℤ))
    : Type 0 where
  pub all_inputs : first_stray cells (listed params bind) ≡ None
  pub all_fit : first_misfit cells [] bind ≡ None
  pub numbers_are : numbers ≡ numbers_of cells params
  pub bounds_are : bounds ≡ bounds_of cells bind

-- the first path that is none of an input
abbrev pub IsStray : List Cell → List (List ℕ) → List (List ℕ × ℤ) → List ℕ → Type 0
IsStray cells params bind path = first_stray cells (listed params bind) ≡ Some path

-- all are inputs, and this is the first that doesn't fit
pub record IsMisfit (cells : List Cell) (params : List (List ℕ)) (bind : List (List ℕ × ℤ)) (path : List ℕ) : Type 0 where
  pub all_inputs : first_stray cells (listed params bind) ≡ None
  pub first : first_misfit cells [] bind ≡ Some path
