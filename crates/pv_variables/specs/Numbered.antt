-- The code's numbers of a block's variables.
use Rattle.std.specs.Prelude.{◌≡◌, ℕ, zero, suc, ◌+◌, ◌^◌, ◌<◌, ◌≤◌, List, [], ◌∷◌, ◌++◌, length, Bool as Truth, not, if◌then◌else◌, Some, slice_get}
use Rattle.pv_types.specs.Tree.{VarTree, var}
use Rattle.pv_tree.specs.Tree.{BlockTree}
use Rattle.pv_tree.specs.Scopes.{ProjectTree}
use Rattle.pv_mean.specs.Layout.{size_in, is_brief_in, entry_size}
use Rattle.pv_mean.specs.Sources.{Source}
use Rattle.pv_mean.specs.Activations.{value_number}
use Rattle.pv_mean.specs.Frames.{visible_len}
use Rattle.pv_mean.specs.Spots.{Spot, visible, brief, bit, bytes, fixed, nowhere}
use Rattle.pv_variables.specs.Origins.{Origin, in_instance, in_table, in_activation, at_spot}
use Rattle.pv_variables.specs.Variables.{is_bound_in, behind, bound_count, shared_count, value_count, brief_variable, registers_first}
use Rattle.pv_variables.specs.declared.numbers.Numbers.{Numbers}
use Rattle.pv_variables.specs.declared.numbers.Next.{Next}

-- they are those of the block; each brief cell that an operand may name has one, and no other, and the registers are behind its own
pub record AreNumbers (n : Numbers) (source : Source) (block : BlockTree) : Type 0 where
  pub bound : n.bound ≡ bound_count source block
  pub shared : n.shared ≡ shared_count source
  pub entry : n.entry ≡ entry_size source.project source.entry
  pub count : length n.briefs.items ≡ value_number source block + value_count block
  pub cells : (j : ℕ) → j < value_number source block + value_count block
      → slice_get n.briefs.items j ≡ Some (brief_variable source block j)
  pub registers : n.registers ≡ registers_first source block

-- ---- as they are found, variable by variable

-- so many numbers from this one on, two apart
abbrev pub two_apart : ℕ → ℕ → List ℕ
two_apart zero n = []
two_apart (suc count) n = n ∷ two_apart count (n + 2)

-- the numbers so far, and the next ones of a bound variable and of one of the block's own
pub record Found : Type 0 where
  pub cells : List ℕ
  pub bound : ℕ
  pub own : ℕ

abbrev pub found_so_far : List ℕ → Next → Found
found_so_far cells next = record { cells = cells; bound = next.bound; own = next.own }

-- 32 bits hold the next numbers
pub record HasNext (f : Found) : Type 0 where
  pub bound : f.bound < 2 ^ 32
  pub own : f.own < 2 ^ 32

abbrev pub with_cells : Truth → ℕ → Found → Found
with_cells is_bound size f = record {
  cells = f.cells ++ two_apart size (if is_bound then f.bound else f.own);
  bound = behind is_bound f.bound size;
  own = behind (not is_bound) f.own size;
}

abbrev pub with_variable : ProjectTree → BlockTree → VarTree → Found → Found
with_variable project block (var name section ty start place) f =
    if is_brief_in block section then with_cells (is_bound_in block section) (size_in project ty) f else f

abbrev pub with_variables : ProjectTree → BlockTree → List VarTree → Found → Found
with_variables project block [] f = f
with_variables project block (v ∷ more) f = with_variables project block more (with_variable project block v f)

-- ---- where an operand's cells have numbers

-- the brief cell that begins there is one of the block's, and a number of any other is that of a visible cell
abbrev pub IsNumberedSpot : Source → BlockTree → Spot → Type 0
IsNumberedSpot source block (visible n) = n < visible_len source.cells
IsNumberedSpot source block (brief ty j) = j < value_number source block + value_count block
IsNumberedSpot source block (bit n b) = n < visible_len source.cells
IsNumberedSpot source block (bytes ty n count) = n + count ≤ visible_len source.cells
IsNumberedSpot source block (fixed v) = Unit {0}
IsNumberedSpot source block nowhere = Unit {0}

abbrev pub IsNumbered : Source → BlockTree → Origin → Type 0
IsNumbered source block (in_instance laid) = Unit {0}
IsNumbered source block (in_table laid) = laid.first < visible_len source.cells
IsNumbered source block (in_activation laid) = laid.first < value_number source block + value_count block
IsNumbered source block (at_spot spot) = IsNumberedSpot source block spot
