-- The bytes of the areas of inputs, outputs and flags that have cells: those that an operand of a source, a symbol or a pattern
-- names, each once, by number.
use Rattle.std.specs.Prelude.{ℕ, zero, suc, ◌+◌, ◌-◌, List, [], ◌∷◌, ◌++◌, map, flat_map, nat_eq, nat_lt, length, Bool as Truth, true, false, ◌&&◌, if◌then◌else◌}
use Rattle.std.specs.List.{position_or_len}
use Rattle.pv_tree.specs.declared.expr.Area.{Area}
use Rattle.pv_tree.specs.declared.expr.Area.TheVariants.{I, Q, M}
use Rattle.pv_tree.specs.declared.expr.Root.{Root}
use Rattle.pv_tree.specs.declared.expr.Root.TheVariants.{Local, Named, Area as InArea}
use Rattle.pv_tree.specs.Tree.{OperandTree, operand}
use Rattle.pv_tree.specs.Scopes.{ProjectTree}
use Rattle.pv_tree.specs.Things.{last_byte, is_address}
use Rattle.pv_tree.specs.Parts.{operands_of}

-- the numbers of each area's bytes, rising
pub record Bytes : Type 0 where
  pub inputs : List ℕ
  pub outputs : List ℕ
  pub flags : List ℕ

abbrev pub is_same_area : Area → Area → Truth
is_same_area I I = true
is_same_area Q Q = true
is_same_area M M = true
is_same_area a b = false

-- as many numbers from n on
abbrev pub from_on : ℕ → ℕ → List ℕ
from_on n zero = []
from_on n (suc count) = n ∷ from_on (n + 1) count

-- the bytes of an area that an operand names: a word two, a double word four; an address that there isn't names none
abbrev pub bytes_of_root : Area → Root → List ℕ
bytes_of_root area (Local name hash place) = []
bytes_of_root area (Named name) = []
bytes_of_root area (InArea other bits byte bit) =
    if is_same_area area other && is_address bits byte bit
    then from_on byte (last_byte bits byte - byte + 1) else []

abbrev pub bytes_of_operand : Area → OperandTree → List ℕ
bytes_of_operand area (operand root more place) = bytes_of_root area root

-- rising numbers with one more, unless it is there
abbrev pub with_number : ℕ → List ℕ → List ℕ
with_number n [] = n ∷ []
with_number n (m ∷ more) =
    if nat_lt n m then n ∷ m ∷ more else (if nat_eq n m then m ∷ more else m ∷ with_number n more)

abbrev pub rising : List ℕ → List ℕ
rising [] = []
rising (n ∷ more) = with_number n (rising more)

-- all operands of the sources, the symbols' and those that patterns name
abbrev pub all_operands : ProjectTree → List OperandTree → List OperandTree
all_operands project patterns =
    flat_map (operands_of project) project.blocks ++ map (λ s. s.at) project.symbols ++ patterns

abbrev pub named_bytes : ProjectTree → List OperandTree → Area → List ℕ
named_bytes project patterns area =
    rising (flat_map (bytes_of_operand area) (all_operands project patterns))

abbrev pub bytes_of : ProjectTree → List OperandTree → Bytes
bytes_of project patterns = record {
  inputs = named_bytes project patterns I;
  outputs = named_bytes project patterns Q;
  flags = named_bytes project patterns M;
}

-- the place of an area's byte among the cells of bytes
abbrev pub place_of_byte : Bytes → Area → ℕ → ℕ
place_of_byte bytes I n = position_or_len (nat_eq n) bytes.inputs
place_of_byte bytes Q n = length bytes.inputs + position_or_len (nat_eq n) bytes.outputs
place_of_byte bytes M n =
    length bytes.inputs + length bytes.outputs + position_or_len (nat_eq n) bytes.flags
