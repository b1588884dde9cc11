-- What private clauses cite: the numbers of words by the block's variables alone.
use Rattle.std.specs.Prelude.{ℕ, List, map, bytes_eq, Option, None, unwrap_or, false, if◌then◌else◌}
use Rattle.pv_types.specs.Tree.{VarTree}
use Rattle.pv_types.specs.View.{name_of, section_of}
use Rattle.pv_tree.specs.declared.expr.Root.{Root}
use Rattle.pv_tree.specs.declared.expr.Root.TheVariants.{Local, Named, Area}
use Rattle.pv_tree.specs.Tree.{OperandTree, operand}
use Rattle.pv_names.specs.Firsts.{first_number}
use Rattle.pv_bool.specs.declared.program.Bit.{Bit}
use Rattle.pv_mean.specs.Cells.{role_of}
use Rattle.pv_bool_form.specs.Programs.{bit_role}

-- the number of the first variable of this key
abbrev pub place_of_key : List VarTree → List ℕ → Option ℕ
place_of_key vars key = first_number (bytes_eq key) (map (λ v. (name_of v).key) vars)

abbrev pub place_of_root : List VarTree → Root → Option ℕ
place_of_root vars (Local name hash place) = if hash then None else place_of_key vars name.key
place_of_root vars (Named name) = None
place_of_root vars (Area area bits byte bit) = None

-- the number of the variable that an operand's word is; behind what is no word it doesn't matter
abbrev pub place_among : List VarTree → OperandTree → ℕ
place_among vars (operand root more place) = unwrap_or (place_of_root vars root) 0

-- the bit of a variable
abbrev pub bit_of_var : VarTree → Bit
bit_of_var v = record { role = bit_role (role_of (section_of v)); start = false }
