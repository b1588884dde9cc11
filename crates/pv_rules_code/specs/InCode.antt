-- What breaks a rule in the statements and instructions of a block: of names, of types and of literals. Declarations and the values of
-- data blocks are left out.
use Rattle.std.specs.Prelude.{◌≡◌, ◌⊎◌, ◌++◌, List, false, map, flat_map, Any}
use Rattle.pv_place.specs.declared.place.Place.{Place}
use Rattle.pv_tree.specs.Tree.{OperandTree, BlockTree}
use Rattle.pv_tree.specs.Scopes.{ProjectTree}
use Rattle.pv_tree.specs.Things.{no_name, thing_of_word}
use Rattle.pv_tree.specs.Callees.{not_declared, callee_of}
use Rattle.pv_tree.specs.Parts.{Part, spots_of_body, instructions_of, parts_of_stmt, parts_of_instruction, reads_of_parts, assigned_operands, instruction_operands, calls_of, path_of, indexes_of}
use Rattle.pv_tree.specs.Rules.MissingNames.{MissesName, words_of}
use Rattle.pv_tree.specs.Rules.Misfits.{MisusesPath, Misapplies, MisfitsStmt, NamesDate, MisfitsCall}
use Rattle.pv_tree.specs.Rules.Addresses.{HasWrongAddress}
use Rattle.pv_tree.specs.Rules.Arrays.{IsBeyond}
use Rattle.pv_tree.specs.Rules.OutOfRange.{IsPartOutside, IsStmtOutside}
use Rattle.pv_tree.specs.Rules.Callable.{ReadsVoid}
use Rattle.pv_rules_code.specs.Sites.{in_block}

-- the expressions of statements and instructions, and the operands that they read, assign or name
abbrev pub code_parts : ProjectTree → BlockTree → List Part
code_parts project b =
    flat_map (λ s. parts_of_stmt (in_block project b) s.stmt) (spots_of_body b.body)
    ++ flat_map (parts_of_instruction (in_block project b)) (instructions_of b.body)

abbrev pub code_operands : ProjectTree → BlockTree → List OperandTree
code_operands project b = reads_of_parts (code_parts project b) ++ (assigned_operands b ++ instruction_operands b)

-- a name that isn't declared, or a field that is missing
abbrev pub MissesIn : ProjectTree → Place → BlockTree → Type 0
MissesIn project at b =
    MissesName (in_block project b) (map (path_of (in_block project b)) (code_operands project b)) at
    ⊎ (Any (λ s. callee_of (in_block project b) s ≡ not_declared at) (calls_of b)
    ⊎ Any (λ s. Any (λ n. thing_of_word (in_block project b) n.0.key false n.1 ≡ no_name at) (words_of s.stmt)) (spots_of_body b.body))

-- types that don't fit, but for indexes and for dates that operands come to
abbrev pub MisfitsIn : ProjectTree → Place → BlockTree → Type 0
MisfitsIn project at b =
    Any (λ p. Misapplies (in_block project b) at p.expr) (code_parts project b)
    ⊎ (Any (λ s. MisfitsStmt (in_block project b) at s.stmt ⊎ NamesDate (in_block project b) at s.stmt) (spots_of_body b.body)
    ⊎ Any (MisfitsCall (in_block project b) at) (calls_of b))

-- a literal outside its type
abbrev pub OutsideIn : ProjectTree → Place → BlockTree → Type 0
OutsideIn project at b =
    Any (IsPartOutside at) (code_parts project b) ⊎ Any (λ s. IsStmtOutside (in_block project b) at s.stmt) (spots_of_body b.body)

-- an index at what is no array or of another type, or a variable of DATE_AND_TIME
abbrev pub MisusesIn : ProjectTree → Place → BlockTree → Type 0
MisusesIn project at b = Any (λ o. MisusesPath (in_block project b) at (path_of (in_block project b) o)) (code_operands project b)

-- a literal index beyond the bounds
abbrev pub BeyondIn : ProjectTree → Place → BlockTree → Type 0
BeyondIn project at b =
    Any (λ o. Any (IsBeyond (in_block project b) at) (indexes_of (in_block project b) (path_of (in_block project b) o))) (code_operands project b)

-- an address that there isn't
abbrev pub AddressesIn : ProjectTree → Place → BlockTree → Type 0
AddressesIn project at b = HasWrongAddress at (code_operands project b)

-- the name of a function without a value, read in an expression, whether or not a call writes it
abbrev pub VoidsIn : ProjectTree → Place → BlockTree → Type 0
VoidsIn project at b = Any (ReadsVoid (in_block project b) at) (reads_of_parts (code_parts project b))
