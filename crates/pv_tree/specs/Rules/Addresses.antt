-- A bit's number is over 7, or an area byte over 65,535; of a word or double word the last byte counts. The place is the address.
use Rattle.std.specs.Prelude.{◌≡◌, List, Bool as Truth, false, not, Any, IsTrue}
use Rattle.pv_place.specs.declared.place.Place.{Place}
use Rattle.pv_tree.specs.declared.expr.Root.{Root}
use Rattle.pv_tree.specs.declared.expr.Root.TheVariants.{Local, Named, Area}
use Rattle.pv_tree.specs.Tree.{OperandTree, operand}
use Rattle.pv_tree.specs.Scopes.{ProjectTree}
use Rattle.pv_tree.specs.Things.{is_address, place_of_operand}
use Rattle.pv_tree.specs.Parts.{operands_of}

abbrev pub is_wrong_root : Root → Truth
is_wrong_root (Local name hash place) = false
is_wrong_root (Named name) = false
is_wrong_root (Area area bits byte bit) = not (is_address bits byte bit)

abbrev pub is_wrong_operand : OperandTree → Truth
is_wrong_operand (operand root more place) = is_wrong_root root

abbrev pub HasWrongAddress : Place → List OperandTree → Type 0
HasWrongAddress at operands =
    Any (λ o. (place_of_operand o ≡ at) × IsTrue (is_wrong_operand o)) operands

abbrev pub IsWrongAddress : ProjectTree → Place → Type 0
IsWrongAddress project at = Any (λ b. HasWrongAddress at (operands_of project b)) project.blocks
