-- What the laws say of instructions.
use Rattle.std.specs.Prelude.{◌≡◌, List, [], ◌∷◌, Bool as Truth, true, false, Option, None, ⊤}
use Rattle.pv_place.specs.declared.place.Place.{Place}
use Rattle.pv_types.specs.declared.declaration.Literal.{Literal}
use Rattle.pv_tree.specs.declared.instr.Op.{Op}
use Rattle.pv_tree.specs.declared.instr.Op.TheVariants.{EqI, NeI, GtI, LtI, GeI, LeI, EqD, NeD, GtD, LtD, GeD, LeD}
use Rattle.pv_tree.specs.Tree.{OperandTree, InstrTree}
use Rattle.pv_mean.specs.Registers.{Logic, Nesting, Working, with_logic, with_nestings}
use Rattle.pv_mean.specs.Instructions.{with_registers}

-- an instruction without a label and a call
abbrev pub plainly : Op → Option OperandTree → Option Literal → Place → InstrTree
plainly op operand literal place = record {
  label = None;
  op = op;
  operand = operand;
  literal = literal;
  call = None;
  place = place;
}

abbrev pub is_comparison : Op → Truth
is_comparison EqI = true
is_comparison NeI = true
is_comparison GtI = true
is_comparison LtI = true
is_comparison GeI = true
is_comparison LeI = true
is_comparison EqD = true
is_comparison NeD = true
is_comparison GtD = true
is_comparison LtD = true
is_comparison GeD = true
is_comparison LeD = true
is_comparison op = false

-- the same with other bits of the chain, and with other open nestings besides
abbrev pub having : Working → Logic → Working
having w l = with_registers w (with_logic w.registers l)

abbrev pub having_open : Working → Logic → List Nesting → Working
having_open w l n = with_registers w (with_logic (with_nestings w.registers n) l)

-- none of the instructions has a label, as inside nestings
abbrev pub AreUnlabelled : List InstrTree → Type 0
AreUnlabelled [] = ⊤
AreUnlabelled (i ∷ more) = (i.label ≡ None) × AreUnlabelled more
