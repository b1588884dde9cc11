-- STL instructions by what may stand behind them. After the reference manual Statement List (STL) for S7-300/S7-400.
use Rattle.std.specs.Prelude.{Bool as Truth, true, false, if◌then◌else◌, Option, Some, None, option_and_then}
use Rattle.pv_place.specs.declared.place.Place.{Place}
use Rattle.pv_tree.specs.declared.expr.Root.{Root}
use Rattle.pv_tree.specs.declared.expr.Root.TheVariants.{Local, Named, Area}
use Rattle.pv_tree.specs.declared.instr.Op.{Op}
use Rattle.pv_tree.specs.declared.instr.Op.TheVariants.{A, An, O, On, X, Xn, AOpen, AnOpen, OOpen, OnOpen, XOpen, XnOpen, Close, Assign, S, R, Fp, Fn, Nop, Bld, L, T, Aw, Ow, Xow, Ad, Od, Xod, Slw, Srw, Sld, Srd, Ju, Jc, Jcb, Jcn, Jnb, Jz, Jn, Jp, Jm, Jpz, Jmz, Jo, Loop, Be, Beu, Bec, Call, Uc}
use Rattle.pv_tree.specs.Tree.{PlacedName, OperandTree, operand, StepTrees, no_steps, steps, InstrTree}

-- a bit is read, or read and written, or written; a value is loaded or transferred; a literal is joined to the low word or to the
-- whole; the low word or the whole is shifted; NOP and BLD have a number; a jump has a label; a nesting is opened or closed; the
-- block ends; a block is called; and what stands alone
pub data Group : Type 0 where
  bit_read : Group
  bit_written : Group
  load : Group
  transfer : Group
  word_logic : Group
  double_logic : Group
  word_shift : Group
  double_shift : Group
  no_operation : Group
  display : Group
  jump : Group
  opening : Group
  closing : Group
  block_end : Group
  calling : Group
  alone : Group

abbrev pub group_of : Op → Group
group_of A = bit_read
group_of An = bit_read
group_of O = bit_read
group_of On = bit_read
group_of X = bit_read
group_of Xn = bit_read
group_of Assign = bit_written
group_of S = bit_written
group_of R = bit_written
group_of Fp = bit_written
group_of Fn = bit_written
group_of L = load
group_of T = transfer
group_of Aw = word_logic
group_of Ow = word_logic
group_of Xow = word_logic
group_of Ad = double_logic
group_of Od = double_logic
group_of Xod = double_logic
group_of Slw = word_shift
group_of Srw = word_shift
group_of Sld = double_shift
group_of Srd = double_shift
group_of Nop = no_operation
group_of Bld = display
group_of Ju = jump
group_of Jc = jump
group_of Jcb = jump
group_of Jcn = jump
group_of Jnb = jump
group_of Jz = jump
group_of Jn = jump
group_of Jp = jump
group_of Jm = jump
group_of Jpz = jump
group_of Jmz = jump
group_of Jo = jump
group_of Loop = jump
group_of AOpen = opening
group_of AnOpen = opening
group_of OOpen = opening
group_of OnOpen = opening
group_of XOpen = opening
group_of XnOpen = opening
group_of Close = closing
group_of Be = block_end
group_of Beu = block_end
group_of Bec = block_end
group_of Call = calling
group_of Uc = calling
group_of op = alone

abbrev pub is_jump : Group → Truth
is_jump jump = true
is_jump group = false

-- what an instruction writes
abbrev pub is_written : Group → Truth
is_written bit_written = true
is_written transfer = true
is_written group = false

-- the label that a jump names: one word without `#` and steps
abbrev pub label_behind : Root → StepTrees → Option PlacedName
label_behind (Local name true place) more = None
label_behind (Local name false place) no_steps = Some (name, place)
label_behind (Local name false place) (steps step more) = None
label_behind (Named name) more = None
label_behind (Area area bits byte bit) more = None

abbrev pub label_of_operand : OperandTree → Option PlacedName
label_of_operand (operand root more place) = label_behind root more

abbrev pub label_of_jump : InstrTree → Option PlacedName
label_of_jump i =
    if is_jump (group_of i.op) then option_and_then label_of_operand i.operand else None

-- the operand that an instruction reads or writes: all but that of a jump
abbrev pub operand_of_instruction : InstrTree → Option OperandTree
operand_of_instruction i = if is_jump (group_of i.op) then None else i.operand

abbrev pub written_operand : InstrTree → Option OperandTree
written_operand i = if is_written (group_of i.op) then i.operand else None

-- the place of an instruction's first token: its label's, where it has one
abbrev pub first_place_of : InstrTree → Place
first_place_of i = elim i.label [ None ↦ i.place | Some label ↦ label.1 ]
