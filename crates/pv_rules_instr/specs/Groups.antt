-- The code's groups of instructions as those of the tree.
use Rattle.pv_tree.specs.InstructionGroups as groups
use Rattle.pv_rules_instr.specs.declared.group.Group.{Group}
use Rattle.pv_rules_instr.specs.declared.group.Group.TheVariants.{BitRead, BitWritten, Load, Transfer, WordLogic, DoubleLogic, WordShift, DoubleShift, NoOperation, Display, Jump, Opening, Closing, BlockEnd, Calling, Alone}

abbrev pub group_tree : Group → groups.Group
group_tree BitRead = groups.bit_read
group_tree BitWritten = groups.bit_written
group_tree Load = groups.load
group_tree Transfer = groups.transfer
group_tree WordLogic = groups.word_logic
group_tree DoubleLogic = groups.double_logic
group_tree WordShift = groups.word_shift
group_tree DoubleShift = groups.double_shift
group_tree NoOperation = groups.no_operation
group_tree Display = groups.display
group_tree Jump = groups.jump
group_tree Opening = groups.opening
group_tree Closing = groups.closing
group_tree BlockEnd = groups.block_end
group_tree Calling = groups.calling
group_tree Alone = groups.alone
