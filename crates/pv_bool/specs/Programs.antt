-- The code's programs as plain data.
use Rattle.pv_bool.specs.declared.program.Program.{Program}
use Rattle.pv_bool.specs.Tree.{ProgramTree, tree_of}

abbrev pub program_tree : Program → ProgramTree
program_tree program = tree_of program.bits.items program.body.items program.holds
