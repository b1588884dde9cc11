use Rattle.std.proofs.Common.{map, take}
use Rattle.pv_tree.specs.View.{arg_tree}
use Rattle.pv_names.specs.Entries.{block_of}
use Rattle.pv_names.specs.Callees.{how_tree}
use Rattle.pv_program.specs.Handed.{FindsArguments}
use Rattle.pv_program.proofs.argument.arguments_of.Given as goal

abbrev pub invariant-loop-i : goal.invariant-loop-i
invariant-loop-i l = FindsArguments (how_tree l.how) (block_of l.callee) (map arg_tree (take l.i l.args)) l.numbers
