use Rattle.std.proofs.Common.{map, take}
use Rattle.pv_tree.specs.View.{arg_tree}
use Rattle.pv_tree.specs.Callees.{How}
use Rattle.pv_names.specs.Entries.{block_of}
use Rattle.pv_names.specs.Unique.{HaveUniqueNames}
use Rattle.pv_program.specs.Sought.{HaveAll}
use Rattle.pv_program.proofs.given.numbers_of.Given as goal

abbrev pub invariant-loop-arg : goal.invariant-loop-arg
invariant-loop-arg l = (how : How) → HaveUniqueNames (block_of l.callee).vars
    → HaveAll how (block_of l.callee) (map arg_tree (take l.arg-index l.arg-items)) 0 l.numbers.items
