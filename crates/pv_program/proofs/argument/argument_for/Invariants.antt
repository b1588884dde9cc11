use Rattle.std.proofs.Common.{◌≡◌, map, drop}
use Rattle.std.specs.Prelude.{find}
use Rattle.pv_tree.specs.View.{arg_tree}
use Rattle.pv_mean.specs.Calls.{is_for}
use Rattle.pv_names.specs.Callees.{how_tree}
use Rattle.pv_names.specs.Entries.{block_of}
use Rattle.pv_program.proofs.argument.argument_for.Given as goal

abbrev pub invariant-loop-arg : goal.invariant-loop-arg
invariant-loop-arg l =
    find (is_for (how_tree l.how) (block_of l.callee) l.name.key) (map arg_tree (drop l.arg-index l.arg-items))
    ≡ find (is_for (how_tree l.how) (block_of l.callee) l.name.key) (map arg_tree l.arg-items)
