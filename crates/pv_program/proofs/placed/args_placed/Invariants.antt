use Rattle.std.proofs.Common.{◌≡◌, map, take}
use Rattle.pv_tree.specs.View.{arg_tree}
use Rattle.pv_mean.specs.Placed.{arg_placed}
use Rattle.pv_program.proofs.placed.args_placed.Given as goal

abbrev pub invariant-loop-arg : goal.invariant-loop-arg
invariant-loop-arg l = map arg_tree l.copies.items ≡ map (λ a. arg_placed l.at (arg_tree a)) (take l.arg-index l.arg-items)
