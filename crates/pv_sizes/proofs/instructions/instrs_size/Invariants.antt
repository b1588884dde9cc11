use Rattle.std.proofs.Common.{◌≡◌, ◌+◌, map, drop}
use Rattle.pv_tree.specs.View.{instr_tree}
use Rattle.pv_names.specs.InScope.{scope_of}
use Rattle.pv_sizes.specs.Counts.{capped}
use Rattle.pv_sizes.specs.Sizes.{sum_of_instrs}
use Rattle.pv_sizes.proofs.instructions.instrs_size.Given as goal

abbrev pub invariant-loop-instr : goal.invariant-loop-instr
invariant-loop-instr l = record {
  within : capped l.total ≡ l.total;
  total : capped (l.total + sum_of_instrs (scope_of l.scope) (map instr_tree (drop l.instr-index l.list)))
      ≡ capped (sum_of_instrs (scope_of l.scope) (map instr_tree l.list));
}
