use Rattle.std.proofs.Common.{◌≡◌, ◌++◌, map, drop}
use Rattle.std.specs.Prelude.{flat_map, option_to_list}
use Rattle.pv_tree.specs.Callees.{callee_of, block_of_callee}
use Rattle.pv_names.specs.Entries.{block_of}
use Rattle.pv_cells.specs.Calls.{made_tree}
use Rattle.pv_cells.specs.Below.{callees_in, at_numbers}
use Rattle.pv_cells.specs.Planned.{planned}
use Rattle.pv_cells.proofs.plan.Plan.callees.Given as goal

abbrev pub invariant-loop-made : goal.invariant-loop-made
invariant-loop-made l = at_numbers (planned l.self).blocks l.numbers.items ++ flat_map (λ s. option_to_list
    (block_of_callee (callee_of (record { project = planned l.self; block = block_of l.entry }) s))) (map made_tree (drop l.made-index l.made-items))
    ≡ callees_in (planned l.self) (block_of l.entry)
