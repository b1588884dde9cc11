use Rattle.std.proofs.Common.{◌≡◌, ◌++◌, map, drop}
use Rattle.pv_tree.specs.View.{operand_tree}
use Rattle.pv_pattern_read.specs.Naming.{addresses_of}
use Rattle.pv_pattern_read.proofs.named.push_addresses.Given as goal

abbrev pub invariant-loop-operand : goal.invariant-loop-operand
invariant-loop-operand l =
    map operand_tree l.named.items ++ addresses_of (map (λ o. operand_tree o.now) (drop l.operand-index l.operand-items))
    ≡ map operand_tree l.fn.named.items ++ addresses_of (map (λ o. operand_tree o.now) l.operand-items)
