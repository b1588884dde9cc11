use Rattle.std.proofs.Common.{◌≡◌, map, drop}
use Rattle.std.specs.List.{position_from}
use Rattle.pv_tree.specs.View.{block_tree}
use Rattle.pv_case_fit.specs.Entries.{may_enter, number_of_entry}
use Rattle.pv_case_fit.proofs.entry.number_of.Given as goal

abbrev pub invariant-loop-n : goal.invariant-loop-n
invariant-loop-n l = number_of_entry (map block_tree l.blocks) l.name.key ≡ position_from (may_enter l.name.key) l.n (map block_tree (drop l.n l.blocks))
