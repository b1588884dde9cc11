use Rattle.std.proofs.Common.{◌≡◌, ℕ, List, map, take}
use Rattle.pv_tree.specs.View.{arg_tree}
use Rattle.pv_names.specs.Entries.{block_of}
use Rattle.pv_names.specs.Callees.{how_tree}
use Rattle.pv_rules_code.specs.AtGiven.{is_in, is_given}
use Rattle.pv_rules_code.proofs.given.given.Given as goal

abbrev pub invariant-loop-arg : goal.invariant-loop-arg
invariant-loop-arg l = (key : List ℕ) → is_in l.names key
    ≡ is_given (how_tree l.how) (block_of l.entry) (map arg_tree (take l.arg-index l.args)) key
