use Rattle.std.proofs.Common.{◌≡◌, ◌++◌, map, drop}
use Rattle.pv_types.specs.View.{var_tree}
use Rattle.pv_types.proofs.Words.{word_in}
use Rattle.pv_types.proofs.var.push_each.Given as goal

abbrev pub invariant-loop-word : goal.invariant-loop-word
invariant-loop-word l =
    map var_tree l.vars.items ++ map (word_in l.of) (drop l.word-index l.word-items)
    ≡ map var_tree l.fn.vars.items ++ map (word_in l.of) l.word-items
