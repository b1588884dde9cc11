use Rattle.std.proofs.Common.{◌≡◌, map, take, drop}
use Rattle.pv_tree.specs.Rules.Arguments.{words_of_args}
use Rattle.pv_tree.specs.View.{arg_tree}
use Rattle.pv_rules_code.specs.AtGiven.{HasMet, keys_of, later_from, later_word}
use Rattle.pv_rules_code.proofs.given.later_word.Given as goal

abbrev pub invariant-loop-arg : goal.invariant-loop-arg
invariant-loop-arg l = record {
  met : HasMet l.names (words_of_args (map arg_tree (take l.arg-index l.args)));
  left : later_from (keys_of (words_of_args (map arg_tree (take l.arg-index l.args)))) (words_of_args (map arg_tree (drop l.arg-index l.args))) l.best
      ≡ later_word (map arg_tree l.args);
}
