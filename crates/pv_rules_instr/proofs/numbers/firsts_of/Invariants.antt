use Rattle.std.proofs.Common.{◌≡◌, ◌++◌, drop}
use Rattle.pv_rules_instr.specs.AtRanges.{firsts_from}
use Rattle.pv_rules_instr.proofs.numbers.firsts_of.Given as goal

abbrev pub invariant-loop-jump : goal.invariant-loop-jump
invariant-loop-jump l = l.firsts.items ++ firsts_from l.lasts l.jump (drop l.jump l.goals) ≡ firsts_from l.lasts 0 l.goals
