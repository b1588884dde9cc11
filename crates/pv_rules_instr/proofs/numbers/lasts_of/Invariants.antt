use Rattle.std.proofs.Common.{◌≡◌, drop}
use Rattle.pv_rules_instr.specs.AtRanges.{lasts_from, lasts_of}
use Rattle.pv_rules_instr.proofs.numbers.lasts_of.Given as goal

abbrev pub invariant-loop-jump : goal.invariant-loop-jump
invariant-loop-jump l = lasts_from l.jump (drop l.jump l.goals) l.lasts.items ≡ lasts_of l.goals
