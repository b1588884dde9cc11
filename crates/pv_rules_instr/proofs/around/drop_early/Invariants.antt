use Rattle.std.proofs.Common.{◌≡◌, length, reverse}
use Rattle.pv_rules_instr.specs.Stacks.{without_early}
use Rattle.pv_rules_instr.proofs.around.drop_early.Given as goal

abbrev pub invariant-loop-met : goal.invariant-loop-met
invariant-loop-met l = without_early l.lasts l.n (reverse l.met.items) ≡ without_early l.lasts l.n (reverse l.fn.met.items)

abbrev pub decreases-loop-met : goal.decreases-loop-met
decreases-loop-met l = length l.met.items
