use Rattle.std.proofs.Common.{length}
use Rattle.pv_rules_decl.proofs.least.+least_of.Given as goal

abbrev pub decreases-least_of : goal.decreases-least_of
decreases-least_of l = length l.found.now
