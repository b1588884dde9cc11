use Rattle.std.proofs.Common.{◌∙◌}
use Rattle.pv_tree.specs.View.{expr_tree}
use Rattle.pv_bool_case.proofs.Readings.{one_invariant, one_forbidden, one_reach, no_one_implication, no_one_within, no_one_between}
use Rattle.pv_bool_case.proofs.program.of_one.Goals as goal

pub returns-in-Invariant : goal.returns-in-Invariant
returns-in-Invariant c = λ p k e. one_invariant p (expr_tree c.args.a.now) (k ∙ c.in-Invariant.is) e

pub returns-in-Forbidden : goal.returns-in-Forbidden
returns-in-Forbidden c = λ p k e. one_forbidden p (expr_tree c.args.a.now) (k ∙ c.in-Forbidden.is) e

pub returns-in-Reach : goal.returns-in-Reach
returns-in-Reach c = λ p k e. one_reach p (expr_tree c.args.a.now) (k ∙ c.in-Reach.is) e

pub returns-in-Implication : goal.returns-in-Implication
returns-in-Implication c = λ p k e. absurd (no_one_implication p (expr_tree c.args.a.now) (k ∙ c.in-Implication.is) e)

pub returns-in-Within : goal.returns-in-Within
returns-in-Within c = λ p k e. absurd (no_one_within p (expr_tree c.args.a.now) (k ∙ c.in-Within.is) e)

pub returns-in-Between : goal.returns-in-Between
returns-in-Between c = λ p k e. absurd (no_one_between p (expr_tree c.args.a.now) (k ∙ c.in-Between.is) e)
