use Rattle.std.proofs.Common.{◌∙◌, sym}
use Rattle.pv_tree.specs.View.{expr_tree}
use Rattle.pv_bool_case.proofs.Readings.{two_implication, two_others, no_invariant, no_forbidden, no_within, no_between, no_reach}
use Rattle.pv_bool_case.proofs.program.of_two.Goals as goal

pub returns-in-Implication : goal.returns-in-Implication
returns-in-Implication c = λ p k e. two_implication p (expr_tree c.args.a.now) (expr_tree c.args.b.now) (k ∙ c.in-Implication.is) e

pub returns-in-Invariant : goal.returns-in-Invariant
returns-in-Invariant c = λ p k e.
    two_others p (expr_tree c.args.a.now) (expr_tree c.args.b.now) (λ i. absurd (no_invariant (sym i ∙ k ∙ c.in-Invariant.is))) e

pub returns-in-Forbidden : goal.returns-in-Forbidden
returns-in-Forbidden c = λ p k e.
    two_others p (expr_tree c.args.a.now) (expr_tree c.args.b.now) (λ i. absurd (no_forbidden (sym i ∙ k ∙ c.in-Forbidden.is))) e

pub returns-in-Within : goal.returns-in-Within
returns-in-Within c = λ p k e.
    two_others p (expr_tree c.args.a.now) (expr_tree c.args.b.now) (λ i. absurd (no_within (sym i ∙ k ∙ c.in-Within.is))) e

pub returns-in-Between : goal.returns-in-Between
returns-in-Between c = λ p k e.
    two_others p (expr_tree c.args.a.now) (expr_tree c.args.b.now) (λ i. absurd (no_between (sym i ∙ k ∙ c.in-Between.is))) e

pub returns-in-Reach : goal.returns-in-Reach
returns-in-Reach c = λ p k e.
    two_others p (expr_tree c.args.a.now) (expr_tree c.args.b.now) (λ i. absurd (no_reach (sym i ∙ k ∙ c.in-Reach.is))) e
