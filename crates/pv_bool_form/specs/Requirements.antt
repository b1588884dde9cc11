-- Requirements as the code has them, as patterns.
use Rattle.pv_tree.specs.View.{expr_tree}
use Rattle.pv_pattern.specs.Patterns.{Pattern, invariant, forbidden, implication, within, between, reach}
use Rattle.pv_bool_form.specs.declared.requirement.Requirement.{Requirement}
use Rattle.pv_bool_form.specs.declared.requirement.Requirement.TheVariants as of

abbrev pub pattern_tree : Requirement → Pattern
pattern_tree (of.Invariant a) = invariant (expr_tree a.now)
pattern_tree (of.Forbidden a) = forbidden (expr_tree a.now)
pattern_tree (of.Implication a b) = implication (expr_tree a.now) (expr_tree b.now)
pattern_tree (of.Within a b) = within (expr_tree a.now) (expr_tree b.now)
pattern_tree (of.Between a b c) = between (expr_tree a.now) (expr_tree b.now) (expr_tree c.now)
pattern_tree (of.Reach a) = reach (expr_tree a.now)
