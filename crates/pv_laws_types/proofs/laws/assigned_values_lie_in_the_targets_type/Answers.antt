use Rattle.pv_laws_types.proofs.Assigned.{assigned_lies}
use Rattle.pv_laws_types.proofs.laws.assigned_values_lie_in_the_targets_type.Goals as goal

pub returns : goal.returns
returns c = λ source act frame target place e statement v spot t d is has at_spot.
    assigned_lies c.tables_are_laid_out.ensures.visible source (c.expressions_have_types.ensures source.project t.rules)
    (c.literal_indexes_lie_in_bounds.ensures source.project t.rules) act frame t target place e statement d is v spot has at_spot
