use Rattle.pv_laws_types.proofs.Assigned.{reads_lie, part_value_lies}
use Rattle.pv_laws_types.proofs.Entered.{pattern_lies}
use Rattle.pv_laws_types.proofs.laws.values_lie_in_their_types.Goals as goal

pub returns-clause-part : goal.returns-clause-part
returns-clause-part c = λ source act frame p ty v t d is e.
    part_value_lies c.tables_are_laid_out.ensures.visible source (c.expressions_have_types.ensures source.project t.rules)
    (c.literal_indexes_lie_in_bounds.ensures source.project t.rules) act frame t p d ty v is e

pub returns-clause-operand : goal.returns-clause-operand
returns-clause-operand c = λ source act frame want o ty v t is e.
    reads_lie c.tables_are_laid_out.ensures.visible source act frame t want o ty v is e

pub returns-clause-pattern : goal.returns-clause-pattern
returns-clause-pattern c = pattern_lies c.tables_are_laid_out.ensures.visible
