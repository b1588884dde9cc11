use Rattle.pv_bool_case.proofs.OneBlock.{of_one_block}
use Rattle.pv_bool_case.proofs.laws.sources_are_of_one_block.Goals as goal

pub returns : goal.returns
returns c = λ project entered named view texts p turns is.
    of_one_block project entered named view texts p turns c.texts_are_one_expression.ensures is
