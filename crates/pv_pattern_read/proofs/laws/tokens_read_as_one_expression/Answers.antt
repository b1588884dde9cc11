use Rattle.pv_pattern_read.proofs.Readings.{one_expression}
use Rattle.pv_pattern_read.proofs.laws.tokens_read_as_one_expression.Goals as goal

pub returns : goal.returns
returns c =
    one_expression c.scl_expression-language.result c.scl_expression-language.ensures.ll1 c.scl_expression-language.ensures.grammar
    c.scl_expression-language.ensures.start
