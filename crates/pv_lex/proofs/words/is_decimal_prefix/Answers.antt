use Rattle.pv_lex.specs.Shapes.{is_one_of, decimal_prefixes}
use Rattle.pv_lex.proofs.words.is_decimal_prefix.Goals as goal

pub returns : goal.returns
unfolding is_one_of decimal_prefixes
returns c = c.is_among.ensures
