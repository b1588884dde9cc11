use Rattle.pv_lex.specs.Shapes.{is_one_of, time_prefixes}
use Rattle.pv_lex.proofs.words.is_time_prefix.Goals as goal

pub returns : goal.returns
unfolding is_one_of time_prefixes
returns c = c.is_among.ensures
