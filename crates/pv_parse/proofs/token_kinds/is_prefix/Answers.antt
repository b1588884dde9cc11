use Rattle.pv_lex.specs.Shapes.{is_one_of}
use Rattle.pv_tree.specs.Words.{prefixes}
use Rattle.pv_parse.proofs.token_kinds.is_prefix.Goals as goal

pub returns : goal.returns
unfolding is_one_of prefixes
returns c = c.is_among.ensures
