use Rattle.pv_lex.specs.Shapes.{is_one_of, hex_prefixes}
use Rattle.pv_lex.proofs.words.is_hex_prefix.Goals as goal

pub returns : goal.returns
unfolding is_one_of hex_prefixes
returns c = c.is_among.ensures
