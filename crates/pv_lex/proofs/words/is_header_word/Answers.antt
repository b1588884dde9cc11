use Rattle.pv_lex.specs.Shapes.{is_one_of}
use Rattle.pv_lex.specs.Tokens.{header_words}
use Rattle.pv_lex.proofs.words.is_header_word.Goals as goal

pub returns : goal.returns
unfolding is_one_of header_words
returns c = c.is_among.ensures
