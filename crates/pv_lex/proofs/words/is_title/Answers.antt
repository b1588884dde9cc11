use Rattle.pv_lex.specs.Shapes.{is_one_of}
use Rattle.pv_lex.specs.Tokens.{title_words}
use Rattle.pv_lex.proofs.words.is_title.Goals as goal

pub returns : goal.returns
unfolding is_one_of title_words
returns c = c.is_among.ensures
