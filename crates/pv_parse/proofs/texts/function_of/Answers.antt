use Rattle.pv_tree.specs.Words.{function_word, type_word}
use Rattle.pv_parse.specs.TokenTexts.{function_of}
use Rattle.pv_parse.proofs.texts.function_of.Goals as goal

pub returns : goal.returns
unfolding function_of function_word type_word
returns c = c.function_among.ensures
