use Rattle.pv_top.proofs.WordsLemmas.{none_of_both}
use Rattle.pv_top.proofs.words.read_words.Goals as goal

pub returns-in-None-clause-none : goal.returns-in-None-clause-none
returns-in-None-clause-none c = none_of_both _ c.read_two.result c.read_two.ensures.none c.in-None.ensures.none
