use Rattle.pv_stl_run.proofs.NumberLaws.{short_word}
use Rattle.pv_stl_run.proofs.numbers.put.Goals as goal

pub of_words-requires-clause-lower : goal.of_words-requires-clause-lower
of_words-requires-clause-lower c = short_word _ _ c.pattern-in-Low.ensures.value
