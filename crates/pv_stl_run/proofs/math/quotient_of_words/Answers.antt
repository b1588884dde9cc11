use Rattle.pv_stl_run.proofs.NumberLaws.{short_word}
use Rattle.pv_stl_run.proofs.math.quotient_of_words.Goals as goal

pub of_words-requires-clause-high : goal.of_words-requires-clause-high
of_words-requires-clause-high c = short_word _ _ c.pattern.ensures.value

pub of_words-requires-clause-lower : goal.of_words-requires-clause-lower
of_words-requires-clause-lower c = short_word _ _ c.pattern-2.ensures.value
