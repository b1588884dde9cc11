use Rattle.pv_mean.proofs.InstructionLaws.{sum-step, low-word, in-range-if, fits-if}
use Rattle.pv_mean.proofs.instruction_laws.sums_of_words_are_wrapped.Goals as goal

pub returns-clause-step : goal.returns-clause-step
returns-clause-step c = sum-step

pub returns-clause-low_word : goal.returns-clause-low_word
returns-clause-low_word c = low-word

pub returns-clause-in_range : goal.returns-clause-in_range
returns-clause-in_range c = in-range-if

pub returns-clause-fits : goal.returns-clause-fits
returns-clause-fits c = fits-if
