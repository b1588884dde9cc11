use Rattle.std.proofs.lemmas.Bool.{false≢true}
use Rattle.pv_program.proofs.action.loaded.Goals as goal

pub returns-in_err-v-clause-fits : goal.returns-in_err-v-clause-fits
returns-in_err-v-clause-fits c = λ h. absurd (false≢true (c.in_err-v.ensures.fits h))
