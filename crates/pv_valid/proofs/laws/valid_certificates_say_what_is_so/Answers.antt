use Rattle.pv_valid.proofs.Sound.{is-so}
use Rattle.pv_valid.proofs.laws.valid_certificates_say_what_is_so.Goals as goal

pub returns : goal.returns
returns c = is-so
