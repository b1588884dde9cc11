use Rattle.pv_contracts_commands.proofs.Excluding.{no_words}
use Rattle.pv_contracts_commands.proofs.laws.no_words_are_refused.Goals as goal

pub returns : goal.returns
returns g c = no_words g.S.Sink.call
