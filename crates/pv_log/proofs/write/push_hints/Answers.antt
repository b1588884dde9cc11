use Rattle.pv_log.proofs.Spelled.{all-small}
use Rattle.pv_log.proofs.write.push_hints.Goals as goal

pub returns-clause-fits : goal.returns-clause-fits
returns-clause-fits c = all-small c.args.hints.now (λ i. (c.type_inv.hints i).fits)
