use Rattle.pv_lower.proofs.Typing.{no_second}
use Rattle.pv_lower.proofs.types.count_of.Goals as goal

pub returns-in-None : goal.returns-in-None
returns-in-None c = no_second c.args.args.now c.in-None.ensures.lookup.0
