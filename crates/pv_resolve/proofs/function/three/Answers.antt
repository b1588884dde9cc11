use Rattle.pv_resolve.proofs.Applying.{three_applies}
use Rattle.pv_resolve.proofs.function.three.Goals as goal

pub returns : goal.returns
returns c = three_applies c.args.op c.args.numbers.now c.requires
