use Rattle.pv_resolve.proofs.Applying.{one_applies}
use Rattle.pv_resolve.proofs.function.one.Goals as goal

pub returns : goal.returns
returns c = one_applies c.args.op c.args.ty c.args.numbers.now c.requires
