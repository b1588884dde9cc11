use Rattle.pv_resolve.proofs.Applying.{two_applies}
use Rattle.pv_resolve.proofs.function.two.Goals as goal

pub returns : goal.returns
returns c = two_applies c.args.op c.args.ty c.args.place c.args.numbers.now c.requires
