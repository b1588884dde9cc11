use Rattle.std.proofs.Common.{arith}
use Rattle.pv_terms.proofs.Pushing.{puts_one}
use Rattle.pv_terms.proofs.table.push.Goals as goal

pub returns : goal.returns
returns c = λ table has.
    puts_one c.args.nodes.now.items c.push.new.self.items c.args.node c.in-Ok.n c.in_ok-push.ensures.items (omega arith) table has
