use Rattle.pv_variables.proofs.Listing.{one_behind}
use Rattle.pv_variables.proofs.list.push.Goals as goal

pub returns : goal.returns
returns c = one_behind c.args.vars.now.items c.push.new.self.items _ c.in_ok-push.ensures.items
