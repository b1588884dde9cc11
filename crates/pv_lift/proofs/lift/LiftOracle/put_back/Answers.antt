use Rattle.pv_lift.proofs.Kept.{nothing_back}
use Rattle.pv_lift.proofs.lift.LiftOracle.put_back.Goals as goal

pub returns-clause-ok : goal.returns-clause-ok
returns-clause-ok g c = nothing_back c.args.self.now.chain c.args.cells.now c.args.self.now.plain
