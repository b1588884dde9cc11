use Rattle.std.proofs.Common.{sym}
use Rattle.pv_judge.proofs.Costs.{uneven}
use Rattle.pv_judge.proofs.values.are_between.Goals as goal

pub returns-then-ranges-values : goal.returns-then-ranges-values
returns-then-ranges-values c = sym (uneven c.args.ranges.now c.args.values.now c.if-ranges-values.true)
