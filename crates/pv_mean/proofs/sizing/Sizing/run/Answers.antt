use Rattle.pv_mean.proofs.Searches.{searched}
use Rattle.pv_mean.proofs.sizing.Sizing.run.Goals as goal

pub returns : goal.returns
returns c = searched c.loop-sizing.sizing c.step.new.self c.in_ok-step.field-0 c.args.self.types c.in_ok-step.ensures c.if-branch.false
    c.loop-sizing.invariant.types
