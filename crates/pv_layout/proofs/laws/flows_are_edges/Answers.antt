use Rattle.pv_layout.proofs.FlowRuns.{flow_acts}
use Rattle.pv_layout.proofs.laws.flows_are_edges.Goals as goal

pub returns : goal.returns
returns c = λ s text f a i j to counts w some is fresh. flow_acts s text some f a i j to counts w is fresh
