use Rattle.pv_flow.proofs.ClosedWalks.{closed_walk_turns}
use Rattle.pv_flow.proofs.laws.closed_walks_take_turns.Goals as goal

pub returns : goal.returns
returns c = λ p l hop hops f w walk. closed_walk_turns p f w l hop hops walk
