use Rattle.pv_laws_lower.proofs.StayingRuns.{statements-stay, instructions-stay, calls-stay}
use Rattle.pv_laws_lower.proofs.laws.values_stay_in_runs.Goals as goal

pub returns : goal.returns
returns c = record {
  statements = λ source n act ss frame j is. statements-stay j source n act ss frame is;
  instructions = λ source n act xs frame j is. instructions-stay j source n act xs frame is;
  calls = λ source n act site frame j is. calls-stay j source n act site frame is;
}
