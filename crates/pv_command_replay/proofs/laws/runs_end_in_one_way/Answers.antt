use Rattle.pv_mean.specs.Runs.{start, run}
use Rattle.pv_command_replay.proofs.Ending.{run_ends}
use Rattle.pv_command_replay.proofs.OneEnd.{one_end}
use Rattle.pv_command_replay.proofs.laws.runs_end_in_one_way.Goals as goal

pub returns : goal.returns
returns c = λ source p params inputs. record {
  some = (_, run_ends source p (start source params) inputs);
  one = λ end other. one_end source p (run source params inputs) end other;
}
