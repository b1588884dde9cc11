use Rattle.pv_layout.proofs.BlockRuns.{blocks_run}
use Rattle.pv_layout.proofs.laws.blocks_run.Goals as goal

pub returns : goal.returns
returns c = blocks_run
