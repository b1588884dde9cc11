use Rattle.pv_tree.proofs.ToldCalls.{calls_run}
use Rattle.pv_tree.proofs.rule_laws.calls_run_blocks.Goals as goal

pub returns : goal.returns
returns c = calls_run
