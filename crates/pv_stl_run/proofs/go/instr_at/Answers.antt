use Rattle.pv_stl_run.proofs.TurnLaws.{got_at}
use Rattle.pv_stl_run.proofs.go.instr_at.Goals as goal

pub returns : goal.returns
returns c = got_at c.args.code.now c.args.at c.get.result c.get.ensures.lookup
