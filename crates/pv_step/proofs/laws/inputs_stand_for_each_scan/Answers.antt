use Rattle.pv_step.proofs.ScanLaws.{stand_for}
use Rattle.pv_step.proofs.laws.inputs_stand_for_each_scan.Goals as goal

pub returns : goal.returns
returns c = λ program state input is s i. stand_for program state input s i
