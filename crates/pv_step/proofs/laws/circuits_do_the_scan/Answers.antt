use Rattle.pv_step.proofs.ScanLaws.{does_the_scan, have_lengths}
use Rattle.pv_step.proofs.laws.circuits_do_the_scan.Goals as goal

pub returns-clause-scan : goal.returns-clause-scan
returns-clause-scan c = does_the_scan

pub returns-clause-lengths : goal.returns-clause-lengths
returns-clause-lengths c = have_lengths
