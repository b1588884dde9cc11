use Rattle.pv_mean.proofs.Images.{within-start, within-scan, within-next}
use Rattle.pv_mean.proofs.laws.scans_keep_the_ranges.Goals as goal

pub returns-clause-start : goal.returns-clause-start
returns-clause-start c = λ source params starts is. within-start source.cells params starts is

pub returns-clause-end : goal.returns-clause-end
returns-clause-end c = within-scan

pub returns-clause-image : goal.returns-clause-image
returns-clause-image c = within-next
