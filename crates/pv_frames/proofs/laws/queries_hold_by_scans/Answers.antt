use Rattle.pv_frames.proofs.RunsHold.{holds-scans, scans-hold}
use Rattle.pv_frames.proofs.laws.queries_hold_by_scans.Goals as goal

pub returns : goal.returns
returns c = λ circuit start q values is. (holds-scans circuit start q values is, scans-hold circuit start q values is)
