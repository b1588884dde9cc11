use Rattle.pv_laws_scans.proofs.Calls.{scan_in}
use Rattle.pv_laws_scans.proofs.stop_laws.scans_stop_at_places.Goals as goal

pub returns : goal.returns
returns c = scan_in
