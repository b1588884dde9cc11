use Rattle.pv_laws_scans.proofs.Images.{kept_place, param_place}
use Rattle.pv_laws_scans.proofs.laws.scans_leave_what_is_kept.Goals as goal

pub returns-clause-kept : goal.returns-clause-kept
returns-clause-kept c = kept_place

pub returns-clause-param : goal.returns-clause-param
returns-clause-param c = param_place
