use Rattle.std.proofs.Common.{None}
use Rattle.pv_laws_scans.proofs.Ends.{has_end, fails_not, one_first}
use Rattle.pv_laws_scans.proofs.run_laws.scans_have_one_end.Goals as goal

pub returns-clause-some : goal.returns-clause-some
returns-clause-some c = λ source p scans. has_end source p None scans

pub returns-clause-apart : goal.returns-clause-apart
returns-clause-apart c = λ source p scans n cause none fails. fails_not source p None scans n cause none fails

pub returns-clause-one : goal.returns-clause-one
returns-clause-one c = λ source p scans n m cause other fails also. one_first source p None scans n m cause other fails also
