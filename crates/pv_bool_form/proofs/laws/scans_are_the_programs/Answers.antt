use Rattle.pv_bool_form.proofs.FirstLaws.{scan_is_programs, start_is_programs, names_are_bits}
use Rattle.pv_bool_form.proofs.laws.scans_are_the_programs.Goals as goal

pub returns-clause-scan : goal.returns-clause-scan
returns-clause-scan c = scan_is_programs

pub returns-clause-start : goal.returns-clause-start
returns-clause-start c = start_is_programs

pub returns-clause-names : goal.returns-clause-names
returns-clause-names c = names_are_bits
