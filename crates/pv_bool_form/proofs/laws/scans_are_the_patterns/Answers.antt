use Rattle.pv_bool_form.proofs.FirstLaws.{scan_is_patterns, pattern_starts, patterns_name_bits}
use Rattle.pv_bool_form.proofs.laws.scans_are_the_patterns.Goals as goal

pub returns-clause-scan : goal.returns-clause-scan
returns-clause-scan c = scan_is_patterns

pub returns-clause-start : goal.returns-clause-start
returns-clause-start c = pattern_starts

pub returns-clause-names : goal.returns-clause-names
returns-clause-names c = patterns_name_bits
