use Rattle.std.proofs.Common.{arith}
use Rattle.pv_pattern.specs.Sources.{machine_of}
use Rattle.pv_laws_scans.proofs.Stepping.{failing_scan}
use Rattle.pv_laws_scans.proofs.run_laws.no_failing_scan_is_satisfied.Goals as goal

pub returns-clause-scans : goal.returns-clause-scans
returns-clause-scans c = λ source p starts binds none. (c.no_base_is_satisfied.ensures source p).0
    (c.k_induction.ensures (machine_of source p) 0 (c.sources_are_lawful.ensures source p starts binds)
    (λ j one most met. absurd (omega arith))
    (λ met. let f = failing_scan source p met in f.5 (none f.0 f.1 f.2 f.3 f.4)))

pub returns-clause-satisfied : goal.returns-clause-satisfied
returns-clause-satisfied c = λ source p starts binds never. (c.no_base_is_satisfied.ensures source p).0
    (c.k_induction.ensures (machine_of source p) 0 (c.sources_are_lawful.ensures source p starts binds)
    (λ j one most met. absurd (omega arith)) never)

pub returns-clause-step : goal.returns-clause-step
returns-clause-step c = failing_scan
