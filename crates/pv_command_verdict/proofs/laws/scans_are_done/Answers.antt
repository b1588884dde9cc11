use Rattle.pv_bool_load.specs.Handed.{source_in}
use Rattle.pv_command_verdict.proofs.Starts.{subject_starts}
use Rattle.pv_command_verdict.proofs.Done as done
use Rattle.pv_command_verdict.proofs.laws.scans_are_done.Goals as goal

pub returns-clause-scans : goal.returns-clause-scans
returns-clause-scans c = λ told file s reads.
    done.scans_are_done (source_in s) s.pattern (c.subjects_are_their_programs.ensures told file s reads).machines
    (subject_starts told file s reads.reads)

pub returns-clause-verdicts : goal.returns-clause-verdicts
returns-clause-verdicts c = λ told file s certificate ending reads says.
    done.claims (source_in s) s.pattern s.given.case.limits certificate ending certificate.claim
    (done.scans_are_done (source_in s) s.pattern (c.subjects_are_their_programs.ensures told file s reads).machines
    (subject_starts told file s reads.reads)) says
