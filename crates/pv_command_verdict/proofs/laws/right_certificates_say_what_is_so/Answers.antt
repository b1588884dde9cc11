use Rattle.pv_command_verdict.proofs.OfFiles.{verdict_of_right}
use Rattle.pv_command_verdict.proofs.laws.right_certificates_say_what_is_so.Goals as goal

pub returns : goal.returns
returns c = λ told file s bytes certificate reads text right. verdict_of_right
    (record {
      early = c.no_run_fails_early.ensures;
      satisfied = c.no_base_is_satisfied.ensures;
    })
    told file s bytes certificate reads (c.subjects_are_their_programs.ensures told file s reads) text right
