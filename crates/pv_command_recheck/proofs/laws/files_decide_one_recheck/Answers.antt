use Rattle.pv_command_recheck.proofs.OneRecheck.{decide_one_recheck}
use Rattle.pv_command_recheck.proofs.laws.files_decide_one_recheck.Goals as goal

pub returns : goal.returns
returns c = λ files case_file file.
    decide_one_recheck files case_file file (record {
      first = c.files_decide_one_first.ensures files case_file;
      text = c.text_determines_certificate.ensures;
      answer = c.certificates_have_one_answer.ensures.one;
    })
