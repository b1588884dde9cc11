use Rattle.pv_top.proofs.Again.{kept_again, written_again}
use Rattle.pv_top.proofs.laws.what_check_wrote_is_rechecked.Goals as goal

pub returns-clause-kept : goal.returns-clause-kept
returns-clause-kept g c first second files later case_file file promised words told verdict promised_too words_too told_too held same =
    kept_again g.S.Sink.call g.T.Sink.call first second files case_file file promised words told verdict promised_too words_too
    (record { by_files = c.what_is_read_stays.ensures.alike; by_write = c.what_is_read_stays.ensures.written }) later told_too held same

pub returns-clause-written : goal.returns-clause-written
returns-clause-written g c first second files case_file file promised words told verdict promised_too words_too told_too named other =
    written_again g.S.Sink.call g.T.Sink.call first second files case_file file promised words told verdict promised_too words_too
    (record { by_files = c.what_is_read_stays.ensures.alike; by_write = c.what_is_read_stays.ensures.written })
    (c.files_decide_one_check.ensures files case_file) told_too named other
