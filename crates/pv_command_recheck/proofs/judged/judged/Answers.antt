use Rattle.std.proofs.Common.{sym, ◌∙◌}
use Rattle.pv_command_verdict.proofs.ForCallers.{passed}
use Rattle.pv_command_verdict.specs.Cases.{case_in}
use Rattle.pv_command_recheck.specs.Made.{stop_by}
use Rattle.pv_command_recheck.proofs.Judging.{many_edges, few_edges, stops_at_edges, stops_by, stop_never_six}
use Rattle.pv_command_recheck.proofs.judged.judged.Goals as goal

pub returns-clause-found : goal.returns-clause-found
returns-clause-found c = λ told case_file s reads is.
    let j = c.in_ok-verdict.ensures told case_file s reads is in
    record {
      few = few_edges c.args.first.now s is (sym c.has_too_many_edges.ensures ∙ c.if-has_too_many_edges.false);
      is_right = j.0;
      is = j.1;
    }

pub returns-then-has_too_many_edges-clause-stopped : goal.returns-then-has_too_many_edges-clause-stopped
returns-then-has_too_many_edges-clause-stopped c = λ told case_file file s reads is held.
    stops_at_edges told file s c.args.certificate.now
    (many_edges c.args.first.now s is (sym c.has_too_many_edges.ensures ∙ c.if-has_too_many_edges.true)) held

pub returns-in_err-verdict-clause-stopped : goal.returns-in_err-verdict-clause-stopped
returns-in_err-verdict-clause-stopped c = λ told case_file file s reads is held.
    passed _ c.from_residual.result (stop_by c.in_err-verdict.field-0.0) c.from_residual.ensures.1
    (stops_by told file s c.args.certificate.now c.in_err-verdict.field-0.0
    (few_edges c.args.first.now s is (sym c.has_too_many_edges.ensures ∙ c.if-has_too_many_edges.false)) held
    (c.certificates_have_one_answer.ensures.some (case_in s) held.bytes c.args.certificate.now held.are)
    (c.in_err-verdict.ensures told case_file s reads is))

pub returns-in_err-verdict-clause-unread : goal.returns-in_err-verdict-clause-unread
returns-in_err-verdict-clause-unread c =
    passed _ c.from_residual.result (stop_by c.in_err-verdict.field-0.0) c.from_residual.ensures.1
    (stop_never_six c.in_err-verdict.field-0.0)
