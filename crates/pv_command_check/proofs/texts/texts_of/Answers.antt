use Rattle.std.proofs.Common.{◌≡◌, ap, ◌∙◌}
use Rattle.pv_command_verdict.specs.Verdicts.{source_lines, verdict_text}
use Rattle.pv_command_verdict.proofs.ForCallers.{no_place}
use Rattle.pv_command_check.proofs.Deciding.{joined_as}
use Rattle.pv_command_check.proofs.texts.texts_of.Goals as goal

pub report_of-report-requires : goal.report_of-report-requires
report_of-report-requires c =
    no_place (source_lines c.args.subject.now.sources.items) c.reported-verdict.result c.args.evidence.certificate c.args.evidence.ending
    c.reported-verdict.ensures c.requires.ending

pub returns-clause-report : goal.returns-clause-report
returns-clause-report c = λ s is.
    joined_as _ (λ r text. r.report ≡ text) (λ text. text.items ≡ verdict_text s c.args.evidence.certificate c.args.evidence.ending)
    c.joined.result c.report_of-report.result (λ r text same made. ap (λ t. t.items) same ∙ made) c.joined.ensures.report
    (c.report_of-report.ensures s c.args.evidence.certificate c.args.evidence.ending is c.reported-verdict.ensures)
