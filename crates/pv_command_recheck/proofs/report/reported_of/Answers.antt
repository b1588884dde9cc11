use Rattle.pv_command_verdict.specs.Verdicts.{source_lines}
use Rattle.pv_command_verdict.proofs.ForCallers.{no_place}
use Rattle.pv_command_recheck.proofs.report.reported_of.Goals as goal

pub report_of-report-requires : goal.report_of-report-requires
report_of-report-requires c =
    no_place (source_lines c.args.subject.now.sources.items) c.reported-verdict.result c.args.evidence.certificate c.args.evidence.ending
    c.reported-verdict.ensures c.requires
