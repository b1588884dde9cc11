use Rattle.std.proofs.Common.{List, map, ◌∙◌, ap, sym, subst}
use Rattle.std.specs.Prelude.{IfSome, string_bytes}
use Rattle.pv_report.specs.Places.{Lines, file_lines}
use Rattle.pv_report.specs.Reports.{report_text}
use Rattle.pv_report.specs.Correct.{EndsIn}
use Rattle.pv_bool_load.specs.Handed.{SourceText}
use Rattle.pv_command_verdict.specs.Verdicts.{verdict_text}
use Rattle.pv_command_verdict.proofs.Places.{lines_by}
use Rattle.pv_command_verdict.proofs.Reports.{text_is, report_is}
use Rattle.pv_command_verdict.proofs.report.report_of.Goals as goal

pub text-made-requires : goal.text-made-requires
text-made-requires c =
    let same = c.in_ok-places.ensures ∙ ap (λ (ts : List SourceText). map lines_by ts) c.as_slice.ensures.value in
    subst (λ (files : List Lines). IfSome c.args.verdict.now.ending (EndsIn files)) (sym same) c.requires

pub returns : goal.returns
returns c = λ s certificate told is said.
    let subject = c.args.subject.now in
    let cells = c.cells.result.now in
    let files = map file_lines c.in_ok-places.places.files.items in
    let verdict = c.args.verdict.now in
    let same = report_is s subject certificate told cells files verdict is c.cells.ensures
    (c.in_ok-places.ensures ∙ ap (λ (ts : List SourceText). map lines_by ts) c.as_slice.ensures.value) said in
    text_is (λ text. text.items) c.text-made.result
    (report_text (string_bytes subject.case.name) subject.case.pattern.kind subject.case.limits cells files verdict)
    (verdict_text s certificate told) same c.text-made.ensures
