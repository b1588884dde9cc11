use Rattle.std.proofs.Common.{ap, ◌∙◌, ◌++◌, List, map}
use Rattle.std.proofs.lemmas.List.{take_all}
use Rattle.pv_log.specs.declared.line.Line.{Line}
use Rattle.pv_log.specs.LineText.{line_text}
use Rattle.pv_claims.specs.Lines.{text_of_lines}
use Rattle.pv_cert.proofs.writer.push_lines.Goals as goal

pub returns-clause-text : goal.returns-clause-text
returns-clause-text c =
    c.loop-line.invariant.text
    ∙ ap (λ (ls : List Line). c.args.text.now.items ++ text_of_lines (map line_text ls)) (take_all c.loop-line.line-index c.args.lines.now c.loop-line-test.false)
