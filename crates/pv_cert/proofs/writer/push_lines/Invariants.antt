use Rattle.std.proofs.Common.{◌≡◌, ◌++◌, take, map}
use Rattle.std.specs.List.{AllByRecursion}
use Rattle.pv_log.specs.LineText.{line_text, HasText}
use Rattle.pv_claims.specs.Lines.{text_of_lines}
use Rattle.pv_cert.proofs.writer.push_lines.Given as goal

-- the lines so far are written, and have a text
abbrev pub invariant-loop-line : goal.invariant-loop-line
invariant-loop-line l = record {
  text : l.text.items ≡ l.initial.text.items ++ text_of_lines (map line_text (take l.line-index l.lines));
  valid : AllByRecursion HasText (take l.line-index l.lines);
}
