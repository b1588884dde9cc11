use Rattle.std.proofs.Common.{◌≡◌, ◌+◌, ◌++◌, length, map}
use Rattle.std.specs.List.{AllByRecursion}
use Rattle.pv_log.specs.LineText.{line_text, HasText}
use Rattle.pv_claims.specs.Lines.{text_of_lines}
use Rattle.pv_cert.proofs.logs.log_lines.Given as goal

-- the lines so far are read
abbrev pub invariant-loop-left : goal.invariant-loop-left
invariant-loop-left l = record {
  split : l.text ≡ text_of_lines (map line_text l.log) ++ l.rest;
  fit : AllByRecursion HasText l.log;
  sum : length l.log + l.left ≡ l.count;
}

abbrev pub decreases-loop-left : goal.decreases-loop-left
decreases-loop-left l = l.left
