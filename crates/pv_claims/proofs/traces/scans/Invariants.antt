use Rattle.std.proofs.Common.{◌≡◌, ◌+◌, ◌++◌, length, map}
use Rattle.std.specs.List.{AllByRecursion}
use Rattle.pv_claims.specs.Lines.{text_of_lines}
use Rattle.pv_claims.specs.TracePart.{AllFit, scan_line}
use Rattle.pv_claims.proofs.traces.scans.Given as goal

-- the scans so far are read
abbrev pub invariant-loop-left : goal.invariant-loop-left
invariant-loop-left l = record {
  split : l.text ≡ text_of_lines (map scan_line l.scans) ++ l.rest;
  fit : AllByRecursion AllFit l.scans;
  sum : length l.scans + l.left ≡ l.count;
}

abbrev pub decreases-loop-left : goal.decreases-loop-left
decreases-loop-left l = l.left
