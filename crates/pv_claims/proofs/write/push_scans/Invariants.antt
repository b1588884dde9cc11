use Rattle.std.proofs.Common.{◌≡◌, ◌++◌, take, map}
use Rattle.std.specs.List.{AllByRecursion}
use Rattle.pv_claims.specs.Lines.{text_of_lines}
use Rattle.pv_claims.specs.TracePart.{AllFit, scan_line}
use Rattle.pv_claims.proofs.write.push_scans.Given as goal

-- the scans so far are written, and have values of 128 bits
abbrev pub invariant-loop-values : goal.invariant-loop-values
invariant-loop-values l = record {
  text : l.text.items ≡ l.initial.text.items ++ text_of_lines (map scan_line (take l.values-index l.scans));
  fits : AllByRecursion AllFit (take l.values-index l.scans);
}
