use Rattle.std.proofs.Common.{◌≡◌, ◌+◌, ◌≤◌, drop}
use Rattle.pv_stl_run.specs.Going.{ranges_in}
use Rattle.pv_program.proofs.instr.count_ranges.Given as goal

abbrev pub invariant-loop-code : goal.invariant-loop-code
invariant-loop-code l = record {
  few : l.count ≤ l.code-index;
  left : l.count + ranges_in (drop l.code-index l.made) ≡ ranges_in l.made;
}
