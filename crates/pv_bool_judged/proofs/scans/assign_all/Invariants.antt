use Rattle.std.proofs.Common.{◌≡◌, length, map, drop}
use Rattle.pv_bool.specs.Tree.{assignment_tree}
use Rattle.pv_bool.specs.Scans.{run_body}
use Rattle.pv_bool_judged.proofs.scans.assign_all.Given as goal

-- the assignments from here on lead to the frame that all of them lead to
abbrev pub invariant-loop-assignment : goal.invariant-loop-assignment
invariant-loop-assignment l = record {
  same : run_body (map assignment_tree (drop l.assignment-index l.body)) l.frame ≡ run_body (map assignment_tree l.body) l.fn.frame;
  long : length l.frame ≡ length l.fn.frame;
}
