use Rattle.std.proofs.Common.{◌≡◌, length}
use Rattle.pv_bool.specs.Programs.{program_tree}
use Rattle.pv_bool.specs.Scans.{state_of}
use Rattle.pv_bool_judged.proofs.Scanned.{GoesOn}
use Rattle.pv_bool_judged.proofs.scans.go_on.Given as goal

-- the scans so far are good, and the frame has the state that they leave
abbrev pub invariant-loop-n : goal.invariant-loop-n
invariant-loop-n l = record {
  left : GoesOn (program_tree l.program) (state_of l.program.bits.items l.fn.frame) l.inputs l.n (state_of l.program.bits.items l.frame);
  long : length l.frame ≡ length l.fn.frame;
}
