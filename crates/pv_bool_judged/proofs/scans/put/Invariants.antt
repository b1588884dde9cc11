use Rattle.pv_bool.specs.Machine.{bits_of}
use Rattle.pv_bool_judged.proofs.Placed.{IsPut}
use Rattle.pv_bool_judged.proofs.scans.put.Given as goal

abbrev pub invariant-loop-n : goal.invariant-loop-n
invariant-loop-n l = IsPut l.kept l.bits (bits_of l.values) l.fn.frame l.n l.next l.frame
